-- A flat state whose drives fared as an array's did: what it leaves, and which of its slots are lost.
use Rattle.std.proofs.Common.{◌≡◌, ℕ, Bool, length, refl, sym, ap, ◌∙◌, subst}
use Rattle.extents.specs.Failures.{Failures}
use Rattle.extents.proofs.Failures.{counts_same, steady_same, counts_more, steady_more}
use Rattle.extent_groups.specs.Groups.{Groups}
use Rattle.extent_groups.specs.Missing.{IsGone}
use Rattle.unit_store.specs.Views.{PartsView, IsLost, Loses, SameTables, DrivesFare, lost_of, failed_of}
use Rattle.flat_machine.specs.Flat.{Flat}
use Rattle.flat_machine.specs.Cases.{Fares, Leaves, IsGoneIn}
use Rattle.flat_machine.proofs.Keeps as flat
use Rattle.slot_tables.specs.Views.{ArrayView, with_parts, key_at}
use Rattle.slot_tables.specs.Represents.{ShowsArray}

-- the state with the drives of these parts
abbrev pub fared : Flat → PartsView → Flat
fared F v = record F { lost = lost_of v; failures = failed_of v }

-- a state is what it leaves where nothing happens
pub itself : (x : Flat) → Leaves x x
itself x = flat.itself x

-- a state whose drives are those of an array leaves itself, with the drives that the array has then
pub leaves : (x : Flat) (a b : PartsView) → x.lost ≡ lost_of a → x.failures ≡ failed_of a → DrivesFare a b → Leaves x (fared x b)
leaves x a b lost failures fares = record {
  same = refl;
  drives = λ d. subst (λ (l : ℕ → Bool). Fares (l d) (lost_of b d) (x.failures d) (failed_of b d)) (sym lost)
      (subst (λ (n : ℕ → Failures). Fares (lost_of a d) (lost_of b d) (n d) (failed_of b d)) (sym failures) (fares.each d));
}

-- which slots are lost then
pub gone_as : (F : Flat) (a v : PartsView) (s : ℕ) → F.groups ≡ a.groups → SameTables a v → IsLost v s → IsGoneIn (fared F v) s
gone_as F a v s groups same gone = subst (λ (g : Groups). IsGone g (lost_of v) s) (sym (groups ∙ sym same.groups)) gone

pub gone_back : (F : Flat) (a v : PartsView) (s : ℕ) → F.groups ≡ a.groups → SameTables a v → IsGoneIn (fared F v) s → IsLost v s
gone_back F a v s groups same gone = subst (λ (g : Groups). IsGone g (lost_of v) s) (groups ∙ sym same.groups) gone

-- which were lost before
pub gone_before : (F : Flat) (a : PartsView) (s : ℕ) → F.groups ≡ a.groups → F.lost ≡ lost_of a → IsGoneIn F s → IsLost a s
gone_before F a s groups lost gone = subst (λ (l : ℕ → Bool). IsGone a.groups l s) lost (subst (λ (g : Groups). IsGone g F.lost s) groups gone)

-- an array that lost drives represents the state with these drives
pub lost_shows : (a : ArrayView) (F : Flat) (v : PartsView) → ShowsArray a F → Loses a.parts v → ShowsArray (with_parts a v) (fared F v)
lost_shows a F v shows loses = record {
  history = flat.fared F (lost_of v) (failed_of v) (key_at a) shows.history;
  units = loses.shows F.units shows.units;
  tables = record {
    groups = shows.tables.groups ∙ sym loses.rest.groups;
    drives = shows.tables.drives ∙ sym many;
    lost = refl;
    failures = refl;
    log = shows.tables.log;
    slots = λ s. let is = shows.tables.slots s in record { blocks = is.blocks; shut = is.shut; waits = is.waits };
  };
}
  where
    many : length v.drives ≡ length a.parts.drives
    many = loses.fares.many

pub lost_leaves : (a : ArrayView) (F : Flat) (v : PartsView) → ShowsArray a F → Loses a.parts v → Leaves F (fared F v)
lost_leaves a F v shows loses = leaves F a.parts v shows.tables.lost shows.tables.failures loses.fares

-- losses one after another are losses
fares_more : (a b c : Bool) (x y z : Failures) → Fares a b x y → Fares b c y z → Fares a c x z
fares_more a b c x y z one two = record {
  stays = λ e. two.stays (one.stays e);
  count = counts_more a b c x y z one.stays two.stays one.count two.count;
  steady = steady_more a b c x y z one.steady two.steady;
}

pub leaves_more : (F M G : Flat) → Leaves F M → Leaves M G → Leaves F G
leaves_more F M G one two = record {
  same = two.same ∙ ap (λ (z : Flat). record z { lost = G.lost; failures = G.failures }) one.same;
  drives = λ d. fares_more (F.lost d) (M.lost d) (G.lost d) (F.failures d) (M.failures d) (G.failures d) (one.drives d) (two.drives d);
}

pub loses_itself : (a : PartsView) → Loses a a
loses_itself a = record {
  bytes = λ units shows slot v e. e;
  fares = record { many = refl; each = λ d. record { stays = λ e. e; count = counts_same (lost_of a d) (failed_of a d); steady = steady_same (lost_of a d) (failed_of a d) } };
  shows = λ units shown. shown;
  rest = record { groups = refl; owners = refl };
}

pub loses_more : (a m b : PartsView) → Loses a m → Loses m b → Loses a b
loses_more a m b one two = record {
  bytes = λ units shows slot v e. one.bytes units shows slot v (two.bytes units (one.shows units shows) slot v e);
  fares = record {
    many = two.fares.many ∙ one.fares.many;
    each = λ d. fares_more (lost_of a d) (lost_of m d) (lost_of b d) (failed_of a d) (failed_of m d) (failed_of b d) (one.fares.each d) (two.fares.each d);
  };
  shows = λ units shown. two.shows units (one.shows units shown);
  rest = record { groups = two.rest.groups ∙ one.rest.groups; owners = two.rest.owners ∙ one.rest.owners };
}
