-- Of which units an array is opened that shows what.
use Rattle.std.proofs.Common.{◌≡◌, ◌<◌, ◌≤◌, ◌⊎◌, true≢false, inl, inr, ℕ, zero, suc, arith, Bool, true, false, Option, Some, List, [], ◌∷◌, length, take, slice_get, refl, sym, ◌∙◌, ap, subst}
use Rattle.std.specs.Prelude.{◌||◌, Contains}
use Rattle.std.proofs.lemmas.Option.{slice_get_cases}
use Rattle.extent_groups.specs.Groups.{Groups}
use Rattle.extent_groups.specs.Missing.{is_missing}
use Rattle.extent_groups.specs.Cells.{Cells}
use Rattle.extent_groups.specs.Planned.{Intended, after}
use Rattle.unit_store.specs.Views.{DriveView, PartsView, drive_lost, lost_of}
use Rattle.tiered_array.specs.Views.{TiersView}
use Rattle.byte_store.specs.Lasting.{HasAllOf}
use Rattle.vault.specs.Images.{Image, SameOn, flat, is_lost, recovered}
use Rattle.vault.specs.Moments.{IsLogged, RepresentsSome}
use Rattle.vault.specs.declared.store.Stop.{Stop}
use Rattle.vault.proofs.Writes.{front_matches}
use Rattle.group_form.specs.Form.{HasGroups}
use Rattle.journaled_store.specs.Steps.{IsBeforeOrNow, IsPersisted, SameTable}
use Rattle.journaled_store.specs.Left.{IsLeftOf, IsLostIn, MissesOne}
use Rattle.journaled_store.specs.Outlasting.{OpensAs, OpensBut, parts_of}
use Rattle.journaled_store.proofs.Settled.{groups_on, kept_on, table_on}

-- a list of one has that one alone
pub alone : {X : Type 0} (b : X) → Contains (b ∷ []) b
alone b = (0, omega arith, refl)

pub one_of : {X : Type 0} (b : X) (more : List X) → Contains more b → HasAllOf (b ∷ []) more
one_of b more has x (zero, low, is) = subst (Contains more) is has
one_of b more has x (suc k, low, is) = absurd (omega (arith, low))

-- a drive of that number that is lost
lost_in : (o : Option DriveView) → is_missing drive_lost o ≡ true → ((v : DriveView) × (o ≡ Some v)) → (v : DriveView) × (o ≡ Some v) × (v.lost ≡ true)
lost_in o gone (v, is) = (v, is, ap (is_missing drive_lost) (sym is) ∙ gone)

there : (drives : List DriveView) (d : ℕ) → d < length drives → (v : DriveView) × (slice_get drives d ≡ Some v)
there drives d low = elim (slice_get_cases drives d).1 [ inl is ↦ (is.0, is.2) | inr past ↦ (let high = past.0 in absurd (omega (arith, low, high))) ]

pub is_lost_in : (v : PartsView) (d : ℕ) → d < length v.drives → lost_of v d ≡ true → IsLostIn v.drives d
is_lost_in v d low gone = lost_in (slice_get v.drives d) gone (there v.drives d low)

-- the drives of two lists
abbrev either_lost : List Bool → List Bool → List Bool
either_lost [] others = others
either_lost (l ∷ lost) [] = l ∷ lost
either_lost (l ∷ lost) (o ∷ others) = (l || o) ∷ either_lost lost others

or_none : (b : Bool) → b ≡ (b || false)
or_none true = refl
or_none false = refl

lost_at : (lost others : List Bool) (d : ℕ) → is_lost (either_lost lost others) d ≡ (is_lost lost d || is_lost others d)
lost_at [] others d = refl
lost_at (l ∷ lost) [] zero = or_none l
lost_at (l ∷ lost) [] (suc d) = or_none (is_lost lost d)
lost_at (l ∷ lost) (o ∷ others) zero = refl
lost_at (l ∷ lost) (o ∷ others) (suc d) = lost_at lost others d

neither : (a b : Bool) → (a || b) ≡ false → (a ≡ false) × (b ≡ false)
neither true b e = absurd (true≢false e)
neither false b e = (refl, e)

one_or_both : (a b : Bool) → (a || b) ≡ true → (a ≡ true) ⊎ (b ≡ true)
one_or_both true b e = inl refl
one_or_both false b e = inr e

none_of : (a b : Bool) → a ≡ false → b ≡ false → (a || b) ≡ false
none_of true b e f = e
none_of false b e f = f

module _ {X : Type 0} (shows : TiersView → X → Type 0) (lost : List Bool) (table : is_lost lost 16 ≡ false) (groups : Groups) (count : ℕ) where
  -- with more in the list
  pub opens_more : (some more : List X) (c : Cells) → HasAllOf some more → OpensBut shows lost some groups count c → OpensBut shows lost more groups count c
  opens_more some more c within o = record {
    what = o.what;
    listed = within o.what o.listed;
    tiers = o.tiers;
    shown = o.shown;
    groups_are = o.groups_are;
    many = o.many;
    table = o.table;
    one = o.one;
    kept = o.kept;
    gone = o.gone;
  }

  -- of the same units, but for lost drives
  pub opens_on : (list : List X) (c d : Cells) → SameOn lost d c → OpensBut shows lost list groups count c → OpensBut shows lost list groups count d
  opens_on list c d same o = record {
    what = o.what;
    listed = o.listed;
    tiers = o.tiers;
    shown = o.shown;
    groups_are = o.groups_are;
    many = o.many;
    table = groups_on groups count c d (table_on lost c d table same) o.table;
    one = o.one;
    kept = kept_on lost (parts_of o.tiers).drives c d table same o.kept;
    gone = o.gone;
  }

  pub opens_as : (list : List X) (c : Cells) → OpensBut shows lost list groups count c → OpensAs shows list groups count c
  opens_as list c o = record { what = o.what; listed = o.listed; left = λ absent d there same. left absent d there same }
    where
      left : (absent : List Bool) (d : Cells) → is_lost absent 16 ≡ false → SameOn absent d c → IsLeftOf shows o.what groups count absent d
      left absent d there same = record {
        tiers = o.tiers;
        shown = o.shown;
        groups_are = o.groups_are;
        many = o.many;
        table = groups_on groups count c d (table_on absent c d there same) o.table;
        one = o.one;
        lost = either_lost lost absent;
        kept = kept_on (either_lost lost absent) (parts_of o.tiers).drives c d (lost_at lost absent 16 ∙ none_of (is_lost lost 16) (is_lost absent 16) table there)
            (λ x on. same x (neither (is_lost lost x.drive) (is_lost absent x.drive) (sym (lost_at lost absent x.drive) ∙ on)).1)
            (record { has = record { each = λ n at v is on. o.kept.has.each n at v is (neither (is_lost lost n) (is_lost absent n) (sym (lost_at lost absent n) ∙ on)).0 }; marks = o.kept.marks; noted = o.kept.noted; reported = o.kept.reported });
        excused = λ n low is. elim (one_or_both (is_lost lost n) (is_lost absent n) (sym (lost_at lost absent n) ∙ is)) [ inl one ↦ inr (o.gone n low one) | inr two ↦ inl two ];
      }

  -- of the units that the drives hold now
  pub opens_now : (list : List X) (t : TiersView) (now : X) (c : Cells) → (parts_of t).groups ≡ groups → length (parts_of t).drives ≡ count
      → ((d : ℕ) → is_lost lost d ≡ true → lost_of (parts_of t) d ≡ true) → MissesOne (parts_of t).drives → shows t now → Contains list now → IsPersisted lost (parts_of t).drives c → HasGroups groups count c → OpensBut shows lost list groups count c
  opens_now list t now c groups_are many gone one shown listed kept has = record {
    what = now;
    listed = listed;
    tiers = t;
    shown = shown;
    groups_are = groups_are;
    many = many;
    table = has;
    one = one;
    kept = kept;
    gone = λ d low is. is_lost_in (parts_of t) d (omega (arith, low, many)) (gone d is);
  }

  -- of an image that stands for some of a journal's batches, or for what the drives hold now
  pub opens_some : (list : List X) (cells : Cells) (journal : List (List Intended)) (low : ℕ) (i : Image)
      → ((n : ℕ) → low ≤ n → n ≤ length journal → OpensBut shows lost list groups count (after cells (flat (take n journal))))
      → RepresentsSome lost cells low journal i → OpensBut shows lost list groups count (recovered i)
  opens_some list cells journal low i old some =
      opens_on list (after cells (flat (take some.count journal))) (recovered i) some.matches (old some.count some.least some.most)

  pub opens_either : (list : List X) (base : Image) (low : ℕ) (drives : List DriveView) (i : Image)
      → ((n : ℕ) → low ≤ n → n ≤ length base.journal → OpensBut shows lost list groups count (after base.cells (flat (take n base.journal))))
      → ((c : Cells) → IsPersisted lost drives c → SameTable c (recovered base) → OpensBut shows lost list groups count c)
      → IsBeforeOrNow lost base low drives i → OpensBut shows lost list groups count (recovered i)
  opens_either list base low drives i old now (inl some) = opens_some list base.cells base.journal low i old some
  opens_either list base low drives i old now (inr (c, matches, kept, rest)) = opens_on list c (recovered i) matches (now c kept rest)

  -- of what a stop leaves
  pub opens_left : {V : Type 0} (seen : V → Image) (may_leave : V → Stop → Image → Type 0) (list : List X) (stop : Stop) (vault : V) (low : ℕ) (i : Image)
      → IsLogged seen may_leave lost stop vault low → may_leave vault stop i
      → ((n : ℕ) → low ≤ n → n ≤ length (seen vault).journal → OpensBut shows lost list groups count (after (seen vault).cells (flat (take n (seen vault).journal))))
      → OpensBut shows lost list groups count (recovered i)
  opens_left seen may_leave list stop vault low i logged left old =
      opens_some list (seen vault).cells (seen vault).journal low i old (front_matches lost (seen vault) i low (logged.leaves i left))
