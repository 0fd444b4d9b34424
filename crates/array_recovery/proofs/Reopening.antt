-- What is found of a vault's drives outlives the array that the vault has.
use Rattle.std.proofs.Common.{◌≡◌, ℕ, ◌<◌, ◌⊎◌, inl, inr, Bool, true, false, Option, Some, None, List, [], length, slice_get, refl, sym, ◌∙◌, ap, subst, arith, if◌then◌else◌}
use Rattle.std.specs.Prelude.{◌||◌, ◌==◌, not, map, option_map}
use Rattle.std.proofs.lemmas.List.{length-map}
use Rattle.std.proofs.lemmas.Bool.{true≢false}
use Rattle.std.proofs.lemmas.Option.{same_Some, slice_get-map, slice_get_cases, slice_get_within}
use Rattle.extents.specs.Condition.{Held}
use Rattle.extents.specs.Failures.{Failures}
use Rattle.extent_groups.specs.Groups.{Groups}
use Rattle.extent_groups.specs.Cells.{Cells, cell}
use Rattle.extent_groups.specs.Calls.{Fades}
use Rattle.extent_groups.specs.Planned.{Intended}
use Rattle.history.specs.Entries.{Course}
use Rattle.unit_store.specs.Views.{DriveView, PartsView, drive_units, drive_lost, drive_view, drive_cells}
use Rattle.vault.specs.Images.{is_lost}
use Rattle.cached_drive.specs.Saving.{Units, saved_by}
use Rattle.journaled_store.specs.Steps.{IsUpToDate, loss_mark}
use Rattle.array_recovery.specs.Found.{AreFormed, AreGone, AreSeated, HaveUnits, IsTable, is_marked}
use Rattle.array_recovery.proofs.Marking.{index_is}
use Rattle.byte_store.specs.Lasting.{Shown}
use Rattle.array_store.specs.Blocks.{Holds}
use Rattle.journaled_store.specs.Left.{HasBoth, HasKeys, IsLeftOf, IsLostIn}
use Rattle.journaled_store.specs.Outlasting.{parts_of}
use Rattle.tiered_array.specs.Views.{TiersView}
use Rattle.extent_groups.specs.Missing.{is_missing}
use Rattle.array_recovery.specs.Reopened.{CoversGone, EndsAt, IsOpenedWith, LosesMore, Outlives}

-- an element below the length
pub there : {A : Type 0} (xs : List A) (i : ℕ) → i < length xs → (x : A) × (slice_get xs i ≡ Some x)
there xs i low = elim (slice_get_cases xs i).1 [ inl is ↦ (is.0, is.2) | inr past ↦ (let high = past.0 in absurd (omega (arith, low, high))) ]

or_false : (a b : Bool) → (a || b) ≡ false → (a ≡ false) × (b ≡ false)
or_false false b e = (refl, e)
or_false true b e = absurd (true≢false e)

pub bool_cases : (b : Bool) → (b ≡ true) ⊎ (b ≡ false)
bool_cases true = inl refl
bool_cases false = inr refl

-- a drive without a mark wasn't lost
unmarked : (marks : List ℕ) (d : ℕ) (lost : Bool) → slice_get marks d ≡ Some (loss_mark lost) → is_marked marks d ≡ false → lost ≡ false
unmarked marks d false e is = refl
unmarked marks d true e is = absurd (true≢false (sym (ap (λ n. not (n == 0)) (index_is marks d 1 e)) ∙ is))

module _ {D : Type 0} (units : D → Units) (gone : D → Bool) (failures : D → Failures) (drives : List D) (caches : List Held) (marks : List ℕ) (absent lost : List Bool) (k : Course Units)
    (c : Cells) (seated : AreSeated units gone lost caches drives k) (have : HaveUnits lost c caches) (are : AreGone marks absent lost) (table : IsTable marks c) where
  -- the unit that lies at a drive's address, where the drive isn't lost
  unit_is : (d at : ℕ) (x : D) (unit : List ℕ) → slice_get drives d ≡ Some x → gone x ≡ false → slice_get (units x) at ≡ Some unit → c d at ≡ Some unit
  unit_is d at x unit e not is =
      let low = slice_get_within drives d x e in
      let many = seated.many in
      let m = there caches d (omega (arith, low, many)) in
      let same = seated.units_are d x m.0 e m.1 in
      let in_cache : slice_get m.0.units at ≡ Some unit = subst (λ (u : Units). slice_get u at ≡ Some unit) same is in
      have.each d at m.0 m.1 (sym (seated.gone_are d x e) ∙ not) (slice_get_within m.0.units at unit in_cache) ∙ in_cache

  module _ {X : Type 0} (shows : TiersView → X → Type 0) (what : X) (groups : Groups) (count : ℕ) (is : IsLeftOf shows what groups count absent c) (many : length drives ≡ count) where
    abbrev olds : List DriveView
    olds = is.tiers.world.array.parts.drives

    -- a drive that isn't lost now wasn't, and the vault has its units
    was_kept : (d : ℕ) (v : DriveView) → d < count → slice_get olds d ≡ Some v → is_lost lost d ≡ false → (is_lost is.lost d ≡ false) × (v.lost ≡ false)
    was_kept d v low e not = (covered, alive)
      where
        both : (is_marked marks d ≡ false) × (is_lost absent d ≡ false)
        both = or_false (is_marked marks d) (is_lost absent d) (sym (are.each d) ∙ not)

        same : marks ≡ is.kept.marks
        same = same_Some _ _ (sym table ∙ is.kept.noted)

        alive : v.lost ≡ false
        alive = unmarked marks d v.lost (subst (λ (l : List ℕ). slice_get l d ≡ Some (loss_mark v.lost)) (sym same) (is.kept.reported.each d v e)) both.0

        not_in : IsLostIn olds d → ⊥
        not_in was = true≢false (sym was.2 ∙ ap (λ (w : DriveView). w.lost) (same_Some _ _ (sym was.1 ∙ e)) ∙ alive)

        covered : is_lost is.lost d ≡ false
        covered = elim (bool_cases (is_lost is.lost d)) [
          | inr out ↦ out
          | inl one ↦ (elim (is.excused d low one) [ inl away ↦ absurd (true≢false (sym away ∙ both.1)) | inr was ↦ absurd (not_in was) ])
        ]

    fade_unit : (d at : ℕ) (x : D) (o : Option (List ℕ)) → slice_get drives d ≡ Some x → gone x ≡ false → slice_get (units x) at ≡ o → Fades (drive_cells is.tiers.world.array.parts d at) o
    fade_unit d at x None e not at_is = inr refl
    fade_unit d at x (Some unit) e not at_is =
        let low : d < count = (let within = slice_get_within drives d x e in omega (arith, within, many)) in
        let v = there olds d (let all = is.many in omega (arith, low, all)) in
        let was = was_kept d v.0 low v.1 (sym (seated.gone_are d x e) ∙ not) in
        inl (sym (
        ap (λ (o : Option DriveView). cell drive_units drive_lost o at) v.1
        ∙ ap (λ b. if b then None else slice_get v.0.units at) was.1
        ∙ sym (is.kept.has.each d at v.0 v.1 was.0)
        ∙ unit_is d at x unit e not at_is))

    fade_drive : (d at : ℕ) (x : D) (b : Bool) → slice_get drives d ≡ Some x → gone x ≡ b → Fades (drive_cells is.tiers.world.array.parts d at) (if b then None else slice_get (units x) at)
    fade_drive d at x true e b_is = inr refl
    fade_drive d at x false e b_is = fade_unit d at x (slice_get (units x) at) e b_is refl

    fade_cell : (d at : ℕ) (o : Option D) → slice_get drives d ≡ o
        → Fades (drive_cells is.tiers.world.array.parts d at) (cell drive_units drive_lost (option_map (drive_view units gone failures) o) at)
    fade_cell d at None e = inr refl
    fade_cell d at (Some x) e = fade_drive d at x (gone x) e refl

    fade : (d at : ℕ) → Fades (drive_cells is.tiers.world.array.parts d at) (cell drive_units drive_lost (slice_get (map (drive_view units gone failures) drives) d) at)
    fade d at =
        subst (λ (o : Option DriveView). Fades (drive_cells is.tiers.world.array.parts d at) (cell drive_units drive_lost o at))
        (sym (slice_get-map (drive_view units gone failures) drives d)) (fade_cell d at (slice_get drives d) refl)

    pub outlives : (v : PartsView) → v.groups ≡ groups → v.drives ≡ map (drive_view units gone failures) drives → Outlives is.tiers.world.array.parts v
    outlives v groups_are drives_are = record {
      groups = groups_are ∙ sym is.groups_are;
      many = ap length drives_are ∙ length-map drives (drive_view units gone failures) ∙ many ∙ sym is.many;
      fades = λ x. subst (λ (ds : List DriveView). Fades (drive_cells is.tiers.world.array.parts x.drive x.address) (cell drive_units drive_lost (slice_get ds x.drive) x.address)) (sym drives_are) (fade x.drive x.address);
    }

  -- the vault is in step with the drives
  pub live : (count size : ℕ) (unsure : List Bool) → AreFormed count size caches → CoversGone (length drives) marks absent unsure → EndsAt unsure (length drives) count c
      → IsUpToDate unsure k marks [] c
  live count size unsure formed covers ends = record { step = record { each = step }; noted = table; rest = λ at. refl }
    where
      here : (d : ℕ) → d < length drives → is_lost unsure d ≡ false → is_lost lost d ≡ false
      here d low not = elim (bool_cases (is_marked marks d || is_lost absent d)) [
        | inl one ↦ absurd (true≢false (sym (covers d low one) ∙ not))
        | inr none ↦ are.each d ∙ none
      ]

      step : (d at : ℕ) → d < k.hired → is_lost unsure d ≡ false → c d at ≡ slice_get (saved_by d k.log) at
      step d at low not =
          let many = seated.many in
          let hired = seated.hired in
          let m = there caches d (omega (arith, low, hired)) in
          let below : d < length drives = omega (arith, low, hired, many) in
          let x = there drives d below in
          let saved : saved_by d k.log ≡ m.0.units = seated.saved d x.0 x.1 ∙ seated.units_are d x.0 m.0 x.1 m.1 in
          let long = formed.many d m.0 m.1 in
          (elim (slice_get_cases m.0.units at).1 [
            | inl is ↦ have.each d at m.0 m.1 (here d below not) is.1
            | inr past ↦ (let high = past.0 in ends d at below not (omega (arith, high, long)) ∙ sym past.1)
          ]) ∙ ap (λ (u : Units). slice_get u at) (sym saved)

  -- and with what is kept of its changes
  pub live_now : (count size : ℕ) (unsure : List Bool) (keeper : Course Units) (noted : List ℕ) (batch : List Intended) → keeper ≡ k → batch ≡ [] → noted ≡ marks → AreFormed count size caches
      → CoversGone (length caches) noted absent unsure → EndsAt unsure (length caches) count c → IsUpToDate unsure keeper noted batch c
  live_now count size unsure keeper noted batch same none reported formed covers ends =
      subst (λ (x : Course Units). IsUpToDate unsure x noted batch c) (sym same)
      (subst (λ (ws : List Intended). IsUpToDate unsure k noted ws c) (sym none)
      (subst (λ (l : List ℕ). IsUpToDate unsure k l [] c) (sym reported)
      (live count size unsure formed
      (subst (λ n. CoversGone n marks absent unsure) (sym seated.many) (subst (λ (l : List ℕ). CoversGone (length caches) l absent unsure) reported covers))
      (subst (λ n. EndsAt unsure n count c) (sym seated.many) ends))))

module _ {D : Type 0} (units : D → Units) (gone : D → Bool) (failures : D → Failures) (drives : List D) (caches : List Held) (marks : List ℕ) (absent lost : List Bool) (k : Course Units)
    (seated : AreSeated units gone lost caches drives k) (are : AreGone marks absent lost) where
  -- a drive that is marked or absent is missing
  missing : (d : ℕ) (o : Option D) → slice_get drives d ≡ o → (is_marked marks d || is_lost absent d) ≡ true → is_missing drive_lost (option_map (drive_view units gone failures) o) ≡ true
  missing d None e one = refl
  missing d (Some x) e one = seated.gone_are d x e ∙ are.each d ∙ one

  missing_view : (d : ℕ) → (is_marked marks d || is_lost absent d) ≡ true → is_missing drive_lost (slice_get (map (drive_view units gone failures) drives) d) ≡ true
  missing_view d one = ap (is_missing drive_lost) (slice_get-map (drive_view units gone failures) drives d) ∙ missing d (slice_get drives d) refl one

  -- what was made of the drives
  pub opened_with : (old : PartsView) (tiers : TiersView) (noted : List ℕ) → old.drives ≡ map (drive_view units gone failures) drives → noted ≡ marks → LosesMore old (parts_of tiers)
      → IsOpenedWith old.groups (length caches) noted absent tiers
  opened_with old tiers noted drives_are reported loses = subst (λ (l : List ℕ). IsOpenedWith old.groups (length caches) l absent tiers) (sym reported) (record {
    groups_are = loses.groups;
    many = loses.many ∙ ap length drives_are ∙ length-map drives (drive_view units gone failures) ∙ seated.many;
    gone = λ d one. loses.lost d (ap (λ (ds : List DriveView). is_missing drive_lost (slice_get ds d)) drives_are ∙ missing_view d one);
  })

-- an array that showed both had these bytes, and this block map
pub bytes_left : (what : Shown) (groups : Groups) (count : ℕ) (absent : List Bool) (c : Cells) → IsLeftOf HasBoth what groups count absent c → IsLeftOf Holds what.bytes groups count absent c
bytes_left what groups count absent c left = record {
  tiers = left.tiers;
  shown = left.shown.holds;
  groups_are = left.groups_are;
  many = left.many;
  table = left.table;
  one = left.one;
  lost = left.lost;
  kept = left.kept;
  excused = left.excused;
}

pub keys_left : (what : Shown) (groups : Groups) (count : ℕ) (absent : List Bool) (c : Cells) → IsLeftOf HasBoth what groups count absent c → IsLeftOf HasKeys what.keys groups count absent c
keys_left what groups count absent c left = record {
  tiers = left.tiers;
  shown = record { state = left.shown.holds.state; matches = left.shown.holds.matches; keys_are = left.shown.keys_are };
  groups_are = left.groups_are;
  many = left.many;
  table = left.table;
  one = left.one;
  lost = left.lost;
  kept = left.kept;
  excused = left.excused;
}
