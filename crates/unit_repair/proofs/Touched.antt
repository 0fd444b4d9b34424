-- The slots of noted units are tested in memory, and noted units that make them sound are those that were written last.
use Rattle.std.proofs.Common.{◌≡◌, ◌<◌, ◌≤◌, ◌+◌, ◌/◌, ◌%◌, ◌⊎◌, inl, inr, ℕ, Bool, true, false, Some, List, MatchBool, length, slice_get, refl, sym, ◌∙◌, ap, subst, arith}
use Rattle.std.proofs.lemmas.Bool.{true≢false}
use Rattle.std.proofs.lemmas.Option.{slice_get_within}
use Rattle.extents.specs.Condition.{Held, failures_of, is_gone}
use Rattle.extents.specs.Failures.{Failures}
use Rattle.extents.specs.declared.mem_drive.Condition.{Condition}
use Rattle.extents.specs.declared.mem_drive.Condition.TheVariants.{Burnt, Fused, Lost, Present}
use Rattle.extent_groups.specs.declared.place.Place.{Place}
use Rattle.extent_groups.specs.Calls.{KeepsDrives}
use Rattle.extent_groups.specs.Cells.{Cells, cells, held}
use Rattle.extent_groups.specs.Groups.{AreGroups, Groups, class_in, group_at}
use Rattle.extent_groups.specs.Layout.{IsOf}
use Rattle.extent_groups.specs.Stores.{AreDrives, unit_bytes}
use Rattle.extent_groups.specs.Units.{Site, site_of}
use Rattle.extent_groups.proofs.Bounds.{made_low}
use Rattle.extent_groups.proofs.DriveCalls.{keeps_none, keeps_trans}
use Rattle.extent_groups.proofs.LayoutLaw.{layout_law, slot_of}
use Rattle.extent_groups.proofs.Places.{same_or_not}
use Rattle.extent_groups.proofs.Sites.{site_places}
use Rattle.extent_groups.proofs.StoreCalls.{drives_kept}
use Rattle.unit_store.specs.Fit.{IsFit}
use Rattle.unit_store.specs.Losses.{KeepsTables, LosesOnly}
use Rattle.unit_store.specs.Memory.{held_failures, held_lost, held_units}
use Rattle.unit_store.specs.Slots.{cells_in}
use Rattle.unit_store.specs.declared.parts.Parts.{Parts}
use Rattle.vault.specs.Images.{Image}
use Rattle.rotten_units.specs.Rows.{AreNotedOnce, AreRowsWhole, IsSiteSized, IsPlaceUsed}
use Rattle.rotten_units.specs.Written.{WroteFrom}
use Rattle.rotten_units.proofs.Computing.{keeps_not}
use Rattle.rotten_units.proofs.Same.{site_same, there}
use Rattle.unit_repair.specs.Computed.{Answer, AreSoundIfNoted, AreSoundIfNotedBelow, IsComputed, IsSoundIfNoted, SameButNoted, WroteRight}
use Rattle.unit_repair.proofs.Verified.{cells_same, of_held}

-- calls that change nothing but which drives are lost, one after the other
pub tables_none : (parts : Parts Held) → KeepsTables parts parts
tables_none parts = record { shape = refl; groups = refl; extents = refl; note = refl }

pub tables_more : (a b c : Parts Held) → KeepsTables a b → KeepsTables b c → KeepsTables a c
tables_more a b c one two = record { shape = two.shape ∙ one.shape; groups = two.groups ∙ one.groups; extents = two.extents ∙ one.extents; note = two.note ∙ one.note }

pub loses_none : (parts : Parts Held) → LosesOnly held_units held_lost held_failures parts parts
loses_none parts = record { tables = tables_none parts; drives = keeps_none parts.drives.items }

pub loses_more : (a b c : Parts Held) → LosesOnly held_units held_lost held_failures a b → LosesOnly held_units held_lost held_failures b c → LosesOnly held_units held_lost held_failures a c
loses_more a b c one two = record { tables = tables_more a b c one.tables two.tables; drives = keeps_trans one.drives two.drives }

-- what an answer says that is true
pub answered : (P Q : Type 0) (b : Bool) → MatchBool b P Q → b ≡ true → P
answered P Q true is e = is
answered P Q false is e = absurd (true≢false (sym e))

-- a drive that isn't lost, and none of whose failures lies ahead, answers
present_if : (c : Condition) → is_gone c ≡ false → Failures.steady (failures_of c) ≡ true → c ≡ Present
present_if Present alive steady = refl
present_if (Fused calls) alive steady = absurd (true≢false (sym steady))
present_if Lost alive steady = absurd (true≢false alive)
present_if Burnt alive steady = absurd (true≢false alive)

module _ (touched : Place → Type 0) (old new : List Held) (keeps : KeepsDrives held_units held_lost held_failures touched old new) (answer : Answer old) where
  -- drives that answer do so after calls
  pub answer_kept : Answer new
  answer_kept d y e =
      let within : d < length old = (let low = slice_get_within new d y e in let many = keeps.many in omega (arith, low, many)) in
      let x = there old d within in
      let kept = keeps.each d x.0 y x.1 e in
      let present = answer d x.0 x.1 in
      let still = kept.steady (ap (λ (c : Condition). Failures.steady (failures_of c)) present) in
      present_if y.condition (still.1 ∙ ap is_gone present) still.0

  -- and have the units that weren't written
  pub kept_there : (x : Place) → x.drive < length old → (touched x → ⊥) → held (cells held_units held_lost new) x ≡ held (cells held_units held_lost old) x
  kept_there x low out =
      let m = there old x.drive low in
      let n = there new x.drive (let many = keeps.many in omega (arith, low, many)) in
      of_held (slice_get new x.drive) n.0 x.address n.1 (ap is_gone (answer_kept x.drive n.0 n.1))
      ∙ (keeps.each x.drive m.0 n.0 m.1 n.1).elsewhere x.address out
      ∙ sym (of_held (slice_get old x.drive) m.0 x.address m.1 (ap is_gone (answer x.drive m.0 m.1)))

-- a slot that was sound after calls that write nothing was sound before
sound_was : (noted : Place → Type 0) (old new : Parts Held) (slot : ℕ) → Answer old.drives.items → LosesOnly held_units held_lost held_failures old new
    → IsSoundIfNoted noted new.groups (cells_in held_units held_lost new) slot → IsSoundIfNoted noted old.groups (cells_in held_units held_lost old) slot
sound_was noted old new slot answer only here =
    subst (λ (c : Cells). IsSoundIfNoted noted old.groups c slot) (sym (cells_same old.drives.items new.drives.items only.drives answer))
    (subst (λ (g : Groups). IsSoundIfNoted noted g (cells_in held_units held_lost new) slot) only.tables.groups here)

-- one slot more, and all of them
pub tested_more : (noted : Place → Type 0) (old new : Parts Held) (slot : ℕ) → Answer old.drives.items → LosesOnly held_units held_lost held_failures old new
    → IsSoundIfNoted noted new.groups (cells_in held_units held_lost new) slot → AreSoundIfNotedBelow noted old.groups (cells_in held_units held_lost old) slot
    → AreSoundIfNotedBelow noted old.groups (cells_in held_units held_lost old) (slot + 1)
tested_more noted old new slot answer only here below other low = elim (same_or_not other slot) [
  | inl is ↦ subst (IsSoundIfNoted noted old.groups (cells_in held_units held_lost old)) (sym is) (sound_was noted old new slot answer only here)
  | inr ne ↦ below other (omega (arith, low, ne))
]

pub all_tested : (noted : Place → Type 0) (groups : Groups) (c : Cells) (end : ℕ) → AreGroups groups → 65536 ≤ end → AreSoundIfNotedBelow noted groups c end → AreSoundIfNoted noted groups c
all_tested noted groups c end are all below slot site is =
    let x = slot_of groups.segments (group_at groups (slot / 128)) (slot % 128) site is in
    let low = made_low groups (slot / 128) x.group.class are.numbers (ap class_in x.made) in
    below slot (omega (arith, low, all)) site is

-- what was computed, and then tested
pub computed : (noted : Place → Type 0) (old mid new : Parts Held) → Answer old.drives.items → AreNotedOnce noted old.groups → KeepsTables old mid
    → KeepsDrives held_units held_lost held_failures noted old.drives.items mid.drives.items → IsFit held_units mid
    → AreSoundIfNoted noted mid.groups (cells_in held_units held_lost mid) → LosesOnly held_units held_lost held_failures mid new → IsComputed noted old new
computed noted old mid new answer once tables kept fit sound only = record {
  once = once;
  kept = keeps_trans kept (keeps_not only.drives);
  fit = drives_kept old.groups only.drives (subst (λ (g : Groups). AreDrives held_units g mid.drives.items) tables.groups fit.drives);
  sound = subst (λ (c : Cells). AreSoundIfNoted noted old.groups c)
      (cells_same mid.drives.items new.drives.items only.drives (answer_kept noted old.drives.items mid.drives.items kept answer))
      (subst (λ (g : Groups). AreSoundIfNoted noted g (cells_in held_units held_lost mid)) tables.groups sound);
}

module _ (noted : Place → Type 0) (decide : (x : Place) → noted x ⊎ (noted x → ⊥)) (old new : Parts Held) (is : IsComputed noted old new) (answer : Answer old.drives.items)
    (written : Cells) (whole : AreRowsWhole old.groups written) (same : SameButNoted noted old.groups (cells_in held_units held_lost old) written) where
  module _ (slot : ℕ) (site : Site) (at : site_of old.groups slot ≡ Some site) where
    memory_sized : IsSiteSized (unit_bytes old.groups) (cells_in held_units held_lost new) site
    memory_sized x of =
        let place = site_places held_units old.groups new.drives.items slot site whole.formed is.fit at x of in
        let m = there new.drives.items x.drive place.inside in
        let u = there m.0.units x.address (place.low m.0 m.1) in (
          u.0,
          of_held (slice_get new.drives.items x.drive) m.0 x.address m.1 (ap is_gone (answer_kept noted old.drives.items new.drives.items is.kept answer x.drive m.0 m.1)) ∙ u.1,
          is.fit.sized x.drive m.0 m.1 x.address u.0 u.1,
        )

    unnoted_same : (x : Place) → IsOf site x → (noted x → ⊥) → held (cells_in held_units held_lost new) x ≡ held written x
    unnoted_same x of out =
        let place = site_places held_units old.groups new.drives.items slot site whole.formed is.fit at x of in
        kept_there noted old.drives.items new.drives.items is.kept answer x (let low = place.inside in let many = is.kept.many in omega (arith, low, many)) out
        ∙ same x (slot, site, at, of) out

  -- each noted unit of the groups is in memory as it was written last
  pub noted_right : (x : Place) → IsPlaceUsed old.groups x → noted x → held (cells_in held_units held_lost new) x ≡ held written x
  noted_right x (slot, site, at, of) on =
      site_same (unit_bytes old.groups) (cells_in held_units held_lost new) written noted decide site ((layout_law old.groups whole.formed).whole slot site at) (is.once slot site at)
      (unnoted_same slot site at) (memory_sized slot site at) (whole.sized slot site at) (is.sound slot site at x of on) (whole.sound slot site at) x of

  pub wrote_right : {V : Type 0} (seen : V → Image) (attested : V → Place → Type 0) (before after : V) → WroteFrom seen attested noted (cells_in held_units held_lost new) before after
      → WroteRight seen attested noted old.groups written before after
  wrote_right seen attested before after wrote x used a = elim (wrote x a) [
    | inl kept ↦ inl kept
    | inr from ↦ inr (from.0, (from.1.0, sym (noted_right x used from.0) ∙ from.1.1, from.1.2))
  ]
