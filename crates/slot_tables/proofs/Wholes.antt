-- An array is whole with other drives, and what is kept is a slot of a group.
use Rattle.std.proofs.Common.{◌≡◌, ◌≢◌, ℕ, ◌/◌, ◌%◌, ◌<◌, ◌≤◌, Bool, true, false, cond, nat_lt, length, refl, sym, ap, ◌∙◌, subst, arith, Option, Some, None}
use Rattle.std.proofs.lemmas.Bool.Decides.{nat_tests}
use Rattle.extents.specs.Owners.{Owners}
use Rattle.extent_groups.specs.Geometry.{slot_count}
use Rattle.extent_groups.specs.Groups.{Group, Groups, group_at, slots_in, Agree}
use Rattle.unit_store.specs.Slots.{IsSlot}
use Rattle.extent_groups.specs.Stores.{AreDrives}
use Rattle.unit_store.specs.Views.{PartsView, SameTables, drive_units}
use Rattle.flat_machine.specs.Groups.{GroupsStand, class_below, class_at}
use Rattle.slot_tables.specs.Views.{ArrayView, with_parts, IsWhole}

pub whole_parts : (a : ArrayView) (v : PartsView) → SameTables a.parts v → length v.drives ≡ length a.parts.drives → AreDrives drive_units v.groups v.drives
    → IsWhole a → IsWhole (with_parts a v)
whole_parts a v same many drives whole = record {
  room = record { kept = whole.room.kept; keys = whole.room.keys ∙ ap (λ (g : Groups). g.blocks) (sym same.groups) };
  blocks = subst (λ (g : Groups). g.blocks ≤ 65536) (sym same.groups) whole.blocks;
  keys = whole.keys;
  fit = whole.fit;
  newest = whole.newest;
  only = whole.only;
  moving = whole.moving;
  there = λ s kept made. subst (λ (g : Groups). class_at g s ≢ None) (sym same.groups) (whole.there s kept made);
  unmade = λ s kept. subst (λ (g : Groups). group_at g (s / 128) ≡ None) (sym same.groups) (whole.unmade s kept);
  groups = subst (λ (g : Groups). GroupsStand g (length v.drives)) (sym same.groups) (subst (GroupsStand a.parts.groups) (sym many) whole.groups);
  agree = subst (λ (g : Groups). Agree g v.owners) (sym same.groups) (subst (Agree a.parts.groups) (sym same.owners) whole.agree);
  rows = ap (λ (o : Owners). length o.rows) same.owners ∙ whole.rows ∙ sym many;
  wide = ap (λ (o : Owners). o.extents) same.owners ∙ whole.wide ∙ ap (λ (g : Groups). g.extents) (sym same.groups);
  drives = drives;
}

index_below : (segments : ℕ) (o : Option Group) (i : ℕ) → class_below segments o i ≢ None → i < slots_in segments o
index_below segments None i some = absurd (some refl)
index_below segments (Some group) i some = go (nat_lt i (slot_count group.class (length group.members) segments)) refl
  where
    go : (b : Bool) → nat_lt i (slot_count group.class (length group.members) segments) ≡ b → i < slot_count group.class (length group.members) segments
    go true is = grind (arith, nat_tests)
    go false is = absurd (some (ap (λ q. cond q (Some group.class) None) is))

-- a slot with a class is one of a group
pub slot_of_class : (groups : Groups) (s : ℕ) → class_at groups s ≢ None → IsSlot groups s
slot_of_class groups s some = index_below groups.segments (group_at groups (s / 128)) (s % 128) some
