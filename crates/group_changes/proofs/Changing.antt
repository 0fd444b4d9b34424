-- A change that was made of the groups of an array in memory, by its kind.
use Rattle.std.proofs.Common.{◌≡◌, ℕ, Result, Vec, refl, sym, subst}
use Rattle.std.specs.Global.{Global}
use Rattle.std.specs.Prelude.{OnOk}
use Rattle.std.proofs.lemmas.Result.{on_ok_weaker}
use Rattle.extents.specs.declared.shape.Shape.{Shape}
use Rattle.extent_groups.specs.declared.class.Class.{Class}
use Rattle.extent_groups.specs.declared.class.Member.{Member}
use Rattle.extent_groups.specs.Groups.{Groups}
use Rattle.slot_tables.specs.Views.{WorldView}
use Rattle.array_batch.specs.Arrays.{HaveSizes}
use Rattle.group_changes.specs.Applied.{Applies, IsDissolved, IsMade, IsMoved}
use Rattle.group_changes.specs.Changed.{groups_after}
use Rattle.group_changes.specs.declared.change.GroupChange.{GroupChange}
use Rattle.group_changes.specs.declared.change.GroupChange.TheVariants.{Make, Dissolve, Move}
use Rattle.group_changes.specs.declared.fault.GroupChangeFault.{GroupChangeFault}
use Rattle.group_changes.proofs.Applying.{Does}

module _ (r : Result (Unit {0}) GroupChangeFault) (change : GroupChange) (old new : WorldView) where
  pub applied_make : (g : ℕ) (class : Class) (members : Vec Member Global) → change ≡ Make g class members → OnOk r (Does old new (IsMade g class members.items)) → OnOk r (Applies change old new)
  applied_make g class members is does = subst (λ (c : GroupChange). OnOk r (Applies c old new)) (sym is) (on_ok_weaker r (λ (one : Does old new (IsMade g class members.items)). λ F was.
      let step = one F was in
      let made = step.1 in
      (step.0, record { can = (made.lowest, made.members_are, made.apart, made.unowned); now = made.now }, step.2)) does)

  pub applied_dissolve : (g : ℕ) → change ≡ Dissolve g → OnOk r (Does old new (IsDissolved g)) → OnOk r (Applies change old new)
  applied_dissolve g is does = subst (λ (c : GroupChange). OnOk r (Applies c old new)) (sym is) (on_ok_weaker r (λ (one : Does old new (IsDissolved g)). λ F was.
      let step = one F was in
      (step.0, record { can = step.1.there; now = step.1.now }, step.2)) does)

  pub applied_move : (g k : ℕ) (to : Member) → change ≡ Move g k to → OnOk r (Does old new (IsMoved g k to)) → OnOk r (Applies change old new)
  applied_move g k to is does = subst (λ (c : GroupChange). OnOk r (Applies c old new)) (sym is) (on_ok_weaker r (λ (one : Does old new (IsMoved g k to)). λ F was.
      let step = one F was in
      (step.0, record { can = (step.1.there, step.1.target); now = step.1.now }, step.2)) does)

-- a change leaves the sizes
pub payload_stays : (change : GroupChange) (groups : Groups) → (groups_after change groups).payload ≡ groups.payload
payload_stays (Make g class members) groups = refl
payload_stays (Dissolve g) groups = refl
payload_stays (Move g k to) groups = refl

pub sizes_stay : (change : GroupChange) (shape : Shape) (groups : Groups) → HaveSizes shape groups → HaveSizes shape (groups_after change groups)
sizes_stay (Make g class members) shape groups sizes = sizes
sizes_stay (Dissolve g) shape groups sizes = sizes
sizes_stay (Move g k to) shape groups sizes = sizes
