-- A loop of moves off a lost drive: it ends, since each takes one group off the drive.
use Rattle.std.proofs.Common.{◌≡◌, ◌≤◌, ◌<◌, ◌+◌, ℕ, Some, None, inl, inr, length, sym, ap, ◌∙◌, subst, arith}
use Rattle.extent_groups.specs.Groups.{AreGroups, Groups, group_at, swapped_in, with_group}
use Rattle.extent_groups.specs.Stores.{HasMemberOn}
use Rattle.flat_machine.specs.Flat.{Flat}
use Rattle.flat_machine.specs.Steps.{MoveExtent}
use Rattle.flat_machine.specs.declared.refusal.Refusal.{Refusal}
use Rattle.flat_machine.proofs.Regroups.{group_of_member}
use Rattle.flat_machine.proofs.Unmakes.{number_within}
use Rattle.rebalancer.specs.declared.shift.Shift.{Shift}
use Rattle.step_core.proofs.Worlds.{refused_leaves}
use Rattle.tiered_array.specs.Matches.{RepresentsTiers}
use Rattle.tiered_array.specs.Regrouping.{IsRebuildOf, RebuildCase}
use Rattle.tiered_array.specs.Tiered.{Tiered}
use Rattle.tiered_array.specs.Views.{TiersView}
use Rattle.tiered_array.specs.declared.regrouped.Regrouped.{Regrouped}
use Rattle.tiered_array.specs.declared.regrouped.Regrouped.TheVariants.{Moved, Nothing}
use Rattle.tiered_array.specs.declared.regrouped.Regrouped.TheVariants as regrouped
use Rattle.array_expansion.specs.Expansion.{IsSpread}
use Rattle.array_expansion.proofs.Spreading.{moved_spread, spread_itself, spread_more}
use Rattle.drive_evacuation.specs.Evacuation.{AreClearOf, IsEvacuationStuck, NotEvacuated}
use Rattle.drive_evacuation.specs.declared.fault.EvacuationFault.{EvacuationFault}
use Rattle.drive_evacuation.specs.declared.fault.EvacuationFault.TheVariants.{Memory, Present, Stuck, Refused}
use Rattle.drive_evacuation.proofs.Carriers.{carriers, most_carriers, one_fewer}

-- after so many moves the array represents a state that is spread from the one before them, with as many groups fewer on the drive
pub record IsMovedBy (tiers : TiersView) (T : Tiered) (drive moves : ℕ) : Type 0 where
  pub flat : Flat
  pub matches : RepresentsTiers tiers (record T { flat = flat })
  pub spread : IsSpread T.flat flat
  pub left : carriers flat.groups drive + moves ≤ 512

pub no_move : (tiers : TiersView) (T : Tiered) (drive : ℕ) → RepresentsTiers tiers T → IsMovedBy tiers T drive 0
no_move tiers T drive matches = record {
  flat = T.flat;
  matches = matches;
  spread = spread_itself T.flat;
  left = let most = most_carriers T.flat.groups drive matches.world.array.history.groups.table in omega (arith, most);
}

-- what a call of `rebuild` does
abbrev pub Rebuilds : TiersView → TiersView → ℕ → Regrouped → Type 0
Rebuilds old new drive outcome =
    (T : Tiered) → RepresentsTiers old T → (G : Flat) × RebuildCase T.flat drive outcome G × RepresentsTiers new (record T { flat = G })

pub one_move : (old new : TiersView) (T : Tiered) (drive moves : ℕ) (s : Shift) → Rebuilds old new drive (Moved s) → IsMovedBy old T drive moves → IsMovedBy new T drive (moves + 1)
one_move old new T drive moves s does by =
    let done = does (record T { flat = by.flat }) by.matches in
    let shift = done.1.1.0 in
    let plan = done.1.1.1 in
    let moved = done.1.1.2.1 in
    let fewer = one_fewer by.flat.groups drive shift.group shift.member shift.to by.matches.world.array.history.groups.table plan.is.member moved.0.0.1.apart in
    let groups : done.0.groups ≡ with_group by.flat.groups shift.group (swapped_in (group_at by.flat.groups shift.group) shift.member shift.to) = ap (λ (z : Flat). z.groups) moved.3.same in
    let count = ap (λ (z : Groups). carriers z drive) groups in
    let before = by.left in
    record {
      flat = done.0;
      matches = done.2;
      spread = spread_more T.flat by.flat done.0 by.spread (moved_spread by.flat done.0 shift.group shift.member shift.to moved.3);
      left = omega (arith, fewer, count, before);
    }

-- there is nothing more to move
pub all_moved : (old new : TiersView) (T : Tiered) (drive moves : ℕ) → Rebuilds old new drive Nothing → IsMovedBy old T drive moves
    → (G : Flat) × RepresentsTiers new (record T { flat = G }) × IsSpread T.flat G × IsRebuildOf G drive None
all_moved old new T drive moves does by =
    let done = does (record T { flat = by.flat }) by.matches in
    let same = sym done.1.2 in
    (done.0, done.2, subst (λ (F : Flat). IsSpread T.flat F) same by.spread, subst (λ (F : Flat). IsRebuildOf F drive None) same done.1.1)

-- the next move is refused
pub move_refused : (old new : TiersView) (T : Tiered) (drive moves : ℕ) (r : Refusal) → Rebuilds old new drive (regrouped.Refused r) → IsMovedBy old T drive moves
    → (G : Flat) × RepresentsTiers new (record T { flat = G }) × NotEvacuated T.flat drive (Refused r) G
move_refused old new T drive moves r does by =
    let done = does (record T { flat = by.flat }) by.matches in
    (done.0, done.2, (by.flat, by.spread, done.1))

-- the log stays
pub spread_log : (F G : Flat) → IsSpread F G → G.emitted ≡ F.emitted
spread_log F G spread = ap (λ (z : Flat). z.emitted) spread.left.same

pub not_evacuated_log : (F : Flat) (drive : ℕ) (G : Flat) (fault : EvacuationFault) → NotEvacuated F drive fault G → G.emitted ≡ F.emitted
not_evacuated_log F drive G Memory stops = spread_log F G stops
not_evacuated_log F drive G Present stops = ap (λ (z : Flat). z.emitted) stops.1
not_evacuated_log F drive G Stuck stops = spread_log F G stops.0
not_evacuated_log F drive G (Refused r) stops = refused_log stops.2 ∙ spread_log F stops.0 stops.1
  where
    refused_log : RebuildCase stops.0 drive (regrouped.Refused r) G → G.emitted ≡ stops.0.emitted
    refused_log (inl bad) = ap (λ (z : Flat). z.emitted) bad.2
    refused_log (inr case) =
        let shift = case.1.0 in
        ap (λ (z : Flat). z.emitted) (refused_leaves stops.0 G (MoveExtent shift.group shift.member shift.to) r case.1.2).same

-- there are 512 numbers of groups
pub all_clear : (t : Groups) (drive : ℕ) → AreGroups t → ((g : ℕ) → g < 512 → HasMemberOn t g drive → ⊥) → AreClearOf t drive
all_clear t drive are low g on =
    let found = group_of_member (group_at t g) on.0 on.1 on.2 in
    let within = number_within t g (λ none. let bad : Some found.0 ≡ None = sym found.1 ∙ none in cc) in
    let many = are.numbers in
    low g (omega (arith, within, many)) on
