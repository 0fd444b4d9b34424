-- Steps of the flat machine that change groups, and those that claim slots.
use Rattle.std.proofs.Common.{◌≡◌, ℕ, List, Result, None, refl, ◌∙◌, ap, subst}
use Rattle.std.specs.Prelude.{OnOk}
use Rattle.std.proofs.lemmas.Result.{on_ok_weaker}
use Rattle.extent_groups.specs.declared.class.Class.{Class}
use Rattle.extent_groups.specs.declared.class.Member.{Member}
use Rattle.extent_groups.specs.Groups.{Groups, group_at, with_group}
use Rattle.flat_machine.specs.Cases.{Case, Leaves, made}
use Rattle.flat_machine.specs.Flat.{Flat, Worker, with_pair}
use Rattle.flat_machine.specs.Moves.{moved_to, unmade}
use Rattle.flat_machine.specs.Steps.{FlatAnswer, Claim, Claimed, Make, MadeGroup, MoveExtent, MovedExtent, Taken, Unmake, UnmadeGroup}
use Rattle.slot_tables.specs.Represents.{Represents}
use Rattle.slot_tables.specs.Views.{WorldView}
use Rattle.group_changes.specs.Applied.{IsClaimedOf, IsDissolved, IsMade, IsMoved, IsRegrouped}
use Rattle.group_changes.specs.declared.fault.GroupChangeFault.{GroupChangeFault}

-- a state that drives that failed left
left : (F x G : Flat) → Leaves x G → x.drives ≡ F.drives → x.writes ≡ F.writes → x.emitted ≡ F.emitted → IsRegrouped x.groups F G
left F x G leaves drives writes log = record {
  groups_are = ap (λ (z : Flat). z.groups) leaves.same;
  drives = ap (λ (z : Flat). z.drives) leaves.same ∙ drives;
  writes = ap (λ (z : Flat). z.writes) leaves.same ∙ writes;
  log = ap (λ (z : Flat). z.emitted) leaves.same ∙ log;
}

pub claimed_none : (F : Flat) → IsClaimedOf F F
claimed_none F = record { groups_are = refl; drives = refl; writes = refl; log = refl }

claimed_both : (F M G : Flat) → IsClaimedOf F M → IsClaimedOf M G → IsClaimedOf F G
claimed_both F M G one two = record {
  groups_are = two.groups_are ∙ one.groups_are;
  drives = two.drives ∙ one.drives;
  writes = two.writes ∙ one.writes;
  log = two.log ∙ one.log;
}

was_claimed : (F G : Flat) (w s : ℕ) (a : FlatAnswer) → Case F (Claim w s) a G → IsClaimedOf F G
was_claimed F G w s (Claimed t) case = left F (record F { held = with_pair F.held s (Worker w) }) G case.2 refl refl refl
was_claimed F G w s (Taken t) case = left F F G case.2 refl refl refl
was_claimed F G w s _ case = absurd case

-- one slot more was claimed, or is somebody's
pub claimed_more : (F M G : Flat) (w s : ℕ) (a : FlatAnswer) → IsClaimedOf F M → Case M (Claim w s) a G → IsClaimedOf F G
claimed_more F M G w s a one case = claimed_both F M G one (was_claimed M G w s a case)

-- what a call does to each state that the world represents
abbrev pub Does : WorldView → WorldView → (Flat → Flat → Type 0) → Type 0
Does old new P = (F : Flat) → Represents old F → (G : Flat) × P F G × Represents new G

was_made : (F G : Flat) (class : Class) (members : List Member) (g : ℕ) → Case F (Make class members) (MadeGroup g) G → IsMade g class members F G
was_made F G class members g case = record {
  lowest = case.0.2;
  members_are = case.0.0.members_are;
  apart = case.0.0.apart;
  unowned = case.0.0.unowned;
  now = left F (made F class members g) G case.2 refl refl refl;
}

-- a group that was made has the number that was tested
pub made_as : (r : Result (Unit {0}) GroupChangeFault) (old new : WorldView) (class : Class) (members : List Member) (number group : ℕ) → OnOk r (number ≡ group)
    → ((F : Flat) → Represents old F → (G : Flat) × Case F (Make class members) (MadeGroup number) G × Represents new G) → OnOk r (Does old new (IsMade group class members))
made_as r old new class members number group same makes = on_ok_weaker r (λ (is : number ≡ group). λ F was.
    let step = makes F was in
    (step.0, subst (λ n. IsMade n class members F step.0) is (was_made F step.0 class members number step.1), step.2)) same

was_dissolved : (F G : Flat) (w g h : ℕ) → Case F (Unmake w g) (UnmadeGroup h) G → IsDissolved g F G
was_dissolved F G w g h case = record { there = case.1; now = left F (unmade F w g) G case.3 refl refl refl }

-- after claims
dissolved_on : (F M G : Flat) (g : ℕ) → IsClaimedOf F M → IsDissolved g M G → IsDissolved g F G
dissolved_on F M G g one two = record {
  there = λ none. two.there (ap (λ (t : Groups). group_at t g) one.groups_are ∙ none);
  now = record {
    groups_are = two.now.groups_are ∙ ap (λ (t : Groups). with_group t g None) one.groups_are;
    drives = two.now.drives ∙ one.drives;
    writes = two.now.writes ∙ one.writes;
    log = two.now.log ∙ one.log;
  };
}

pub dissolved_as : (old mid new : WorldView) (w g h : ℕ) → Does old mid IsClaimedOf
    → ((F : Flat) → Represents mid F → (G : Flat) × Case F (Unmake w g) (UnmadeGroup h) G × Represents new G) → Does old new (IsDissolved g)
dissolved_as old mid new w g h claims unmakes F was =
    let claimed = claims F was in
    let step = unmakes claimed.0 claimed.2 in
    (step.0, dissolved_on F claimed.0 step.0 g claimed.1 (was_dissolved claimed.0 step.0 w g h step.1), step.2)

was_moved : (F G : Flat) (g k : ℕ) (to : Member) → Case F (MoveExtent g k to) MovedExtent G → IsMoved g k to F G
was_moved F G g k to case = record { there = case.0.0.0; target = case.0.0.1; now = left F (moved_to F g k to) G case.3 refl refl refl }

pub moved_as : (old new : WorldView) (g k : ℕ) (to : Member) → ((F : Flat) → Represents old F → (G : Flat) × Case F (MoveExtent g k to) MovedExtent G × Represents new G)
    → Does old new (IsMoved g k to)
moved_as old new g k to moves F was = let step = moves F was in (step.0, was_moved F step.0 g k to step.1, step.2)
