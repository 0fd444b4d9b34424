-- A refusal by a check or by the drives isn't out of memory.
use Rattle.std.proofs.Common.{◌≡◌, ◌≢◌, ℕ, Bool, true, false, cond, nat_le, subst, inl, inr, Option, Some, None}
use Rattle.map_join.specs.declared.records.Record.{Record}
use Rattle.extent_groups.specs.declared.class.Class.{Class}
use Rattle.extent_groups.specs.declared.class.Class.TheVariants.{Mirrored, Parity}
use Rattle.extent_groups.specs.declared.class.Member.{Member}
use Rattle.extent_groups.specs.Groups.{Groups}
use Rattle.flat_machine.specs.Cases.{last_hop}
use Rattle.flat_machine.specs.Groups.{class_at}
use Rattle.flat_machine.specs.Moves.{IsMoveReason}
use Rattle.flat_machine.specs.declared.refusal.Refusal.{Refusal}
use Rattle.flat_machine.specs.declared.refusal.Refusal.TheVariants.{Memory, HopsSpent}
use Rattle.unit_store.specs.Views.{PartsView, FoundGone, WasNotCarried, NotShifted, lost_of}
use Rattle.unit_store.specs.Shifting.{IsWhyUnmoved}
use Rattle.slot_tables.specs.Changes.{fill_reason, fill_reason_of, copy_reason, copy_reason_of}
use Rattle.slot_tables.specs.Views.{Kept, Nothing, Pending, Moving, Newest, Unmade, ArrayView, kept_at}

-- the refusal of a slot that is gone
pub gone_reported : (a b : PartsView) (slot : ℕ) (q : Refusal) → FoundGone a b slot q → q ≢ Memory
gone_reported a b slot q gone is = let reported = gone.reported in cc

pub uncarried_reported : (a b : PartsView) (from to : ℕ) (q : Refusal) → WasNotCarried a b from to q → q ≢ Memory
uncarried_reported a b from to q (inl gone) = gone_reported a b from q gone
uncarried_reported a b from to q (inr gone) = gone_reported a b to q gone.1

-- the refusal of a member that wasn't moved
pub unmoved_reported : (a b : PartsView) (g k : ℕ) (to : Member) (q : Refusal) → NotShifted a g k to b q → q ≢ Memory
unmoved_reported a b g k to q not is = subst (IsWhyUnmoved b.groups (lost_of b) g k to) is not.reported

-- the reason against a fill, a copy or a move
pub unfilled_reported : (a : ArrayView) (slot : ℕ) (q : Refusal) → fill_reason a slot ≡ Some q → q ≢ Memory
unfilled_reported a slot q = go (class_at a.parts.groups slot) (kept_at a slot)
  where
    go : (c : Option Class) (k : Kept) → fill_reason_of c k ≡ Some q → q ≢ Memory
    go None k e is = cc
    go (Some Parity) k e is = cc
    go (Some Mirrored) Nothing e is = cc
    go (Some Mirrored) (Pending k) e is = cc
    go (Some Mirrored) (Moving r k) e is = cc
    go (Some Mirrored) (Newest b) e is = cc
    go (Some Mirrored) Unmade e is = cc

pub uncopied_reported : (a : ArrayView) (slot : ℕ) (found : Option Record) (q : Refusal) → copy_reason a slot found ≡ Some q → q ≢ Memory
uncopied_reported a slot found q = go (class_at a.parts.groups slot) (kept_at a slot) found
  where
    spent : (last : Bool) → cond last (Some HopsSpent) None ≡ Some q → q ≢ Memory
    spent true e is = cc
    spent false e is = cc

    go : (c : Option Class) (k : Kept) (o : Option Record) → copy_reason_of c k o ≡ Some q → q ≢ Memory
    go None k o e is = cc
    go (Some c) Nothing None e is = cc
    go (Some c) Nothing (Some r) e is = spent (nat_le last_hop r.hop) e is
    go (Some c) (Pending k) o e is = cc
    go (Some c) (Moving r k) o e is = cc
    go (Some c) (Newest b) o e is = cc
    go (Some c) Unmade o e is = cc

pub unfit_reported : (groups : Groups) (drives g k : ℕ) (to : Member) (q : Refusal) → IsMoveReason groups drives g k to (Some q) → q ≢ Memory
unfit_reported groups drives g k to q reason is = subst (λ r. IsMoveReason groups drives g k to (Some r)) is reason
