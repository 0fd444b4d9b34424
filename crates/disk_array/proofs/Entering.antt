-- The result where a group couldn't be made: an allocation for the places of its slots failed, or a drive was lost.
use Rattle.std.proofs.Common.{◌≡◌, ℕ, ◌⊎◌, inl, inr, List, sym, subst, None}
use Rattle.extent_groups.specs.declared.class.Class.{Class}
use Rattle.extent_groups.specs.declared.class.Member.{Member}
use Rattle.flat_machine.specs.declared.refusal.Refusal.{Refusal}
use Rattle.flat_machine.specs.declared.refusal.Refusal.TheVariants.{Memory}
use Rattle.flat_machine.specs.Flat.{Flat}
use Rattle.flat_machine.specs.Groups.{IsLowestFree}
use Rattle.flat_machine.specs.Steps.{Make, Refused}
use Rattle.flat_machine.specs.Cases.{IsAllocating, MakeCase}
use Rattle.unit_store.specs.Views.{FoundLost}
use Rattle.slot_tables.specs.Changes.{MayRefuse}
use Rattle.slot_tables.specs.Making.{IsMakeReason}
use Rattle.slot_tables.specs.Represents.{ShowsArray}
use Rattle.slot_tables.specs.Views.{ArrayView, with_parts}
use Rattle.slot_tables.proofs.Makings.{make_lost, make_passes}
use Rattle.disk_array.proofs.Ready.{as_refused}

pub not_made : (a b : ArrayView) (F : Flat) (class : Class) (members : List Member) (g : ℕ) (q : Refusal) → IsMakeReason a members None → IsLowestFree a.parts.groups g
    → b ≡ with_parts a b.parts → ((q ≡ Memory) × (b.parts ≡ a.parts)) ⊎ (FoundLost a.parts members b.parts q) → ShowsArray a F
    → MayRefuse q (IsAllocating F (Make class members)) ((G : Flat) × MakeCase F class members (Refused q) G × ShowsArray b G)
not_made a b F class members g q reason lowest rest (inl none) shows =
    subst (λ z. MayRefuse z (IsAllocating F (Make class members)) ((G : Flat) × MakeCase F class members (Refused z) G × ShowsArray b G)) (sym none.0)
    (g, make_passes a F members g reason lowest shows)
not_made a b F class members g q reason lowest rest (inr found) shows =
    as_refused q (IsAllocating F (Make class members)) (λ G. MakeCase F class members (Refused q) G) b (with_parts a b.parts) rest
    (make_lost a b.parts F class members g q reason lowest found shows)
