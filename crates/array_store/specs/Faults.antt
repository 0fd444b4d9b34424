-- What a refusal of the array means for a store.
use Rattle.byte_store.specs.declared.fault.StoreFault.{StoreFault}
use Rattle.byte_store.specs.declared.fault.StoreFault.TheVariants as fault
use Rattle.flat_machine.specs.declared.refusal.Refusal.{Refusal}
use Rattle.flat_machine.specs.declared.refusal.Refusal.TheVariants as refusal

-- a slot that is gone, or nowhere to go: versions and the log's numbers are used up, or no slot is free
abbrev pub fault_of : Refusal → StoreFault
fault_of (refusal.Gone slot) = fault.Gone
fault_of _ = fault.NoSpace
