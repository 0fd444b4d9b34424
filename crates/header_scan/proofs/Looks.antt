-- What the header of a slot holds, by the slot's unit.
use Rattle.std.proofs.Common.{◌≡◌, ℕ, Option, Some, List, take, subst}
use Rattle.std.specs.Prelude.{Result, Ok, Err, IfOk, IfErr}
use Rattle.map_join.specs.declared.records.Record.{Record}
use Rattle.extents.specs.declared.header.Header.{Header}
use Rattle.extents.specs.declared.header.HeaderFault.{HeaderFault}
use Rattle.extents.specs.Header.{Spells, record_in}
use Rattle.header_scan.specs.declared.fault.ScanFault.{ScanFault}
use Rattle.header_scan.specs.declared.fault.ScanFault.TheVariants.{BadHeader, WrongSlot}
use Rattle.header_scan.specs.Faults.{SlotUnits, IsFine, IsRanged, Reports, IsFaultAt, IsSlotFault}

-- a header that is spelled holds this
abbrev pub Reported : List ℕ → Option Record → Type 0
Reported unit o = (h : Header) × Spells (take 32 unit) h × (record_in h ≡ o)

pub reports : (blocks slot : ℕ) (bytes : SlotUnits) (unit : List ℕ) (reported : Result (Option Record) HeaderFault) (result : Result (Option Record) ScanFault) → bytes slot ≡ Some unit → IfOk reported (Reported unit) → IfOk reported IsRanged
    → IfOk result (λ o. (reported ≡ Ok o) × IsFine blocks slot o) → IfOk result (Reports blocks bytes slot)
reports blocks slot bytes unit reported (Ok o) at header ranges fine =
    (unit, at, subst (λ t. IfOk t (Reported unit)) fine.0 header, fine.1, subst (λ t. IfOk t IsRanged) fine.0 ranges)
reports blocks slot bytes unit reported (Err e) at header ranges fine = tt

misfit : (blocks slot : ℕ) (bytes left : SlotUnits) (unit : List ℕ) (reported : Result (Option Record) HeaderFault) (fault : ScanFault) → bytes slot ≡ Some unit → IfOk reported (Reported unit)
    → ((h : Header) → Spells (take 32 unit) h → reported ≡ Ok (record_in h)) → IsSlotFault reported blocks slot fault → IsFaultAt blocks bytes left slot fault
misfit blocks slot bytes left unit (Err f) (BadHeader s) at header only is = (is, (unit, at, λ h spells. absurd (let both : Err f ≡ Ok (record_in h) = only h spells in cc)))
misfit blocks slot bytes left unit (Ok (Some r)) (BadHeader s) at header only is =
    (is.0, (unit, at, λ h spells. (r, (let both : Ok (Some r) ≡ Ok (record_in h) = only h spells in cc), is.1)))
misfit blocks slot bytes left unit (Ok (Some r)) (WrongSlot s t) at header only is =
    (is.0, is.1, (r, (unit, at, header), is.2, is.3))
misfit blocks slot bytes left unit reported fault at header only is = absurd is

pub misfits : (blocks slot : ℕ) (bytes left : SlotUnits) (unit : List ℕ) (reported : Result (Option Record) HeaderFault) (result : Result (Option Record) ScanFault) → bytes slot ≡ Some unit → IfOk reported (Reported unit)
    → ((h : Header) → Spells (take 32 unit) h → reported ≡ Ok (record_in h)) → IfErr result (IsSlotFault reported blocks slot) → IfErr result (IsFaultAt blocks bytes left slot)
misfits blocks slot bytes left unit reported (Ok o) at header only is = tt
misfits blocks slot bytes left unit reported (Err e) at header only is = misfit blocks slot bytes left unit reported e at header only is

-- what isn't refused is what the header holds, in its ranges
pub ranged : (blocks slot : ℕ) (reported : Result (Option Record) HeaderFault) (result : Result (Option Record) ScanFault) → IfOk reported IsRanged
    → IfOk result (λ o. (reported ≡ Ok o) × IsFine blocks slot o) → IfOk result IsRanged
ranged blocks slot reported (Ok o) ranges fine = subst (λ t. IfOk t IsRanged) fine.0 ranges
ranged blocks slot reported (Err e) ranges fine = tt
