-- What a drive in memory does with its next call.
use Rattle.std.specs.Prelude.{ℕ, ◌-◌, Bool, true, false, List, nat_le, if◌then◌else◌}
use Rattle.extents.specs.Failures.{Failures, no_failures, unsteady}
use Rattle.extents.specs.declared.mem_drive.Condition.{Condition}
use Rattle.extents.specs.declared.mem_drive.Condition.TheVariants.{Present, Fused, Lost, Burnt}

-- a drive in memory, as a caller sees it: its units, and what it does with its next call
pub record Held : Type 0 where
  pub units : List (List ℕ)
  pub condition : Condition

-- whether the drive is lost
abbrev pub is_gone : Condition → Bool
is_gone Present = false
is_gone (Fused _) = false
is_gone Lost = true
is_gone Burnt = true

-- how often the drive failed spontaneously: once, where its fuse burnt; it is steady where no fuse is set
abbrev pub failures_of : Condition → Failures
failures_of Present = no_failures
failures_of (Fused _) = unsteady 0
failures_of Lost = no_failures
failures_of Burnt = record { count = 1; steady = true }

-- what a read or a write makes of it: the fuse has one call less, and burns at its last one
abbrev pub after_call : Condition → Condition
after_call (Fused calls) = (if nat_le calls 1 then Burnt else Fused (calls - 1))
after_call Present = Present
after_call Lost = Lost
after_call Burnt = Burnt

-- what a loss from outside makes of it: a fuse that burnt stays burnt
abbrev pub after_loss : Condition → Condition
after_loss Burnt = Burnt
after_loss _ = Lost

-- what a fuse that burns at the k-th call makes of it: nothing, where the drive is lost already
abbrev pub after_fuse : Condition → ℕ → Condition
after_fuse Lost _ = Lost
after_fuse Burnt _ = Burnt
after_fuse _ calls = Fused calls
