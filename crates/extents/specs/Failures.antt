-- How a drive failed spontaneously, and whether it may fail again.
use Rattle.std.specs.Prelude.{◌≡◌, ℕ, ◌+◌, Bool, true, false}
use Rattle.extents.specs.Units.{loss}

-- how often a drive failed spontaneously, and whether it is steady: no failure of its own lies ahead
pub record Failures : Type 0 where
  pub count : ℕ
  pub steady : Bool

-- of a drive that never failed and won't
abbrev pub no_failures : Failures
no_failures = record { count = 0; steady = true }

-- of a drive that failed `count` times, and isn't steady
abbrev pub unsteady : ℕ → Failures
unsteady count = record { count = count; steady = false }

-- of a drive that is lost: none lies ahead
abbrev pub settled : Failures → Failures
settled f = record f { steady = true }

-- of a drive that was given a fuse, which one that is lost doesn't take
abbrev pub fused : Bool → Failures → Failures
fused lost f = record f { steady = lost }

-- one failure more where the drive is lost now and wasn't, and else not
abbrev pub CountsFailure : Bool → Bool → Failures → Failures → Type 0
CountsFailure was is before after = after.count ≡ before.count + loss was is

-- a steady drive stays steady, and isn't lost now if it wasn't
abbrev pub StaysSteady : Bool → Bool → Failures → Failures → Type 0
StaysSteady was is before after = before.steady ≡ true → (after.steady ≡ true) × (is ≡ was)
