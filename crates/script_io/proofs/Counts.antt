-- How many bytes more a script may have.
use Rattle.std.proofs.Common.{◌≡◌, ℕ, suc, ◌+◌, ◌-◌, ◌*◌, ◌≤◌, List, length, Result, Ok, Err, ap, inl, inr, arith}
use Rattle.std.specs.Prelude.{OnOk}
use Rattle.std.proofs.lemmas.Bool.{cases_lt}
use Rattle.script_exec.specs.Meaning.{most_bytes, most_lines}
use Rattle.script_io.specs.Feeding.{IsScript, most_left}
use Rattle.script_io.specs.declared.script.Script.{Script}

-- a line of the chunk was read
pub line_read : (old mid new chunk rest part following : ℕ) → mid + chunk ≤ old + rest → new + (part + 1) ≤ mid
    → rest ≡ part + suc following → new + chunk ≤ old + following
line_read old mid new chunk rest part following along ended cut = omega (arith, along, ended, cut)

-- the rest of the chunk was read
pub rest_read : {E : Type 0} (r : Result (Unit {0}) E) (old mid new chunk rest : ℕ) → mid + chunk ≤ old + rest → OnOk r (new + rest ≤ mid)
    → OnOk r (new + chunk ≤ old)
rest_read (Ok u) old mid new chunk rest along taken = omega (arith, along, taken)
rest_read (Err e) old mid new chunk rest along taken = tt

-- how many bytes may come from line n on
abbrev pub room : ℕ → ℕ
room n = (most_lines + 1 - n) * (most_bytes + 1)

-- once the open line was answered with its end, at least one byte less may come
pub open_answered : (old : Script) (line middle left now : List ℕ) (next : ℕ) → IsScript old → line ≡ old.line.items
    → length middle ≡ 0 → length left ≡ 0 → length now ≡ 0
    → room next - length left + (length line + 1) ≤ room old.number - length middle → room next - length now + 1 ≤ most_left old
open_answered old line middle left now next good is empty none cleared fewer =
    elim (cases_lt 0 (length old.line.items)) [
      | inl some ↦
          let soon : old.number ≤ 1000000 = good.soon some in
          omega (arith, good.short, soon, ap length is, empty, none, cleared, fewer)
      | inr nothing ↦ omega (arith, ap length is, empty, none, cleared, fewer, nothing)
    ]
