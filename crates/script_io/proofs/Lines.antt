-- What a line is, and what it leads to.
use Rattle.std.proofs.Common.{◌≡◌, ℕ, List, [], ◌∷◌, ◌++◌, length, take, Option, Result, Ok, Err, refl, ap, ◌∙◌, append_assoc}
use Rattle.std.proofs.Math.Seq.{take-append_seam}
use Rattle.std.specs.Prelude.{OnOk}
use Rattle.script_exec.specs.declared.bench.Bench.{Bench}
use Rattle.script_exec.specs.State.{State}
use Rattle.script_exec.specs.Prefix.{IsPrefix}
use Rattle.script_exec.specs.Replies.{IsReplied, Replies}
use Rattle.script_exec.specs.Meaning.{IsParsedLine, Do, Means, Wrong, fault_line}
use Rattle.script_io.specs.Feeding.{ReportsFault, IsLineReported, LineComes}
use Rattle.script_exec.specs.declared.why.Failure.TheVariants as failure
use Rattle.script_io.specs.declared.stop.Stop.{Stop}
use Rattle.script_io.specs.declared.stop.Stop.TheVariants as stop
use Rattle.script_exec.specs.declared.why.Why.{Why}
use Rattle.script_exec.specs.declared.why.Why.TheVariants as why

-- a fault that was reported is what the line leads to
pub wrong_line : (r : Result (Unit {0}) Stop) (n : ℕ) (state : State) (bench : Option Bench) (line old new : List ℕ) (reason : Why)
    → ReportsFault r n reason old new → Means n state line (Wrong reason) → LineComes r n state bench line old new
wrong_line (Ok u) n state bench line old new reason reported means = absurd reported
wrong_line (Err stop.Memory) n state bench line old new reason reported means = tt
wrong_line (Err stop.Fault) n state bench line old new reason reported means = record {
  bytes = fault_line n reason;
  out = reported;
  reported = λ lines. (Wrong reason, means, (refl, refl));
}

-- a command that was answered, and the end of the answer
pub answered_line : (n : ℕ) (state : State) (bench : Option Bench) (line old mid new : List ℕ) → IsParsedLine n line
    → IsReplied state bench line old mid → new ≡ mid ++ 10 ∷ [] → IsLineReported n state bench line old new
answered_line n state bench line old mid new counts replied ended = let a = replied.answered.carried in record {
  next = a.next;
  matches = a.matches;
  bytes = a.text ++ 10 ∷ [];
  out = ended ∙ ap (λ xs. xs ++ 10 ∷ []) a.out ∙ append_assoc old a.text (10 ∷ []);
  reported = λ lines more last rest. (
    Do replied.order,
    (counts, record { spells = replied.spells; due = replied.answered.due }, replied.answered.range),
    (a.text, a.next, more, a.answers, append_assoc a.text (10 ∷ []) more, rest),
  );
}

-- a fault reported after a reply that appended nothing
reported_from : (r : Result (Unit {0}) Stop) (n : ℕ) (reason : Why) (old mid new : List ℕ) → mid ≡ old
    → ReportsFault r n reason mid new → ReportsFault r n reason old new
reported_from r n reason old mid new same reported = rw (← same) reported

-- a line that was not answered
pub refused_line : (r : Result (Unit {0}) Stop) (reason : Why) (n : ℕ) (state : State) (bench after : Option Bench)
    (line old mid new : List ℕ) → IsParsedLine n line → Replies (Err (failure.Wrong reason)) state after line old mid
    → ReportsFault r n reason mid new → LineComes r n state bench line old new
refused_line r why.Many n state bench after line old mid new counts replied reported = absurd replied
refused_line r why.Long n state bench after line old mid new counts replied reported = absurd replied
refused_line r why.Form n state bench after line old mid new counts replied reported =
    wrong_line r n state bench line old new why.Form (reported_from r n why.Form old mid new replied.out reported) (counts, replied.none)
refused_line r why.Range n state bench after line old mid new counts replied reported =
    let limits = replied.limits in
    wrong_line r n state bench line old new why.Range (reported_from r n why.Range old mid new limits.out reported)
    (counts, (replied.order, record { spells = replied.spells; due = limits.due }, limits.range))

-- five texts, one after the other
pub reported_five : {E : Type 0} (r : Result (Unit {0}) E) (old one two three four five a b c d e : List ℕ) → one ≡ old ++ a → two ≡ one ++ b
    → three ≡ two ++ c → four ≡ three ++ d → OnOk r (five ≡ four ++ e) → OnOk r (five ≡ old ++ (a ++ (b ++ (c ++ (d ++ e)))))
reported_five (Ok u) old one two three four five a b c d e first second third fourth fifth =
    fifth ∙ simp (fourth, third, second, first, append_assoc)
reported_five (Err f) old one two three four five a b c d e first second third fourth fifth = tt

-- a text that grew and is truncated to its old length is the old text
pub cut_back : (old mid new : List ℕ) (whole : ℕ) → whole ≡ length old → IsPrefix old mid → new ≡ take whole mid → new ≡ old
cut_back old mid new whole size kept cut =
    cut ∙ ap (λ n. take n mid) size ∙ ap (take (length old)) kept.out ∙ take-append_seam old kept.more
