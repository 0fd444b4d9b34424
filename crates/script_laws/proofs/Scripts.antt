-- A script says one text, and ends in one way.
use Rattle.std.proofs.Common.{◌≡◌, ℕ, ◌+◌, List, [], ◌∷◌, ◌++◌, sym, ap, ◌∙◌, subst, None}
use Rattle.script_exec.specs.State.{State}
use Rattle.script_exec.specs.Meaning.{Meaning, Skip, Do, Wrong, Means}
use Rattle.script_io.specs.Says.{Goes, IsTranscript, Says, lines_of}
use Rattle.script_io.specs.declared.end.End.{End}
use Rattle.script_exec.proofs.Once.{means_once}
use Rattle.script_laws.specs.Bench.{IsOneBench}
use Rattle.script_laws.proofs.Answers.{answers_settle}

-- the lines from line n on say one text from each state
abbrev ReportOnce : ℕ → List (List ℕ) → Type 0
ReportOnce n lines = (state : State) (out other : List ℕ) (last end : End) → IsOneBench state → IsTranscript n state lines out last → IsTranscript n state lines other end → (out ≡ other) × (last ≡ end)

-- the text from a line on, where its meaning is given
goes_once : (n : ℕ) (state : State) (line : List ℕ) (lines : List (List ℕ)) (meaning : Meaning) (out other : List ℕ) (last end : End) → IsOneBench state → Means n state line meaning
    → ReportOnce (n + 1) lines → Goes n state meaning (λ t more. IsTranscript (n + 1) t lines more last) out last → Goes n state meaning (λ t more. IsTranscript (n + 1) t lines more end) other end
    → (out ≡ other) × (last ≡ end)
goes_once n state line lines Skip out other last end is means rest a b = rest state out other last end is a b
goes_once n state line lines (Do order) out other last end is means rest a b =
    let settles = answers_settle state order is means.1.due means.2 in
    let same = settles.once a.0 b.0 a.1 b.1 a.3 b.3 in
    let moved : IsTranscript (n + 1) b.1 lines a.2 last = subst (λ t. IsTranscript (n + 1) t lines a.2 last) same.1 a.5 in
    let more = rest b.1 a.2 b.2 last end (settles.keeps b.0 b.1 b.3) moved b.5 in
    (a.4 ∙ ap (λ text. text ++ 10 ∷ a.2) same.0 ∙ ap (λ text. b.0 ++ 10 ∷ text) more.0 ∙ sym b.4, more.1)
goes_once n state line lines (Wrong why) out other last end is means rest a b = (a.0 ∙ sym b.0, a.1 ∙ sym b.1)

-- all lines do
reports_once : (n : ℕ) (lines : List (List ℕ)) → ReportOnce n lines
reports_once n [] state out other last end is a b = (a.0 ∙ sym b.0, a.1 ∙ sym b.1)
reports_once n (line ∷ lines) state out other last end is a b =
    let same : a.0 ≡ b.0 = means_once n state line a.0 b.0 a.1 b.1 in
    let moved : Goes n state b.0 (λ t more. IsTranscript (n + 1) t lines more last) out last = subst (λ m. Goes n state m (λ t more. IsTranscript (n + 1) t lines more last) out last) same a.2 in
    goes_once n state line lines b.0 out other last end is b.1 (reports_once (n + 1) lines) moved b.2

-- a script says one text, and ends in one way
pub says_once : (script one other : List ℕ) (first last : End) → Says script one first → Says script other last → (one ≡ other) × (first ≡ last)
says_once script one other first last a b = reports_once 1 (lines_of script) None one other first last tt a b
