-- Words that name no record.
use Rattle.std.proofs.Common.{◌≡◌, ℕ, List, [], ◌∷◌, Ok, Err, Result, sym, ◌∙◌, arith}
use Rattle.std.specs.Prelude.{MatchResult, IfNone}
use Rattle.hex.specs.Hex.{decode_sized}
use Rattle.hex.specs.declared.error.FromHexError.{FromHexError}
use Rattle.hex.proofs.HexLemmas.{decode_of-ok, decode_sized-twice}
use Rattle.map_join.specs.declared.records.Record.{Record}
use Rattle.std.proofs.Common.{Option, Some, None}
use Rattle.script_syntax.specs.Spelling.{IsRecordWord, RecordAlone}

-- digits that aren't those of twelve bytes
pub no_record : (word : List ℕ) (result : Result (Unit {0}) FromHexError) (e : FromHexError) (P : List ℕ → Type 0)
    → MatchResult (decode_sized word 12) (λ bytes. (result ≡ Ok tt) × P bytes) (λ f. result ≡ Err f) → result ≡ Err e
    → (r : Record) → IsRecordWord r word → ⊥
no_record word result e P value refused r named =
    let long = named.spells.length in
    let twice = (decode_of-ok word named.bytes named.decoded).2 in
    let sized : decode_sized word 12 ≡ Ok named.bytes = decode_sized-twice word 12 (omega arith) ∙ named.decoded in
    let reported = rw sized at value in
    let ok = reported.0 in
    cc (sym ok ∙ refused)

-- a single word that names no record isn't that of a record
pub not_alone : (ws : List (List ℕ)) (word : List ℕ) → ws ≡ word ∷ [] → ((r : Record) → IsRecordWord r word → ⊥)
    → (r : Record) → RecordAlone r ws → ⊥
not_alone ws word spelled none r alone =
    let same : alone.word ≡ word = let reported = sym alone.spelled ∙ spelled in cc in
    let named : IsRecordWord r word = rw (← same) alone.named in
    none r named

pub none_alone : (ws : List (List ℕ)) (word : List ℕ) (result : Option Record) → ws ≡ word ∷ []
    → IfNone result ((r : Record) → IsRecordWord r word → ⊥) → IfNone result ((r : Record) → RecordAlone r ws → ⊥)
none_alone ws word None spelled none = not_alone ws word spelled none
none_alone ws word (Some r) spelled none = tt
