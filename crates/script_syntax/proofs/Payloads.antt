-- Texts that are a payload alone, and those that aren't.
use Rattle.std.proofs.Common.{◌≡◌, ℕ, Bool, true, false, List, [], ◌∷◌, Ok, Err, Result, length, refl, sym, ap, ◌∙◌, arith}
use Rattle.std.specs.Prelude.{MatchResult}
use Rattle.std.specs.List.{AllPass, join_with_byte}
use Rattle.std.proofs.lemmas.List.Elements.{All-weaker}
use Rattle.std.proofs.lemmas.List.Splits.{join_with_byte-slice_split}
use Rattle.hex.specs.Hex.{decode_of, decode_sized, is_hex_digit}
use Rattle.hex.specs.declared.error.FromHexError.{FromHexError}
use Rattle.hex.proofs.HexLemmas.{IsOk-decode_sized, decode_of-ok, decode_sized-twice}
use Rattle.script_syntax.specs.Spelling.{PayloadAlone}
use Rattle.script_syntax.specs.Words.{words}
use Rattle.script_syntax.proofs.Splits.{Differs, one_part}

-- a digit is no space
no_space : (digit : ℕ) → is_hex_digit digit ≡ true → Differs 32 digit
no_space digit h = grind (arith)

-- so a text that decodes is one word
one_word : (text : List ℕ) → AllPass is_hex_digit text → words text ≡ text ∷ []
one_word text digits = one_part 32 text (All-weaker (λ digit. is_hex_digit digit ≡ true) (Differs 32) no_space text digits)

-- a text that decodes is the payload alone
pub payload_alone : (text new : List ℕ) (size : ℕ) (reported : Bool)
    → MatchResult (decode_sized text size) (λ bytes. (reported ≡ true) × (new ≡ bytes)) (λ e. reported ≡ false) → reported ≡ true
    → PayloadAlone new (words text)
payload_alone text new size reported value is_reported = go (decode_sized text size) refl value
  where
    go : (r : Result (List ℕ) FromHexError) → decode_sized text size ≡ r
        → MatchResult r (λ bytes. (reported ≡ true) × (new ≡ bytes)) (λ e. reported ≡ false) → PayloadAlone new (words text)
    go (Ok bytes) e h =
        let digits = (IsOk-decode_sized text size).0 (rw e refl) in record {
          digits = text;
          decoded = sym (decode_sized-twice text size digits.0) ∙ e ∙ ap Ok (sym h.1);
          spelled = one_word text digits.1;
        }
    go (Err f) e h = absurd (cc (sym is_reported ∙ h))

-- a text that doesn't decode is no payload of this size
pub no_payload : (text : List ℕ) (size : ℕ) (reported : Bool) (P : List ℕ → Type 0)
    → MatchResult (decode_sized text size) (λ bytes. (reported ≡ true) × P bytes) (λ e. reported ≡ false) → reported ≡ false
    → (payload : List ℕ) → length payload ≡ size → PayloadAlone payload (words text) → ⊥
no_payload text size reported P value not_reported payload long alone =
    let same : text ≡ alone.digits = sym (join_with_byte-slice_split 32 text) ∙ ap (join_with_byte 32) alone.spelled in
    let decoded : decode_of text ≡ Ok payload = rw same alone.decoded in
    let twice = (decode_of-ok text payload decoded).2 in
    let sized : decode_sized text size ≡ Ok payload = decode_sized-twice text size (omega arith) ∙ decoded in
    let yes = rw sized at value in
    cc (sym yes.0 ∙ not_reported)
