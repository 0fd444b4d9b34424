-- Words and the hands that they represent.
use Rattle.std.proofs.Common.{◌≡◌, ◌≢◌, ℕ, ◌+◌, ◌*◌, ◌<◌, ◌≤◌, ◌/◌, ◌%◌, ◌==◌, ◌⊎◌, inl, inr, true, false, if◌then◌else◌, List, length, set, get_or, refl, sym, ap, ◌∙◌, arith}
use Rattle.std.specs.Prelude.{replicate}
use Rattle.std.proofs.lemmas.Bool.{cases_eq, cases_lt}
use Rattle.std.proofs.lemmas.List.{map-set, get_or-replicate, get_or_past, length-replicate}
use Rattle.std.proofs.lemmas.Grind.{get_or_default_zero}
use Rattle.std.proofs.Math.ListN.{get_or-map}
use Rattle.slot_tables.specs.declared.hand.Hand.{Hand}
use Rattle.slot_tables.specs.declared.hand.Hand.TheVariants.{Empty, Holds, Waits}
use Rattle.slot_tables.specs.Represents.{is_ticket}
use Rattle.disk_array.specs.InHand.{hand_by, hand_of, hands_of}

-- a word of a slot is replaced
pub word_put : (words : List ℕ) (old : List Hand) (s t word : ℕ) (hand : Hand) → hands_of words ≡ old → s ≡ t → hand_of word ≡ hand
    → hands_of (set words s word) ≡ set old t hand
word_put words old s t word hand same slot is =
    map-set hand_of words s word ∙ ap (set (hands_of words) s) is ∙ ap (λ i. set (hands_of words) i hand) slot ∙ ap (λ (h : List Hand). set h t hand) same

-- the word of a kind and a worker
word_by : (kind worker : ℕ) → worker < 256 → hand_of (256 * kind + worker) ≡ hand_by kind worker
word_by kind worker low =
    let of_kind : (256 * kind + worker) / 256 ≡ kind = omega (arith, low) in
    let rest : (256 * kind + worker) % 256 ≡ worker = omega (arith, low) in
    ap (λ n. hand_by n ((256 * kind + worker) % 256)) of_kind ∙ ap (hand_by kind) rest

pub holds_word : (worker : ℕ) → worker < 256 → hand_of (256 + worker) ≡ Holds worker
holds_word worker low = word_by 1 worker low

pub waits_word : (worker : ℕ) → worker < 256 → hand_of (512 + worker) ≡ Waits worker
waits_word worker low = word_by 2 worker low

-- words that are all 0
abbrev zeros : ℕ → List ℕ
zeros n = replicate n 0

pub none_in_hand : (words : List ℕ) (n s : ℕ) → words ≡ replicate n 0 → get_or (hands_of words) s Empty ≡ Empty
none_in_hand words n s are = get_or-map hand_of words s 0 ∙ ap hand_of (ap (λ (ws : List ℕ). get_or ws s 0) are ∙ zero (cases_lt s n))
  where
    zero : (s < n) ⊎ (n ≤ s) → get_or (zeros n) s 0 ≡ 0
    zero (inl h) = get_or-replicate {A = ℕ} n s 0 0 h
    zero (inr h) = get_or_past (zeros n) s 0 (let many = length-replicate {A = ℕ} n 0 in omega (arith, many, h))

equal : (a b : ℕ) → a ≡ b → (a == b) ≡ true
equal a b same = grind (arith)

differ : (a b : ℕ) → a ≢ b → (a == b) ≡ false
differ a b ne = grind (arith)

-- the word that was read
pub word_read : (words : List ℕ) (s t word : ℕ) → word ≡ get_or words s word → s ≡ t → t < length words → get_or words t 0 ≡ word
word_read words s t word read slot inside = sym (get_or_default_zero words t word inside) ∙ ap (λ i. get_or words i word) (sym slot) ∙ sym read

-- a worker's ticket by its word
pub ticket_word : (words : List ℕ) (old : List Hand) (slot worker : ℕ) → hands_of words ≡ old → worker < 256 → get_or words slot 0 ≡ 512 + worker → is_ticket (get_or old slot Empty) worker ≡ true
ticket_word words old slot worker same low is =
    ap (λ (hands : List Hand). is_ticket (get_or hands slot Empty) worker) (sym same)
    ∙ ap (λ hand. is_ticket hand worker) (get_or-map hand_of words slot 0 ∙ ap hand_of is ∙ waits_word worker low) ∙ equal worker worker refl

pub other_word : (words : List ℕ) (old : List Hand) (slot worker : ℕ) → hands_of words ≡ old → get_or words slot 0 ≢ 512 + worker → is_ticket (get_or old slot Empty) worker ≡ false
other_word words old slot worker same other =
    ap (λ (hands : List Hand). is_ticket (get_or hands slot Empty) worker) (sym same)
    ∙ ap (λ hand. is_ticket hand worker) (get_or-map hand_of words slot 0) ∙ go (get_or words slot 0) other
  where
    by : (kind rest : ℕ) → (kind ≡ 1) ⊎ (kind ≢ 1) → (kind ≡ 2) ⊎ (kind ≢ 2) → (kind ≡ 2 → rest ≢ worker) → is_ticket (hand_by kind rest) worker ≡ false
    by kind rest (inl one) two ne = ap (λ k. is_ticket (hand_by k rest) worker) one
    by kind rest (inr not_one) (inl two) ne = ap (λ k. is_ticket (hand_by k rest) worker) two ∙ differ rest worker (ne two)
    by kind rest (inr not_one) (inr not_two) ne =
        ap (λ b. is_ticket (if b then Holds rest else if kind == 2 then Waits rest else Empty) worker) (differ kind 1 not_one)
        ∙ ap (λ b. is_ticket (if b then Waits rest else Empty) worker) (differ kind 2 not_two)

    go : (word : ℕ) → word ≢ 512 + worker → is_ticket (hand_of word) worker ≡ false
    go word ne = by (word / 256) (word % 256) (cases_eq (word / 256) 1) (cases_eq (word / 256) 2) (λ two rest. ne (omega (arith, two, rest)))
