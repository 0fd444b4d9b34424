-- The bytes that are decoded so far.
use Rattle.std.proofs.Common.{◌≡◌, ℕ, ◌+◌, ◌*◌, ◌%◌, ◌≤◌, List, [], ◌++◌, length, map, take, drop, replicate, Bool, true, false, Result, Ok, Err, refl, sym, ap, ◌∙◌, arith, rules, append-nil, ◌-◌}
use Rattle.std.proofs.lemmas.List.{take-append-drop, length-take-le, length-drop, drop_all, map-append}
use Rattle.std.proofs.lemmas.Simd.{take_more_put_chunk, length-chunk, length-put_chunk}
use Rattle.std.specs.Prelude.{MatchResult}
use Rattle.std.specs.List.{between}
use Rattle.std.specs.Result.{is_ok}
use Rattle.std.proofs.lemmas.Slice.{between_to_end}
use Rattle.std.specs.Simd.Lanes.{Each1, chunk, put_chunk}
use borrow.Rule.Slice.PartMut.{put_mid}
use Rattle.hex.specs.Hex.{decode_sized}
use Rattle.hex.specs.declared.error.FromHexError.{FromHexError}
use Rattle.hex_lanes.specs.Halves.{value_or_more, joined_halves}
use Rattle.hex_lanes.proofs.Lanes.{IsHalf, take_chunk, two_chunks}
use Rattle.hex_lanes.proofs.Spelled.{IsDigit, spelled, spelled-append, length-spelled, Each1-append, Each1-following, digits_of, decoded, digits_from_values}

-- the first k bytes are decoded
pub record IsDone (k : ℕ) (digits out : List ℕ) : Type 0 where
  pub are : Each1 IsDigit (take (2 * k) digits)
  pub spelled_is : take k out ≡ spelled (take (2 * k) digits)

pub none_done : (digits out : List ℕ) → IsDone 0 digits out
none_done digits out = record { are = tt; spelled_is = refl }

-- n bytes more
more_done : (k n : ℕ) (digits out values bytes : List ℕ) → k + n ≤ length out → length digits ≡ 2 * length out
    → values ≡ map value_or_more (chunk (2 * k) (2 * n) digits) → Each1 IsHalf values → bytes ≡ joined_halves values
    → IsDone k digits out → IsDone (k + n) digits (put_chunk k out bytes)
more_done k n digits out values bytes fits twice is halves joins done =
    let more : List ℕ = chunk (2 * k) (2 * n) digits in
    let front : take (2 * (k + n)) digits ≡ take (2 * k) digits ++ more = take_chunk (2 * k) (2 * n) _ digits (omega arith) in
    let even : length (take (2 * k) digits) % 2 ≡ 0 = omega (arith, length-take-le (2 * k) digits (omega (arith, fits, twice))) in
    let spells : bytes ≡ spelled more = joins ∙ ap joined_halves is in
    let long : length bytes ≡ n = ap length spells ∙ length-spelled n more (length-chunk (2 * k) (2 * n) digits (omega (arith, fits, twice))) in
    let written = take_more_put_chunk k out bytes (k + n) (omega (arith, long)) (omega (arith, fits)) in record {
      are = rw front (Each1-append IsDigit _ more done.are (digits_from_values more (rw is at halves)));
      spelled_is = rw (front, spelled-append (take (2 * k) digits) more even, written, done.spelled_is, spells) refl;
    }

-- one step more
pub step_done : (s : ℕ) (digits out values bytes : List ℕ) → 8 * s + 8 ≤ length out → length digits ≡ 2 * length out
    → values ≡ map value_or_more (chunk (2 * (8 * s)) 16 digits) → Each1 IsHalf values → bytes ≡ joined_halves values
    → IsDone (8 * s) digits out → IsDone (8 * (s + 1)) digits (put_chunk (8 * s) out bytes)
step_done s digits out values bytes fits twice is halves joins done =
    let next : 8 * (s + 1) ≡ 8 * s + 8 = omega arith in
    rw next (more_done (8 * s) 8 digits out values bytes fits twice is halves joins done)

-- the digits of two vectors more
pair_done : (k : ℕ) (digits out first second bytes : List ℕ) → k + 16 ≤ length out → length digits ≡ 2 * length out
    → first ≡ map value_or_more (chunk (2 * k) 16 digits) → second ≡ map value_or_more (chunk (2 * k + 16) 16 digits)
    → Each1 IsHalf first → Each1 IsHalf second → bytes ≡ joined_halves (first ++ second)
    → IsDone k digits out → IsDone (k + 16) digits (put_chunk k out bytes)
pair_done k digits out first second bytes fits twice one other halves too joins done =
    let is : first ++ second ≡ map value_or_more (chunk (2 * k) 32 digits) =
    rw (two_chunks (2 * k) 16 16 (2 * k + 16) 32 digits refl refl, map-append value_or_more (chunk (2 * k) 16 digits) (chunk (2 * k + 16) 16 digits), one, other) refl in
    more_done k 16 digits out (first ++ second) bytes fits twice is (Each1-append IsHalf first second halves too) joins done

-- a vector holds the values of the digits, and these are half bytes
pub record IsRead (at : ℕ) (digits values : List ℕ) : Type 0 where
  pub are : values ≡ map value_or_more (chunk at 16 digits)
  pub halves : Each1 IsHalf values

-- one turn more
pub turn_done : (t : ℕ) (digits out first second third fourth ones others : List ℕ)
    → 32 * t + 32 ≤ length out → length digits ≡ 2 * length out
    → IsRead (2 * (32 * t)) digits first → IsRead (2 * (32 * t) + 16) digits second
    → IsRead (2 * (32 * t) + 32) digits third → IsRead (2 * (32 * t) + 48) digits fourth
    → ones ≡ joined_halves (first ++ second) → others ≡ joined_halves (third ++ fourth)
    → IsDone (32 * t) digits out
    → IsDone (32 * (t + 1)) digits (put_chunk (32 * t + 16) (put_chunk (32 * t) out ones) others)
turn_done t digits out first second third fourth ones others fits twice a b c d joins too done =
    let k : ℕ = 32 * t in
    let next : 32 * (t + 1) ≡ k + 16 + 16 = omega arith in
    let here : 2 * k + 32 ≡ 2 * (k + 16) = omega arith in
    let there : 2 * k + 48 ≡ 2 * (k + 16) + 16 = omega arith in
    let half : List ℕ = put_chunk k out ones in
    let same : length half ≡ length out = length-put_chunk k out ones in
    let before = pair_done k digits out first second ones (omega (arith, fits)) twice a.are b.are a.halves b.halves joins done in
    rw next (pair_done (k + 16) digits half third fourth others (omega (arith, fits, same)) (omega (arith, twice, same))
    (rw here at c.are) (rw there at d.are) c.halves d.halves too before)

-- the first k bytes are decoded, if the greatest values are half bytes, and they are if all are digits
pub record IsAhead (k : ℕ) (greatest digits out : List ℕ) : Type 0 where
  pub done : Each1 IsHalf greatest → IsDone k digits out
  pub seen : Each1 IsDigit digits → Each1 IsHalf greatest

pub none_ahead : (digits out : List ℕ) → IsAhead 0 (replicate 16 0) digits out
none_ahead digits out = record { done = λ h. none_done digits out; seen = λ are. search (rules, arith) }

-- what is returned for the bytes that the digits spell, and what the buffer holds then
abbrev pub Reports : Bool → List ℕ → Result (List ℕ) FromHexError → Type 0
Reports reported out spelt = MatchResult spelt (λ bytes. (reported ≡ true) × (out ≡ bytes)) (λ e. reported ≡ false)

-- a text that isn't all digits is refused
pub refused : (digits out : List ℕ) (n : ℕ) → (Each1 IsDigit digits → ⊥) → Reports false out (decode_sized digits n)
refused digits out n bad = go (decode_sized digits n) refl
  where
    go : (spelt : Result (List ℕ) FromHexError) → decode_sized digits n ≡ spelt → Reports false out spelt
    go (Ok bytes) e = absurd (bad (digits_of n digits bytes e))
    go (Err e) h = refl

-- the digits after the first ones, and room for the bytes that they spell
record Following (k m n : ℕ) (digits out : List ℕ) : Type 0 where
  fits : k ≤ n
  sized : length out ≡ n
  twice : length digits ≡ 2 * n
  room : length (drop k out) ≡ m

length_following : (k m n : ℕ) (digits out : List ℕ) → Following k m n digits out → length (drop (2 * k) digits) ≡ 2 * m
length_following k m n digits out b =
    omega (arith, length-drop (2 * k) digits, length-drop k out, b.fits, b.sized, b.twice, b.room)

following_done : (k m n : ℕ) (digits out bytes : List ℕ) → Following k m n digits out
    → decode_sized (drop (2 * k) digits) m ≡ Ok bytes → IsDone k digits out
    → decode_sized digits n ≡ Ok (take k out ++ bytes)
following_done k m n digits out bytes b read done =
    let front : List ℕ = take (2 * k) digits in
    let back : List ℕ = drop (2 * k) digits in
    let whole : front ++ back ≡ digits = take-append-drop (2 * k) digits in
    let all : Each1 IsDigit digits = rw whole at (Each1-append IsDigit front back done.are (digits_of m back bytes read)) in
    let even : length front % 2 ≡ 0 = omega (arith, length-take-le (2 * k) digits (omega (arith, b.fits, b.twice))) in
    let spelt : bytes ≡ spelled back =
    let both = sym read ∙ decoded m back (length_following k m n digits out b) (digits_of m back bytes read) in cc in
    decoded n digits b.twice all
    ∙ ap Ok (sym (ap spelled whole) ∙ spelled-append front back even ∙ rw (done.spelled_is, spelt) refl)

following_refused : (k m n : ℕ) (digits out : List ℕ) (e : FromHexError) → Following k m n digits out
    → decode_sized (drop (2 * k) digits) m ≡ Err e → Each1 IsDigit digits → ⊥
following_refused k m n digits out e b read are =
    let front : List ℕ = take (2 * k) digits in
    let back : List ℕ = drop (2 * k) digits in
    let both : Each1 IsDigit (front ++ back) = rw (take-append-drop (2 * k) digits) are in
    cc (sym (decoded m back (length_following k m n digits out b) (Each1-following IsDigit front back both)) ∙ read)

-- what the rest of the digits spell, as they are read after the first ones
abbrev pub Rest : ℕ → List ℕ → List ℕ → Result (List ℕ) FromHexError
Rest k digits out = decode_sized (between (2 * k) (length digits) digits) (length (between k (length out) out))

-- the rest of the bytes, which the rest of the digits spell or don't
pub rest_done : (k n : ℕ) (digits out new : List ℕ) (r : Result (Unit {0}) FromHexError) (reported : Bool)
    → k ≤ n → length out ≡ n → length digits ≡ 2 * n → reported ≡ is_ok r
    → MatchResult (Rest k digits out) (λ bytes. (r ≡ Ok tt) × (new ≡ bytes)) (λ e. r ≡ Err e)
    → IsDone k digits out
    → Reports reported (put_mid k (length out - k) out new) (decode_sized digits n)
rest_done k n digits out new r reported fits sized twice reports read done =
    go (decode_sized back m) refl (rw (same_back, same_room) at read)
  where
    back : List ℕ
    back = drop (2 * k) digits

    m : ℕ
    m = length (drop k out)

    b : Following k m n digits out
    b = record { fits = fits; sized = sized; twice = twice; room = refl }

    same_back : between (2 * k) (length digits) digits ≡ back
    same_back = between_to_end digits (2 * k) (length digits) (omega arith)

    same_room : between k (length out) out ≡ drop k out
    same_room = between_to_end out k (length out) (omega arith)

    go : (spelt : Result (List ℕ) FromHexError) → decode_sized back m ≡ spelt
        → MatchResult spelt (λ bytes. (r ≡ Ok tt) × (new ≡ bytes)) (λ e. r ≡ Err e)
        → Reports reported (put_mid k (length out - k) out new) (decode_sized digits n)
    go (Ok bytes) e h =
        let is = following_done k m n digits out bytes b e done in
        let none : drop (length out - k) (drop k out) ≡ [] = drop_all (length out - k) (drop k out) (omega (arith, length-drop k out)) in
        rw is (reports ∙ ap is_ok h.0, rw (none, append-nil, h.1) refl)
    go (Err e) is h =
        let no : reported ≡ false = reports ∙ ap is_ok h in
        rw no (refused digits (put_mid k (length out - k) out new) n (following_refused k m n digits out e b is))
