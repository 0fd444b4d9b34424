-- The lines of a text that begins with an open line.
use Rattle.std.proofs.Common.{◌≡◌, ℕ, ◌+◌, ◌<◌, ◌==◌, Bool, true, false, if◌then◌else◌, List, [], ◌∷◌, ◌++◌, length, refl, sym, ap, ◌∙◌, inl, inr, arith, append_assoc, append-nil, length-append}
use Rattle.std.specs.List.{AllByRecursion}
use Rattle.std.proofs.lemmas.List.Elements.{recursion_from_All}
use Rattle.script_io.specs.Says.{lines_of, onto_line}
use Rattle.script_io.specs.Opens.{AreLines, HasNoNewline}

-- a byte ends no line
abbrev pub Goes_on : ℕ → Type 0
Goes_on byte = (byte == 10) ≡ false

-- a byte that ends no line is the first of its line
first_byte : (byte : ℕ) (rest : List ℕ) → Goes_on byte → lines_of (byte ∷ rest) ≡ onto_line byte (lines_of rest)
first_byte byte rest on = rw on refl

-- the first line begins with this prefix
pub record IsFront (front : List ℕ) (lines : List (List ℕ)) : Type 0 where
  pub more : List ℕ
  pub others : List (List ℕ)
  pub is : lines ≡ (front ++ more) ∷ others

onto_any : (byte : ℕ) (lines : List (List ℕ)) → IsFront (byte ∷ []) (onto_line byte lines)
onto_any byte [] = record { more = []; others = []; is = refl }
onto_any byte (line ∷ lines) = record { more = line; others = lines; is = refl }

front_of : (byte : ℕ) (front rest : List ℕ) → Goes_on byte → AllByRecursion Goes_on front
    → IsFront (byte ∷ front) (lines_of (byte ∷ (front ++ rest)))
front_of byte [] rest on none = rw (first_byte byte rest on) (onto_any byte (lines_of rest))
front_of byte (next ∷ front) rest on none =
    let later = front_of next front rest none.0 none.1 in record {
      more = later.more;
      others = later.others;
      is = first_byte byte (next ∷ (front ++ rest)) on ∙ ap (onto_line byte) later.is;
    }

-- an open prefix that isn't empty begins the text's first line
pub open_front : (front rest : List ℕ) → HasNoNewline front → 0 < length front → IsFront front (lines_of (front ++ rest))
open_front [] rest none some = absurd (omega arith)
open_front (byte ∷ front) rest none some =
    let each = recursion_from_All Goes_on (byte ∷ front) none in front_of byte front rest each.0 each.1

-- an open prefix before a line's end is the first line
cut_rest : (front rest : List ℕ) → AllByRecursion Goes_on front → lines_of (front ++ 10 ∷ rest) ≡ front ∷ lines_of rest
cut_rest [] rest none = refl
cut_rest (byte ∷ front) rest none =
    first_byte byte (front ++ 10 ∷ rest) none.0 ∙ ap (onto_line byte) (cut_rest front rest none.1)

pub cut_line : (front rest : List ℕ) → HasNoNewline front → lines_of (front ++ 10 ∷ rest) ≡ front ∷ lines_of rest
cut_line front rest none = cut_rest front rest (recursion_from_All Goes_on front none)

-- an open prefix with nothing after it is the last line
last_rest : (byte : ℕ) (front : List ℕ) → Goes_on byte → AllByRecursion Goes_on front → lines_of (byte ∷ front) ≡ (byte ∷ front) ∷ []
last_rest byte [] on none = first_byte byte [] on
last_rest byte (next ∷ front) on none =
    first_byte byte (next ∷ front) on ∙ ap (onto_line byte) (last_rest next front none.0 none.1)

pub last_line : (front : List ℕ) → HasNoNewline front → 0 < length front → lines_of (front ++ []) ≡ front ∷ []
last_line [] none some = absurd (omega arith)
last_line (byte ∷ front) none some =
    let each = recursion_from_All Goes_on (byte ∷ front) none in
    ap lines_of (append-nil (byte ∷ front)) ∙ last_rest byte front each.0 each.1

-- whole lines after whole lines
pub lines_more : (first second : List ℕ) → AreLines first → AreLines second → AreLines (first ++ second)
lines_more first second one (inl none) = rw (none, append-nil first) one
lines_more first second one (inr ended) =
    inr (first ++ ended.0, ap (λ xs. first ++ xs) ended.1 ∙ sym (append_assoc first ended.0 (10 ∷ [])))

-- a text that is appended to the chunk is appended to its rest
pub text_more : (line chunk whole opened rest more : List ℕ) → line ++ chunk ≡ whole ++ (opened ++ rest)
    → line ++ (chunk ++ more) ≡ whole ++ (opened ++ (rest ++ more))
text_more line chunk whole opened rest more is =
    sym (append_assoc line chunk more) ∙ ap (λ xs. xs ++ more) is ∙ append_assoc whole (opened ++ rest) more
    ∙ ap (λ xs. whole ++ xs) (append_assoc opened rest more)

-- two prefixes of a text, one after the other
pub text_join : (text first back second rest : List ℕ) → text ≡ first ++ back → back ≡ second ++ rest → text ≡ (first ++ second) ++ rest
text_join text first back second rest one two =
    one ∙ ap (λ xs. first ++ xs) two ∙ sym (append_assoc first second rest)

-- a byte before lines: it ends a line, or is the first of the next one
abbrev before_lines : Bool → ℕ → List (List ℕ) → List (List ℕ)
before_lines ends byte lines = if ends then [] ∷ lines else onto_line byte lines

before_some : (ends : Bool) (byte : ℕ) (lines : List (List ℕ)) → 0 < length (before_lines ends byte lines)
before_some true byte lines = omega arith
before_some false byte [] = omega arith
before_some false byte (line ∷ lines) = omega arith

before_apart : (ends : Bool) (byte : ℕ) (first second : List (List ℕ)) → 0 < length first
    → before_lines ends byte (first ++ second) ≡ before_lines ends byte first ++ second
before_apart true byte first second some = refl
before_apart false byte [] second some = absurd (omega arith)
before_apart false byte (line ∷ first) second some = refl

-- a text with a line's end has a line
ended_some : (front : List ℕ) → 0 < length (lines_of (front ++ 10 ∷ []))
ended_some [] = omega arith
ended_some (byte ∷ front) = before_some (byte == 10) byte (lines_of (front ++ 10 ∷ []))

ended_apart : (front second : List ℕ) → lines_of ((front ++ 10 ∷ []) ++ second) ≡ lines_of (front ++ 10 ∷ []) ++ lines_of second
ended_apart [] second = refl
ended_apart (byte ∷ front) second =
    ap (before_lines (byte == 10) byte) (ended_apart front second)
    ∙ before_apart (byte == 10) byte (lines_of (front ++ 10 ∷ [])) (lines_of second) (ended_some front)

-- the lines of whole lines and of a text after them add up to those of both together
pub count_more : (first second : List ℕ) → AreLines first
    → length (lines_of (first ++ second)) ≡ length (lines_of first) + length (lines_of second)
count_more first second (inl none) = rw none (omega arith)
count_more first second (inr ended) =
    rw ended.1 (ap length (ended_apart ended.0 second) ∙ length-append (lines_of (ended.0 ++ 10 ∷ [])) (lines_of second))
