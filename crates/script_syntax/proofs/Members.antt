-- Members as words, read from the left.
use Rattle.std.proofs.Common.{◌≡◌, ℕ, ◌<◌, ◌==◌, List, [], ◌∷◌, ◌++◌, refl, sym, ap, ◌∙◌, arith, map, decimal, eqb-true}
use Rattle.std.specs.List.{AllByRecursion, All, join_with_byte}
use Rattle.std.proofs.lemmas.List.Elements.{All-from_get_or}
use Rattle.std.proofs.lemmas.List.Splits.{join_with_byte-slice_split}
use Rattle.script_syntax.specs.Number.{IsWritable}
use Rattle.script_syntax.specs.Parts.{parts}
use Rattle.script_syntax.specs.Spelling.{member_word, IsWritableMember}
use Rattle.script_syntax.specs.declared.command.Named.{Named}
use Rattle.script_syntax.proofs.Digits.{digit_of}
use Rattle.script_syntax.proofs.Splits.{Differs, one_part, first_part, not_true}

-- a greater byte differs
pub differs : (separator byte : ℕ) → separator < byte → Differs separator byte
differs separator byte less = not_true (byte == separator) (λ same. let e = eqb-true byte separator same in omega arith)

-- the digits of a number are no separator
pub digits_differ : (separator n : ℕ) → separator < 48 → IsWritable n → All (Differs separator) (decimal n)
digits_differ separator n low short =
    All-from_get_or (Differs separator) (decimal n) 0
    (λ k below. let digit = digit_of (decimal n) n short refl k below in differs separator _ (omega arith))

-- a single part is the text
pub sole_part : (separator : ℕ) (text part : List ℕ) → parts separator text ≡ part ∷ [] → text ≡ part
sole_part separator text part e = sym (join_with_byte-slice_split separator text) ∙ ap (join_with_byte separator) e

-- a member's word has its drive and its extent as its parts
pub member_parts : (member : Named) → IsWritableMember member
    → parts 46 (member_word member) ≡ decimal member.drive ∷ decimal member.extent ∷ []
member_parts member short =
    first_part 46 (decimal member.drive) (decimal member.extent) (digits_differ 46 member.drive (omega arith) short.drive)
    ∙ ap (λ rest. decimal member.drive ∷ rest) (one_part 46 _ (digits_differ 46 member.extent (omega arith) short.extent))

-- a word without a dot is no member
pub no_dot : (word front : List ℕ) → parts 46 word ≡ front ∷ [] → (member : Named) → IsWritableMember member → word ≡ member_word member → ⊥
no_dot word front are member short e =
    let reported : front ∷ [] ≡ decimal member.drive ∷ decimal member.extent ∷ [] = sym are ∙ ap (parts 46) e ∙ member_parts member short in
    cc reported

-- before the dot of a member's word is the drive, and after it the extent
pub around_dot : (word front back : List ℕ) → parts 46 word ≡ front ∷ parts 46 back
    → (member : Named) → IsWritableMember member → word ≡ member_word member
    → (front ≡ decimal member.drive) × (back ≡ decimal member.extent)
around_dot word front back are member short e =
    let reported : front ∷ parts 46 back ≡ decimal member.drive ∷ decimal member.extent ∷ [] = sym are ∙ ap (parts 46) e ∙ member_parts member short in
    let following : parts 46 back ≡ decimal member.extent ∷ [] = cc in
    (cc, sole_part 46 back _ following)

-- a word of a number, a dot and a number is a member's
pub dotted : (word front back : List ℕ) (drive extent : ℕ) → parts 46 word ≡ front ∷ parts 46 back
    → IsWritable drive → IsWritable extent → front ≡ decimal drive → back ≡ decimal extent
    → word ≡ decimal drive ++ (46 ∷ decimal extent)
dotted word front back drive extent are drive_short extent_short drive_is extent_is =
    let following : parts 46 back ≡ decimal extent ∷ [] =
    ap (parts 46) extent_is ∙ one_part 46 _ (digits_differ 46 extent (omega arith) extent_short) in
    let all : parts 46 word ≡ decimal drive ∷ decimal extent ∷ [] = cc in
    sym (join_with_byte-slice_split 46 word) ∙ ap (join_with_byte 46) all

pub words_more : (members : List Named) (member : Named) (rest : List (List ℕ))
    → map member_word members ++ member_word member ∷ rest ≡ map member_word (members ++ member ∷ []) ++ rest
words_more [] member rest = refl
words_more (m ∷ members) member rest = ap (λ ws. member_word m ∷ ws) (words_more members member rest)

-- each of the words that members spell is a member's
pub word_within : (all before : List Named) (word : List ℕ) (rest : List (List ℕ)) → AllByRecursion IsWritableMember all
    → map member_word all ≡ map member_word before ++ word ∷ rest
    → (member : Named) × IsWritableMember member × (word ≡ member_word member)
word_within [] [] word rest short e = cc e
word_within [] (b ∷ before) word rest short e = cc e
word_within (m ∷ all) [] word rest short e = (m, short.0, cc)
word_within (m ∷ all) (b ∷ before) word rest short e = word_within all before word rest short.1 (cc)
