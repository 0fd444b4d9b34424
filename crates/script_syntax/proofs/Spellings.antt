-- The words of a spelled line are the words that spell it.
use Rattle.std.proofs.Common.{◌≡◌, ℕ, ◌≤◌, ◌==◌, Bool, true, false, List, [], ◌∷◌, ◌++◌, Ok, Err, Result, length, get_or, refl, sym, ap, ◌∙◌, arith, map, take, slice_index, decimal, codes, rules, eqb-true, length-take}
use Rattle.std.specs.Prelude.{IfOk}
use Rattle.std.specs.List.{AllByRecursion, All}
use Rattle.std.proofs.lemmas.List.Elements.{All-from_get_or, All-from_recursion, All-append, All-cons}
use Rattle.std.proofs.lemmas.List.Splits.{join_with_byte-slice_split}
use Rattle.hex.specs.Hex.{decode_of, is_hex_digit}
use Rattle.hex.proofs.HexLemmas.{decode_of-ok}
use Rattle.map_join.specs.declared.records.Record.{Record}
use Rattle.script_syntax.specs.Number.{IsWritable}
use Rattle.script_syntax.specs.Words.{words}
use Rattle.script_syntax.specs.Order.{Order, Following, Nothing, Reported, Content, Members, following_of, kind_following, kinds_of, ordered, tail_of, values_of, verb_of, keyword_of}
use Rattle.script_syntax.specs.Reading.{Finds, IsParsedAs, ParsesLine}
use Rattle.script_syntax.specs.declared.command.Command.{Command}
use Rattle.script_syntax.specs.Spelling.{member_word, line_of, FollowsVerb, IsTrailing, IsClassWord, IsLong, HasSizedPayload, IsWritableMember, PayloadAlone, SpellsCommand}
use Rattle.extent_groups.specs.declared.class.Class.{Class}
use Rattle.extent_groups.specs.declared.class.Class.TheVariants as class
use Rattle.script_syntax.specs.declared.command.Named.{Named}
use Rattle.script_syntax.specs.declared.verb.Verb.{Verb}
use Rattle.script_syntax.specs.declared.verb.Tail.{Tail}
use Rattle.script_syntax.specs.declared.verb.Tail.TheVariants as tail
use Rattle.script_syntax.proofs.Members.{digits_differ}
use Rattle.script_syntax.proofs.Numbers.{rest_again}
use Rattle.script_syntax.proofs.Splits.{Differs, one_part, first_part, not_true}
use Rattle.script_syntax.proofs.Table.{following_again, following_as, count_again, one_verb, tail_again, values_again, verb_again, verb_word}

-- a word without a space
abbrev pub IsWord : List ℕ → Type 0
IsWord word = All (Differs 32) word

-- words without spaces are the words of their line
pub words_again : (word : List ℕ) (ws : List (List ℕ)) → IsWord word → AllByRecursion IsWord ws
    → words (line_of (word ∷ ws)) ≡ word ∷ ws
words_again word [] first rest = one_part 32 word first
words_again word (next ∷ ws) first rest =
    first_part 32 word (line_of (next ∷ ws)) first ∙ ap (λ later. word ∷ later) (words_again next ws rest.0 rest.1)

-- numbers have no spaces
number_words : (ns : List ℕ) → AllByRecursion IsWritable ns → AllByRecursion IsWord (map decimal ns)
number_words [] short = tt
number_words (n ∷ ns) short = (digits_differ 32 n (omega arith) short.0, number_words ns short.1)

-- nor has a member
member_is_word : (member : Named) → IsWritableMember member → IsWord (member_word member)
member_is_word member short =
    All-append (Differs 32) (decimal member.drive) (46 ∷ decimal member.extent)
    (digits_differ 32 member.drive (omega arith) short.drive)
    (All-cons (Differs 32) 46 (decimal member.extent) refl (digits_differ 32 member.extent (omega arith) short.extent))

member_words : (members : List Named) → AllByRecursion IsWritableMember members → AllByRecursion IsWord (map member_word members)
member_words [] short = tt
member_words (m ∷ members) short = (member_is_word m short.0, member_words members short.1)

class_word : (class : Class) (word : List ℕ) → IsClassWord class word → IsWord word
class_word class.Mirrored word named = rw named (All-from_recursion (Differs 32) (codes "m") (search rules))
class_word class.Parity word named = rw named (All-from_recursion (Differs 32) (codes "p") (search rules))

-- a hex digit is no space
no_space_digit : (c : ℕ) → is_hex_digit c ≡ true → Differs 32 c
no_space_digit c digit = not_true (c == 32) (λ same.
    let e : c ≡ 32 = eqb-true c 32 same in
    let reported : is_hex_digit 32 ≡ true = rw e at digit in
    cc reported)

hex_word : (digits bytes : List ℕ) → decode_of digits ≡ Ok bytes → IsWord digits
hex_word digits bytes decoded =
    let pass = (decode_of-ok digits bytes decoded).1 in
    All-from_get_or (Differs 32) digits 0 (λ k below. no_space_digit (get_or digits k 0) (pass k 0 below))

-- the words after a command's numbers have no spaces
following_words : (following : Following) (ws : List (List ℕ)) → IsTrailing following ws → AllByRecursion IsWord ws
following_words Nothing ws is = rw is tt
following_words (Reported r) ws is = rw is.spelled (hex_word is.word is.named.bytes is.named.decoded, tt)
following_words (Content payload) ws is = rw is.spelled (hex_word is.digits payload is.decoded, tt)
following_words (Members level members) ws is =
    rw is.spelled (class_word level is.word is.named, rw is.listed.spelled (member_words members is.listed.short))

words_on : (front back : List (List ℕ)) → AllByRecursion IsWord front → AllByRecursion IsWord back → AllByRecursion IsWord (front ++ back)
words_on [] back first second = second
words_on (word ∷ front) back first second = (first.0, words_on front back first.1 second)

follow_words : (order : Order) (ws : List (List ℕ)) → FollowsVerb order ws → AllByRecursion IsWord ws
follow_words order ws f =
    rw f.spelled (words_on _ f.rest (number_words (values_of order) f.writable) (following_words (following_of order) f.rest f.following))

-- the words of a line that spells a command
pub spelled_words : (order : Order) (line : List ℕ) (s : SpellsCommand order line) → words line ≡ keyword_of (verb_of order) ∷ s.rest
spelled_words order line s =
    ap words s.line_is ∙ words_again _ s.rest (verb_word (verb_of order)) (follow_words order s.rest s.follows)

-- a command that was found after its verb is spelled by the line
pub found_spells : (asked : Verb) (size : ℕ) (line word : List ℕ) (ws : List (List ℕ)) (order : Order)
    → words line ≡ word ∷ ws → word ≡ keyword_of asked → IsParsedAs asked size ws order → SpellsCommand order line
found_spells asked size line word ws order cut named found = record {
  rest = ws;
  follows = found.follows;
  line_is = sym (join_with_byte-slice_split 32 line) ∙ ap line_of cut
      ∙ ap (λ w. line_of (w ∷ ws)) (named ∙ ap keyword_of (sym found.asked));
}

-- and a command that the line spells is found
pub spelled_found : (asked : Verb) (size : ℕ) (line word : List ℕ) (ws : List (List ℕ)) (order : Order)
    → words line ≡ word ∷ ws → word ≡ keyword_of asked → HasSizedPayload size order → SpellsCommand order line → IsParsedAs asked size ws order
spelled_found asked size line word ws order cut named sized s =
    let reported = sym cut ∙ spelled_words order line s in
    let rest : ws ≡ s.rest = cc in
    let head : word ≡ keyword_of (verb_of order) = cc in record {
      asked = one_verb (verb_of order) asked (sym head ∙ named);
      sized = sized;
      follows = rw rest s.follows;
    }

-- a command that was read after its verb
pub found_as : (asked : Verb) (t : Tail) (size count : ℕ) (ns : List ℕ) (r : Record) (payload : List ℕ) (level : Class) (members : List Named)
    (ws back : List (List ℕ)) → length ns ≡ 5 → count ≡ length (kinds_of asked) → tail_of asked ≡ t
    → AllByRecursion IsWritable (take count ns) → ws ≡ map decimal (take count ns) ++ back
    → IsTrailing (following_as t r payload level members) back → IsLong size (following_as t r payload level members)
    → IsParsedAs asked size ws (ordered asked (λ i. slice_index ns i) r payload level members)
found_as asked t size count ns r payload level members ws back five counted tailed writable spelled following long =
    let values = values_again asked ns r payload level members five in
    let tail_is = following_again asked (λ i. slice_index ns i) r payload level members
    ∙ ap (λ k. following_as k r payload level members) tailed in
    record {
      asked = verb_again asked (λ i. slice_index ns i) r payload level members;
      sized = rw tail_is long;
      follows = record {
        rest = back;
        writable = rw (values, ← counted) writable;
        following = rw tail_is following;
        spelled = rw (values, ← counted) spelled;
      };
    }

-- without its numbers there is no command of the verb
pub no_numbers : (asked : Verb) (size count : ℕ) (ws : List (List ℕ)) → count ≡ length (kinds_of asked)
    → ((ns : List ℕ) (rest : List (List ℕ)) → length ns ≡ count → AllByRecursion IsWritable ns → ws ≡ map decimal ns ++ rest → ⊥)
    → (order : Order) → IsParsedAs asked size ws order → ⊥
no_numbers asked size count ws counted none order found =
    let f = found.follows in
    none (values_of order) f.rest (count_again order ∙ ap (λ v. length (kinds_of v)) found.asked ∙ sym counted) f.writable f.spelled

-- nor without what follows them
pub no_following : (asked : Verb) (t : Tail) (size count : ℕ) (ns : List ℕ) (ws back : List (List ℕ)) → length ns ≡ 5 → count ≤ 5
    → count ≡ length (kinds_of asked) → tail_of asked ≡ t → ws ≡ map decimal (take count ns) ++ back
    → ((following : Following) → kind_following following ≡ t → IsLong size following → IsTrailing following back → ⊥)
    → (order : Order) → IsParsedAs asked size ws order → ⊥
no_following asked t size count ns ws back five few counted tailed spelled none order found =
    let f = found.follows in
    let as_many : length (values_of order) ≡ length (take count ns) =
    count_again order ∙ ap (λ v. length (kinds_of v)) found.asked ∙ sym counted ∙ omega (arith, length-take count ns) in
    let same : f.rest ≡ back = rest_again (values_of order) (take count ns) f.rest back as_many (sym f.spelled ∙ spelled) in
    none (following_of order) (tail_again order ∙ ap tail_of found.asked ∙ tailed) found.sized (rw same at f.following)

pub no_payload_following : (back : List (List ℕ)) (size : ℕ) → ((bytes : List ℕ) → length bytes ≡ size → PayloadAlone bytes back → ⊥)
    → (following : Following) → kind_following following ≡ tail.Payload → IsLong size following → IsTrailing following back → ⊥
no_payload_following back size none (Content payload) is long there = none payload long there
no_payload_following back size none _ is long there = cc is

-- whether a payload follows the numbers
pub payload_found : (asked : Verb) (size count : ℕ) (command : Command) (bytes : List ℕ) (ws back : List (List ℕ)) (reported : Bool)
    → length command.numbers ≡ 5 → count ≤ 5 → count ≡ length (kinds_of asked) → tail_of asked ≡ tail.Payload → command.verb ≡ asked
    → AllByRecursion IsWritable (take count command.numbers) → ws ≡ map decimal (take count command.numbers) ++ back
    → (reported ≡ true → PayloadAlone bytes back)
    → (reported ≡ false → (content : List ℕ) → length content ≡ size → PayloadAlone content back → ⊥)
    → length bytes ≡ size → Finds asked size ws bytes command reported
payload_found asked size count command bytes ws back true five few counted tailed named writable spelled put none long =
    rw named (found_as asked tail.Payload size count command.numbers command.record bytes command.class command.members.items ws back five counted tailed
    writable spelled (put refl) long)
payload_found asked size count command bytes ws back false five few counted tailed named writable spelled put none long =
    no_following asked tail.Payload size count command.numbers ws back five few counted tailed spelled (no_payload_following back size (none refl))

-- what was found after the first word is what the line spells
read_line : (asked : Verb) (size : ℕ) (line word bytes : List ℕ) (ws : List (List ℕ)) (command : Command) (found : Bool)
    → words line ≡ word ∷ ws → word ≡ keyword_of asked → Finds asked size ws bytes command found → ParsesLine size line bytes command found
read_line asked size line word bytes ws command true cut named found =
    record { spells = found_spells asked size line word ws _ cut named found; sized = found.sized }
read_line asked size line word bytes ws command false cut named none =
    λ order read. none order (spelled_found asked size line word ws order cut named read.sized read.spells)

pub read_result : {E : Type 0} (asked : Verb) (size : ℕ) (line word bytes : List ℕ) (ws : List (List ℕ)) (command : Command) (r : Result Bool E)
    → words line ≡ word ∷ ws → word ≡ keyword_of asked → IfOk r (Finds asked size ws bytes command) → IfOk r (ParsesLine size line bytes command)
read_result asked size line word bytes ws command (Ok found) cut named h = read_line asked size line word bytes ws command found cut named h
read_result asked size line word bytes ws command (Err e) cut named h = h
