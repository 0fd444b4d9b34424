-- The table of commands: a verb's row is that of each of its commands.
use Rattle.std.proofs.Common.{◌≡◌, ℕ, ◌+◌, cond, List, [], ◌∷◌, length, refl, sym, ap, ◌∙◌, arith, take, slice_index, slice_index_or, codes, rules}
use Rattle.std.specs.List.{All}
use Rattle.std.specs.Str.{bytes_eq}
use Rattle.std.proofs.lemmas.List.Elements.{All-from_recursion}
use Rattle.map_join.specs.declared.records.Record.{Record}
use Rattle.extent_groups.specs.declared.class.Class.{Class}
use Rattle.script_syntax.specs.Order as o
use Rattle.script_syntax.specs.Order.{Order, all_verbs, Following, Nothing, Reported, Content, Members, following_of, kind_following, kinds_of, ordered, tail_of, values_of, verb_of, keyword_of}
use Rattle.script_syntax.specs.declared.command.Named.{Named}
use Rattle.script_syntax.specs.declared.verb.Verb.{Verb}
use Rattle.script_syntax.specs.declared.verb.Verb.TheVariants as verb
use Rattle.script_syntax.specs.declared.verb.Tail.{Tail}
use Rattle.script_syntax.specs.declared.verb.Tail.TheVariants as tail
use Rattle.script_syntax.proofs.Splits.{Differs}

-- the place of a word among the words of verbs
abbrev place_in : List Verb → List ℕ → ℕ
place_in [] word = 0
place_in (asked ∷ later) word = cond (bytes_eq (keyword_of asked) word) 0 (1 + place_in later word)

abbrev place_of : Verb → ℕ
place_of asked = place_in all_verbs (keyword_of asked)

-- each verb is at the place of its word
at_place : (asked d : Verb) → slice_index_or all_verbs (place_of asked) d ≡ asked
at_place verb.Array d = refl
at_place _ d = refl

-- so two verbs have two words
pub one_verb : (a b : Verb) → keyword_of a ≡ keyword_of b → a ≡ b
one_verb a b e =
    sym (at_place a verb.Array) ∙ ap (λ word. slice_index_or all_verbs (place_in all_verbs word) verb.Array) e ∙ at_place b verb.Array

-- and none of them has a space
pub verb_word : (asked : Verb) → All (Differs 32) (keyword_of asked)
verb_word verb.Array = All-from_recursion (Differs 32) (codes "array") (search rules)
verb_word asked = All-from_recursion (Differs 32) (keyword_of asked) (search rules)

-- what follows the numbers of a verb's command
abbrev pub following_as : Tail → Record → List ℕ → Class → List Named → Following
following_as tail.Nothing r payload level members = Nothing
following_as tail.Record r payload level members = Reported r
following_as tail.Payload r payload level members = Content payload
following_as tail.Members r payload level members = Members level members

-- a command that was put together is its verb's
pub verb_again : (asked : Verb) (n : ℕ → ℕ) (r : Record) (payload : List ℕ) (level : Class) (members : List Named)
    → verb_of (ordered asked n r payload level members) ≡ asked
verb_again verb.Array n r payload level members = refl
verb_again _ n r payload level members = refl

pub following_again : (asked : Verb) (n : ℕ → ℕ) (r : Record) (payload : List ℕ) (level : Class) (members : List Named)
    → following_of (ordered asked n r payload level members) ≡ following_as (tail_of asked) r payload level members
following_again verb.Array n r payload level members = refl
following_again _ n r payload level members = refl

values_five : (asked : Verb) (a b c d e : ℕ) (r : Record) (payload : List ℕ) (level : Class) (members : List Named)
    → values_of (ordered asked (λ i. slice_index (a ∷ b ∷ c ∷ d ∷ e ∷ []) i) r payload level members)
    ≡ take (length (kinds_of asked)) (a ∷ b ∷ c ∷ d ∷ e ∷ [])
values_five verb.Array a b c d e r payload level members = refl
values_five _ a b c d e r payload level members = refl

pub values_again : (asked : Verb) (ns : List ℕ) (r : Record) (payload : List ℕ) (level : Class) (members : List Named) → length ns ≡ 5
    → values_of (ordered asked (λ i. slice_index ns i) r payload level members) ≡ take (length (kinds_of asked)) ns
values_again asked [] r payload level members five = cc five
values_again asked (a ∷ []) r payload level members five = cc five
values_again asked (a ∷ b ∷ []) r payload level members five = cc five
values_again asked (a ∷ b ∷ c ∷ []) r payload level members five = cc five
values_again asked (a ∷ b ∷ c ∷ d ∷ []) r payload level members five = cc five
values_again asked (a ∷ b ∷ c ∷ d ∷ e ∷ []) r payload level members five = values_five asked a b c d e r payload level members
values_again asked (a ∷ b ∷ c ∷ d ∷ e ∷ f ∷ ns) r payload level members five = absurd (omega arith)

-- what follows a command's numbers is of the kind in its verb's row, and the row has the same count of numbers
pub tail_again : (order : Order) → kind_following (following_of order) ≡ tail_of (verb_of order)
tail_again (o.Array a b c d e) = refl
tail_again _ = refl

pub count_again : (order : Order) → length (values_of order) ≡ length (kinds_of (verb_of order))
count_again (o.Array a b c d e) = refl
count_again _ = refl
