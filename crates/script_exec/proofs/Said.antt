-- Which commands a line may say.
use Rattle.std.proofs.Common.{◌≡◌, ℕ, List, length, Option, Some, None, refl, sym, ap, subst, ◌∙◌, ◌≤◌, take, length-take, arith}
use Rattle.script_syntax.specs.Order.{Order, Following, Content, Reported, following_of, kind_following, tail_of, verb_of}
use Rattle.script_syntax.specs.Spelling.{SpellsCommand, IsTrailing, IsLong, IsOfWrite, IsVersioned}
use Rattle.script_syntax.specs.Reading.{IsParsed}
use Rattle.script_syntax.specs.declared.verb.Verb.TheVariants as verb
use Rattle.script_syntax.specs.declared.verb.Tail.TheVariants as tail
use Rattle.script_syntax.proofs.Spellings.{spelled_words}
use Rattle.script_syntax.proofs.Table.{one_verb, tail_again}
use Rattle.script_syntax.specs.Order as o
use Rattle.script_syntax.specs.Spelling.{HasSizedPayload}
use Rattle.script_exec.specs.declared.bench.Bench.{Bench}
use Rattle.script_exec.specs.State.{Position, State, IsInLimits, IsWithin}
use Rattle.script_exec.specs.Carrying.{IsCarried, MatchesState, MatchesAt}
use Rattle.script_exec.specs.Replies.{IsUnsaid, IsReplied}

-- a line has one verb
pub line_verb : (line : List ℕ) (a b : Order) → SpellsCommand a line → SpellsCommand b line → verb_of a ≡ verb_of b
line_verb line a b first second =
    let reported = sym (spelled_words a line first) ∙ spelled_words b line second in
    one_verb (verb_of a) (verb_of b) (cc)

-- a record that a line names is one of a write
of_write : (following : Following) (ws : List (List ℕ)) → IsTrailing following ws → IsOfWrite following
of_write (Reported r) ws is = is.named.written
of_write _ ws is = tt

pub spelled_written : (order : Order) (line : List ℕ) → SpellsCommand order line → IsVersioned order
spelled_written order line s = of_write (following_of order) s.follows.rest s.follows.following

-- a line that can't be read as a command says none
pub unsaid : (P : Position) (size : ℕ) (line out : List ℕ) → P.tiers.flat.groups.payload ≡ size
    → ((order : Order) → IsParsed size line order → ⊥) → IsUnsaid (Some P) line out out
unsaid P size line out e none = record {
  none = λ order said. none order (record { spells = said.spells; sized = rw e at said.due.1 });
  out = refl;
}

-- after the first command a line that spells `array` says no command
pub again : (P : Position) (line out : List ℕ) (order : Order) → SpellsCommand order line → verb_of order ≡ verb.Array → IsUnsaid (Some P) line out out
again P line out order spells asked = record {
  none = λ other said. said.due.0 (line_verb line other order said.spells spells ∙ asked);
  out = refl;
}

-- before the first command a line that spells a command other than `array` says none
pub no_first : (line out : List ℕ) (order : Order) → SpellsCommand order line → (verb_of order ≡ verb.Array → ⊥) → IsUnsaid None line out out
no_first line out order spells other = record {
  none = λ first said. other (line_verb line order first spells said.spells ∙ said.due);
  out = refl;
}

-- where nothing follows the numbers there is no payload of a wrong length
nothing_sized : (size : ℕ) (following : Following) → kind_following following ≡ tail.Nothing → IsLong size following
nothing_sized size (Content payload) is = cc is
nothing_sized size _ is = tt

pub unsaid_first : (size : ℕ) (line out : List ℕ) → ((order : Order) → IsParsed size line order → ⊥) → IsUnsaid None line out out
unsaid_first size line out none = record {
  none = λ order said.
      none order (record {
        spells = said.spells;
        sized = nothing_sized size (following_of order) (tail_again order ∙ ap tail_of said.due);
      });
  out = refl;
}

-- a payload's buffer is as long as the payload
pub buffer_size : (P : Position) (size : ℕ) (buffer : List ℕ) → P.tiers.flat.groups.payload ≡ size → size ≤ length buffer
    → P.tiers.flat.groups.payload ≡ length (take size buffer)
buffer_size P size buffer e room = omega (arith, length-take size buffer)

-- every command other than `array` is fit
fit_later : (order : Order) → (verb_of order ≡ verb.Array → ⊥) → IsInLimits order
fit_later (o.Array drives extents segments payload blocks) other = absurd (other refl)
fit_later _ other = tt

-- a command that was read, may come and is within the limits, and was carried out, is replied to
pub replied : (P : Position) (bench : Option Bench) (size blocks : ℕ) (line old new : List ℕ) (order : Order) → P.tiers.flat.groups.payload ≡ size → P.tiers.flat.groups.blocks ≡ blocks
    → IsParsed size line order → (verb_of order ≡ verb.Array → ⊥) → IsWithin blocks order → IsCarried (Some P) bench order old new
    → IsReplied (Some P) bench line old new
replied P bench size blocks line old new order long many read other within carried = record {
  order = order;
  spells = read.spells;
  answered = record {
    due = (other, subst (λ n. HasSizedPayload n order) (sym long) read.sized);
    range = record { within = subst (λ n. IsWithin n order) (sym many) within; fit = fit_later order other };
    carried = carried;
  };
}

-- what holds of each position that a bench represents holds of each state that it does
pub at_position : (bench : Bench) (P : State → Type 0) → ((position : Position) → MatchesAt bench position → P (Some position)) → (state : State) → MatchesState (Some bench) state → P state
at_position bench P holds (Some position) matches = holds position matches
at_position bench P holds None matches = absurd matches
