-- How options follow one another.
use Rattle.std.proofs.Common.{◌≡◌, ℕ, ◌+◌, List, [], ◌∷◌, ◌++◌, length, Bool, Option, Some, Result, Ok, Err, inr, refl, sym, ap, subst, ◌∙◌, append_assoc, append-nil}
use Rattle.std.proofs.lemmas.List.{length_push}
use Rattle.std.proofs.lemmas.List.Elements.{All-push}
use Rattle.std.specs.List.{All, flat_map}
use Rattle.std.specs.Io.KnownBytes.{Appends, Consumes}
use Rattle.std.proofs.KnownBytes.{Appends-trans, Consumes-trans}
use Rattle.nbd_wire.specs.declared.client.OptionHead.{OptionHead}
use Rattle.nbd_wire.specs.declared.options.Export.{Export}
use Rattle.nbd_wire.specs.Options.{SpellsOption}
use Rattle.nbd_serve.specs.Streams.{IsPartWritten, IsShort}
use Rattle.nbd_serve.specs.Halts.{ended}
use Rattle.nbd_serve.specs.declared.halt.Halt.{Halt}
use Rattle.nbd_serve.specs.declared.halt.Halt.TheVariants as halt
use Rattle.nbd_serve.specs.Options.{reply_to}
use Rattle.nbd_serve.specs.Handshaking.{BreaksAtOption, EndsOptions, IsOptionCutOff, IsTurn, IsTurnTaken, IsTurned, IsTurnedInPart, Negotiates, OptionSteps, OptionTurn, StopsTaking, option_bytes, reply_bytes_of}
use Rattle.nbd_serve.specs.declared.options.Next.{Next}
use Rattle.nbd_serve.specs.declared.options.Next.TheVariants as next
use Rattle.nbd_serve.specs.declared.end.End.{End}
use Rattle.nbd_serve.specs.declared.end.End.TheVariants as end

-- n options were answered
pub record IsAsked (e : Export) (no_zeroes : Bool) (n : ℕ) (before after held now : Option (List ℕ)) : Type 0 where
  pub turns : List OptionTurn
  pub count : length turns ≡ n
  pub each : All (IsTurn e no_zeroes next.More) turns
  pub read : Consumes before after (flat_map option_bytes turns)
  pub wrote : Appends held now (flat_map reply_bytes_of turns)

bytes_more : (f : OptionTurn → List ℕ) (xs : List OptionTurn) (x : OptionTurn) → flat_map f (xs ++ x ∷ []) ≡ flat_map f xs ++ f x
bytes_more f [] x = append-nil (f x)
bytes_more f (y ∷ xs) x = ap (λ bytes. f y ++ bytes) (bytes_more f xs x) ∙ sym (append_assoc (f y) (flat_map f xs) (f x))

-- one more
pub asked_more : (e : Export) (z : Bool) (n : ℕ) (before mid after held written now : Option (List ℕ)) → IsAsked e z n before mid held written
    → IsTurned e z next.More mid after written now → IsAsked e z (n + 1) before after held now
asked_more e z n before mid after held written now asked turned =
    let P : List ℕ → Type 0 = λ xs. Consumes before after xs in
    let Q : List ℕ → Type 0 = λ xs. Appends held now xs in record {
      turns = asked.turns ++ turned.turn ∷ [];
      count = length_push asked.turns turned.turn ∙ ap (λ k. k + 1) asked.count;
      each = All-push (IsTurn e z next.More) asked.turns turned.turn asked.each turned.is;
      read = subst P (sym (bytes_more option_bytes asked.turns turned.turn)) (Consumes-trans before mid after _ _ asked.read turned.read);
      wrote = subst Q (sym (bytes_more reply_bytes_of asked.turns turned.turn)) (Appends-trans held written now _ _ asked.wrote turned.wrote);
    }

-- what a step ends with, options end with
ends_by : (done : Result (Unit {0}) Halt) (n : ℕ) (e : Export) (z : Bool) (before after held now : Option (List ℕ))
    → OptionSteps (Some done) e z before after held now → EndsOptions (ended done) n e z before after held now
ends_by (Ok u) n e z before after held now step = step
ends_by (Err halt.Cut) n e z before after held now step = step
ends_by (Err (halt.ReadBroke broke)) n e z before after held now step = step
ends_by (Err halt.Garbage) n e z before after held now step = step
ends_by (Err (halt.WriteBroke broke)) n e z before after held now step = step
ends_by (Err halt.Memory) n e z before after held now step = step
ends_by (Err halt.Aborted) n e z before after held now step = step
ends_by (Err halt.Limit) n e z before after held now step = absurd step
ends_by (Err halt.Disconnected) n e z before after held now step = absurd step

pub negotiated : (done : Result (Unit {0}) Halt) (n : ℕ) (e : Export) (z : Bool) (before mid after held written now : Option (List ℕ))
    → IsAsked e z n before mid held written → OptionSteps (Some done) e z mid after written now → Negotiates (ended done) e z before after held now
negotiated done n e z before mid after held written now asked step = record {
  turns = asked.turns;
  each = asked.each;
  left = mid;
  read = asked.read;
  written = written;
  wrote = asked.wrote;
  ends = ends_by done (length asked.turns) e z mid after written now step;
}

-- a reply that is whole
pub turn_done : (then : Next) (e : Export) (z : Bool) (head : List ℕ) (o : OptionHead) (before mid after held now : Option (List ℕ))
    (old new wrote : List ℕ) → length head ≡ 16 → SpellsOption head o → Consumes before mid head → IsTurnTaken then e z o mid after old new
    → old ≡ [] → wrote ≡ new → Appends held now wrote → IsTurned e z then before after held now
turn_done then e z head o before mid after held now old new wrote whole spells read taken none same written =
    let reply = reply_to o taken.carried e z in
    let is : wrote ≡ reply = same ∙ taken.written ∙ ap (λ xs. xs ++ reply) none in
    let P : List ℕ → Type 0 = λ xs. Appends held now xs in record {
      turn = record { head = head; option = o; carried = taken.carried; reply = reply };
      is = record { whole = whole; spells = spells; carries = taken.carries; reply_is = refl; next_is = taken.next_is };
      read = Consumes-trans before mid after head taken.carried read taken.read;
      wrote = subst P is written;
    }

-- one that was written in part
pub turn_broken : (then : Next) (e : Export) (z : Bool) (head : List ℕ) (o : OptionHead) (before mid after held now : Option (List ℕ))
    (old new wrote : List ℕ) → length head ≡ 16 → SpellsOption head o → Consumes before mid head → IsTurnTaken then e z o mid after old new
    → old ≡ [] → wrote ≡ new → IsPartWritten held now wrote → IsTurnedInPart e z before after held now
turn_broken then e z head o before mid after held now old new wrote whole spells read taken none same written =
    let reply = reply_to o taken.carried e z in
    let is : wrote ≡ reply = same ∙ taken.written ∙ ap (λ xs. xs ++ reply) none in
    let P : List ℕ → Type 0 = λ xs. IsPartWritten held now xs in record {
      turn = record { head = head; option = o; carried = taken.carried; reply = reply };
      then = then;
      is = record { whole = whole; spells = spells; carries = taken.carries; reply_is = refl; next_is = taken.next_is };
      read = Consumes-trans before mid after head taken.carried read taken.read;
      part = subst P is written;
    }

-- an option whose data is not all there
option_cut : (last : End) (head : List ℕ) (o : OptionHead) (before mid after : Option (List ℕ)) → length head ≡ 16 → SpellsOption head o
    → Consumes before mid head → IsShort last mid after o.length → IsOptionCutOff last before after
option_cut last head o before mid after whole spells read short = record {
  part = head ++ short.part;
  read = Consumes-trans before mid after head short.part read short.read;
  few = inr (record { head = head; whole = whole; option = o; spells = spells; carried = short.part; few = short.few; part_is = refl });
  ended = short.ended;
}

pub taking_stopped : (last : End) (e : Export) (z : Bool) (head : List ℕ) (o : OptionHead) (before mid after held : Option (List ℕ))
    → length head ≡ 16 → SpellsOption head o → Consumes before mid head → StopsTaking last o mid after
    → BreaksAtOption last e z before after held held
taking_stopped end.Cut e z head o before mid after held whole spells read stops =
    (option_cut end.Cut head o before mid after whole spells read stops, refl)
taking_stopped end.ReadFault e z head o before mid after held whole spells read stops =
    (option_cut end.ReadFault head o before mid after whole spells read stops, refl)
taking_stopped end.Memory e z head o before mid after held whole spells read stops = (
  record {
    head = head;
    whole = whole;
    option = o;
    spells = spells;
    carried = stops.carried;
    carries = stops.carries;
    read = Consumes-trans before mid after head stops.carried read stops.read;
  },
  refl,
)
taking_stopped end.Garbage e z head o before mid after held whole spells read stops = absurd stops
taking_stopped end.WriteFault e z head o before mid after held whole spells read stops = absurd stops
taking_stopped end.Aborted e z head o before mid after held whole spells read stops = absurd stops
taking_stopped end.Limit e z head o before mid after held whole spells read stops = absurd stops
taking_stopped end.Disconnected e z head o before mid after held whole spells read stops = absurd stops
