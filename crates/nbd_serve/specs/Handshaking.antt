-- How a session begins: the greeting, the client's flags, and options until one asks for the export.
use Rattle.std.specs.Prelude.{◌≡◌, ◌≢◌, ℕ, ◌<◌, ◌⊎◌, List, ◌++◌, length, Bool, Option, Some, None, Result, Ok, Err}
use Rattle.std.specs.List.{All, flat_map}
use Rattle.std.specs.Io.KnownBytes.{Appends, Consumes}
use Rattle.byteorder.specs.Endian.{big_number}
use Rattle.nbd_wire.specs.declared.client.OptionHead.{OptionHead}
use Rattle.nbd_wire.specs.declared.options.Export.{Export}
use Rattle.nbd_wire.specs.Options.{SpellsOption, greeting, no_zeroes_in, option_magic}
use Rattle.nbd_serve.specs.Streams.{IsPartWritten, IsShort, LeavesNone}
use Rattle.nbd_serve.specs.Halts.{end_of}
use Rattle.nbd_serve.specs.declared.halt.Halt.{Halt}
use Rattle.nbd_serve.specs.Options.{next_to, reply_to}
use Rattle.nbd_serve.specs.declared.options.Next.{Next}
use Rattle.nbd_serve.specs.declared.options.Next.TheVariants as next
use Rattle.nbd_serve.specs.declared.end.End.{End}
use Rattle.nbd_serve.specs.declared.end.End.TheVariants as end

-- the greeting was written, and the client's flags were read
pub record IsGreeted (no_zeroes : Bool) (before after held now : Option (List ℕ)) : Type 0 where
  pub flags : List ℕ
  pub whole : length flags ≡ 4
  pub known : no_zeroes_in flags ≡ Some no_zeroes
  pub read : Consumes before after flags
  pub wrote : Appends held now greeting

-- the greeting was written, and the client's flags are not known
pub record IsUnknown (before after held now : Option (List ℕ)) : Type 0 where
  pub flags : List ℕ
  pub whole : length flags ≡ 4
  pub unknown : no_zeroes_in flags ≡ None
  pub read : Consumes before after flags
  pub wrote : Appends held now greeting

-- what a session stops at before the first option, by how it ends
abbrev pub StopsOpening : End → Option (List ℕ) → Option (List ℕ) → Option (List ℕ) → Option (List ℕ) → Type 0
StopsOpening end.Cut before after held now = IsShort end.Cut before after 4 × Appends held now greeting
StopsOpening end.ReadFault before after held now = IsShort end.ReadFault before after 4 × Appends held now greeting
StopsOpening end.Garbage before after held now = IsUnknown before after held now
StopsOpening end.WriteFault before after held now = (after ≡ before) × IsPartWritten held now greeting
StopsOpening end.Memory before after held now = (after ≡ before) × (now ≡ held)
StopsOpening end.Limit before after held now = ⊥
StopsOpening end.Disconnected before after held now = ⊥
StopsOpening end.Aborted before after held now = ⊥

-- an option's 16 bytes and what they spell, its data, and the reply to it
pub record OptionTurn : Type 0 where
  pub head : List ℕ
  pub option : OptionHead
  pub carried : List ℕ
  pub reply : List ℕ

-- a whole option and the reply to it, and what comes after them
pub record IsTurn (e : Export) (no_zeroes : Bool) (after : Next) (x : OptionTurn) : Type 0 where
  pub whole : length x.head ≡ 16
  pub spells : SpellsOption x.head x.option
  pub carries : length x.carried ≡ x.option.length
  pub reply_is : x.reply ≡ reply_to x.option x.carried e no_zeroes
  pub next_is : after ≡ next_to x.option x.carried

-- the bytes of the options, and those of the replies
abbrev pub option_bytes : OptionTurn → List ℕ
option_bytes x = x.head ++ x.carried

abbrev pub reply_bytes_of : OptionTurn → List ℕ
reply_bytes_of x = x.reply

-- an option was read and answered
pub record IsTurned (e : Export) (no_zeroes : Bool) (then : Next) (before after held now : Option (List ℕ)) : Type 0 where
  pub turn : OptionTurn
  pub is : IsTurn e no_zeroes then turn
  pub read : Consumes before after (option_bytes turn)
  pub wrote : Appends held now turn.reply

-- one was read, and the reply to it written in part
pub record IsTurnedInPart (e : Export) (no_zeroes : Bool) (before after held now : Option (List ℕ)) : Type 0 where
  pub turn : OptionTurn
  pub then : Next
  pub is : IsTurn e no_zeroes then turn
  pub read : Consumes before after (option_bytes turn)
  pub part : IsPartWritten held now turn.reply

-- one was read, and there was no memory for the reply to it
pub record IsUnanswered (before after : Option (List ℕ)) : Type 0 where
  pub head : List ℕ
  pub whole : length head ≡ 16
  pub option : OptionHead
  pub spells : SpellsOption head option
  pub carried : List ℕ
  pub carries : length carried ≡ option.length
  pub read : Consumes before after (head ++ carried)

-- 16 bytes were read that are no option
pub record IsNoOption (before after : Option (List ℕ)) : Type 0 where
  pub head : List ℕ
  pub whole : length head ≡ 16
  pub wrong : big_number 8 head ≢ option_magic
  pub read : Consumes before after head

-- the 16 bytes of an option, and fewer bytes than it has data
pub record IsOptionAndPart (part : List ℕ) : Type 0 where
  pub head : List ℕ
  pub whole : length head ≡ 16
  pub option : OptionHead
  pub spells : SpellsOption head option
  pub carried : List ℕ
  pub few : length carried < option.length
  pub part_is : part ≡ head ++ carried

-- less than a whole option was read
pub record IsOptionCutOff (last : End) (before after : Option (List ℕ)) : Type 0 where
  pub part : List ℕ
  pub read : Consumes before after part
  pub few : (length part < 16) ⊎ IsOptionAndPart part
  pub ended : LeavesNone last after

-- what a session stops at while it reads or answers an option, by how it ends
abbrev pub BreaksAtOption : End → Export → Bool → Option (List ℕ) → Option (List ℕ) → Option (List ℕ) → Option (List ℕ) → Type 0
BreaksAtOption end.Cut e z before after held now = IsOptionCutOff end.Cut before after × (now ≡ held)
BreaksAtOption end.ReadFault e z before after held now = IsOptionCutOff end.ReadFault before after × (now ≡ held)
BreaksAtOption end.Garbage e z before after held now =
    (IsNoOption before after × (now ≡ held)) ⊎ IsTurned e z next.HangUp before after held now
BreaksAtOption end.WriteFault e z before after held now = IsTurnedInPart e z before after held now
BreaksAtOption end.Memory e z before after held now = IsUnanswered before after × (now ≡ held)
BreaksAtOption end.Aborted e z before after held now = IsTurned e z next.Abort before after held now
BreaksAtOption end.Limit e z before after held now = ⊥
BreaksAtOption end.Disconnected e z before after held now = ⊥

-- one step: an option after which another comes, one that asks for the export, or a stop
abbrev pub OptionSteps : Option (Result (Unit {0}) Halt) → Export → Bool → Option (List ℕ) → Option (List ℕ) → Option (List ℕ) → Option (List ℕ) → Type 0
OptionSteps None e z before after held now = IsTurned e z next.More before after held now
OptionSteps (Some (Ok _)) e z before after held now = IsTurned e z next.Go before after held now
OptionSteps (Some (Err last)) e z before after held now = BreaksAtOption (end_of last) e z before after held now

-- what options end with, after n of them
abbrev pub EndsOptions : Result (Unit {0}) End → ℕ → Export → Bool → Option (List ℕ) → Option (List ℕ) → Option (List ℕ) → Option (List ℕ) → Type 0
EndsOptions (Ok u) n e z before after held now = IsTurned e z next.Go before after held now
EndsOptions (Err end.Limit) n e z before after held now = (n ≡ 1000) × (after ≡ before) × (now ≡ held)
EndsOptions (Err last) n e z before after held now = BreaksAtOption last e z before after held now

-- options that were answered one after the other, and what they ended with
pub record Negotiates (result : Result (Unit {0}) End) (e : Export) (no_zeroes : Bool) (before after held now : Option (List ℕ)) : Type 0 where
  pub turns : List OptionTurn
  pub each : All (IsTurn e no_zeroes next.More) turns
  pub left : Option (List ℕ)
  pub read : Consumes before left (flat_map option_bytes turns)
  pub written : Option (List ℕ)
  pub wrote : Appends held written (flat_map reply_bytes_of turns)
  pub ends : EndsOptions result (length turns) e no_zeroes left after written now

-- the opening, and options
pub record IsHandshake (result : Result (Unit {0}) End) (e : Export) (before after held now : Option (List ℕ)) : Type 0 where
  pub no_zeroes : Bool
  pub left : Option (List ℕ)
  pub written : Option (List ℕ)
  pub opened : IsGreeted no_zeroes before left held written
  pub negotiates : Negotiates result e no_zeroes left after written now

-- a handshake that ends with the transmission phase, or with the session
abbrev pub Handshakes : Result (Unit {0}) End → Export → Option (List ℕ) → Option (List ℕ) → Option (List ℕ) → Option (List ℕ) → Type 0
Handshakes (Ok u) e before after held now = IsHandshake (Ok u) e before after held now
Handshakes (Err last) e before after held now =
    StopsOpening last before after held now ⊎ IsHandshake (Err last) e before after held now

-- the data of an option was read, and the reply was appended to a buffer
pub record IsTurnTaken (then : Next) (e : Export) (no_zeroes : Bool) (o : OptionHead) (before after : Option (List ℕ)) (old new : List ℕ) : Type 0 where
  pub carried : List ℕ
  pub carries : length carried ≡ o.length
  pub read : Consumes before after carried
  pub written : new ≡ old ++ reply_to o carried e no_zeroes
  pub next_is : then ≡ next_to o carried

-- the data of an option was read, and there was no memory for the reply
pub record IsDataTaken (o : OptionHead) (before after : Option (List ℕ)) : Type 0 where
  pub carried : List ℕ
  pub carries : length carried ≡ o.length
  pub read : Consumes before after carried

-- what a session stops at while it reads an option's data
abbrev pub StopsTaking : End → OptionHead → Option (List ℕ) → Option (List ℕ) → Type 0
StopsTaking end.Cut o before after = IsShort end.Cut before after o.length
StopsTaking end.ReadFault o before after = IsShort end.ReadFault before after o.length
StopsTaking end.Memory o before after = IsDataTaken o before after
StopsTaking _ o before after = ⊥
