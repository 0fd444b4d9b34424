-- A command as plain data, and the table of commands: each one's word, its numbers, and what follows them.
use Rattle.std.specs.Prelude.{ℕ, List, [], ◌∷◌, map, codes, slice_index}
use Rattle.map_join.specs.declared.records.Record.{Record}
use Rattle.extent_groups.specs.declared.class.Class.{Class}
use Rattle.extent_groups.specs.declared.class.Class.TheVariants as class
use Rattle.script_syntax.specs.declared.command.Named.{Named}
use Rattle.script_syntax.specs.declared.command.Command.{Command}
use Rattle.script_syntax.specs.declared.verb.Verb.{Verb}
use Rattle.script_syntax.specs.declared.verb.Verb.TheVariants as verb
use Rattle.script_syntax.specs.declared.verb.Kind.{Kind}
use Rattle.script_syntax.specs.declared.verb.Kind.TheVariants as kind
use Rattle.script_syntax.specs.declared.verb.Tail.{Tail}
use Rattle.script_syntax.specs.declared.verb.Tail.TheVariants as tail

-- a command
pub data Order : Type 0 where
  Array : ℕ → ℕ → ℕ → ℕ → ℕ → Order
  Make : Class → List Named → Order
  Unmake : ℕ → ℕ → Order
  Claim : ℕ → ℕ → Order
  Release : ℕ → ℕ → Order
  Fill : ℕ → ℕ → List ℕ → Order
  Copy : ℕ → ℕ → ℕ → Order
  Commit : ℕ → ℕ → ℕ → Order
  Discard : ℕ → ℕ → Order
  Read : ℕ → Order
  At : Record → Order
  Write : ℕ → ℕ → List ℕ → Order
  Trim : ℕ → ℕ → Order
  Demote : ℕ → Order
  Plug : ℕ → Order
  Clean : ℕ → Order
  Take : ℕ → Record → Order
  Merge : ℕ → ℕ → Order
  Same : ℕ → ℕ → Order
  Show : ℕ → Order
  Map : Order
  Log : Order
  Scan : Order
  Restart : Order
  Add : Order
  Balance : Order
  Rebuild : ℕ → Order
  Lose : ℕ → Order

-- a number, and what it represents
pub record Number : Type 0 where
  pub kind : Kind
  pub value : ℕ

-- what follows a command's numbers
pub data Following : Type 0 where
  Nothing : Following
  Reported : Record → Following
  Content : List ℕ → Following
  Members : Class → List Named → Following

-- a command as it is written
pub record Shape : Type 0 where
  pub verb : Verb
  pub numbers : List Number
  pub following : Following

abbrev pub form : Verb → List Number → Following → Shape
form asked ns rest = record { verb = asked; numbers = ns; following = rest }

-- a number of each kind
abbrev pub worker : ℕ → Number
worker n = record { kind = kind.Worker; value = n }

abbrev pub slot : ℕ → Number
slot n = record { kind = kind.Slot; value = n }

abbrev pub block : ℕ → Number
block n = record { kind = kind.Block; value = n }

abbrev pub drive : ℕ → Number
drive n = record { kind = kind.Drive; value = n }

abbrev pub group : ℕ → Number
group n = record { kind = kind.Group; value = n }

abbrev pub table : ℕ → Number
table n = record { kind = kind.Map; value = n }

abbrev pub size : ℕ → Number
size n = record { kind = kind.Size; value = n }

-- the word that a verb is written as
abbrev pub keyword_of : Verb → List ℕ
keyword_of verb.Array = codes "array"
keyword_of verb.Make = codes "make"
keyword_of verb.Unmake = codes "unmake"
keyword_of verb.Claim = codes "claim"
keyword_of verb.Release = codes "release"
keyword_of verb.Fill = codes "fill"
keyword_of verb.Copy = codes "copy"
keyword_of verb.Commit = codes "commit"
keyword_of verb.Discard = codes "discard"
keyword_of verb.Read = codes "read"
keyword_of verb.At = codes "at"
keyword_of verb.Write = codes "write"
keyword_of verb.Trim = codes "trim"
keyword_of verb.Demote = codes "demote"
keyword_of verb.Plug = codes "plug"
keyword_of verb.Clean = codes "clean"
keyword_of verb.Take = codes "take"
keyword_of verb.Merge = codes "merge"
keyword_of verb.Same = codes "same"
keyword_of verb.Show = codes "show"
keyword_of verb.Map = codes "map"
keyword_of verb.Log = codes "log"
keyword_of verb.Scan = codes "scan"
keyword_of verb.Restart = codes "restart"
keyword_of verb.Add = codes "add"
keyword_of verb.Balance = codes "balance"
keyword_of verb.Rebuild = codes "rebuild"
keyword_of verb.Lose = codes "lose"

-- every verb
abbrev pub all_verbs : List Verb
all_verbs = verb.Array ∷ verb.Make ∷ verb.Unmake ∷ verb.Claim ∷ verb.Release ∷ verb.Fill ∷ verb.Copy ∷ verb.Commit ∷ verb.Discard ∷ verb.Read ∷ verb.At ∷ verb.Write ∷ verb.Trim ∷ verb.Demote ∷ verb.Plug ∷ verb.Clean ∷ verb.Take ∷ verb.Merge ∷ verb.Same ∷ verb.Show ∷ verb.Map ∷ verb.Log ∷ verb.Scan ∷ verb.Restart ∷ verb.Add ∷ verb.Balance ∷ verb.Rebuild ∷ verb.Lose ∷ []

-- how each command is written: a row of the table
abbrev pub shape : Order → Shape
shape (Array drives extents segments payload blocks) =
    form verb.Array (size drives ∷ size extents ∷ size segments ∷ size payload ∷ size blocks ∷ []) Nothing
shape (Make level members) = form verb.Make [] (Members level members)
shape (Unmake w g) = form verb.Unmake (worker w ∷ group g ∷ []) Nothing
shape (Claim w s) = form verb.Claim (worker w ∷ slot s ∷ []) Nothing
shape (Release w s) = form verb.Release (worker w ∷ slot s ∷ []) Nothing
shape (Fill w s payload) = form verb.Fill (worker w ∷ slot s ∷ []) (Content payload)
shape (Copy w s b) = form verb.Copy (worker w ∷ slot s ∷ block b ∷ []) Nothing
shape (Commit w s b) = form verb.Commit (worker w ∷ slot s ∷ block b ∷ []) Nothing
shape (Discard w s) = form verb.Discard (worker w ∷ slot s ∷ []) Nothing
shape (Read b) = form verb.Read (block b ∷ []) Nothing
shape (At r) = form verb.At [] (Reported r)
shape (Write w b payload) = form verb.Write (worker w ∷ block b ∷ []) (Content payload)
shape (Trim w b) = form verb.Trim (worker w ∷ block b ∷ []) Nothing
shape (Demote w) = form verb.Demote (worker w ∷ []) Nothing
shape (Plug w) = form verb.Plug (worker w ∷ []) Nothing
shape (Clean w) = form verb.Clean (worker w ∷ []) Nothing
shape (Take m r) = form verb.Take (table m ∷ []) (Reported r)
shape (Merge into from) = form verb.Merge (table into ∷ table from ∷ []) Nothing
shape (Same left right) = form verb.Same (table left ∷ table right ∷ []) Nothing
shape (Show m) = form verb.Show (table m ∷ []) Nothing
shape Map = form verb.Map [] Nothing
shape Log = form verb.Log [] Nothing
shape Scan = form verb.Scan [] Nothing
shape Restart = form verb.Restart [] Nothing
shape Add = form verb.Add [] Nothing
shape Balance = form verb.Balance [] Nothing
shape (Rebuild d) = form verb.Rebuild (drive d ∷ []) Nothing
shape (Lose d) = form verb.Lose (drive d ∷ []) Nothing

-- what a command asks for, its numbers, and what follows them
abbrev pub verb_of : Order → Verb
verb_of order = (shape order).verb

abbrev pub numbers_of : Order → List Number
numbers_of order = (shape order).numbers

abbrev pub following_of : Order → Following
following_of order = (shape order).following

abbrev pub values_of : Order → List ℕ
values_of order = map (λ n. n.value) (numbers_of order)

-- the command of a verb with these numbers in order, and with what follows them
abbrev pub ordered : Verb → (ℕ → ℕ) → Record → List ℕ → Class → List Named → Order
ordered verb.Array n r payload level members = Array (n 0) (n 1) (n 2) (n 3) (n 4)
ordered verb.Make n r payload level members = Make level members
ordered verb.Unmake n r payload level members = Unmake (n 0) (n 1)
ordered verb.Claim n r payload level members = Claim (n 0) (n 1)
ordered verb.Release n r payload level members = Release (n 0) (n 1)
ordered verb.Fill n r payload level members = Fill (n 0) (n 1) payload
ordered verb.Copy n r payload level members = Copy (n 0) (n 1) (n 2)
ordered verb.Commit n r payload level members = Commit (n 0) (n 1) (n 2)
ordered verb.Discard n r payload level members = Discard (n 0) (n 1)
ordered verb.Read n r payload level members = Read (n 0)
ordered verb.At n r payload level members = At r
ordered verb.Write n r payload level members = Write (n 0) (n 1) payload
ordered verb.Trim n r payload level members = Trim (n 0) (n 1)
ordered verb.Demote n r payload level members = Demote (n 0)
ordered verb.Plug n r payload level members = Plug (n 0)
ordered verb.Clean n r payload level members = Clean (n 0)
ordered verb.Take n r payload level members = Take (n 0) r
ordered verb.Merge n r payload level members = Merge (n 0) (n 1)
ordered verb.Same n r payload level members = Same (n 0) (n 1)
ordered verb.Show n r payload level members = Show (n 0)
ordered verb.Map n r payload level members = Map
ordered verb.Log n r payload level members = Log
ordered verb.Scan n r payload level members = Scan
ordered verb.Restart n r payload level members = Restart
ordered verb.Add n r payload level members = Add
ordered verb.Balance n r payload level members = Balance
ordered verb.Rebuild n r payload level members = Rebuild (n 0)
ordered verb.Lose n r payload level members = Lose (n 0)

-- a command of the program, with the payload that is in the buffer
abbrev pub command_order : Command → List ℕ → Order
command_order command bytes =
    ordered command.verb (λ i. slice_index command.numbers i) command.record bytes command.class command.members.items

-- the shape of every command of a verb
abbrev pub sample : Verb → Shape
sample asked = shape (ordered asked (λ i. 0) (record { block = 0; version = 0; hop = 0; place = 0 }) [] class.Mirrored [])

-- what each of a verb's numbers represents
abbrev pub kinds_of : Verb → List Kind
kinds_of asked = map (λ n. n.kind) (sample asked).numbers

-- what follows a verb's numbers
abbrev pub kind_following : Following → Tail
kind_following Nothing = tail.Nothing
kind_following (Reported r) = tail.Record
kind_following (Content payload) = tail.Payload
kind_following (Members level members) = tail.Members

abbrev pub tail_of : Verb → Tail
tail_of asked = kind_following (sample asked).following
