-- How each command is spelled: the words of its line, with one space between.
use Rattle.std.specs.Prelude.{◌≡◌, ℕ, ◌<◌, ◌≤◌, List, [], ◌∷◌, ◌++◌, Ok, length, map, codes, decimal}
use Rattle.std.specs.List.{AllByRecursion, join_with_byte}
use Rattle.hex.specs.Hex.{decode_of}
use Rattle.map_join.specs.Record.{Spells as RecordSpells}
use Rattle.map_join.specs.declared.records.Record.{Record}
use Rattle.script_syntax.specs.Number.{IsWritable}
use Rattle.script_syntax.specs.Order.{Order, Following, Nothing, Reported, Content, Members, keyword_of, verb_of, values_of, following_of}
use Rattle.extent_groups.specs.declared.class.Class.{Class}
use Rattle.extent_groups.specs.declared.class.Class.TheVariants as class
use Rattle.script_syntax.specs.declared.command.Named.{Named}

-- a member is written as its drive, a dot and its extent
abbrev pub member_word : Named → List ℕ
member_word member = decimal member.drive ++ (46 ∷ decimal member.extent)

-- a member whose numbers can be written
pub record IsWritableMember (member : Named) : Type 0 where
  pub drive : IsWritable member.drive
  pub extent : IsWritable member.extent

-- the word for a class of groups
abbrev pub IsClassWord : Class → List ℕ → Type 0
IsClassWord class.Mirrored word = word ≡ codes "m"
IsClassWord class.Parity word = word ≡ codes "p"

-- a group is made of three to eight members
pub record AreMemberWords (members : List Named) (ws : List (List ℕ)) : Type 0 where
  pub short : AllByRecursion IsWritableMember members
  pub enough : 3 ≤ length members
  pub few : length members ≤ 8
  pub spelled : ws ≡ map member_word members

-- a class and its members
pub record ClassAndMembers (class : Class) (members : List Named) (ws : List (List ℕ)) : Type 0 where
  pub word : List ℕ
  pub rest : List (List ℕ)
  pub named : IsClassWord class word
  pub listed : AreMemberWords members rest
  pub spelled : ws ≡ word ∷ rest

-- a payload alone, in hex digits of either case
pub record PayloadAlone (payload : List ℕ) (ws : List (List ℕ)) : Type 0 where
  pub digits : List ℕ
  pub decoded : decode_of digits ≡ Ok payload
  pub spelled : ws ≡ digits ∷ []

-- a record in 24 hex digits of either case, the version of which isn't 0
pub record IsRecordWord (r : Record) (word : List ℕ) : Type 0 where
  pub bytes : List ℕ
  pub decoded : decode_of word ≡ Ok bytes
  pub spells : RecordSpells bytes r
  pub written : 0 < r.version

-- a record alone
pub record RecordAlone (r : Record) (ws : List (List ℕ)) : Type 0 where
  pub word : List ℕ
  pub named : IsRecordWord r word
  pub spelled : ws ≡ word ∷ []

-- the words after a command's numbers
abbrev pub IsTrailing : Following → List (List ℕ) → Type 0
IsTrailing Nothing ws = ws ≡ []
IsTrailing (Reported r) ws = RecordAlone r ws
IsTrailing (Content payload) ws = PayloadAlone payload ws
IsTrailing (Members level members) ws = ClassAndMembers level members ws

-- the words that follow the first one of a command: its numbers, and what comes after them
pub record FollowsVerb (order : Order) (ws : List (List ℕ)) : Type 0 where
  pub rest : List (List ℕ)
  pub writable : AllByRecursion IsWritable (values_of order)
  pub following : IsTrailing (following_of order) rest
  pub spelled : ws ≡ map decimal (values_of order) ++ rest

-- a record that a command names has a version above 0
abbrev pub IsOfWrite : Following → Type 0
IsOfWrite (Reported r) = 0 < r.version
IsOfWrite _ = Unit {0}

abbrev pub IsVersioned : Order → Type 0
IsVersioned order = IsOfWrite (following_of order)

-- the line that words make, with one space between two of them
abbrev pub line_of : List (List ℕ) → List ℕ
line_of ws = join_with_byte 32 ws

-- the command is written as the line
pub record SpellsCommand (order : Order) (line : List ℕ) : Type 0 where
  pub rest : List (List ℕ)
  pub follows : FollowsVerb order rest
  pub line_is : line ≡ line_of (keyword_of (verb_of order) ∷ rest)

-- what follows the numbers, if it is a payload, has this length
abbrev pub IsLong : ℕ → Following → Type 0
IsLong size (Content payload) = length payload ≡ size
IsLong size _ = Unit {0}

abbrev pub HasSizedPayload : ℕ → Order → Type 0
HasSizedPayload size order = IsLong size (following_of order)
