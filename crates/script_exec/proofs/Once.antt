-- A line spells one command at most, and means one thing.
use Rattle.std.proofs.Common.{◌≡◌, ℕ, ◌<◌, true, List, [], ◌∷◌, ◌++◌, length, map, get_or, slice_index, decimal, refl, sym, ap, ◌∙◌, arith}
use Rattle.std.specs.List.{AllByRecursion}
use Rattle.std.proofs.lemmas.Fmt.{decimal_injective}
use Rattle.map_join.specs.declared.records.Record.{Record}
use Rattle.map_join.specs.Record.{Spells as RecordSpells}
use Rattle.extent_groups.specs.declared.class.Class.{Class}
use Rattle.extent_groups.specs.declared.class.Class.TheVariants as class
use Rattle.script_syntax.specs.Number.{IsWritable}
use Rattle.script_syntax.specs.Order as o
use Rattle.script_syntax.specs.Order.{Order, Following, Nothing, Reported, Content, Members, following_of, kinds_of, ordered, values_of, verb_of}
use Rattle.script_syntax.specs.Spelling.{member_word, IsTrailing, IsClassWord, IsRecordWord, IsWritableMember, SpellsCommand}
use Rattle.script_syntax.specs.Parts.{parts}
use Rattle.script_syntax.specs.declared.command.Named.{Named}
use Rattle.script_syntax.specs.declared.verb.Verb.{Verb}
use Rattle.script_syntax.proofs.Members.{member_parts}
use Rattle.script_syntax.proofs.Numbers.{rest_again}
use Rattle.script_syntax.proofs.Spellings.{spelled_words}
use Rattle.script_syntax.proofs.Table.{count_again, one_verb, tail_again}
use Rattle.script_exec.specs.State.{State, IsInRange, block_count}
use Rattle.script_exec.specs.Meaning.{IsParsedLine, IsSaid, Meaning, Skip, Do, Wrong, Means, is_skipped, most_bytes, most_lines}
use Rattle.script_exec.specs.declared.why.Why.TheVariants.{Many, Long, Form, Range}

-- ---- a command of its parts

-- what follows the numbers, where something does
abbrev record_in : Following → Record
record_in (Reported r) = r
record_in _ = record { block = 0; version = 0; hop = 0; place = 0 }

abbrev payload_in : Following → List ℕ
payload_in (Content payload) = payload
payload_in _ = []

abbrev class_in : Following → Class
class_in (Members level members) = level
class_in _ = class.Mirrored

abbrev members_in : Following → List Named
members_in (Members level members) = members
members_in _ = []

-- the command that these parts make
abbrev made : Verb → List ℕ → Following → Order
made asked ns following = ordered asked (λ i. slice_index ns i) (record_in following) (payload_in following) (class_in following) (members_in following)

made_again : (order : Order) → made (verb_of order) (values_of order) (following_of order) ≡ order
made_again (o.Array a b c d e) = refl
made_again _ = refl

-- commands of the same parts are one
one_order : (a b : Order) → verb_of a ≡ verb_of b → values_of a ≡ values_of b → following_of a ≡ following_of b → a ≡ b
one_order a b verbs values behinds =
    sym (made_again a)
    ∙ ap (λ asked. made asked (values_of a) (following_of a)) verbs
    ∙ ap (λ ns. made (verb_of b) ns (following_of a)) values
    ∙ ap (λ following. made (verb_of b) (values_of b) following) behinds
    ∙ made_again b

-- ---- the parts of a spelled command

-- two lists of numbers with the same length and the same digits are equal
one_numbers : (ns ms : List ℕ) (back rest : List (List ℕ)) → AllByRecursion IsWritable ns → AllByRecursion IsWritable ms
    → length ns ≡ length ms → map decimal ns ++ back ≡ map decimal ms ++ rest → ns ≡ ms
one_numbers [] [] back rest short too same e = refl
one_numbers [] (m ∷ ms) back rest short too same e = absurd (omega arith)
one_numbers (n ∷ ns) [] back rest short too same e = absurd (omega arith)
one_numbers (n ∷ ns) (m ∷ ms) back rest short too same e =
    let first : decimal n ≡ decimal m = cc e in
    let one : n ≡ m = decimal_injective n m (omega (arith, short.0)) (omega (arith, too.0)) first in
    let more : ns ≡ ms = one_numbers ns ms back rest short.1 too.1 (omega arith) (cc e) in
    cc (one, more)

-- a record of a word
abbrev record_with : ℕ → ℕ → ℕ → ℕ → Record
record_with block version hop place = record { block = block; version = version; hop = hop; place = place }

same_record : (r s : Record) → r.block ≡ s.block → r.version ≡ s.version → r.hop ≡ s.hop → r.place ≡ s.place → r ≡ s
same_record r s blocks versions hops places =
    ap (λ block. record_with block r.version r.hop r.place) blocks
    ∙ ap (λ version. record_with s.block version r.hop r.place) versions
    ∙ ap (λ hop. record_with s.block s.version hop r.place) hops
    ∙ ap (λ place. record_with s.block s.version s.hop place) places

one_record : (r s : Record) (word : List ℕ) → IsRecordWord r word → IsRecordWord s word → r ≡ s
one_record r s word one other =
    let reported = sym one.decoded ∙ other.decoded in
    let same : one.bytes ≡ other.bytes = cc reported in
    let here = one.spells in
    let there : RecordSpells one.bytes s = rw same other.spells in
    same_record r s (here.block ∙ sym there.block) (here.version ∙ sym there.version) (here.hop ∙ sym there.hop) (here.place ∙ sym there.place)

-- a class of a word
one_class : (a b : Class) (word : List ℕ) → IsClassWord a word → IsClassWord b word → a ≡ b
one_class class.Mirrored class.Mirrored word one other = refl
one_class class.Mirrored class.Parity word one other = let first : 109 ≡ 112 = ap (λ text. get_or text 0 0) (sym one ∙ other) in absurd (omega (arith, first))
one_class class.Parity class.Mirrored word one other = let first : 112 ≡ 109 = ap (λ text. get_or text 0 0) (sym one ∙ other) in absurd (omega (arith, first))
one_class class.Parity class.Parity word one other = refl

-- a member of a word
abbrev named_with : ℕ → ℕ → Named
named_with drive extent = record { drive = drive; extent = extent }

one_member : (a b : Named) → IsWritableMember a → IsWritableMember b → member_word a ≡ member_word b → a ≡ b
one_member a b short too e =
    let parts_of = sym (member_parts a short) ∙ ap (λ word. parts 46 word) e ∙ member_parts b too in
    let drives : a.drive ≡ b.drive = decimal_injective a.drive b.drive (omega (arith, short.drive)) (omega (arith, too.drive)) (cc parts_of) in
    let extents : a.extent ≡ b.extent = decimal_injective a.extent b.extent (omega (arith, short.extent)) (omega (arith, too.extent)) (cc parts_of) in
    ap (λ drive. named_with drive a.extent) drives ∙ ap (λ extent. named_with b.drive extent) extents

one_members : (ones others : List Named) → AllByRecursion IsWritableMember ones → AllByRecursion IsWritableMember others
    → map member_word ones ≡ map member_word others → ones ≡ others
one_members [] [] short too e = refl
one_members [] (b ∷ others) short too e = cc e
one_members (a ∷ ones) [] short too e = cc e
one_members (a ∷ ones) (b ∷ others) short too e =
    let one : a ≡ b = one_member a b short.0 too.0 (cc e) in
    let more : ones ≡ others = one_members ones others short.1 too.1 (cc e) in
    cc (one, more)

-- what follows the numbers is of one kind, and then it is one thing
one_following : (a b : Following) (ws : List (List ℕ)) → o.kind_following a ≡ o.kind_following b → IsTrailing a ws → IsTrailing b ws → a ≡ b
one_following Nothing Nothing ws kinds one other = refl
one_following Nothing (Reported r) ws kinds one other = cc
one_following Nothing (Content payload) ws kinds one other = cc
one_following Nothing (Members level members) ws kinds one other = cc
one_following (Reported r) Nothing ws kinds one other = cc
one_following (Reported r) (Reported s) ws kinds one other =
    let lists = sym one.spelled ∙ other.spelled in
    let same : one.word ≡ other.word = cc lists in
    ap Reported (one_record r s other.word (rw same at one.named) other.named)
one_following (Reported r) (Content payload) ws kinds one other = cc
one_following (Reported r) (Members level members) ws kinds one other = cc
one_following (Content payload) Nothing ws kinds one other = cc
one_following (Content payload) (Reported s) ws kinds one other = cc
one_following (Content payload) (Content bytes) ws kinds one other =
    let lists = sym one.spelled ∙ other.spelled in
    let same : one.digits ≡ other.digits = cc lists in
    let reported = sym (rw same at one.decoded) ∙ other.decoded in
    cc reported
one_following (Content payload) (Members level members) ws kinds one other = cc
one_following (Members level members) Nothing ws kinds one other = cc
one_following (Members level members) (Reported s) ws kinds one other = cc
one_following (Members level members) (Content bytes) ws kinds one other = cc
one_following (Members level members) (Members depth others) ws kinds one other =
    let lists = sym one.spelled ∙ other.spelled in
    let word : one.word ≡ other.word = cc lists in
    let rest : one.rest ≡ other.rest = cc lists in
    let classes : level ≡ depth = one_class level depth other.word (rw word at one.named) other.named in
    let names : members ≡ others =
    one_members members others one.listed.short other.listed.short (sym one.listed.spelled ∙ rest ∙ other.listed.spelled) in
    cc (classes, names)

-- ---- one command, and one meaning

pub spells_once : (line : List ℕ) (one other : Order) → SpellsCommand one line → SpellsCommand other line → one ≡ other
spells_once line one other a b =
    let lists = sym (spelled_words one line a) ∙ spelled_words other line b in
    let verbs : verb_of one ≡ verb_of other = one_verb (verb_of one) (verb_of other) (cc lists) in
    let following : a.rest ≡ b.rest = cc lists in
    let spelled = sym a.follows.spelled ∙ following ∙ b.follows.spelled in
    let counts : length (values_of one) ≡ length (values_of other) = count_again one ∙ ap (λ asked. length (kinds_of asked)) verbs ∙ sym (count_again other) in
    let values : values_of one ≡ values_of other =
    one_numbers (values_of one) (values_of other) a.follows.rest b.follows.rest a.follows.writable b.follows.writable counts spelled in
    let rest : a.follows.rest ≡ b.follows.rest = rest_again (values_of one) (values_of other) a.follows.rest b.follows.rest counts spelled in
    let kinds = tail_again one ∙ ap o.tail_of verbs ∙ sym (tail_again other) in
    one_order one other verbs values (one_following (following_of one) (following_of other) b.follows.rest kinds (rw rest at a.follows.following) b.follows.following)

-- of two commands that one line says, the one is in range where the other is
range_once : (state : State) (line : List ℕ) (one other : Order) → IsSaid state line one → IsSaid state line other
    → IsInRange (block_count state) one → (IsInRange (block_count state) other → ⊥) → ⊥
range_once state line one other a b within beyond =
    let same : one ≡ other = spells_once line one other a.spells b.spells in
    beyond (rw same at within)

-- a line that is skipped isn't read, and no line is too long or too late and read too
skipped_or_read : (n : ℕ) (line : List ℕ) → is_skipped line ≡ true → IsParsedLine n line → ⊥
skipped_or_read n line skipped counts = cc (skipped, counts.said)

late_or_read : (n : ℕ) (line : List ℕ) → most_lines < n → IsParsedLine n line → ⊥
late_or_read n line late counts = omega (arith, late, counts.soon)

long_or_read : (n : ℕ) (line : List ℕ) → most_bytes < length line → IsParsedLine n line → ⊥
long_or_read n line long counts = omega (arith, long, counts.short)

pub means_once : (n : ℕ) (state : State) (line : List ℕ) (one other : Meaning) → Means n state line one → Means n state line other → one ≡ other
means_once n state line Skip Skip a b = refl
means_once n state line Skip (Do order) a b = absurd (skipped_or_read n line a.2 b.0)
means_once n state line Skip (Wrong Many) a b = absurd (omega (arith, a.0, b))
means_once n state line Skip (Wrong Long) a b = absurd (omega (arith, a.1, b.1))
means_once n state line Skip (Wrong Form) a b = absurd (skipped_or_read n line a.2 b.0)
means_once n state line Skip (Wrong Range) a b = absurd (skipped_or_read n line a.2 b.0)
means_once n state line (Do order) Skip a b = absurd (skipped_or_read n line b.2 a.0)
means_once n state line (Do order) (Do other) a b = ap Do (spells_once line order other a.1.spells b.1.spells)
means_once n state line (Do order) (Wrong Many) a b = absurd (late_or_read n line b a.0)
means_once n state line (Do order) (Wrong Long) a b = absurd (long_or_read n line b.1 a.0)
means_once n state line (Do order) (Wrong Form) a b = absurd (b.1 order a.1)
means_once n state line (Do order) (Wrong Range) a b = absurd (range_once state line order b.1.0 a.1 b.1.1 a.2 b.1.2)
means_once n state line (Wrong Many) Skip a b = absurd (omega (arith, a, b.0))
means_once n state line (Wrong Many) (Do order) a b = absurd (late_or_read n line a b.0)
means_once n state line (Wrong Many) (Wrong Many) a b = refl
means_once n state line (Wrong Many) (Wrong Long) a b = absurd (omega (arith, a, b.0))
means_once n state line (Wrong Many) (Wrong Form) a b = absurd (late_or_read n line a b.0)
means_once n state line (Wrong Many) (Wrong Range) a b = absurd (late_or_read n line a b.0)
means_once n state line (Wrong Long) Skip a b = absurd (omega (arith, a.1, b.1))
means_once n state line (Wrong Long) (Do order) a b = absurd (long_or_read n line a.1 b.0)
means_once n state line (Wrong Long) (Wrong Many) a b = absurd (omega (arith, b, a.0))
means_once n state line (Wrong Long) (Wrong Long) a b = refl
means_once n state line (Wrong Long) (Wrong Form) a b = absurd (long_or_read n line a.1 b.0)
means_once n state line (Wrong Long) (Wrong Range) a b = absurd (long_or_read n line a.1 b.0)
means_once n state line (Wrong Form) Skip a b = absurd (skipped_or_read n line b.2 a.0)
means_once n state line (Wrong Form) (Do order) a b = absurd (a.1 order b.1)
means_once n state line (Wrong Form) (Wrong Many) a b = absurd (late_or_read n line b a.0)
means_once n state line (Wrong Form) (Wrong Long) a b = absurd (long_or_read n line b.1 a.0)
means_once n state line (Wrong Form) (Wrong Form) a b = refl
means_once n state line (Wrong Form) (Wrong Range) a b = absurd (a.1 b.1.0 b.1.1)
means_once n state line (Wrong Range) Skip a b = absurd (skipped_or_read n line b.2 a.0)
means_once n state line (Wrong Range) (Do order) a b = absurd (range_once state line order a.1.0 b.1 a.1.1 b.2 a.1.2)
means_once n state line (Wrong Range) (Wrong Many) a b = absurd (late_or_read n line b a.0)
means_once n state line (Wrong Range) (Wrong Long) a b = absurd (long_or_read n line b.1 a.0)
means_once n state line (Wrong Range) (Wrong Form) a b = absurd (b.1 a.1.0 a.1.1)
means_once n state line (Wrong Range) (Wrong Range) a b = refl
