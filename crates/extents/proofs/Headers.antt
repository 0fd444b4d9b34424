-- Laws of headers, for callers that speak of bytes: how many there are, that they spell the header, and that they spell no other.
use Rattle.std.proofs.Common.{◌≡◌, ℕ, ◌<◌, List, take, length, refl, sym, ◌∙◌, ap, arith, inl, inr}
use Rattle.std.specs.Prelude.{replicate, slice_index, slice_range}
use Rattle.map_join.specs.declared.records.Record.{Record}
use Rattle.map_join.specs.declared.records.RecordFault.{RecordFault}
use Rattle.map_join.specs.Record.{record_bytes}
use Rattle.map_join.specs.Faults.{IsNoRecord}
use Rattle.map_join.proofs.Spelling.{spells}
use Rattle.extents.specs.declared.header.Header.{Header}
use Rattle.extents.specs.declared.header.Header.TheVariants.{Blank, Is}
use Rattle.extents.specs.declared.header.Kind.{Kind}
use Rattle.extents.specs.declared.header.Kind.TheVariants.{Data, Trim}
use Rattle.extents.specs.Stamp.{SpellsRecord, ReportsKind, first_mark, second_mark, kind_byte}
use Rattle.extents.specs.Header.{Spells, header_bytes, IsHeader}
use Rattle.extents.proofs.Stamps.{spells_made, none_within}

-- a header has 32 bytes
pub length-header_bytes : (h : Header) → length (header_bytes h) ≡ 32
length-header_bytes Blank = refl
length-header_bytes (Is r kind) = refl

-- what spells a header has 32 bytes
pub spelled_length : (bytes : List ℕ) (h : Header) → Spells bytes h → length bytes ≡ 32
spelled_length bytes Blank reported = ap length reported
spelled_length bytes (Is r kind) reported = reported.0.whole

-- the bytes of a header spell it
pub header_spelled : (h : Header) → IsHeader h → Spells (header_bytes h) h
header_spelled Blank is = refl
header_spelled (Is r kind) is = spells_made _ (record_bytes r) r kind refl (spells r is.block is.version is.hop is.place) is.written

-- what spells a kind isn't blank
not_blank : (bytes : List ℕ) (kind : Kind) → bytes ≡ replicate 32 0 → ReportsKind bytes kind → ⊥
not_blank bytes kind blank (inl reported) =
    let both : replicate 4 0 ≡ first_mark = sym (ap (take 4) blank) ∙ reported.0 in cc
not_blank bytes kind blank (inr reported) =
    let both : replicate 4 0 ≡ second_mark = sym (ap (take 4) blank) ∙ reported.0 in cc

-- one layout's mark isn't the other's
not_both : (bytes : List ℕ) → take 4 bytes ≡ first_mark → take 4 bytes ≡ second_mark → ⊥
not_both bytes first second = let both : 49 ≡ 50 = ap (λ b. slice_index b 3) (sym first ∙ second) in absurd (omega (arith, both))

-- a kind's byte is no other's
one_byte : (j k : Kind) → kind_byte j ≡ kind_byte k → j ≡ k
one_byte Data Data same = refl
one_byte Data Trim same = absurd (omega (arith, same))
one_byte Trim Data same = absurd (omega (arith, same))
one_byte Trim Trim same = refl

-- bytes spell at most one kind
pub one_kind : (bytes : List ℕ) (j k : Kind) → ReportsKind bytes j → ReportsKind bytes k → j ≡ k
one_kind bytes j k (inl one) (inl other) = one.2 ∙ sym other.2
one_kind bytes j k (inl one) (inr other) = absurd (not_both bytes one.0 other.0)
one_kind bytes j k (inr one) (inl other) = absurd (not_both bytes other.0 one.0)
one_kind bytes j k (inr one) (inr other) = one_byte j k (ap (λ b. slice_index b 0) (sym one.1 ∙ other.1))

-- one record is spelled
one_record : (bytes : List ℕ) (r s : Record) → SpellsRecord bytes r → SpellsRecord bytes s → r ≡ s
one_record bytes r s reported also =
    let block : r.block ≡ s.block = reported.block ∙ sym also.block in
    let version : r.version ≡ s.version = reported.version ∙ sym also.version in
    let hop : r.hop ≡ s.hop = reported.hop ∙ sym also.hop in
    let place : r.place ≡ s.place = reported.place ∙ sym also.place in
    ap (λ x. let q : Record = record { block = x; version = r.version; hop = r.hop; place = r.place } in q) block
    ∙ ap (λ x. let q : Record = record { block = s.block; version = x; hop = r.hop; place = r.place } in q) version
    ∙ ap (λ x. let q : Record = record { block = s.block; version = s.version; hop = x; place = r.place } in q) hop
    ∙ ap (λ x. let q : Record = record { block = s.block; version = s.version; hop = s.hop; place = x } in q) place

-- the same bytes spell one header
pub one_header : (bytes : List ℕ) (h k : Header) → Spells bytes h → Spells bytes k → h ≡ k
one_header bytes Blank Blank reported also = refl
one_header bytes Blank (Is s m) reported also = absurd (not_blank bytes m reported also.1)
one_header bytes (Is r l) Blank reported also = absurd (not_blank bytes l also reported.1)
one_header bytes (Is r l) (Is s m) reported also =
    ap (λ x. Is x l) (one_record bytes r s reported.0 also.0) ∙ ap (λ x. Is s x) (one_kind bytes l m reported.1 also.1)

-- bytes that spell a kind, and no record, spell no header
pub no_header : (bytes : List ℕ) (kind : Kind) (fault : RecordFault) (h : Header) → length bytes ≡ 32 → ReportsKind bytes kind → IsNoRecord (slice_range bytes 4 16) fault → Spells bytes h → ⊥
no_header bytes kind fault Blank whole reports fails reported = not_blank bytes kind reported reports
no_header bytes kind fault (Is r k) whole reports fails reported = none_within bytes fault r whole fails reported.0

-- nor do bytes that aren't blank and spell no kind
pub no_kind : (bytes : List ℕ) (h : Header) → (bytes ≡ replicate 32 0 → ⊥) → ((kind : Kind) → ReportsKind bytes kind → ⊥) → Spells bytes h → ⊥
no_kind bytes Blank filled none reported = filled reported
no_kind bytes (Is r kind) filled none reported = none kind reported.1

-- a record that bytes spell was written: it has a version
pub spelled_written : (bytes : List ℕ) (r : Record) (kind : Kind) → Spells bytes (Is r kind) → 0 < r.version
spelled_written bytes r kind reported = reported.0.written
