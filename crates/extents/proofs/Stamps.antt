-- The bytes of a record's header spell it and its kind, and a record that is read within a header is spelled by all of it.
use Rattle.std.proofs.Common.{◌≡◌, ℕ, ◌<◌, ◌≤◌, ◌+◌, List, ◌∷◌, ◌++◌, length, take, drop, refl, sym, ◌∙◌, ap, arith, lit≤, length-append, length-drop, inr}
use Rattle.std.proofs.lemmas.List.{drop-take, drop-drop, take_at, drop_at, length-take-le}
use Rattle.std.specs.Prelude.{replicate, slice_range}
use Rattle.byteorder.specs.Numbers.{big_from-take}
use Rattle.byteorder.specs.Endian.{big_number}
use Rattle.map_join.specs.declared.records.Record.{Record}
use Rattle.map_join.specs.declared.records.RecordFault.{RecordFault}
use Rattle.map_join.specs.declared.records.RecordFault.TheVariants.{Length, ZeroVersion}
use Rattle.map_join.specs.Record.{Spells as SpellsTwelve}
use Rattle.map_join.specs.Faults.{IsNoRecord}
use Rattle.extents.specs.declared.header.Kind.{Kind}
use Rattle.extents.specs.Stamp.{SpellsRecord, ReportsKind, second_mark, kind_byte}

-- a number within the twelve bytes is the one within all of them
number_within : (bytes : List ℕ) (n at left : ℕ) → n ≤ left → at + left ≡ 12 → big_number n (drop at (slice_range bytes 4 16)) ≡ big_number n (drop (4 + at) bytes)
number_within bytes n at left fits cut =
    ap (λ m. big_number n (drop at (take m (drop 4 bytes)))) (sym cut)
    ∙ ap (big_number n) (drop-take at left (drop 4 bytes))
    ∙ big_from-take 0 n left (drop at (drop 4 bytes)) (omega arith)
    ∙ ap (big_number n) (drop-drop at 4 bytes)

-- a record that the twelve bytes after the mark spell is spelled by the header
pub spells_within : (bytes : List ℕ) (r : Record) → length bytes ≡ 32 → SpellsTwelve (slice_range bytes 4 16) r → 0 < r.version → SpellsRecord bytes r
spells_within bytes r whole reported written = record {
  whole = whole;
  block = reported.block ∙ number_within bytes 4 0 12 (lit≤ tt) refl;
  version = reported.version ∙ number_within bytes 4 4 8 (lit≤ tt) refl;
  hop = reported.hop ∙ number_within bytes 2 8 4 (lit≤ tt) refl;
  place = reported.place ∙ number_within bytes 2 10 2 (lit≤ tt) refl;
  written = written;
}

-- where the twelve bytes after the mark are no record, the header spells none
pub none_within : (bytes : List ℕ) (fault : RecordFault) (r : Record) → length bytes ≡ 32 → IsNoRecord (slice_range bytes 4 16) fault → SpellsRecord bytes r → ⊥
none_within bytes Length r whole fails reported = fails (length-slice_range bytes whole)
  where
    length-slice_range : (bytes : List ℕ) → length bytes ≡ 32 → length (slice_range bytes 4 16) ≡ 12
    length-slice_range bytes whole = length-take-le 12 (drop 4 bytes) (omega (arith, length-drop 4 bytes, whole))
none_within bytes ZeroVersion r whole fails reported =
    let none : r.version ≡ 0 = reported.version ∙ sym (number_within bytes 4 4 8 (lit≤ tt) refl) ∙ fails.1 in
    absurd (omega (arith, none, reported.written))

-- a header made of the second mark, twelve bytes that spell the record, the kind's byte, and zeros
pub spells_made : (bytes twelve : List ℕ) (r : Record) (kind : Kind) → bytes ≡ second_mark ++ (twelve ++ kind_byte kind ∷ replicate 15 0) → SpellsTwelve twelve r → 0 < r.version
    → SpellsRecord bytes r × ReportsKind bytes kind
spells_made bytes twelve r kind made reported written =
    let following = kind_byte kind ∷ replicate 15 0 in
    let whole : length (second_mark ++ (twelve ++ following)) ≡ 32 = omega (arith, length-append twelve following, reported.length) in
    let twelve_is : slice_range (second_mark ++ (twelve ++ following)) 4 16 ≡ twelve = take_at twelve following 12 reported.length in
    let spelled : SpellsTwelve (slice_range (second_mark ++ (twelve ++ following)) 4 16) r = rw twelve_is reported in
    rw made (spells_within (second_mark ++ (twelve ++ following)) r whole spelled written, inr (refl, drop_at twelve following 12 reported.length))
