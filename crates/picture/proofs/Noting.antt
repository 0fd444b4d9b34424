-- Entering the blocks of records, one after the other.
use Rattle.std.proofs.Common.{◌≡◌, ◌≢◌, ℕ, zero, suc, ◌+◌, ◌<◌, inl, inr, Option, Some, None, List, length, Contains, replicate, refl, sym, ◌∙◌, ap, subst, arith, unwrap_or, get_or}
use Rattle.std.specs.Prelude.{slice_get, slice_set}
use Rattle.std.proofs.lemmas.Option.{same_Some, slice_get_within, slice_get-get_or, get_or_from_slice_get}
use Rattle.map_join.specs.declared.records.Record.{Record}
use Rattle.map_join.specs.Live.{IsBlockAt}
use Rattle.map_join.specs.Maps.{Entries, at, IsListOf}
use Rattle.map_join.specs.Record.{record_at}
use Rattle.map_join.proofs.Listing.{key_reported}
use Rattle.extent_groups.proofs.Places.{get-set_same, get-set_other, same_or_not}
use Rattle.picture.specs.Blocks.{block_in, AreBlocksOf, IsMappedBlock}

-- a table without blocks has none at any slot
blank : (n slot : ℕ) → block_in (replicate n None) slot ≡ None
blank zero slot = refl
blank (suc n) zero = refl
blank (suc n) (suc slot) = blank n slot

pub blank_in : (blocks : List (Option ℕ)) (n slot : ℕ) → blocks ≡ replicate n None → block_in blocks slot ≡ None
blank_in blocks n slot e = ap (λ xs. block_in xs slot) e ∙ blank n slot

-- nothing is noted before the first record
pub none_noted : (records : List Record) (blocks : List (Option ℕ)) (slot : ℕ) → block_in blocks slot ≡ None → IsMappedBlock records 0 slot (block_in blocks slot)
none_noted records blocks slot e = subst (IsMappedBlock records 0 slot) (sym e) (λ k r h at. absurd (omega arith))

-- one record more, whose place is another slot
still_noted : (records : List Record) (k slot : ℕ) (r : Record) (o : Option ℕ) → slice_get records k ≡ Some r → r.place ≢ slot → IsMappedBlock records k slot o → IsMappedBlock records (k + 1) slot o
still_noted records k slot r (Some block) at ne noted = noted
still_noted records k slot r None at ne noted = λ j x h there.
    elim (same_or_not j k) [
      | inl e ↦ (let same : x ≡ r = same_Some _ _ (sym there ∙ ap (slice_get records) e ∙ at) in λ p. ne (ap (λ (y : Record). y.place) (sym same) ∙ p))
      | inr other ↦ noted j x (omega (arith, h, other)) there
    ]

-- one record more
noted_more : (records : List Record) (blocks : List (Option ℕ)) (k slot : ℕ) (r : Record) → slice_get records k ≡ Some r → r.place < length blocks
    → IsMappedBlock records k slot (block_in blocks slot) → IsMappedBlock records (k + 1) slot (block_in (slice_set blocks r.place (Some r.block)) slot)
noted_more records blocks k slot r at low noted =
    elim (same_or_not slot r.place) [
      | inl e ↦
          (let is : block_in (slice_set blocks r.place (Some r.block)) slot ≡ Some r.block =
          ap (λ o. unwrap_or o None) (ap (slice_get (slice_set blocks r.place (Some r.block))) e ∙ get-set_same blocks r.place (Some r.block) low) in
          subst (IsMappedBlock records (k + 1) slot) (sym is) (k, r, at, refl, sym e))
      | inr ne ↦
          (let is : block_in (slice_set blocks r.place (Some r.block)) slot ≡ block_in blocks slot = ap (λ o. unwrap_or o None) (get-set_other blocks r.place slot (Some r.block) ne) in
          subst (IsMappedBlock records (k + 1) slot) (sym is) (still_noted records k slot r (block_in blocks slot) at (λ e. ne (sym e)) noted))
    ]

pub noted_next : (records : List Record) (blocks new : List (Option ℕ)) (k slot : ℕ) (d : Record) → k < length records → length blocks ≡ 65536 → (get_or records k d).place < 65536
    → new ≡ slice_set blocks (get_or records k d).place (Some (get_or records k d).block) → IsMappedBlock records k slot (block_in blocks slot) → IsMappedBlock records (k + 1) slot (block_in new slot)
noted_next records blocks new k slot d inside long low is noted =
    subst (λ xs. IsMappedBlock records (k + 1) slot (block_in xs slot)) (sym is) (noted_more records blocks k slot (get_or records k d) (slice_get-get_or records k d inside) (omega (arith, long, low)) noted)

-- a block of a map's list lies at its record's place, and each live slot is such a place
at_slot : (es : Entries) (records : List Record) (slot : ℕ) (o : Option ℕ) → IsListOf (at es) records → IsMappedBlock records (length records) slot o → IsBlockAt (at es) slot o
at_slot es records slot (Some block) list noted =
    let r = noted.1 in
    let has : Contains records r = (noted.0, slice_get_within records noted.0 r noted.2, get_or_from_slice_get records noted.0 r r noted.2) in
    let reported : record_at r.block (at es r.block) ≡ Some r = (list.each r).0 has in
    (r, subst (λ b. record_at b (at es b) ≡ Some r) noted.3 reported, noted.4)
at_slot es records slot None list noted = λ live.
    (let r = live.1.0 in
    let k = key_reported es live.0 r live.1.1 in
    let own : live.0 ≡ r.block = ap (λ (y : Record). y.block) k.2 in
    let has = (list.each r).1 (subst (λ b. record_at b (at es b) ≡ Some r) own live.1.1) in
    noted has.0 r has.1 (slice_get-get_or records has.0 r has.1 ∙ ap (λ x. Some x) has.2) live.1.2)

pub table_of : (es : Entries) (records : List Record) (blocks : List (Option ℕ)) → IsListOf (at es) records → length blocks ≡ 65536
    → ((slot : ℕ) → IsMappedBlock records (length records) slot (block_in blocks slot)) → AreBlocksOf (at es) blocks
table_of es records blocks list long noted = record { many = long; each = λ slot low. at_slot es records slot (block_in blocks slot) list (noted slot) }
