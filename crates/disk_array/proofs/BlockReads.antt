-- What is read of the drives is the flat machine's.
use Rattle.std.proofs.Common.{◌≡◌, ℕ, List, [], refl, sym, ap, ◌∙◌, subst, inl, inr, Option, Some, None, Vec}
use Rattle.std.proofs.lemmas.Option.{same_Some}
use Rattle.std.specs.Global.{Global}
use Rattle.unit_store.specs.Views.{WasRead}
use Rattle.map_join.specs.declared.records.Record.{Record}
use Rattle.map_join.specs.Record.{record_at}
use Rattle.flat_machine.specs.declared.refusal.Refusal.{Refusal}
use Rattle.flat_machine.specs.declared.refusal.Refusal.TheVariants.{Gone}
use Rattle.flat_machine.specs.Flat.{Flat, Content, Payload, Trim, IsNewest, last_write}
use Rattle.flat_machine.specs.Steps.{Read, Found, Refused}
use Rattle.flat_machine.specs.Cases.{ReadCase, IsAllocating, IsGoneIn, found_in, found_of}
use Rattle.flat_machine.proofs.Newest.{newest_unique}
use Rattle.slot_tables.specs.Changes.{MayRefuse}
use Rattle.slot_tables.specs.Represents.{ShowsArray}
use Rattle.slot_tables.specs.Views.{ArrayView, IsWhole, with_parts, key_at}
use Rattle.slot_tables.proofs.Fares.{fared, itself, gone_as, gone_back, lost_shows, lost_leaves}
use Rattle.slot_tables.proofs.Finds.{read_none, read_some}
use Rattle.slot_tables.proofs.Newest.{newest_is}
use Rattle.disk_array.specs.Reads.{WasFound, WasFoundIn, WasGone, WasNotFound, version_in, version_of}

-- the newest record of a block is the one that the array has
one_newest : (a : ArrayView) (F : Flat) (block : ℕ) (o : Option Record) (r : Record) → ShowsArray a F → record_at block (key_at a block) ≡ o → IsNewest F.emitted block (Some r) → Some r ≡ o
one_newest a F block o r shows reported newest = newest_unique F.emitted block shows.history.records (Some r) o newest (newest_is a F block o shows reported)

-- an array whose drives alone changed
drives_as : (a b : ArrayView) (F : Flat) → b ≡ with_parts a b.parts → ShowsArray (with_parts a b.parts) F → ShowsArray b F
drives_as a b F rest shows = subst (λ (v : ArrayView). ShowsArray v F) (sym rest) shows

-- the slot of the newest record was read, and held this
content_case : (a b : ArrayView) (F : Flat) (block : ℕ) (r : Record) (x : Content) → ShowsArray a F → record_at block (key_at a block) ≡ Some r → b ≡ with_parts a b.parts
    → WasRead a.parts b.parts r.place x → (G : Flat) × ReadCase F block (Found (found_in r.version x)) G × ShowsArray b G
content_case a b F block r x shows reported rest read =
    let u = read.unit F.units shows.units in
    let same : found_in r.version x ≡ found_of (last_write F.writes block) = ap (λ y. found_in r.version y) u.2 ∙ read_some a F block r u.0 shows reported u.1 in
    let there : (q : Record) → IsNewest F.emitted block (Some q) → IsGoneIn (fared F b.parts) q.place → ⊥ =
    λ q newest gone. read.there (gone_back F a.parts b.parts r.place shows.tables.groups read.loses.rest
    (subst (λ (p : Record). IsGoneIn (fared F b.parts) p.place) (same_Some q r (one_newest a F block (Some r) q shows reported newest)) gone))
    in
    (fared F b.parts, (same, there, lost_leaves a F b.parts shows read.loses), drives_as a b (fared F b.parts) rest (lost_shows a F b.parts shows read.loses))

pub found_case : (a b : ArrayView) (F : Flat) (block : ℕ) (found : Option ℕ) (bytes : List ℕ) → IsWhole a → ShowsArray a F → b ≡ with_parts a b.parts → WasFoundIn a b block found bytes
    → (G : Flat) × ReadCase F block (Found (version_in found bytes)) G × ShowsArray b G
found_case a b F block None bytes whole shows rest (inl was) = (
  F,
  (
    read_none a F block whole shows was.0,
    (λ r newest gone. let bad : Some r ≡ None = one_newest a F block None r shows was.0 newest in cc),
    itself F,
  ),
  subst (λ (v : ArrayView). ShowsArray v F) (sym was.1) shows,
)
found_case a b F block None bytes whole shows rest (inr (r, newest, read)) = content_case a b F block r Trim shows newest rest read
found_case a b F block (Some version) bytes whole shows rest (r, newest, is, read) =
    subst (λ n. (G : Flat) × ReadCase F block (Found (version_in (Some n) bytes)) G × ShowsArray b G) (sym is) (content_case a b F block r (Payload bytes) shows newest rest read)

pub read_case : (a b : ArrayView) (F : Flat) (block : ℕ) (found : Option (ℕ × Vec ℕ Global)) → IsWhole a → ShowsArray a F → b ≡ with_parts a b.parts → WasFound a b block found
    → (G : Flat) × ReadCase F block (Found (version_of found)) G × ShowsArray b G
read_case a b F block None whole shows rest was = found_case a b F block None [] whole shows rest was
read_case a b F block (Some found) whole shows rest was = found_case a b F block (Some found.0) found.1.items whole shows rest was

pub gone_case : (a b : ArrayView) (F : Flat) (block : ℕ) (q : Refusal) → ShowsArray a F → b ≡ with_parts a b.parts → WasGone a b block q
    → (G : Flat) × ReadCase F block (Refused q) G × ShowsArray b G
gone_case a b F block q shows rest (r, reported, gone) =
    subst (λ p. (G : Flat) × ReadCase F block (Refused p) G × ShowsArray b G) (sym gone.reported) (
      fared F b.parts,
      ((r, newest_is a F block (Some r) shows reported, refl, gone_as F a.parts b.parts r.place shows.tables.groups gone.loses.rest gone.gone), lost_leaves a F b.parts shows gone.loses),
      drives_as a b (fared F b.parts) rest (lost_shows a F b.parts shows gone.loses),
    )

pub unread_case : (a b : ArrayView) (F : Flat) (block : ℕ) (q : Refusal) → ShowsArray a F → b ≡ with_parts a b.parts → WasNotFound a b block q
    → MayRefuse q (IsAllocating F (Read block)) ((G : Flat) × ReadCase F block (Refused q) G × ShowsArray b G)
unread_case a b F block q shows rest (r, reported, inl want) =
    subst (λ p. MayRefuse p (IsAllocating F (Read block)) ((G : Flat) × ReadCase F block (Refused p) G × ShowsArray b G)) (sym want.0) (r, newest_is a F block (Some r) shows reported)
unread_case a b F block q shows rest (r, reported, inr gone) =
    let case = gone_case a b F block (Gone r.place) shows rest (r, reported, record { loses = gone.loses; reported = refl; gone = gone.gone }) in
    subst (λ p. MayRefuse p (IsAllocating F (Read block)) ((G : Flat) × ReadCase F block (Refused p) G × ShowsArray b G)) (sym gone.reported) case
