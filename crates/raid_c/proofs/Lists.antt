-- Lists of records as bytes, with one record more.
use Rattle.std.proofs.Common.{◌≡◌, ℕ, ◌+◌, ◌-◌, ◌*◌, ◌/◌, ◌^◌, ◌<◌, ◌≤◌, List, [], ◌∷◌, ◌++◌, length, take, drop, get_or, Some, None, ◌⊎◌, inl, inr, sym, ap, ◌∙◌, arith, subst}
use Rattle.std.proofs.Math.Seq.{take-add}
use Rattle.std.proofs.lemmas.List.{take_all, drop_all, take-append-le, drop-append-le, length-take, length-drop, take_more}
use Rattle.std.proofs.lemmas.List.Elements.{Contains-get_or}
use Rattle.std.proofs.lemmas.Option.{same_Some}
use Rattle.std.proofs.lemmas.Bool.Decides.{nat_tests}
use Rattle.map_join.specs.declared.records.Record.{Record}
use Rattle.map_join.specs.declared.records.RecordFault.{RecordFault}
use Rattle.map_join.specs.declared.records.RecordFault.TheVariants.{Length, ZeroVersion}
use Rattle.map_join.specs.Faults.{IsNoRecord}
use Rattle.map_join.specs.Record.{Spells, record_at, record_of}
use Rattle.map_join.specs.Maps.{IsListOf}
use Rattle.raid_c.specs.Lists.{AreRecords, AreWritten, HasVersionZero, piece}

-- twelve bytes more that spell a record
pub one_more : (bytes piece : List ℕ) (records : List Record) (r : Record) → AreRecords bytes records → Spells piece r → 0 < r.version → AreRecords (bytes ++ piece) (records ++ r ∷ [])
one_more bytes piece [] r none spelled written =
    let long : length piece ≤ 12 = let e = spelled.length in omega arith in
    subst (λ xs. AreRecords (xs ++ piece) (r ∷ [])) (sym none)
    (subst (λ xs. Spells xs r) (sym (take_all 12 piece long)) spelled, written, drop_all 12 piece long)
one_more bytes piece (q ∷ rest) r here spelled written =
    let long : 12 ≤ length bytes = let e = here.0.length in let t = length-take 12 bytes in omega arith in (
      subst (λ xs. Spells xs q) (sym (take-append-le 12 bytes piece long)) here.0,
      here.1,
      subst (λ xs. AreRecords xs (rest ++ r ∷ [])) (sym (drop-append-le 12 bytes piece long)) (one_more (drop 12 bytes) piece rest r here.2 spelled written),
    )

-- the next twelve bytes of a list
pub next : (bytes : List ℕ) (index : ℕ) (records : List Record) (r : Record) → AreRecords (take (12 * index) bytes) records
    → Spells (piece bytes index) r → 0 < r.version → AreRecords (take (12 * (index + 1)) bytes) (records ++ r ∷ [])
next bytes index records r were spelled written =
    let here = piece bytes index in
    let count : 12 * (index + 1) ≡ 12 * index + 12 = omega arith in
    let some : 12 ≡ 12 * index + 12 - 12 * index = omega arith in
    let cut : take (12 * (index + 1)) bytes ≡ take (12 * index) bytes ++ here =
    ap (λ n. take n bytes) count ∙ take-add (12 * index) 12 bytes ∙ ap (λ n. take (12 * index) bytes ++ take n (drop (12 * index) bytes)) some in
    subst (λ xs. AreRecords xs (records ++ r ∷ [])) (sym cut) (one_more (take (12 * index) bytes) here records r were spelled written)

-- twelve bytes within a list are no record only if they spell version 0
pub zero_version : (bytes : List ℕ) (index : ℕ) (fault : RecordFault) → index < length bytes / 12 → IsNoRecord (piece bytes index) fault → HasVersionZero bytes
zero_version bytes index Length low is =
    let after = length-drop (12 * index) bytes in
    let long = length-take (12 * index + 12 - 12 * index) (drop (12 * index) bytes) in
    absurd (is (omega arith))
zero_version bytes index ZeroVersion low is = (index, low, is.1)

-- the next record of a list
pub next_record : (list : List Record) (index : ℕ) (d : Record) (bytes piece longer : List ℕ) → index < length list → AreWritten list
    → AreRecords bytes (take index list) → Spells piece (get_or list index d) → longer ≡ bytes ++ piece → AreRecords longer (take (index + 1) list)
next_record list index d bytes piece longer low all were spelled put =
    let r = get_or list index d in
    subst (λ xs. AreRecords xs (take (index + 1) list)) (sym put)
    (subst (λ rs. AreRecords (bytes ++ piece) rs) (sym (take_more list index d low))
    (one_more bytes piece (take index list) r were spelled (all r (Contains-get_or list index d low))))

-- a record that a key has is one of version 1 at least
has_version : (block key : ℕ) (r : Record) → record_at block key ≡ Some r → 0 < r.version
has_version block key r e = go (either key)
  where
    either : (k : ℕ) → (2 ^ 32 ≤ k) ⊎ (k < 2 ^ 32)
    either k = grind arith

    none : key < 2 ^ 32 → record_at block key ≡ None
    none h = grind (arith, nat_tests)

    some : 2 ^ 32 ≤ key → record_at block key ≡ Some (record_of block key)
    some h = grind (arith, nat_tests)

    go : (2 ^ 32 ≤ key) ⊎ (key < 2 ^ 32) → 0 < r.version
    go (inl big) =
        let version : key / 2 ^ 32 ≡ r.version = ap (λ (q : Record). q.version) (same_Some _ _ (sym (some big) ∙ e)) in
        let above : 0 < key / 2 ^ 32 = omega arith in
        omega arith
    go (inr small) = absurd (differ (sym (none small) ∙ e))
      where
        differ : None ≡ Some r → ⊥
        differ t = cc

-- the records of a map have versions of at least 1
pub written : (keys : ℕ → ℕ) (records : List Record) → IsListOf keys records → AreWritten records
written keys records list r has = has_version r.block (keys r.block) r ((list.each r).0 has)
