-- A batch as bytes is read as it was written.
use Rattle.std.proofs.Common.{◌≡◌, ℕ, zero, suc, ◌+◌, ◌-◌, ◌*◌, ◌≤◌, ◌<◌, ◌^◌, List, [], ◌∷◌, ◌++◌, length, take, drop, refl, sym, ◌∙◌, ap, subst, arith, append_assoc, length-append, length-drop, Result, Ok, Err}
use Rattle.std.specs.Prelude.{OnOk, is_ok, if◌then◌else◌}
use Rattle.std.proofs.lemmas.Nat.{from_le_bytes-to_le_bytes_8}
use Rattle.std.proofs.lemmas.List.{drop_at, append-nil, take_all, drop-drop}
use Rattle.vault.specs.declared.batch.Entry.{Entry}
use Rattle.vault.specs.Entries.{writes_in, AreWithin}
use Rattle.vault.specs.Coding.{word, number, entry_code, entry_at, entries_code, entries_at, code, packed_units, decoded, IsGoodEntry, AreGood, IsCode, IsSmall, AreSmall, Encodes}

pub length-word : (n : ℕ) → length (word n) ≡ 8
unfolding word
length-word n = refl

pub number-word : (n : ℕ) (rest : List ℕ) → n < 2 ^ 64 → number (word n ++ rest) ≡ n
unfolding word number
number-word n rest small = from_le_bytes-to_le_bytes_8 n small

drop_word : (n : ℕ) (rest : List ℕ) → drop 8 (word n ++ rest) ≡ rest
drop_word n rest = drop_at (word n) rest 8 (length-word n)

-- the bytes of an entry and others behind them, word by word
spread : (e : Entry) (rest : List ℕ) → entry_code e ++ rest ≡ word e.place.drive ++ (word e.place.address ++ (word e.from ++ (word e.to ++ rest)))
spread e rest =
    append_assoc (word e.place.drive) (word e.place.address ++ (word e.from ++ word e.to)) rest
    ∙ ap (λ l. word e.place.drive ++ l) (append_assoc (word e.place.address) (word e.from ++ word e.to) rest ∙ ap (λ l. word e.place.address ++ l) (append_assoc (word e.from) (word e.to) rest))

drop_two : (m n : ℕ) (rest : List ℕ) → drop 16 (word m ++ (word n ++ rest)) ≡ rest
drop_two m n rest = sym (drop-drop 8 8 (word m ++ (word n ++ rest))) ∙ ap (λ l. drop 8 l) (drop_word m (word n ++ rest)) ∙ drop_word n rest

drop_three : (m n k : ℕ) (rest : List ℕ) → drop 24 (word m ++ (word n ++ (word k ++ rest))) ≡ rest
drop_three m n k rest = sym (drop-drop 16 8 (word m ++ (word n ++ (word k ++ rest)))) ∙ ap (λ l. drop 16 l) (drop_word m (word n ++ (word k ++ rest))) ∙ drop_two n k rest

pub length-entry : (e : Entry) → length (entry_code e) ≡ 32
length-entry e =
    omega (
      arith,
      length-word e.place.drive,
      length-word e.place.address,
      length-word e.from,
      length-word e.to,
      length-append (word e.place.drive) (word e.place.address ++ (word e.from ++ word e.to)),
      length-append (word e.place.address) (word e.from ++ word e.to),
      length-append (word e.from) (word e.to),
    )

pub length-entries : (es : List Entry) → length (entries_code es) ≡ 32 * length es
length-entries [] = refl
length-entries (e ∷ es) = let more = length-entries es in omega (arith, more, length-entry e, length-append (entry_code e) (entries_code es))

same_entry : (d e : Entry) → d.place.drive ≡ e.place.drive → d.place.address ≡ e.place.address → d.from ≡ e.from → d.to ≡ e.to → d ≡ e
same_entry d e p q r s = λ i. record { place = record { drive = p i; address = q i }; from = r i; to = s i }

entry_read : (e : Entry) (rest : List ℕ) → IsSmall e → entry_at (entry_code e ++ rest) ≡ e
entry_read e rest (drive, address, from, to) =
    let tail = word e.to ++ rest in
    let all = word e.place.drive ++ (word e.place.address ++ (word e.from ++ tail)) in
    ap entry_at (spread e rest) ∙ same_entry (entry_at all) e
    (number-word e.place.drive (word e.place.address ++ (word e.from ++ tail)) (omega (arith, drive)))
    (ap number (drop_word e.place.drive (word e.place.address ++ (word e.from ++ tail))) ∙ number-word e.place.address (word e.from ++ tail) (omega (arith, address)))
    (ap number (drop_two e.place.drive e.place.address (word e.from ++ tail)) ∙ number-word e.from tail from)
    (ap number (drop_three e.place.drive e.place.address e.from tail) ∙ number-word e.to rest to)

pub entries_read : (es : List Entry) (rest : List ℕ) → AreSmall es → entries_at (length es) (entries_code es ++ rest) ≡ es
entries_read [] rest small = refl
entries_read (e ∷ es) rest small =
    let later = entries_code es ++ rest in
    ap (λ l. entry_at l ∷ entries_at (length es) (drop 32 l)) (append_assoc (entry_code e) (entries_code es) rest)
    ∙ ap (λ d. d ∷ entries_at (length es) (drop 32 (entry_code e ++ later))) (entry_read e later small.0)
    ∙ ap (λ l. e ∷ entries_at (length es) l) (drop_at (entry_code e) later 32 (length-entry e))
    ∙ ap (λ l. e ∷ l) (entries_read es rest small.1)

good_of : (units : List ℕ) (es : List Entry) → AreWithin units es → AreSmall es → AreGood (length units) es
good_of units [] within small = tt
good_of units (e ∷ es) within small = (record { drive = small.0.0; address = small.0.1; ordered = within.0; inside = within.1 }, good_of units es within.2 small.1)

pub good_within : (units : List ℕ) (es : List Entry) → AreGood (length units) es → AreWithin units es
good_within units [] good = tt
good_within units (e ∷ es) good = (good.0.ordered, good.0.inside, good_within units es good.1)

-- the code of a batch
pub encodes : (old new units : List ℕ) (es : List Entry) → AreWithin units es → AreSmall es → length es < 2 ^ 64 → new ≡ old ++ code units es → Encodes old new (writes_in units es)
encodes old new units es within small few bytes =
    let n : number (code units es) ≡ length es = number-word (length es) (entries_code es ++ units) few in
    let table : drop 8 (code units es) ≡ entries_code es ++ units = drop_word (length es) (entries_code es ++ units) in
    let rest : packed_units (code units es) ≡ units = ap (λ m. drop (32 * m) (drop 8 (code units es))) n ∙ ap (λ l. drop (32 * length es) l) table ∙ drop_at (entries_code es) units (32 * length es) (length-entries es) in
    let all : entries_at (number (code units es)) (drop 8 (code units es)) ≡ es = ap (λ m. entries_at m (drop 8 (code units es))) n ∙ ap (λ l. entries_at (length es) l) table ∙ entries_read es units small in
    record {
      code = code units es;
      bytes = bytes;
      is = record {
        counted = omega (arith, length-word (length es), length-append (word (length es)) (entries_code es ++ units));
        table = omega (arith, n, length-entries es, length-word (length es), length-append (word (length es)) (entries_code es ++ units), length-append (entries_code es) units);
        entries = subst (λ u. AreGood (length u) (entries_at (number (code units es)) (drop 8 (code units es)))) (sym rest) (subst (AreGood (length units)) (sym all) (good_of units es within small));
      };
      back = ap (λ u. writes_in u (entries_at (number (code units es)) (drop 8 (code units es)))) rest ∙ ap (λ l. writes_in units l) all;
    }

-- one entry more
pub entries_more : (es : List Entry) (e : Entry) → entries_code (es ++ e ∷ []) ≡ entries_code es ++ entry_code e
entries_more [] e = append-nil (entry_code e)
entries_more (d ∷ es) e = ap (λ l. entry_code d ++ l) (entries_more es e) ∙ sym (append_assoc (entry_code d) (entries_code es) (entry_code e))

pub small_more : (es : List Entry) (e : Entry) → AreSmall es → IsSmall e → AreSmall (es ++ e ∷ [])
small_more [] e small one = (one, tt)
small_more (d ∷ es) e small one = (small.0, small_more es e small.1 one)

pub good_more : (units : ℕ) (es : List Entry) (e : Entry) → AreGood units es → IsGoodEntry units e → AreGood units (es ++ e ∷ [])
good_more units [] e good one = (one, tt)
good_more units (d ∷ es) e good one = (good.0, good_more units es e good.1 one)

pub at_more : (k : ℕ) (table : List ℕ) → entries_at (k + 1) table ≡ entries_at k table ++ entry_at (drop (32 * k) table) ∷ []
at_more zero table = refl
at_more (suc k) table =
    let n : suc k + 1 ≡ suc (k + 1) = omega arith in
    let m : 32 + 32 * k ≡ 32 * suc k = omega arith in
    ap (λ j. entries_at j table) n ∙ ap (λ l. entry_at table ∷ l) (at_more k (drop 32 table))
    ∙ ap (λ l. entry_at table ∷ (entries_at k (drop 32 table) ++ entry_at l ∷ [])) (drop-drop (32 * k) 32 table ∙ ap (λ j. drop j table) (omega arith))

-- one of the entries
pub good_at : (units k count : ℕ) (table : List ℕ) → k < count → AreGood units (entries_at count table) → IsGoodEntry units (entry_at (drop (32 * k) table))
good_at units k zero table low good = absurd (omega (arith, low))
good_at units zero (suc count) table low good = good.0
good_at units (suc k) (suc count) table low good =
    subst (λ l. IsGoodEntry units (entry_at l)) (drop-drop (32 * k) 32 table ∙ ap (λ j. drop j table) (omega arith)) (good_at units k count (drop 32 table) (omega (arith, low)) good.1)

-- what `&bytes[n..]` is
pub tail_is : (n : ℕ) (xs : List ℕ) → take (length xs - n) (drop n xs) ≡ drop n xs
tail_is n xs = take_all (length xs - n) (drop n xs) (omega (arith, length-drop n xs))

-- bytes that stand for a batch, by the parts that are read
pub decoded_by : (bytes units : List ℕ) (count : ℕ) → count ≡ number bytes → units ≡ drop (8 + 32 * count) bytes → decoded bytes ≡ writes_in units (entries_at count (drop 8 bytes))
decoded_by bytes units count n rest =
    ap (λ m. writes_in (drop (32 * m) (drop 8 bytes)) (entries_at m (drop 8 bytes))) (sym n)
    ∙ ap (λ u. writes_in u (entries_at count (drop 8 bytes))) (drop-drop (32 * count) 8 bytes ∙ sym rest)

pub code_by : (bytes units : List ℕ) (count : ℕ) → 8 ≤ length bytes → count ≡ number bytes → 8 + 32 * count ≤ length bytes → units ≡ drop (8 + 32 * count) bytes
    → (AreGood (length units) (entries_at count (drop 8 bytes)) → IsCode bytes) × (IsCode bytes → AreGood (length units) (entries_at count (drop 8 bytes)))
code_by bytes units count counted n table rest =
    let same : units ≡ packed_units bytes = rest ∙ sym (drop-drop (32 * count) 8 bytes) ∙ ap (λ m. drop (32 * m) (drop 8 bytes)) n in
    let to : (u : List ℕ) (m : ℕ) → Type 0 = λ u m. AreGood (length u) (entries_at m (drop 8 bytes)) in (
      λ good. record { counted = counted; table = omega (arith, n, table); entries = subst (to (packed_units bytes)) n (subst (λ u. to u count) same good) },
      λ is. subst (λ u. to u count) (sym same) (subst (to (packed_units bytes)) (sym n) is.entries),
    )

-- what an `Ok` says of one of two values
pub when_ok : {T E P : Type 0} {x : List ℕ} (a b : List ℕ) (r : Result T E) → x ≡ (if is_ok r then a else b) → (x ≡ a → P) → OnOk r P
when_ok a b (Ok t) is to = to is
when_ok a b (Err e) is to = tt
