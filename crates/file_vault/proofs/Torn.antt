-- Records of which a stop left zeros in place of some bytes, and what is read of them.
use Rattle.std.proofs.Common.{◌≡◌, ◌≤◌, ◌<◌, ◌⊎◌, inl, inr, ℕ, zero, suc, ◌+◌, ◌-◌, ◌==◌, Bool, true, false, if◌then◌else◌, List, [], ◌∷◌, ◌++◌, refl, sym, ◌∙◌, ap, subst, arith, length, take}
use Rattle.std.specs.Prelude.{◌&&◌, nat_le}
use Rattle.std.proofs.lemmas.Bool.{true≢false}
use Rattle.std.proofs.lemmas.Bool.Decides.{eqb_tells}
use Rattle.extent_groups.specs.Planned.{Intended}
use Rattle.vault.specs.Coding.{decoded}
use Rattle.file_vault.specs.Folders.{Bytes, part}
use Rattle.file_vault.specs.Records.{are_digits, one_unless_zero, nonzero, length_at, nonzero_at, body_at, next_at, is_whole}
use Rattle.file_vault.specs.Journals.{batches_from, AreAt, place_after}
use Rattle.file_vault.proofs.Heads.{and_both}
use Rattle.file_vault.proofs.Chains.{part_same, at_before, end_past, place_within, length_same, nonzero_same, next_same, body_same, whole_same}

pub true_or : (v : Bool) → (v ≡ true) ⊎ (v ≡ false)
true_or true = inl refl
true_or false = inr refl

-- a byte that isn't 0 counts
pub one_some : (b : ℕ) → (b ≡ 0) ⊎ (one_unless_zero b ≡ 1)
one_some b = elim (eqb_tells b 0) [ inl t ↦ inl t.1 | inr t ↦ inr (ap (λ v. if v then 0 else 1) t.0) ]

-- each byte is that of the other file, or 0
abbrev pub EachOr : Bytes → Bytes → ℕ → ℕ → Type 0
EachOr f g low high = (k : ℕ) → low ≤ k → k < high → (g k ≡ f k) ⊎ (g k ≡ 0)

-- no more bytes aren't 0 then
fewer : (f g : Bytes) (at count : ℕ) → EachOr f g at (at + count) → nonzero (part g at count) ≤ nonzero (part f at count)
fewer f g at zero each = omega arith
fewer f g at (suc count) each =
    let rest = fewer f g (suc at) count (λ k low high. each k (omega (arith, low)) (omega (arith, high))) in
    elim (each at (omega arith) (omega arith)) [
      | inl same ↦ (let one : one_unless_zero (g at) ≡ one_unless_zero (f at) = ap one_unless_zero same in omega (arith, rest, one))
      | inr none ↦ (let one : one_unless_zero (g at) ≡ 0 = ap one_unless_zero none in omega (arith, rest, one))
    ]

-- and where there are as many, it is the other's
as_full : (f g : Bytes) (at count : ℕ) → EachOr f g at (at + count) → nonzero (part g at count) ≡ nonzero (part f at count) → (k : ℕ) → at ≤ k → k < at + count → g k ≡ f k
as_full f g at zero each equal k low high = absurd (omega (arith, low, high))
as_full f g at (suc count) each equal k low high =
    let after : EachOr f g (suc at) (suc at + count) = λ k low high. each k (omega (arith, low)) (omega (arith, high)) in
    let few = fewer f g (suc at) count after in
    let here : (g at ≡ f at) × (nonzero (part g (suc at) count) ≡ nonzero (part f (suc at) count)) =
    elim (each at (omega arith) (omega arith)) [
      | inl same ↦ (same, (let one : one_unless_zero (g at) ≡ one_unless_zero (f at) = ap one_unless_zero same in omega (arith, equal, one)))
      | inr none ↦
          let one : one_unless_zero (g at) ≡ 0 = ap one_unless_zero none in
          elim (one_some (f at)) [
            | inl also ↦ (none ∙ sym also, (let two : one_unless_zero (f at) ≡ 0 = ap one_unless_zero also in omega (arith, equal, one, two)))
            | inr counts ↦ absurd (omega (arith, equal, one, counts, few))
          ]
    ] in
    elim (first_or k at low) [
      | inl e ↦ ap g e ∙ here.0 ∙ ap f (sym e)
      | inr more ↦ as_full f g (suc at) count after here.1 k more (omega (arith, high))
    ]
  where
    first_or : (k at : ℕ) → at ≤ k → (k ≡ at) ⊎ (suc at ≤ k)
    first_or zero zero le = inl refl
    first_or (suc k) zero le = inr (omega arith)
    first_or zero (suc at) le = absurd (omega (arith, le))
    first_or (suc k) (suc at) le = elim (first_or k at (omega (arith, le))) [ inl e ↦ inl (ap (λ n. suc n) e) | inr more ↦ inr (omega (arith, more)) ]

-- bytes that may be a number's aren't 0
digit_each : (g : Bytes) (at count : ℕ) → are_digits (part g at count) ≡ true → (k : ℕ) → at ≤ k → k < at + count → g k ≡ 0 → ⊥
digit_each g at zero are k low high none = absurd (omega (arith, low, high))
digit_each g at (suc count) are k low high none =
    let both = and_both (nat_le 128 (g at)) (are_digits (part g (suc at) count)) are in
    elim (true_or (nat_le 128 (g k))) [
      | inl high_k ↦ true≢false (sym high_k ∙ ap (λ b. nat_le 128 b) none)
      | inr low_k ↦ elim (here_or k at low) [
        | inl e ↦ true≢false (sym both.0 ∙ ap (λ n. nat_le 128 (g n)) (sym e) ∙ low_k)
        | inr more ↦ digit_each g (suc at) count both.1 k more (omega (arith, high)) none
      ]
    ]
  where
    here_or : (k at : ℕ) → at ≤ k → (k ≡ at) ⊎ (suc at ≤ k)
    here_or zero zero le = inl refl
    here_or (suc k) zero le = inr (omega arith)
    here_or zero (suc at) le = absurd (omega (arith, le))
    here_or (suc k) (suc at) le = elim (here_or k at (omega (arith, le))) [ inl e ↦ inl (ap (λ n. suc n) e) | inr more ↦ inr (omega (arith, more)) ]

-- a head of which no byte was left out is the other's
head_same : (f g : Bytes) (at : ℕ) → EachOr f g at (at + 18) → are_digits (part g at 18) ≡ true → (k : ℕ) → at ≤ k → k < at + 18 → g k ≡ f k
head_same f g at each are k low high = elim (each k low high) [ inl same ↦ same | inr none ↦ absurd (digit_each g at 18 are k low high none) ]

-- a whole record is the other's
pub record_same : (f g : Bytes) (at : ℕ) → EachOr f g at (next_at f at) → is_whole f at ≡ true → is_whole g at ≡ true → (k : ℕ) → at ≤ k → k < next_at f at → g k ≡ f k
record_same f g at each whole_f whole_g k low high =
    let ours = and_both (are_digits (part f at 18)) (nonzero (body_at f at) == nonzero_at f at) whole_f in
    let theirs = and_both (are_digits (part g at 18)) (nonzero (body_at g at) == nonzero_at g at) whole_g in
    let head = head_same f g at (λ k low high. each k low (omega (arith, high, at_before f at))) theirs.0 in
    let long = length_same f g at head in
    let told : nonzero (body_at g at) ≡ nonzero (body_at f at) = equal _ _ theirs.1 ∙ nonzero_same f g at head ∙ sym (equal _ _ ours.1) in
    let body : nonzero (part g (at + 18) (length_at f at)) ≡ nonzero (part f (at + 18) (length_at f at)) = ap (λ n. nonzero (part g (at + 18) n)) (sym long) ∙ told in
    elim (head_or k) [
      | inl first ↦ head k low first
      | inr rest ↦ as_full f g (at + 18) (length_at f at) (λ k low high. each k (omega (arith, low)) (omega (arith, high))) body k rest (omega (arith, high))
    ]
  where
    equal : (n m : ℕ) → (n == m) ≡ true → n ≡ m
    equal n m is = elim (eqb_tells n m) [ inl t ↦ t.1 | inr t ↦ absurd (true≢false (sym is ∙ t.0)) ]

    head_or : (k : ℕ) → (k < at + 18) ⊎ (at + 18 ≤ k)
    head_or k = below k (at + 18)
      where
        below : (k n : ℕ) → (k < n) ⊎ (n ≤ k)
        below k zero = inr (omega arith)
        below zero (suc n) = inl (omega arith)
        below (suc k) (suc n) = elim (below k n) [ inl low ↦ inl (omega (arith, low)) | inr high ↦ inr (omega (arith, high)) ]

-- what is read of a record that isn't whole depends on its own bytes alone
pub torn_same : (f g h : Bytes) (at : ℕ) → EachOr f g at (next_at f at) → is_whole g at ≡ false → ((k : ℕ) → at ≤ k → k < next_at f at → h k ≡ g k) → is_whole h at ≡ false
torn_same f g h at each torn same = elim (true_or (are_digits (part g at 18))) [
  | inl are ↦
      let head = head_same f g at (λ k low high. each k low (omega (arith, high, at_before f at))) are in
      let next : next_at g at ≡ next_at f at = next_same f g at head in
      whole_same g h at (λ k low high. same k low (omega (arith, high, next))) ∙ torn
  | inr no_head ↦
      ap (λ b. b && (nonzero (body_at h at) == nonzero_at h at))
      (ap are_digits (part_same g h at 18 (λ k low high. same k low (omega (arith, high, at_before f at)))) ∙ no_head)
]

-- no record where a byte is 0
pub zero_torn : (g : Bytes) (at : ℕ) → g at ≡ 0 → is_whole g at ≡ false
zero_torn g at none =
    ap (λ b. (nat_le 128 b && are_digits (part g (suc at) 17)) && (nonzero (body_at g at) == nonzero_at g at)) none

pub none_read : (m : ℕ) (g : Bytes) (at : ℕ) → is_whole g at ≡ false → batches_from m g at ≡ []
none_read zero g at torn = refl
none_read (suc m) g at torn = ap (λ b. if b then decoded (body_at g at) ∷ batches_from m g (next_at g at) else []) torn

pub one_read : (m : ℕ) (g : Bytes) (at : ℕ) → is_whole g at ≡ true → batches_from (suc m) g at ≡ decoded (body_at g at) ∷ batches_from m g (next_at g at)
one_read m g at whole = ap (λ b. if b then decoded (body_at g at) ∷ batches_from m g (next_at g at) else []) whole

-- Of each file that is the same as one up to the end of records: the first of the batches are read of it, and no other, ..
pub record Stops (m : ℕ) (g : Bytes) (at : ℕ) (batches : List (List Intended)) (end durable : ℕ) : Type 0 where
  pub count : ℕ
  pub least : durable ≤ count
  pub most : count < length batches
  pub read : (h : Bytes) → ((k : ℕ) → at ≤ k → k < end → h k ≡ g k) → batches_from m h at ≡ take count batches

-- .. or all of them, and then what lies at the end
pub record Goes (m : ℕ) (g : Bytes) (at : ℕ) (places : List ℕ) (batches : List (List Intended)) (end : ℕ) : Type 0 where
  pub rest : ℕ
  pub enough : rest + length places ≡ m
  pub read : (h : Bytes) → ((k : ℕ) → at ≤ k → k < end → h k ≡ g k) → batches_from m h at ≡ batches ++ batches_from rest h end

pub first_place : (f : Bytes) (at : ℕ) (places : List ℕ) (batches : List (List Intended)) (end : ℕ) → AreAt f at places batches end → place_after places end 0 ≡ at
first_place f at [] [] end are = sym are
first_place f at [] (b ∷ bs) end are = absurd are
first_place f at (s ∷ ss) [] end are = absurd are
first_place f at (s ∷ ss) (b ∷ bs) end are = are.0

pub read_split : (m : ℕ) (f g : Bytes) (at : ℕ) (places : List ℕ) (batches : List (List Intended)) (end durable : ℕ) → AreAt f at places batches end → durable ≤ length places
    → ((k : ℕ) → at ≤ k → k < place_after places end durable → g k ≡ f k) → EachOr f g at end → length places < m → Stops m g at batches end durable ⊎ Goes m g at places batches end
read_split zero f g at places batches end durable are some kept each few = absurd (omega (arith, few))
read_split (suc m) f g at [] [] end durable are some kept each few = inr (record { rest = suc m; enough = omega arith; read = λ h same. ap (λ n. batches_from (suc m) h n) are })
read_split (suc m) f g at [] (b ∷ bs) end durable are some kept each few = absurd are
read_split (suc m) f g at (s ∷ ss) [] end durable are some kept each few = absurd are
read_split (suc m) f g at (s ∷ ss) (b ∷ bs) end durable (is, whole, code, back, more) some kept each few =
    let past = end_past f (next_at f at) ss bs end more in
    let before = at_before f at in
    let here : EachOr f g at (next_at f at) = λ k low high. each k low (omega (arith, high, past)) in
    elim (true_or (is_whole g at)) [
      | inr torn ↦ inl (record {
        count = 0;
        least = none_durable durable some kept torn;
        most = omega arith;
        read = λ h same. none_read (suc m) h at (torn_same f g h at here torn (λ k low high. same k low (omega (arith, high, past))));
      })
      | inl full ↦
          let mine = record_same f g at here whole full in
          let as_f : (h : Bytes) → ((k : ℕ) → at ≤ k → k < end → h k ≡ g k) → (k : ℕ) → at ≤ k → k < next_at f at → h k ≡ f k =
          λ h same k low high. same k low (omega (arith, high, past)) ∙ mine k low high in
          let one : (h : Bytes) → ((k : ℕ) → at ≤ k → k < end → h k ≡ g k) → batches_from (suc m) h at ≡ b ∷ batches_from m h (next_at f at) =
          λ h same.
          one_read m h at (whole_same f h at (as_f h same) ∙ whole)
          ∙ ap (λ w. w ∷ batches_from m h (next_at h at)) (ap decoded (body_same f h at (as_f h same)) ∙ back)
          ∙ ap (λ n. b ∷ batches_from m h n) (next_same f h at (λ k low high. as_f h same k low (omega (arith, high, before)))) in
          elim (read_split m f g (next_at f at) ss bs end (durable - 1) more (omega (arith, some)) (kept_less durable some kept) (λ k low high. each k (omega (arith, low, before)) high) (omega (arith, few))) [
            | inl stops ↦ inl (record {
              count = suc stops.count;
              least = (let le = stops.least in omega (arith, le));
              most = (let le = stops.most in omega (arith, le));
              read = λ h same. one h same ∙ ap (λ l. b ∷ l) (stops.read h (λ k low high. same k (omega (arith, low, before)) high));
            })
            | inr goes ↦ inr (record {
              rest = goes.rest;
              enough = (let e = goes.enough in omega (arith, e));
              read = λ h same. one h same ∙ ap (λ l. b ∷ l) (goes.read h (λ k low high. same k (omega (arith, low, before)) high));
            })
          ]
    ]
  where
    none_durable : (durable : ℕ) → durable ≤ length (s ∷ ss) → ((k : ℕ) → at ≤ k → k < place_after (s ∷ ss) end durable → g k ≡ f k) → is_whole g at ≡ false → durable ≤ 0
    none_durable zero some kept torn = omega arith
    none_durable (suc durable) some kept torn = absurd (true≢false (sym whole ∙ sym (whole_same f g at (λ k low high. kept k low (omega (arith, high, (place_within f (next_at f at) durable ss bs end more (omega (arith, some))).0)))) ∙ torn))

    kept_less : (durable : ℕ) → durable ≤ length (s ∷ ss) → ((k : ℕ) → at ≤ k → k < place_after (s ∷ ss) end durable → g k ≡ f k) → (k : ℕ) → next_at f at ≤ k → k < place_after ss end (durable - 1) → g k ≡ f k
    kept_less zero some kept k low high =
        let under : k < place_after ss end 0 = subst (λ n. k < place_after ss end n) (omega arith) high in
        let first = first_place f (next_at f at) ss bs end more in absurd (omega (arith, low, under, first))
    kept_less (suc durable) some kept k low high = kept k (omega (arith, low, at_before f at)) (subst (λ n. k < place_after ss end n) (omega arith) high)
