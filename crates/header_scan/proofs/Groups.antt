-- One group after another, and what the scan answers at the end.
use Rattle.std.proofs.Common.{◌≡◌, ℕ, ◌+◌, ◌*◌, ◌^◌, ◌<◌, ◌≤◌, ◌⊎◌, inl, inr, Bool, true, false, Option, Some, None, refl, sym, ◌∙◌, ap, subst, arith, nat_lt, if◌then◌else◌}
use Rattle.std.specs.Prelude.{◌==◌}
use Rattle.std.proofs.lemmas.Bool.Decides.{nat_tests}
use Rattle.std.proofs.lemmas.Option.{same_Some, none-some}
use Rattle.map_join.specs.declared.records.Record.{Record}
use Rattle.map_join.specs.Record.{stamp_of, stamp_in, record_at, record_of}
use Rattle.extent_groups.specs.Groups.{Groups}
use Rattle.extent_groups.specs.Cells.{Cells}
use Rattle.extent_groups.specs.Stores.{unit_of}
use Rattle.header_scan.specs.declared.fault.ScanFault.{ScanFault}
use Rattle.header_scan.specs.declared.fault.ScanFault.TheVariants.{Twice}
use Rattle.header_scan.specs.Faults.{SlotUnits, between, IsTwice, IsFirstFault}
use Rattle.header_scan.specs.Found.{place_in, IsTwin, twins_in, HasNoTwins, AreFirstTwins, IsUnderway, Keeps}
use Rattle.header_scan.proofs.Scanning.{key_size, twin_size}
use Rattle.header_scan.proofs.Ending.{own_place, twice, noted_twice}

-- what a group's slots add
abbrev pub Passes : Groups → Cells → Cells → ℕ → (ℕ → ℕ) → (ℕ → ℕ) → (ℕ → ℕ) → (ℕ → ℕ) → Type 0
Passes groups c new group M T N U = (low : ℕ) (start : Cells) → low ≤ 128 * group → IsUnderway groups start c low (128 * group) M T → IsUnderway groups start new low (128 * group + 128) N U

-- or their fault
abbrev pub Fails : Groups → Cells → Cells → ℕ → (ℕ → ℕ) → (ℕ → ℕ) → ScanFault → Type 0
Fails groups c new group M T e = (low high : ℕ) (start : Cells) → low ≤ 128 * group → 128 * group + 128 ≤ high → IsUnderway groups start c low (128 * group) M T
    → IsFirstFault groups low high (unit_of groups start) (unit_of groups new) e

pub kept_after : (groups before : Groups) (start c new : Cells) → before ≡ groups → Keeps groups start c → Keeps before c new → Keeps groups start new
kept_after groups before start c new same one two = λ sound.
    let a = one sound in
    let b = subst (λ x. Keeps x c new) same two a.1 in
    (λ slot v e. a.0 slot v (b.0 slot v e), b.1)

pub passed : (groups before : Groups) (start c new : Cells) (low group : ℕ) (M T N U : ℕ → ℕ) → before ≡ groups → low ≤ 128 * group → Passes before c new group M T N U → IsUnderway groups start c low (128 * group) M T
    → IsUnderway groups start new low (128 * (group + 1)) N U
passed groups before start c new low group M T N U same l pass was =
    let next : 128 * group + 128 ≡ 128 * (group + 1) = omega arith in
    subst (λ n. IsUnderway groups start new low n N U) next (subst (λ x. Passes x c new group M T N U) same pass low start l was)

pub failed : (groups before : Groups) (start c new : Cells) (low high group : ℕ) (M T : ℕ → ℕ) (e : ScanFault) → before ≡ groups → low ≤ 128 * group → 128 * group + 128 ≤ high → Fails before c new group M T e
    → IsUnderway groups start c low (128 * group) M T → IsFirstFault groups low high (unit_of groups start) (unit_of groups new) e
failed groups before start c new low high group M T e same l h fail was = subst (λ x. Fails x c new group M T e) same fail low high start l h was

-- twins by their keys
some_record : (block key : ℕ) → 2 ^ 32 ≤ key → record_at block key ≡ Some (record_of block key)
some_record block key some = ap (λ b. if b then None else Some (record_of block key)) high where
  high : nat_lt key (2 ^ 32) ≡ false
  high = grind (arith, nat_tests)

no_record : (block key : ℕ) → key ≡ 0 → record_at block key ≡ None
no_record block key none = ap (λ b. if b then None else Some (record_of block key)) low where
  low : nat_lt key (2 ^ 32) ≡ true
  low = grind (arith, nat_tests)

record_stamp : (block key : ℕ) → stamp_of (record_of block key) ≡ stamp_in key
record_stamp block key = omega arith

none_of : (one : Option Record) → twins_in one None ≡ None
none_of None = refl
none_of (Some r) = refl

is_equal : (a b : ℕ) → (a == b) ≡ true → a ≡ b
is_equal a b e = grind (arith, nat_tests)

equal_is : (a b : ℕ) → a ≡ b → (a == b) ≡ true
equal_is a b e = grind (arith, nat_tests)

taken : (b : Bool) (x y : ℕ × ℕ) → (if b then Some x else None) ≡ Some y → (b ≡ true) × (x ≡ y)
taken true x y e = (refl, same_Some x y e)
taken false x y e = absurd (none-some y e)

untaken : (b : Bool) (x : ℕ × ℕ) → (if b then Some x else None) ≡ None → b ≡ true → ⊥
untaken true x e is = none-some x (sym e)
untaken false x e is = absurd (let both : false ≡ true = is in cc)

twin_is : (block n t p q : ℕ) → (n ≡ 0) ⊎ (2 ^ 32 ≤ n) → (t ≡ 0) ⊎ (2 ^ 32 ≤ t) → twins_in (record_at block n) (record_at block t) ≡ Some (p, q) → IsTwin n t × (place_in n ≡ p) × (place_in t ≡ q)
twin_is block n t p q (inl none) size e = absurd (let both : None ≡ Some (p, q) = subst (λ o. twins_in o (record_at block t) ≡ Some (p, q)) (no_record block n none) e in cc)
twin_is block n t p q (inr some) (inl none) e =
    absurd (let both : None ≡ Some (p, q) = sym (none_of (record_at block n)) ∙ subst (λ o. twins_in (record_at block n) o ≡ Some (p, q)) (no_record block t none) e in cc)
twin_is block n t p q (inr some) (inr any) e =
    let both = taken (stamp_of (record_of block n) == stamp_of (record_of block t)) (place_in n, place_in t) (p, q)
    (subst (λ o. twins_in o (Some (record_of block t)) ≡ Some (p, q)) (some_record block n some) (subst (λ o. twins_in (record_at block n) o ≡ Some (p, q)) (some_record block t any) e)) in
    let same = is_equal (stamp_of (record_of block n)) (stamp_of (record_of block t)) both.0 in
    (((omega (arith, any)), sym (record_stamp block t) ∙ sym same ∙ record_stamp block n), ap (λ (z : ℕ × ℕ). z.0) both.1, ap (λ (z : ℕ × ℕ). z.1) both.1)

no_twin : (block n t : ℕ) → (n ≡ 0) ⊎ (2 ^ 32 ≤ n) → (t ≡ 0) ⊎ (2 ^ 32 ≤ t) → twins_in (record_at block n) (record_at block t) ≡ None → IsTwin n t → ⊥
no_twin block n t one (inl none) e twin = let some = twin.0 in omega (arith, some, none)
no_twin block n t (inl none) (inr any) e twin = let same = twin.1 in omega (arith, same, none, any)
no_twin block n t (inr some) (inr any) e twin =
    let is : stamp_of (record_of block n) ≡ stamp_of (record_of block t) = record_stamp block n ∙ sym twin.1 ∙ sym (record_stamp block t) in
    untaken (stamp_of (record_of block n) == stamp_of (record_of block t)) (place_in n, place_in t)
    (subst (λ o. twins_in o (Some (record_of block t)) ≡ None) (some_record block n some) (subst (λ o. twins_in (record_at block n) o ≡ None) (some_record block t any) e))
    (equal_is (stamp_of (record_of block n)) (stamp_of (record_of block t)) is)

-- the block that occurs twice is the first fault
pub first_twice : (groups : Groups) (start new : Cells) (low high b p q : ℕ) (M T : ℕ → ℕ) → IsUnderway groups start new low high M T → AreFirstTwins M T b p q
    → IsFirstFault groups low high (unit_of groups start) (unit_of groups new) (Twice b p q)
first_twice groups start new low high b p q M T under twins =
    let bytes : SlotUnits = between low high (unit_of groups start) in
    let noted = under.noted b in
    let is = twin_is b (M b) (T b) p q (key_size bytes b (M b) (T b) noted) (twin_size bytes b (M b) (T b) noted) twins.here in (
      under.fine,
      subst (λ y. IsTwice bytes b p y) is.2 (subst (λ x. IsTwice bytes b x (place_in (T b))) is.1 (twice groups start new low high b M T under is.0)),
      λ lower x y less matches.
          let own = under.noted lower in
          no_twin lower (M lower) (T lower) (key_size bytes lower (M lower) (T lower) own) (twin_size bytes lower (M lower) (T lower) own) (twins.lower lower less)
          (noted_twice groups start new low high lower x y M T under matches).0,
    )

-- without twins below the array's blocks there are none
pub no_twins : (groups : Groups) (start new : Cells) (low high blocks : ℕ) (M T : ℕ → ℕ) → IsUnderway groups start new low high M T → blocks ≡ groups.blocks → HasNoTwins M T blocks → (b : ℕ) → IsTwin (M b) (T b) → ⊥
no_twins groups start new low high blocks M T under many none b twin =
    let bytes : SlotUnits = between low high (unit_of groups start) in
    let noted = under.noted b in
    let h = (noted.again twin.0).0 in
    let own = (own_place groups start low high (place_in (T b)) h.0 under.fine h.1).1 in
    let block : h.0.block ≡ b = h.2 in
    let below : b < blocks = omega (arith, own, block, many) in
    no_twin b (M b) (T b) (key_size bytes b (M b) (T b) noted) (twin_size bytes b (M b) (T b) noted) (none b below) twin

-- equal groups have equally many blocks
pub same_blocks : (n : ℕ) (a b : Groups) → n ≡ a.blocks → a ≡ b → n ≡ b.blocks
same_blocks n a b is same = subst (λ (x : Groups). n ≡ x.blocks) same is
