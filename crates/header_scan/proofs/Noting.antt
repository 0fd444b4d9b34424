-- One more header of a block is noted.
use Rattle.std.proofs.Common.{◌≡◌, ℕ, ◌+◌, ◌*◌, ◌^◌, ◌<◌, ◌≤◌, ◌⊎◌, inl, inr, subst, arith}
use Rattle.map_join.specs.Record.{stamp_in}
use Rattle.header_scan.specs.Found.{place_in, IsNoted}

-- the stamps with one more, at a slot after all others
pub record IsNext (Old New : ℕ → ℕ → Type 0) (s stamp : ℕ) : Type 0 where
  pub grows : (slot st : ℕ) → Old slot st → New slot st
  pub here : New s stamp
  pub only : (slot st : ℕ) → New slot st → Old slot st ⊎ ((slot ≡ s) × (st ≡ stamp))
  pub below : (slot st : ℕ) → Old slot st → slot < s
  pub great : 2 ^ 16 ≤ stamp
  pub small : s < 2 ^ 16

-- a key's place and stamp
pub at_key : (Has : ℕ → ℕ → Type 0) (slot st key : ℕ) → key ≡ st * 2 ^ 16 + slot → slot < 2 ^ 16 → Has slot st → Has (place_in key) (stamp_in key)
at_key Has slot st key is small h =
    let place : slot ≡ place_in key = omega (arith, is, small) in
    let stamp : st ≡ stamp_in key = omega (arith, is, small) in
    subst (λ x. Has (place_in key) x) stamp (subst (λ x. Has x st) place h)

-- no stamp is greater than the newest
pub most : (Has : ℕ → ℕ → Type 0) (n t slot st : ℕ) → IsNoted Has n t → Has slot st → st ≤ stamp_in n
most Has n t slot st noted h = elim (noted.first slot st h) [ inl less ↦ omega (arith, less) | inr same ↦ omega (arith, same.0) ]

-- the twin's stamp isn't greater either
pub twin_most : (Has : ℕ → ℕ → Type 0) (n t : ℕ) → IsNoted Has n t → 0 < t → stamp_in t ≤ stamp_in n
twin_most Has n t noted some = most Has n t (place_in t) (stamp_in t) noted (noted.again some).0

pub newer : (Old New : ℕ → ℕ → Type 0) (s stamp n t next : ℕ) → IsNext Old New s stamp → IsNoted Old n t → stamp_in n < stamp → next ≡ stamp * 2 ^ 16 + s → IsNoted New next t
newer Old New s stamp n t next step noted more is =
    let small = step.small in
    let place : place_in next ≡ s = omega (arith, is, small) in
    let top : stamp_in next ≡ stamp = omega (arith, is, small) in
    record {
      found = λ some. at_key New s stamp next is step.small step.here;
      first = λ slot st h. elim (step.only slot st h) [
        | inl old ↦ inl (let less = most Old n t slot st noted old in omega (arith, less, more, top))
        | inr new ↦ inr ((let a = new.1 in omega (arith, a, top)), (let a = new.0 in omega (arith, a, place)))
      ];
      again = λ some. (
        step.grows (place_in t) (stamp_in t) (noted.again some).0,
        λ same. absurd (let less = twin_most Old n t noted some in omega (arith, less, more, top, same)),
      );
      second = λ slot st h same. elim (step.only slot st h) [
        | inl old ↦ absurd (let less = most Old n t slot st noted old in omega (arith, less, more, top, same))
        | inr new ↦ inl (let a = new.0 in omega (arith, a, place))
      ];
    }

pub twin : (Old New : ℕ → ℕ → Type 0) (s stamp n t next : ℕ) → IsNext Old New s stamp → IsNoted Old n t → stamp_in n ≡ stamp → stamp_in t < stamp → next ≡ stamp * 2 ^ 16 + s → IsNoted New n next
twin Old New s stamp n t next step noted equal more is =
    let small = step.small in
    let great = step.great in
    let place : place_in next ≡ s = omega (arith, is, small) in
    let top : stamp_in next ≡ stamp = omega (arith, is, small) in
    let some : 0 < n = omega (arith, equal, great) in
    let following : place_in n < s = step.below (place_in n) (stamp_in n) (noted.found some) in
    record {
      found = λ any. step.grows (place_in n) (stamp_in n) (noted.found any);
      first = λ slot st h. elim (step.only slot st h) [
        | inl old ↦ noted.first slot st old
        | inr new ↦ inr ((let a = new.1 in omega (arith, a, equal)), (let a = new.0 in omega (arith, a, following)))
      ];
      again = λ any. (at_key New s stamp next is step.small step.here, λ same. omega (arith, following, place));
      second = λ slot st h same. elim (step.only slot st h) [
        | inl old ↦ elim (noted.second slot st old same) [ inl q ↦ inl q | inr both ↦ absurd (let a = both.0 in omega (arith, a, equal, more)) ]
        | inr new ↦ inr ((omega (arith, top, equal)), (let a = new.0 in omega (arith, a, place)))
      ];
    }

pub third : (Old New : ℕ → ℕ → Type 0) (s stamp n t : ℕ) → IsNext Old New s stamp → IsNoted Old n t → stamp_in n ≡ stamp → stamp ≤ stamp_in t → IsNoted New n t
third Old New s stamp n t step noted equal more =
    let great = step.great in
    let some : 0 < n = omega (arith, equal, great) in
    let any : 0 < t = omega (arith, more, great) in
    let following : place_in n < s = step.below (place_in n) (stamp_in n) (noted.found some) in
    let later : place_in t < s = step.below (place_in t) (stamp_in t) (noted.again any).0 in
    let less = twin_most Old n t noted any in
    record {
      found = λ h. step.grows (place_in n) (stamp_in n) (noted.found h);
      first = λ slot st h. elim (step.only slot st h) [
        | inl old ↦ noted.first slot st old
        | inr new ↦ inr ((let a = new.1 in omega (arith, a, equal)), (let a = new.0 in omega (arith, a, following)))
      ];
      again = λ h. (step.grows (place_in t) (stamp_in t) (noted.again h).0, (noted.again h).1);
      second = λ slot st h same. elim (step.only slot st h) [
        | inl old ↦ noted.second slot st old same
        | inr new ↦ inr ((omega (arith, less, more, equal)), (let a = new.0 in omega (arith, a, later)))
      ];
    }

pub older : (Old New : ℕ → ℕ → Type 0) (s stamp n t : ℕ) → IsNext Old New s stamp → IsNoted Old n t → stamp < stamp_in n → IsNoted New n t
older Old New s stamp n t step noted less =
    record {
      found = λ h. step.grows (place_in n) (stamp_in n) (noted.found h);
      first = λ slot st h. elim (step.only slot st h) [
        | inl old ↦ noted.first slot st old
        | inr new ↦ inl (let a = new.1 in omega (arith, a, less))
      ];
      again = λ h. (step.grows (place_in t) (stamp_in t) (noted.again h).0, (noted.again h).1);
      second = λ slot st h same. elim (step.only slot st h) [
        | inl old ↦ noted.second slot st old same
        | inr new ↦ absurd (let a = new.1 in omega (arith, a, same, less))
      ];
    }

-- the same stamps are noted by the same keys
pub as_well : (Old New : ℕ → ℕ → Type 0) (n t m u : ℕ) → ((slot st : ℕ) → Old slot st → New slot st) → ((slot st : ℕ) → New slot st → Old slot st) → n ≡ m → t ≡ u → IsNoted Old n t → IsNoted New m u
as_well Old New n t m u to back same also noted =
    subst (λ x. IsNoted New m x) also (subst (λ x. IsNoted New x t) same (record {
      found = λ h. to (place_in n) (stamp_in n) (noted.found h);
      first = λ slot st h. noted.first slot st (back slot st h);
      again = λ h. (to (place_in t) (stamp_in t) (noted.again h).0, (noted.again h).1);
      second = λ slot st h. noted.second slot st (back slot st h);
    }))
