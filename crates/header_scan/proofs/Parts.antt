-- Maps of headers, of the whole and of its parts.
use Rattle.std.proofs.Common.{◌≡◌, ℕ, zero, suc, refl, ◌<◌, ◌≤◌, max, ◌⊎◌, inl, inr, Option, List, ap, arith}
use Rattle.std.proofs.lemmas.Bool.Decides.{nat_tests}
use Rattle.map_join.specs.declared.records.Record.{Record}
use Rattle.map_join.specs.Maps.{IsSame, join}
use Rattle.flat_machine.specs.Scanned.{HasHeader, IsScanned}
use Rattle.header_scan.specs.Ranges.{MakeUp}

zero_or_not : (n : ℕ) → (n ≡ 0) ⊎ (0 < n)
zero_or_not zero = inl refl
zero_or_not (suc n) = inr (omega arith)

-- a map of some headers is below a map of all of them
pub below : (all some : ℕ → Option (List ℕ)) (M N : ℕ → ℕ) → ((slot : ℕ) (r : Record) → HasHeader some slot r → HasHeader all slot r) → IsScanned some M → IsScanned all N → (b : ℕ) → M b ≤ N b
below all some M N within one other b = elim (zero_or_not (M b)) [
  | inl none ↦ omega arith
  | inr there ↦
      (let f = one.found b there in
      let most = other.most f.0 f.1 (within f.0 f.1 f.2) in
      let block : N f.1.block ≡ N b = ap N f.3 in
      omega (arith, most, f.4, block))
]

equal : (a b : ℕ) → a ≤ b → b ≤ a → a ≡ b
equal a b h k = omega arith

pub one_map : (bytes : ℕ → Option (List ℕ)) (M N : ℕ → ℕ) → IsScanned bytes M → IsScanned bytes N → IsSame M N
one_map bytes M N one other b = equal (M b) (N b) (below bytes bytes M N (λ s r h. h) one other b) (below bytes bytes N M (λ s r h. h) other one b)

greater : (a b c : ℕ) → a ≤ c → b ≤ c → (c ≤ a) ⊎ (c ≤ b) → max a b ≡ c
greater a b c h k e = grind (arith, nat_tests)

pub joined : (whole one other : ℕ → Option (List ℕ)) (K M N : ℕ → ℕ) → MakeUp whole one other → IsScanned whole K → IsScanned one M → IsScanned other N → IsSame (join M N) K
joined whole one other K M N parts all first second b =
    greater (M b) (N b) (K b) (below whole one M K (λ s r h. (parts s r).1 (inl h)) first all b) (below whole other N K (λ s r h. (parts s r).1 (inr h)) second all b)
    reported where
      reported : (K b ≤ M b) ⊎ (K b ≤ N b)
      reported = elim (zero_or_not (K b)) [
        | inl none ↦ inl (omega arith)
        | inr there ↦
            (let f = all.found b there in
            elim ((parts f.0 f.1).0 f.2) [
              | inl h ↦ (let most = first.most f.0 f.1 h in let block : M f.1.block ≡ M b = ap M f.3 in inl (omega (arith, most, f.4, block)))
              | inr h ↦ (let most = second.most f.0 f.1 h in let block : N f.1.block ≡ N b = ap N f.3 in inr (omega (arith, most, f.4, block)))
            ])
      ]
