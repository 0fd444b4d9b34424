-- Generations: their bytes, and what calls make of them.
use Rattle.std.proofs.Common.{◌≡◌, ◌≢◌, ◌≤◌, ◌<◌, ◌⊎◌, inl, inr, ⊎_elim, ℕ, zero, suc, ◌+◌, ◌-◌, ◌*◌, ◌/◌, ◌%◌, ◌^◌, List, [], ◌∷◌, ◌++◌, refl, sym, ◌∙◌, ap, arith, length, take, get_or}
use Rattle.std.specs.Prelude.{set}
use Rattle.std.proofs.Common.{append_assoc}
use Rattle.std.proofs.Math.Nat.{div-add-mod'}
use Rattle.std.proofs.lemmas.List.{take_more_set, length-set}
use Rattle.file_vault.specs.Folders.{Bytes, Folder, part, Wrote, Mixed}
use Rattle.file_vault.specs.Generations.{stamp_bytes, code_byte, stamp_number, stamp_offset, HasGeneration, IsCurrent}
use Rattle.file_vault.proofs.Puts.{below_or}
use Rattle.file_vault.proofs.Blocks.{part_wrote}

pub length_code : (count n : ℕ) → length (stamp_bytes count n) ≡ count
length_code zero n = refl
length_code (suc count) n = ap (λ m. suc m) (length_code count (n / 256))

-- a generation's bytes are written, one after the other
pub code_next : (out out2 : List ℕ) (i rest : ℕ) (all : List ℕ) → i < length out → out2 ≡ set out i (code_byte rest) → take i out ++ stamp_bytes (length out - i) rest ≡ all → take (i + 1) out2 ++ stamp_bytes (length out2 - (i + 1)) (rest / 256) ≡ all
code_next out out2 i rest all low made so_far =
    let more : length out - i ≡ suc (length out - (i + 1)) = omega (arith, low) in
    let long : length out2 ≡ length out = ap length made ∙ length-set out i (code_byte rest) in
    ap (λ n. take (i + 1) out2 ++ stamp_bytes (n - (i + 1)) (rest / 256)) long
    ∙ ap (λ l. l ++ stamp_bytes (length out - (i + 1)) (rest / 256)) (ap (λ l. take (i + 1) l) made ∙ take_more_set out i (code_byte rest) low)
    ∙ append_assoc (take i out) (code_byte rest ∷ []) (stamp_bytes (length out - (i + 1)) (rest / 256))
    ∙ sym (ap (λ n. take i out ++ stamp_bytes n rest) more)
    ∙ so_far

-- bytes that are those of one list or of another, of which one alone differs
same_bytes : (m l : List ℕ) (count : ℕ) → length m ≡ count → length l ≡ count → ((j : ℕ) → j < count → get_or m j 0 ≡ get_or l j 0) → m ≡ l
same_bytes [] [] count long also same = refl
same_bytes [] (c ∷ l) count long also same = absurd (omega (arith, long, also))
same_bytes (b ∷ m) [] count long also same = absurd (omega (arith, long, also))
same_bytes (b ∷ m) (c ∷ l) zero long also same = absurd (omega (arith, long))
same_bytes (b ∷ m) (c ∷ l) (suc count) long also same =
    ap (λ x. x ∷ m) (same zero (omega arith)) ∙ ap (λ xs. c ∷ xs) (same_bytes m l count (omega (arith, long)) (omega (arith, also)) (λ j low. same (suc j) (omega (arith, low))))

abbrev pub AreOf : List ℕ → List ℕ → List ℕ → ℕ → Type 0
AreOf m l k count = (j : ℕ) → j < count → (get_or m j 0 ≡ get_or l j 0) ⊎ (get_or m j 0 ≡ get_or k j 0)

-- one byte is another in the next generation: the lowest, or, where that of the number is 255, one of the rest
module _ (n : ℕ) where
  next_div : n % 256 < 255 → suc n / 256 ≡ n / 256
  next_div low = omega (arith, low, div-add-mod' n 256, div-add-mod' (suc n) 256)

  carry_div : 255 ≤ n % 256 → suc n / 256 ≡ suc (n / 256)
  carry_div high = omega (arith, high, div-add-mod' n 256, div-add-mod' (suc n) 256)

  carry_byte : 255 ≤ n % 256 → code_byte (suc n) ≡ code_byte n
  carry_byte high = omega (arith, high, div-add-mod' n 256, div-add-mod' (suc n) 256, div-add-mod' (n / 256) 256, div-add-mod' (suc (n / 256)) 256, carry_div high)

-- bytes of which each is that of a generation or of the next are those of one of the two
pub one_of_both : (count n : ℕ) (m : List ℕ) → length m ≡ count → AreOf m (stamp_bytes count n) (stamp_bytes count (suc n)) count → (m ≡ stamp_bytes count n) ⊎ (m ≡ stamp_bytes count (suc n))
one_of_both zero n m long of = inl (same_bytes m [] zero long refl (λ j low. absurd (omega (arith, low))))
one_of_both (suc count) n [] long of = absurd (omega (arith, long))
one_of_both (suc count) n (b ∷ m) long of = elim (below_or (n % 256) 255) [
  | inl low ↦
      let rest : stamp_bytes count (suc n / 256) ≡ stamp_bytes count (n / 256) = ap (stamp_bytes count) (next_div n low) in
      let tail : m ≡ stamp_bytes count (n / 256) =
      same_bytes m (stamp_bytes count (n / 256)) count (omega (arith, long)) (length_code count (n / 256))
      (λ j small. ⊎_elim (λ is. is) (λ is. is ∙ ap (λ (l : List ℕ). get_or l j 0) rest) (of (suc j) (omega (arith, small)))) in
      ⊎_elim (λ is. inl (ap (λ x. x ∷ m) is ∙ ap (λ xs. code_byte n ∷ xs) tail)) (λ is. inr (ap (λ x. x ∷ m) is ∙ ap (λ xs. code_byte (suc n) ∷ xs) (tail ∙ sym rest))) (of zero (omega arith))
  | inr high ↦
      let full : 255 ≤ n % 256 = elim high [ inl e ↦ omega (arith, e) | inr (j, e) ↦ omega (arith, e) ] in
      let rest : stamp_bytes count (suc n / 256) ≡ stamp_bytes count (suc (n / 256)) = ap (stamp_bytes count) (carry_div n full) in
      let head : b ≡ code_byte n = ⊎_elim (λ is. is) (λ is. is ∙ carry_byte n full) (of zero (omega arith)) in
      let more : AreOf m (stamp_bytes count (n / 256)) (stamp_bytes count (suc (n / 256))) count =
      λ j small. ⊎_elim (λ is. inl is) (λ is. inr (is ∙ ap (λ (l : List ℕ). get_or l j 0) rest)) (of (suc j) (omega (arith, small))) in
      ⊎_elim (λ is. inl (ap (λ x. x ∷ m) head ∙ ap (λ xs. code_byte n ∷ xs) is)) (λ is. inr (ap (λ x. x ∷ m) (head ∙ sym (carry_byte n full)) ∙ ap (λ xs. code_byte (suc n) ∷ xs) (is ∙ sym rest)))
      (one_of_both count (n / 256) m (omega (arith, long)) more)
]

-- bytes of a file
pub part_get : (f : Bytes) (at count j : ℕ) → j < count → get_or (part f at count) j 0 ≡ f (at + j)
part_get f at zero j low = absurd (omega (arith, low))
part_get f at (suc count) zero low = ap f (omega arith)
part_get f at (suc count) (suc j) low = part_get f (suc at) count j (omega (arith, low)) ∙ ap f (omega arith)

pub part_long : (f : Bytes) (at count : ℕ) → length (part f at count) ≡ count
part_long f at zero = refl
part_long f at (suc count) = ap (λ m. suc m) (part_long f (suc at) count)

-- the next generation is written over one, and a stop may cut that short
module _ (d n : ℕ) (f g : Folder) (mixed : Mixed d (stamp_offset d) (stamp_bytes 8 (suc n)) f g) where
  low_code : (j : ℕ) → j < 8 → j < length (stamp_bytes 8 (suc n))
  low_code j low = omega (arith, low, length_code 8 (suc n))

  pub mixed_from : HasGeneration f d n → HasGeneration g d n ⊎ HasGeneration g d (suc n)
  mixed_from has = one_of_both 8 n (part (g d) (stamp_offset d) 8) (part_long (g d) (stamp_offset d) 8) (λ j low.
      let here = part_get (g d) (stamp_offset d) 8 j low in
      ⊎_elim (λ was. inl (here ∙ was ∙ sym (part_get (f d) (stamp_offset d) 8 j low) ∙ ap (λ (l : List ℕ). get_or l j 0) has)) (λ made. inr (here ∙ made)) (mixed.inside j (low_code j low)))

  pub mixed_on : HasGeneration f d (suc n) → HasGeneration g d (suc n)
  mixed_on has = same_bytes (part (g d) (stamp_offset d) 8) (stamp_bytes 8 (suc n)) 8 (part_long (g d) (stamp_offset d) 8) (length_code 8 (suc n)) (λ j low.
      let here = part_get (g d) (stamp_offset d) 8 j low in
      ⊎_elim (λ was. here ∙ was ∙ sym (part_get (f d) (stamp_offset d) 8 j low) ∙ ap (λ (l : List ℕ). get_or l j 0) has) (λ made. here ∙ made) (mixed.inside j (low_code j low)))

  pub mixed_other : (e : ℕ) (m : ℕ) → e ≢ d → HasGeneration f e m → HasGeneration g e m
  mixed_other e m ne has = ap (λ (b : Bytes). part b (stamp_offset e) 8) (mixed.others e ne) ∙ has

pub wrote_generation : (d n : ℕ) (f g : Folder) → Wrote d (stamp_offset d) (stamp_bytes 8 n) f g → HasGeneration g d n
wrote_generation d n f g wrote = part_wrote d (stamp_offset d) 8 (stamp_bytes 8 n) f g wrote (length_code 8 n)

-- the number of a generation's bytes
pub decoded_code : (count n : ℕ) → n < 256 ^ count → stamp_number (stamp_bytes count n) ≡ n
decoded_code zero n low = omega (arith, low)
decoded_code (suc count) n low =
    let whole = div-add-mod' n 256 in
    let rest = decoded_code count (n / 256) (omega (arith, low, whole)) in
    let byte : (code_byte n + n / 256) % 256 ≡ n % 256 = omega (arith, div-add-mod' (n / 256) 256, whole) in
    ap (λ m. (code_byte n + m) % 256 + 256 * m) rest ∙ ap (λ m. m + 256 * (n / 256)) byte ∙ omega (arith, whole)

-- a lower generation's bytes are others
pub lower_differs : (f : Folder) (d m n : ℕ) → m < n → n < 2 ^ 64 → HasGeneration f d m → HasGeneration f d n → ⊥
lower_differs f d m n low fits one two =
    let same = sym (decoded_code 8 m (omega (arith, low, fits))) ∙ ap stamp_number (sym one ∙ two) ∙ decoded_code 8 n (omega (arith, fits)) in
    omega (arith, same, low)

pub older_not_current : (f : Folder) (d m n : ℕ) → m < n → n < 2 ^ 64 → HasGeneration f d m → IsCurrent f d n → ⊥
older_not_current f d m n low fits has current = ⊎_elim (λ own. lower_differs f d m n low fits has own) (λ next. lower_differs f d m (suc n) (omega (arith, low)) next.0 has next.1) current
