-- Facts of digests.
use Rattle.std.specs.Prelude.{◌≡◌, ◌≢◌, ◌<◌, ◌+◌, ◌*◌, ◌%◌, ◌^◌, ℕ, zero, suc, List, [], ◌∷◌, length, take, get_or, replicate}
use Rattle.std.specs.Int.{w32, w64, from_le_bytes}
use Rattle.std.proofs.Common.{refl, sym, ◌∙◌, ap, arith}
use Rattle.std.proofs.Math.Nat.{mod-lt, mod-eq_of_lt, div-add-mod}
use Rattle.std.proofs.lemmas.Nat.{from_le_bytes-to_le_bytes_8}
use Rattle.unit_digest.specs.Digests.{first_sums, word, sums_over, words_of, digest_bytes, digest}
use Rattle.unit_digest.specs.declared.sums.Sums.{Sums}

-- a digest has 32 bytes
pub length-digest : (drive address : ℕ) (unit : List ℕ) → length (digest drive address unit) ≡ 32
unfolding digest
length-digest drive address unit = refl

-- a number that is added drops out
same_rest : (a b w : ℕ) → a < 2 ^ 64 → b < 2 ^ 64 → (a + w) % 2 ^ 64 ≡ (b + w) % 2 ^ 64 → a ≡ b
same_rest a b w la lb e =
    let one = div-add-mod (a + w) (2 ^ 64) in
    let two = div-add-mod (b + w) (2 ^ 64) in
    omega (arith, one, two, e, la, lb)

first_small : (s : Sums) (unit : List ℕ) (n : ℕ) → s.first < 2 ^ 64 → (sums_over s unit n).first < 2 ^ 64
first_small s unit zero low = low
first_small s unit (suc n) low = mod-lt ((sums_over s unit n).first + word unit n) (omega arith)

-- the first sums differ as those that they began with
first_same : (s t : Sums) (unit : List ℕ) (n : ℕ) → s.first < 2 ^ 64 → t.first < 2 ^ 64 → (sums_over s unit n).first ≡ (sums_over t unit n).first → s.first ≡ t.first
first_same s t unit zero ls lt e = e
first_same s t unit (suc n) ls lt e =
    first_same s t unit n ls lt (same_rest (sums_over s unit n).first (sums_over t unit n).first (word unit n) (first_small s unit n ls) (first_small t unit n lt) e)

-- the first sum by its bytes
first_of : (s t : Sums) → s.first < 2 ^ 64 → t.first < 2 ^ 64 → digest_bytes s ≡ digest_bytes t → s.first ≡ t.first
first_of s t ls lt e =
    sym (from_le_bytes-to_le_bytes_8 s.first ls) ∙ ap (λ (bytes : List ℕ). from_le_bytes w64 (take 8 bytes)) e ∙ from_le_bytes-to_le_bytes_8 t.first lt

start_small : (drive address : ℕ) → drive < 2 ^ 8 → address < 2 ^ 32 → (first_sums drive address).first < 2 ^ 64
start_small drive address ld la = omega (arith, ld, la)

pub places_apart : (drive address other there : ℕ) (unit : List ℕ) → drive < 2 ^ 8 → address < 2 ^ 32 → other < 2 ^ 8 → there < 2 ^ 32 → digest drive address unit ≡ digest other there unit → (drive ≡ other) × (address ≡ there)
unfolding digest
places_apart drive address other there unit ld la lo lt e =
    let n = words_of (length unit) in
    let one = start_small drive address ld la in
    let two = start_small other there lo lt in
    let first : 2 ^ 32 * drive + address + 1 ≡ 2 ^ 32 * other + there + 1 =
    first_same (first_sums drive address) (first_sums other there) unit n one two
    (first_of (sums_over (first_sums drive address) unit n) (sums_over (first_sums other there) unit n) (first_small (first_sums drive address) unit n one) (first_small (first_sums other there) unit n two) e) in
    (omega (arith, first, la, lt), omega (arith, first, la, lt))

-- words of zeros add nothing to the first sum
zero_at : (n i : ℕ) → ◌≡◌ {A = ℕ} (get_or (replicate n 0) i 0) 0
zero_at zero i = refl
zero_at (suc n) zero = refl
zero_at (suc n) (suc i) = zero_at n i

zero_word : (n i : ℕ) → word (replicate n 0) i ≡ 0
zero_word n i =
    ap (λ b. from_le_bytes w32 (b ∷ get_or (replicate n 0) (4 * i + 1) 0 ∷ get_or (replicate n 0) (4 * i + 2) 0 ∷ get_or (replicate n 0) (4 * i + 3) 0 ∷ [])) (zero_at n (4 * i))
    ∙ ap (λ b. from_le_bytes w32 (0 ∷ b ∷ get_or (replicate n 0) (4 * i + 2) 0 ∷ get_or (replicate n 0) (4 * i + 3) 0 ∷ [])) (zero_at n (4 * i + 1))
    ∙ ap (λ b. from_le_bytes w32 (0 ∷ 0 ∷ b ∷ get_or (replicate n 0) (4 * i + 3) 0 ∷ [])) (zero_at n (4 * i + 2))
    ∙ ap (λ b. from_le_bytes w32 (0 ∷ 0 ∷ 0 ∷ b ∷ [])) (zero_at n (4 * i + 3))

first_of_zeros : (s : Sums) (bytes n : ℕ) → s.first < 2 ^ 64 → (sums_over s (replicate bytes 0) n).first ≡ s.first
first_of_zeros s bytes zero low = refl
first_of_zeros s bytes (suc n) low =
    let was = first_of_zeros s bytes n low in
    ap (λ w. ((sums_over s (replicate bytes 0) n).first + w) % 2 ^ 64) (zero_word bytes n)
    ∙ ap (λ a. (a + 0) % 2 ^ 64) was ∙ ap (λ a. a % 2 ^ 64) (omega arith) ∙ mod-eq_of_lt low

pub zeros_differ : (drive address bytes : ℕ) → drive < 2 ^ 8 → address < 2 ^ 32 → digest drive address (replicate bytes 0) ≢ replicate 32 0
unfolding digest
zeros_differ drive address bytes ld la e =
    let n = words_of (length (replicate bytes 0)) in
    let one = start_small drive address ld la in
    let sums = sums_over (first_sums drive address) (replicate bytes 0) n in
    let first : sums.first ≡ 2 ^ 32 * drive + address + 1 = first_of_zeros (first_sums drive address) bytes n one in
    let none : sums.first ≡ 0 =
    sym (from_le_bytes-to_le_bytes_8 sums.first (first_small (first_sums drive address) (replicate bytes 0) n one)) ∙ ap (λ (bs : List ℕ). from_le_bytes w64 (take 8 bs)) e in
    omega (arith, first, none)
