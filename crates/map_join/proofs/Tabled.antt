-- The map of a table of keys by block, page after page.
use Rattle.std.proofs.Common.{◌==◌, ◌&&◌, ◌≡◌, ℕ, zero, suc, ◌+◌, ◌-◌, ◌*◌, min, take, drop, ◌/◌, ◌%◌, ◌<◌, ◌≤◌, Bool, true, false, List, [], ◌∷◌, length, get_or, slice_index, refl, sym, ap, ◌∙◌, arith, ◌⊎◌, inl, inr}
use Rattle.std.proofs.lemmas.Bool.{cases_eq, cases_lt}
use Rattle.std.proofs.lemmas.Bool.Decides.{nat_tests}
use Rattle.std.proofs.lemmas.List.{get_or_past, get_or-take, get_or-drop, length-take}
use Rattle.std.specs.List.{list_all}
use Rattle.map_join.specs.Maps.{IsSame}
use Rattle.map_join.specs.Pages.{HasKey, IsPageOf, with_page}
use Rattle.map_join.proofs.Paged.{with_here, with_else}

-- a map has the keys of a table's first pages
pub record IsTabled (keys : List ℕ) (pages : ℕ) (M : ℕ → ℕ) : Type 0 where
  pub below : (block : ℕ) → block < 64 * pages → M block ≡ slice_index keys block
  pub rest : (block : ℕ) → 64 * pages ≤ block → M block ≡ 0

-- one page more
pub tabled_page : (keys table : List ℕ) (pages : ℕ) (M N : ℕ → ℕ) → IsPageOf (slice_index keys) pages table → IsSame N (with_page M pages (slice_index table))
    → IsTabled keys pages M → IsTabled keys (pages + 1) N
tabled_page keys table pages M N own now was = record { below = λ b lt. below b lt (cases_eq (b / 64) pages); rest = rest }
  where
    below : (b : ℕ) → b < 64 * (pages + 1) → (b / 64 ≡ pages) ⊎ (b / 64 ≡ pages → ⊥) → N b ≡ slice_index keys b
    below b lt (inl is) =
        let whole : 64 * pages + b % 64 ≡ b = omega arith in
        now b ∙ with_here M pages (slice_index table) b is ∙ sym (own (b % 64) (omega arith)) ∙ ap (slice_index keys) whole
    below b lt (inr ne) = now b ∙ with_else M pages (slice_index table) b ne ∙ was.below b (omega arith)

    rest : (b : ℕ) → 64 * (pages + 1) ≤ b → N b ≡ 0
    rest b le = now b ∙ with_else M pages (slice_index table) b (λ is. absurd (omega arith)) ∙ was.rest b (omega arith)

-- or one that has no key
pub tabled_blank : (keys table : List ℕ) (pages : ℕ) (M : ℕ → ℕ) → IsPageOf (slice_index keys) pages table → IsSame (slice_index table) (λ _. 0)
    → IsTabled keys pages M → IsTabled keys (pages + 1) M
tabled_blank keys table pages M own none was = record { below = λ b lt. below b lt (cases_lt b (64 * pages)); rest = λ b le. was.rest b (omega arith) }
  where
    below : (b : ℕ) → b < 64 * (pages + 1) → (b < 64 * pages) ⊎ (64 * pages ≤ b) → M b ≡ slice_index keys b
    below b lt (inl l) = was.below b l
    below b lt (inr le) =
        let whole : 64 * pages + b % 64 ≡ b = omega arith in
        was.rest b le ∙ sym (none (b % 64)) ∙ sym (own (b % 64) (omega arith)) ∙ ap (slice_index keys) whole

-- a table has no key exactly where each is 0
pub all_zero : (keys : List ℕ) → list_all (λ (key : ℕ). key == 0) keys ≡ true → IsSame (slice_index keys) (λ _. 0)
all_zero [] all block = refl
all_zero (key ∷ keys) all zero = grind (arith, nat_tests, all)
all_zero (key ∷ keys) all (suc block) = all_zero keys (rest (key == 0) all) block
  where
    rest : (t : Bool) → (t && list_all (λ (key : ℕ). key == 0) keys) ≡ true → list_all (λ (key : ℕ). key == 0) keys ≡ true
    rest true e = e
    rest false e = cc

has_key : (keys : List ℕ) → list_all (λ (key : ℕ). key == 0) keys ≡ false → (lane : ℕ) × (lane < length keys) × (0 < get_or keys lane 0)
has_key [] all = absurd (not_both all)
  where
    not_both : true ≡ false → ⊥
    not_both e = cc
has_key (suc key ∷ keys) all = (0, omega arith, omega arith)
has_key (zero ∷ keys) all = let found = has_key keys all in (suc found.0, (let l = found.1 in omega arith), found.2)

pub some_key : (keys : List ℕ) → length keys ≤ 64 → list_all (λ (key : ℕ). key == 0) keys ≡ false → HasKey keys
some_key keys few all = let found = has_key keys all in (found.0, (let l = found.1 in omega arith), found.2)

-- the part of a table that is a page's
abbrev pub part : List ℕ → ℕ → ℕ → List ℕ
part keys pages stop = take (stop - pages * 64) (drop (pages * 64) keys)

module _ (keys : List ℕ) (pages stop : ℕ) (is : stop ≡ min (pages * 64 + 64) (length keys)) where
  part_few : length (part keys pages stop) ≤ 64
  part_few = let long = length-take (stop - pages * 64) (drop (pages * 64) keys) in omega arith

  pub table_page : IsPageOf (slice_index keys) pages (part keys pages stop)
  table_page lane lt = go (cases_lt lane (stop - pages * 64))
    where
      rest : List ℕ
      rest = drop (pages * 64) keys

      go : (lane < stop - pages * 64) ⊎ (stop - pages * 64 ≤ lane) → get_or keys (64 * pages + lane) 0 ≡ get_or (part keys pages stop) lane 0
      go (inl l) =
          let order : pages * 64 + lane ≡ 64 * pages + lane = omega arith in
          sym (get_or-take (stop - pages * 64) rest lane 0 l ∙ get_or-drop (pages * 64) keys lane 0 ∙ ap (λ i. get_or keys i 0) order)
      go (inr le) =
          let long = length-take (stop - pages * 64) rest in
          get_or_past keys (64 * pages + lane) 0 (omega arith) ∙ sym (get_or_past (part keys pages stop) lane 0 (omega arith))

  pub part_key : list_all (λ (key : ℕ). key == 0) (part keys pages stop) ≡ false → HasKey (part keys pages stop)
  part_key all = some_key (part keys pages stop) part_few all

  -- then the table has a key too
  pub table_key : HasKey (part keys pages stop) → IsSame (slice_index keys) (λ _. 0) → false ≡ true
  table_key some none =
      let e = table_page some.0 some.1 in
      let z = none (64 * pages + some.0) in
      let above = some.2 in
      absurd (omega arith)
