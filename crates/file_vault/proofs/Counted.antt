-- The count of one of a journal's two files becomes another.
use Rattle.std.proofs.Common.{◌≡◌, ◌≤◌, ◌<◌, ◌⊎◌, inl, inr, ℕ, ◌+◌, ◌^◌, Bool, true, false, List, [], ◌∷◌, refl, sym, ◌∙◌, ap, arith, length}
use Rattle.std.specs.Prelude.{◌==◌, not}
use Rattle.std.specs.Int.{w64, to_le_bytes}
use Rattle.vault.specs.Coding.{word, number}
use Rattle.vault.specs.Moments.{Within}
use Rattle.vault.proofs.Codes.{number-word}
use Rattle.file_vault.specs.Folders.{Bytes, Folder, part, Wrote, Mixed, HasFile, mixed_at}
use Rattle.file_vault.specs.Headers.{SameAfterHeader}
use Rattle.file_vault.specs.Twins.{which_in, count_offset, mark_of, count_in, counted_at}
use Rattle.file_vault.proofs.Chains.{part_same}
use Rattle.file_vault.proofs.Blocks.{part_wrote}

-- a write into the first block
pub mixed_following : (file at : ℕ) (bytes : List ℕ) (f g : Folder) → at + length bytes ≤ 4096 → Mixed file at bytes f g → SameAfterHeader file f g
mixed_following file at bytes f g inside mixed = record { following = λ k past. mixed.outside k (inr (omega (arith, inside, past))); others = mixed.others }

word_count : (n : ℕ) → n < 2 ^ 64 → number (to_le_bytes w64 n) ≡ n
unfolding word
word_count n small = number-word n [] small

-- a number at the place that isn't in use
count_nearby : (file : ℕ) (bytes : List ℕ) (f g : Folder) (second : Bool) → length bytes ≡ 8 → second ≡ which_in (f file) → Mixed file (count_offset (not second)) bytes f g → count_in (g file) ≡ count_in (f file)
count_nearby file bytes f g true long is mixed =
    let which : which_in (g file) ≡ which_in (f file) = ap (λ n. not (n == 0)) (mixed.outside 64 (inl (omega arith))) in
    ap (λ w. number (part (g file) (count_offset w) 8)) (which ∙ sym is)
    ∙ ap number (part_same (f file) (g file) 80 8 (λ k low high. mixed.outside k (inr (omega (arith, low, long)))))
    ∙ ap (λ w. number (part (f file) (count_offset w) 8)) is
count_nearby file bytes f g false long is mixed =
    let which : which_in (g file) ≡ which_in (f file) = ap (λ n. not (n == 0)) (mixed.outside 64 (inl (omega arith))) in
    ap (λ w. number (part (g file) (count_offset w) 8)) (which ∙ sym is)
    ∙ ap number (part_same (f file) (g file) 72 8 (λ k low high. mixed.outside k (inl (omega (arith, high)))))
    ∙ ap (λ w. number (part (f file) (count_offset w) 8)) is

place_low : (w : Bool) → (72 ≤ count_offset w) × (count_offset w ≤ 80)
place_low true = (omega arith, omega arith)
place_low false = (omega arith, omega arith)

number_following : (file : ℕ) (bytes : List ℕ) (f g : Folder) (second : Bool) → length bytes ≡ 8 → Mixed file (count_offset second) bytes f g → SameAfterHeader file f g
number_following file bytes f g second long mixed = let low = place_low second in mixed_following file (count_offset second) bytes f g (omega (arith, low.1, long)) mixed

-- the byte that says which place is in use
mark_is : (w : Bool) (n : ℕ) → n ≡ mark_of w → not (n == 0) ≡ w
mark_is true n is = ap (λ m. not (m == 0)) is
mark_is false n is = ap (λ m. not (m == 0)) is

flipped_part : (file : ℕ) (f g : Folder) (next w : Bool) → Mixed file 64 (mark_of next ∷ []) f g → part (g file) (count_offset w) 8 ≡ part (f file) (count_offset w) 8
flipped_part file f g next w mixed = let low = place_low w in part_same (f file) (g file) (count_offset w) 8 (λ k under high. mixed.outside k (inr (omega (arith, low.0, under))))

count_flipped : (file count : ℕ) (f g : Folder) (next : Bool) → number (part (f file) (count_offset next) 8) ≡ count → Mixed file 64 (mark_of next ∷ []) f g → (count_in (g file) ≡ count_in (f file)) ⊎ (count_in (g file) ≡ count)
count_flipped file count f g next is mixed = elim (mixed.inside 0 (omega arith)) [
  | inl same ↦
      let which : which_in (g file) ≡ which_in (f file) = ap (λ n. not (n == 0)) same in
      inl (ap (λ w. number (part (g file) (count_offset w) 8)) which ∙ ap number (flipped_part file f g next (which_in (f file)) mixed))
  | inr made ↦
      let which : which_in (g file) ≡ next = mark_is next (g file 64) made in
      inr (ap (λ w. number (part (g file) (count_offset w) 8)) which ∙ ap number (flipped_part file f g next next mixed) ∙ is)
]

pub count_made : (file count : ℕ) (f g : Folder) (next : Bool) → number (part (f file) (count_offset next) 8) ≡ count → Wrote file 64 (mark_of next ∷ []) f g → count_in (g file) ≡ count
count_made file count f g next is wrote =
    let which : which_in (g file) ≡ next = mark_is next (g file 64) (wrote.inside 0 (omega arith)) in
    let low = place_low next in
    ap (λ w. number (part (g file) (count_offset w) 8)) which ∙ ap number (part_same (f file) (g file) (count_offset next) 8 (λ k under high. wrote.outside k (inr (omega (arith, low.0, under))))) ∙ is

pub number_made : (file count : ℕ) (f g : Folder) (next : Bool) → count < 2 ^ 64 → Wrote file (count_offset next) (to_le_bytes w64 count) f g → number (part (g file) (count_offset next) 8) ≡ count
number_made file count f g next small wrote = ap number (part_wrote file (count_offset next) 8 (to_le_bytes w64 count) f g wrote refl) ∙ word_count count small

pub following_both : (file : ℕ) (f g h : Folder) → SameAfterHeader file f g → SameAfterHeader file g h → SameAfterHeader file f h
following_both file f g h one two = record { following = λ k past. two.following k past ∙ one.following k past; others = λ d ne. two.others d ne ∙ one.others d ne }

-- what a stop leaves: before, while the number is written, and while the byte is
pub counted_first : (file count : ℕ) (outcomes : Folder → Type 0) → Within outcomes (counted_at file count outcomes)
counted_first file count outcomes g now = (g, now, record { following = λ k past. refl; others = λ d ne. refl }, inl refl)

pub counted_number : (file count : ℕ) (s : Folder) (second : Bool) (first outcomes : Folder → Type 0) → second ≡ which_in (s file) → Within outcomes first → HasFile file s outcomes
    → Within (mixed_at file (count_offset (not second)) (to_le_bytes w64 count) outcomes) (counted_at file count first)
counted_number file count s second first outcomes is within durable g (f, now, mixed) = (
  f,
  within f now,
  number_following file (to_le_bytes w64 count) f g (not second) refl mixed,
  inl (count_nearby file (to_le_bytes w64 count) f g second refl (is ∙ ap which_in (sym (durable f now))) mixed),
)

pub counted_mark : (file count : ℕ) (s : Folder) (second : Bool) (first outcomes : Folder → Type 0) → number (part (s file) (count_offset second) 8) ≡ count → Within outcomes (counted_at file count first) → HasFile file s outcomes
    → Within (mixed_at file 64 (mark_of second ∷ []) outcomes) (counted_at file count first)
counted_mark file count s second first outcomes is within durable g (f, now, mixed) =
    let from = within f now in (
      from.0,
      from.1,
      following_both file from.0 f g from.2 (mixed_following file 64 (mark_of second ∷ []) f g (omega arith) mixed),
      elim (count_flipped file count f g second (ap (λ (b : Bytes). number (part b (count_offset second) 8)) (durable f now) ∙ is) mixed) [
        | inl same ↦ elim from.3 [ inl was ↦ inl (same ∙ was) | inr made ↦ inr (same ∙ made) ]
        | inr made ↦ inr made
      ],
    )

-- the calls that find it so
pub seen_following : (file count : ℕ) (f g h : Folder) (second : Bool) → Mixed file (count_offset second) (to_le_bytes w64 count) f g → Mixed file 64 (mark_of second ∷ []) g h → SameAfterHeader file f h
seen_following file count f g h second one two = following_both file f g h (number_following file (to_le_bytes w64 count) f g second refl one) (mixed_following file 64 (mark_of second ∷ []) g h (omega arith) two)

pub number_only : (file count : ℕ) (f g : Folder) (second : Bool) → Mixed file (count_offset second) (to_le_bytes w64 count) f g → SameAfterHeader file f g
number_only file count f g second one = number_following file (to_le_bytes w64 count) f g second refl one
