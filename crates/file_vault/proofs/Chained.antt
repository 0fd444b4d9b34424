-- Whole records that are found again in a journal's file.
use Rattle.std.proofs.Common.{◌≡◌, inl, ℕ, ◌+◌, ◌==◌, true, false, List, [], ◌∷◌, ◌++◌, refl, sym, ◌∙◌, ap, subst, arith}
use Rattle.std.specs.Prelude.{◌&&◌}
use Rattle.vault.specs.declared.store.Stop.{Stop}
use Rattle.vault.specs.Coding.{decoded}
use Rattle.file_vault.specs.Folders.{Bytes, Folder, part}
use Rattle.file_vault.specs.Records.{are_digits, nonzero, nonzero_at, body_at, next_at, is_whole}
use Rattle.file_vault.specs.Journals.{AreAt}
use Rattle.file_vault.specs.Recoveries.{HasChain, IsNextRecord, OnlyRead}
use Rattle.file_vault.proofs.Chains.{one_more}
use Rattle.file_vault.proofs.Puts.{both_elapse}

-- files that are read, twice or not at all
module _ {F : Type 0} (known : F → Type 0) (seen : F → Folder) (may_leave : F → Stop → Folder → Type 0) (moment : F → ℕ) (left_since : F → Stop → ℕ → Folder → Type 0) (faults : F → ℕ) where
  pub not_read : (files : F) → known files → OnlyRead known seen may_leave moment left_since faults files files
  not_read files is = record { keeps = is; same = refl; time = λ stop. record { later = omega arith; nothing_else = λ t g le left. inl left; keeps = λ t g le left. left; ends = λ g now. now }; later = omega arith }

  pub both_read : (old mid new : F) → OnlyRead known seen may_leave moment left_since faults old mid → OnlyRead known seen may_leave moment left_since faults mid new → OnlyRead known seen may_leave moment left_since faults old new
  both_read old mid new first second = record {
    keeps = second.keeps;
    same = second.same ∙ first.same;
    time = λ stop. both_elapse _ _ _ _ _ _ _ _ _ _ _ (first.time stop) (second.time stop) (λ g d. d) (λ g there. (first.time stop).ends g there);
    later = omega (arith, first.later, second.later);
  }

-- one record more
pub chain_more : (f : Bytes) (places : List ℕ) (end long : ℕ) → HasChain f places end → IsNextRecord f end long → (new_places : List ℕ) (new_end : ℕ) → new_places ≡ places ++ end ∷ [] → new_end ≡ end + 18 + long → HasChain f new_places new_end
chain_more f places end long (batches, lie) next new_places new_end is_places is_end =
    let later : next_at f end ≡ new_end = ap (λ n. end + 18 + n) (sym next.length_is) ∙ sym is_end in (
      batches ++ decoded (body_at f end) ∷ [],
      subst (λ n. AreAt f 4096 new_places (batches ++ decoded (body_at f end) ∷ []) n) later
          (subst (λ (l : List ℕ). AreAt f 4096 l (batches ++ decoded (body_at f end) ∷ []) (next_at f end)) (sym is_places) (one_more f 4096 places batches end lie next.whole next.code)),
    )

-- a record is whole, or it isn't
pub whole_by : (f : Bytes) (at n m : ℕ) (bytes : List ℕ) → are_digits (part f at 18) ≡ true → bytes ≡ body_at f at → n ≡ nonzero bytes → m ≡ nonzero_at f at → is_whole f at ≡ (n == m)
whole_by f at n m bytes are is one two =
    ap (λ b. b && (nonzero (body_at f at) == nonzero_at f at)) are ∙ ap (λ (l : List ℕ). nonzero l == nonzero_at f at) (sym is) ∙ ap (λ k. k == nonzero_at f at) (sym one) ∙ ap (λ k. n == k) (sym two)

pub no_head : (f : Bytes) (at : ℕ) → are_digits (part f at 18) ≡ false → is_whole f at ≡ false
no_head f at none = ap (λ b. b && (nonzero (body_at f at) == nonzero_at f at)) none
