-- The place of a batch's record, by its index.
use Rattle.std.proofs.Common.{◌≡◌, ◌≤◌, ◌<◌, ℕ, zero, suc, ◌+◌, ◌-◌, List, [], ◌∷◌, Result, Ok, Err, refl, sym, ◌∙◌, ap, subst, arith, length, get_or}
use Rattle.std.specs.Prelude.{IfErr}
use Rattle.extent_groups.specs.Planned.{Intended}
use Rattle.vault.specs.declared.store.Stop.{Stop}
use Rattle.vault.specs.declared.store.VaultError.{VaultError}
use Rattle.vault.specs.declared.store.VaultError.TheVariants.{Memory}
use Rattle.vault.specs.Moments.{HasCause}
use Rattle.file_vault.specs.Folders.{Folder, Bytes, part, Reads}
use Rattle.file_vault.specs.Records.{body_at, next_at}
use Rattle.file_vault.specs.Journals.{place_after, IsSound}
use Rattle.file_vault.proofs.Puts.{part_is}
use Rattle.std.proofs.lemmas.List.{take_all}

pub place_in : (places : List ℕ) (end index : ℕ) → index < length places → place_after places end index ≡ get_or places index 0
place_in [] end index low = absurd (omega (arith, low))
place_in (s ∷ ss) end zero low = refl
place_in (s ∷ ss) end (suc index) low = place_in ss end index (omega (arith, low))

pub place_out : (places : List ℕ) (end index : ℕ) → length places ≤ index → place_after places end index ≡ end
place_out [] end index past = refl
place_out (s ∷ ss) end zero past = absurd (omega (arith, past))
place_out (s ∷ ss) end (suc index) past = place_out ss end index (omega (arith, past))

-- the same journal, by equal numbers
pub sound_as : {F : Type 0} (seen : F → Folder) (may_leave : F → Stop → Folder → Type 0) (files : F) (places places2 : List ℕ) (batches : List (List Intended)) (end end2 durable durable2 : ℕ)
    → IsSound seen may_leave files places batches end durable → places ≡ places2 → end ≡ end2 → durable ≡ durable2 → IsSound seen may_leave files places2 batches end2 durable2
sound_as seen may_leave files places places2 batches end end2 durable durable2 sound same_places same_end same_durable =
    subst (λ (l : List ℕ). IsSound seen may_leave files l batches end2 durable2) same_places
    (subst (λ n. IsSound seen may_leave files places batches n durable2) same_end (subst (λ n. IsSound seen may_leave files places batches end n) same_durable sound))

-- bytes that were read, as a part of the file
pub reads_part : (f : Bytes) (at count : ℕ) (xs : List ℕ) → length xs ≡ count → Reads f at xs → xs ≡ part f at count
reads_part f at count xs long reads = sym (part_is f at count xs (omega (arith, long)) (λ j low. sym (reads j (omega (arith, low, long)))) ∙ take_all count xs (omega (arith, long)))

-- the bytes of a batch, between its head and the next record
pub body_between : (f : Bytes) (place next at count : ℕ) → next ≡ next_at f place → at ≡ place + 18 → count ≡ next - at → part f at count ≡ body_at f place
body_between f place next at count is from long = ap (λ n. part f n count) from ∙ ap (λ n. part f (place + 18) n) (omega (arith, is, from, long))

-- out of memory
pub memory_cause : {T : Type 0} (may_name : ℕ → Type 0) (n m : ℕ) (r : Result T VaultError) → n ≤ m → IfErr r (λ e. e ≡ Memory) → HasCause may_name n m r
memory_cause may_name n m (Ok x) le why = record { later = le; journal = λ e. cc; drive = λ d e. cc }
memory_cause may_name n m (Err e) le why = record { later = le; journal = λ same. cc (why, same); drive = λ d same. cc (why, same) }
