-- The first block of a file is written, part by part.
use Rattle.std.proofs.Common.{◌≡◌, ◌≤◌, ◌<◌, ◌⊎◌, inl, inr, ℕ, ◌+◌, ◌^◌, List, [], ◌∷◌, refl, sym, ◌∙◌, ap, arith, length}
use Rattle.std.specs.Int.{w32, from_le_bytes, to_le_bytes}
use Rattle.std.proofs.lemmas.List.{take_all}
use Rattle.std.proofs.lemmas.Nat.{from_le_bytes-to_le_bytes_4}
use Rattle.file_vault.specs.Folders.{Folder, part, Wrote}
use Rattle.file_vault.specs.Headers.{HasFileHeader, number_at, mark}
use Rattle.file_vault.specs.declared.header.Header.{Header}
use Rattle.file_vault.proofs.Chains.{part_same}
use Rattle.file_vault.proofs.Puts.{part_is}

-- the bytes that a write wrote, and those beside them
pub part_wrote : (file at count : ℕ) (bytes : List ℕ) (f g : Folder) → Wrote file at bytes f g → length bytes ≡ count → part (g file) at count ≡ bytes
part_wrote file at count bytes f g wrote long = part_is (g file) at count bytes (omega (arith, long)) (λ j low. wrote.inside j (omega (arith, low, long))) ∙ take_all count bytes (omega (arith, long))

pub part_kept : (file at : ℕ) (bytes : List ℕ) (f g : Folder) (low count : ℕ) → Wrote file at bytes f g → (low + count ≤ at) ⊎ (at + length bytes ≤ low) → part (g file) low count ≡ part (f file) low count
part_kept file at bytes f g low count wrote nearby =
    part_same (f file) (g file) low count (λ k from to. wrote.outside k (elim nearby [ inl before ↦ inl (omega (arith, before, to)) | inr past ↦ inr (omega (arith, past, from)) ]))

four : (n : ℕ) → length (to_le_bytes w32 n) ≡ 4
four n = refl

-- the whole block
module _ (n : ℕ) (h : Header) (f0 f1 f2 f3 f4 f5 f6 f7 : Folder) (first : Wrote n 8 h.identity f0 f1) (second : Wrote n 24 (h.number ∷ []) f1 f2) (third : Wrote n 25 (to_le_bytes w32 h.unit_bytes) f2 f3)
    (fourth : Wrote n 29 (to_le_bytes w32 h.count) f3 f4) (synced : f5 ≡ f4) (last : Wrote n 0 mark f5 f6) (again : f7 ≡ f6) (long : length h.identity ≡ 16) (unit_fits : h.unit_bytes < 2 ^ 32) (count_fits : h.count < 2 ^ 32) where
  to_fourth : (low count : ℕ) → 8 ≤ low → part (f7 n) low count ≡ part (f4 n) low count
  to_fourth low count past = ap (λ (f : Folder). part (f n) low count) again ∙ part_kept n 0 mark f5 f6 low count last (inr (omega (arith, past))) ∙ ap (λ (f : Folder). part (f n) low count) synced

  identity_is : part (f7 n) 8 16 ≡ h.identity
  identity_is =
      to_fourth 8 16 (omega arith) ∙ part_kept n 29 (to_le_bytes w32 h.count) f3 f4 8 16 fourth (inl (omega arith)) ∙ part_kept n 25 (to_le_bytes w32 h.unit_bytes) f2 f3 8 16 third (inl (omega arith))
      ∙ part_kept n 24 (h.number ∷ []) f1 f2 8 16 second (inl (omega arith)) ∙ part_wrote n 8 16 h.identity f0 f1 first long

  number_is : f7 n 24 ≡ h.number
  number_is =
      ap (λ (f : Folder). f n 24) again ∙ last.outside 24 (inr (omega arith)) ∙ ap (λ (f : Folder). f n 24) synced
      ∙ fourth.outside 24 (inl (omega arith)) ∙ third.outside 24 (inl (omega arith)) ∙ second.inside 0 (omega arith)

  unit_is : number_at (f7 n) 25 ≡ h.unit_bytes
  unit_is =
      ap (λ bs. from_le_bytes w32 bs) (to_fourth 25 4 (omega arith) ∙ part_kept n 29 (to_le_bytes w32 h.count) f3 f4 25 4 fourth (inl (omega arith))
      ∙ part_wrote n 25 4 (to_le_bytes w32 h.unit_bytes) f2 f3 third (four h.unit_bytes))
      ∙ from_le_bytes-to_le_bytes_4 h.unit_bytes unit_fits

  count_is : number_at (f7 n) 29 ≡ h.count
  count_is = ap (λ bs. from_le_bytes w32 bs) (to_fourth 29 4 (omega arith) ∙ part_wrote n 29 4 (to_le_bytes w32 h.count) f3 f4 fourth (four h.count)) ∙ from_le_bytes-to_le_bytes_4 h.count count_fits

  pub block_is : HasFileHeader (f7 n) h
  block_is = record {
    marked = ap (λ (f : Folder). part (f n) 0 8) again ∙ part_wrote n 0 8 mark f5 f6 last refl;
    says = λ i. record { identity = (sym identity_is) i; number = (sym number_is) i; unit_bytes = (sym unit_is) i; count = (sym count_is) i };
  }
