-- The files of drives are made durable, one after the other, and what each stop leaves then.
use Rattle.std.proofs.Common.{◌≡◌, ◌≢◌, inl, inr, ℕ, zero, suc, ◌+◌, Bool, false, List, [], refl, sym, ◌∙◌, ap, subst, arith, get_or, length}
use Rattle.std.specs.Prelude.{is_some, replicate}
use Rattle.std.proofs.lemmas.List.{take_all}
use Rattle.vault.specs.declared.store.Stop.{Stop}
use Rattle.vault.specs.Images.{Image, is_lost}
use Rattle.vault.specs.Moments.{Within, HasJournal, HasUnitsAtStop, AreLogged}
use Rattle.file_vault.specs.Folders.{Folder, HasFile}
use Rattle.file_vault.specs.Vaults.{AreSynced}
use Rattle.file_vault.proofs.Puts.{below_or}

-- none yet, and fewer outcomes
pub none_synced : (lost : List Bool) (counts : List ℕ) (f : Folder) (outcomes : Stop → Folder → Type 0) → AreSynced lost counts f outcomes 0
none_synced lost counts f outcomes stop d low = absurd (omega (arith, low))

pub fewer_synced : (lost : List Bool) (counts : List ℕ) (f : Folder) (first later : Stop → Folder → Type 0) (count : ℕ) → AreSynced lost counts f first count → ((stop : Stop) → Within (later stop) (first stop)) → AreSynced lost counts f later count
fewer_synced lost counts f first later count so_far within stop d low live some g now = so_far stop d low live some g (within stop g now)

-- one more, which was synced or needn't be
pub synced_more : (lost : List Bool) (counts : List ℕ) (f : Folder) (first later : Stop → Folder → Type 0) (count : ℕ) → AreSynced lost counts f first count → ((stop : Stop) → Within (later stop) (first stop))
    → ((stop : Stop) → is_lost lost count ≡ false → get_or counts count 0 ≢ 0 → HasFile count f (later stop)) → AreSynced lost counts f later (count + 1)
synced_more lost counts f first later count so_far within now stop d low live some = elim (below_or d count) [
  | inl under ↦ fewer_synced lost counts f first later count so_far within stop d under live some
  | inr rest ↦ elim rest [
    | inl e ↦ subst (λ n. HasFile n f (later stop)) (sym e) (now stop (subst (λ n. is_lost lost n ≡ false) e live) (subst (λ n. get_or counts n 0 ≢ 0) e some))
    | inr (j, e) ↦ absurd (omega (arith, e, low))
  ]
]

-- no drive is lost
pub none_lost : (count d : ℕ) → is_lost (replicate count false) d ≡ false
none_lost zero d = refl
none_lost (suc count) zero = refl
none_lost (suc count) (suc d) = none_lost count d

-- with an empty journal each stop leaves all batches, if it leaves the units that calls find
pub logged_empty : {V : Type 0} (seen : V → Image) (may_leave : V → Stop → Image → Type 0) (lost : List Bool) (vault : V) → (seen vault).journal ≡ [] → ((stop : Stop) → HasJournal [] (may_leave vault stop))
    → ((stop : Stop) → HasUnitsAtStop [] (seen vault).cells (may_leave vault stop)) → AreLogged seen may_leave lost vault
logged_empty seen may_leave lost vault none journals units stop = record {
  flushed = omega arith;
  leaves = λ i left. record {
    cells = record { there = λ x live. ap (λ u. is_some u) (units stop i left x refl); elsewhere = λ x live other. units stop i left x refl };
    count = length (seen vault).journal;
    least = omega arith;
    most = omega arith;
    journal = journals stop i left ∙ sym (take_all (length (seen vault).journal) (seen vault).journal (omega arith) ∙ none);
  };
}
