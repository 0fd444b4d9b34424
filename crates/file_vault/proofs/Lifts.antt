-- What files stand for, from what the files' calls leave.
use Rattle.std.proofs.Common.{◌≡◌, ◌≤◌, ⊎_elim, ℕ, sym, ◌∙◌, ap, subst, arith, List, Bool}
use Rattle.extent_groups.specs.Planned.{Intended}
use Rattle.vault.specs.declared.store.Stop.{Stop}
use Rattle.vault.specs.declared.store.Stop.TheVariants.{Killed, PowerLost}
use Rattle.vault.specs.Images.{Image}
use Rattle.vault.specs.Moments.{Elapses, Within}
use Rattle.file_vault.specs.Folders.{Bytes, Folder}
use Rattle.file_vault.specs.Layouts.{Plan}
use Rattle.file_vault.specs.Journals.{IsSound, AreAt, image_of}
use Rattle.file_vault.specs.Vaults.{left_of, IsKnown}
use Rattle.std.proofs.Common.{inl, inr}

-- time goes on for what files stand for
pub lifted : (plan : Plan) (m0 m1 : ℕ) (past since : ℕ → Folder → Type 0) (during leaves : Folder → Type 0) (images : Image → Type 0) → Elapses m0 m1 past since during leaves → ((g : Folder) → during g → images (image_of plan g))
    → Elapses m0 m1 (λ t i. left_of plan (past t) i) (λ t i. left_of plan (since t) i) images (λ i. left_of plan leaves i)
lifted plan m0 m1 past since during leaves images time to = record {
  later = time.later;
  nothing_else = λ t i le left. ⊎_elim (λ was. inl (left.0, was, left.2)) (λ now. inr (subst images (sym left.2) (to left.0 now))) (time.nothing_else t left.0 le left.1);
  keeps = λ t i le left. (left.0, time.keeps t left.0 le left.1, left.2);
  ends = λ i left. subst images (sym left.2) (to left.0 (time.ends left.0 left.1));
}

-- no time goes by
pub at_once : {I : Type 0} (m : ℕ) (since : ℕ → I → Type 0) (during leaves : I → Type 0) → Within leaves during → Elapses m m since since during leaves
at_once m since during leaves to = record { later = omega arith; nothing_else = λ t i le left. inl left; keeps = λ t i le left. left; ends = to }

-- a sound journal stays where its file stays as it is
pub sound_on : {F : Type 0} (seen : F → Folder) (may_leave : F → Stop → Folder → Type 0) (old new : F) (places : List ℕ) (batches : List (List Intended)) (end durable : ℕ) → IsSound seen may_leave old places batches end durable
    → seen new 17 ≡ seen old 17 → ((stop : Stop) (g : Folder) → may_leave new stop g → (f : Folder) × may_leave old stop f × (g 17 ≡ f 17)) → IsSound seen may_leave new places batches end durable
sound_on seen may_leave old new places batches end durable sound same leaves = record {
  lie = subst (λ (b : Bytes). AreAt b 4096 places batches end) (sym same) sound.lie;
  inside = sound.inside;
  some = sound.some;
  zeros = λ k past. ap (λ (b : Bytes). b k) same ∙ sound.zeros k past;
  killed = λ g now k low. (let from = leaves Killed g now in ap (λ (b : Bytes). b k) from.2 ∙ sound.killed from.0 from.1 k low ∙ ap (λ (b : Bytes). b k) (sym same));
  power = λ g now.
      let from = leaves PowerLost g now in
      let is = sound.power from.0 from.1 in
      record {
        same = λ k low high. ap (λ (b : Bytes). b k) from.2 ∙ is.same k low high ∙ ap (λ (b : Bytes). b k) (sym same);
        rest = λ k low. ⊎_elim (λ e. inl (ap (λ (b : Bytes). b k) from.2 ∙ e ∙ ap (λ (b : Bytes). b k) (sym same))) (λ e. inr (ap (λ (b : Bytes). b k) from.2 ∙ e)) (is.rest k low);
      };
}

pub known_on : {F : Type 0} (known : F → Type 0) (seen : F → Folder) (may_leave : F → Stop → Folder → Type 0) (faults : F → ℕ) (old new : F) (places : List ℕ) (end durable : ℕ) (broken : Bool)
    → IsKnown known seen may_leave faults old places end durable broken → known new → faults old ≤ faults new → seen new 17 ≡ seen old 17
    → ((stop : Stop) (g : Folder) → may_leave new stop g → (f : Folder) × may_leave old stop f × (g 17 ≡ f 17)) → IsKnown known seen may_leave faults new places end durable broken
known_on known seen may_leave faults old new places end durable broken was is later same leaves = record {
  files_known = is;
  batches = λ whole. (let some = was.batches whole in record { batches = some.batches; sound = sound_on seen may_leave old new places some.batches end durable some.sound same leaves });
  failed = λ is_broken. (let some = was.failed is_broken in omega (arith, some, later));
}
