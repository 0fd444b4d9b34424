-- Generations of drives and of the table, as they are raised.
use Rattle.std.proofs.Common.{◌≡◌, ◌≢◌, ◌<◌, ◌⊎◌, inl, inr, ⊎_elim, ℕ, zero, suc, Bool, true, false, List, refl, sym, ◌∙◌, ap, subst, arith, length, slice_set, replicate}
use Rattle.std.proofs.lemmas.Bool.{false≢true}
use Rattle.vault.specs.declared.store.Stop.{Stop}
use Rattle.vault.specs.Moments.{Within}
use Rattle.extent_groups.proofs.Places.{get-set_same, get-set_other}
use Rattle.file_vault.specs.Folders.{Bytes, Folder, part, Mixed, mixed_at}
use Rattle.file_vault.specs.Generations.{stamp_bytes, stamp_offset, HasGeneration, is_some_true, is_flagged, IsCurrent, AgreeIn, AgreeAtStops, AreCurrentAtStops, HaveGenerations}
use Rattle.file_vault.proofs.Puts.{below_or}
use Rattle.file_vault.proofs.Stamps.{mixed_from, mixed_on, mixed_other}

-- one drive or another
same_or : (P : ℕ → Type 0) (d e : ℕ) → P d → (e ≢ d → P e) → P e
same_or P d e here there = elim (below_or e d) [
  | inl under ↦ there (λ same. omega (arith, same, under))
  | inr rest ↦ elim rest [ inl same ↦ subst P (sym same) here | inr (j, more) ↦ there (λ same. omega (arith, same, more)) ]
]

-- marks
pub marked_same : (marks : List Bool) (d : ℕ) → d < length marks → is_flagged (slice_set marks d true) d ≡ true
marked_same marks d low = ap is_some_true (get-set_same marks d true low)

marked_other : (marks : List Bool) (d e : ℕ) → e ≢ d → is_flagged (slice_set marks d true) e ≡ is_flagged marks e
marked_other marks d e ne = ap is_some_true (get-set_other marks d e true ne)

-- a drive's generation is raised; a stop may cut that short
module _ (d n : ℕ) (current raised : List Bool) (f g : Folder) (low : d < 16) (mixed : Mixed d (stamp_offset d) (stamp_bytes 8 (suc n)) f g) (agree : AgreeIn n current raised f) where
  apart : 16 ≢ d
  apart e = omega (arith, e, low)

  table_at : (m : ℕ) → HasGeneration f 16 m → HasGeneration g 16 m
  table_at m has = mixed_other d n f g mixed 16 m apart has

  one : (e : ℕ) → e < 16 → (HasGeneration f e n × HasGeneration f 16 n) ⊎ HasGeneration f e (suc n) → (HasGeneration g e n × HasGeneration g 16 n) ⊎ HasGeneration g e (suc n)
  one e small = same_or (λ e. (HasGeneration f e n × HasGeneration f 16 n) ⊎ HasGeneration f e (suc n) → (HasGeneration g e n × HasGeneration g 16 n) ⊎ HasGeneration g e (suc n)) d e
      (⊎_elim (λ has. ⊎_elim (λ is. inl (is, table_at n has.1)) (λ is. inr is) (mixed_from d n f g mixed has.0)) (λ has. inr (mixed_on d n f g mixed has)))
      (λ ne. ⊎_elim (λ has. inl (mixed_other d n f g mixed e n ne has.0, table_at n has.1)) (λ has. inr (mixed_other d n f g mixed e (suc n) ne has)))

  up : (e : ℕ) → HasGeneration f e (suc n) → HasGeneration g e (suc n)
  up e = same_or (λ e. HasGeneration f e (suc n) → HasGeneration g e (suc n)) d e (mixed_on d n f g mixed) (λ ne. mixed_other d n f g mixed e (suc n) ne)

  pub agree_torn : AgreeIn n current raised g
  agree_torn = record {
    table = ⊎_elim (λ has. inl (table_at n has)) (λ has. inr (table_at (suc n) has)) agree.table;
    drive = λ e small mark. one e small (agree.drive e small mark);
    next = λ e small mark. up e (agree.next e small mark);
  }

  pub agree_raised : HasGeneration g d (suc n) → AgreeIn n (slice_set current d true) (slice_set raised d true) g
  agree_raised has = record {
    table = agree_torn.table;
    drive = λ e small. same_or (λ e. is_flagged (slice_set current d true) e ≡ true → (HasGeneration g e n × HasGeneration g 16 n) ⊎ HasGeneration g e (suc n)) d e
        (λ mark. inr has) (λ ne mark. agree_torn.drive e small (sym (marked_other current d e ne) ∙ mark));
    next = λ e small. same_or (λ e. is_flagged (slice_set raised d true) e ≡ true → HasGeneration g e (suc n)) d e
        (λ mark. has) (λ ne mark. agree_torn.next e small (sym (marked_other raised d e ne) ∙ mark));
  }

module _ {F : Type 0} (may_leave : F → Stop → Folder → Type 0) (old new : F) (d n m : ℕ) (current raised : List Bool) (low : d < 16) (is : m ≡ suc n) (agree : AgreeAtStops may_leave old n current raised)
    (within : (stop : Stop) → Within (may_leave new stop) (mixed_at d (stamp_offset d) (stamp_bytes 8 m) (may_leave old stop))) where
  mixed_as : (f g : Folder) → Mixed d (stamp_offset d) (stamp_bytes 8 m) f g → Mixed d (stamp_offset d) (stamp_bytes 8 (suc n)) f g
  mixed_as f g mixed = subst (λ k. Mixed d (stamp_offset d) (stamp_bytes 8 k) f g) is mixed

  pub stops_torn : AgreeAtStops may_leave new n current raised
  stops_torn stop g now = let from = within stop g now in agree_torn d n current raised from.0 g low (mixed_as from.0 g from.2) (agree stop from.0 from.1)

  pub stops_raised : ((stop : Stop) (g : Folder) → may_leave new stop g → HasGeneration g d m) → AgreeAtStops may_leave new n (slice_set current d true) (slice_set raised d true)
  stops_raised has stop g now =
      let from = within stop g now in
      agree_raised d n current raised from.0 g low (mixed_as from.0 g from.2) (agree stop from.0 from.1) (subst (λ k. HasGeneration g d k) is (has stop g now))

-- the table's generation is raised, once only drives have the mark that have the next
module _ (n : ℕ) (raised : List Bool) (f g : Folder) (mixed : Mixed 16 (stamp_offset 16) (stamp_bytes 8 (suc n)) f g) (ups : (d : ℕ) → d < 16 → is_flagged raised d ≡ true → HasGeneration f d (suc n)) where
  still : (d : ℕ) → d < 16 → is_flagged raised d ≡ true → HasGeneration g d (suc n)
  still d small mark = mixed_other 16 n f g mixed d (suc n) (λ e. omega (arith, e, small)) (ups d small mark)

  pub agree_table_torn : HasGeneration f 16 n ⊎ HasGeneration f 16 (suc n) → AgreeIn n raised raised g
  agree_table_torn table = record {
    table = ⊎_elim (λ has. mixed_from 16 n f g mixed has) (λ has. inr (mixed_on 16 n f g mixed has)) table;
    drive = λ d small mark. inr (still d small mark);
    next = still;
  }

  pub agree_table_raised : (none : List Bool) → ((d : ℕ) → is_flagged none d ≡ false) → HasGeneration g 16 (suc n) → AgreeIn (suc n) raised none g
  agree_table_raised none is has = record {
    table = inl has;
    drive = λ d small mark. inl (still d small mark, has);
    next = λ d small mark. absurd (false≢true (sym (is d) ∙ mark));
  }

module _ {F : Type 0} (may_leave : F → Stop → Folder → Type 0) (old new : F) (n m : ℕ) (current raised : List Bool) (is : m ≡ suc n) (agree : AgreeAtStops may_leave old n current raised)
    (within : (stop : Stop) → Within (may_leave new stop) (mixed_at 16 (stamp_offset 16) (stamp_bytes 8 m) (may_leave old stop))) where
  table_as : (f g : Folder) → Mixed 16 (stamp_offset 16) (stamp_bytes 8 m) f g → Mixed 16 (stamp_offset 16) (stamp_bytes 8 (suc n)) f g
  table_as f g mixed = subst (λ k. Mixed 16 (stamp_offset 16) (stamp_bytes 8 k) f g) is mixed

  pub stops_table_torn : AgreeAtStops may_leave new n raised raised
  stops_table_torn stop g now =
      let from = within stop g now in let was = agree stop from.0 from.1 in agree_table_torn n raised from.0 g (table_as from.0 g from.2) was.next was.table

  pub stops_table_raised : (none : List Bool) → ((d : ℕ) → is_flagged none d ≡ false) → ((stop : Stop) (g : Folder) → may_leave new stop g → HasGeneration g 16 m) → AgreeAtStops may_leave new m raised none
  stops_table_raised none unmarked has = subst (λ k. AgreeAtStops may_leave new k raised none) (sym is) (λ stop g now.
      let from = within stop g now in let was = agree stop from.0 from.1 in
      agree_table_raised n raised from.0 g (table_as from.0 g from.2) was.next none unmarked (subst (λ k. HasGeneration g 16 k) is (has stop g now)))

-- no marks
pub none_marked : (count d : ℕ) → is_flagged (replicate count false) d ≡ false
none_marked zero d = refl
none_marked (suc count) zero = refl
none_marked (suc count) (suc d) = none_marked count d

-- drives with the mark are current after each stop
pub stops_current : {F : Type 0} (may_leave : F → Stop → Folder → Type 0) (files : F) (n : ℕ) (current raised : List Bool) → AgreeAtStops may_leave files n current raised → AreCurrentAtStops may_leave files current
stops_current may_leave files n current raised agree stop g now d low mark =
    let is = agree stop g now in
    ⊎_elim (λ has. (n, has.1, inl has.0)) (λ up. ⊎_elim (λ t. (n, t, inr up)) (λ t. (suc n, t, inl up)) is.table) (is.drive d low mark)

-- what is found at first
pub agree_first : {F : Type 0} (may_leave : F → Stop → Folder → Type 0) (files : F) (n : ℕ) (current none : List Bool) → HaveGenerations may_leave files n current → ((stop : Stop) (g : Folder) → may_leave files stop g → HasGeneration g 16 n)
    → ((d : ℕ) → is_flagged none d ≡ false) → AgreeAtStops may_leave files n current none
agree_first may_leave files n current none kept table unmarked stop g now = record {
  table = inl (table stop g now);
  drive = λ d low mark. ⊎_elim (λ has. inl (has, table stop g now)) (λ up. inr up.1) (kept d low mark stop g now);
  next = λ d low mark. absurd (false≢true (sym (unmarked d) ∙ mark));
}

-- one drive more is found
pub kept_more : {F : Type 0} (may_leave : F → Stop → Folder → Type 0) (old new : F) (n d : ℕ) (marks : List Bool) (kept : Bool) → d < length marks → HaveGenerations may_leave old n marks → ((stop : Stop) → Within (may_leave new stop) (may_leave old stop))
    → (kept ≡ true → (stop : Stop) (g : Folder) → may_leave new stop g → IsCurrent g d n) → HaveGenerations may_leave new n (slice_set marks d kept)
kept_more may_leave old new n d marks kept low so_far within is e small = same_or (λ e. is_flagged (slice_set marks d kept) e ≡ true → (stop : Stop) (g : Folder) → may_leave new stop g → IsCurrent g e n) d e
    (λ mark. is (sym (ap is_some_true (get-set_same marks d kept low)) ∙ mark))
    (λ ne mark stop g now. so_far e small (sym (ap is_some_true (get-set_other marks d e kept ne)) ∙ mark) stop g (within stop g now))

-- a file that is the same has the same generation
pub generation_file : (d n : ℕ) (f g : Folder) → g d ≡ f d → HasGeneration f d n → HasGeneration g d n
generation_file d n f g same has = ap (λ (b : Bytes). part b (stamp_offset d) 8) same ∙ has

pub current_file : (d n : ℕ) (f g : Folder) → g d ≡ f d → IsCurrent f d n → IsCurrent g d n
current_file d n f g same is = ⊎_elim (λ has. inl (generation_file d n f g same has)) (λ up. inr (up.0, generation_file d (suc n) f g same up.1)) is
