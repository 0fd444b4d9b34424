-- A journal that is ended at a place, and one whose file is durable as a whole.
use Rattle.std.proofs.Common.{◌≡◌, ◌≤◌, ◌<◌, ◌⊎◌, inl, inr, ⊎_elim, ℕ, ◌+◌, ◌^◌, false, List, [], ◌∷◌, ◌++◌, refl, sym, ◌∙◌, ap, subst, arith, length}
use Rattle.std.proofs.lemmas.List.{append-nil}
use Rattle.extent_groups.specs.Planned.{Intended}
use Rattle.vault.specs.declared.store.Stop.{Stop}
use Rattle.vault.specs.declared.store.Stop.TheVariants.{Killed, PowerLost}
use Rattle.vault.specs.Moments.{Within}
use Rattle.file_vault.specs.Folders.{Bytes, Folder, Mixed, CutShort, mixed_at, cut_at, HasFile}
use Rattle.file_vault.specs.Records.{is_whole}
use Rattle.file_vault.specs.Journals.{batches_from, AreAt, most, journal_of, IsSound, IsEnded, MayEnd, ended_at}
use Rattle.file_vault.specs.Recoveries.{IsFound, HasFoundBatches, leaves_read}
use Rattle.file_vault.proofs.Chains.{as_many, few_places, place_within, are_same}
use Rattle.file_vault.proofs.Torn.{zero_torn, none_read, read_split}
use Rattle.file_vault.proofs.Puts.{below_or}

-- a byte of 0 is written at the place
pub end_wrote : (at : ℕ) (f g : Folder) → Mixed 17 at (0 ∷ []) f g → MayEnd at f g
end_wrote at f g mixed = record {
  others = mixed.others;
  before = λ k low. mixed.outside k (inl low);
  either = elim (mixed.inside 0 (omega arith)) [
    | inl same ↦ inl (λ i k. (all k same) i)
    | inr made ↦ inr (ap (g 17) (omega arith) ∙ made)
  ];
}
  where
    all : (k : ℕ) → g 17 (at + 0) ≡ f 17 (at + 0) → g 17 k ≡ f 17 k
    all k same = elim (below_or k at) [
      | inl low ↦ mixed.outside k (inl low)
      | inr rest ↦ elim rest [
        | inl e ↦ ap (g 17) (omega (arith, e)) ∙ same ∙ ap (f 17) (omega (arith, e))
        | inr (j, e) ↦ mixed.outside k (inr (omega (arith, e)))
      ]
    ]

-- then the file is cut there
pub end_cut : (at : ℕ) (f g h : Folder) → MayEnd at f g → g 17 at ≡ 0 → CutShort 17 at g h → MayEnd at f h
end_cut at f g h wrote none cut = record {
  others = λ d ne. cut.others d ne ∙ wrote.others d ne;
  before = λ k low. cut.before k low ∙ wrote.before k low;
  either = inr (elim (cut.either at (omega arith)) [ inl same ↦ same ∙ none | inr is ↦ is ]);
}

pub end_first : (at : ℕ) (outcomes : Folder → Type 0) → Within (mixed_at 17 at (0 ∷ []) outcomes) (ended_at at outcomes)
end_first at outcomes g (f, was, mixed) = (f, was, end_wrote at f g mixed)

pub end_second : (at : ℕ) (s : Folder) (outcomes mid : Folder → Type 0) → Within mid (ended_at at outcomes) → HasFile 17 s mid → s 17 at ≡ 0 → Within (cut_at 17 at mid) (ended_at at outcomes)
end_second at s outcomes mid within synced none h (g, now, cut) =
    let from = within g now in (from.0, from.1, end_cut at from.0 g h from.2 (ap (λ (b : Bytes). b at) (synced g now) ∙ none) cut)

-- the journal of a file with a 0 where it begins
pub empty_read : (g : Folder) → g 17 4096 ≡ 0 → journal_of g ≡ []
empty_read g none = none_read most (g 17) 4096 (zero_torn (g 17) 4096 none)

pub same_journal : (f g : Folder) → g 17 ≡ f 17 → journal_of g ≡ journal_of f
same_journal f g same = ap (λ (b : Bytes). batches_from most b 4096) same

-- it is emptied
pub cleared_journal : (f g : Folder) → MayEnd 4096 f g → (journal_of g ≡ journal_of f) ⊎ (journal_of g ≡ [])
cleared_journal f g may = ⊎_elim (λ same. inl (same_journal f g same)) (λ none. inr (empty_read g none)) may.either

-- what is found is read, and nothing else once the next record isn't whole
module _ (f : Bytes) (places : List ℕ) (batches : List (List Intended)) (end : ℕ) (found : IsFound f places batches end) where
  pub found_read : (g : Folder) → ((k : ℕ) → 4096 ≤ k → k < end → g 17 k ≡ f k) → is_whole (g 17) end ≡ false → journal_of g ≡ batches
  found_read g same torn =
      let inside : end ≤ 2 ^ 62 = (let low = found.inside in omega (arith, low)) in
      elim (read_split most f (g 17) 4096 places batches end (length places) found.lie (omega arith)
      (λ k low high. same k low (let last = (place_within f 4096 (length places) places batches end found.lie (omega arith)).1 in omega (arith, high, last))) (λ k low high. inl (same k low high))
      (let few = few_places f places batches end found.lie inside in omega (arith, few))) [
        | inl stops ↦ absurd (let many = as_many f 4096 places batches end found.lie in omega (arith, stops.least, stops.most, many))
        | inr goes ↦ goes.read (g 17) (λ k low high. refl) ∙ ap (λ l. batches ++ l) (none_read goes.rest (g 17) end torn) ∙ append-nil batches
      ]

  -- a stop while the file is ended there leaves it so
  pub found_ended : (h g : Folder) → h 17 ≡ f → MayEnd end h g → journal_of g ≡ journal_of h
  found_ended h g is may =
      let here = found_read h (λ k low high. ap (λ (b : Bytes). b k) is) (ap (λ (b : Bytes). is_whole b end) is ∙ found.last) in
      elim may.either [
        | inl same ↦ same_journal h g same
        | inr none ↦ found_read g (λ k low high. may.before k high ∙ ap (λ (b : Bytes). b k) is) (zero_torn (g 17) end none) ∙ sym here
      ]

-- what is found are the batches of the journal, also once the files were read
pub found_all : (f g : Folder) → g ≡ f → (places : List ℕ) (end : ℕ) → HasFoundBatches (f 17) places end → IsFound (g 17) places (journal_of f) end
found_all f g same places end (batches, found) =
    subst (λ (h : Folder). IsFound (h 17) places (journal_of f) end) (sym same)
    (subst (λ bs. IsFound (f 17) places bs end) (sym (found_read (f 17) places batches end found f (λ k low high. refl) found.last)) found)

-- a journal that lies in a file which each stop leaves as calls find it
pub settled_sound : {F : Type 0} (seen : F → Folder) (may_leave : F → Stop → Folder → Type 0) (new : F) (places : List ℕ) (batches : List (List Intended)) (end : ℕ) → AreAt (seen new 17) 4096 places batches end → end ≤ 2 ^ 62
    → ((k : ℕ) → end ≤ k → seen new 17 k ≡ 0) → ((stop : Stop) → HasFile 17 (seen new) (may_leave new stop)) → IsSound seen may_leave new places batches end (length places)
settled_sound seen may_leave new places batches end lie inside zeros synced = record {
  lie = lie;
  inside = inside;
  some = omega arith;
  zeros = zeros;
  killed = λ g now k low. ap (λ (b : Bytes). b k) (synced Killed g now);
  power = λ g now. record {
    same = λ k low high. ap (λ (b : Bytes). b k) (synced PowerLost g now);
    rest = λ k low. inl (ap (λ (b : Bytes). b k) (synced PowerLost g now));
  };
}

-- a sync makes a sound journal durable
pub flushed_sound : {F : Type 0} (seen : F → Folder) (may_leave : F → Stop → Folder → Type 0) (old new : F) (places : List ℕ) (batches : List (List Intended)) (end durable : ℕ) → IsSound seen may_leave old places batches end durable → seen new 17 ≡ seen old 17
    → ((stop : Stop) → HasFile 17 (seen old) (may_leave new stop)) → IsSound seen may_leave new places batches end (length places)
flushed_sound seen may_leave old new places batches end durable sound same synced =
    settled_sound seen may_leave new places batches end (subst (λ (b : Bytes). AreAt b 4096 places batches end) (sym same) sound.lie) sound.inside (λ k past. ap (λ (b : Bytes). b k) same ∙ sound.zeros k past)
    (λ stop g now. synced stop g now ∙ sym same)

-- a journal without records
pub empty_sound : {F : Type 0} (seen : F → Folder) (may_leave : F → Stop → Folder → Type 0) (old new : F) → IsEnded 4096 (seen old 17) (seen new 17) → ((stop : Stop) → HasFile 17 (seen new) (may_leave new stop)) → IsSound seen may_leave new [] [] 4096 0
empty_sound seen may_leave old new ended synced = settled_sound seen may_leave new [] [] 4096 refl (omega arith) ended.zeros synced

-- what is found, once the journal is ended after it
pub found_sound : {F : Type 0} (seen : F → Folder) (may_leave : F → Stop → Folder → Type 0) (new : F) (f : Bytes) (places : List ℕ) (batches : List (List Intended)) (end : ℕ) → IsFound f places batches end → IsEnded end f (seen new 17)
    → ((stop : Stop) → HasFile 17 (seen new) (may_leave new stop)) → IsSound seen may_leave new places batches end (length places)
found_sound seen may_leave new f places batches end found ended synced =
    settled_sound seen may_leave new places batches end (are_same f (seen new 17) 4096 places batches end found.lie (λ k low high. ended.before k high)) (let inside = found.inside in omega (arith, inside)) ended.zeros synced

-- a stop while the journal is ended after what was found, and is durable, leaves it as it was read
pub adopt_ended : (f : Bytes) (places : List ℕ) (batches : List (List Intended)) (end : ℕ) → IsFound f places batches end → (first mid : Folder → Type 0) → Within mid first → ((h : Folder) → mid h → h 17 ≡ f) → Within (ended_at end mid) (leaves_read first)
adopt_ended f places batches end found first mid within synced g (h, now, may) = (h, within h now, may.others, found_ended f places batches end found h g (synced h now) may)
