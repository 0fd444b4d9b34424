-- Writes that were made in part, torn or twice: made again, they leave the units of the whole.
use Rattle.std.proofs.Common.{◌≡◌, ◌≤◌, ◌⊎◌, inl, inr, ⊎_elim, ℕ, zero, suc, ◌+◌, Bool, Option, Some, None, is_some, List, [], ◌∷◌, ◌++◌, refl, sym, ◌∙◌, ap, subst, arith, length, length-append, append_assoc, take}
use Rattle.std.specs.Prelude.{slice_get}
use Rattle.std.proofs.lemmas.Bool.{true≢false}
use Rattle.std.proofs.lemmas.Option.{none-some, same_Some}
use Rattle.std.proofs.lemmas.List.{length-take-le, take_all, take-append-le, append-nil}
use Rattle.extent_groups.specs.declared.place.Place.{Place}
use Rattle.extent_groups.specs.Cells.{Cells, held}
use Rattle.extent_groups.specs.Planned.{Intended, over, with_unit, after}
use Rattle.extent_groups.proofs.Finishing.{place_or_not, write_here, write_else}
use Rattle.vault.specs.Images.{Image, SameUnits, SameOn, Alike, Matches, recovered, flat, with_journal}
use Rattle.vault.specs.Moments.{Torn, Cleared, IsWrittenTo, DifferAt, IsTorn, IsFront, RepresentsSome, IsBeforeOrAfter, has_batch, with_or_without}

-- an optional unit that is replaced where there is one
over_same : (a b : Option (List ℕ)) (u : List ℕ) → is_some a ≡ is_some b → over a u ≡ over b u
over_same None None u e = refl
over_same None (Some b) u e = absurd (true≢false (sym e))
over_same (Some a) None u e = absurd (true≢false e)
over_same (Some a) (Some b) u e = refl

over_some : (a : Option (List ℕ)) (u : List ℕ) → is_some (over a u) ≡ is_some a
over_some None u = refl
over_some (Some a) u = refl

-- a write leaves where there are units, and more writes too
pub some_with : (c : Cells) (w : Intended) (x : Place) → is_some (held (with_unit c w) x) ≡ is_some (held c x)
some_with c w x = elim (place_or_not w.place x) [
  | inl e ↦ subst (λ y. is_some (held (with_unit c w) y) ≡ is_some (held c y)) e (ap (λ (o : Option (List ℕ)). is_some o) (write_here c w) ∙ over_some (held c w.place) w.unit)
  | inr ne ↦ ap (λ (o : Option (List ℕ)). is_some o) (write_else c w x ne)
]

pub some_after : (ws : List Intended) (c : Cells) (x : Place) → is_some (held (after c ws) x) ≡ is_some (held c x)
some_after [] c x = refl
some_after (w ∷ ws) c x = some_after ws (with_unit c w) x ∙ some_with c w x

-- a place of which one of the writes is
pub in_first : (fs bs : List Intended) (x : Place) → IsWrittenTo fs x → IsWrittenTo (fs ++ bs) x
in_first [] bs x written = absurd written
in_first (w ∷ fs) bs x written = ⊎_elim (λ e. inl e) (λ more. inr (in_first fs bs x more)) written

pub in_second : (fs bs : List Intended) (x : Place) → IsWrittenTo bs x → IsWrittenTo (fs ++ bs) x
in_second [] bs x written = written
in_second (w ∷ fs) bs x written = inr (in_second fs bs x written)

pub in_either : (fs bs : List Intended) (x : Place) → IsWrittenTo (fs ++ bs) x → IsWrittenTo fs x ⊎ IsWrittenTo bs x
in_either [] bs x written = inr written
in_either (w ∷ fs) bs x written = ⊎_elim (λ e. inl (inl e)) (λ more. ⊎_elim (λ a. inl (inr a)) (λ b. inr b) (in_either fs bs x more)) written

-- fewer of some batches write no other place
pub in_more : (low k : ℕ) (batches : List (List Intended)) (x : Place) → low ≤ k → IsWrittenTo (flat (take low batches)) x → IsWrittenTo (flat (take k batches)) x
in_more zero k batches x le written = absurd written
in_more (suc low) zero batches x le written = absurd (omega (arith, le))
in_more (suc low) (suc k) [] x le written = written
in_more (suc low) (suc k) (b ∷ batches) x le written = ⊎_elim (λ here. in_first b (flat (take k batches)) x here)
    (λ more. in_second b (flat (take k batches)) x (in_more low k batches x (omega (arith, le)) more)) (in_either b (flat (take low batches)) x written)

pub in_all : (low : ℕ) (batches : List (List Intended)) (x : Place) → IsWrittenTo (flat (take low batches)) x → IsWrittenTo (flat batches) x
in_all zero batches x written = absurd written
in_all (suc low) [] x written = written
in_all (suc low) (b ∷ batches) x written = ⊎_elim (λ here. in_first b (flat batches) x here) (λ more. in_second b (flat batches) x (in_all low batches x more)) (in_either b (flat (take low batches)) x written)

pub in_batch : (batches : List (List Intended)) (k : ℕ) (b : List Intended) (x : Place) → slice_get batches k ≡ Some b → IsWrittenTo b x → IsWrittenTo (flat batches) x
in_batch [] k b x at written = absurd (none-some b at)
in_batch (first ∷ batches) zero b x at written = in_first first (flat batches) x (subst (λ ws. IsWrittenTo ws x) (sym (same_Some first b at)) written)
in_batch (first ∷ batches) (suc k) b x at written = in_second first (flat batches) x (in_batch batches k b x at written)

pub in_list : (ws : List Intended) (k : ℕ) (w : Intended) → slice_get ws k ≡ Some w → IsWrittenTo ws w.place
in_list [] k w at = absurd (none-some w at)
in_list (first ∷ ws) zero w at = inl (ap (λ (v : Intended). v.place) (same_Some first w at))
in_list (first ∷ ws) (suc k) w at = inr (in_list ws k w at)

-- two units of a place that are the same unless one of the writes is for it are the same after the writes
pub torn_here : (ws : List Intended) (c d : Cells) (x : Place) → is_some (held c x) ≡ is_some (held d x) → ((IsWrittenTo ws x → ⊥) → held c x ≡ held d x) → held (after c ws) x ≡ held (after d ws) x
torn_here [] c d x there elsewhere = elsewhere (λ never. never)
torn_here (w ∷ ws) c d x there elsewhere = elim (place_or_not w.place x) [
  | inl e ↦
      let same : held (with_unit c w) x ≡ held (with_unit d w) x =
      subst (λ z. is_some (held c z) ≡ is_some (held d z) → held (with_unit c w) z ≡ held (with_unit d w) z) e
      (λ t. write_here c w ∙ over_same (held c w.place) (held d w.place) w.unit t ∙ sym (write_here d w)) there in
      torn_here ws (with_unit c w) (with_unit d w) x (ap (λ (o : Option (List ℕ)). is_some o) same) (λ never. same)
  | inr ne ↦ torn_here ws (with_unit c w) (with_unit d w) x (some_with c w x ∙ there ∙ sym (some_with d w x))
      (λ never. write_else c w x ne ∙ elsewhere (λ written. ⊎_elim ne never written) ∙ sym (write_else d w x ne))
]

pub same_here : (ws : List Intended) (c d : Cells) (x : Place) → held c x ≡ held d x → held (after c ws) x ≡ held (after d ws) x
same_here ws c d x same = torn_here ws c d x (ap (λ (o : Option (List ℕ)). is_some o) same) (λ never. same)

-- a place that none of the writes is for
pub else_here : (ws : List Intended) (c : Cells) (x : Place) → (IsWrittenTo ws x → ⊥) → held (after c ws) x ≡ held c x
else_here [] c x never = refl
else_here (w ∷ ws) c x never = else_here ws (with_unit c w) x (λ more. never (inr more)) ∙ write_else c w x (λ e. never (inl e))

-- writes that are made twice leave what they leave once
pub twice : (ws : List Intended) (c : Cells) (x : Place) → held (after (after c ws) ws) x ≡ held (after c ws) x
twice ws c x = torn_here ws (after c ws) c x (some_after ws c x) (λ never. else_here ws c x never)

-- a write before later ones, of which one is for its place
pub again : (w : Intended) (ws : List Intended) (c : Cells) (x : Place) → IsWrittenTo ws w.place → held (after c (w ∷ ws)) x ≡ held (after c ws) x
again w ws c x written = torn_here ws (with_unit c w) c x (some_with c w x) (λ never. write_else c w x (λ e. never (subst (IsWrittenTo ws) e written)))

-- a write for a place that no later one is for, made before them or after them
pub first_or_last : (w : Intended) (ws : List Intended) (c : Cells) (x : Place) → (IsWrittenTo ws w.place → ⊥) → held (after c (w ∷ ws)) x ≡ held (with_unit (after c ws) w) x
first_or_last w ws c x never = elim (place_or_not w.place x) [
  | inl e ↦ subst (λ y. held (after c (w ∷ ws)) y ≡ held (with_unit (after c ws) w) y) e
      (else_here ws (with_unit c w) w.place never ∙ write_here c w ∙ ap (λ o. over o w.unit) (sym (else_here ws c w.place never)) ∙ sym (write_here (after c ws) w))
  | inr ne ↦ same_here ws (with_unit c w) c x (write_else c w x ne) ∙ sym (write_else (after c ws) w x ne)
]

-- a write more at the end, and more of them
pub after_both : (first second : List Intended) (c : Cells) → after c (first ++ second) ≡ after (after c first) second
after_both [] second c = refl
after_both (w ∷ first) second c = after_both first second (with_unit c w)

pub flat_last : (batches : List (List Intended)) (writes : List Intended) → flat (batches ++ writes ∷ []) ≡ flat batches ++ writes
flat_last [] writes = append-nil writes
flat_last (first ∷ batches) writes = ap (λ ws. first ++ ws) (flat_last batches writes) ∙ sym (append_assoc first (flat batches) writes)

-- the units of after one batch more
pub after_last : (base : Image) (writes : List Intended) → after base.cells (flat (base.journal ++ writes ∷ [])) ≡ after (recovered base) writes
after_last base writes = ap (λ ws. after base.cells ws) (flat_last base.journal writes) ∙ after_both (flat base.journal) writes base.cells

-- the items before one, and that one
pub take_next : {A : Type 0} (xs : List A) (k : ℕ) (x : A) → slice_get xs k ≡ Some x → take (k + 1) xs ≡ take k xs ++ x ∷ []
take_next [] k x at = absurd (none-some x at)
take_next (first ∷ xs) zero x at = ap (λ y. y ∷ []) (same_Some first x at)
take_next (first ∷ xs) (suc k) x at = let n : suc k + 1 ≡ suc (k + 1) = omega arith in ap (λ m. take m (first ∷ xs)) n ∙ ap (λ ys. first ∷ ys) (take_next xs k x at)

-- units that differ at places of writes: of more writes, of fewer where they can't be, one after the other and back
module _ (lost : List Bool) where
  pub differ_not : (ws : List Intended) (c d : Cells) → SameOn lost d c → DifferAt lost ws c d
  differ_not ws c d same = record { there = λ x live. ap (λ (o : Option (List ℕ)). is_some o) (same x live); elsewhere = λ x live never. same x live }

  pub differ_more : (ws vs : List Intended) (c d : Cells) → ((x : Place) → IsWrittenTo ws x → IsWrittenTo vs x) → DifferAt lost ws c d → DifferAt lost vs c d
  differ_more ws vs c d to differ = record { there = differ.there; elsewhere = λ x live never. differ.elsewhere x live (λ written. never (to x written)) }

  pub differ_on : (ws : List Intended) (c d e : Cells) → DifferAt lost ws c d → DifferAt lost ws d e → DifferAt lost ws c e
  differ_on ws c d e first second = record {
    there = λ x live. second.there x live ∙ first.there x live;
    elsewhere = λ x live never. second.elsewhere x live never ∙ first.elsewhere x live never;
  }

  pub differ_back : (ws : List Intended) (c d : Cells) → DifferAt lost ws c d → DifferAt lost ws d c
  differ_back ws c d differ = record { there = λ x live. sym (differ.there x live); elsewhere = λ x live never. sym (differ.elsewhere x live never) }

  -- after the writes they are the same
  pub mended : (ws : List Intended) (c d : Cells) → DifferAt lost ws c d → SameOn lost (after d ws) (after c ws)
  mended ws c d differ x live = torn_here ws d c x (differ.there x live) (λ never. differ.elsewhere x live never)

  -- a torn write for one of the places
  pub torn_more : (base j i : Image) (place : Place) → IsTorn lost base j → IsWrittenTo (flat base.journal) place → Torn place j i → IsTorn lost base i
  torn_more base j i place so_far written torn = record {
    cells = record {
      there = λ x live. torn.there x ∙ so_far.cells.there x live;
      elsewhere = λ x live never. torn.elsewhere x (λ e. never (subst (IsWrittenTo (flat base.journal)) (sym e) written)) ∙ so_far.cells.elsewhere x live never;
    };
    journal = torn.journal ∙ so_far.journal;
  }

  pub torn_on : (base mid i : Image) → IsTorn lost base mid → IsTorn lost mid i → IsTorn lost base i
  torn_on base mid i first second = record {
    cells = differ_on (flat base.journal) base.cells mid.cells i.cells first.cells (subst (λ b. DifferAt lost (flat b) mid.cells i.cells) first.journal second.cells);
    journal = second.journal ∙ first.journal;
  }

  pub torn_back : (base mid : Image) → IsTorn lost base mid → IsTorn lost mid base
  torn_back base mid torn = record {
    cells = subst (λ b. DifferAt lost (flat b) mid.cells base.cells) (sym torn.journal) (differ_back (flat base.journal) base.cells mid.cells torn.cells);
    journal = sym torn.journal;
  }

  pub torn_not : (base : Image) → IsTorn lost base base
  torn_not base = record { cells = differ_not (flat base.journal) base.cells base.cells (λ x live. refl); journal = refl }

  -- an image that is torn within its journal's writes stands for the units of after them
  pub torn_matches : (base i : Image) → IsTorn lost base i → Matches lost (recovered base) i
  torn_matches base i torn = subst (λ b. SameOn lost (after i.cells (flat b)) (recovered base)) (sym torn.journal) (mended (flat base.journal) base.cells i.cells torn.cells)

  -- the whole journal fs its first batches, and back
  pub torn_front : (base i : Image) → IsTorn lost base i → IsFront lost base (length base.journal) i
  torn_front base i torn = record {
    cells = subst (λ b. DifferAt lost (flat b) base.cells i.cells) (sym all) torn.cells;
    count = length base.journal;
    least = omega arith;
    most = omega arith;
    journal = torn.journal ∙ sym all;
  }
    where
      all : take (length base.journal) base.journal ≡ base.journal
      all = take_all (length base.journal) base.journal (omega arith)

  pub front_torn : (base i : Image) → IsFront lost base (length base.journal) i → IsTorn lost base i
  front_torn base i front = record {
    cells = subst (λ b. DifferAt lost (flat b) base.cells i.cells) (take_all (length base.journal) base.journal (omega arith)) front.cells;
    journal = let least = front.least in let most = front.most in front.journal ∙ take_all front.count base.journal (omega (arith, least, most));
  }

  -- the first batches of a journal stand for the units of after them
  pub front_matches : (base i : Image) (low : ℕ) → IsFront lost base low i → RepresentsSome lost base.cells low base.journal i
  front_matches base i low front = record {
    count = front.count;
    least = front.least;
    most = front.most;
    matches = subst (λ b. SameOn lost (after i.cells (flat b)) (after base.cells (flat (take front.count base.journal)))) (sym front.journal)
        (mended (flat (take front.count base.journal)) base.cells i.cells
        (differ_more (flat (take low base.journal)) (flat (take front.count base.journal)) base.cells i.cells (λ x written. in_more low front.count base.journal x front.least written) front.cells));
  }

  -- a batch more: what the first batches were, or all with it
  pub front_more : (base i : Image) (writes : List Intended) (low : ℕ) → low ≤ length base.journal → IsFront lost base low i → IsFront lost (with_journal base (base.journal ++ writes ∷ [])) low i
  front_more base i writes low flushed front = record {
    cells = subst (λ b. DifferAt lost (flat b) base.cells i.cells) (sym (take-append-le low base.journal (writes ∷ []) flushed)) front.cells;
    count = front.count;
    least = front.least;
    most = let most = front.most in omega (arith, most, length-append base.journal (writes ∷ []));
    journal = front.journal ∙ sym (take-append-le front.count base.journal (writes ∷ []) front.most);
  }

  pub front_added : (base j i : Image) (writes : List Intended) (low : ℕ) → low ≤ length base.journal → IsFront lost base low j → SameUnits i.cells j.cells → i.journal ≡ base.journal ++ writes ∷ []
      → (most : ℕ) → low ≤ most → most ≤ length (base.journal ++ writes ∷ []) → IsFront lost (with_journal base (base.journal ++ writes ∷ [])) most i
  front_added base j i writes low flushed front cells journal most reach within = record {
    cells = differ_more (flat (take low base.journal)) (flat (take most (base.journal ++ writes ∷ []))) base.cells i.cells
        (λ x written. in_more low most (base.journal ++ writes ∷ []) x reach (subst (λ b. IsWrittenTo (flat b) x) (sym (take-append-le low base.journal (writes ∷ []) flushed)) written))
        (record { there = λ x live. ap (λ (o : Option (List ℕ)). is_some o) (cells x) ∙ front.cells.there x live; elsewhere = λ x live never. cells x ∙ front.cells.elsewhere x live never });
    count = length (base.journal ++ writes ∷ []);
    least = within;
    most = omega arith;
    journal = journal ∙ sym (take_all (length (base.journal ++ writes ∷ [])) (base.journal ++ writes ∷ []) (omega arith));
  }

  pub appended : (base i : Image) (writes : List Intended) (low : ℕ) (old : Image → Type 0) → low ≤ length base.journal → ((j : Image) → old j → IsFront lost base low j)
      → with_or_without base writes old i → IsFront lost (with_journal base (base.journal ++ writes ∷ [])) low i
  appended base i writes low old flushed fronts now = elim now [
    | inl was ↦ front_more base i writes low flushed (fronts i was)
    | inr put ↦ front_added base put.0 i writes low flushed (fronts put.0 put.1) put.2 put.3 low (omega arith) (omega (arith, flushed, length-append base.journal (writes ∷ [])))
  ]

  pub appended_whole : (base i : Image) (writes : List Intended) (old : Image → Type 0) → ((j : Image) → old j → IsFront lost base (length base.journal) j)
      → has_batch base writes old i → IsFront lost (with_journal base (base.journal ++ writes ∷ [])) (length (base.journal ++ writes ∷ [])) i
  appended_whole base i writes old fronts put =
      front_added base put.0 i writes (length base.journal) (omega arith) (fronts put.0 put.1) put.2 put.3 (length (base.journal ++ writes ∷ [])) (omega (arith, length-append base.journal (writes ∷ []))) (omega arith)

  -- the same of an image like the base
  pub front_alike : (base other i : Image) (low : ℕ) → Alike other base → IsFront lost base low i → IsFront lost other low i
  front_alike base other i low alike front = record {
    cells = subst (λ b. DifferAt lost (flat (take low b)) other.cells i.cells) (sym alike.journal)
        (record {
          there = λ x live. front.cells.there x live ∙ ap (λ (o : Option (List ℕ)). is_some o) (sym (alike.cells x));
          elsewhere = λ x live never. front.cells.elsewhere x live never ∙ sym (alike.cells x);
        });
    count = front.count;
    least = front.least;
    most = let most = front.most in omega (arith, most, ap length alike.journal);
    journal = front.journal ∙ ap (λ (b : List (List Intended)). take front.count b) (sym alike.journal);
  }

  -- a journal that a sync made durable
  pub front_synced : (base i : Image) (low : ℕ) → low ≤ length base.journal → IsFront lost base low i → i.journal ≡ base.journal → IsFront lost base (length base.journal) i
  front_synced base i low flushed front journal = torn_front base i (record {
    cells = differ_more (flat (take low base.journal)) (flat base.journal) base.cells i.cells (λ x written. in_all low base.journal x written) front.cells;
    journal = journal;
  })

  -- more of the first batches
  pub front_longer : (base j i : Image) (low : ℕ) → IsFront lost base low j → SameUnits i.cells j.cells
      → ((i.journal ≡ j.journal) ⊎ ((count : ℕ) × (length j.journal ≤ count) × (count ≤ length base.journal) × (i.journal ≡ take count base.journal))) → IsFront lost base low i
  front_longer base j i low front cells which = elim which [
    | inl same ↦ record { cells = moved; count = front.count; least = front.least; most = front.most; journal = same ∙ front.journal }
    | inr (count, more, most, journal) ↦ record {
      cells = moved;
      count = count;
      least = let least = front.least in let within = front.most in omega (arith, least, more, ap length front.journal, length-take-le front.count base.journal within);
      most = most;
      journal = journal;
    }
  ]
    where
      moved : DifferAt lost (flat (take low base.journal)) base.cells i.cells
      moved = record { there = λ x live. ap (λ (o : Option (List ℕ)). is_some o) (cells x) ∙ front.cells.there x live; elsewhere = λ x live never. cells x ∙ front.cells.elsewhere x live never }

  -- the journal is emptied over the units of after its writes: they stay
  pub cleared_matches : (base j i : Image) → SameOn lost j.cells (recovered base) → j.journal ≡ base.journal → Cleared j i → Matches lost (recovered base) i
  cleared_matches base j i cells journal step = elim step.journal [
    | inl same ↦ subst (λ b. SameOn lost (after i.cells (flat b)) (recovered base)) (sym (same ∙ journal))
        (λ x live. same_here (flat base.journal) i.cells (recovered base) x (here x live) ∙ twice (flat base.journal) base.cells x)
    | inr none ↦ subst (λ b. SameOn lost (after i.cells (flat b)) (recovered base)) (sym none) here
  ]
    where
      here : SameOn lost i.cells (recovered base)
      here x live = step.cells x ∙ cells x live

  -- an empty journal and the same units
  pub front_empty : (base i : Image) → base.journal ≡ [] → i.journal ≡ [] → SameOn lost i.cells base.cells → IsFront lost base (length base.journal) i
  front_empty base i empty none cells = torn_front base i (record { cells = differ_not (flat base.journal) base.cells i.cells cells; journal = none ∙ sym empty })

  -- where all but the last batch are durable, an image stands for the units of before it or of after it
  pub some_either : (base i : Image) (writes : List Intended) → RepresentsSome lost base.cells (length base.journal) (base.journal ++ writes ∷ []) i → IsBeforeOrAfter lost (recovered base) writes i
  some_either base i writes some = elim (one_of some.count (length base.journal) some.least (let most = some.most in omega (arith, most, length-append base.journal (writes ∷ [])))) [
    | inl all ↦ inl (subst (λ b. Matches lost (after base.cells (flat b)) i) (ap (λ n. take n (base.journal ++ writes ∷ [])) all ∙ take-append-le (length base.journal) base.journal (writes ∷ []) (omega arith) ∙ take_all (length base.journal) base.journal (omega arith)) some.matches)
    | inr more ↦ inr (subst (λ c. Matches lost c i) (after_last base writes) (subst (λ b. Matches lost (after base.cells (flat b)) i) (take_all some.count (base.journal ++ writes ∷ []) (omega (arith, more, length-append base.journal (writes ∷ [])))) some.matches))
  ]
    where
      one_of : (k n : ℕ) → n ≤ k → k ≤ n + 1 → (k ≡ n) ⊎ (k ≡ n + 1)
      one_of zero zero low high = inl refl
      one_of zero (suc n) low high = absurd (omega (arith, low))
      one_of (suc zero) zero low high = inr refl
      one_of (suc (suc k)) zero low high = absurd (omega (arith, high))
      one_of (suc k) (suc n) low high = elim (one_of k n (omega (arith, low)) (omega (arith, high))) [ inl e ↦ inl (ap (λ m. suc m) e) | inr e ↦ inr (omega (arith, e)) ]

  -- units and journal with the batch stand for the units of after it
  pub kept_matches : (base new : Image) (writes : List Intended) → SameUnits new.cells base.cells → new.journal ≡ base.journal ++ writes ∷ [] → Matches lost (after (recovered base) writes) new
  kept_matches base new writes cells journal =
      subst (λ c. Matches lost c new) (after_last base writes) (subst (λ b. SameOn lost (after new.cells (flat b)) (after base.cells (flat (base.journal ++ writes ∷ [])))) (sym journal)
      (λ x live. same_here (flat (base.journal ++ writes ∷ [])) new.cells base.cells x (cells x)))

  -- the same said of them or of the base
  pub mid_matches : (base mid i : Image) (writes : List Intended) → SameUnits mid.cells base.cells → mid.journal ≡ base.journal ++ writes ∷ [] → RepresentsSome lost mid.cells (length base.journal) mid.journal i
      → RepresentsSome lost base.cells (length base.journal) (base.journal ++ writes ∷ []) i
  mid_matches base mid i writes cells journal some = record {
    count = some.count;
    least = some.least;
    most = subst (λ (b : List (List Intended)). some.count ≤ length b) journal some.most;
    matches = λ x live. subst (λ b. Matches lost (after mid.cells (flat (take some.count b))) i) journal some.matches x live
        ∙ same_here (flat (take some.count (base.journal ++ writes ∷ []))) mid.cells base.cells x (cells x);
  }
