-- Calls that are made of both files of a journal, and of which either may fail.
use Rattle.std.proofs.Common.{◌≡◌, ◌≢◌, ◌≤◌, ◌<◌, inl, inr, ⊎_elim, ℕ, ◌+◌, Bool, true, false, List, Result, Ok, Err, refl, sym, ◌∙◌, ap, subst, arith, length}
use Rattle.std.specs.Prelude.{OnOk, is_ok}
use Rattle.std.proofs.lemmas.Bool.{false≢true}
use Rattle.vault.specs.declared.store.Stop.{Stop}
use Rattle.vault.specs.Moments.{Elapses, Within}
use Rattle.file_vault.specs.Folders.{Bytes, Folder, Reads, Wrote, Mixed, mixed_at, wrote_at}
use Rattle.file_vault.specs.declared.twin.Twin.{Twin}
use Rattle.file_vault.specs.declared.twin.Twin.TheVariants.{First, Second}
use Rattle.file_vault.specs.declared.held.Held.{Held}
use Rattle.file_vault.specs.declared.held.Held.TheVariants.{Both, Only, Neither}
use Rattle.file_vault.specs.Twins.{file_of, count_in, Counts, after_first_block, seen_as, MergesTwins, shown, lead_of, AreAlike, IsHeld, IsAvailable, HasSucceeded, SameBoth}
use Rattle.file_vault.proofs.Puts.{below_or, inside_or, both_elapse}
use Rattle.file_vault.proofs.Replayed.{whole_mixed, none_mixed}
use Rattle.file_vault.proofs.Shown.{both_still, after_header_at, following_eq, count_same, with_other, which_file, WroteFollowing, MixedFollowing, shown_wrote, shown_mixed}

pub ok_then : {T E : Type 0} (r : Result T E) (P : Type 0) → OnOk r P → is_ok r ≡ true → P
ok_then (Ok x) P ok is = ok
ok_then (Err e) P ok is = absurd (false≢true is)

-- of a file that counts the call succeeded
module _ {F : Type 0} (seen : F → Folder) (may_leave : F → Stop → Folder → Type 0) (files : F) (first second : Bool) (stop : Stop) (g : Folder) (now : may_leave files stop g) where
  pub first_done : (held : Held) → HasSucceeded first second held → IsAvailable held → IsHeld seen may_leave files held → Counts g First → first ≡ true
  first_done (Both count) done kept is counts = done.0
  first_done (Only First count) done kept is counts = done
  first_done (Only Second count) done kept is counts = absurd (let ahead = is stop g now in omega (arith, counts, ahead.0, ahead.1))
  first_done Neither done kept is counts = absurd kept

  pub second_done : (held : Held) → HasSucceeded first second held → IsAvailable held → IsHeld seen may_leave files held → Counts g Second → second ≡ true
  second_done (Both count) done kept is counts = done.1
  second_done (Only First count) done kept is counts = absurd (let ahead = is stop g now in omega (arith, counts, ahead.0, ahead.1))
  second_done (Only Second count) done kept is counts = done
  second_done Neither done kept is counts = absurd kept

-- of the one that is read it succeeded
pub lead_done : (first second : Bool) (held : Held) (P : Twin → Type 0) → HasSucceeded first second held → IsAvailable held → (first ≡ true → P First) → (second ≡ true → P Second) → P (lead_of held)
lead_done first second (Both count) P done kept one two = one done.0
lead_done first second (Only First count) P done kept one two = one done
lead_done first second (Only Second count) P done kept one two = two done
lead_done first second Neither P done kept one two = absurd kept

pub lead_either : (held : Held) (P : Twin → Type 0) → P First → P Second → P (lead_of held)
lead_either (Both count) P one two = one
lead_either (Only First count) P one two = one
lead_either (Only Second count) P one two = two
lead_either Neither P one two = one

-- bytes that were read after the first block
pub reads_following : (b c : Bytes) (at : ℕ) (bytes : List ℕ) → 4096 ≤ at → ((k : ℕ) → 4096 ≤ k → b k ≡ c k) → Reads b at bytes → Reads (after_first_block c) at bytes
reads_following b c at bytes past same reads j low = reads j low ∙ same (at + j) (omega (arith, past)) ∙ sym (after_header_at c (at + j) (omega (arith, past)))

-- a write after the first block keeps the counts
pub mixed_low : (file at : ℕ) (bytes : List ℕ) (f g : Folder) (d k : ℕ) → Mixed file at bytes f g → k < at → g d k ≡ f d k
mixed_low file at bytes f g d k mixed low = elim (below_or d file) [
  | inl under ↦ ap (λ (b : Bytes). b k) (mixed.others d (λ e. omega (arith, e, under)))
  | inr rest ↦ elim rest [
    | inl e ↦ subst (λ n. g n k ≡ f n k) (sym e) (mixed.outside k (inl low))
    | inr (j, e) ↦ ap (λ (b : Bytes). b k) (mixed.others d (λ is. omega (arith, e, is)))
  ]
]

pub mixed_count : (file at : ℕ) (bytes : List ℕ) (f g : Folder) (d : ℕ) → 4096 ≤ at → Mixed file at bytes f g → count_in (g d) ≡ count_in (f d)
mixed_count file at bytes f g d past mixed = count_same (f d) (g d) (λ k low. mixed_low file at bytes f g d k mixed (omega (arith, low, past)))

-- both files are written, one after the other; then first blocks may change
module _ (at : ℕ) (bytes : List ℕ) (past : 4096 ≤ at) (f e g s : Folder) (m1 : Mixed 17 at bytes f e) (m2 : Mixed 18 at bytes e g) (same : SameBoth g s) where
  here : e 17 ≡ g 17
  here = sym (m2.others 17 (λ is. omega (arith, is)))

  there : e 18 ≡ f 18
  there = m1.others 18 (λ is. omega (arith, is))

  pub first_mixed : MixedFollowing at bytes (f 17) (s 17)
  first_mixed = record {
    inside = λ j low.
        let to : s 17 (at + j) ≡ e 17 (at + j) = same.first (at + j) (omega (arith, past)) ∙ ap (λ (b : Bytes). b (at + j)) (sym here) in
        ⊎_elim (λ was. inl (to ∙ was)) (λ made. inr (to ∙ made)) (m1.inside j low);
    outside = λ k out more. same.first k more ∙ ap (λ (b : Bytes). b k) (sym here) ∙ m1.outside k out;
  }

  pub second_mixed : MixedFollowing at bytes (f 18) (s 18)
  second_mixed = record {
    inside = λ j low.
        let to : s 18 (at + j) ≡ g 18 (at + j) = same.second (at + j) (omega (arith, past)) in
        ⊎_elim (λ was. inl (to ∙ was ∙ ap (λ (b : Bytes). b (at + j)) there)) (λ made. inr (to ∙ made)) (m2.inside j low);
    outside = λ k out more. same.second k more ∙ m2.outside k out ∙ ap (λ (b : Bytes). b k) there;
  }

  pub first_wrote : Wrote 17 at bytes f e → WroteFollowing at bytes (f 17) (s 17)
  first_wrote wrote = record {
    inside = λ j low. same.first (at + j) (omega (arith, past)) ∙ ap (λ (b : Bytes). b (at + j)) (sym here) ∙ wrote.inside j low;
    outside = first_mixed.outside;
  }

  pub second_wrote : Wrote 18 at bytes e g → WroteFollowing at bytes (f 18) (s 18)
  second_wrote wrote = record {
    inside = λ j low. same.second (at + j) (omega (arith, past)) ∙ wrote.inside j low;
    outside = second_mixed.outside;
  }

  pub others_same : (d : ℕ) → d ≢ 17 → d ≢ 18 → s d ≡ f d
  others_same d n17 n18 = same.others d n17 n18 ∙ m2.others d n18 ∙ m1.others d n17

  pub count_17 : count_in (g 17) ≡ count_in (f 17)
  count_17 = mixed_count 18 at bytes e g 17 past m2 ∙ mixed_count 17 at bytes f e 17 past m1

  pub count_18 : count_in (g 18) ≡ count_in (f 18)
  count_18 = mixed_count 18 at bytes e g 18 past m2 ∙ mixed_count 17 at bytes f e 18 past m1

  pub counts_first : Counts g First → Counts f First
  counts_first counts = omega (arith, counts, count_17, count_18)

  pub counts_second : Counts g Second → Counts f Second
  counts_second counts = omega (arith, counts, count_17, count_18)

  pub alike_both : AreAlike f → Wrote 17 at bytes f e → Wrote 18 at bytes e g → AreAlike g
  alike_both alike w1 w2 k more = elim (inside_or k at (length bytes)) [
    | inl out ↦ ap (λ (b : Bytes). b k) (sym here) ∙ w1.outside k out ∙ alike k more ∙ sym (ap (λ (b : Bytes). b k) there) ∙ sym (w2.outside k out)
    | inr (j, low, is) ↦ ap (g 17) is ∙ ap (λ (b : Bytes). b (at + j)) (sym here) ∙ w1.inside j low ∙ sym (w2.inside j low) ∙ sym (ap (g 18) is)
  ]

-- what calls find after a write
pub seen_others : (twin : Twin) (f s : Folder) → ((d : ℕ) → d ≢ 17 → d ≢ 18 → s d ≡ f d) → (d : ℕ) → d ≢ 17 → seen_as twin s d ≡ seen_as First f d
seen_others twin f s others d n17 = elim (which_file d) [
  | inl e ↦ absurd (n17 e)
  | inr rest ↦ elim rest [
    | inl e ↦ ap (seen_as twin s) e ∙ sym (ap (seen_as First f) e)
    | inr (m17, n18) ↦ with_other _ s d n17 n18 ∙ others d n17 n18 ∙ sym (with_other _ f d n17 n18)
  ]
]

pub seen_wrote : (at : ℕ) (bytes : List ℕ) (twin : Twin) (f s : Folder) → 4096 ≤ at → ((d : ℕ) → d ≢ 17 → d ≢ 18 → s d ≡ f d) → WroteFollowing at bytes (f 17) (s (file_of twin)) → Wrote 17 at bytes (seen_as First f) (seen_as twin s)
seen_wrote at bytes twin f s past others wrote = record {
  inside = λ j low. after_header_at (s (file_of twin)) (at + j) (omega (arith, past)) ∙ wrote.inside j low;
  outside = λ k out. following_eq (f 17) (s (file_of twin)) k (λ more. wrote.outside k out more);
  others = seen_others twin f s others;
}

pub seen_mixed : (at : ℕ) (bytes : List ℕ) (twin : Twin) (f s : Folder) → 4096 ≤ at → ((d : ℕ) → d ≢ 17 → d ≢ 18 → s d ≡ f d) → MixedFollowing at bytes (f 17) (s (file_of twin)) → Mixed 17 at bytes (seen_as First f) (seen_as twin s)
seen_mixed at bytes twin f s past others mixed = record {
  inside = λ j low. ⊎_elim (λ was. inl (following_eq (f 17) (s (file_of twin)) (at + j) (λ more. was))) (λ made. inr (after_header_at (s (file_of twin)) (at + j) (omega (arith, past)) ∙ made)) (mixed.inside j low);
  outside = λ k out. following_eq (f 17) (s (file_of twin)) k (λ more. mixed.outside k out more);
  others = seen_others twin f s others;
}

-- the same, from a file that was the same
pub wrote_from : (at : ℕ) (bytes : List ℕ) (b c d : Bytes) → ((k : ℕ) → 4096 ≤ k → b k ≡ c k) → WroteFollowing at bytes c d → WroteFollowing at bytes b d
wrote_from at bytes b c d same wrote = record { inside = wrote.inside; outside = λ k out more. wrote.outside k out more ∙ sym (same k more) }

pub mixed_from : (at : ℕ) (bytes : List ℕ) (b c d : Bytes) → 4096 ≤ at → ((k : ℕ) → 4096 ≤ k → b k ≡ c k) → MixedFollowing at bytes c d → MixedFollowing at bytes b d
mixed_from at bytes b c d past same mixed = record {
  inside = λ j low. ⊎_elim (λ was. inl (was ∙ sym (same (at + j) (omega (arith, past))))) (λ made. inr made) (mixed.inside j low);
  outside = λ k out more. mixed.outside k out more ∙ sym (same k more);
}

-- what stops leave of both writes
abbrev pub pair_mixed : ℕ → List ℕ → (Folder → Type 0) → Folder → Type 0
pair_mixed at bytes outcomes g = (f : Folder) × outcomes f × ((e : Folder) × Mixed 17 at bytes f e × Mixed 18 at bytes e g)

pub pair_shown : (at : ℕ) (bytes : List ℕ) (outcomes : Folder → Type 0) → 4096 ≤ at → Within (λ h. shown (pair_mixed at bytes outcomes) h) (mixed_at 17 at bytes (λ h. shown outcomes h))
pair_shown at bytes outcomes past h (g, (f, was, (e, m1, m2)), shows) =
    let still = both_still g in
    let back = shown_mixed at bytes past f g h shows (counts_first at bytes past f e g g m1 m2 still) (counts_second at bytes past f e g g m1 m2 still) (others_same at bytes past f e g g m1 m2 still)
    (λ c. first_mixed at bytes past f e g g m1 m2 still) (λ c. second_mixed at bytes past f e g g m1 m2 still) in
    (back.0, (f, was, back.1), back.2)

pub pair_elapses : (at : ℕ) (bytes : List ℕ) (t0 t1 t2 : ℕ) (past mid since : ℕ → Folder → Type 0) (m0 m1 m2 : Folder → Type 0) → Elapses t0 t1 past mid (mixed_at 17 at bytes m0) m1 → Elapses t1 t2 mid since (mixed_at 18 at bytes m1) m2
    → Elapses t0 t2 past since (pair_mixed at bytes m0) m2
pair_elapses at bytes t0 t1 t2 past mid since m0 m1 m2 one two =
    both_elapse _ _ _ _ _ _ _ _ _ _ _ one two (λ g from. (from.0, from.1, (g, from.2, none_mixed 18 at bytes g))) (λ g from. let was = one.ends from.0 from.1 in (was.0, was.1, (from.0, was.2, from.2)))

-- what a kill leaves after both
pub record Killed (at : ℕ) (bytes : List ℕ) (first second : Bool) (outcomes : Folder → Type 0) (g : Folder) : Type 0 where
  pub f : Folder
  pub was : outcomes f
  pub e : Folder
  pub m1 : Mixed 17 at bytes f e
  pub m2 : Mixed 18 at bytes e g
  pub w1 : first ≡ true → Wrote 17 at bytes f e
  pub w2 : second ≡ true → Wrote 18 at bytes e g

pub killed_both : (at : ℕ) (bytes : List ℕ) (first second : Bool) (m0 m1 m2 : Folder → Type 0) → (first ≡ true → Within m1 (wrote_at 17 at bytes m0)) → Within m1 (mixed_at 17 at bytes m0)
    → (second ≡ true → Within m2 (wrote_at 18 at bytes m1)) → Within m2 (mixed_at 18 at bytes m1) → (g : Folder) → m2 g → Killed at bytes first second m0 g
killed_both at bytes true true m0 m1 m2 w1 x1 w2 x2 g now =
    let two = w2 refl g now in
    let one = w1 refl two.0 two.1 in
    record { f = one.0; was = one.1; e = two.0; m1 = whole_mixed 17 at bytes one.0 two.0 one.2; m2 = whole_mixed 18 at bytes two.0 g two.2; w1 = λ is. one.2; w2 = λ is. two.2 }
killed_both at bytes true false m0 m1 m2 w1 x1 w2 x2 g now =
    let two = x2 g now in
    let one = w1 refl two.0 two.1 in
    record { f = one.0; was = one.1; e = two.0; m1 = whole_mixed 17 at bytes one.0 two.0 one.2; m2 = two.2; w1 = λ is. one.2; w2 = λ is. absurd (false≢true is) }
killed_both at bytes false true m0 m1 m2 w1 x1 w2 x2 g now =
    let two = w2 refl g now in
    let one = x1 two.0 two.1 in
    record { f = one.0; was = one.1; e = two.0; m1 = one.2; m2 = whole_mixed 18 at bytes two.0 g two.2; w1 = λ is. absurd (false≢true is); w2 = λ is. two.2 }
killed_both at bytes false false m0 m1 m2 w1 x1 w2 x2 g now =
    let two = x2 g now in
    let one = x1 two.0 two.1 in
    record { f = one.0; was = one.1; e = two.0; m1 = one.2; m2 = two.2; w1 = λ is. absurd (false≢true is); w2 = λ is. absurd (false≢true is) }

pub killed_shown : (at : ℕ) (bytes : List ℕ) (first second : Bool) (outcomes : Folder → Type 0) (g s h : Folder) → 4096 ≤ at → Killed at bytes first second outcomes g → SameBoth g s → MergesTwins s h
    → (Counts s First → first ≡ true) → (Counts s Second → second ≡ true) → ((f : Folder) → outcomes f → Counts f First × Counts f Second) → wrote_at 17 at bytes (λ x. shown outcomes x) h
killed_shown at bytes first second outcomes g s h past k same shows one two even =
    let both = even k.f k.was in
    let back = shown_wrote at bytes past k.f s h shows (λ c. both.0) (λ c. both.1) (others_same at bytes past k.f k.e g s k.m1 k.m2 same)
    (λ c. first_wrote at bytes past k.f k.e g s k.m1 k.m2 same (k.w1 (one c))) (λ c. second_wrote at bytes past k.f k.e g s k.m1 k.m2 same (k.w2 (two c))) in
    (back.0, (k.f, k.was, back.1), back.2)

pub even_counts : (count : ℕ) (g : Folder) → (count_in (g 17) ≡ count) × (count_in (g 18) ≡ count) → Counts g First × Counts g Second
even_counts count g (one, two) = (omega (arith, one, two), omega (arith, one, two))

-- the second file was read, where the first one wasn't
pub read_second : (second : Bool) (held : Held) → HasSucceeded false second held → IsAvailable held → second ≡ true
read_second second (Both count) done kept = done.1
read_second second (Only First count) done kept = absurd (false≢true done)
read_second second (Only Second count) done kept = done
read_second second Neither done kept = absurd kept
