-- Files that are cut, and what the two files of a journal show then.
use Rattle.std.proofs.Common.{◌≡◌, ◌≢◌, ◌≤◌, ◌<◌, inl, inr, ⊎_elim, ℕ, ◌+◌, [], sym, ◌∙◌, ap, subst, arith}
use Rattle.vault.specs.declared.store.Stop.{Stop}
use Rattle.vault.specs.Moments.{Elapses, Within}
use Rattle.file_vault.specs.Folders.{Bytes, Folder, WasCut, CutShort, cut_at}
use Rattle.file_vault.specs.declared.twin.Twin.{Twin}
use Rattle.file_vault.specs.declared.twin.Twin.TheVariants.{First, Second}
use Rattle.file_vault.specs.declared.held.Held.{Held}
use Rattle.file_vault.specs.Twins.{file_of, other, count_in, Counts, after_first_block, seen_as, MergesTwins, shown, AreAlike, IsHeld, IsAheadOfTwin, SameBoth}
use Rattle.file_vault.proofs.Puts.{below_or, both_elapse}
use Rattle.file_vault.proofs.Replayed.{none_cut}
use Rattle.file_vault.proofs.Shown.{both_still, after_header_at, following_eq, count_same, with_other, CutFollowing, uncut, shown_cut}
use Rattle.file_vault.proofs.PairCalls.{seen_others}
use Rattle.file_vault.proofs.TwinCalls.{held_on, seen_rest, other_shown_short, lone_others}

-- a cut after the first block keeps the counts
pub cut_low : (file at : ℕ) (f g : Folder) (d k : ℕ) → CutShort file at f g → k < at → g d k ≡ f d k
cut_low file at f g d k cut low = elim (below_or d file) [
  | inl under ↦ ap (λ (b : Bytes). b k) (cut.others d (λ e. omega (arith, e, under)))
  | inr rest ↦ elim rest [
    | inl e ↦ subst (λ n. g n k ≡ f n k) (sym e) (cut.before k low)
    | inr (j, e) ↦ ap (λ (b : Bytes). b k) (cut.others d (λ is. omega (arith, e, is)))
  ]
]

pub cut_count : (file at : ℕ) (f g : Folder) (d : ℕ) → 4096 ≤ at → CutShort file at f g → count_in (g d) ≡ count_in (f d)
cut_count file at f g d past cut = count_same (f d) (g d) (λ k low. cut_low file at f g d k cut (omega (arith, low, past)))

pub cut_following : (file at : ℕ) (f g : Folder) → CutShort file at f g → CutFollowing at (f file) (g file)
cut_following file at f g cut k more = elim (below_or k at) [
  | inl low ↦ inl (cut.before k low)
  | inr rest ↦
      let le : at ≤ k = elim rest [ inl e ↦ omega (arith, e) | inr (j, e) ↦ omega (arith, e) ] in
      ⊎_elim (λ same. inl same) (λ none. inr (le, none)) (cut.either k le)
]

-- both files are cut, one after the other; then first blocks may change
module _ (at : ℕ) (past : 4096 ≤ at) (f e g s : Folder) (m1 : CutShort 17 at f e) (m2 : CutShort 18 at e g) (same : SameBoth g s) where
  here : g 17 ≡ e 17
  here = m2.others 17 (λ is. omega (arith, is))

  there : e 18 ≡ f 18
  there = m1.others 18 (λ is. omega (arith, is))

  pub first_cut : CutFollowing at (f 17) (s 17)
  first_cut k more =
      let to : s 17 k ≡ e 17 k = same.first k more ∙ ap (λ (b : Bytes). b k) here in
      ⊎_elim (λ was. inl (to ∙ was)) (λ (le, none). inr (le, to ∙ none)) (cut_following 17 at f e m1 k more)

  pub second_cut : CutFollowing at (f 18) (s 18)
  second_cut k more =
      let to : s 18 k ≡ g 18 k = same.second k more in
      ⊎_elim (λ was. inl (to ∙ was ∙ ap (λ (b : Bytes). b k) there)) (λ (le, none). inr (le, to ∙ none)) (cut_following 18 at e g m2 k more)

  pub cut_others : (d : ℕ) → d ≢ 17 → d ≢ 18 → s d ≡ f d
  cut_others d n17 n18 = same.others d n17 n18 ∙ m2.others d n18 ∙ m1.others d n17

  count_17 : count_in (g 17) ≡ count_in (f 17)
  count_17 = cut_count 18 at e g 17 past m2 ∙ cut_count 17 at f e 17 past m1

  count_18 : count_in (g 18) ≡ count_in (f 18)
  count_18 = cut_count 18 at e g 18 past m2 ∙ cut_count 17 at f e 18 past m1

  pub cut_first : Counts g First → Counts f First
  cut_first counts = omega (arith, counts, count_17, count_18)

  pub cut_second : Counts g Second → Counts f Second
  cut_second counts = omega (arith, counts, count_17, count_18)

  pub cut_alike : AreAlike f → WasCut 17 at f e → WasCut 18 at e g → AreAlike g
  cut_alike alike w1 w2 k more = elim (below_or k at) [
    | inl low ↦ ap (λ (b : Bytes). b k) here ∙ w1.before k low ∙ alike k more ∙ sym (w2.before k low ∙ ap (λ (b : Bytes). b k) there)
    | inr rest ↦
        let le : at ≤ k = elim rest [ inl is ↦ omega (arith, is) | inr (j, is) ↦ omega (arith, is) ] in
        ap (λ (b : Bytes). b k) here ∙ w1.zeros k le ∙ sym (w2.zeros k le)
  ]

  pub cut_zero_first : WasCut 17 at f e → (k : ℕ) → at ≤ k → s 17 k ≡ 0
  cut_zero_first w1 k le = same.first k (omega (arith, le, past)) ∙ ap (λ (b : Bytes). b k) here ∙ w1.zeros k le

  pub cut_zero_second : WasCut 18 at e g → (k : ℕ) → at ≤ k → s 18 k ≡ 0
  cut_zero_second w2 k le = same.second k (omega (arith, le, past)) ∙ w2.zeros k le

-- what calls find after a cut
pub seen_short : (at : ℕ) (twin : Twin) (f s : Folder) → 4096 ≤ at → ((d : ℕ) → d ≢ 17 → d ≢ 18 → s d ≡ f d) → CutFollowing at (f 17) (s (file_of twin)) → CutShort 17 at (seen_as First f) (seen_as twin s)
seen_short at twin f s past others cut = record {
  before = λ k low. following_eq (f 17) (s (file_of twin)) k (λ more. uncut at (f 17) (s (file_of twin)) k low more cut);
  either = λ k le. elim (cut k (omega (arith, le, past))) [
    | inl same ↦ inl (following_eq (f 17) (s (file_of twin)) k (λ more. same))
    | inr (low, none) ↦ inr (after_header_at (s (file_of twin)) k (omega (arith, le, past)) ∙ none)
  ];
  others = seen_others twin f s others;
}

pub seen_cut : (at : ℕ) (twin : Twin) (f s : Folder) → 4096 ≤ at → ((d : ℕ) → d ≢ 17 → d ≢ 18 → s d ≡ f d) → CutFollowing at (f 17) (s (file_of twin)) → ((k : ℕ) → at ≤ k → s (file_of twin) k ≡ 0) → WasCut 17 at (seen_as First f) (seen_as twin s)
seen_cut at twin f s past others cut zeros = record {
  before = λ k low. following_eq (f 17) (s (file_of twin)) k (λ more. uncut at (f 17) (s (file_of twin)) k low more cut);
  zeros = λ k le. after_header_at (s (file_of twin)) k (omega (arith, le, past)) ∙ zeros k le;
  others = seen_others twin f s others;
}

-- the same, from a file that was the same
pub cut_from : (at : ℕ) (b c d : Bytes) → ((k : ℕ) → 4096 ≤ k → b k ≡ c k) → CutFollowing at c d → CutFollowing at b d
cut_from at b c d same cut k more = ⊎_elim (λ was. inl (was ∙ sym (same k more))) (λ none. inr none) (cut k more)

-- what stops leave of both cuts
abbrev pub pair_cut : ℕ → (Folder → Type 0) → Folder → Type 0
pair_cut at outcomes g = (f : Folder) × outcomes f × ((e : Folder) × CutShort 17 at f e × CutShort 18 at e g)

pub cut_shown : (at : ℕ) (outcomes : Folder → Type 0) → 4096 ≤ at → Within (λ h. shown (pair_cut at outcomes) h) (cut_at 17 at (λ h. shown outcomes h))
cut_shown at outcomes past h (g, (f, was, (e, m1, m2)), shows) =
    let still = both_still g in
    let back = shown_cut at [] past f g h shows (cut_first at past f e g g m1 m2 still) (cut_second at past f e g g m1 m2 still) (cut_others at past f e g g m1 m2 still)
    (λ c. first_cut at past f e g g m1 m2 still) (λ c. second_cut at past f e g g m1 m2 still) in
    (back.0, (f, was, back.1), back.2)

pub cut_elapses : (at : ℕ) (t0 t1 t2 : ℕ) (past mid since : ℕ → Folder → Type 0) (m0 m1 m2 : Folder → Type 0) → Elapses t0 t1 past mid (cut_at 17 at m0) m1 → Elapses t1 t2 mid since (cut_at 18 at m1) m2 → Elapses t0 t2 past since (pair_cut at m0) m2
cut_elapses at t0 t1 t2 past mid since m0 m1 m2 one two =
    both_elapse _ _ _ _ _ _ _ _ _ _ _ one two (λ g from. (from.0, from.1, (g, from.2, none_cut 18 at g))) (λ g from. let was = one.ends from.0 from.1 in (was.0, was.1, (from.0, was.2, from.2)))

-- another file is cut
pub held_other_cut : {F : Type 0} (seen : F → Folder) (may_leave : F → Stop → Folder → Type 0) (old new : F) (held : Held) (file at : ℕ) → file ≢ 17 → file ≢ 18 → IsHeld seen may_leave old held → CutShort file at (seen old) (seen new)
    → ((stop : Stop) → Within (may_leave new stop) (cut_at file at (may_leave old stop))) → IsHeld seen may_leave new held
held_other_cut seen may_leave old new held file at n17 n18 is cut within =
    held_on seen may_leave old new held is (cut.others 17 (λ e. n17 (sym e)), cut.others 18 (λ e. n18 (sym e)))
    (λ stop g now. let from = within stop g now in (from.0, from.1, ap count_in (from.2.others 17 (λ e. n17 (sym e))), ap count_in (from.2.others 18 (λ e. n18 (sym e)))))

pub other_cut : (twin : Twin) (file at : ℕ) (s t : Folder) → file ≢ 17 → file ≢ 18 → WasCut file at s t → WasCut file at (seen_as twin s) (seen_as twin t)
other_cut twin file at s t n17 n18 cut = record {
  before = λ k low. ap (λ (b : Bytes). b k) (with_other _ t file n17 n18) ∙ cut.before k low ∙ sym (ap (λ (b : Bytes). b k) (with_other _ s file n17 n18));
  zeros = λ k past. ap (λ (b : Bytes). b k) (with_other _ t file n17 n18) ∙ cut.zeros k past;
  others = seen_rest twin file s t n17 n18 cut.others;
}

pub other_short : (twin : Twin) (file at : ℕ) (s t : Folder) → file ≢ 17 → file ≢ 18 → CutShort file at s t → CutShort file at (seen_as twin s) (seen_as twin t)
other_short twin file at s t n17 n18 cut = record {
  before = λ k low. ap (λ (b : Bytes). b k) (with_other _ t file n17 n18) ∙ cut.before k low ∙ sym (ap (λ (b : Bytes). b k) (with_other _ s file n17 n18));
  either = λ k past.
      let to = ap (λ (b : Bytes). b k) (with_other (after_first_block (t (file_of twin))) t file n17 n18) in
      ⊎_elim (λ was. inl (to ∙ was ∙ sym (ap (λ (b : Bytes). b k) (with_other _ s file n17 n18)))) (λ none. inr (to ∙ none)) (cut.either k past);
  others = seen_rest twin file s t n17 n18 cut.others;
}

pub other_cut_within : (file at : ℕ) (outcomes : Folder → Type 0) → file ≢ 17 → file ≢ 18 → Within (λ h. shown (cut_at file at outcomes) h) (cut_at file at (λ h. shown outcomes h))
other_cut_within file at outcomes n17 n18 h (g, (f, was, cut), shows) = let back = other_shown_short file at [] n17 n18 f g h shows cut.others cut in (back.0, (f, was, back.1), back.2)

-- the file that is left alone is cut
pub ahead_cut : {F : Type 0} (may_leave : F → Stop → Folder → Type 0) (old new : F) (twin : Twin) (count at n : ℕ) → 4096 ≤ at → IsAheadOfTwin may_leave old twin count → ((stop : Stop) → Within (may_leave new stop) (cut_at n at (may_leave old stop)))
    → IsAheadOfTwin may_leave new twin count
ahead_cut may_leave old new twin count at n past is within stop g now =
    let from = within stop g now in
    let was = is stop from.0 from.1 in
    let mine = cut_count n at from.0 g (file_of twin) past from.2 in
    let mate = cut_count n at from.0 g (file_of (other twin)) past from.2 in
    (mine ∙ was.0, omega (arith, was.1, mate))

pub lone_cut : (twin : Twin) (n at : ℕ) (s t : Folder) → n ≡ file_of twin → 4096 ≤ at → WasCut n at s t → WasCut 17 at (seen_as twin s) (seen_as twin t)
lone_cut twin n at s t is past cut = record {
  before = λ k low. following_eq (s (file_of twin)) (t (file_of twin)) k (λ more. subst (λ m. t m k ≡ s m k) is (cut.before k low));
  zeros = λ k le. after_header_at (t (file_of twin)) k (omega (arith, le, past)) ∙ subst (λ m. t m k ≡ 0) is (cut.zeros k le);
  others = lone_others twin n s t is cut.others;
}

pub lone_short : (twin : Twin) (n at : ℕ) (s t : Folder) → n ≡ file_of twin → 4096 ≤ at → CutShort n at s t → CutShort 17 at (seen_as twin s) (seen_as twin t)
lone_short twin n at s t is past cut = record {
  before = λ k low. following_eq (s (file_of twin)) (t (file_of twin)) k (λ more. subst (λ m. t m k ≡ s m k) is (cut.before k low));
  either = λ k le. ⊎_elim (λ was. inl (following_eq (s (file_of twin)) (t (file_of twin)) k (λ more. subst (λ m. t m k ≡ s m k) is was)))
      (λ none. inr (after_header_at (t (file_of twin)) k (omega (arith, le, past)) ∙ subst (λ m. t m k ≡ 0) is none)) (cut.either k le);
  others = lone_others twin n s t is cut.others;
}

abbrev AheadOf : Twin → ℕ → Folder → Type 0
AheadOf twin count g = (count_in (g (file_of twin)) ≡ count) × (count_in (g (file_of (other twin))) + 2 ≤ count)

ahead_short : (twin : Twin) (count n at : ℕ) (f g : Folder) → 4096 ≤ at → AheadOf twin count f → CutShort n at f g → AheadOf twin count g
ahead_short twin count n at f g past ahead cut =
    let mine = cut_count n at f g (file_of twin) past cut in
    let mate = cut_count n at f g (file_of (other twin)) past cut in
    (mine ∙ ahead.0, omega (arith, ahead.1, mate))

lone_one : (twin : Twin) (count at : ℕ) (f g h : Folder) → 4096 ≤ at → AheadOf twin count f → CutShort (file_of twin) at f g → MergesTwins g h → (e : Folder) × MergesTwins f e × CutShort 17 at e h
lone_one First count at f g h past ahead cut shows =
    let later = ahead_short First count 17 at f g past ahead cut in
    shown_cut at [] past f g h shows (λ c. omega (arith, ahead.0, ahead.1)) (λ c. absurd (omega (arith, c, later.0, later.1))) (λ d n17 n18. cut.others d n17)
    (λ c. cut_following 17 at f g cut) (λ c. absurd (omega (arith, c, later.0, later.1)))
lone_one Second count at f g h past ahead cut shows =
    let later = ahead_short Second count 18 at f g past ahead cut in
    shown_cut at [] past f g h shows (λ c. absurd (omega (arith, c, later.0, later.1))) (λ c. omega (arith, ahead.0, ahead.1)) (λ d n17 n18. cut.others d n18)
    (λ c. absurd (omega (arith, c, later.0, later.1))) (λ c. cut_following 18 at f g cut)

pub lone_cut_within : (twin : Twin) (count n at : ℕ) (outcomes : Folder → Type 0) → n ≡ file_of twin → 4096 ≤ at → ((f : Folder) → outcomes f → (count_in (f (file_of twin)) ≡ count) × (count_in (f (file_of (other twin))) + 2 ≤ count))
    → Within (λ h. shown (cut_at n at outcomes) h) (cut_at 17 at (λ h. shown outcomes h))
lone_cut_within twin count n at outcomes is past ahead h (g, (f, was, cut), shows) =
    let back = lone_one twin count at f g h past (ahead f was) (subst (λ m. CutShort m at f g) is cut) shows in (back.0, (f, was, back.1), back.2)
