-- What the two files of a journal show, while their bytes and their counts change.
use Rattle.std.proofs.Common.{◌≡◌, ◌≢◌, ◌≤◌, ◌<◌, ◌⊎◌, inl, inr, ⊎_elim, ℕ, suc, ◌+◌, Bool, true, false, if◌then◌else◌, List, refl, sym, ◌∙◌, ap, subst, arith, length, get_or}
use Rattle.std.specs.Prelude.{◌==◌, not}
use Rattle.std.proofs.lemmas.Bool.{ne_eqb, lt-ltb, le-ltb}
use Rattle.vault.specs.Coding.{number}
use Rattle.vault.specs.Moments.{Elapses, Within}
use Rattle.file_vault.specs.Folders.{Bytes, Folder, part, Wrote, Mixed, CutShort, HasFile}
use Rattle.file_vault.specs.Headers.{SameAfterHeader}
use Rattle.file_vault.specs.declared.twin.Twin.{Twin}
use Rattle.file_vault.specs.declared.twin.Twin.TheVariants.{First, Second}
use Rattle.file_vault.specs.Twins.{other, file_of, which_in, count_offset, count_in, Counts, after_first_block, chosen, with_journal_file, seen_as, MergesTwins, shown, AreAlike, SameBoth, counted_at}
use Rattle.file_vault.proofs.Chains.{part_same}
use Rattle.file_vault.proofs.Puts.{below_or}

-- files that differ in first blocks alone
pub both_of : (twin : Twin) (f g : Folder) → SameAfterHeader (file_of twin) f g → SameBoth f g
both_of First f g same = record { first = same.following; second = λ k past. ap (λ (b : Bytes). b k) (same.others 18 (λ e. omega (arith, e))); others = λ d n17 n18. same.others d n17 }
both_of Second f g same = record { first = λ k past. ap (λ (b : Bytes). b k) (same.others 17 (λ e. omega (arith, e))); second = same.following; others = λ d n17 n18. same.others d n18 }

pub both_still : (f : Folder) → SameBoth f f
both_still f = record { first = λ k past. refl; second = λ k past. refl; others = λ d n17 n18. refl }

-- time goes on for what is shown
pub shown_elapses : (m0 m1 : ℕ) (past since : ℕ → Folder → Type 0) (during leaves all : Folder → Type 0) → Elapses m0 m1 past since during leaves → Within (λ h. shown during h) all
    → Elapses m0 m1 (λ t h. shown (past t) h) (λ t h. shown (since t) h) all (λ h. shown leaves h)
shown_elapses m0 m1 past since during leaves all time to = record {
  later = time.later;
  nothing_else = λ t h le left. ⊎_elim (λ was. inl (left.0, was, left.2)) (λ now. inr (to h (left.0, now, left.2))) (time.nothing_else t left.0 le left.1);
  keeps = λ t h le left. (left.0, time.keeps t left.0 le left.1, left.2);
  ends = λ h now. to h (now.0, time.ends now.0 now.1, now.2);
}

-- the bytes after the first block
pub after_header_at : (b : Bytes) (k : ℕ) → 4096 ≤ k → after_first_block b k ≡ b k
after_header_at b k past = ap (λ t. if t then 0 else b k) (le-ltb k 4096 past)

pub following_eq : (b c : Bytes) (k : ℕ) → (4096 ≤ k → c k ≡ b k) → after_first_block c k ≡ after_first_block b k
following_eq b c k same = elim (below_or k 4096) [
  | inl under ↦ ap (λ t. if t then 0 else c k) (lt-ltb k 4096 under) ∙ sym (ap (λ t. if t then 0 else b k) (lt-ltb k 4096 under))
  | inr rest ↦ let past : 4096 ≤ k = elim rest [ inl e ↦ omega (arith, e) | inr (j, e) ↦ omega (arith, e) ] in after_header_at c k past ∙ same past ∙ sym (after_header_at b k past)
]

-- a count is in the first block
pub count_same : (b c : Bytes) → ((k : ℕ) → k < 4096 → c k ≡ b k) → count_in c ≡ count_in b
count_same b c same =
    ap (λ w. number (part c (count_offset w) 8)) (ap (λ n. not (n == 0)) (same 64 (omega arith)))
    ∙ ap number (part_same b c (count_offset (which_in b)) 8 (λ k low high. same k (let most = place_most (which_in b) in omega (arith, high, most))))
  where
    place_most : (w : Bool) → count_offset w ≤ 80
    place_most true = omega arith
    place_most false = omega arith

-- other files than the journal's two
pub with_other : (b : Bytes) (f : Folder) (d : ℕ) → d ≢ 17 → d ≢ 18 → with_journal_file b f d ≡ f d
with_other b f d n17 n18 = ap (λ t. chosen t (d == 18) b (f d)) (ne_eqb d 17 n17) ∙ ap (λ t. chosen false t b (f d)) (ne_eqb d 18 n18)

pub which_file : (d : ℕ) → (d ≡ 17) ⊎ ((d ≡ 18) ⊎ ((d ≢ 17) × (d ≢ 18)))
which_file d = elim (below_or d 17) [
  | inl under ↦ inr (inr ((λ e. omega (arith, e, under)), (λ e. omega (arith, e, under))))
  | inr rest ↦ elim rest [
    | inl e ↦ inl e
    | inr (j, e) ↦ elim (below_or d 18) [
      | inl under ↦ absurd (omega (arith, e, under))
      | inr more ↦ elim more [
        | inl is ↦ inr (inl is)
        | inr (i, is) ↦ inr (inr ((λ same. omega (arith, is, same)), (λ same. omega (arith, is, same))))
      ]
    ]
  ]
]

-- what one file shows
pub shows_as : (twin : Twin) (f : Folder) → Counts f twin → MergesTwins f (seen_as twin f)
shows_as First f counts = record { journal = λ k. inl (counts, refl); hidden = refl; others = λ d n17 n18. with_other _ f d n17 n18 }
shows_as Second f counts = record { journal = λ k. inr (counts, refl); hidden = refl; others = λ d n17 n18. with_other _ f d n17 n18 }

-- files that are the same where they count
pub record StillCounts (twin : Twin) (f g : Folder) : Type 0 where
  pub counts : Counts f twin
  pub same : (k : ℕ) → 4096 ≤ k → g (file_of twin) k ≡ f (file_of twin) k

pub shows_on : (f g h : Folder) → MergesTwins g h → (Counts g First → StillCounts First f g) → (Counts g Second → StillCounts Second f g) → ((d : ℕ) → d ≢ 17 → d ≢ 18 → g d ≡ f d) → MergesTwins f h
shows_on f g h shows first second others = record {
  journal = λ k. elim (shows.journal k) [
    | inl (counts, is) ↦ inl ((first counts).counts, is ∙ following_eq (f 17) (g 17) k ((first counts).same k))
    | inr (counts, is) ↦ inr ((second counts).counts, is ∙ following_eq (f 18) (g 18) k ((second counts).same k))
  ];
  hidden = shows.hidden;
  others = λ d n17 n18. shows.others d n17 n18 ∙ others d n17 n18;
}

-- all that is shown is this
pub shows_only : (g h : Folder) (b : Bytes) → MergesTwins g h → (Counts g First → (k : ℕ) → 4096 ≤ k → g 17 k ≡ b k) → (Counts g Second → (k : ℕ) → 4096 ≤ k → g 18 k ≡ b k) → h 17 ≡ after_first_block b
shows_only g h b shows first second i k = (byte k) i
  where
    byte : (k : ℕ) → h 17 k ≡ after_first_block b k
    byte k = elim (shows.journal k) [
      | inl (counts, is) ↦ is ∙ following_eq b (g 17) k (first counts k)
      | inr (counts, is) ↦ is ∙ following_eq b (g 18) k (second counts k)
    ]

-- both files show the same
pub seen_both : (f g : Folder) → SameBoth f g → AreAlike f → (one two : Twin) → seen_as one g ≡ seen_as two f
seen_both f g same alike one two i d k = (byte d k) i
  where
    to_first : (twin : Twin) (k : ℕ) → 4096 ≤ k → g (file_of twin) k ≡ f 17 k
    to_first First k past = same.first k past
    to_first Second k past = same.second k past ∙ sym (alike k past)

    from_first : (twin : Twin) (k : ℕ) → 4096 ≤ k → f (file_of twin) k ≡ f 17 k
    from_first First k past = refl
    from_first Second k past = sym (alike k past)

    journal : (k : ℕ) → after_first_block (g (file_of one)) k ≡ after_first_block (f (file_of two)) k
    journal k = following_eq (f (file_of two)) (g (file_of one)) k (λ past. to_first one k past ∙ sym (from_first two k past))

    byte : (d k : ℕ) → seen_as one g d k ≡ seen_as two f d k
    byte d k = elim (which_file d) [
      | inl e ↦ ap (λ n. seen_as one g n k) e ∙ journal k ∙ sym (ap (λ n. seen_as two f n k) e)
      | inr rest ↦ elim rest [
        | inl e ↦ ap (λ n. seen_as one g n k) e ∙ sym (ap (λ n. seen_as two f n k) e)
        | inr (n17, n18) ↦ ap (λ (b : Bytes). b k) (with_other _ g d n17 n18 ∙ same.others d n17 n18 ∙ sym (with_other _ f d n17 n18))
      ]
    ]

-- a file shows the same where its first block alone is another
pub seen_same : (twin : Twin) (f g : Folder) → SameAfterHeader (file_of twin) f g → seen_as twin g ≡ seen_as twin f
seen_same twin f g same i d k = (byte d k) i
  where
    mine : (k : ℕ) → after_first_block (g (file_of twin)) k ≡ after_first_block (f (file_of twin)) k
    mine k = following_eq (f (file_of twin)) (g (file_of twin)) k (λ past. same.following k past)

    byte : (d k : ℕ) → seen_as twin g d k ≡ seen_as twin f d k
    byte d k = elim (which_file d) [
      | inl e ↦ ap (λ n. seen_as twin g n k) e ∙ mine k ∙ sym (ap (λ n. seen_as twin f n k) e)
      | inr rest ↦ elim rest [
        | inl e ↦ ap (λ n. seen_as twin g n k) e ∙ sym (ap (λ n. seen_as twin f n k) e)
        | inr (n17, n18) ↦ ap (λ (b : Bytes). b k) (with_other _ g d n17 n18 ∙ (both_of twin f g same).others d n17 n18 ∙ sym (with_other _ f d n17 n18))
      ]
    ]

-- the byte that was there before, of the file that shows this one
abbrev pick : {A B : Type 0} → A ⊎ B → ℕ → ℕ → ℕ
pick (inl a) p q = p
pick (inr b) p q = q

pick_shows : {A B A2 B2 : Type 0} (s : A ⊎ B) (p q : ℕ) → (A → A2) → (B → B2) → (A2 × (pick s p q ≡ p)) ⊎ (B2 × (pick s p q ≡ q))
pick_shows (inl a) p q to1 to2 = inl (to1 a, refl)
pick_shows (inr b) p q to1 to2 = inr (to2 b, refl)

pick_by : {A B : Type 0} (x p q p2 q2 : ℕ) (s : (A × (x ≡ p)) ⊎ (B × (x ≡ q))) (P : ℕ → ℕ → Type 0) → (A → P p p2) → (B → P q q2) → P x (pick s p2 q2)
pick_by x p q p2 q2 (inl (a, is)) P one two = subst (λ y. P y p2) (sym is) (one a)
pick_by x p q p2 q2 (inr (b, is)) P one two = subst (λ y. P y q2) (sym is) (two b)

-- a file that was cut, in whole or in part, after the first block
abbrev pub CutFollowing : ℕ → Bytes → Bytes → Type 0
CutFollowing at b c = (k : ℕ) → 4096 ≤ k → (c k ≡ b k) ⊎ ((at ≤ k) × (c k ≡ 0))

pub uncut : (at : ℕ) (b c : Bytes) (k : ℕ) → k < at → 4096 ≤ k → CutFollowing at b c → c k ≡ b k
uncut at b c k low more cut = elim (cut k more) [ inl same ↦ same | inr (le, none) ↦ absurd (omega (arith, low, le)) ]

-- bytes of one file that were written over, in whole or in part, after the first block
pub record WroteFollowing (at : ℕ) (bytes : List ℕ) (b c : Bytes) : Type 0 where
  pub inside : (j : ℕ) → j < length bytes → c (at + j) ≡ get_or bytes j 0
  pub outside : (k : ℕ) → (k < at) ⊎ (at + length bytes ≤ k) → 4096 ≤ k → c k ≡ b k

pub record MixedFollowing (at : ℕ) (bytes : List ℕ) (b c : Bytes) : Type 0 where
  pub inside : (j : ℕ) → j < length bytes → (c (at + j) ≡ b (at + j)) ⊎ (c (at + j) ≡ get_or bytes j 0)
  pub outside : (k : ℕ) → (k < at) ⊎ (at + length bytes ≤ k) → 4096 ≤ k → c k ≡ b k

module _ (at : ℕ) (bytes : List ℕ) (past : 4096 ≤ at) (f g h : Folder) (shows : MergesTwins g h) (c1 : Counts g First → Counts f First) (c2 : Counts g Second → Counts f Second) (others : (d : ℕ) → d ≢ 17 → d ≢ 18 → g d ≡ f d) where
  abbrev back : Folder
  back = with_journal_file (λ k. pick (shows.journal k) (after_first_block (f 17) k) (after_first_block (f 18) k)) f

  back_shows : MergesTwins f back
  back_shows = record {
    journal = λ k. pick_shows (shows.journal k) (after_first_block (f 17) k) (after_first_block (f 18) k) (λ a. c1 a.0) (λ b. c2 b.0);
    hidden = refl;
    others = λ d n17 n18. with_other _ f d n17 n18;
  }

  back_others : (d : ℕ) → d ≢ 17 → h d ≡ back d
  back_others d n17 = elim (which_file d) [
    | inl e ↦ absurd (n17 e)
    | inr rest ↦ elim rest [
      | inl e ↦ ap h e ∙ shows.hidden ∙ sym (ap back e)
      | inr (m17, n18) ↦ shows.others d n17 n18 ∙ others d n17 n18 ∙ sym (with_other _ f d n17 n18)
    ]
  ]

  back_byte : (k : ℕ) (P : ℕ → ℕ → Type 0) → (Counts g First → P (after_first_block (g 17) k) (after_first_block (f 17) k)) → (Counts g Second → P (after_first_block (g 18) k) (after_first_block (f 18) k)) → P (h 17 k) (back 17 k)
  back_byte k P one two = pick_by (h 17 k) (after_first_block (g 17) k) (after_first_block (g 18) k) (after_first_block (f 17) k) (after_first_block (f 18) k) (shows.journal k) P one two

  pub shown_wrote : (Counts g First → WroteFollowing at bytes (f 17) (g 17)) → (Counts g Second → WroteFollowing at bytes (f 18) (g 18)) → (e : Folder) × MergesTwins f e × Wrote 17 at bytes e h
  shown_wrote one two = (
    back,
    back_shows,
    record {
      inside = λ j low. back_byte (at + j) (λ x y. x ≡ get_or bytes j 0)
          (λ c. after_header_at (g 17) (at + j) (omega (arith, past)) ∙ (one c).inside j low)
          (λ c. after_header_at (g 18) (at + j) (omega (arith, past)) ∙ (two c).inside j low);
      outside = λ k out. back_byte k (λ x y. x ≡ y)
          (λ c. following_eq (f 17) (g 17) k (λ more. (one c).outside k out more))
          (λ c. following_eq (f 18) (g 18) k (λ more. (two c).outside k out more));
      others = back_others;
    },
  )

  mixed_byte : (b c : Bytes) (j : ℕ) → (c (at + j) ≡ b (at + j)) ⊎ (c (at + j) ≡ get_or bytes j 0) → (after_first_block c (at + j) ≡ after_first_block b (at + j)) ⊎ (after_first_block c (at + j) ≡ get_or bytes j 0)
  mixed_byte b c j either = ⊎_elim (λ same. inl (following_eq b c (at + j) (λ more. same))) (λ made. inr (after_header_at c (at + j) (omega (arith, past)) ∙ made)) either

  pub shown_mixed : (Counts g First → MixedFollowing at bytes (f 17) (g 17)) → (Counts g Second → MixedFollowing at bytes (f 18) (g 18)) → (e : Folder) × MergesTwins f e × Mixed 17 at bytes e h
  shown_mixed one two = (
    back,
    back_shows,
    record {
      inside = λ j low. back_byte (at + j) (λ x y. (x ≡ y) ⊎ (x ≡ get_or bytes j 0))
          (λ c. mixed_byte (f 17) (g 17) j ((one c).inside j low))
          (λ c. mixed_byte (f 18) (g 18) j ((two c).inside j low));
      outside = λ k out. back_byte k (λ x y. x ≡ y)
          (λ c. following_eq (f 17) (g 17) k (λ more. (one c).outside k out more))
          (λ c. following_eq (f 18) (g 18) k (λ more. (two c).outside k out more));
      others = back_others;
    },
  )

  cut_byte : (b c : Bytes) (k : ℕ) → at ≤ k → CutFollowing at b c → (after_first_block c k ≡ after_first_block b k) ⊎ (after_first_block c k ≡ 0)
  cut_byte b c k low cut = elim (cut k (omega (arith, low, past))) [
    | inl same ↦ inl (following_eq b c k (λ more. same))
    | inr (le, none) ↦ inr (after_header_at c k (omega (arith, low, past)) ∙ none)
  ]

  pub shown_cut : (Counts g First → CutFollowing at (f 17) (g 17)) → (Counts g Second → CutFollowing at (f 18) (g 18)) → (e : Folder) × MergesTwins f e × CutShort 17 at e h
  shown_cut one two = (
    back,
    back_shows,
    record {
      before = λ k low. back_byte k (λ x y. x ≡ y)
          (λ c. following_eq (f 17) (g 17) k (λ more. uncut at (f 17) (g 17) k low more (one c)))
          (λ c. following_eq (f 18) (g 18) k (λ more. uncut at (f 18) (g 18) k low more (two c)));
      either = λ k low. back_byte k (λ x y. (x ≡ y) ⊎ (x ≡ 0)) (λ c. cut_byte (f 17) (g 17) k low (one c)) (λ c. cut_byte (f 18) (g 18) k low (two c));
      others = back_others;
    },
  )

-- one file goes on alone
pub alone_shown : (twin : Twin) (count : ℕ) (outcomes : Folder → Type 0) → ((g : Folder) → outcomes g → Counts g twin × (count_in (g (file_of (other twin))) ≤ suc count))
    → Within (λ h. shown (counted_at (file_of twin) (count + 3) outcomes) h) (λ h. shown outcomes h)
alone_shown First count outcomes may h (g, (f, was, same, either), shows) =
    let mine = may f was in
    let mate : g 18 ≡ f 18 = same.others 18 (λ e. omega (arith, e)) in
    let mate_count : count_in (g 18) ≡ count_in (f 18) = ap count_in mate in (
      f,
      was,
      shows_on f g h shows (λ c. record { counts = mine.0; same = same.following })
          (λ c. record {
            counts = elim either [ inl is ↦ omega (arith, c, is, mate_count) | inr is ↦ absurd (omega (arith, c, is, mate_count, mine.1)) ];
            same = λ k past. ap (λ (b : Bytes). b k) mate;
          })
          (λ d n17 n18. same.others d n17),
    )
alone_shown Second count outcomes may h (g, (f, was, same, either), shows) =
    let mine = may f was in
    let mate : g 17 ≡ f 17 = same.others 17 (λ e. omega (arith, e)) in
    let mate_count : count_in (g 17) ≡ count_in (f 17) = ap count_in mate in (
      f,
      was,
      shows_on f g h shows
          (λ c. record {
            counts = elim either [ inl is ↦ omega (arith, c, is, mate_count) | inr is ↦ absurd (omega (arith, c, is, mate_count, mine.1)) ];
            same = λ k past. ap (λ (b : Bytes). b k) mate;
          })
          (λ c. record { counts = mine.0; same = same.following })
          (λ d n17 n18. same.others d n18),
    )

pub alone_ahead : (twin : Twin) (count : ℕ) (f g s : Folder) → Counts f twin × (count_in (f (file_of (other twin))) ≤ suc count) → SameAfterHeader (file_of twin) f g → g (file_of twin) ≡ s (file_of twin) → count_in (s (file_of twin)) ≡ count + 3
    → (count_in (g (file_of twin)) ≡ count + 3) × (count_in (g (file_of (other twin))) + 2 ≤ count + 3)
alone_ahead First count f g s may same durable is =
    let mate : count_in (g 18) ≡ count_in (f 18) = ap count_in (same.others 18 (λ e. omega (arith, e))) in (ap count_in durable ∙ is, omega (arith, may.1, mate))
alone_ahead Second count f g s may same durable is =
    let mate : count_in (g 17) ≡ count_in (f 17) = ap count_in (same.others 17 (λ e. omega (arith, e))) in (ap count_in durable ∙ is, omega (arith, may.1, mate))

-- of two even files either may go on
pub even_lead : (twin : Twin) (count : ℕ) (g : Folder) → (count_in (g 17) ≡ count) × (count_in (g 18) ≡ count) → Counts g twin × (count_in (g (file_of (other twin))) ≤ suc count)
even_lead First count g (one, two) = (omega (arith, one, two), omega (arith, two))
even_lead Second count g (one, two) = (omega (arith, one, two), omega (arith, one))

-- by the number of its file
pub alone_within : (twin : Twin) (count n next : ℕ) (outcomes : Folder → Type 0) → n ≡ file_of twin → next ≡ count + 3 → ((g : Folder) → outcomes g → Counts g twin × (count_in (g (file_of (other twin))) ≤ suc count))
    → Within (λ h. shown (counted_at n next outcomes) h) (λ h. shown outcomes h)
alone_within twin count n next outcomes is raised may =
    subst (λ m. Within (λ h. shown (counted_at m next outcomes) h) (λ h. shown outcomes h)) (sym is)
    (subst (λ m. Within (λ h. shown (counted_at (file_of twin) m outcomes) h) (λ h. shown outcomes h)) (sym raised) (alone_shown twin count outcomes may))

pub ahead_of : (twin : Twin) (count n next : ℕ) (s : Folder) (first outcomes : Folder → Type 0) → n ≡ file_of twin → next ≡ count + 3 → ((g : Folder) → first g → Counts g twin × (count_in (g (file_of (other twin))) ≤ suc count))
    → Within outcomes (counted_at n next first) → HasFile n s outcomes → count_in (s n) ≡ next → (g : Folder) → outcomes g → (count_in (g (file_of twin)) ≡ next) × (count_in (g (file_of (other twin))) + 2 ≤ next)
ahead_of twin count n next s first outcomes is raised may within durable made g now =
    let from = within g now in
    let ahead = alone_ahead twin count from.0 g s (may from.0 from.1) (subst (λ m. SameAfterHeader m from.0 g) is from.2) (subst (λ m. g m ≡ s m) is (durable g now)) (subst (λ m. count_in (s m) ≡ next) is made ∙ raised) in
    (ahead.0 ∙ sym raised, omega (arith, ahead.1, raised))

pub left_following : (twin : Twin) (n next : ℕ) (first outcomes : Folder → Type 0) → n ≡ file_of twin → Within outcomes (counted_at n next first) → (g : Folder) → outcomes g → (f : Folder) × first f × SameAfterHeader (file_of twin) f g
left_following twin n next first outcomes is within g now = let from = within g now in (from.0, from.1, subst (λ m. SameAfterHeader m from.0 g) is from.2)
