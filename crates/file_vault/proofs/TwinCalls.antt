-- Calls of files whose journal lies in two of them.
use Rattle.std.proofs.Common.{◌≡◌, ◌≢◌, ◌≤◌, inl, inr, ⊎_elim, ℕ, suc, ◌+◌, List, refl, sym, ◌∙◌, ap, subst, arith, get_or}
use Rattle.vault.specs.declared.store.Stop.{Stop}
use Rattle.vault.specs.Moments.{Within}
use Rattle.file_vault.specs.Folders.{Bytes, Folder, Wrote, Mixed, CutShort, mixed_at, wrote_at, HasFile}
use Rattle.file_vault.specs.declared.twin.Twin.{Twin}
use Rattle.file_vault.specs.declared.twin.Twin.TheVariants.{First, Second}
use Rattle.file_vault.specs.declared.held.Held.{Held}
use Rattle.file_vault.specs.declared.held.Held.TheVariants.{Both, Only, Neither}
use Rattle.file_vault.specs.Twins.{file_of, other, count_in, after_first_block, with_journal_file, seen_as, MergesTwins, shown, IsAheadOfTwin, IsHeld, IsAvailable}
use Rattle.std.proofs.Common.{if◌then◌else◌}
use Rattle.std.proofs.lemmas.Bool.{lt-ltb}
use Rattle.file_vault.proofs.Puts.{below_or}
use Rattle.file_vault.proofs.Replayed.{whole_mixed}
use Rattle.file_vault.proofs.Shown.{after_header_at, following_eq, with_other, which_file, shown_wrote, shown_mixed, shows_only}
use Rattle.file_vault.proofs.PairCalls.{mixed_count}

-- the journal's files stay held where their counts stay and calls find both the same
pub held_on : {F : Type 0} (seen : F → Folder) (may_leave : F → Stop → Folder → Type 0) (old new : F) (held : Held) → IsHeld seen may_leave old held → (seen new 17 ≡ seen old 17) × (seen new 18 ≡ seen old 18)
    → ((stop : Stop) (g : Folder) → may_leave new stop g → (f : Folder) × may_leave old stop f × (count_in (g 17) ≡ count_in (f 17)) × (count_in (g 18) ≡ count_in (f 18))) → IsHeld seen may_leave new held
held_on seen may_leave old new (Both count) is same leaves = (
  (λ stop g now. let from = leaves stop g now in let was = is.0 stop from.0 from.1 in (from.2 ∙ was.0, from.3 ∙ was.1)),
  (λ k past. ap (λ (b : Bytes). b k) same.0 ∙ is.1 k past ∙ sym (ap (λ (b : Bytes). b k) same.1)),
)
held_on seen may_leave old new (Only First count) is same leaves = λ stop g now.
    let from = leaves stop g now in
    let was = is stop from.0 from.1 in
    let mate = from.3 in
    (from.2 ∙ was.0, omega (arith, was.1, mate))
held_on seen may_leave old new (Only Second count) is same leaves = λ stop g now.
    let from = leaves stop g now in
    let was = is stop from.0 from.1 in
    let mate = from.2 in
    (from.3 ∙ was.0, omega (arith, was.1, mate))
held_on seen may_leave old new Neither is same leaves = tt

pub held_read : {F : Type 0} (seen : F → Folder) (may_leave : F → Stop → Folder → Type 0) (old new : F) (held : Held) → IsHeld seen may_leave old held → seen new ≡ seen old
    → ((stop : Stop) → Within (may_leave new stop) (may_leave old stop)) → IsHeld seen may_leave new held
held_read seen may_leave old new held is same within =
    held_on seen may_leave old new held is (ap (λ (f : Folder). f 17) same, ap (λ (f : Folder). f 18) same) (λ stop g now. (g, within stop g now, refl, refl))

pub held_other : {F : Type 0} (seen : F → Folder) (may_leave : F → Stop → Folder → Type 0) (old new : F) (held : Held) (file at : ℕ) (bytes : List ℕ) → file ≢ 17 → file ≢ 18 → IsHeld seen may_leave old held → Mixed file at bytes (seen old) (seen new)
    → ((stop : Stop) → Within (may_leave new stop) (mixed_at file at bytes (may_leave old stop))) → IsHeld seen may_leave new held
held_other seen may_leave old new held file at bytes n17 n18 is mixed within =
    held_on seen may_leave old new held is (mixed.others 17 (λ e. n17 (sym e)), mixed.others 18 (λ e. n18 (sym e)))
    (λ stop g now. let from = within stop g now in (from.0, from.1, ap count_in (from.2.others 17 (λ e. n17 (sym e))), ap count_in (from.2.others 18 (λ e. n18 (sym e)))))

-- one file is written alone
pub ahead_wrote : {F : Type 0} (seen : F → Folder) (may_leave : F → Stop → Folder → Type 0) (old new : F) (twin : Twin) (count at n : ℕ) (bytes : List ℕ) → 4096 ≤ at → IsAheadOfTwin may_leave old twin count
    → ((stop : Stop) → Within (may_leave new stop) (mixed_at n at bytes (may_leave old stop))) → IsAheadOfTwin may_leave new twin count
ahead_wrote seen may_leave old new twin count at n bytes past is within stop g now =
    let from = within stop g now in
    let was = is stop from.0 from.1 in
    let mine = mixed_count n at bytes from.0 g (file_of twin) past from.2 in
    let mate = mixed_count n at bytes from.0 g (file_of (other twin)) past from.2 in
    (mine ∙ was.0, omega (arith, was.1, mate))

-- another file is written: what calls find, and what stops leave
pub seen_rest : (twin : Twin) (file : ℕ) (s t : Folder) → file ≢ 17 → file ≢ 18 → ((d : ℕ) → d ≢ file → t d ≡ s d) → (d : ℕ) → d ≢ file → seen_as twin t d ≡ seen_as twin s d
seen_rest twin file s t n17 n18 others d ne = elim (which_file d) [
  | inl e ↦ ap (seen_as twin t) e ∙ ap (λ (b : Bytes). after_first_block b) (mine twin) ∙ sym (ap (seen_as twin s) e)
  | inr rest ↦ elim rest [
    | inl e ↦ ap (seen_as twin t) e ∙ sym (ap (seen_as twin s) e)
    | inr (m17, m18) ↦ with_other _ t d m17 m18 ∙ others d ne ∙ sym (with_other _ s d m17 m18)
  ]
]
  where
    mine : (twin : Twin) → t (file_of twin) ≡ s (file_of twin)
    mine First = others 17 (λ e. n17 (sym e))
    mine Second = others 18 (λ e. n18 (sym e))

pub other_wrote : (twin : Twin) (file at : ℕ) (bytes : List ℕ) (s t : Folder) → file ≢ 17 → file ≢ 18 → Wrote file at bytes s t → Wrote file at bytes (seen_as twin s) (seen_as twin t)
other_wrote twin file at bytes s t n17 n18 wrote = record {
  inside = λ j low. ap (λ (b : Bytes). b (at + j)) (with_other _ t file n17 n18) ∙ wrote.inside j low;
  outside = λ k out. ap (λ (b : Bytes). b k) (with_other _ t file n17 n18) ∙ wrote.outside k out ∙ sym (ap (λ (b : Bytes). b k) (with_other _ s file n17 n18));
  others = seen_rest twin file s t n17 n18 wrote.others;
}

pub other_mixed : (twin : Twin) (file at : ℕ) (bytes : List ℕ) (s t : Folder) → file ≢ 17 → file ≢ 18 → Mixed file at bytes s t → Mixed file at bytes (seen_as twin s) (seen_as twin t)
other_mixed twin file at bytes s t n17 n18 mixed = record {
  inside = λ j low.
      let to = ap (λ (b : Bytes). b (at + j)) (with_other (after_first_block (t (file_of twin))) t file n17 n18) in
      ⊎_elim (λ was. inl (to ∙ was ∙ sym (ap (λ (b : Bytes). b (at + j)) (with_other _ s file n17 n18)))) (λ made. inr (to ∙ made)) (mixed.inside j low);
  outside = λ k out. ap (λ (b : Bytes). b k) (with_other _ t file n17 n18) ∙ mixed.outside k out ∙ sym (ap (λ (b : Bytes). b k) (with_other _ s file n17 n18));
  others = seen_rest twin file s t n17 n18 mixed.others;
}

module _ (file at : ℕ) (bytes : List ℕ) (n17 : file ≢ 17) (n18 : file ≢ 18) (f g h : Folder) (shows : MergesTwins g h) (others : (d : ℕ) → d ≢ file → g d ≡ f d) where
  abbrev from : Folder
  from = with_journal_file (h 17) f

  one : g 17 ≡ f 17
  one = others 17 (λ e. n17 (sym e))

  two : g 18 ≡ f 18
  two = others 18 (λ e. n18 (sym e))

  from_shows : MergesTwins f from
  from_shows = record {
    journal = λ k. elim (shows.journal k) [
      | inl (counts, is) ↦ inl (subst (λ (b : Bytes). count_in b ≤ suc (count_in (f 17))) two (subst (λ (b : Bytes). count_in (g 18) ≤ suc (count_in b)) one counts), is ∙ ap (λ (b : Bytes). after_first_block b k) one)
      | inr (counts, is) ↦ inr (subst (λ (b : Bytes). count_in b ≤ suc (count_in (f 18))) one (subst (λ (b : Bytes). count_in (g 17) ≤ suc (count_in b)) two counts), is ∙ ap (λ (b : Bytes). after_first_block b k) two)
    ];
    hidden = refl;
    others = λ d m17 m18. with_other _ f d m17 m18;
  }

  from_others : (d : ℕ) → d ≢ file → h d ≡ from d
  from_others d ne = elim (which_file d) [
    | inl e ↦ ap h e ∙ sym (ap from e)
    | inr rest ↦ elim rest [
      | inl e ↦ ap h e ∙ shows.hidden ∙ sym (ap from e)
      | inr (m17, m18) ↦ shows.others d m17 m18 ∙ others d ne ∙ sym (with_other _ f d m17 m18)
    ]
  ]

  pub other_shown_wrote : Wrote file at bytes f g → (e : Folder) × MergesTwins f e × Wrote file at bytes e h
  other_shown_wrote wrote = (
    from,
    from_shows,
    record {
      inside = λ j low. ap (λ (b : Bytes). b (at + j)) (shows.others file n17 n18) ∙ wrote.inside j low;
      outside = λ k out. ap (λ (b : Bytes). b k) (shows.others file n17 n18) ∙ wrote.outside k out ∙ sym (ap (λ (b : Bytes). b k) (with_other (h 17) f file n17 n18));
      others = from_others;
    },
  )

  pub other_shown_mixed : Mixed file at bytes f g → (e : Folder) × MergesTwins f e × Mixed file at bytes e h
  other_shown_mixed mixed = (
    from,
    from_shows,
    record {
      inside = λ j low.
          let to = ap (λ (b : Bytes). b (at + j)) (shows.others file n17 n18) in
          ⊎_elim (λ was. inl (to ∙ was ∙ sym (ap (λ (b : Bytes). b (at + j)) (with_other (h 17) f file n17 n18)))) (λ made. inr (to ∙ made)) (mixed.inside j low);
      outside = λ k out. ap (λ (b : Bytes). b k) (shows.others file n17 n18) ∙ mixed.outside k out ∙ sym (ap (λ (b : Bytes). b k) (with_other (h 17) f file n17 n18));
      others = from_others;
    },
  )

  pub other_shown_short : CutShort file at f g → (e : Folder) × MergesTwins f e × CutShort file at e h
  other_shown_short cut = (
    from,
    from_shows,
    record {
      before = λ k low. ap (λ (b : Bytes). b k) (shows.others file n17 n18) ∙ cut.before k low ∙ sym (ap (λ (b : Bytes). b k) (with_other (h 17) f file n17 n18));
      either = λ k past.
          let to = ap (λ (b : Bytes). b k) (shows.others file n17 n18) in
          ⊎_elim (λ was. inl (to ∙ was ∙ sym (ap (λ (b : Bytes). b k) (with_other (h 17) f file n17 n18)))) (λ none. inr (to ∙ none)) (cut.either k past);
      others = from_others;
    },
  )

pub other_within : (file at : ℕ) (bytes : List ℕ) (outcomes : Folder → Type 0) → file ≢ 17 → file ≢ 18 → Within (λ h. shown (mixed_at file at bytes outcomes) h) (mixed_at file at bytes (λ h. shown outcomes h))
other_within file at bytes outcomes n17 n18 h (g, (f, was, mixed), shows) =
    let back = other_shown_mixed file at bytes n17 n18 f g h shows mixed.others mixed in (back.0, (f, was, back.1), back.2)

pub other_killed : (file at : ℕ) (bytes : List ℕ) (first last : Folder → Type 0) → file ≢ 17 → file ≢ 18 → Within last (wrote_at file at bytes first) → Within (λ h. shown last h) (wrote_at file at bytes (λ h. shown first h))
other_killed file at bytes first last n17 n18 within h (g, now, shows) =
    let from = within g now in
    let back = other_shown_wrote file at bytes n17 n18 from.0 g h shows from.2.others from.2 in (back.0, (from.0, from.1, back.1), back.2)

pub other_file : (file : ℕ) (s : Folder) (outcomes : Folder → Type 0) (twin : Twin) → file ≢ 17 → file ≢ 18 → HasFile file s outcomes → HasFile file (seen_as twin s) (λ h. shown outcomes h)
other_file file s outcomes twin n17 n18 has h (g, now, shows) = shows.others file n17 n18 ∙ has g now ∙ sym (with_other _ s file n17 n18)

-- what calls find of the file that is left alone
pub lone_others : (twin : Twin) (n : ℕ) (s t : Folder) → n ≡ file_of twin → ((d : ℕ) → d ≢ n → t d ≡ s d) → (d : ℕ) → d ≢ 17 → seen_as twin t d ≡ seen_as twin s d
lone_others twin n s t is others d n17 = elim (which_file d) [
  | inl e ↦ absurd (n17 e)
  | inr rest ↦ elim rest [
    | inl e ↦ ap (seen_as twin t) e ∙ sym (ap (seen_as twin s) e)
    | inr (m17, m18) ↦ with_other _ t d m17 m18 ∙ others d (apart twin is m17 m18) ∙ sym (with_other _ s d m17 m18)
  ]
]
  where
    apart : (twin : Twin) → n ≡ file_of twin → d ≢ 17 → d ≢ 18 → d ≢ n
    apart First same m17 m18 e = m17 (e ∙ same)
    apart Second same m17 m18 e = m18 (e ∙ same)

pub lone_wrote : (twin : Twin) (n at : ℕ) (bytes : List ℕ) (s t : Folder) → n ≡ file_of twin → 4096 ≤ at → Wrote n at bytes s t → Wrote 17 at bytes (seen_as twin s) (seen_as twin t)
lone_wrote twin n at bytes s t is past wrote = record {
  inside = λ j low. after_header_at (t (file_of twin)) (at + j) (omega (arith, past)) ∙ subst (λ m. t m (at + j) ≡ get_or bytes j 0) is (wrote.inside j low);
  outside = λ k out. following_eq (s (file_of twin)) (t (file_of twin)) k (λ more. subst (λ m. t m k ≡ s m k) is (wrote.outside k out));
  others = lone_others twin n s t is wrote.others;
}

pub lone_mixed : (twin : Twin) (n at : ℕ) (bytes : List ℕ) (s t : Folder) → n ≡ file_of twin → 4096 ≤ at → Mixed n at bytes s t → Mixed 17 at bytes (seen_as twin s) (seen_as twin t)
lone_mixed twin n at bytes s t is past mixed = record {
  inside = λ j low. ⊎_elim (λ was. inl (following_eq (s (file_of twin)) (t (file_of twin)) (at + j) (λ more. subst (λ m. t m (at + j) ≡ s m (at + j)) is was)))
      (λ made. inr (after_header_at (t (file_of twin)) (at + j) (omega (arith, past)) ∙ subst (λ m. t m (at + j) ≡ get_or bytes j 0) is made)) (mixed.inside j low);
  outside = λ k out. following_eq (s (file_of twin)) (t (file_of twin)) k (λ more. subst (λ m. t m k ≡ s m k) is (mixed.outside k out));
  others = lone_others twin n s t is mixed.others;
}

-- what stops leave of it
abbrev AheadOf : Twin → ℕ → Folder → Type 0
AheadOf twin count g = (count_in (g (file_of twin)) ≡ count) × (count_in (g (file_of (other twin))) + 2 ≤ count)

ahead_mixed : (twin : Twin) (count n at : ℕ) (bytes : List ℕ) (f g : Folder) → 4096 ≤ at → AheadOf twin count f → Mixed n at bytes f g → AheadOf twin count g
ahead_mixed twin count n at bytes f g past ahead mixed =
    let mine = mixed_count n at bytes f g (file_of twin) past mixed in
    let mate = mixed_count n at bytes f g (file_of (other twin)) past mixed in
    (mine ∙ ahead.0, omega (arith, ahead.1, mate))

lone_one : (twin : Twin) (count at : ℕ) (bytes : List ℕ) (f g h : Folder) → 4096 ≤ at → AheadOf twin count f → Mixed (file_of twin) at bytes f g → MergesTwins g h → (e : Folder) × MergesTwins f e × Mixed 17 at bytes e h
lone_one First count at bytes f g h past ahead mixed shows =
    let later = ahead_mixed First count 17 at bytes f g past ahead mixed in
    shown_mixed at bytes past f g h shows (λ c. omega (arith, ahead.0, ahead.1)) (λ c. absurd (omega (arith, c, later.0, later.1))) (λ d n17 n18. mixed.others d n17)
    (λ c. record { inside = mixed.inside; outside = λ k out more. mixed.outside k out }) (λ c. absurd (omega (arith, c, later.0, later.1)))
lone_one Second count at bytes f g h past ahead mixed shows =
    let later = ahead_mixed Second count 18 at bytes f g past ahead mixed in
    shown_mixed at bytes past f g h shows (λ c. absurd (omega (arith, c, later.0, later.1))) (λ c. omega (arith, ahead.0, ahead.1)) (λ d n17 n18. mixed.others d n18)
    (λ c. absurd (omega (arith, c, later.0, later.1))) (λ c. record { inside = mixed.inside; outside = λ k out more. mixed.outside k out })

lone_whole : (twin : Twin) (count at : ℕ) (bytes : List ℕ) (f g h : Folder) → 4096 ≤ at → AheadOf twin count f → Wrote (file_of twin) at bytes f g → MergesTwins g h → (e : Folder) × MergesTwins f e × Wrote 17 at bytes e h
lone_whole First count at bytes f g h past ahead wrote shows =
    let later = ahead_mixed First count 17 at bytes f g past ahead (whole_mixed 17 at bytes f g wrote) in
    shown_wrote at bytes past f g h shows (λ c. omega (arith, ahead.0, ahead.1)) (λ c. absurd (omega (arith, c, later.0, later.1))) (λ d n17 n18. wrote.others d n17)
    (λ c. record { inside = wrote.inside; outside = λ k out more. wrote.outside k out }) (λ c. absurd (omega (arith, c, later.0, later.1)))
lone_whole Second count at bytes f g h past ahead wrote shows =
    let later = ahead_mixed Second count 18 at bytes f g past ahead (whole_mixed 18 at bytes f g wrote) in
    shown_wrote at bytes past f g h shows (λ c. absurd (omega (arith, c, later.0, later.1))) (λ c. omega (arith, ahead.0, ahead.1)) (λ d n17 n18. wrote.others d n18)
    (λ c. absurd (omega (arith, c, later.0, later.1))) (λ c. record { inside = wrote.inside; outside = λ k out more. wrote.outside k out })

pub lone_within : (twin : Twin) (count n at : ℕ) (bytes : List ℕ) (outcomes : Folder → Type 0) → n ≡ file_of twin → 4096 ≤ at → ((f : Folder) → outcomes f → (count_in (f (file_of twin)) ≡ count) × (count_in (f (file_of (other twin))) + 2 ≤ count))
    → Within (λ h. shown (mixed_at n at bytes outcomes) h) (mixed_at 17 at bytes (λ h. shown outcomes h))
lone_within twin count n at bytes outcomes is past ahead h (g, (f, was, mixed), shows) =
    let back = lone_one twin count at bytes f g h past (ahead f was) (subst (λ m. Mixed m at bytes f g) is mixed) shows in (back.0, (f, was, back.1), back.2)

pub lone_killed : (twin : Twin) (count n at : ℕ) (bytes : List ℕ) (first last : Folder → Type 0) → n ≡ file_of twin → 4096 ≤ at → ((f : Folder) → first f → (count_in (f (file_of twin)) ≡ count) × (count_in (f (file_of (other twin))) + 2 ≤ count))
    → Within last (wrote_at n at bytes first) → Within (λ h. shown last h) (wrote_at 17 at bytes (λ h. shown first h))
lone_killed twin count n at bytes first last is past ahead within h (g, now, shows) =
    let from = within g now in
    let back = lone_whole twin count at bytes from.0 g h past (ahead from.0 from.1) (subst (λ m. Wrote m at bytes from.0 g) is from.2) shows in (back.0, (from.0, from.1, back.1), back.2)

pub lone_file : (twin : Twin) (count n : ℕ) (s : Folder) (outcomes : Folder → Type 0) → n ≡ file_of twin → ((f : Folder) → outcomes f → (count_in (f (file_of twin)) ≡ count) × (count_in (f (file_of (other twin))) + 2 ≤ count))
    → HasFile n s outcomes → HasFile 17 (seen_as twin s) (λ h. shown outcomes h)
lone_file First count n s outcomes is ahead has h (g, now, shows) =
    let one = ahead g now in
    shows_only g h (s 17) shows (λ c k past. ap (λ (b : Bytes). b k) (subst (λ m. g m ≡ s m) is (has g now))) (λ c k past. absurd (omega (arith, c, one.0, one.1)))
lone_file Second count n s outcomes is ahead has h (g, now, shows) =
    let one = ahead g now in
    shows_only g h (s 18) shows (λ c k past. absurd (omega (arith, c, one.0, one.1))) (λ c k past. ap (λ (b : Bytes). b k) (subst (λ m. g m ≡ s m) is (has g now)))

-- zeros past an end
pub zeros_following : (b : Bytes) (k : ℕ) → b k ≡ 0 → after_first_block b k ≡ 0
zeros_following b k is = elim (below_or k 4096) [
  | inl under ↦ ap (λ t. if t then 0 else b k) (lt-ltb k 4096 under)
  | inr rest ↦ after_header_at b k (elim rest [ inl e ↦ omega (arith, e) | inr (j, e) ↦ omega (arith, e) ]) ∙ is
]

-- the file's number, and which files are held
pub none_kept : {P : Type 0} (held : Held) → held ≡ Neither → IsAvailable held → P
none_kept held is kept = absurd (subst IsAvailable is kept)

pub kept_not : (held : Held) → (held ≡ Neither → ⊥) → IsAvailable held
kept_not (Both count) not = tt
kept_not (Only twin count) not = tt
kept_not Neither not = not refl
