-- Where all drives are steady a step of a group or a drive has one answer, and leaves one state; and so has a scan.
use Rattle.std.proofs.Common.{◌≡◌, ◌≢◌, ℕ, ◌<◌, ◌≤◌, ◌%◌, Bool, true, false, ◌==◌, if◌then◌else◌, List, refl, sym, ap, ◌∙◌, arith, ◌⊎◌, inl, inr, None}
use Rattle.std.specs.Prelude.{slice_get}
use Rattle.std.proofs.lemmas.Option.{same_Some}
use Rattle.map_join.specs.Maps.{IsMapOf}
use Rattle.extents.specs.Failures.{Failures, no_failures}
use Rattle.extent_groups.specs.Groups.{Groups, group_at, members_of, HasMemberAt}
use Rattle.extent_groups.specs.Stores.{HasMemberOn}
use Rattle.extent_groups.specs.declared.class.Class.{Class}
use Rattle.extent_groups.specs.declared.class.Member.{Member}
use Rattle.flat_machine.specs.declared.refusal.Refusal.TheVariants.{NoGroup, Gone, SlotsHeld, DriveLost, ExtentTaken, SameDrive, Full, BadMember}
use Rattle.flat_machine.specs.Groups.{class_below, AreMembers, AreApart, AreUnowned, ArePresent, IsFirstLost, IsLowestFree, IsTableFull}
use Rattle.flat_machine.specs.Moves.{IsMoveTarget, IsIn, HasClaim, IsFirstStray, unmade, IsBeyondOf, IsFirstGone, moved_to, with_new_drive}
use Rattle.flat_machine.specs.Flat.{Flat, put}
use Rattle.flat_machine.specs.Steps.{FlatAnswer, MadeGroup, UnmadeGroup, MovedExtent, AddedDrive, LostDrive, Refused}
use Rattle.flat_machine.specs.Cases.{IsGoneIn, Leaves, UnmakeCase, MakeCase, MakePasses, made, MoveCase, WasOrGotLost, AddCase, LoseCase, most_drives}
use Rattle.flat_machine.specs.Scans.{ScanAnswer, Reported, NotReported, ScanCase, FindsGone}
use Rattle.flat_machine.proofs.Newest.{same_map}
use Rattle.script_laws.specs.Once.{Settles}
use Rattle.script_laws.specs.Steady.{AreSteady, IsSteady}
use Rattle.script_laws.proofs.Trees.{Ends, Asks, Picks, ends, asks, picks, settles_by}
use Rattle.script_laws.proofs.Quiet.{Steps, changed, quiet, was, gone_was, not_both, order_of}

-- ---- what is chosen is one

one_lost : (lost : ℕ → Bool) (members : List Member) (d e : ℕ) → IsFirstLost lost members d → IsFirstLost lost members e → d ≡ e
one_lost lost members d e a b = elim (order_of a.number b.number) [
  | inl less ↦ absurd (not_both (lost d) (ap lost (sym a.is) ∙ b.before a.number a.member less a.there) a.lost_is)
  | inr (inl same) ↦
      (let member : a.member ≡ b.member = same_Some a.member b.member (sym a.there ∙ ap (slice_get members) same ∙ b.there) in
      sym a.is ∙ ap (λ (m : Member). m.drive) member ∙ b.is)
  | inr (inr more) ↦ absurd (not_both (lost e) (ap lost (sym b.is) ∙ a.before b.number b.member more b.there) b.lost_is)
]

one_free : (groups : Groups) (g h : ℕ) → IsLowestFree groups g → IsLowestFree groups h → g ≡ h
one_free groups g h a b = elim (order_of g h) [
  | inl less ↦ absurd (b.below g less a.free)
  | inr (inl same) ↦ same
  | inr (inr more) ↦ absurd (a.below h more b.free)
]

one_gone : (groups : Groups) (lost : ℕ → Bool) (g s t : ℕ) → IsFirstGone groups lost g s → IsFirstGone groups lost g t → s ≡ t
one_gone groups lost g s t a b = elim (order_of s t) [
  | inl less ↦ absurd (b.below s less a.group a.gone)
  | inr (inl same) ↦ same
  | inr (inr more) ↦ absurd (a.below t more b.group b.gone)
]

one_stray : (F : Flat) (w g s t : ℕ) → IsFirstStray F w g s → IsFirstStray F w g t → s ≡ t
one_stray F w g s t a b = elim (order_of s t) [
  | inl less ↦ absurd (a.stray (b.below s less a.is))
  | inr (inl same) ↦ same
  | inr (inr more) ↦ absurd (b.stray (a.below t more b.is))
]

-- the lowest slot that is gone
pub record IsLowestGone (F : Flat) (s : ℕ) : Type 0 where
  pub gone : IsGoneIn F s
  pub lowest : (t : ℕ) → t < s → IsGoneIn F t → ⊥

pub lowest_once : (F : Flat) (s t : ℕ) → IsLowestGone F s → IsLowestGone F t → s ≡ t
lowest_once F s t a b = elim (order_of s t) [
  | inl less ↦ absurd (b.lowest s less a.gone)
  | inr (inl same) ↦ same
  | inr (inr more) ↦ absurd (a.lowest t more b.gone)
]

-- a group that isn't made has no slot
no_slot : (F : Flat) (g s : ℕ) → group_at F.groups g ≡ None → IsIn F g s → ⊥
no_slot F g s none is = is.made (ap (λ k. class_below F.groups.segments (group_at F.groups k) (s % 128)) is.group ∙ ap (λ o. class_below F.groups.segments o (s % 128)) none)

-- the first of the members whose drive is lost isn't present
not_present : (lost : ℕ → Bool) (members : List Member) (d : ℕ) → IsFirstLost lost members d → ArePresent lost members → ⊥
not_present lost members d first present =
    not_both (lost d) (ap lost (sym first.is) ∙ present first.number first.member first.there) first.lost_is

-- where all drives are steady, a drive that was lost or got lost in a step was already lost, and the state is the same
was_lost : (F G : Flat) (d : ℕ) → AreSteady F → WasOrGotLost F d G → (F.lost d ≡ true) × (G ≡ F)
was_lost F G d steady (inl was) = was
was_lost F G d steady (inr got) = let same = quiet F G steady got.2 in
    absurd (not_both (F.lost d) got.0 (ap (λ (z : Flat). z.lost d) (sym same) ∙ got.1))

-- a table of failures with a new drive is steady
added_steady : (f : Failures) (b : Bool) → f.steady ≡ true → (if b then no_failures else f).steady ≡ true
added_steady f true is = refl
added_steady f false is = is

module _ (z : Groups) (F : Flat) (calm : IsSteady z F) where
  steady : AreSteady F
  steady = calm.steady

  -- make: the members, their drives, a free number
  abbrev make_tree : Class → List Member → Steps
  make_tree class members =
      Asks (AreMembers F.groups.extents F.drives members)
      (Asks (AreApart members)
      (Asks (AreUnowned F.groups members)
      (Asks (ArePresent F.lost members)
      (Asks (IsTableFull F.groups) (Ends (Refused Full) F) (Picks (IsLowestFree F.groups) (λ g. Ends (MadeGroup g) (made F class members g))))
      (Picks (IsFirstLost F.lost members) (λ d. Ends (Refused (DriveLost d)) F)))
      (Ends (Refused ExtentTaken) F))
      (Ends (Refused SameDrive) F))
      (Ends (Refused BadMember) F)

  pub make_settles : (class : Class) (members : List Member) → Settles (IsSteady z) (MakeCase F class members)
  make_settles class members = settles_by (MakeCase F class members) (make_tree class members) to
      (asks (asks (asks (asks (asks (ends calm) (picks (one_free F.groups) (λ g is. ends (changed calm refl refl refl))))
      (picks (one_lost F.lost members) (λ d is. ends calm))) (ends calm)) (ends calm)) (ends calm))
    where
      first : (G : Flat) (d : ℕ) → Leaves F G → (IsFirstLost F.lost members d) ⊎ (((g : ℕ) × MakePasses F members g) × (IsFirstLost G.lost members d)) → IsFirstLost F.lost members d
      first G d left (inl is) = is
      first G d left (inr is) = absurd (not_present F.lost members d (was (λ x. IsFirstLost x.lost members d) F G steady left is.1) is.0.1.1)

      to : (a : FlatAnswer) (G : Flat) → MakeCase F class members a G → make_tree class members a G
      to (Refused BadMember) G c = inr (c.0, (refl, quiet F G steady c.1))
      to (Refused SameDrive) G c = inl (c.0, inr (c.1, (refl, quiet F G steady c.2)))
      to (Refused ExtentTaken) G c = inl (c.0, inl (c.1, inr (c.2, (refl, quiet F G steady c.3))))
      to (Refused (DriveLost d)) G c =
          let lost = first G d c.2 c.1 in
          inl (c.0.members_are, inl (c.0.apart, inl (c.0.unowned, inr (not_present F.lost members d lost, (d, lost, (refl, quiet F G steady c.2))))))
      to (Refused Full) G c = inl (c.0.members_are, inl (c.0.apart, inl (c.0.unowned, inl (c.1, inl (c.2, (refl, quiet F G steady c.3))))))
      to (MadeGroup g) G c =
          inl (c.0.0.members_are, inl (c.0.0.apart, inl (c.0.0.unowned, inl (c.0.1, inr ((λ full. full g c.0.2.limit c.0.2.free), (g, c.0.2, (refl, quiet _ G steady c.2)))))))
      to _ G c = absurd c

  -- unmake: the group, then the claims of its slots
  abbrev unmake_tree : ℕ → ℕ → Steps
  unmake_tree w g =
      Asks (group_at F.groups g ≡ None) (Ends (Refused NoGroup) F)
      (Asks ((s : ℕ) → IsIn F g s → HasClaim F w s) (Ends (UnmadeGroup g) (unmade F w g)) (Picks (IsFirstStray F w g) (λ s. Ends (Refused (SlotsHeld s)) F)))

  pub unmake_settles : (w g : ℕ) → Settles (IsSteady z) (UnmakeCase F w g)
  unmake_settles w g = settles_by (UnmakeCase F w g) (unmake_tree w g) to
      (asks (ends calm) (asks (ends (changed calm refl refl refl)) (picks (one_stray F w g) (λ s is. ends calm))))
    where
      to : (a : FlatAnswer) (G : Flat) → UnmakeCase F w g a G → unmake_tree w g a G
      to (Refused NoGroup) G c = inl (c.0, (refl, quiet F G steady c.1))
      to (Refused (SlotsHeld s)) G c =
          inr ((λ none. no_slot F g s none c.0.is), inr ((λ claims. c.0.stray (claims s c.0.is)), (s, c.0, (refl, quiet F G steady c.1))))
      to (UnmadeGroup h) G c = inr (c.1, inl (c.2, (ap UnmadeGroup c.0, quiet _ G steady c.3)))
      to _ G c = absurd c

  -- move an extent: the reasons against it in their order, then the units
  abbrev moves_tree : ℕ → ℕ → Member → Steps
  moves_tree g k to =
      Asks (F.lost to.drive ≡ true) (Ends (Refused (DriveLost to.drive)) F)
      (Asks (IsBeyondOf F.groups F.lost g k) (Picks (IsFirstGone F.groups F.lost g) (λ s. Ends (Refused (Gone s)) F)) (Ends MovedExtent (moved_to F g k to)))

  abbrev move_tree : ℕ → ℕ → Member → Steps
  move_tree g k to =
      Asks (slice_get (members_of F.groups g) k ≡ None) (Ends (Refused NoGroup) F)
      (Asks ((to.drive < F.drives) × (to.extent < F.groups.extents))
      (Asks (HasMemberOn F.groups g to.drive) (Ends (Refused SameDrive) F)
      (Asks ((h : ℕ) × HasMemberAt (members_of F.groups h) to.drive to.extent) (Ends (Refused ExtentTaken) F) (moves_tree g k to)))
      (Ends (Refused BadMember) F))

  pub move_settles : (g k : ℕ) (to : Member) → Settles (IsSteady z) (MoveCase F g k to)
  move_settles g k m = settles_by (MoveCase F g k m) (move_tree g k m) to
      (asks (ends calm) (asks (asks (ends calm) (asks (ends calm) (asks (ends calm)
      (asks (picks (one_gone F.groups F.lost g) (λ s is. ends calm)) (ends (changed calm refl refl refl)))))) (ends calm)))
    where
      may : (a : FlatAnswer) (G : Flat) → (slice_get (members_of F.groups g) k ≢ None) → IsMoveTarget F.groups F.drives g m → moves_tree g k m a G → move_tree g k m a G
      may a G there is rest = inr (there, inl ((is.drive, is.extent), inr (is.apart, inr ((λ taken. is.unowned taken.0 taken.1), rest))))

      to : (a : FlatAnswer) (G : Flat) → MoveCase F g k m a G → move_tree g k m a G
      to (Refused NoGroup) G c = inl (c.0, (refl, quiet F G steady c.1))
      to (Refused BadMember) G c = inr (c.0.0, inr (c.0.1, (refl, quiet F G steady c.1)))
      to (Refused SameDrive) G c = inr (c.0.0, inl ((c.0.1, c.0.2), inl (c.0.3, (refl, quiet F G steady c.1))))
      to (Refused ExtentTaken) G c = inr (c.0.0, inl ((c.0.1, c.0.2), inr (c.0.3, inl (c.0.4, (refl, quiet F G steady c.1)))))
      to (Refused (DriveLost d)) G c =
          let lost = was_lost F G d steady c.2 in
          may _ G c.0.0 c.0.1 (inl (ap F.lost (sym c.1) ∙ lost.0, (ap (λ n. Refused (DriveLost n)) c.1, lost.1)))
      to (Refused (Gone s)) G c =
          let beyond : IsBeyondOf F.groups F.lost g k = was (λ x. IsBeyondOf x.groups x.lost g k) F G steady c.3 c.1 in
          let first : IsFirstGone F.groups F.lost g s = was (λ x. IsFirstGone x.groups x.lost g s) F G steady c.3 c.2 in
          may _ G c.0.0.0 c.0.0.1 (inr (not_both (F.lost m.drive) c.0.1, inl (beyond, (s, first, (refl, quiet F G steady c.3)))))
      to MovedExtent G c = may _ G c.0.0.0 c.0.0.1 (inr (not_both (F.lost m.drive) c.0.1, inr (c.1, (refl, quiet _ G steady c.3))))
      to _ G c = absurd c

  -- add a drive: up to sixteen
  abbrev add_tree : Steps
  add_tree = Asks (most_drives ≤ F.drives) (Ends (Refused Full) F) (Ends (AddedDrive F.drives) (with_new_drive F false no_failures))

  pub add_settles : Settles (IsSteady z) (AddCase F)
  add_settles = settles_by (AddCase F) add_tree to (asks (ends calm) (ends (record {
    steady = λ d. added_steady (F.failures d) (d == F.drives) (steady d);
    blocks = calm.blocks;
    payload = calm.payload;
  })))
    where
      to : (a : FlatAnswer) (G : Flat) → AddCase F a G → add_tree a G
      to (Refused Full) G c = inl (c.0, (refl, c.1))
      to (AddedDrive d) G c = inr ((λ full. let few = c.1 in omega (arith, full, few)), (ap AddedDrive c.0, c.2))
      to _ G c = absurd c

  -- lose a drive: one that there is
  abbrev lose_tree : ℕ → Steps
  lose_tree d = Asks (d < F.drives) (Ends (LostDrive d) (record F { lost = put F.lost d true })) (Ends (Refused BadMember) F)

  pub lose_settles : (d : ℕ) → Settles (IsSteady z) (LoseCase F d)
  lose_settles d = settles_by (LoseCase F d) (lose_tree d) to (asks (ends (changed calm refl refl refl)) (ends calm))
    where
      to : (a : FlatAnswer) (G : Flat) → LoseCase F d a G → lose_tree d a G
      to (LostDrive e) G c = inl (c.1, (ap LostDrive c.0, quiet _ G steady c.2))
      to (Refused BadMember) G c = inr ((λ there. let not_there = c.0 in omega (arith, there, not_there)), (refl, quiet F G steady c.1))
      to _ G c = absurd c

  -- scan: the map where no slot is gone, else the lowest that is
  abbrev scan_tree : ScanAnswer → Flat → Type 0
  scan_tree = Asks ((s : ℕ) → IsGoneIn F s → ⊥) (Picks (IsMapOf F.emitted) (λ keys. Ends (Reported keys) F)) (Picks (IsLowestGone F) (λ s. Ends (NotReported s) F))

  pub found_gone : (G : Flat) (s : ℕ) → FindsGone F G s → IsLowestGone F s
  found_gone G s c = record { gone = gone_was F G s steady c.leaves c.gone; lowest = c.lowest }

  pub scan_settles : (P : Flat → Type 0) → P F → Settles P (ScanCase F)
  scan_settles P is = settles_by (ScanCase F) scan_tree to
      (asks (picks (same_map F.emitted) (λ keys map. ends is)) (picks (lowest_once F) (λ s low. ends is)))
    where
      to : (a : ScanAnswer) (G : Flat) → ScanCase F a G → scan_tree a G
      to (Reported keys) G c = inl (c.0, (keys, c.1, (refl, quiet F G steady c.2)))
      to (NotReported s) G c = let low = found_gone G s c in inr ((λ none. none s low.gone), (s, low, (refl, quiet F G steady c.leaves)))
