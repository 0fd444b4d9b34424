-- What lies at a record's place, and what is learned there, is the flat machine's case.
use Rattle.std.proofs.Common.{◌≡◌, ◌≤◌, ℕ, ◌/◌, ◌%◌, cond, nat_lt, length, Bool, true, false, is_some, refl, sym, ap, ◌∙◌, subst, inl, inr, Option, Some, None}
use Rattle.map_join.specs.declared.records.Record.{Record}
use Rattle.map_join.specs.Record.{key_of, record_at}
use Rattle.extent_groups.specs.Geometry.{slot_count}
use Rattle.extent_groups.specs.Groups.{Group, Groups, group_at}
use Rattle.extent_groups.specs.Units.{Site, site_in, site_of_index, site_of}
use Rattle.flat_machine.specs.Groups.{class_below, class_at}
use Rattle.flat_machine.specs.declared.refusal.Refusal.{Refusal}
use Rattle.flat_machine.specs.declared.refusal.Refusal.TheVariants.{Ahead}
use Rattle.flat_machine.specs.Flat.{Flat, Stored}
use Rattle.flat_machine.specs.Steps.{ReadAt, Seen, FoundAt, Refused}
use Rattle.flat_machine.specs.Cases.{ReadAtCase, IsSeen, IsAhead, IsNotAhead, IsAllocating, IsGoneIn}
use Rattle.slot_tables.specs.Changes.{MayRefuse}
use Rattle.slot_tables.specs.Reads.{WasNotRead, WasSeen}
use Rattle.slot_tables.specs.Views.{ArrayView, with_parts, key_at}
use Rattle.slot_tables.specs.Represents.{ShowsArray}
use Rattle.slot_tables.proofs.Newest.{newest_reported, newest_is}
use Rattle.slot_tables.proofs.Fares.{fared, itself, gone_as, gone_back, lost_shows, lost_leaves}
use Rattle.slot_tables.proofs.Fills.{class_seen}

-- a record that is ahead of the newest is refused
pub ahead_case : (W : Type 0) (a : ArrayView) (F : Flat) (r : Record) (q : Refusal) → ShowsArray a F → q ≡ Ahead (record_at r.block (key_at a r.block))
    → IsAhead r (record_at r.block (key_at a r.block))
    → MayRefuse q W ((G : Flat) × ReadAtCase F r (Refused q) G × ShowsArray a G)
ahead_case W a F r q shows is ahead =
    subst (λ p. MayRefuse p W ((G : Flat) × ReadAtCase F r (Refused p) G × ShowsArray a G)) (sym is) (F, (newest_reported a F r.block shows, ahead, itself F), shows)

following : (a : ArrayView) (F : Flat) (r n : Record) → ShowsArray a F → record_at r.block (key_at a r.block) ≡ Some n → key_of r ≤ key_of n → IsNotAhead F r
following a F r n shows found most = (n, newest_is a F r.block (Some n) shows found, most)

no_unit : (unit : Option Stored) → is_some unit ≡ false → unit ≡ None
no_unit None e = refl
no_unit (Some u) e = absurd (cc)

-- a slot of no group lies nowhere
no_site_in : (segments : ℕ) (o : Option Group) (i : ℕ) → class_below segments o i ≡ None → (site : Site) → site_of_index segments o i ≡ Some site → ⊥
no_site_in segments None i none site at = cc
no_site_in segments (Some group) i none site at = go (nat_lt i (slot_count group.class (length group.members) segments)) none at
  where
    go : (b : Bool) → cond b (Some group.class) None ≡ None → cond b (Some (site_in segments group.class group.members i)) None ≡ Some site → ⊥
    go true e at = cc
    go false e at = cc

no_site : (groups : Groups) (s : ℕ) → class_at groups s ≡ None → (site : Site) → site_of groups s ≡ Some site → ⊥
no_site groups s none site at = no_site_in groups.segments (group_at groups (s / 128)) (s % 128) none site at

-- what lies at the place of any other is seen
pub seen_case : (a b : ArrayView) (F : Flat) (r n : Record) (seen : Seen) → ShowsArray a F → record_at r.block (key_at a r.block) ≡ Some n
    → key_of r ≤ key_of n → b ≡ with_parts a b.parts → WasSeen a b r seen → (G : Flat) × ReadAtCase F r (FoundAt seen) G × ShowsArray b G
seen_case a b F r n seen shows found most rest (inl none) =
    let unit : F.units r.place ≡ None = no_unit (F.units r.place) ((shows.history.units r.place).there ∙ ap is_some (class_seen a F r.place shows ∙ none.0)) in (
      F,
      (following a F r n shows found most, not_gone, subst (λ o. IsSeen o r seen) (sym unit) (subst (IsSeen None r) (sym none.1) refl), itself F),
      subst (λ (v : ArrayView). ShowsArray v F) (sym none.2) shows,
    )
  where
    not_gone : IsGoneIn F r.place → ⊥
    not_gone gone = no_site F.groups r.place (class_seen a F r.place shows ∙ none.0) gone.0 gone.1
seen_case a b F r n seen shows found most rest (inr saw) =
    let u = saw.unit F.units shows.units in (
      fared F b.parts,
      (
        following a F r n shows found most,
        (λ gone. saw.there (gone_back F a.parts b.parts r.place shows.tables.groups saw.loses.rest gone)),
        subst (λ o. IsSeen o r seen) (sym u.1) u.2,
        lost_leaves a F b.parts shows saw.loses,
      ),
      subst (λ (v : ArrayView). ShowsArray v (fared F b.parts)) (sym rest) (lost_shows a F b.parts shows saw.loses),
    )

-- or the place is lost, or an allocation failed
pub unseen_case : (a b : ArrayView) (F : Flat) (r n : Record) (q : Refusal) → ShowsArray a F → record_at r.block (key_at a r.block) ≡ Some n → key_of r ≤ key_of n
    → b ≡ with_parts a b.parts → WasNotRead a b r.place q → MayRefuse q (IsAllocating F (ReadAt r)) ((G : Flat) × ReadAtCase F r (Refused q) G × ShowsArray b G)
unseen_case a b F r n q shows found most rest (inl want) =
    subst (λ p. MayRefuse p (IsAllocating F (ReadAt r)) ((G : Flat) × ReadAtCase F r (Refused p) G × ShowsArray b G)) (sym want.0) (following a F r n shows found most)
unseen_case a b F r n q shows found most rest (inr gone) =
    subst (λ p. MayRefuse p (IsAllocating F (ReadAt r)) ((G : Flat) × ReadAtCase F r (Refused p) G × ShowsArray b G)) (sym gone.reported) (
      fared F b.parts,
      (
        following a F r n shows found most,
        refl,
        gone_as F a.parts b.parts r.place shows.tables.groups gone.loses.rest gone.gone,
        lost_leaves a F b.parts shows gone.loses,
      ),
      subst (λ (v : ArrayView). ShowsArray v (fared F b.parts)) (sym rest) (lost_shows a F b.parts shows gone.loses),
    )
