-- A stop after any number of a step's single writes, whatever the places of its slot hold: where the drives end once the note is finished.
use Rattle.std.proofs.Common.{◌≡◌, ◌≢◌, ℕ, zero, suc, ◌⊎◌, inl, inr, Bool, true, false, if◌then◌else◌, Option, Some, None, List, [], ◌∷◌, ◌++◌, Contains, take, refl, sym, ◌∙◌, ap, subst}
use Rattle.std.specs.Prelude.{◌&&◌, ◌==◌}
use Rattle.std.proofs.lemmas.Option.{none-some}
use Rattle.extents.specs.Failures.{Failures}
use Rattle.extent_groups.specs.declared.place.Place.{Place}
use Rattle.extent_groups.specs.Calls.{Fades, FadesAt}
use Rattle.extent_groups.specs.Cells.{Cells, held}
use Rattle.extent_groups.specs.Planned.{Intended, over, with_unit, after, IsFinished}
use Rattle.extent_groups.specs.Units.{site_of}
use Rattle.extent_groups.specs.Stores.{IsOwnOf}
use Rattle.extent_groups.proofs.Fading.{fades_trans}
use Rattle.extent_groups.proofs.Finishing.{front_else, own_or_not, writes_else}
use Rattle.flat_machine.specs.Flat.{Flat}
use Rattle.unit_store.specs.declared.micro.Micro.{Micro}
use Rattle.unit_store.specs.declared.micro.Micro.TheVariants.{NoteSet, Write, NoteClear}
use Rattle.unit_store.specs.declared.note.Note.{Note}
use Rattle.unit_store.specs.declared.parts.Parts.{Parts}
use Rattle.unit_store.specs.Micros.{writes_in, note_after}
use Rattle.unit_store.specs.Notes.{note_view, noted_unit, WasFinished, AreFinished}
use Rattle.unit_store.specs.Slots.{cells_in}
use Rattle.header_scan.specs.Stops.{ArePuts, IsLeftByStop, IsMicro, IsNotedList, IsNotedPlace, IsStopped}

-- the writes in a prefix of a list are a prefix of its writes
front_writes : (puts : List Micro) (k : ℕ) → ArePuts puts → writes_in (take k (puts ++ NoteClear ∷ [])) ≡ take k (writes_in puts)
front_writes [] zero only = refl
front_writes [] (suc zero) only = refl
front_writes [] (suc (suc k)) only = refl
front_writes (NoteSet note ∷ puts) k only = absurd only
front_writes (Write drive at unit ∷ puts) zero only = refl
front_writes (Write drive at unit ∷ puts) (suc k) only = ap (λ ws. record { place = record { drive = drive; address = at }; unit = unit.items } ∷ ws) (front_writes puts k only)
front_writes (NoteClear ∷ puts) k only = absurd only

-- and the note is still there, or it was cleared
pub front_note : (note : Note) (puts : List Micro) (k : ℕ) → ArePuts puts
    → (note_after (Some note) (take k (puts ++ NoteClear ∷ [])) ≡ Some note) ⊎ (note_after (Some note) (take k (puts ++ NoteClear ∷ [])) ≡ None)
front_note note [] zero only = inl refl
front_note note [] (suc zero) only = inr refl
front_note note [] (suc (suc k)) only = inr refl
front_note note (NoteSet set ∷ puts) k only = absurd only
front_note note (Write drive at unit ∷ puts) zero only = inl refl
front_note note (Write drive at unit ∷ puts) (suc k) only = front_note note puts k only
front_note note (NoteClear ∷ puts) k only = absurd only

cleared_whole : (note : Note) (puts : List Micro) (k : ℕ) → ArePuts puts → note_after (Some note) (take k (puts ++ NoteClear ∷ [])) ≡ None → take k (writes_in puts) ≡ writes_in puts
cleared_whole note [] zero only none = refl
cleared_whole note [] (suc k) only none = refl
cleared_whole note (NoteSet set ∷ puts) k only none = absurd only
cleared_whole note (Write drive at unit ∷ puts) zero only none = absurd (none-some note (sym none))
cleared_whole note (Write drive at unit ∷ puts) (suc k) only none = ap (λ ws. record { place = record { drive = drive; address = at }; unit = unit.items } ∷ ws) (cleared_whole note puts k only none)
cleared_whole note (NoteClear ∷ puts) k only none = absurd only

-- an optional unit is there or isn't
none_or : (a : Option (List ℕ)) → (a ≡ None) ⊎ (a ≡ None → ⊥)
none_or None = inl refl
none_or (Some u) = inr (λ e. none-some u (sym e))

over_none : (a : Option (List ℕ)) (u : List ℕ) → a ≡ None → over a u ≡ None
over_none a u e = ap (λ o. over o u) e

-- a place that held nothing holds nothing after writes
pub still_none : (c : Cells) (ws : List Intended) (x : Place) → held c x ≡ None → held (after c ws) x ≡ None
still_none c [] x none = none
still_none c (w ∷ ws) x none = still_none (with_unit c w) ws x (one ((x.drive == w.place.drive) && (x.address == w.place.address)))
  where
    one : (b : Bool) → (if b then over (held c x) w.unit else held c x) ≡ None
    one true = over_none (held c x) w.unit none
    one false = none

pub faded_none : (a b : Option (List ℕ)) → Fades a b → a ≡ None → b ≡ None
faded_none a b (inl same) none = same ∙ none
faded_none a b (inr gone) none = gone

-- what was wanted, where a write of what was noted ends, whatever lay there before
finished_one : (was torn now : Option (List ℕ)) (expected noted : List ℕ) → (was ≡ None → torn ≡ None) → ((was ≡ None → ⊥) → expected ≡ noted)
    → (now ≡ over torn noted) ⊎ (now ≡ None) → Fades (over was expected) now
finished_one was torn now expected noted lost same (inr gone) = inr gone
finished_one None torn now expected noted lost same (inl is) = inr (is ∙ ap (λ o. over o noted) (lost refl))
finished_one (Some v) None now expected noted lost same (inl is) = inr is
finished_one (Some v) (Some w) now expected noted lost same (inl is) = inl (is ∙ ap (λ u. Some u) (sym (same (λ e. none-some v (sym e)))))

-- the note of a whole list is cleared
pub whole_note : (note : Note) (puts : List Micro) → ArePuts puts → note_after (Some note) (puts ++ NoteClear ∷ []) ≡ None
whole_note note [] only = refl
whole_note note (NoteSet set ∷ puts) only = absurd only
whole_note note (Write drive at unit ∷ puts) only = whole_note note puts only
whole_note note (NoteClear ∷ puts) only = absurd only

-- and its writes are all that it makes
pub whole_writes : (puts : List Micro) → ArePuts puts → writes_in (puts ++ NoteClear ∷ []) ≡ writes_in puts
whole_writes [] only = refl
whole_writes (NoteSet set ∷ puts) only = absurd only
whole_writes (Write drive at unit ∷ puts) only = ap (λ ws. record { place = record { drive = drive; address = at }; unit = unit.items } ∷ ws) (whole_writes puts only)
whole_writes (NoteClear ∷ puts) only = absurd only

-- what a carried-out list leaves is what a stop leaves
pub left_stopped : {D : Type 0} (units : D → List (List ℕ)) (lost : D → Bool) (p q : Parts D) (list : List Micro) (n : ℕ) → IsStopped units lost p q list n → IsLeftByStop units lost p q list n
left_stopped units lost p q list n stop = record {
  note = stop.note;
  groups = stop.groups;
  many = stop.many;
  none = λ x none. faded_none _ _ (stop.cells x) (still_none (cells_in units lost p) (writes_in (take n list)) x none);
  cells = λ x never. stop.cells x;
}

module _ {D : Type 0} (units : D → List (List ℕ)) (lost : D → Bool) (failures : D → Failures) (p q mid : Parts D) (F G : Flat) (list : List Micro)
    (micro : IsMicro units lost p F G list) (done : WasFinished units lost failures q mid) where
  abbrev c : Cells
  c = cells_in units lost p

  abbrev d : Cells
  d = cells_in units lost q

  abbrev e : Cells
  e = cells_in units lost mid

  -- without a note finishing changes nothing
  same_mid : q.note ≡ None → mid ≡ q
  same_mid none = subst (λ o. AreFinished units lost failures o q mid) none done.finished

  -- the writes are of places of the slot
  elsewhere : (x : Place) → (IsOwnOf p.groups micro.note.slot x → ⊥) → (w : Intended) → Contains micro.writes w → w.place ≢ x
  elsewhere x never w has is = never (subst (IsOwnOf p.groups micro.note.slot) is (micro.plan.planned.own w has).0)

  -- with the note set: whatever its slot's places hold, they end as the whole list leaves them
  noted_ends : (k : ℕ) → q.groups ≡ p.groups → ((x : Place) → held c x ≡ None → held d x ≡ None)
      → ((x : Place) → (IsOwnOf p.groups micro.note.slot x → ⊥) → FadesAt (after c (take k micro.writes)) d x) → q.note ≡ Some micro.note
      → (x : Place) → FadesAt (after c micro.writes) e x
  noted_ends k groups lost_stays cells is x =
      let ended = (subst (λ o. AreFinished units lost failures o q mid) is done.finished).0 in
      let again : IsFinished p.groups d e micro.note.slot (noted_unit (site_of p.groups micro.note.slot) (note_view micro.note)) =
      subst (λ t. IsFinished t d e micro.note.slot (noted_unit (site_of t micro.note.slot) (note_view micro.note))) groups ended in
      elim (own_or_not p.groups micro.note.slot x) [
        | inl own ↦ subst (λ o. Fades o (held e x)) (sym (micro.plan.planned.all x own))
            (finished_one (held c x) (held d x) (held e x) (micro.expected x) _ (lost_stays x) (micro.noted x own) (again.own x own))
        | inr never ↦
            let front = front_else micro.writes c k x (elsewhere x never) in
            let whole = writes_else micro.writes c x (elsewhere x never) in
            fades_trans _ _ _ (subst (λ o. Fades o (held d x)) (front ∙ sym whole) (cells x never)) (again.others x never)
      ]

  -- after any number of entries but none
  pub settles : (k : ℕ) → IsLeftByStop units lost p q list (suc k) → (x : Place) → FadesAt (after c micro.writes) e x
  settles k stop = elim (front_note micro.note l.puts k l.only) [
    | inl set ↦
        let is = note ∙ set in
        noted_ends k stop.groups.groups stop.none
        (λ x never. subst (λ ws. FadesAt (after c ws) d x) writes (stop.cells x (λ own. never (subst (λ o. IsNotedPlace p.groups o x) is own)))) is
    | inr clear ↦
        let none = note ∙ clear in
        let all : writes_in (take (suc k) list) ≡ micro.writes =
        writes ∙ ap (λ ws. take k ws) (sym l.writes_are) ∙ cleared_whole micro.note l.puts k l.only clear ∙ l.writes_are in
        subst (λ (m : Parts D). (x : Place) → FadesAt (after c micro.writes) (cells_in units lost m) x) (sym (same_mid none))
        (λ x. subst (λ ws. FadesAt (after c ws) d x) all (stop.cells x (λ own. subst (λ o. IsNotedPlace p.groups o x) none own)))
  ]
    where
      l : IsNotedList micro.note micro.writes list
      l = micro.listed

      writes : writes_in (take (suc k) list) ≡ take k micro.writes
      writes = ap (λ ms. writes_in (take (suc k) ms)) l.is ∙ front_writes l.puts k l.only ∙ ap (λ ws. take k ws) l.writes_are

      note : q.note ≡ note_after (Some micro.note) (take k (l.puts ++ NoteClear ∷ []))
      note = stop.note ∙ ap (λ ms. note_after p.note (take (suc k) ms)) l.is

  -- with no entry carried out there is no note, and the drives were lost at most
  pub unbegun : IsLeftByStop units lost p q list zero → mid ≡ q
  unbegun stop = same_mid (stop.note ∙ micro.none)

  pub begun_fades : IsLeftByStop units lost p q list zero → (x : Place) → FadesAt c d x
  begun_fades stop x = stop.cells x (λ own. subst (λ o. IsNotedPlace p.groups o x) (stop.note ∙ micro.none) own)
