-- A write finds no room only where there is none, and is refused as gone, where no slot was lost, only where nothing is left that can be
-- read and written.
use Rattle.std.proofs.Common.{◌≡◌, ◌⊎◌, inl, inr, ℕ, List, true, false, sym, ap, ◌∙◌, subst, Option, Some, None, Result, Ok, Err}
use Rattle.std.specs.Prelude.{IfOk}
use Rattle.std.proofs.lemmas.Option.{same_Some}
use Rattle.map_join.specs.declared.records.Record.{Record}
use Rattle.map_join.specs.Record.{record_at}
use Rattle.slot_tables.specs.Views.{key_at}
use Rattle.flat_machine.specs.declared.refusal.Refusal.TheVariants.{Gone}
use Rattle.flat_machine.specs.Flat.{Flat, Content, IsUnheld, IsNewest}
use Rattle.flat_machine.specs.Cases.{IsGoneIn}
use Rattle.flat_machine.proofs.Newest.{newest_reported, newest_unique}
use Rattle.migrator.specs.First.{IsFirst}
use Rattle.migrator.specs.Slots.{IsMirrored}
use Rattle.migrator.specs.Ages.{IsOldest}
use Rattle.map_join.specs.Maps.{IsMapOf}
use Rattle.tiered_array.specs.Placing.{Put, Fresh, Again, PlaceCase}
use Rattle.tiered_array.specs.Steps.{IsFreeMirror, WritesIn}
use Rattle.tiered_array.specs.Tiered.{Tiered}
use Rattle.tiered_array.specs.Matches.{RepresentsTiers}
use Rattle.tiered_array.specs.Room.{IsFirstOf, IsOpen, IsOpenMirror, IsNextOpen, IsHole, IsOpenHole, IsThere, IsReadable, IsDue, IsFull, IsStuck, IsNowhere, LosesNoSlot, HasSpareSlots}
use Rattle.tiered_array.specs.Room.{RoomCase, GoesAside, GoesOut, AppendsToLog, Squeezes, AfterRoom, WritesAgain, AlwaysCase, WritesAlways}
use Rattle.tiered_array.specs.declared.outcome.Outcome.{Outcome}
use Rattle.tiered_array.specs.declared.outcome.Outcome.TheVariants.{Placed, Refused, NoRoom, Nothing}
use Rattle.tiered_array.specs.Views.{TiersView}
use Rattle.tiered_array.proofs.Counting.{never_full}
use Rattle.tiered_array.proofs.Due.{gone_iff}
use Rattle.tiered_array.proofs.Leaving.{leaves_free}
use Rattle.tiered_array.proofs.Unreadable.{StaysGone, placed_gone, refused_gone, refused_stays, source_there, IsSourceGone}

-- a free slot isn't taken
not_taken : (F G : Flat) (w s b : ℕ) (what : Put) → IsUnheld F s → PlaceCase F w s b what NoRoom G → ⊥
not_taken F G w s b what free run = let bad : true ≡ false = sym run.1.1.1 ∙ free run.1.1.0 in absurd (cc)

next_open : (T : Tiered) (keys : ℕ → ℕ) (s : ℕ) → IsNextOpen T keys (Some s) → IsOpen T s
next_open T keys s (inl h) = h.holds.1
next_open T keys s (inr h) = h.1.holds.1

hole_free : (T : Tiered) (s : ℕ) → IsFirstOf (IsHole T) (IsOpenHole T) (Some s) → IsUnheld T.flat s
hole_free T s (inl h) = h.holds.1.0
hole_free T s (inr h) = h.1.holds.1

mirror_free : (T : Tiered) (s : ℕ) → IsFirstOf (IsFreeMirror T.flat) (IsOpenMirror T) (Some s) → IsUnheld T.flat s
mirror_free T s (inl h) = h.holds.1.0
mirror_free T s (inr h) = h.1.holds.1

due_mirrored : (T : Tiered) (keys : ℕ → ℕ) (b : ℕ) → IsDue T keys (Some b) → IsMirrored T.flat.groups keys b
due_mirrored T keys b (inl h) = h.passes.0
due_mirrored T keys b (inr h) = h.1.passes

-- a slot that is free and can be read and written where it could before, and what is gone stays so
record HasLeft (T V : Tiered) : Type 0 where
  pub slot : ℕ
  pub mirror : IsFreeMirror V.flat slot
  pub was_there : IsGoneIn T.flat slot → ⊥
  pub stays : StaysGone T.flat V.flat

module _ (t : TiersView) (T : Tiered) (matches : RepresentsTiers t T) where
  same_record : (keys : ℕ → ℕ) (b : ℕ) (q : Record) (n : Record) → IsMapOf T.flat.emitted keys → IsNewest T.flat.emitted b (Some q) → record_at b (keys b) ≡ Some n → q ≡ n
  same_record keys b q n is_map newest at =
      let records = matches.world.array.history.records in
      same_Some q n (newest_unique T.flat.emitted b records (Some q) (Some n) newest (subst (IsNewest T.flat.emitted b) at (newest_reported T.flat.emitted keys b records is_map)))

  -- where the block goes, a mirrored slot is free afterwards, which could be read before
  placed_left : (keys : ℕ → ℕ) (w s b : ℕ) (r : Record) (V : Tiered) → IsMapOf T.flat.emitted keys → IsMirrored T.flat.groups keys b
      → PlaceCase T.flat w s b Again (Placed r) V.flat → HasLeft T V
  placed_left keys w s b r V is_map mirrored case =
      let free = leaves_free T.flat V.flat (key_at t.world.array) keys w s b Again r matches.world.array.history matches.world.held.once is_map mirrored case in
      let read = source_there T.flat V.flat w s b r case in
      let same : read.0.place ≡ free.0 = ap (λ (n : Record). n.place) (same_record keys b read.0 free.2.0 is_map read.1 free.2.1) ∙ free.2.2 in record {
        slot = free.0;
        mirror = free.1;
        was_there = λ gone. read.2 (subst (IsGoneIn T.flat) (sym same) gone);
        stays = placed_gone T.flat V.flat w s b Again r case;
      }

  room_left : (w : ℕ) (r : Record) (V : Tiered) → RoomCase T w (Placed r) V → HasLeft T V
  room_left w r V case = go case.chosen case.due case.done
    where
      put : (b s : ℕ) (G : Flat) (X : Tiered) → IsMirrored T.flat.groups case.keys b → PlaceCase T.flat w s b Again (Placed r) G → X.flat ≡ G → HasLeft T X
      put b s G X mirrored placed same = placed_left case.keys w s b r X case.map_of mirrored (subst (PlaceCase T.flat w s b Again (Placed r)) (sym same) placed)

      out : (b : ℕ) → IsMirrored T.flat.groups case.keys b → AppendsToLog T case.keys w b (Placed r) V ⊎ Squeezes T case.keys w b (Placed r) V → HasLeft T V
      out b mirrored (inl on) = let d = on.done in put b on.slot d.0 V mirrored d.1 (ap (λ (x : Tiered). x.flat) d.2)
      out b mirrored (inr aside) = into aside.hole aside.done
        where
          into : (hole : Option ℕ) → GoesAside T w b hole (Placed r) V → HasLeft T V
          into None stays = let reported = stays.reported in absurd (cc)
          into (Some s) d = put b s d.0 V mirrored d.1 (ap (λ (x : Tiered). x.flat) d.2)

      go : (chosen : Option ℕ) → IsDue T case.keys chosen → GoesOut T case.keys w chosen (Placed r) V → HasLeft T V
      go None due stays = let reported = stays.reported in absurd (cc)
      go (Some b) due done = out b (due_mirrored T case.keys b due) done

  -- no room was made, as there is none, and nothing changed
  none_made : (w : ℕ) (V : Tiered) (case : RoomCase T w NoRoom V) → IsNowhere T case.keys × (V ≡ T)
  none_made w V case = go case.chosen case.done
    where
      into : (b : ℕ) (hole : Option ℕ) → IsFirstOf (IsHole T) (IsOpenHole T) hole → GoesAside T w b hole NoRoom V → IsNowhere T case.keys × (V ≡ T)
      into b None first stays = (inr first, stays.same)
      into b (Some s) first d = absurd (not_taken T.flat d.0 w s b Again (hole_free T s first) d.1)

      out : (b : ℕ) → AppendsToLog T case.keys w b NoRoom V ⊎ Squeezes T case.keys w b NoRoom V → IsNowhere T case.keys × (V ≡ T)
      out b (inl on) = absurd (not_taken T.flat on.done.0 w on.slot b Again (next_open T case.keys on.slot on.first).0 on.done.1)
      out b (inr aside) = into b aside.hole aside.first aside.done

      go : (chosen : Option ℕ) → GoesOut T case.keys w chosen NoRoom V → IsNowhere T case.keys × (V ≡ T)
      go None stays = let reported = stays.reported in absurd (cc)
      go (Some b) done = out b done

  none_due : (w : ℕ) (V : Tiered) (case : RoomCase T w Nothing V) → IsNowhere T case.keys × (V ≡ T)
  none_due w V case = go case.chosen case.due case.done
    where
      into : (b : ℕ) (hole : Option ℕ) → GoesAside T w b hole Nothing V → IsNowhere T case.keys × (V ≡ T)
      into b None stays = let reported = stays.reported in absurd (cc)
      into b (Some s) d = absurd d.1

      out : (b : ℕ) → AppendsToLog T case.keys w b Nothing V ⊎ Squeezes T case.keys w b Nothing V → IsNowhere T case.keys × (V ≡ T)
      out b (inl on) = absurd on.done.1
      out b (inr aside) = into b aside.hole aside.done

      go : (chosen : Option ℕ) → IsDue T case.keys chosen → GoesOut T case.keys w chosen Nothing V → IsNowhere T case.keys × (V ≡ T)
      go None due stays = (inl due, stays.same)
      go (Some b) due done = out b done

  -- a second look that finds no slot
  again_none : (w b : ℕ) (x : Content) (V U : Tiered) → WritesAgain V w b x NoRoom U → (s : ℕ) → IsFreeMirror V.flat s → ⊥
  again_none w b x V U again = go again.slot again.first again.done
    where
      go : (slot : Option ℕ) → IsFirstOf (IsFreeMirror V.flat) (IsOpenMirror V) slot → WritesIn V w b x slot NoRoom U → (s : ℕ) → IsFreeMirror V.flat s → ⊥
      go None none stays = none
      go (Some s) first d = absurd (not_taken V.flat d.0 w s b (Fresh x) (mirror_free V s first) d.1)

  after_full : (w b : ℕ) (x : Content) (moved : Outcome) (V U : Tiered) → RoomCase T w moved V → AfterRoom V w b x moved NoRoom U → IsFull T
  after_full w b x (Placed r) V U case again = let left = room_left w r V case in absurd (again_none w b x V U again left.slot left.mirror)
  after_full w b x (Refused k) V U case stays = let reported = stays.reported in absurd (cc)
  after_full w b x NoRoom V U case again =
      let none = none_made w V case in
      record { mirrors = subst (λ (X : Tiered). (s : ℕ) → IsFreeMirror X.flat s → ⊥) none.1 (again_none w b x V U again); keys = case.keys; map_of = case.map_of; nowhere = none.0 }
  after_full w b x Nothing V U case again =
      let none = none_due w V case in
      record { mirrors = subst (λ (X : Tiered). (s : ℕ) → IsFreeMirror X.flat s → ⊥) none.1 (again_none w b x V U again); keys = case.keys; map_of = case.map_of; nowhere = none.0 }

  no_room : (w b : ℕ) (x : Content) (U : Tiered) → AlwaysCase T w b x NoRoom U → IsFull T
  no_room w b x U case = go case.slot case.first case.done
    where
      go : (slot : Option ℕ) → IsFirst (IsOpenMirror T) slot → WritesAlways T w b x slot NoRoom U → IsFull T
      go None first done = after_full w b x done.moved done.between U done.out done.done
      go (Some s) first d = absurd (not_taken T.flat d.0 w s b (Fresh x) first.holds.1.0 d.1)

  -- nothing that is not gone: of the blocks, or of the holes
  nowhere_open : (keys : ℕ → ℕ) → IsNowhere T keys → IsOldest T.order (IsReadable T.flat.groups T.flat.lost keys) None ⊎ ((s : ℕ) → IsOpenHole T s → ⊥)
  nowhere_open keys (inl none) = inl (λ c has readable. none c has readable.0)
  nowhere_open keys (inr none) = inr (λ s ready. none s (ready.0, ready.1.0))

  -- no slot is lost on the way
  module _ (slot : ℕ) (U : Tiered) (kept : (s : ℕ) → IsGoneIn U.flat s → IsGoneIn T.flat s) where
    not_refused : (keys : ℕ → ℕ) (w s b : ℕ) (G : Flat) → IsMapOf T.flat.emitted keys → IsThere T.flat.groups T.flat.lost keys b → IsOpen T s
        → PlaceCase T.flat w s b Again (Refused (Gone slot)) G → U.flat ≡ G → ⊥
    not_refused keys w s b G is_map there ready case same = go (refused_gone T.flat G w s b Again slot case)
      where
        was : (n : ℕ) → IsGoneIn G n → IsGoneIn T.flat n
        was n gone = kept n (subst (λ (x : Flat). IsGoneIn x n) (sym same) gone)

        go : IsGoneIn G s ⊎ IsSourceGone T.flat G b Again → ⊥
        go (inl gone) = ready.1 (was s gone)
        go (inr source) =
            let one = ap (λ (n : Record). n.place) (same_record keys b source.0 there.0 is_map source.1 there.1) in
            there.2 (subst (IsGoneIn T.flat) one (was source.0.place source.2))

    room_stuck : (w : ℕ) → ((s : ℕ) → IsOpenMirror T s → ⊥) → RoomCase T w (Refused (Gone slot)) U → IsStuck T
    room_stuck w mirrors case = go case.chosen case.due case.done
      where
        stuck : IsOldest T.order (IsReadable T.flat.groups T.flat.lost case.keys) None ⊎ ((s : ℕ) → IsOpenHole T s → ⊥) → IsStuck T
        stuck nowhere = record { mirrors = mirrors; keys = case.keys; map_of = case.map_of; nowhere = nowhere }

        into : (b : ℕ) (hole : Option ℕ) → IsThere T.flat.groups T.flat.lost case.keys b → IsFirstOf (IsHole T) (IsOpenHole T) hole
            → GoesAside T w b hole (Refused (Gone slot)) U → IsStuck T
        into b None there first stays = let reported = stays.reported in absurd (cc)
        into b (Some s) there (inl ready) d =
            absurd (not_refused case.keys w s b d.0 case.map_of there ready.holds.1 d.1 (ap (λ (x : Tiered). x.flat) d.2))
        into b (Some s) there (inr none) d = stuck (inr none.0)

        out : (b : ℕ) → IsThere T.flat.groups T.flat.lost case.keys b
            → AppendsToLog T case.keys w b (Refused (Gone slot)) U ⊎ Squeezes T case.keys w b (Refused (Gone slot)) U → IsStuck T
        out b there (inl on) =
            let d = on.done in
            absurd (not_refused case.keys w on.slot b d.0 case.map_of there (next_open T case.keys on.slot on.first) d.1 (ap (λ (x : Tiered). x.flat) d.2))
        out b there (inr aside) = into b aside.hole there aside.first aside.done

        due : (b : ℕ) → IsDue T case.keys (Some b)
            → AppendsToLog T case.keys w b (Refused (Gone slot)) U ⊎ Squeezes T case.keys w b (Refused (Gone slot)) U → IsStuck T
        due b (inl oldest) done = out b oldest.passes.1 done
        due b (inr none) done = stuck (inl none.0)

        go : (chosen : Option ℕ) → IsDue T case.keys chosen → GoesOut T case.keys w chosen (Refused (Gone slot)) U → IsStuck T
        go None none stays = let reported = stays.reported in absurd (cc)
        go (Some b) is done = due b is done

    -- a fresh content is not refused as gone by an open slot
    not_written : (F : Tiered) (w s b : ℕ) (x : Content) (G : Flat) → StaysGone T.flat F.flat → (IsGoneIn F.flat s → ⊥) → PlaceCase F.flat w s b (Fresh x) (Refused (Gone slot)) G
        → U.flat ≡ G → ⊥
    not_written F w s b x G stays there case same = go (refused_gone F.flat G w s b (Fresh x) slot case)
      where
        go : IsGoneIn G s ⊎ IsSourceGone F.flat G b (Fresh x) → ⊥
        go (inl gone) = there (stays s (kept s (subst (λ (y : Flat). IsGoneIn y s) (sym same) gone)))
        go (inr wrong) = wrong

    -- a second look is refused as gone only where no mirrored slot is open
    again_stuck : (w b : ℕ) (x : Content) (V : Tiered) → StaysGone T.flat V.flat → WritesAgain V w b x (Refused (Gone slot)) U
        → ((s : ℕ) → IsOpenMirror V s → ⊥) × StaysGone V.flat U.flat
    again_stuck w b x V stays again = go again.slot again.first again.done
      where
        go : (found : Option ℕ) → IsFirstOf (IsFreeMirror V.flat) (IsOpenMirror V) found → WritesIn V w b x found (Refused (Gone slot)) U
            → ((s : ℕ) → IsOpenMirror V s → ⊥) × StaysGone V.flat U.flat
        go None first done = let reported = done.reported in absurd (cc)
        go (Some s) (inl ready) d = absurd (not_written V w s b x d.0 stays ready.holds.1.1 d.1 (ap (λ (y : Tiered). y.flat) d.2))
        go (Some s) (inr none) d =
            let same : U.flat ≡ d.0 = ap (λ (y : Tiered). y.flat) d.2 in
            (none.0, λ n gone. subst (λ (y : Flat). IsGoneIn y n) (sym same) (refused_stays V.flat d.0 w s b (Fresh x) (Gone slot) d.1 n gone))

    after_stuck : (w b : ℕ) (x : Content) (moved : Outcome) (V : Tiered) → ((s : ℕ) → IsOpenMirror T s → ⊥) → RoomCase T w moved V
        → AfterRoom V w b x moved (Refused (Gone slot)) U → IsStuck T
    after_stuck w b x (Placed r) V mirrors case again =
        let left = room_left w r V case in
        let more = again_stuck w b x V left.stays again in
        absurd (more.0 left.slot (left.mirror.0, (left.mirror.1, λ gone. left.was_there (kept left.slot (more.1 left.slot gone)))))
    after_stuck w b x (Refused k) V mirrors case stays =
        room_stuck w mirrors (subst (λ (X : Tiered). RoomCase T w (Refused (Gone slot)) X) (sym stays.same) (subst (λ o. RoomCase T w o V) (sym stays.reported) case))
    after_stuck w b x NoRoom V mirrors case again =
        record { mirrors = mirrors; keys = case.keys; map_of = case.map_of; nowhere = nowhere_open case.keys (none_made w V case).0 }
    after_stuck w b x Nothing V mirrors case again =
        record { mirrors = mirrors; keys = case.keys; map_of = case.map_of; nowhere = nowhere_open case.keys (none_due w V case).0 }

    stuck : (w b : ℕ) (x : Content) → AlwaysCase T w b x (Refused (Gone slot)) U → IsStuck T
    stuck w b x case = go case.slot case.first case.done
      where
        go : (found : Option ℕ) → IsFirst (IsOpenMirror T) found → WritesAlways T w b x found (Refused (Gone slot)) U → IsStuck T
        go None first done = after_stuck w b x done.moved done.between first done.out done.done
        go (Some s) first d = absurd (not_written T w s b x d.0 (λ n gone. gone) first.holds.1.1 d.1 (ap (λ (y : Tiered). y.flat) d.2))

-- so a write that found none was made of a full state
pub full_if : {E : Type 0} (t u : TiersView) (w b : ℕ) (x : Content) (r : Result Outcome E)
    → IfOk r (λ o. (T : Tiered) → RepresentsTiers t T → (U : Tiered) × AlwaysCase T w b x o U × RepresentsTiers u U)
    → IfOk r (λ o. (T : Tiered) → RepresentsTiers t T → o ≡ NoRoom → IsFull T)
full_if t u w b x (Err e) done = tt
full_if t u w b x (Ok o) done = λ T matches is.
    let d = done T matches in
    no_room t T matches w b x d.0 (subst (λ z. AlwaysCase T w b x z d.0) is d.1)

-- and no state with more slots than blocks is full
pub finds_if : {E : Type 0} (t : TiersView) (r : Result Outcome E) → IfOk r (λ o. (T : Tiered) → RepresentsTiers t T → o ≡ NoRoom → IsFull T)
    → IfOk r (λ o. (T : Tiered) (slots : List ℕ) → RepresentsTiers t T → HasSpareSlots T slots → o ≡ NoRoom → ⊥)
finds_if t (Err e) full = tt
finds_if t (Ok o) full = λ T slots matches has is. never_full t.world T slots matches.world matches.each has (full T matches is)

-- one that was refused as gone was made of a stuck state, or a slot was lost
pub stuck_if : {E : Type 0} (t u : TiersView) (w b : ℕ) (x : Content) (r : Result Outcome E)
    → IfOk r (λ o. (T : Tiered) → RepresentsTiers t T → (U : Tiered) × AlwaysCase T w b x o U × RepresentsTiers u U)
    → IfOk r (λ o. (T : Tiered) (slot : ℕ) → RepresentsTiers t T → o ≡ Refused (Gone slot) → LosesNoSlot t.world u.world → IsStuck T)
stuck_if t u w b x (Err e) done = tt
stuck_if t u w b x (Ok o) done = λ T slot matches is no_loss.
    let d = done T matches in
    stuck t T matches slot d.0 (λ s gone. (gone_iff t T s matches).0 (no_loss s ((gone_iff u d.0 s d.2).1 gone))) w b x (subst (λ z. AlwaysCase T w b x z d.0) is d.1)
