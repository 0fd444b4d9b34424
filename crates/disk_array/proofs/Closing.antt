-- What dissolving a group with a worker's claims does to a flat state.
use Rattle.std.proofs.Common.{◌≡◌, ◌≢◌, ℕ, ◌<◌, ◌/◌, ◌%◌, Bool, true, false, cond, nat_lt, List, length, refl, sym, ap, ◌∙◌, subst, arith, ◌⊎◌, inl, inr, Option, Some, None, Result, Ok, Err, OnErr}
use Rattle.std.proofs.lemmas.Bool.{cases_eq}
use Rattle.std.proofs.lemmas.Bool.Decides.{nat_tests}
use Rattle.extent_groups.specs.Geometry.{slot_count}
use Rattle.extent_groups.specs.Groups.{Groups, Group, group_at, slots_in}
use Rattle.unit_store.specs.Views.{PartsView, WasTaken}
use Rattle.flat_machine.specs.Flat.{Flat, Holder, Worker, Ticket, Shut, IsArrays, for_ticket, for_block, for_shut, IsArrayHeld}
use Rattle.flat_machine.specs.Groups.{class_at, class_below}
use Rattle.flat_machine.specs.Moves.{IsIn, HasClaim, IsFirstStray, unmade}
use Rattle.flat_machine.specs.History.{AreHeld}
use Rattle.flat_machine.specs.Steps.{Unmake, Refused, UnmadeGroup}
use Rattle.flat_machine.specs.Cases.{UnmakeCase, IsAllocating}
use Rattle.flat_machine.specs.declared.refusal.Refusal.{Refusal}
use Rattle.flat_machine.specs.declared.refusal.Refusal.TheVariants.{Memory, NoGroup, WrongClass, InUse, NoTicket, Outrun, VersionSpent, HopsSpent, Unwritten, Gone, SlotsHeld, ExtentTaken, SameDrive, DriveLost, Ahead, LogFull, Full, BadMember}
use Rattle.flat_machine.proofs.Holding.{step_holds, once_any}
use Rattle.flat_machine.proofs.Pairs.{turned_just, just_one, Any}
use Rattle.flat_machine.proofs.Unmakes.{held_in, held_past, held_else}
use Rattle.slot_tables.specs.declared.hand.Hand.{Hand}
use Rattle.slot_tables.specs.declared.hand.Hand.TheVariants.{Empty}
use Rattle.slot_tables.specs.Changes.{IsClosed, opened_view}
use Rattle.slot_tables.specs.Represents.{HandSlot, ShowsArray, Represents, is_claim}
use Rattle.slot_tables.specs.Views.{Kept, Nothing, Pending, Moving, Newest, Unmade, ArrayView, WorldView, IsWhole, hand_at, is_kept, kept_at, key_at}
use Rattle.slot_tables.proofs.Fares.{itself}
use Rattle.slot_tables.proofs.Kepts.{kept_iff, unkept}
use Rattle.slot_tables.proofs.Unmaking.{unmade_case}
use Rattle.slot_tables.proofs.Wholes.{slot_of_class}
use Rattle.slot_tables.specs.Claims.{how_many}
use Rattle.slot_tables.specs.Shut.{one_of, slots_in_group, CanUnmake, HasStranger, IsGiven, IsUnmakeReason, AreWorkers, IsFirstNotHeld, hand_emptied}
use Rattle.slot_tables.proofs.Shutting.{is_first, first_of, of_first, first_one, one_first, free_kept}

-- a slot below a group's count has a class
some_class : (segments : ℕ) (o : Option Group) (i : ℕ) → i < slots_in segments o → class_below segments o i ≢ None
some_class segments None i low = absurd (omega (arith, low))
some_class segments (Some group) i low = λ e. let bad : Some group.class ≡ None = ap (λ q. cond q (Some group.class) None) (sym (below i (slot_count group.class (length group.members) segments) low)) ∙ e in cc
  where
    below : (i n : ℕ) → i < n → nat_lt i n ≡ true
    below i n less = grind (arith, nat_tests)

-- nothing is kept of a slot that the array holds for nobody
nothing_kept : (kept : Kept) → is_kept kept ≡ false → kept ≡ Nothing
nothing_kept Nothing e = refl
nothing_kept (Pending k) e = absurd (cc)
nothing_kept (Moving r k) e = absurd (cc)
nothing_kept (Newest b) e = absurd (cc)
nothing_kept Unmade e = absurd (cc)

-- a group's first slots are those that are in it
in_of : (a : ArrayView) (F : Flat) (g slot : ℕ) → F.groups ≡ a.parts.groups → is_first g (slots_in_group a g) slot ≡ true → IsIn F g slot
in_of a F g slot same first =
    let y = of_first g (slots_in_group a g) slot first in
    record {
      group = y.0;
      made = subst (λ (z : Groups). class_at z slot ≢ None) (sym same) (some_class a.parts.groups.segments (group_at a.parts.groups (slot / 128)) (slot % 128)
          (subst (λ h. slot % 128 < slots_in a.parts.groups.segments (group_at a.parts.groups h)) (sym y.0) y.1));
    }

of_in : (a : ArrayView) (F : Flat) (g slot : ℕ) → F.groups ≡ a.parts.groups → IsIn F g slot → is_first g (slots_in_group a g) slot ≡ true
of_in a F g slot same is = first_of g (slots_in_group a g) slot is.group
    (subst (λ h. slot % 128 < slots_in a.parts.groups.segments (group_at a.parts.groups h)) is.group (slot_of_class a.parts.groups slot (subst (λ (z : Groups). class_at z slot ≢ None) same is.made)))

module _ {C : Type 0} (names : C → ℕ) (a : ArrayView) (F : Flat) (w g : ℕ) (claims : List C) (shows : ShowsArray a F) (workers : AreWorkers names F w g claims) where
  same : F.groups ≡ a.parts.groups
  same = shows.tables.groups

  had : group_at a.parts.groups g ≢ None → (slot : ℕ) → how_many names claims slot ≡ cond (F.held slot (Worker w)) (one_of g (slots_in_group a g) slot) 0
  had = subst (λ (z : Groups). group_at z g ≢ None → (slot : ℕ) → how_many names claims slot ≡ cond (F.held slot (Worker w)) (one_of g (slots_in z.segments (group_at z g)) slot) 0) same workers

  -- a claim that was given is the worker's, and so is one that the worker has given
  held_of : group_at a.parts.groups g ≢ None → (slot : ℕ) → 0 < how_many names claims slot → F.held slot (Worker w) ≡ true
  held_of made slot some = go (F.held slot (Worker w)) (had made slot)
    where
      go : (q : Bool) → how_many names claims slot ≡ cond q (one_of g (slots_in_group a g) slot) 0 → q ≡ true
      go true e = refl
      go false e = absurd (omega (arith, some, e))

  claim_of : group_at a.parts.groups g ≢ None → (slot : ℕ) → IsGiven names a claims slot → HasClaim F w slot
  claim_of made slot given = (held_of made slot given.0, unkept a F slot given.1 shows)

  given_of : group_at a.parts.groups g ≢ None → (slot : ℕ) → 0 < one_of g (slots_in_group a g) slot → HasClaim F w slot → IsGiven names a claims slot
  given_of made slot some claim = (
    let e = had made slot in let is : how_many names claims slot ≡ one_of g (slots_in_group a g) slot = e ∙ ap (λ q. cond q (one_of g (slots_in_group a g) slot) 0) claim.0 in omega (arith, is, some),
    nothing_kept (kept_at a slot) (never (is_kept (kept_at a slot)) (λ e. claim.1 ((kept_iff a F slot shows).0 e))),
  )
    where
      never : (b : Bool) → (b ≡ true → ⊥) → b ≡ false
      never true n = absurd (n refl)
      never false n = refl

  -- no stranger is among a worker's claims
  no_stranger : group_at a.parts.groups g ≢ None → HasStranger names a g claims → ⊥
  no_stranger made is = go (F.held is.slot (Worker w)) (had made is.slot)
    where
      go : (q : Bool) → how_many names claims is.slot ≡ cond q (one_of g (slots_in_group a g) is.slot) 0 → ⊥
      go true e = let m = is.more in absurd (omega (arith, m, e))
      go false e = let m = is.more in absurd (omega (arith, m, e))

  pub unmake_refused : (r : Refusal) → IsUnmakeReason names a g claims r → UnmakeCase F w g (Refused r) F
  unmake_refused NoGroup (inl none) = (subst (λ (z : Groups). group_at z g ≡ None) (sym same) none, itself F)
  unmake_refused NoGroup (inr is) = (subst (λ (z : Groups). group_at z g ≡ None) (sym same) (free (group_at a.parts.groups g) refl), itself F)
    where
      free : (o : Option Group) → group_at a.parts.groups g ≡ o → group_at a.parts.groups g ≡ None
      free None e = e
      free (Some x) e = absurd (no_stranger (λ none. let bad : Some x ≡ None = sym e ∙ none in cc) is)
  unmake_refused (SlotsHeld slot) is = (
    record {
      is = in_of a F g slot same (first_one g (slots_in_group a g) slot is.is);
      stray = λ claim. is.not_given (given_of is.made slot is.is claim);
      below = λ other less of.
          claim_of is.made other (is.below other less (let one = one_first g (slots_in_group a g) other (of_in a F g other same of) in omega (arith, one)));
    },
    itself F,
  )
  unmake_refused Memory is = absurd is
  unmake_refused WrongClass is = absurd is
  unmake_refused InUse is = absurd is
  unmake_refused NoTicket is = absurd is
  unmake_refused (Outrun n) is = absurd is
  unmake_refused VersionSpent is = absurd is
  unmake_refused HopsSpent is = absurd is
  unmake_refused Unwritten is = absurd is
  unmake_refused (Gone t) is = absurd is
  unmake_refused ExtentTaken is = absurd is
  unmake_refused SameDrive is = absurd is
  unmake_refused (DriveLost d) is = absurd is
  unmake_refused (Ahead n) is = absurd is
  unmake_refused LogFull is = absurd is
  unmake_refused Full is = absurd is
  unmake_refused BadMember is = absurd is

  -- where all are given the worker has them, and the group is dissolved
  claimed : CanUnmake names a g claims → (slot : ℕ) → IsIn F g slot → HasClaim F w slot
  claimed can slot is =
      let one = one_first g (slots_in_group a g) slot (of_in a F g slot same is) in
      let all = can.all slot in
      claim_of can.made slot (omega (arith, one, all), can.free slot (omega (arith, one)))

  pub unmake_done : (v : PartsView) (kept : List Kept) → IsWhole a → CanUnmake names a g claims → WasTaken a.parts g v → IsClosed g (slots_in_group a g) a.kept kept
      → (G : Flat) × (UnmakeCase F w g (UnmadeGroup g) G) × (ShowsArray (opened_view a v kept) G)
  unmake_done v kept whole can taken closed = unmade_case a v kept g whole can.made taken closed (free_kept names a g claims can) F w shows (claimed can)

-- a slot that a worker holds the array holds for nobody
unkept_claim : (F : Flat) (w slot : ℕ) → AreHeld F → F.held slot (Worker w) ≡ true → IsArrayHeld F slot → ⊥
unkept_claim F w slot held mine (k, of, has) = not_workers k of (held.once slot (Worker w) k mine has)
  where
    not_workers : (k : Holder) → IsArrays k → Worker w ≡ k → ⊥
    not_workers k (for_ticket v) e = cc
    not_workers k (for_block b) e = cc
    not_workers k (for_shut h) e = cc

-- and of a world
module _ (v : WorldView) (F : Flat) (w g : ℕ) (rep : Represents v F) where
  abbrev count : ℕ
  count = slots_in_group v.array g

  groups : F.groups ≡ v.array.parts.groups
  groups = rep.array.tables.groups

  abbrev HoldsAll : Type 0
  HoldsAll = (slot : ℕ) → 0 < one_of g count slot → is_claim (hand_at v.hands slot) w ≡ true

  claim_at : (slot : ℕ) → is_claim (hand_at v.hands slot) w ≡ true → HasClaim F w slot
  claim_at slot mine = let held = (rep.hands slot).claims w ∙ mine in (held, unkept_claim F w slot rep.held held)

  one_in : (slot : ℕ) → IsIn F g slot → 0 < one_of g count slot
  one_in slot is = let one = one_first g count slot (of_in v.array F g slot groups is) in omega (arith, one)

  all_claims : HoldsAll → (slot : ℕ) → IsIn F g slot → HasClaim F w slot
  all_claims all slot is = claim_at slot (all slot (one_in slot is))

  pub unmake_needs : group_at v.array.parts.groups g ≢ None → HoldsAll → IsAllocating F (Unmake w g)
  unmake_needs made all = (subst (λ (z : Groups). group_at z g ≢ None) (sym groups) made, all_claims all)

  pub first_stray : (slot : ℕ) → IsFirstNotHeld v.hands w g count slot → IsFirstStray F w g slot
  first_stray slot is = record {
    is = in_of v.array F g slot groups (first_one g count slot is.is);
    stray = λ claim. let bad : true ≡ false = sym claim.0 ∙ (rep.hands slot).claims w ∙ is.not_held in cc;
    below = λ other less of. claim_at other (is.below other less (one_in other of));
  }

  -- one claim of each slot is exactly what such a worker has
  pub workers_of : {C : Type 0} (names : C → ℕ) (claims : List C) → HoldsAll → ((slot : ℕ) → how_many names claims slot ≡ one_of g count slot) → AreWorkers names F w g claims
  workers_of {C} names claims all are = subst (λ (z : Groups). group_at z g ≢ None → (slot : ℕ)
      → how_many names claims slot ≡ cond (F.held slot (Worker w)) (one_of g (slots_in z.segments (group_at z g)) slot) 0) (sym groups) (λ made slot. go slot (is_first g count slot) refl)
    where
      held : (slot : ℕ) → is_first g count slot ≡ true → F.held slot (Worker w) ≡ true
      held slot first = let one = one_first g count slot first in (rep.hands slot).claims w ∙ all slot (omega (arith, one))

      go : (slot : ℕ) (b : Bool) → is_first g count slot ≡ b → how_many names claims slot ≡ cond (F.held slot (Worker w)) (one_of g count slot) 0
      go slot true first = are slot ∙ sym (ap (λ q. cond q (one_of g count slot) 0) (held slot first))
      go slot false other = are slot ∙ ap (λ b. cond b 1 0) other ∙ sym (none (F.held slot (Worker w)))
        where
          none : (q : Bool) → cond q (one_of g count slot) 0 ≡ 0
          none true = ap (λ b. cond b 1 0) other
          none false = refl

  -- nobody has the group's slots in hand then
  hands_of : (hands : List Hand) → group_at F.groups g ≢ None → HoldsAll → ((slot : ℕ) → hand_at hands slot ≡ hand_emptied g count slot (hand_at v.hands slot))
      → (slot : ℕ) → HandSlot (hand_at hands slot) ((unmade F w g).held slot)
  hands_of hands made all are slot = go (is_first g count slot) refl
    where
      same_count : slots_in F.groups.segments (group_at F.groups g) ≡ count
      same_count = ap (λ (z : Groups). slots_in z.segments (group_at z g)) groups

      go : (b : Bool) → is_first g count slot ≡ b → HandSlot (hand_at hands slot) ((unmade F w g).held slot)
      go true first =
          let is = in_of v.array F g slot groups first in
          let y = of_first g count slot first in
          let mine = (all_claims all slot is).0 in
          let turned_to = held_in F (key_at v.array) w g rep.array.history made (all_claims all) slot y.0 (below (slot % 128) (slots_in F.groups.segments (group_at F.groups g)) count y.1 same_count) in
          let just = turned_just Any F.held slot (Worker w) (Shut g) (just_one Any (F.held slot) (Worker w) (once_any F rep.held slot) tt mine) in
          subst (λ h. HandSlot h ((unmade F w g).held slot)) (sym (are slot ∙ ap (λ b. cond b Empty (hand_at v.hands slot)) first))
          (subst (λ (h : Holder → Bool). HandSlot Empty h) (sym turned_to) (record { claims = λ u. just (Worker u) tt; tickets = λ u. just (Ticket u) tt }))
        where
          below : (i n m : ℕ) → i < m → n ≡ m → nat_lt i n ≡ true
          below i n m less e = grind (arith, nat_tests)
      go false other = subst (λ h. HandSlot h ((unmade F w g).held slot)) (sym (are slot ∙ ap (λ b. cond b Empty (hand_at v.hands slot)) other))
          (subst (λ (h : Holder → Bool). HandSlot (hand_at v.hands slot) h) (sym (else_held (cases_eq (slot / 128) g))) (rep.hands slot))
        where
          past : (i n m : ℕ) → (i < m → ⊥) → n ≡ m → nat_lt i n ≡ false
          past i n m high e = grind (arith, nat_tests)

          else_held : (slot / 128 ≡ g) ⊎ (slot / 128 ≡ g → ⊥) → (unmade F w g).held slot ≡ F.held slot
          else_held (inl e) = held_past F (key_at v.array) w g rep.array.history made (all_claims all) slot e
              (past (slot % 128) (slots_in F.groups.segments (group_at F.groups g)) count (λ low. let bad : true ≡ false = sym (first_of g count slot e low) ∙ other in cc) same_count)
          else_held (inr ne) = held_else F (key_at v.array) w g rep.array.history made (all_claims all) slot ne

  pub unmake_world : (a : ArrayView) (hands : List Hand) → HoldsAll → ((slot : ℕ) → hand_at hands slot ≡ hand_emptied g count slot (hand_at v.hands slot))
      → (G : Flat) × (UnmakeCase F w g (UnmadeGroup g) G) × (ShowsArray a G) → (G : Flat) × (UnmakeCase F w g (UnmadeGroup g) G) × (Represents (record { array = a; hands = hands }) G)
  unmake_world a hands all are y = (
    y.0,
    y.1,
    record {
      array = y.2;
      held = step_holds F y.0 (key_at v.array) (Unmake w g) (UnmadeGroup g) rep.array.history rep.held tt y.1;
      hands = λ slot. subst (λ (H : Flat). HandSlot (hand_at hands slot) (H.held slot)) (sym y.1.3.same) (hands_of hands y.1.1 all are slot);
    },
  )

-- what holds in any case holds in the case of an error
pub on_err : {T E P : Type 0} (r : Result T E) → P → OnErr r P
on_err (Ok x) p = tt
on_err (Err e) p = p
