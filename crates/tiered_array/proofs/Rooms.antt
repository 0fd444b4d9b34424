-- Making room and writing while there is room, as their cases.
use Rattle.std.proofs.Common.{◌≡◌, ℕ, inl, inr, refl, sym, subst, Option, Some, None, Result, Ok, Err}
use Rattle.std.specs.Prelude.{IfOk, OnErr}
use Rattle.flat_machine.specs.declared.refusal.Refusal.{Refusal}
use Rattle.flat_machine.specs.Flat.{Content}
use Rattle.slot_tables.specs.Views.{ArrayView, key_at}
use Rattle.migrator.specs.First.{IsFirst}
use Rattle.tiered_array.specs.Tiered.{Tiered}
use Rattle.tiered_array.specs.Placing.{Fresh, Again}
use Rattle.tiered_array.specs.Steps.{AppendsAt, MovesTo, WritesAt, PutStops, IsFreeMirror}
use Rattle.tiered_array.specs.Room.{IsFirstOf, IsHole, IsOpenHole, IsOpenMirror, RoomCase, RoomStops, SpareCase, SpareStops, AlwaysCase, AlwaysStops, IsWayOut, AfterRoom, WritesAgain}
use Rattle.tiered_array.specs.Matches.{RepresentsTiers}
use Rattle.tiered_array.specs.Planning.{IsNextAppend}
use Rattle.tiered_array.specs.declared.planner.Planner.{Planner}
use Rattle.tiered_array.specs.declared.outcome.Outcome.{Outcome}
use Rattle.tiered_array.specs.declared.outcome.Outcome.TheVariants.{Placed, Refused, NoRoom, Nothing}
use Rattle.tiered_array.specs.Views.{TiersView}
use Rattle.tiered_array.proofs.Standing.{map_of}
use Rattle.tiered_array.proofs.Due.{DueIs, IsOpenHere, next_is}

-- which slot is the lowest hole, for each state that is represented; what is kept represents that state too
abbrev pub FirstHole : TiersView → TiersView → Option ℕ → Type 0
FirstHole t m slot = (T : Tiered) → RepresentsTiers t T → IsFirstOf (IsHole T) (IsOpenHole T) slot × RepresentsTiers m T

module _ (t : TiersView) (p : Planner) (a : ArrayView) (w b : ℕ) (array : a ≡ t.world.array) (planner : p ≡ t.planner) (due : DueIs t (Some b)) where
  matches_so : (T : Tiered) → RepresentsTiers t T → RepresentsTiers (record t { planner = p }) T
  matches_so T matches = subst (λ (q : Planner). RepresentsTiers (record t { planner = q }) T) (sym planner) matches

  -- where the log goes on
  pub rooms_on : {E : Type 0} (u : TiersView) (s : ℕ) (r : Result Outcome E) → IsNextAppend a p (IsOpenHere t) (Some s)
      → IfOk r (λ o. (T : Tiered) → RepresentsTiers (record t { planner = p }) T → (U : Tiered) × AppendsAt T w b s o U × RepresentsTiers u U)
      → IfOk r (λ o. (T : Tiered) → RepresentsTiers t T → (U : Tiered) × RoomCase T w o U × RepresentsTiers u U)
  rooms_on u s (Err e) next done = tt
  rooms_on u s (Ok o) next done = λ T matches.
      let d = done T (matches_so T matches) in (
        d.0,
        record {
          keys = key_at t.world.array;
          map_of = map_of t T matches;
          chosen = Some b;
          due = due T matches;
          done = inl (record { slot = s; first = next_is t p a T (Some s) array planner matches next; done = d.1 });
        },
        d.2,
      )

  -- into a hole, or nowhere
  pub rooms_aside : {E : Type 0} (m u : TiersView) (s : ℕ) (r : Result Outcome E) → IsNextAppend a p (IsOpenHere t) None
      → FirstHole (record t { planner = p }) m (Some s)
      → IfOk r (λ o. (T : Tiered) → RepresentsTiers m T → (U : Tiered) × MovesTo T w b s o U × RepresentsTiers u U)
      → IfOk r (λ o. (T : Tiered) → RepresentsTiers t T → (U : Tiered) × RoomCase T w o U × RepresentsTiers u U)
  rooms_aside m u s (Err e) next hole done = tt
  rooms_aside m u s (Ok o) next hole done = λ T matches.
      let h = hole T (matches_so T matches) in
      let d = done T h.1 in (
        d.0,
        record {
          keys = key_at t.world.array;
          map_of = map_of t T matches;
          chosen = Some b;
          due = due T matches;
          done = inr (record { nowhere = next_is t p a T None array planner matches next; hole = Some s; first = h.0; done = d.1 });
        },
        d.2,
      )

  pub rooms_nowhere : (m : TiersView) → IsNextAppend a p (IsOpenHere t) None → FirstHole (record t { planner = p }) m None
      → (T : Tiered) → RepresentsTiers t T → (U : Tiered) × RoomCase T w NoRoom U × RepresentsTiers m U
  rooms_nowhere m next hole T matches =
      let h = hole T (matches_so T matches) in (
        T,
        record {
          keys = key_at t.world.array;
          map_of = map_of t T matches;
          chosen = Some b;
          due = due T matches;
          done = inr (record {
            nowhere = next_is t p a T None array planner matches next;
            hole = None;
            first = h.0;
            done = record { reported = refl; same = refl };
          });
        },
        h.1,
      )

  -- out of memory in the put
  room_stops : {E : Type 0} (m u : TiersView) (s : ℕ) (r : Result Outcome E) → ((T : Tiered) → RepresentsTiers t T → IsWayOut T (key_at t.world.array) s × RepresentsTiers m T)
      → OnErr r ((T : Tiered) → RepresentsTiers m T → (U : Tiered) × PutStops T w Again b s U × RepresentsTiers u U)
      → OnErr r ((T : Tiered) → RepresentsTiers t T → (U : Tiered) × RoomStops T w U × RepresentsTiers u U)
  room_stops m u s (Ok o) way stopped = tt
  room_stops m u s (Err e) way stopped = λ T matches.
      let out = way T matches in
      let d = stopped T out.1 in (
        d.0,
        record {
          keys = key_at t.world.array;
          map_of = map_of t T matches;
          block = b;
          due = due T matches;
          slot = s;
          way = out.0;
          stops = d.1;
        },
        d.2,
      )

  pub stops_on : {E : Type 0} (u : TiersView) (s : ℕ) (r : Result Outcome E) → IsNextAppend a p (IsOpenHere t) (Some s)
      → OnErr r ((T : Tiered) → RepresentsTiers (record t { planner = p }) T → (U : Tiered) × PutStops T w Again b s U × RepresentsTiers u U)
      → OnErr r ((T : Tiered) → RepresentsTiers t T → (U : Tiered) × RoomStops T w U × RepresentsTiers u U)
  stops_on u s r next stopped =
      room_stops (record t { planner = p }) u s r (λ T matches. (inl (next_is t p a T (Some s) array planner matches next), matches_so T matches)) stopped

  pub stops_aside : {E : Type 0} (m u : TiersView) (s : ℕ) (r : Result Outcome E) → IsNextAppend a p (IsOpenHere t) None
      → FirstHole (record t { planner = p }) m (Some s)
      → OnErr r ((T : Tiered) → RepresentsTiers m T → (U : Tiered) × PutStops T w Again b s U × RepresentsTiers u U)
      → OnErr r ((T : Tiered) → RepresentsTiers t T → (U : Tiered) × RoomStops T w U × RepresentsTiers u U)
  stops_aside m u s r next hole stopped =
      room_stops m u s r
      (λ T matches. let h = hole T (matches_so T matches) in (inr (next_is t p a T None array planner matches next, h.0), h.1)) stopped

pub rooms_nothing : (t : TiersView) (p : Planner) (w : ℕ) → p ≡ t.planner → DueIs t None
    → (T : Tiered) → RepresentsTiers t T → (U : Tiered) × RoomCase T w Nothing U × RepresentsTiers (record t { planner = p }) U
rooms_nothing t p w planner due T matches = (
  T,
  record {
    keys = key_at t.world.array;
    map_of = map_of t T matches;
    chosen = None;
    due = due T matches;
    done = record { reported = refl; same = refl };
  },
  subst (λ (q : Planner). RepresentsTiers (record t { planner = q }) T) (sym planner) matches,
)

-- which slot is the lowest open one of mirrored groups, for each state that is represented
abbrev pub FirstOpen : TiersView → TiersView → Option ℕ → Type 0
FirstOpen t m slot = (T : Tiered) → RepresentsTiers t T → IsFirst (IsOpenMirror T) slot × RepresentsTiers m T

-- one is kept open
pub spares_none : {E : Type 0} (t m u : TiersView) (w : ℕ) (r : Result Outcome E) → FirstOpen t m None
    → IfOk r (λ o. (T : Tiered) → RepresentsTiers m T → (U : Tiered) × RoomCase T w o U × RepresentsTiers u U)
    → IfOk r (λ o. (T : Tiered) → RepresentsTiers t T → (U : Tiered) × SpareCase T w o U × RepresentsTiers u U)
spares_none t m u w (Err e) first done = tt
spares_none t m u w (Ok o) first done = λ T matches.
    let f = first T matches in
    let d = done T f.1 in (d.0, record { slot = None; first = f.0; done = d.1 }, d.2)

pub spares_one : (t m : TiersView) (w s : ℕ) → FirstOpen t m (Some s)
    → (T : Tiered) → RepresentsTiers t T → (U : Tiered) × SpareCase T w Nothing U × RepresentsTiers m U
spares_one t m w s first T matches =
    let f = first T matches in (T, record { slot = Some s; first = f.0; done = record { reported = refl; same = refl } }, f.1)

pub spare_stops : {E : Type 0} (t m u : TiersView) (w : ℕ) (r : Result Outcome E) → FirstOpen t m None
    → OnErr r ((T : Tiered) → RepresentsTiers m T → (U : Tiered) × RoomStops T w U × RepresentsTiers u U)
    → OnErr r ((T : Tiered) → RepresentsTiers t T → (U : Tiered) × SpareStops T w U × RepresentsTiers u U)
spare_stops t m u w (Ok o) first stopped = tt
spare_stops t m u w (Err e) first stopped = λ T matches.
    let f = first T matches in
    let d = stopped T f.1 in (d.0, record { first = f.0; stops = d.1 }, d.2)

-- a second look for a slot
abbrev pub LooksAgain : TiersView → TiersView → ℕ → ℕ → Content → Outcome → Type 0
LooksAgain t u w b x o = (T : Tiered) → RepresentsTiers t T → (U : Tiered) × WritesAgain T w b x o U × RepresentsTiers u U

abbrev pub AnyMirror : TiersView → TiersView → Option ℕ → Type 0
AnyMirror t m slot = (T : Tiered) → RepresentsTiers t T → IsFirstOf (IsFreeMirror T.flat) (IsOpenMirror T) slot × RepresentsTiers m T

pub looks_again : {E : Type 0} (t m u : TiersView) (w b s : ℕ) (x : Content) (r : Result Outcome E) → AnyMirror t m (Some s)
    → IfOk r (λ o. (T : Tiered) → RepresentsTiers m T → (U : Tiered) × WritesAt T w b x s o U × RepresentsTiers u U)
    → IfOk r (LooksAgain t u w b x)
looks_again t m u w b s x (Err e) first done = tt
looks_again t m u w b s x (Ok o) first done = λ T matches.
    let f = first T matches in
    let d = done T f.1 in (d.0, record { slot = Some s; first = f.0; done = d.1 }, d.2)

pub looks_none : (t m : TiersView) (w b : ℕ) (x : Content) → AnyMirror t m None → LooksAgain t m w b x NoRoom
looks_none t m w b x first T matches =
    let f = first T matches in (T, record { slot = None; first = f.0; done = record { reported = refl; same = refl } }, f.1)

-- what a write does after room was made, or none was, is that second look
pub looks_after : (t u : TiersView) (w b : ℕ) (x : Content) (moved o : Outcome) → ((k : Refusal) → moved ≡ Refused k → ⊥) → LooksAgain t u w b x o
    → (V : Tiered) → RepresentsTiers t V → (U : Tiered) × AfterRoom V w b x moved o U × RepresentsTiers u U
looks_after t u w b x (Placed r) o other again = again
looks_after t u w b x (Refused k) o other again = absurd (other k refl)
looks_after t u w b x NoRoom o other again = again
looks_after t u w b x Nothing o other again = again

-- out of memory after it
abbrev pub StopsLooking : TiersView → TiersView → ℕ → ℕ → Content → Type 0
StopsLooking t u w b x = (T : Tiered) → RepresentsTiers t T
    → (slot : ℕ) × IsFirstOf (IsFreeMirror T.flat) (IsOpenMirror T) (Some slot) × ((U : Tiered) × PutStops T w (Fresh x) b slot U × RepresentsTiers u U)

pub stops_looking : {E : Type 0} (t m u : TiersView) (w b s : ℕ) (x : Content) (r : Result Outcome E) → AnyMirror t m (Some s)
    → OnErr r ((T : Tiered) → RepresentsTiers m T → (U : Tiered) × PutStops T w (Fresh x) b s U × RepresentsTiers u U)
    → OnErr r (StopsLooking t u w b x)
stops_looking t m u w b s x (Ok o) first stopped = tt
stops_looking t m u w b s x (Err e) first stopped = λ T matches. let f = first T matches in (s, f.0, stopped T f.1)

-- the ways of a write
pub always_here : {E : Type 0} (t m u : TiersView) (w b s : ℕ) (x : Content) (r : Result Outcome E) → FirstOpen t m (Some s)
    → IfOk r (λ o. (T : Tiered) → RepresentsTiers m T → (U : Tiered) × WritesAt T w b x s o U × RepresentsTiers u U)
    → IfOk r (λ o. (T : Tiered) → RepresentsTiers t T → (U : Tiered) × AlwaysCase T w b x o U × RepresentsTiers u U)
always_here t m u w b s x (Err e) first done = tt
always_here t m u w b s x (Ok o) first done = λ T matches.
    let f = first T matches in
    let d = done T f.1 in (d.0, record { slot = Some s; first = f.0; done = d.1 }, d.2)

module _ (t m v : TiersView) (w b : ℕ) (x : Content) (none : FirstOpen t m None) where
  -- what making room leaves, from what was kept after the search
  abbrev pub Made : Outcome → Type 0
  Made o = (T : Tiered) → RepresentsTiers m T → (V : Tiered) × RoomCase T w o V × RepresentsTiers v V

  always_after : (u : TiersView) (moved o : Outcome) → Made moved
      → ((V : Tiered) → RepresentsTiers v V → (U : Tiered) × AfterRoom V w b x moved o U × RepresentsTiers u U)
      → (T : Tiered) → RepresentsTiers t T → (U : Tiered) × AlwaysCase T w b x o U × RepresentsTiers u U
  always_after u moved o out after T matches =
      let f = none T matches in
      let d = out T f.1 in
      let a = after d.0 d.2 in
      (a.0, record { slot = None; first = f.0; done = record { moved = moved; between = d.0; out = d.1; done = a.1 } }, a.2)

  pub always_following : {E : Type 0} (u : TiersView) (moved : Outcome) (r : Result Outcome E) → ((o : Outcome) → LooksAgain v u w b x o
      → (V : Tiered) → RepresentsTiers v V → (U : Tiered) × AfterRoom V w b x moved o U × RepresentsTiers u U)
      → Made moved → IfOk r (LooksAgain v u w b x)
      → IfOk r (λ o. (T : Tiered) → RepresentsTiers t T → (U : Tiered) × AlwaysCase T w b x o U × RepresentsTiers u U)
  always_following u moved (Err e) reported out again = tt
  always_following u moved (Ok o) reported out again = always_after u moved o out (reported o again)

  pub always_none : (moved o : Outcome) → ((V : Tiered) → AfterRoom V w b x moved o V) → Made moved
      → (T : Tiered) → RepresentsTiers t T → (U : Tiered) × AlwaysCase T w b x o U × RepresentsTiers v U
  always_none moved o stays out = always_after v moved o out (λ V matches. (V, stays V, matches))

  pub always_stops_following : {E : Type 0} (u : TiersView) (moved : Outcome) (r : Result Outcome E) → Made moved → OnErr r (StopsLooking v u w b x)
      → OnErr r ((T : Tiered) → RepresentsTiers t T → (U : Tiered) × AlwaysStops T w b x U × RepresentsTiers u U)
  always_stops_following u moved (Ok o) out again = tt
  always_stops_following u moved (Err e) out again = λ T matches.
      let f = none T matches in
      let d = out T f.1 in
      let a = again d.0 d.2 in (
        a.2.0,
        record { slot = None; first = f.0; stops = inr (record { moved = moved; between = d.0; out = d.1; slot = a.0; first = a.1; stops = a.2.1 }) },
        a.2.2,
      )

pub always_stops_here : {E : Type 0} (t m u : TiersView) (w b s : ℕ) (x : Content) (r : Result Outcome E) → FirstOpen t m (Some s)
    → OnErr r ((T : Tiered) → RepresentsTiers m T → (U : Tiered) × PutStops T w (Fresh x) b s U × RepresentsTiers u U)
    → OnErr r ((T : Tiered) → RepresentsTiers t T → (U : Tiered) × AlwaysStops T w b x U × RepresentsTiers u U)
always_stops_here t m u w b s x (Ok o) first stopped = tt
always_stops_here t m u w b s x (Err e) first stopped = λ T matches.
    let f = first T matches in
    let d = stopped T f.1 in (d.0, record { slot = Some s; first = f.0; stops = d.1 }, d.2)

pub always_stops_out : (t m u : TiersView) (w b : ℕ) (x : Content) → FirstOpen t m None
    → ((T : Tiered) → RepresentsTiers m T → (U : Tiered) × RoomStops T w U × RepresentsTiers u U)
    → (T : Tiered) → RepresentsTiers t T → (U : Tiered) × AlwaysStops T w b x U × RepresentsTiers u U
always_stops_out t m u w b x none stopped T matches =
    let f = none T matches in
    let d = stopped T f.1 in (d.0, record { slot = None; first = f.0; stops = inl d.1 }, d.2)
