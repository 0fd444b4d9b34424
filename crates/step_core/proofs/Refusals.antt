-- What a world's step answers, whether its array carried it out or refused it.
use Rattle.std.proofs.Common.{◌≡◌, ◌≢◌, ℕ, List, [], refl, sym, ap, ◌∙◌, subst, inl, inr, Option, Some, None, Vec, Result, Ok, Err, IsOk, IfOk, OnErr, MatchResult}
use Rattle.std.specs.Global.{Global}
use Rattle.std.specs.declared.alloc.AllocError.{AllocError}
use Rattle.map_join.specs.declared.records.Record.{Record}
use Rattle.extent_groups.specs.Groups.{Groups}
use Rattle.extent_groups.specs.declared.class.Class.{Class}
use Rattle.extent_groups.specs.declared.class.Member.{Member}
use Rattle.unit_store.specs.Views.{Entered}
use Rattle.flat_machine.specs.declared.refusal.Refusal.{Refusal}
use Rattle.flat_machine.specs.declared.refusal.Refusal.TheVariants.{Memory, Gone, DriveLost}
use Rattle.flat_machine.specs.Flat.{Flat}
use Rattle.flat_machine.specs.Steps.{FlatStep, Seen, Read, Found, MoveExtent, MovedExtent, Refused}
use Rattle.flat_machine.specs.Cases.{Case, MoveCase, ReadCase, IsAllocating}
use Rattle.flat_machine.specs.History.{IsValidStep}
use Rattle.slot_tables.specs.Changes.{MayRefuse}
use Rattle.slot_tables.specs.Reads.{WasNotRead, WasSeen}
use Rattle.slot_tables.specs.Represents.{ShowsArray, Represents}
use Rattle.slot_tables.specs.Views.{ArrayView, WorldView, SameSizes}
use Rattle.slot_tables.proofs.Hands.{as_world}
use Rattle.step_core.specs.declared.step.Answer.{Answer}
use Rattle.step_core.specs.declared.step.Answer.TheVariants as answer
use Rattle.disk_array.specs.Reads.{WasFound, WasFoundIn, WasNotFound, version_in}
use Rattle.disk_array.specs.Refused.{IsRefused, OnlyLoses}
use Rattle.step_core.specs.Reported.{flat_answer, read_answer}
use Rattle.step_core.proofs.Worlds.{stays_world, refused_world, move_world}

-- what a refusal means, if it is not out of memory, and if it is
pub refused_of : (r : Refusal) (W P : Type 0) → MayRefuse r W P → r ≢ Memory → P
refused_of Memory W P may ne = absurd (ne refl)
refused_of _ W P may ne = may

pub expected_of : (r : Refusal) (W P : Type 0) → MayRefuse r W P → r ≡ Memory → W
expected_of r W P may is = subst (λ q. MayRefuse q W P) is may

-- a refusal that isn't out of memory is an answer
pub answered : (result : Result Answer AllocError) (r : Refusal) → OnErr result (r ≡ Memory) → r ≢ Memory → IsOk result
answered (Ok answer) r out ne = refl
answered (Err e) r out ne = absurd (ne out)

-- arrays with the same tables have the same sizes
pub same_sizes : (a b : ArrayView) → b.parts.groups ≡ a.parts.groups → SameSizes a b
same_sizes a b same = record { payload = ap (λ (z : Groups). z.payload) same; blocks = ap (λ (z : Groups). z.blocks) same }

-- a refused call leaves the tables as they were
loses_sizes : (a b : ArrayView) → OnlyLoses a b → SameSizes a b
loses_sizes a b only = same_sizes a b only.1.rest.groups

pub refused_sizes : (a b : ArrayView) (r : Refusal) → IsRefused a b r → SameSizes a b
refused_sizes a b (Gone slot) is = loses_sizes a b is
refused_sizes a b (DriveLost drive) is = loses_sizes a b is
refused_sizes a b _ is = same_sizes a b (ap (λ (x : ArrayView). x.parts.groups) is)

-- a call that runs out of memory did nothing
pub refused_same : (a b : ArrayView) (r : Refusal) → IsRefused a b r → r ≡ Memory → b ≡ a
refused_same a b r is memory = subst (IsRefused a b) memory is

-- what the contract of a world's step says: its answer is the flat machine's, without one it ran out of memory and did nothing,
-- and the sizes stay
pub record WasStep (v w : WorldView) (step : FlatStep) (result : Result Answer AllocError) : Type 0 where
  pub ok : IfOk result (λ answer. (F : Flat) → Represents v F → (G : Flat) × (Case F step (flat_answer answer) G) × (Represents w G))
  pub err : OnErr result (w ≡ v)
  pub needs : OnErr result ((F : Flat) → Represents v F → IsAllocating F step)
  pub room : SameSizes v.array w.array

-- a step that was refused
pub was_refused : (v w : WorldView) (a : ArrayView) (step : FlatStep) (r : Refusal) (result : Result Answer AllocError) → w ≡ record { array = a; hands = v.hands }
    → IfOk result (λ reported. (reported ≡ answer.Refused r) × (r ≢ Memory)) → OnErr result (r ≡ Memory)
    → ((F : Flat) → Represents v F → IsValidStep F.groups step)
    → SameSizes v.array a → (r ≡ Memory → a ≡ v.array)
    → ((F : Flat) → Represents v F → MayRefuse r (IsAllocating F step) ((G : Flat) × (Case F step (Refused r) G) × (ShowsArray a G)))
    → WasStep v w step result
was_refused v w a step r (Ok reported) is ok err fits sizes same may = record {
  ok = λ F rep. as_world (λ G. Case F step (flat_answer reported) G) w (record { array = a; hands = v.hands }) is
      (subst (λ x. (G : Flat) × (Case F step (flat_answer x) G) × (Represents (record { array = a; hands = v.hands }) G)) (sym ok.0)
      (refused_world v F step r a (fits F rep) rep
      (refused_of r (IsAllocating F step) ((G : Flat) × (Case F step (Refused r) G) × (ShowsArray a G)) (may F rep) ok.1)));
  err = tt;
  needs = tt;
  room = subst (λ (x : WorldView). SameSizes v.array x.array) (sym is) sizes;
}
was_refused v w a step r (Err e) is ok err fits sizes same may = record {
  ok = tt;
  err = is ∙ ap (λ x. record { array = x; hands = v.hands }) (same err);
  needs = λ F rep. expected_of r (IsAllocating F step) ((G : Flat) × (Case F step (Refused r) G) × (ShowsArray a G)) (may F rep) err;
  room = subst (λ (x : WorldView). SameSizes v.array x.array) (sym is) sizes;
}

-- a call of the world itself that was refused
pub step_refused : (v w : WorldView) (step : FlatStep) (r : Refusal) (result : Result Answer AllocError)
    → IfOk result (λ reported. (reported ≡ answer.Refused r) × (r ≢ Memory)) → OnErr result (r ≡ Memory) → SameSizes v.array w.array → (r ≡ Memory → w ≡ v)
    → ((F : Flat) → Represents v F → MayRefuse r (IsAllocating F step) ((G : Flat) × (Case F step (Refused r) G) × (Represents w G)))
    → WasStep v w step result
step_refused v w step r (Ok reported) ok err sizes same may = record {
  ok = λ F rep. subst (λ x. (G : Flat) × (Case F step (flat_answer x) G) × (Represents w G)) (sym ok.0)
      (refused_of r (IsAllocating F step) ((G : Flat) × (Case F step (Refused r) G) × (Represents w G)) (may F rep) ok.1);
  err = tt;
  needs = tt;
  room = sizes;
}
step_refused v w step r (Err e) ok err sizes same may = record {
  ok = tt;
  err = same err;
  needs = λ F rep. expected_of r (IsAllocating F step) ((G : Flat) × (Case F step (Refused r) G) × (Represents w G)) (may F rep) err;
  room = sizes;
}

-- what an array may refuse, its world may
refused_may : (v : WorldView) (F : Flat) (step : FlatStep) (r : Refusal) (a : ArrayView) (W : Type 0) → IsValidStep F.groups step → Represents v F
    → MayRefuse r W ((G : Flat) × (Case F step (Refused r) G) × (ShowsArray a G))
    → MayRefuse r W ((G : Flat) × (Case F step (Refused r) G) × (Represents (record { array = a; hands = v.hands }) G))
refused_may v F step Memory a W fits rep may = may
refused_may v F step r a W fits rep may = refused_world v F step r a fits rep may

-- a member that was moved, or wasn't
pub moves : (u v : WorldView) (a : ArrayView) (g k : ℕ) (to : Member) (result : Result (Unit {0}) Refusal) → u ≡ v
    → ((F : Flat) → ShowsArray u.array F → MatchResult result (λ done. (G : Flat) × (MoveCase F g k to MovedExtent G) × (ShowsArray a G))
    (λ r. MayRefuse r (IsAllocating F (MoveExtent g k to)) ((G : Flat) × (MoveCase F g k to (Refused r) G) × (ShowsArray a G))))
    → (F : Flat) → Represents v F
    → MatchResult result (λ done. (G : Flat) × (MoveCase F g k to MovedExtent G) × (Represents (record { array = a; hands = u.hands }) G))
    (λ r. MayRefuse r (IsAllocating F (MoveExtent g k to)) ((G : Flat) × (MoveCase F g k to (Refused r) G) × (Represents (record { array = a; hands = u.hands }) G)))
moves u v a g k to (Ok done) is does F rep =
    let as_u = subst (λ (w : WorldView). Represents w F) (sym is) rep in
    move_world u F g k to a as_u (does F as_u.array)
moves u v a g k to (Err r) is does F rep =
    let as_u = subst (λ (w : WorldView). Represents w F) (sym is) rep in
    refused_may u F (MoveExtent g k to) r a (IsAllocating F (MoveExtent g k to)) tt as_u (does F as_u.array)

-- what is known of a world is known of one that is equal
sizes_of : (u v : WorldView) (a : ArrayView) → u ≡ v → SameSizes u.array a → SameSizes v.array a
sizes_of u v a is sizes = subst (λ (x : WorldView). SameSizes x.array a) is sizes

shows_of : (u v : WorldView) (F : Flat) → u ≡ v → Represents v F → ShowsArray u.array F
shows_of u v F is rep = subst (λ (x : WorldView). ShowsArray x.array F) (sym is) rep.array

-- a step that the array carried out, and the hands stay
pub array_done : (u v : WorldView) (a : ArrayView) (step : FlatStep) (reported : Answer) (result : Result Answer AllocError) → u ≡ v → result ≡ Ok reported → SameSizes u.array a
    → ((F : Flat) → Represents v F → ShowsArray u.array F → (G : Flat) × (Case F step (flat_answer reported) G) × (Represents (record { array = a; hands = v.hands }) G))
    → WasStep v (record { array = a; hands = u.hands }) step result
array_done u v a step reported result is answered sizes does = subst (WasStep v (record { array = a; hands = u.hands }) step) (sym answered) (record {
  ok = λ F rep. as_world (λ G. Case F step (flat_answer reported) G) (record { array = a; hands = u.hands }) (record { array = a; hands = v.hands })
      (ap (λ (x : WorldView). record { array = a; hands = x.hands }) is) (does F rep (shows_of u v F is rep));
  err = tt;
  needs = tt;
  room = sizes_of u v a is sizes;
})

-- and one that it refused
pub array_refused : (u v : WorldView) (a : ArrayView) (step : FlatStep) (r : Refusal) (reported result : Result Answer AllocError) → u ≡ v → result ≡ reported
    → IfOk reported (λ x. (x ≡ answer.Refused r) × (r ≢ Memory)) → OnErr reported (r ≡ Memory)
    → ((F : Flat) → Represents v F → IsValidStep F.groups step)
    → SameSizes u.array a → (r ≡ Memory → a ≡ u.array)
    → ((F : Flat) → Represents v F → ShowsArray u.array F → MayRefuse r (IsAllocating F step) ((G : Flat) × (Case F step (Refused r) G) × (ShowsArray a G)))
    → WasStep v (record { array = a; hands = u.hands }) step result
array_refused u v a step r reported result is answered ok err fits sizes same may = subst (WasStep v (record { array = a; hands = u.hands }) step) (sym answered)
    (was_refused v (record { array = a; hands = u.hands }) a step r reported (ap (λ (x : WorldView). record { array = a; hands = x.hands }) is) ok err fits
    (sizes_of u v a is sizes) (λ memory. same memory ∙ ap (λ (x : WorldView). x.array) is) (λ F rep. may F rep (shows_of u v F is rep)))

-- the sizes stay where a group is made
pub made_sizes : (a b : ArrayView) (g : ℕ) (class : Class) (members : List Member) → Entered a.parts g class members b.parts → SameSizes a b
made_sizes a b g class members e = record { payload = ap (λ (z : Groups). z.payload) e.groups; blocks = ap (λ (z : Groups). z.blocks) e.groups }

-- and where a block is read, or isn't
found_in_sizes : (a b : ArrayView) (block : ℕ) (found : Option ℕ) (bytes : List ℕ) → WasFoundIn a b block found bytes → SameSizes a b
found_in_sizes a b block None bytes (inl is) = same_sizes a b (ap (λ (x : ArrayView). x.parts.groups) is.1)
found_in_sizes a b block None bytes (inr is) = same_sizes a b is.2.loses.rest.groups
found_in_sizes a b block (Some version) bytes is = same_sizes a b is.3.loses.rest.groups

pub found_sizes : (a b : ArrayView) (block : ℕ) (found : Option (ℕ × Vec ℕ Global)) → WasFound a b block found → SameSizes a b
found_sizes a b block None is = found_in_sizes a b block None [] is
found_sizes a b block (Some found) is = found_in_sizes a b block (Some found.0) found.1.items is

unread_sizes : (a b : ArrayView) (slot : ℕ) (r : Refusal) → WasNotRead a b slot r → SameSizes a b
unread_sizes a b slot r (inl is) = same_sizes a b (ap (λ (x : ArrayView). x.parts.groups) is.1)
unread_sizes a b slot r (inr gone) = same_sizes a b gone.loses.rest.groups

pub not_found_sizes : (a b : ArrayView) (block : ℕ) (r : Refusal) → WasNotFound a b block r → SameSizes a b
not_found_sizes a b block r is = unread_sizes a b is.0.place r is.2

unread_same : (a b : ArrayView) (slot : ℕ) (r : Refusal) → WasNotRead a b slot r → r ≡ Memory → b ≡ a
unread_same a b slot r (inl is) memory = is.1
unread_same a b slot r (inr gone) memory = let bad : Memory ≡ Gone slot = sym memory ∙ gone.reported in absurd (cc)

pub not_found_same : (a b : ArrayView) (block : ℕ) (r : Refusal) → WasNotFound a b block r → r ≡ Memory → b ≡ a
not_found_same a b block r is = unread_same a b is.0.place r is.2

read_stays : (v : WorldView) (a : ArrayView) (F : Flat) (block : ℕ) (result : Result (Option ℕ) Refusal) (bytes : List ℕ) → Represents v F
    → MatchResult result (λ found. (G : Flat) × (ReadCase F block (Found (version_in found bytes)) G) × (ShowsArray a G))
    (λ r. (G : Flat) × (ReadCase F block (Refused r) G) × (ShowsArray a G))
    → (G : Flat) × (ReadCase F block (read_answer result bytes) G) × (Represents (record { array = a; hands = v.hands }) G)
read_stays v a F block (Ok found) bytes rep y = stays_world v F (Read block) (Found (version_in found bytes)) a tt rep y y.1.2
read_stays v a F block (Err r) bytes rep y = refused_world v F (Read block) r a tt rep y

pub read_does : (u v : WorldView) (a : ArrayView) (F : Flat) (block : ℕ) (result : Result (Option ℕ) Refusal) (bytes : List ℕ) → u ≡ v → Represents v F
    → ((T : Flat) → ShowsArray u.array T → MatchResult result (λ found. (G : Flat) × (ReadCase T block (Found (version_in found bytes)) G) × (ShowsArray a G))
    (λ r. (G : Flat) × (ReadCase T block (Refused r) G) × (ShowsArray a G)))
    → (G : Flat) × (ReadCase F block (read_answer result bytes) G) × (Represents (record { array = a; hands = u.hands }) G)
read_does u v a F block result bytes is rep does =
    as_world (λ G. ReadCase F block (read_answer result bytes) G) (record { array = a; hands = u.hands }) (record { array = a; hands = v.hands })
    (ap (λ (x : WorldView). record { array = a; hands = x.hands }) is) (read_stays v a F block result bytes rep (does F (shows_of u v F is rep)))

-- and where a record's place is seen
pub seen_sizes : (a b : ArrayView) (asked : Record) (seen : Seen) → WasSeen a b asked seen → SameSizes a b
seen_sizes a b asked seen (inl is) = same_sizes a b (ap (λ (x : ArrayView). x.parts.groups) is.2)
seen_sizes a b asked seen (inr saw) = same_sizes a b saw.loses.rest.groups
