-- A restarted world represents the restarted state.
use Rattle.std.proofs.Common.{◌≡◌, ℕ, true, List, refl, sym, ap, ◌∙◌, subst, arith}
use Rattle.map_join.specs.Record.{record_of}
use Rattle.map_join.specs.Maps.{IsMapOf, IsListOf}
use Rattle.flat_machine.specs.Flat.{Flat, Holder, Worker, Ticket, Block, Shut, IsArrays, for_ticket, for_block, for_shut}
use Rattle.flat_machine.specs.History.{IsHistory, AreHeld}
use Rattle.flat_machine.specs.Restarted.{ReportMap, restarted}
use Rattle.flat_machine.proofs.Newest.{map_unique}
use Rattle.flat_machine.proofs.Restarts.{history_reports}
use Rattle.slot_tables.specs.declared.hand.Hand.{Hand}
use Rattle.slot_tables.specs.declared.hand.Hand.TheVariants.{Empty}
use Rattle.unit_store.specs.Views.{PartsView}
use Rattle.slot_tables.specs.Views.{Kept, Nothing, Pending, Moving, Newest, Unmade, ArrayView, WorldView, SameSizes, kept_at, key_at, hand_at}
use Rattle.slot_tables.specs.Represents.{ShowsArray, HandSlot, Represents, is_newest}
use Rattle.slot_tables.specs.Adopted.{HasParts}
use Rattle.slot_tables.specs.Claims.{how_many, claims_in, AreClaimsOf, IsWorkerFree, IsNotAdopted, IsNotRestarted, WasRestarted}
use Rattle.slot_tables.specs.declared.ready.NotAdopted.{NotAdopted}
use Rattle.slot_tables.specs.declared.ready.NotAdopted.TheVariants.{Memory, NoClaim}

-- where no worker has anything, each holder is the array's own, so no slot has two
idle_held : (F : Flat) (keys : ℕ → ℕ) → IsHistory F keys → IsWorkerFree F → AreHeld F
idle_held F keys is idle = record {
  once = λ s j k hj hk. (is.holders s).once j k (arrays s j hj) (arrays s k hk) hj hk;
  inside = λ s k h. (is.holders s).inside k (arrays s k h) h;
}
  where
    arrays : (s : ℕ) (k : Holder) → F.held s k ≡ true → IsArrays k
    arrays s (Worker w) h = absurd (let e = (idle s w).0 in cc)
    arrays s (Ticket w) h = for_ticket w
    arrays s (Block b) h = for_block b
    arrays s (Shut g) h = for_shut g

-- an array that represents such a state does so in a world with empty hands
pub idle_world : (a : ArrayView) (hands : List Hand) (F : Flat) → ((s : ℕ) → hand_at hands s ≡ Empty) → ShowsArray a F → IsWorkerFree F → Represents (record { array = a; hands = hands }) F
idle_world a hands F empty shows idle = record {
  array = shows;
  held = idle_held F (key_at a) shows.history idle;
  hands = λ s. subst (λ h. HandSlot h (F.held s)) (sym (empty s)) (record { claims = λ w. (idle s w).0; tickets = λ w. (idle s w).1 });
}

-- the map of the log is the array's
own_map : (a : ArrayView) (F : Flat) (M : ℕ → ℕ) → ShowsArray a F → IsMapOf F.emitted M → key_at a ≡ M
own_map a F M shows map = λ i b. map_unique F.emitted F.emitted (key_at a) M (λ r. ((λ h. h), λ h. h)) shows.history.map map b i

-- and the units have it
pub reports_map : (a : ArrayView) (F : Flat) (M : ℕ → ℕ) → ShowsArray a F → IsMapOf F.emitted M → ReportMap F.groups F.units M
reports_map a F M shows map = subst (ReportMap F.groups F.units) (own_map a F M shows map) (history_reports F (key_at a) shows.history)

-- an array that represents a state has its parts
pub has_parts : (a : ArrayView) (F : Flat) → ShowsArray a F → HasParts a.parts F
has_parts a F shows = record {
  groups = shows.tables.groups;
  drives = shows.tables.drives;
  lost = shows.tables.lost;
  failures = shows.tables.failures;
  units = shows.units;
}

-- the array keeps a claim of each place of its map
none_unclaimed : {C : Type 0} (names : C → ℕ) (claims : List C) (a : ArrayView) (F : Flat) (M : ℕ → ℕ) (why : NotAdopted) → ShowsArray a F → IsMapOf F.emitted M
    → AreClaimsOf names a claims → IsNotAdopted names claims M why → why ≡ Memory
none_unclaimed names claims a F M Memory shows map are is = refl
none_unclaimed {C} names claims a F M (NoClaim slot) shows map are is = absurd (go (kept_at a slot) (are slot) newest)
  where
    same : key_at a is.block ≡ M is.block
    same = ap (λ (f : ℕ → ℕ). f is.block) (own_map a F M shows map)

    place : (record_of is.block (key_at a is.block)).place ≡ slot
    place = rw (same) is.place

    newest : is_newest (kept_at a slot) is.block ≡ true
    newest = sym ((shows.tables.slots slot).blocks is.block) ∙ subst (λ s. F.held s (Block is.block) ≡ true) place (((shows.history.written is.block).1 (rw (same) is.there)).2.place)

    go : (kept : Kept) → how_many names claims slot ≡ claims_in kept → is_newest kept is.block ≡ true → ⊥
    go Nothing e n = absurd (cc)
    go (Pending k) e n = absurd (cc)
    go (Moving r k) e n = absurd (cc)
    go (Newest b) e n = let z = is.none in omega (arith, e, z)
    go Unmade e n = absurd (cc)

-- so it isn't refused
pub never_refused : {C : Type 0} (names : C → ℕ) (a : ArrayView) (F : Flat) (M : ℕ → ℕ) (why : NotAdopted) → ShowsArray a F → IsMapOf F.emitted M
    → IsNotRestarted names a M why → why ≡ Memory
never_refused names a F M Memory shows map is = refl
never_refused names a F M (NoClaim slot) shows map (claims, are, is) = none_unclaimed names claims a F M (NoClaim slot) shows map are is

-- restarted with its own map, a world represents the restarted state
pub world_restarted : (v : WorldView) (F : Flat) (M : ℕ → ℕ) (a : ArrayView) (w : WorldView) → w.array ≡ a → IsListOf M a.log → ShowsArray a (restarted F M a.log)
    → ((G : Flat) → ShowsArray a G → IsWorkerFree G → Represents w G) → WasRestarted F M w
world_restarted v F M a w is log shows matches = record {
  log = rw (is) log;
  matches = subst (λ (b : ArrayView). Represents w (restarted F M b.log)) (sym is) (matches (restarted F M a.log) shows (λ s u. (refl, refl)));
}

-- a world of the same parts has the same sizes
pub same_sizes : (a b : ArrayView) → b.parts ≡ a.parts → SameSizes a b
same_sizes a b same = record { payload = ap (λ (v : PartsView). v.groups.payload) same; blocks = ap (λ (v : PartsView). v.groups.blocks) same }
