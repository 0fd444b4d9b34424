-- The newest places after a planned step: an array keeps the claim of each, so a restart after a stop misses none.
use Rattle.std.proofs.Common.{◌≡◌, ◌≢◌, ℕ, ◌<◌, ◌⊎◌, inl, inr, Bool, true, false, not, ◌&&◌, ◌||◌, Option, Some, None, List, refl, sym, ◌∙◌, ap, subst, arith}
use Rattle.std.proofs.lemmas.Bool.{cases_eq}
use Rattle.std.proofs.lemmas.Option.{none-some}
use Rattle.map_join.specs.declared.records.Record.{Record}
use Rattle.map_join.specs.Maps.{IsMapOf, join, only}
use Rattle.map_join.proofs.Joins.{took}
use Rattle.extent_groups.specs.Groups.{AreGroups}
use Rattle.flat_machine.specs.Cases.{Case, CommitWith, IsFor, Leaves, place_passed}
use Rattle.flat_machine.specs.Flat.{Flat, Holder, Worker, Ticket, Block, Waiting, Fresh, Moved, same_holder, turned}
use Rattle.flat_machine.specs.Groups.{class_at}
use Rattle.flat_machine.specs.History.{IsHistory, IsValidStep}
use Rattle.flat_machine.specs.Steps.{FlatAnswer, Committed}
use Rattle.flat_machine.proofs.Keeps.{step_keeps}
use Rattle.flat_machine.proofs.Pairs.{turned_else, turned_here}
use Rattle.slot_tables.specs.Claims.{claims_in, AreClaimsOf, IsUnclaimed}
use Rattle.slot_tables.specs.Represents.{ShowsArray, is_newest, IsTicketOf}
use Rattle.slot_tables.specs.Views.{ArrayView, Kept, Nothing, Pending, Moving, Newest, Unmade, kept_at}
use Rattle.slot_tables.proofs.Wholes.{slot_of_class}
use Rattle.header_scan.proofs.Telling.{slot_low}
use Rattle.crash_points.specs.declared.intent.Intent.{Intent}
use Rattle.crash_points.specs.declared.intent.Intent.TheVariants.{Fill, Trim, Copy, Commit}
use Rattle.crash_points.specs.Intents.{IsValidIntent, IsTaken, step_of}

-- ---- what a block holds after a turn of another's slot

or_false : (x y : Bool) → ((x && y) || false) ≡ true → x ≡ true
or_false true y e = refl
or_false false y e = absurd (cc)

still_block : (held : ℕ → Holder → Bool) (s : ℕ) (one other : Holder) (t b : ℕ) → same_holder (Block b) other ≡ false → turned held s one other t (Block b) ≡ true → held t (Block b) ≡ true
still_block held s one other t b apart e = elim (cases_eq t s) [
  | inl same ↦ or_false (held t (Block b)) (not (same_holder (Block b) one))
      (ap (λ r. (held t (Block b) && not (same_holder (Block b) one)) || r) (sym apart)
      ∙ sym (subst (λ k. turned held s one other k (Block b) ≡ ((held k (Block b) && not (same_holder (Block b) one)) || same_holder (Block b) other)) (sym same) (turned_here held s one other (Block b))) ∙ e)
  | inr ne ↦ sym (ap (λ (h : Holder → Bool). h (Block b)) (turned_else held s one other t ne)) ∙ e
]

-- each block's slot was a block's before, or a ticket waits there
abbrev pub Came : Flat → Flat → Type 0
Came F G = (t b : ℕ) → G.held t (Block b) ≡ true → (F.held t (Block b) ≡ true) ⊎ (F.tickets t ≢ None)

came_turned : (F : Flat) (s w : ℕ) (t b : ℕ) → turned F.held s (Worker w) (Ticket w) t (Block b) ≡ true → F.held t (Block b) ≡ true
came_turned F s w t b e = still_block F.held s (Worker w) (Ticket w) t b refl e

passed : (held : ℕ → Holder → Bool) (w b : ℕ) (found : Option Record) (t c : ℕ) → place_passed held w b found t (Block c) ≡ true → held t (Block c) ≡ true
passed held w b None t c e = e
passed held w b (Some old) t c e = still_block held old.place (Block b) (Worker w) t c refl e

came_committed : (F : Flat) (s w b : ℕ) (found : Option Record) → F.tickets s ≢ None → (t c : ℕ) → place_passed (turned F.held s (Ticket w) (Block b)) w b found t (Block c) ≡ true
    → (F.held t (Block c) ≡ true) ⊎ (F.tickets t ≢ None)
came_committed F s w b found waits t c e = elim (cases_eq t s) [
  | inl same ↦ inr (λ none. waits (ap F.tickets (sym same) ∙ none))
  | inr ne ↦ inl (sym (ap (λ (h : Holder → Bool). h (Block c)) (turned_else F.held s (Ticket w) (Block b) t ne)) ∙ passed (turned F.held s (Ticket w) (Block b)) w b found t c e)
]

-- a state that was left has the same holders
left_held : (x G : Flat) → Leaves x G → (t : ℕ) (k : Holder) → G.held t k ≡ true → x.held t k ≡ true
left_held x G leaves t k e = sym (ap (λ (y : Flat). y.held t k) leaves.same) ∙ e

some_for : (o : Option Waiting) (b : ℕ) → IsFor o b → o ≢ None
some_for None b is none = is
some_for (Some x) b is none = none-some x (sym none)

commit_came : (F G : Flat) (w s b : ℕ) (found : Option Record) (o : Option Waiting) (r : Record) → F.tickets s ≢ None → CommitWith F w s b found o (Committed r) G → Came F G
commit_came F G w s b found None r waits case = absurd case
commit_came F G w s b found (Some (Fresh x)) r waits case = λ t c e. came_committed F s w b found waits t c (left_held _ G case.4 t (Block c) e)
commit_came F G w s b found (Some (Moved c v h x)) r waits case = λ t d e. came_committed F s w b found waits t d (left_held _ G case.4 t (Block d) e)

pub came_from : (F G : Flat) (w : ℕ) (intent : Intent) (answer : FlatAnswer) → IsTaken intent answer → Case F (step_of w intent) answer G → Came F G
came_from F G w (Fill slot payload) answer took case =
    let is = subst (λ a. Case F (step_of w (Fill slot payload)) a G) took case in λ t b e. inl (came_turned F slot w t b (left_held _ G is.3 t (Block b) e))
came_from F G w (Trim slot) answer took case =
    let is = subst (λ a. Case F (step_of w (Trim slot)) a G) took case in λ t b e. inl (came_turned F slot w t b (left_held _ G is.3 t (Block b) e))
came_from F G w (Copy slot block) answer took case =
    let is = subst (λ a. Case F (step_of w (Copy slot block)) a G) took case in λ t b e. inl (came_turned F slot w t b (left_held _ G is.1.6 t (Block b) e))
came_from F G w (Commit slot block) answer took case =
    let is = subst (λ a. Case F (step_of w (Commit slot block)) a G) took.1 case in
    commit_came F G w slot block is.2.0 (F.tickets slot) took.0 (some_for (F.tickets slot) block is.1) is.2.2

-- ---- the map after the step

left_map : (x G : Flat) (M : ℕ → ℕ) → Leaves x G → IsMapOf x.emitted M → IsMapOf G.emitted M
left_map x G M leaves map = subst (λ records. IsMapOf records M) (sym (ap (λ (y : Flat). y.emitted) leaves.same)) map

commit_map : (F G : Flat) (w s b : ℕ) (found : Option Record) (o : Option Waiting) (r : Record) (keys : ℕ → ℕ) → IsMapOf F.emitted keys → CommitWith F w s b found o (Committed r) G
    → (M : ℕ → ℕ) × IsMapOf G.emitted M
commit_map F G w s b found None r keys map case = absurd case
commit_map F G w s b found (Some (Fresh x)) r keys map case = (join keys (only r), left_map _ G (join keys (only r)) case.4 (took F.emitted r keys (join keys (only r)) (λ block. refl) map))
commit_map F G w s b found (Some (Moved c v h x)) r keys map case = (join keys (only r), left_map _ G (join keys (only r)) case.4 (took F.emitted r keys (join keys (only r)) (λ block. refl) map))

map_after : (F G : Flat) (w : ℕ) (intent : Intent) (answer : FlatAnswer) (keys : ℕ → ℕ) → IsMapOf F.emitted keys → IsTaken intent answer → Case F (step_of w intent) answer G
    → (M : ℕ → ℕ) × IsMapOf G.emitted M
map_after F G w (Fill slot payload) answer keys map took case =
    let is = subst (λ a. Case F (step_of w (Fill slot payload)) a G) took case in (keys, left_map _ G keys is.3 map)
map_after F G w (Trim slot) answer keys map took case =
    let is = subst (λ a. Case F (step_of w (Trim slot)) a G) took case in (keys, left_map _ G keys is.3 map)
map_after F G w (Copy slot block) answer keys map took case =
    let is = subst (λ a. Case F (step_of w (Copy slot block)) a G) took case in (keys, left_map _ G keys is.1.6 map)
map_after F G w (Commit slot block) answer keys map took case =
    let is = subst (λ a. Case F (step_of w (Commit slot block)) a G) took.1 case in
    commit_map F G w slot block is.2.0 (F.tickets slot) took.0 keys map is.2.2

class_low : (F : Flat) (slot : ℕ) → AreGroups F.groups → class_at F.groups slot ≢ None → slot < 65536
class_low F slot groups some = let low = slot_low F.groups slot groups (slot_of_class F.groups slot some) in omega (arith, low)

is_step : (F G : Flat) (w : ℕ) (intent : Intent) (answer : FlatAnswer) → AreGroups F.groups → IsValidIntent F.groups intent → IsTaken intent answer → Case F (step_of w intent) answer G
    → IsValidStep F.groups (step_of w intent)
is_step F G w (Fill slot payload) answer groups asked took case =
    let is = subst (λ a. Case F (step_of w (Fill slot payload)) a G) took case in
    (class_low F slot groups (λ none. none-some _ (sym none ∙ is.1.1)), asked)
is_step F G w (Trim slot) answer groups asked took case =
    let is = subst (λ a. Case F (step_of w (Trim slot)) a G) took case in
    (class_low F slot groups (λ none. none-some _ (sym none ∙ is.1.1)), tt)
is_step F G w (Copy slot block) answer groups asked took case =
    let is = subst (λ a. Case F (step_of w (Copy slot block)) a G) took case in
    (class_low F slot groups is.1.2.1, asked)
is_step F G w (Commit slot block) answer groups asked took case = asked

pub history_after : (F G : Flat) (w : ℕ) (intent : Intent) (answer : FlatAnswer) (keys : ℕ → ℕ) → AreGroups F.groups → IsValidIntent F.groups intent → IsHistory F keys → IsTaken intent answer
    → Case F (step_of w intent) answer G → (M : ℕ → ℕ) × IsHistory G M
history_after F G w intent answer keys groups asked is took case =
    let m = map_after F G w intent answer keys is.map took case in
    (m.0, step_keeps F G keys m.0 (step_of w intent) answer is (is_step F G w intent answer groups asked took case) case m.1)

-- ---- the claims

kept_newest : (kept : Kept) (b : ℕ) → is_newest kept b ≡ true → claims_in kept ≡ 1
kept_newest Nothing b e = absurd (cc)
kept_newest (Pending k) b e = refl
kept_newest (Moving r k) b e = refl
kept_newest (Newest c) b e = refl
kept_newest Unmade b e = refl

kept_waits : (kept : Kept) (ticket : Option Waiting) → IsTicketOf kept ticket → ticket ≢ None → claims_in kept ≡ 1
kept_waits Nothing ticket is some = absurd (some is)
kept_waits (Pending k) ticket is some = refl
kept_waits (Moving r k) ticket is some = refl
kept_waits (Newest b) ticket is some = refl
kept_waits Unmade ticket is some = refl

-- so none is missing
pub none_missing : {C : Type 0} (names : C → ℕ) (claims : List C) (a : ArrayView) (F G : Flat) (M : ℕ → ℕ) (slot : ℕ) → ShowsArray a F → Came F G → IsHistory G M → AreClaimsOf names a claims
    → IsUnclaimed names claims M slot → ⊥
none_missing names claims a F G M slot shows came is are out = elim (came slot out.block held) [
  | inl block ↦
      let one = kept_newest (kept_at a slot) out.block (sym ((shows.tables.slots slot).blocks out.block) ∙ block) in
      let none = out.none in
      let many = are slot in
      omega (arith, one, none, many)
  | inr waits ↦
      let one = kept_waits (kept_at a slot) (F.tickets slot) (shows.tables.slots slot).waits waits in
      let none = out.none in
      let many = are slot in
      omega (arith, one, none, many)
]
  where
    held : G.held slot (Block out.block) ≡ true
    held = subst (λ s. G.held s (Block out.block) ≡ true) out.place (((is.written out.block).1 out.there).2.place)
