-- A world's steps on its array, with the hands that go with them.
use Rattle.std.proofs.Common.{◌≡◌, ℕ, ◌<◌, ◌==◌, if◌then◌else◌, Bool, true, false, ◌&&◌, List, length, refl, sym, ap, ◌∙◌, subst, arith, ◌⊎◌, inl, inr, Option, Some, None, Contains}
use Rattle.std.proofs.Math.ListN.{set}
use Rattle.std.proofs.lemmas.List.{length-set, get_or-set_same, get_or-set_other, set-get_or}
use Rattle.std.proofs.lemmas.Bool.{cases_eq}
use Rattle.std.proofs.lemmas.Bool.Decides.{nat_tests}
use Rattle.std.proofs.lemmas.Option.{same_Some}
use Rattle.map_join.specs.declared.records.Record.{Record}
use Rattle.map_join.specs.Record.{record_at, IsRecord}
use Rattle.extents.specs.Failures.{Failures, settled}
use Rattle.extents.proofs.Failures.{counts_same, steady_same}
use Rattle.extent_groups.specs.Groups.{Groups}
use Rattle.extent_groups.specs.declared.class.Class.{Class}
use Rattle.extent_groups.specs.declared.class.Member.{Member}
use Rattle.flat_machine.specs.Flat.{Flat, Write, Content, Worker, Ticket, Waiting, Fresh, Moved, IsNewest, turned, put}
use Rattle.flat_machine.specs.declared.refusal.Refusal.{Refusal}
use Rattle.flat_machine.specs.declared.refusal.Refusal.TheVariants.{NoGroup, WrongClass, InUse, NoTicket, Outrun, VersionSpent, HopsSpent, Unwritten, Gone, SlotsHeld, DriveLost, Ahead, ExtentTaken, SameDrive, LogFull, Full, BadMember}
use Rattle.flat_machine.specs.Moves.{moved_to, with_fuse}
use Rattle.flat_machine.specs.Steps.{FlatStep, FlatAnswer, Filled, Copied, Committed, Discarded, MadeGroup, MovedExtent, LostDrive, Refused, Fill, Copy, Commit, Discard, Make, Unmake, MoveExtent, AddDrive, Read, ReadAt, Lose}
use Rattle.flat_machine.specs.Cases.{FillCase, CopyCase, ticketed, CommitCase, CommitWith, committed, DiscardCase, discarded, MakeCase, made, MoveCase, LoseCase, Case, Leaves, Fares}
use Rattle.flat_machine.proofs.Keeps as flat
use Rattle.flat_machine.proofs.Newest.{newest_reported, newest_unique, place_small}
use Rattle.flat_machine.proofs.Pairs.{turned_else, turned_just, just_one, Any, equal_back}
use Rattle.flat_machine.proofs.Passing.{Passes, passed, passed_on}
use Rattle.slot_tables.specs.declared.hand.Hand.{Hand}
use Rattle.slot_tables.specs.declared.hand.Hand.TheVariants.{Empty, Holds, Waits}
use Rattle.slot_tables.specs.Changes.{IsPlaceOf, passed_hands}
use Rattle.slot_tables.specs.declared.hold.Plain.{Plain}
use Rattle.unit_store.specs.Views.{PartsView}
use Rattle.slot_tables.specs.Views.{ArrayView, WorldView, with_parts, hand_at, key_at, SameSizes}
use Rattle.slot_tables.specs.Represents.{HandSlot, InTables, ShowsArray, Represents, is_claim, is_ticket}
use Rattle.slot_tables.proofs.Hands.{one_hand}
use Rattle.slot_tables.proofs.Slots.{worker_hand, ticket_hand, block_hand, one_slot, shows_after}
use Rattle.flat_machine.proofs.Holding.{step_holds, once_any}
use Rattle.flat_machine.specs.History.{IsHistory, IsValidStep, AreHeld}
use Rattle.slot_tables.proofs.Places.{set_twice}
use Rattle.disk_array.specs.Losing.{WasLost}
use Rattle.step_core.specs.Passed.{given_old}
use Rattle.flat_machine.specs.Shortened.{IsShortened}
use Rattle.std.specs.Prelude.{OnOk, OnErr, Result, Ok, Err}

-- a ticket that goes in at its slot, and the one that comes out of it put back; and a claim in place of a ticket
pub hands_kept : (old hands now : List Hand) (t s w : ℕ) → old ≡ hands → t ≡ s → now ≡ set old t (Waits w) → now ≡ set hands s (Waits w)
hands_kept old hands now t s w same slot is = is ∙ ap (λ n. set old n (Waits w)) slot ∙ ap (λ (h : List Hand). set h s (Waits w)) same

pub hands_back : (old hands gone now : List Hand) (t s w : ℕ) → old ≡ hands → gone ≡ set old s Empty → t ≡ s → is_ticket (hand_at hands s) w ≡ true → now ≡ set gone t (Waits w) → now ≡ hands
hands_back old hands gone now t s w same out slot held is =
    hands_kept gone (set hands s Empty) now t s w (out ∙ ap (λ (h : List Hand). set h s Empty) same) slot is
    ∙ set_twice hands s Empty (Waits w) ∙ ap (λ (h : Hand). set hands s h) (waits_of (hand_at hands s) w held) ∙ set-get_or hands s Empty
  where
    waits_of : (h : Hand) (w : ℕ) → is_ticket h w ≡ true → Waits w ≡ h
    waits_of Empty w e = absurd (cc)
    waits_of (Holds u) w e = absurd (cc)
    waits_of (Waits u) w e = let same : u ≡ w = grind (arith, nat_tests) in ap (λ n. Waits n) (sym same)

pub hands_held : (old hands gone now : List Hand) (s w : ℕ) → old ≡ hands → gone ≡ set old s Empty → now ≡ set gone s (Holds w) → now ≡ set hands s (Holds w)
hands_held old hands gone now s w same out is =
    is ∙ ap (λ (h : List Hand). set h s (Holds w)) (out ∙ ap (λ (h : List Hand). set h s Empty) same) ∙ set_twice hands s Empty (Holds w)

-- and the hands after a commit
pub hands_passed : (old hands gone now : List Hand) (s w : ℕ) (claim : Option Plain) (found : Option Record) → old ≡ hands → gone ≡ set old s Empty
    → IsPlaceOf (λ (c : Plain). c.slot) claim found → now ≡ given_old gone w claim → now ≡ passed_hands hands s w found
hands_passed old hands gone now s w claim found same out place is =
    is ∙ ap (λ (h : List Hand). given_old h w claim) (out ∙ ap (λ (h : List Hand). set h s Empty) same) ∙ by claim found place
  where
    by : (p : Option Plain) (o : Option Record) → IsPlaceOf (λ (c : Plain). c.slot) p o → given_old (set hands s Empty) w p ≡ passed_hands hands s w o
    by None None at = refl
    by (Some c) (Some q) at = ap (λ n. set (set hands s Empty) n (Holds w)) at
    by None (Some q) at = absurd at
    by (Some c) None at = absurd at

-- a block of the array is one of the state's
pub block_there : (v : WorldView) (F : Flat) (b : ℕ) → Represents v F → b < v.array.parts.groups.blocks → b < F.groups.blocks
block_there v F b rep inside = subst (λ (z : Groups). b < z.blocks) (sym rep.array.tables.groups) inside

-- what a world says of a state that its array needn't show: what holds after any steps, with the array's keys as the map of the log,
-- and in whose hands the slots are
pub record Matches (hs : List Hand) (a : ArrayView) (F : Flat) : Type 0 where
  pub history : IsHistory F (key_at a)
  pub groups : F.groups ≡ a.parts.groups
  pub held : AreHeld F
  pub hands : (s : ℕ) → HandSlot (hand_at hs s) (F.held s)

pub matches_of : (v : WorldView) (F : Flat) → Represents v F → Matches v.hands v.array F
matches_of v F rep = record { history = rep.array.history; groups = rep.array.tables.groups; held = rep.held; hands = rep.hands }

-- the hands of a state that another left
hands_as : (hs : List Hand) (G E : Flat) → Leaves E G → ((t : ℕ) → HandSlot (hand_at hs t) (E.held t)) → (t : ℕ) → HandSlot (hand_at hs t) (G.held t)
hands_as hs G E leaves hands t = subst (λ (H : Flat). HandSlot (hand_at hs t) (H.held t)) (sym leaves.same) (hands t)

-- a worker's claim that became a ticket, and the other way round
ticket_hands : (v : WorldView) (F : Flat) (w s : ℕ) (c : Waiting) → s < length v.hands → Represents v F → F.held s (Worker w) ≡ true
    → (t : ℕ) → HandSlot (hand_at (set v.hands s (Waits w)) t) ((ticketed F w s c).held t)
ticket_hands v F w s c inside rep held =
    one_hand v F (ticketed F w s c) s (Waits w) inside rep.hands (λ t ne. turned_else F.held s (Worker w) (Ticket w) t ne)
    (ticket_hand (turned F.held s (Worker w) (Ticket w) s) w (turned_just Any F.held s (Worker w) (Ticket w) (just_one Any (F.held s) (Worker w) (once_any F rep.held s) tt held)))

discard_hands : (v : WorldView) (F : Flat) (w s : ℕ) → s < length v.hands → Represents v F → F.held s (Ticket w) ≡ true
    → (t : ℕ) → HandSlot (hand_at (set v.hands s (Holds w)) t) ((discarded F w s).held t)
discard_hands v F w s inside rep held =
    one_hand v F (discarded F w s) s (Holds w) inside rep.hands (λ t ne. turned_else F.held s (Ticket w) (Worker w) t ne)
    (worker_hand (turned F.held s (Ticket w) (Worker w) s) w (turned_just Any F.held s (Ticket w) (Worker w) (just_one Any (F.held s) (Ticket w) (once_any F rep.held s) tt held)))

pub fill_hands : (v : WorldView) (F G : Flat) (w s : ℕ) (x : Content) → s < length v.hands → Represents v F → is_claim (hand_at v.hands s) w ≡ true → FillCase F w s x (Filled s) G
    → (t : ℕ) → HandSlot (hand_at (set v.hands s (Waits w)) t) (G.held t)
fill_hands v F G w s x inside rep held case =
    hands_as (set v.hands s (Waits w)) G (ticketed F w s (Fresh x)) case.3 (ticket_hands v F w s (Fresh x) inside rep ((rep.hands s).claims w ∙ held))

pub copy_hands : (v : WorldView) (F G : Flat) (w s b : ℕ) → s < length v.hands → Represents v F → is_claim (hand_at v.hands s) w ≡ true → CopyCase F w s b (Copied s) G
    → (t : ℕ) → HandSlot (hand_at (set v.hands s (Waits w)) t) (G.held t)
copy_hands v F G w s b inside rep held case =
    let c : Waiting = Moved b case.1.0.version case.1.0.hop case.1.1.content in
    hands_as (set v.hands s (Waits w)) G (ticketed F w s c) case.1.6 (ticket_hands v F w s c inside rep ((rep.hands s).claims w ∙ held))

pub fill_world : (v : WorldView) (F : Flat) (w s : ℕ) (x : Content) (a : ArrayView) → s < length v.hands → IsValidStep F.groups (Fill w s x) → Represents v F → is_claim (hand_at v.hands s) w ≡ true
    → (t : ℕ) → t ≡ s → (G : Flat) × (FillCase F w t x (Filled t) G) × (ShowsArray a G)
    → (G : Flat) × (FillCase F w s x (Filled s) G) × (Represents (record { array = a; hands = set v.hands s (Waits w) }) G)
fill_world v F w s x a inside fits rep held t same z =
    let y : (G : Flat) × (FillCase F w s x (Filled s) G) × (ShowsArray a G) = subst (λ n. (G : Flat) × (FillCase F w n x (Filled n) G) × (ShowsArray a G)) same z in (
      y.0,
      y.1,
      record {
        array = y.2;
        held = step_holds F y.0 (key_at v.array) (Fill w s x) (Filled s) rep.array.history rep.held fits y.1;
        hands = fill_hands v F y.0 w s x inside rep held y.1;
      },
    )

pub copy_world : (v : WorldView) (F : Flat) (w s b : ℕ) (a : ArrayView) → s < length v.hands → IsValidStep F.groups (Copy w s b) → Represents v F → is_claim (hand_at v.hands s) w ≡ true
    → (t : ℕ) → t ≡ s → (G : Flat) × (CopyCase F w t b (Copied t) G) × (ShowsArray a G)
    → (G : Flat) × (CopyCase F w s b (Copied s) G) × (Represents (record { array = a; hands = set v.hands s (Waits w) }) G)
copy_world v F w s b a inside fits rep held t same z =
    let y : (G : Flat) × (CopyCase F w s b (Copied s) G) × (ShowsArray a G) = subst (λ n. (G : Flat) × (CopyCase F w n b (Copied n) G) × (ShowsArray a G)) same z in (
      y.0,
      y.1,
      record {
        array = y.2;
        held = step_holds F y.0 (key_at v.array) (Copy w s b) (Copied s) rep.array.history rep.held fits y.1;
        hands = copy_hands v F y.0 w s b inside rep held y.1;
      },
    )

pub discard_world : (v : WorldView) (F : Flat) (w s : ℕ) (a : ArrayView) → s < length v.hands → Represents v F → is_ticket (hand_at v.hands s) w ≡ true
    → (t : ℕ) → t ≡ s → (G : Flat) × (DiscardCase F w t (Discarded t) G) × (ShowsArray a G)
    → (G : Flat) × (DiscardCase F w s (Discarded s) G) × (Represents (record { array = a; hands = set v.hands s (Holds w) }) G)
discard_world v F w s a inside rep held t same z =
    let y : (G : Flat) × (DiscardCase F w s (Discarded s) G) × (ShowsArray a G) = subst (λ n. (G : Flat) × (DiscardCase F w n (Discarded n) G) × (ShowsArray a G)) same z in (
      y.0,
      y.1,
      record {
        array = y.2;
        held = step_holds F y.0 (key_at v.array) (Discard w s) (Discarded s) rep.array.history rep.held tt y.1;
        hands = hands_as (set v.hands s (Holds w)) y.0 (discarded F w s) y.1.2 (discard_hands v F w s inside rep ((rep.hands s).tickets w ∙ held));
      },
    )

-- the state that a commit leaves, given by the newest record
commit_leaves : (F G : Flat) (w s b : ℕ) (found : Option Record) (r : Record) → ((q : Record) → Contains F.emitted q → IsRecord q) → IsNewest F.emitted b found → CommitCase F w s b (Committed r) G
    → (writes : List Write) × (x : Content) × (Leaves (committed F w s b found writes x r) G)
commit_leaves F G w s b found r all newest y =
    of (F.tickets s) (subst (λ o. CommitWith F w s b o (F.tickets s) (Committed r) G) (newest_unique F.emitted b all y.2.0 found y.2.1 newest) y.2.2)
  where
    of : (c : Option Waiting) → CommitWith F w s b found c (Committed r) G → (writes : List Write) × (x : Content) × (Leaves (committed F w s b found writes x r) G)
    of None z = absurd z
    of (Some (Fresh x)) z = (_, x, z.4)
    of (Some (Moved d i h x)) z = (_, x, z.4)

commit_hands : (hs : List Hand) (F : Flat) (w s b : ℕ) (found : Option Record) → s < length hs → ((q : Record) → found ≡ Some q → q.place < length hs) → ((t : ℕ) → HandSlot (hand_at hs t) (F.held t)) → Passes Any F w s b found
    → (t : ℕ) → HandSlot (hand_at (passed_hands hs s w found) t) (passed_on F w s b found t)
commit_hands hs F w s b found inside small hands passes = by found refl
  where
    P : ℕ → Type 0
    P t = HandSlot (hand_at (passed_hands hs s w found) t) (passed_on F w s b found t)

    here : (o : Option Record) → found ≡ o → hand_at (passed_hands hs s w o) s ≡ Empty
    here None e = get_or-set_same hs s Empty Empty inside
    here (Some q) e = get_or-set_other (set hs s Empty) q.place s (Holds w) Empty (λ n. passes.apart q e (sym n)) ∙ get_or-set_same hs s Empty Empty inside

    rest : (o : Option Record) (t : ℕ) → found ≡ o → (t ≡ s → ⊥) → ((q : Record) → found ≡ Some q → t ≡ q.place → ⊥) → hand_at (passed_hands hs s w o) t ≡ hand_at hs t
    rest None t e ne off = get_or-set_other hs s t Empty Empty ne
    rest (Some q) t e ne off = get_or-set_other (set hs s Empty) q.place t (Holds w) Empty (off q e) ∙ get_or-set_other hs s t Empty Empty ne

    old : (q : Record) → found ≡ Some q → P q.place
    old q e =
        let low = small q e in
        let room : length (set hs s Empty) ≡ length hs = length-set hs s Empty in
        let is : hand_at (passed_hands hs s w found) q.place ≡ Holds w =
        ap (λ o. hand_at (passed_hands hs s w o) q.place) e ∙ get_or-set_same (set hs s Empty) q.place (Holds w) Empty (omega arith)
        in
        subst (λ h. HandSlot h (passed_on F w s b found q.place)) (sym is) (worker_hand (passed_on F w s b found q.place) w (passes.old q e))

    same : (t : ℕ) → (t ≡ s → ⊥) → ((q : Record) → found ≡ Some q → t ≡ q.place → ⊥) → P t
    same t ne off = subst (λ h. HandSlot h (passed_on F w s b found t)) (sym (rest found t refl ne off)) (subst (HandSlot (hand_at hs t)) (sym (passes.rest t ne off)) (hands t))

    by : (o : Option Record) → found ≡ o → (t : ℕ) → P t
    by o e = one_slot P s (subst (λ h. HandSlot h (passed_on F w s b found s)) (sym (here found refl)) (block_hand (passed_on F w s b found s) b passes.here)) (at o e)
      where
        at : (o : Option Record) → found ≡ o → (t : ℕ) → (t ≡ s → ⊥) → P t
        at None none t ne = same t ne (λ q is. let bad : None ≡ Some q = sym none ∙ is in cc)
        at (Some q) is t ne = go (cases_eq t q.place)
          where
            go : (t ≡ q.place) ⊎ (t ≡ q.place → ⊥) → P t
            go (inl n) = subst P (sym n) (old q is)
            go (inr away) = same t ne (λ p p_is n. away (n ∙ ap (λ (x : Record). x.place) (same_Some p q (sym p_is ∙ is))))

pub commit_matches : (hs : List Hand) (a : ArrayView) (F : Flat) (w s b : ℕ) (r : Record) (e : ArrayView) → s < 65536 → b < F.groups.blocks → length hs ≡ 65536 → Matches hs a F → is_ticket (hand_at hs s) w ≡ true
    → (G : Flat) × (CommitCase F w s b (Committed r) G) × (ShowsArray e G)
    → (G : Flat) × (CommitCase F w s b (Committed r) G) × (Represents (record { array = e; hands = passed_hands hs s w (record_at b (key_at a b)) }) G)
commit_matches hs a F w s b r e inside block room is held y =
    let found = record_at b (key_at a b) in
    let newest : IsNewest F.emitted b found = newest_reported F.emitted (key_at a) b is.history.records is.history.map in
    let leaves = commit_leaves F y.0 w s b found r is.history.records newest y.1 in
    let passes : Passes Any F w s b found = passed Any F (key_at a) w s b found (once_any F is.held) tt tt is.history newest ((is.hands s).tickets w ∙ held) in
    let small : (q : Record) → found ≡ Some q → q.place < length hs = λ q e. let low = place_small b (key_at a b) q e in omega arith in (
      y.0,
      y.1,
      record {
        array = y.2;
        held = step_holds F y.0 (key_at a) (Commit w s b) (Committed r) is.history is.held block y.1;
        hands = hands_as (passed_hands hs s w found) y.0 (committed F w s b found leaves.0 leaves.1 r) leaves.2 (commit_hands hs F w s b found (omega arith) small is.hands passes);
      },
    )

pub commit_world : (v : WorldView) (F : Flat) (w s b : ℕ) (r : Record) (a : ArrayView) → s < 65536 → b < F.groups.blocks → length v.hands ≡ 65536 → Represents v F → is_ticket (hand_at v.hands s) w ≡ true
    → (G : Flat) × (CommitCase F w s b (Committed r) G) × (ShowsArray a G)
    → (G : Flat) × (CommitCase F w s b (Committed r) G) × (Represents (record { array = a; hands = passed_hands v.hands s w (record_at b (key_at v.array b)) }) G)
commit_world v F w s b r a inside block room rep held y = commit_matches v.hands v.array F w s b r a inside block room (matches_of v F rep) held y

-- a commit's case, with slot and record as they are named elsewhere
pub commit_as : (a : ArrayView) (F : Flat) (w b t s : ℕ) (q r : Record) → t ≡ s → q ≡ r → (G : Flat) × (CommitCase F w t b (Committed q) G) × (ShowsArray a G)
    → (G : Flat) × (CommitCase F w s b (Committed r) G) × (ShowsArray a G)
commit_as a F w b t s q r slot is y =
    subst (λ (x : Record). (G : Flat) × (CommitCase F w s b (Committed x) G) × (ShowsArray a G)) is
    (subst (λ n. (G : Flat) × (CommitCase F w n b (Committed q) G) × (ShowsArray a G)) slot y)

and_true : (b : Bool) → (b && true) ≡ b
and_true true = refl
and_true false = refl

-- a world whose array has one more group represents the state with it
pub make_world : (v : WorldView) (F : Flat) (class : Class) (members : List Member) (g : ℕ) (a : ArrayView) → Represents v F
    → (G : Flat) × (MakeCase F class members (MadeGroup g) G) × (ShowsArray a G)
    → (G : Flat) × (MakeCase F class members (MadeGroup g) G) × (Represents (record { array = a; hands = v.hands }) G)
make_world v F class members g a rep y = (
  y.0,
  y.1,
  record {
    array = y.2;
    held = step_holds F y.0 (key_at v.array) (Make class members) (MadeGroup g) rep.array.history rep.held tt y.1;
    hands = hands_as v.hands y.0 (made F class members g) y.1.2 (λ t. let h = rep.hands t in record {
      claims = λ w. and_true (F.held t (Worker w)) ∙ h.claims w;
      tickets = λ w. and_true (F.held t (Ticket w)) ∙ h.tickets w;
    });
  },
)

-- and one whose array has a member on another extent
pub move_world : (v : WorldView) (F : Flat) (g k : ℕ) (to : Member) (a : ArrayView) → Represents v F
    → (G : Flat) × (MoveCase F g k to MovedExtent G) × (ShowsArray a G)
    → (G : Flat) × (MoveCase F g k to MovedExtent G) × (Represents (record { array = a; hands = v.hands }) G)
move_world v F g k to a rep y = (
  y.0,
  y.1,
  record {
    array = y.2;
    held = step_holds F y.0 (key_at v.array) (MoveExtent g k to) MovedExtent rep.array.history rep.held tt y.1;
    hands = hands_as v.hands y.0 (moved_to F g k to) y.1.3 rep.hands;
  },
)

-- a commit that is refused
commit_refused : (F G : Flat) (w s b : ℕ) (found : Option Record) (c : Option Waiting) (r : Refusal) → CommitWith F w s b found c (Refused r) G → Leaves F G
commit_refused F G w s b found (Some (Fresh x)) VersionSpent y = y.1
commit_refused F G w s b found (Some (Fresh x)) LogFull y = y.2
commit_refused F G w s b found (Some (Fresh x)) (Gone t) y = y.4
commit_refused F G w s b found (Some (Moved d i h x)) (Outrun n) y = y.2
commit_refused F G w s b found (Some (Moved d i h x)) LogFull y = y.2
commit_refused F G w s b found (Some (Moved d i h x)) (Gone t) y = y.4
commit_refused F G w s b found _ _ y = absurd y

-- a step that is refused leaves the state, but for drives that failed
pub refused_leaves : (F G : Flat) (step : FlatStep) (r : Refusal) → Case F step (Refused r) G → Leaves F G
refused_leaves F G (Fill w s x) NoGroup y = y.2
refused_leaves F G (Fill w s x) WrongClass y = y.2
refused_leaves F G (Fill w s x) InUse y = y.3
refused_leaves F G (Fill w s x) (Gone t) y = y.3
refused_leaves F G (Copy w s b) NoGroup y = y.2
refused_leaves F G (Copy w s b) InUse y = y.3
refused_leaves F G (Copy w s b) Unwritten y = y.4
refused_leaves F G (Copy w s b) HopsSpent y = y.4
refused_leaves F G (Copy w s b) (Gone t) y = y.1
refused_leaves F G (Commit w s b) NoTicket y = y.1
refused_leaves F G (Commit w s b) r y = commit_refused F G w s b y.2.0 (F.tickets s) r y.2.2
refused_leaves F G (Discard w s) NoTicket y = y.1
refused_leaves F G (Read b) (Gone t) y = y.1
refused_leaves F G (ReadAt asked) (Ahead found) y = y.2
refused_leaves F G (ReadAt asked) (Gone t) y = y.3
refused_leaves F G (Make class members) BadMember y = y.1
refused_leaves F G (Make class members) SameDrive y = y.2
refused_leaves F G (Make class members) ExtentTaken y = y.3
refused_leaves F G (Make class members) (DriveLost d) y = y.2
refused_leaves F G (Make class members) Full y = y.3
refused_leaves F G (Unmake w g) NoGroup y = y.1
refused_leaves F G (Unmake w g) (SlotsHeld s) y = y.1
refused_leaves F G (MoveExtent g k to) NoGroup y = y.1
refused_leaves F G (MoveExtent g k to) BadMember y = y.1
refused_leaves F G (MoveExtent g k to) SameDrive y = y.1
refused_leaves F G (MoveExtent g k to) ExtentTaken y = y.1
refused_leaves F G (MoveExtent g k to) (DriveLost d) y = flat.lost_leaves F G d y.2
refused_leaves F G (MoveExtent g k to) (Gone s) y = y.3
refused_leaves F G AddDrive Full y = flat.same_leaves F G y.1
refused_leaves F G (Lose d) BadMember y = y.1
refused_leaves F G _ _ y = absurd y

-- a world whose hands stay, after a step that left the state but for drives that failed
pub stays_world : (v : WorldView) (F : Flat) (step : FlatStep) (answer : FlatAnswer) (a : ArrayView) → IsValidStep F.groups step → Represents v F
    → (y : (G : Flat) × (Case F step answer G) × (ShowsArray a G)) → Leaves F y.0
    → (G : Flat) × (Case F step answer G) × (Represents (record { array = a; hands = v.hands }) G)
stays_world v F step answer a fits rep y leaves = (
  y.0,
  y.1,
  record {
    array = y.2;
    held = step_holds F y.0 (key_at v.array) step answer rep.array.history rep.held fits y.1;
    hands = hands_as v.hands y.0 F leaves rep.hands;
  },
)

pub refused_world : (v : WorldView) (F : Flat) (step : FlatStep) (r : Refusal) (a : ArrayView) → IsValidStep F.groups step → Represents v F
    → (G : Flat) × (Case F step (Refused r) G) × (ShowsArray a G)
    → (G : Flat) × (Case F step (Refused r) G) × (Represents (record { array = a; hands = v.hands }) G)
refused_world v F step r a fits rep y = stays_world v F step (Refused r) a fits rep y (refused_leaves F y.0 step r y.1)

-- a drive that has no failure ahead fares as it did
settles : (lost : Bool) (f g : Failures) (b : Bool) → (b ≡ true → g ≡ f) → Fares lost lost f (if b then settled g else f)
settles lost f g true same = subst (λ (h : Failures). Fares lost lost f (settled h)) (sym (same refl))
    (record { stays = λ e. e; count = counts_same lost f; steady = λ e. (refl, refl) })
settles lost f g false same = record { stays = λ e. e; count = counts_same lost f; steady = steady_same lost f }

-- a world that lost a drive from outside
pub lose_world : (v : WorldView) (F : Flat) (drive : ℕ) (p : PartsView) → drive < length v.array.parts.drives → Represents v F → WasLost v.array.parts p drive
    → (G : Flat) × (LoseCase F drive (LostDrive drive) G) × (Represents (record { array = with_parts v.array p; hands = v.hands }) G)
lose_world v F drive p inside rep was = (
  G,
  case,
  record {
    array = shows_after v.array (with_parts v.array p) F G (Lose drive) (LostDrive drive) rep.array tt case rep.array.history.map (was.shows F.units rep.array.units) tables;
    held = step_holds F G (key_at v.array) (Lose drive) (LostDrive drive) rep.array.history rep.held tt case;
    hands = rep.hands;
  },
)
  where
    is : InTables v.array F
    is = rep.array.tables

    G : Flat
    G = record F { lost = put F.lost drive true; failures = put F.failures drive (settled (F.failures drive)) }

    leaves : Leaves (record F { lost = put F.lost drive true }) G
    leaves = record {
      same = refl;
      drives = λ d. settles (put F.lost drive true d) (F.failures d) (F.failures drive) (d == drive) (λ e. ap F.failures (sym (equal_back d drive e)));
    }

    case : LoseCase F drive (LostDrive drive) G
    case = (refl, subst (λ n. drive < n) (sym is.drives) inside, leaves)

    tables : InTables (with_parts v.array p) G
    tables = record {
      groups = is.groups ∙ sym was.rest.groups;
      drives = is.drives ∙ sym was.many;
      lost = ap (λ (l : ℕ → Bool). put l drive true) is.lost ∙ (λ i d. sym (was.lost d) i);
      failures = ap (λ (f : ℕ → Failures). put f drive (settled (f drive))) is.failures ∙ (λ i d. sym (was.failures d) i);
      log = is.log;
      slots = is.slots;
    }

-- a world one of whose drives was given a fuse
pub fuse_world : (v : WorldView) (F : Flat) (drive : ℕ) (a : ArrayView) → Represents v F → ShowsArray a (with_fuse F drive)
    → Represents (record { array = a; hands = v.hands }) (with_fuse F drive)
fuse_world v F drive a rep shows = record {
  array = shows;
  held = record { once = rep.held.once; inside = rep.held.inside };
  hands = rep.hands;
}

-- a world whose hands stay, after a call that may only lose drives
pub sync_world : (v : WorldView) (F : Flat) (a : ArrayView) → Represents v F → (y : (G : Flat) × Leaves F G × ShowsArray a G)
    → (G : Flat) × Leaves F G × Represents (record { array = a; hands = v.hands }) G
sync_world v F a rep y = (
  y.0,
  y.1,
  record {
    array = y.2;
    held = subst AreHeld (sym y.1.same) (record { once = rep.held.once; inside = rep.held.inside });
    hands = hands_as v.hands y.0 F y.1 rep.hands;
  },
)

-- and one whose log was shortened
pub shortened_world : (v : WorldView) (F : Flat) (a : ArrayView) → Represents v F → (y : (G : Flat) × IsShortened F G × ShowsArray a G)
    → (G : Flat) × IsShortened F G × Represents (record { array = a; hands = v.hands }) G
shortened_world v F a rep y = (
  y.0,
  y.1,
  record {
    array = y.2;
    held = subst AreHeld (sym y.1.is) (record { once = rep.held.once; inside = rep.held.inside });
    hands = λ t. subst (λ (H : Flat). HandSlot (hand_at v.hands t) (H.held t)) (sym y.1.is) (rep.hands t);
  },
)

-- its sizes stay, also where an allocation failed
pub shortened_sizes : {E : Type 0} (r : Result (Unit {0}) E) (a b : ArrayView) → OnOk r (b ≡ record a { log = b.log }) → OnErr r (b ≡ a) → SameSizes a b
shortened_sizes (Ok done) a b is err = record { payload = ap (λ (x : ArrayView). x.parts.groups.payload) is; blocks = ap (λ (x : ArrayView). x.parts.groups.blocks) is }
shortened_sizes (Err e) a b is err = record { payload = ap (λ (x : ArrayView). x.parts.groups.payload) err; blocks = ap (λ (x : ArrayView). x.parts.groups.blocks) err }
