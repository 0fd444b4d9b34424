-- A block is put into a free slot: what each of the array's calls leaves of the world. The hands in between are those of a worker
-- that does the steps one by one; before the first and after the last nobody has the slots in hand.
use Rattle.std.proofs.Common.{◌≡◌, ◌≢◌, ℕ, ◌/◌, ◌%◌, ◌<◌, nat_lt, cond, Bool, true, false, not, ◌&&◌, ◌||◌, List, ◌∷◌, length, refl, sym, ap, ◌∙◌, subst, arith, inl, inr, Option, Some, None, Result, Ok, Err, MatchResult, IfOk, IfErr, IfSome}
use Rattle.std.proofs.Math.ListN.{set}
use Rattle.std.proofs.lemmas.Bool.Decides.{nat_tests}
use Rattle.std.proofs.lemmas.Option.{same_Some}
use Rattle.std.proofs.lemmas.List.{length-set, get_or-set_same, get_or-set_other, set-get_or}
use Rattle.map_join.specs.declared.records.Record.{Record}
use Rattle.map_join.specs.Record.{record_at}
use Rattle.extent_groups.specs.declared.class.Class.{Class}
use Rattle.extent_groups.specs.declared.class.Class.TheVariants.{Mirrored, Parity}
use Rattle.extent_groups.specs.Geometry.{slot_count}
use Rattle.extent_groups.specs.Groups.{Group, Groups, class_in, group_at, slots_in}
use Rattle.extent_groups.specs.Stores.{IsSlotOf}
use Rattle.flat_machine.specs.declared.refusal.Refusal.{Refusal}
use Rattle.flat_machine.specs.declared.refusal.Refusal.TheVariants.{Memory, Gone, DriveLost}
use Rattle.flat_machine.specs.Flat.{Flat, Content, Stored, Holder, Worker, Ticket, Block, IsNewest, same_holder, turned}
use Rattle.flat_machine.specs.Steps.{Claimed, Released, Committed, Discarded, Refused, Claim, Commit}
use Rattle.flat_machine.specs.Steps as step
use Rattle.flat_machine.specs.Cases.{Case, Runs, IsAllocating, ClaimCase, FillCase, CopyCase, CommitCase, DiscardCase, ReleaseCase}
use Rattle.flat_machine.specs.History.{IsValidStep}
use Rattle.flat_machine.proofs.Newest.{place_small}
use Rattle.flat_machine.proofs.Holding.{once_any}
use Rattle.flat_machine.proofs.Pairs.{Any, IsOnce, equal, itself, turned_here}
use Rattle.flat_machine.proofs.Passing.{Passes, passed}
use Rattle.slot_tables.specs.declared.hand.Hand.{Hand}
use Rattle.slot_tables.specs.declared.hand.Hand.TheVariants.{Empty, Holds, Waits}
use Rattle.slot_tables.specs.Changes.{IsPlaceOf, MayRefuse, passed_hands, fill_reason_of, fill_view, copy_view}
use Rattle.flat_machine.specs.Groups.{class_at, class_below}
use Rattle.disk_array.specs.Refused.{IsRefused, IsUnplaced}
use Rattle.extents.specs.declared.header.Kind.{Kind}
use Rattle.unit_store.specs.Views.{WasPut, WasCopied}
use Rattle.slot_tables.specs.Views.{Kept, Nothing, Pending, Moving, Newest, Unmade, ArrayView, WorldView, kept_at, hand_at, key_at, has_no_holder, with_parts, SameSizes}
use Rattle.slot_tables.specs.Represents.{HandSlot, ShowsArray, Represents, is_claim, is_ticket}
use Rattle.slot_tables.proofs.Fills.{can_fill, fill_refused}
use Rattle.slot_tables.proofs.Hands.{claim_case, release_case, with_hand}
use Rattle.flat_machine.proofs.Newest as flat
use Rattle.flat_machine.proofs.Keeps.{step_keeps}
use Rattle.flat_machine.proofs.Holding.{step_holds}
use Rattle.map_join.specs.Maps.{IsMapOf}
use Rattle.slot_tables.specs.AtOnce.{ArePutAtOnce}
use Rattle.slot_tables.proofs.Places.{set_twice}
use Rattle.step_core.specs.declared.place.NotPlaced.TheVariants as denied
use Rattle.step_core.specs.declared.place.Given.{Given}
use Rattle.step_core.specs.declared.place.Given.TheVariants as given
use Rattle.step_core.specs.declared.claimed.What.{What}
use Rattle.step_core.specs.declared.claimed.What.TheVariants as what
use Rattle.step_core.specs.Placing.{Put, Fresh, Again, IsClosedFor, IsLevelFor, IsNotPlaced, IsOpenFor, IsRelocated, IsSizedFor, IsStill, IsWhatFor, IsWhatOf, Places, PutReports, Puts, PutsAtOnce, Denies, Commits, block_for, content_of, record_slot, put_for, put_of, what_of, put_step, put_answer, back_steps, back_answers}
use Rattle.step_core.proofs.Worlds.{Matches, fill_hands, fill_world, copy_hands, copy_world, commit_matches, discard_world, refused_world}

-- a slot that nobody holds is in nobody's hand
pub free_hand : (k : Kept) (h : Hand) → has_no_holder k h ≡ true → h ≡ Empty
free_hand k Empty free = refl
free_hand k (Holds w) free = absurd (cc)
free_hand k (Waits w) free = absurd (cc)

-- and the array keeps nothing of it
pub free_kept : (k : Kept) (h : Hand) → has_no_holder k h ≡ true → k ≡ Nothing
free_kept Nothing Empty free = refl
free_kept (Pending x) Empty free = absurd (cc)
free_kept (Moving r x) Empty free = absurd (cc)
free_kept (Newest b) Empty free = absurd (cc)
free_kept Unmade Empty free = absurd (cc)
free_kept k (Holds w) free = absurd (cc)
free_kept k (Waits w) free = absurd (cc)

-- nor is one that is a block's newest place
block_hand : (h : Hand) (held : Holder → Bool) (b : ℕ) → HandSlot h held → IsOnce Any held → held (Block b) ≡ true → h ≡ Empty
block_hand Empty held b is once has = refl
block_hand (Holds w) held b is once has =
    let both : Block b ≡ Worker w = once (Block b) (Worker w) tt tt has (is.claims w ∙ equal w w refl) in absurd (cc)
block_hand (Waits w) held b is once has =
    let both : Block b ≡ Ticket w = once (Block b) (Ticket w) tt tt has (is.tickets w ∙ equal w w refl) in absurd (cc)

-- a hand that was empty, and is again
hand_back : (hands : List Hand) (s : ℕ) (h : Hand) → hand_at hands s ≡ Empty → set (set hands s h) s Empty ≡ hands
hand_back hands s h empty = set_twice hands s h Empty ∙ ap (λ x. set hands s x) (sym empty) ∙ set-get_or hands s Empty

-- what a worker has in hand of a slot that it claimed, and of one that waits for it
holds_it : (hands : List Hand) (s w : ℕ) → s < length hands → is_claim (hand_at (set hands s (Holds w)) s) w ≡ true
holds_it hands s w inside = ap (λ h. is_claim h w) (get_or-set_same hands s (Holds w) Empty inside) ∙ equal w w refl

waits_it : (hands : List Hand) (s w : ℕ) → s < length hands → is_ticket (hand_at (set hands s (Waits w)) s) w ≡ true
waits_it hands s w inside = ap (λ h. is_ticket h w) (get_or-set_same hands s (Waits w) Empty inside) ∙ equal w w refl

many : (hands : List Hand) (s : ℕ) (h : Hand) → length hands ≡ 65536 → length (set hands s h) ≡ 65536
many hands s h long = length-set hands s h ∙ long

below : (n s : ℕ) → n ≡ 65536 → s < 65536 → s < n
below n s long small = omega arith

-- a world whose hands are others that are equal
with_hands : (P : Flat → Type 0) (a : ArrayView) (h k : List Hand) → h ≡ k → (G : Flat) × (P G) × (Represents (record { array = a; hands = h }) G)
    → (G : Flat) × (P G) × (Represents (record { array = a; hands = k }) G)
with_hands P a h k is x = (x.0, x.1, subst (λ (l : List Hand). Represents (record { array = a; hands = l }) x.0) is x.2)

-- a claim that is released, after which the hands are others that are equal
goes_back : (F : Flat) (w s : ℕ) (a : ArrayView) (h k : List Hand) → length h ≡ 65536 → s < 65536 → is_claim (hand_at h s) w ≡ true → set h s Empty ≡ k
    → Represents (record { array = a; hands = h }) F
    → (G : Flat) × (ReleaseCase F w s (Released s) G) × (Represents (record { array = a; hands = k }) G)
goes_back F w s a h k long small held is rep =
    with_hands (λ G. ReleaseCase F w s (Released s) G) a (set h s Empty) k is
    (release_case (record { array = a; hands = h }) F w s (below (length h) s long small) held rep)

-- what a fill or a copy leaves
put_world : (v : WorldView) (F : Flat) (what : Put) (w s b : ℕ) (a : ArrayView) → s < length v.hands → IsValidStep F.groups (put_step what w s b) → Represents v F
    → is_claim (hand_at v.hands s) w ≡ true → (G : Flat) × (Case F (put_step what w s b) (put_answer what s) G) × (ShowsArray a G)
    → (G : Flat) × (Case F (put_step what w s b) (put_answer what s) G) × (Represents (record { array = a; hands = set v.hands s (Waits w) }) G)
put_world v F (Fresh x) w s b a inside fits rep held y = fill_world v F w s x a inside fits rep held s refl y
put_world v F Again w s b a inside fits rep held y = copy_world v F w s b a inside fits rep held s refl y

put_emits : (F G : Flat) (what : Put) (w s b : ℕ) → Case F (put_step what w s b) (put_answer what s) G → G.emitted ≡ F.emitted
put_emits F G (Fresh x) w s b case = ap (λ (x : Flat). x.emitted) case.3.same
put_emits F G Again w s b case = ap (λ (x : Flat). x.emitted) case.1.6.same

put_groups : (F G : Flat) (what : Put) (w s b : ℕ) → Case F (put_step what w s b) (put_answer what s) G → G.groups ≡ F.groups
put_groups F G (Fresh x) w s b case = ap (λ (x : Flat). x.groups) case.3.same
put_groups F G Again w s b case = ap (λ (x : Flat). x.groups) case.1.6.same

put_hands : (v : WorldView) (F G : Flat) (what : Put) (w s b : ℕ) → s < length v.hands → Represents v F → is_claim (hand_at v.hands s) w ≡ true
    → Case F (put_step what w s b) (put_answer what s) G → (t : ℕ) → HandSlot (hand_at (set v.hands s (Waits w)) t) (G.held t)
put_hands v F G (Fresh x) w s b inside rep held case = fill_hands v F G w s x inside rep held case
put_hands v F G Again w s b inside rep held case = copy_hands v F G w s b inside rep held case

-- the state that it leaves, though the array needn't show it
put_matches : (v : WorldView) (F G : Flat) (what : Put) (w s b : ℕ) → s < length v.hands → IsValidStep F.groups (put_step what w s b) → Represents v F
    → is_claim (hand_at v.hands s) w ≡ true → Case F (put_step what w s b) (put_answer what s) G → Matches (set v.hands s (Waits w)) v.array G
put_matches v F G what w s b inside fits rep held case = record {
  history = step_keeps F G (key_at v.array) (key_at v.array) (put_step what w s b) (put_answer what s) rep.array.history fits case
      (subst (λ rs. IsMapOf rs (key_at v.array)) (sym (put_emits F G what w s b case)) rep.array.history.map);
  groups = put_groups F G what w s b case ∙ rep.array.tables.groups;
  held = step_holds F G (key_at v.array) (put_step what w s b) (put_answer what s) rep.array.history rep.held fits case;
  hands = put_hands v F G what w s b inside rep held case;
}

-- the hands while the slot is claimed, and while it waits
abbrev claimed_hands : WorldView → ℕ → ℕ → List Hand
claimed_hands v w s = set v.hands s (Holds w)

abbrev waiting_hands : WorldView → ℕ → ℕ → List Hand
waiting_hands v w s = set (claimed_hands v w s) s (Waits w)

-- what is true of a slot that a block may go into
pub record IsOpen (v : WorldView) (what : Put) (s b : ℕ) : Type 0 where
  pub small : s < 65536
  pub long : length v.hands ≡ 65536
  pub free : has_no_holder (kept_at v.array s) (hand_at v.hands s) ≡ true
  pub fits : (w : ℕ) → IsValidStep v.array.parts.groups (put_step what w s b)
  pub block : b < v.array.parts.groups.blocks

empty_of : (v : WorldView) (what : Put) (s b : ℕ) → IsOpen v what s b → hand_at v.hands s ≡ Empty
empty_of v what s b ready = free_hand (kept_at v.array s) (hand_at v.hands s) ready.free

-- the state after the claim
record IsClaimed (v : WorldView) (F : Flat) (what : Put) (w s b : ℕ) : Type 0 where
  state : Flat
  claim : ClaimCase F w s (Claimed s) state
  matches : Represents (record { array = v.array; hands = claimed_hands v w s }) state
  hand : is_claim (hand_at (claimed_hands v w s) s) w ≡ true
  held : state.held s (Worker w) ≡ true
  fits : IsValidStep state.groups (put_step what w s b)

claimed : (v : WorldView) (F : Flat) (what : Put) (w s b : ℕ) → IsOpen v what s b → Represents v F → IsClaimed v F what w s b
claimed v F what w s b ready rep = record {
  state = c.0;
  claim = c.1;
  matches = c.2;
  hand = hand;
  held = (c.2.hands s).claims w ∙ hand;
  fits = subst (λ (z : Groups). IsValidStep z (put_step what w s b)) (sym c.2.array.tables.groups) (ready.fits w);
}
  where
    inside : s < length v.hands
    inside = below (length v.hands) s ready.long ready.small

    c : (G : Flat) × (ClaimCase F w s (Claimed s) G) × (Represents (with_hand v s (Holds w)) G)
    c = claim_case v F w s ready.small inside ready.free rep

    hand : is_claim (hand_at (claimed_hands v w s) s) w ≡ true
    hand = holds_it v.hands s w inside

-- the state in which the slot waits
record IsWaiting (v : WorldView) (F : Flat) (a : ArrayView) (what : Put) (w s b : ℕ) : Type 0 where
  before : IsClaimed v F what w s b
  state : Flat
  put : Case before.state (put_step what w s b) (put_answer what s) state
  matches : Represents (record { array = a; hands = waiting_hands v w s }) state
  hand : is_ticket (hand_at (waiting_hands v w s) s) w ≡ true
  held : state.held s (Ticket w) ≡ true
  emitted : state.emitted ≡ F.emitted

waiting : (v : WorldView) (F : Flat) (a : ArrayView) (what : Put) (w s b : ℕ) → IsOpen v what s b → Represents v F → Puts v.array a what s b → IsWaiting v F a what w s b
waiting v F a what w s b ready rep puts = record {
  before = c;
  state = p.0;
  put = p.1;
  matches = p.2;
  hand = hand;
  held = (p.2.hands s).tickets w ∙ hand;
  emitted = put_emits c.state p.0 what w s b p.1 ∙ ap (λ (x : Flat). x.emitted) c.claim.2.same;
}
  where
    c : IsClaimed v F what w s b
    c = claimed v F what w s b ready rep

    inside : s < length (claimed_hands v w s)
    inside = below (length (claimed_hands v w s)) s (many v.hands s (Holds w) ready.long) ready.small

    p : (G : Flat) × (Case c.state (put_step what w s b) (put_answer what s) G) × (Represents (record { array = a; hands = waiting_hands v w s }) G)
    p = put_world (record { array = v.array; hands = claimed_hands v w s }) c.state what w s b a inside c.fits c.matches c.hand (puts c.state w c.matches.array c.held)

    hand : is_ticket (hand_at (waiting_hands v w s) s) w ≡ true
    hand = waits_it (claimed_hands v w s) s w inside

long_waiting : (v : WorldView) (w s : ℕ) → length v.hands ≡ 65536 → length (waiting_hands v w s) ≡ 65536
long_waiting v w s long = many (claimed_hands v w s) s (Waits w) (many v.hands s (Holds w) long)

-- the slot waits no longer, and all hands are as they were
waited : (v : WorldView) (w s : ℕ) (h : Hand) → hand_at v.hands s ≡ Empty → set (set (waiting_hands v w s) s h) s Empty ≡ v.hands
waited v w s h empty =
    set_twice (waiting_hands v w s) s h Empty ∙ set_twice (claimed_hands v w s) s (Waits w) Empty ∙ hand_back v.hands s (Holds w) empty

-- the same, of an array that needn't show it: this one has its keys
record IsBetween (v : WorldView) (F : Flat) (a : ArrayView) (what : Put) (w s b : ℕ) : Type 0 where
  before : IsClaimed v F what w s b
  state : Flat
  put : Case before.state (put_step what w s b) (put_answer what s) state
  matches : Matches (waiting_hands v w s) a state
  hand : is_ticket (hand_at (waiting_hands v w s) s) w ≡ true
  emitted : state.emitted ≡ F.emitted

-- a commit that was carried out: the old place is released, if the block had one
commits_then : (v : WorldView) (F : Flat) (a e : ArrayView) (what : Put) (w s b : ℕ) (r : Record) → IsOpen v what s b → b < a.parts.groups.blocks
    → (x : IsBetween v F a what w s b) → (G : Flat) × (CommitCase x.state w s b (Committed r) G) × (ShowsArray e G)
    → (G : Flat) × ((is : IsRelocated F w s b what r G) × (is.old ≡ record_at b (key_at a b))) × (Represents (record { array = e; hands = v.hands }) G)
commits_then v F a e what w s b r ready block x commits = (
  g.0,
  (
    record {
      old = found;
      newest = subst (λ (rs : List Record). IsNewest rs b found) x.emitted newest;
      run = (x.before.state, x.before.claim, (x.state, x.put, (c.0, c.1, g.1)));
    },
    refl,
  ),
  g.2,
)
  where
    hands : List Hand
    hands = waiting_hands v w s

    long : length hands ≡ 65536
    long = long_waiting v w s ready.long

    found : Option Record
    found = record_at b (key_at a b)

    newest : IsNewest x.state.emitted b found
    newest = flat.newest_reported x.state.emitted (key_at a) b x.matches.history.records x.matches.history.map

    there : b < x.state.groups.blocks
    there = subst (λ (z : Groups). b < z.blocks) (sym x.matches.groups) block

    c : (G : Flat) × (CommitCase x.state w s b (Committed r) G) × (Represents (record { array = e; hands = passed_hands hands s w found }) G)
    c = commit_matches hands a x.state w s b r e ready.small there long x.matches x.hand commits

    passes : Passes Any x.state w s b found
    passes = passed Any x.state (key_at a) w s b found (once_any x.state x.matches.held) tt tt x.matches.history newest ((x.matches.hands s).tickets w ∙ x.hand)

    none : set hands s Empty ≡ v.hands
    none = set_twice (claimed_hands v w s) s (Waits w) Empty ∙ hand_back v.hands s (Holds w) (empty_of v what s b ready)

    old : (q : Record) → found ≡ Some q → hand_at v.hands q.place ≡ Empty
    old q is =
        sym (get_or-set_other (claimed_hands v w s) s q.place (Waits w) Empty (passes.apart q is) ∙ get_or-set_other v.hands s q.place (Holds w) Empty (passes.apart q is))
        ∙ block_hand (hand_at hands q.place) (x.state.held q.place) b (x.matches.hands q.place) (once_any x.state x.matches.held q.place) (passes.held q is)

    back : (o : Option Record) → found ≡ o → Represents (record { array = e; hands = passed_hands hands s w o }) c.0
        → (G : Flat) × (Runs c.0 (back_steps w o) (back_answers o) G) × (Represents (record { array = e; hands = v.hands }) G)
    back None is matches = (c.0, refl, subst (λ (l : List Hand). Represents (record { array = e; hands = l }) c.0) none matches)
    back (Some q) is matches =
        let small : q.place < 65536 = place_small b (key_at a b) q is in
        let given = set (set hands s Empty) q.place (Holds w) in
        let room : length (set hands s Empty) ≡ 65536 = many hands s Empty long in
        let gone : set given q.place Empty ≡ v.hands =
        ap (λ (l : List Hand). set (set l q.place (Holds w)) q.place Empty) none ∙ hand_back v.hands q.place (Holds w) (old q is)
        in
        let y = goes_back c.0 w q.place e given v.hands (many (set hands s Empty) q.place (Holds w) room) small
        (holds_it (set hands s Empty) q.place w (below (length (set hands s Empty)) q.place room small)) gone matches
        in
        (y.0, (y.0, y.1, refl), y.2)

    g : (G : Flat) × (Runs c.0 (back_steps w found) (back_answers found) G) × (Represents (record { array = e; hands = v.hands }) G)
    g = back found refl c.2

-- a put and its commit in one write
pub places_at_once : (v : WorldView) (F : Flat) (e : ArrayView) (what : Put) (w s b : ℕ) (r : Record) → IsOpen v what s b → Represents v F → PutsAtOnce v.array e what s b r
    → (G : Flat) × ((is : IsRelocated F w s b what r G) × (is.old ≡ record_at b (key_at v.array b))) × (Represents (record { array = e; hands = v.hands }) G)
places_at_once v F e what w s b r ready rep puts = commits_then v F v.array e what w s b r ready ready.block x (p.2.0, p.2.1, p.2.2)
  where
    c : IsClaimed v F what w s b
    c = claimed v F what w s b ready rep

    inside : s < length (claimed_hands v w s)
    inside = below (length (claimed_hands v w s)) s (many v.hands s (Holds w) ready.long) ready.small

    p : ArePutAtOnce c.state (put_step what w s b) (put_answer what s) w s b r e
    p = puts c.state w c.matches.array c.held

    x : IsBetween v F v.array what w s b
    x = record {
      before = c;
      state = p.0;
      put = p.1;
      matches = put_matches (record { array = v.array; hands = claimed_hands v w s }) c.state p.0 what w s b inside c.fits c.matches c.hand p.1;
      hand = waits_it (claimed_hands v w s) s w inside;
      emitted = put_emits c.state p.0 what w s b p.1 ∙ ap (λ (x : Flat). x.emitted) c.claim.2.same;
    }

-- a fill or a copy that was refused: the claim is released
pub refused_first : (v : WorldView) (F : Flat) (a : ArrayView) (what : Put) (w s b : ℕ) (r : Refusal) → IsOpen v what s b → Represents v F → Denies v.array a what s b r → r ≢ Memory
    → (G : Flat) × (Places F w s b what (Err (denied.Refused r)) G) × (Represents (record { array = a; hands = v.hands }) G)
refused_first v F a what w s b r ready rep denies some = go r (denies c.state w c.matches.array c.held) some
  where
    c : IsClaimed v F what w s b
    c = claimed v F what w s b ready rep

    hands : List Hand
    hands = claimed_hands v w s

    gone : set hands s Empty ≡ v.hands
    gone = hand_back v.hands s (Holds w) (empty_of v what s b ready)

    back : (H : Flat) → Represents (record { array = a; hands = hands }) H → (G : Flat) × (ReleaseCase H w s (Released s) G) × (Represents (record { array = a; hands = v.hands }) G)
    back H matches = goes_back H w s a hands v.hands (many v.hands s (Holds w) ready.long) ready.small c.hand gone matches

    go : (k : Refusal) → MayRefuse k (Unit {0}) ((G : Flat) × (Case c.state (put_step what w s b) (Refused k) G) × (ShowsArray a G)) → k ≢ Memory
        → (G : Flat) × (Places F w s b what (Err (denied.Refused k)) G) × (Represents (record { array = a; hands = v.hands }) G)
    go Memory may ne = absurd (ne refl)
    go k may ne =
        let d = refused_world (record { array = v.array; hands = hands }) c.state (put_step what w s b) k a c.fits c.matches may in
        let y = back d.0 d.2 in
        (y.0, inl (c.state, c.claim, (d.0, d.1, (y.0, y.1, refl))), y.2)

-- a commit that was refused: the ticket is discarded, and its claim is released
pub refused_last : (v : WorldView) (F : Flat) (a e k : ArrayView) (what : Put) (w s b : ℕ) (r : Refusal) → IsOpen v what s b → b < a.parts.groups.blocks → Represents v F
    → Puts v.array a what s b
    → ((H : Flat) (u : ℕ) → ShowsArray a H → H.held s (Ticket u) ≡ true → MayRefuse r (IsAllocating H (Commit u s b)) ((G : Flat) × (CommitCase H u s b (Refused r) G) × (ShowsArray e G)))
    → (r ≡ Memory → e ≡ a)
    → ((H : Flat) (u : ℕ) → ShowsArray e H → H.held s (Ticket u) ≡ true → (G : Flat) × (DiscardCase H u s (Discarded s) G) × (ShowsArray k G))
    → (G : Flat) × (Places F w s b what (Err (denied.Refused r)) G) × (Represents (record { array = k; hands = v.hands }) G)
refused_last v F a e k what w s b r ready block rep puts denies same ends = go r (denies x.state w x.matches.array x.held) same
  where
    x : IsWaiting v F a what w s b
    x = waiting v F a what w s b ready rep puts

    hands : List Hand
    hands = waiting_hands v w s

    long : length hands ≡ 65536
    long = long_waiting v w s ready.long

    there : b < x.state.groups.blocks
    there = subst (λ (z : Groups). b < z.blocks) (sym x.matches.array.tables.groups) block

    back : (H : Flat) → Represents (record { array = e; hands = hands }) H
        → (M : Flat) × (DiscardCase H w s (Discarded s) M) × ((G : Flat) × (ReleaseCase M w s (Released s) G) × (Represents (record { array = k; hands = v.hands }) G))
    back H matches =
        let d = discard_world (record { array = e; hands = hands }) H w s k (below (length hands) s long ready.small) matches x.hand s refl
        (ends H w matches.array ((matches.hands s).tickets w ∙ x.hand))
        in (
          d.0,
          d.1,
          goes_back d.0 w s k (set hands s (Holds w)) v.hands (many hands s (Holds w) long) ready.small (holds_it hands s w (below (length hands) s long ready.small))
              (waited v w s (Holds w) (empty_of v what s b ready)) d.2,
        )

    go : (k_is : Refusal) → MayRefuse k_is (IsAllocating x.state (Commit w s b)) ((G : Flat) × (CommitCase x.state w s b (Refused k_is) G) × (ShowsArray e G)) → (k_is ≡ Memory → e ≡ a)
        → (G : Flat) × (Places F w s b what (Err (denied.Refused k_is)) G) × (Represents (record { array = k; hands = v.hands }) G)
    go Memory may was =
        let y = back x.state (subst (λ (z : ArrayView). Represents (record { array = z; hands = hands }) x.state) (sym (was refl)) x.matches) in
        (y.2.0, record { run = (x.before.state, x.before.claim, (x.state, x.put, (y.0, y.1, (y.2.0, y.2.1, refl)))); expected = may }, y.2.2)
    go k_is may was =
        let d = refused_world (record { array = a; hands = hands }) x.state (Commit w s b) k_is e there x.matches may in
        let y = back d.0 d.2 in
        (y.2.0, inr (x.before.state, x.before.claim, (x.state, x.put, (d.0, d.1, (y.0, y.1, (y.2.0, y.2.1, refl))))), y.2.2)

-- the same, with nothing said of a call that ran out of memory
may_less : (r : Refusal) (W P : Type 0) → MayRefuse r W P → MayRefuse r (Unit {0}) P
may_less Memory W P y = tt
may_less r W P y = y

-- it has numbers in range
pub given_fits : (z : Groups) (x : Option Given) (b : ℕ) (v : What) → v ≡ what_of x b → b < z.blocks → IsSizedFor z.payload x → IsWhatFor z.blocks z.payload v
given_fits z (Some g) b v is block fits = subst (IsWhatFor z.blocks z.payload) (sym is) fits
given_fits z None b v is block fits = subst (IsWhatFor z.blocks z.payload) (sym is) block

-- what an array answers to a fill or a copy, as a put
pub puts_fill : {C : Type 0} (F : Flat) (w s b : ℕ) (x : Content) (a : ArrayView) (r : Result ℕ (Refusal × C)) (W : Type 0) → IfOk r (λ t. t ≡ s)
    → MatchResult r (λ t. (G : Flat) × (FillCase F w t x (step.Filled t) G) × (ShowsArray a G))
    (λ e. MayRefuse e.0 W ((G : Flat) × (FillCase F w s x (Refused e.0) G) × (ShowsArray a G)))
    → PutReports r F w (Fresh x) s b a
puts_fill F w s b x a (Ok t) W is y = subst (λ n. (G : Flat) × (FillCase F w n x (step.Filled n) G) × (ShowsArray a G)) is y
puts_fill F w s b x a (Err e) W is y = may_less e.0 W ((G : Flat) × (FillCase F w s x (Refused e.0) G) × (ShowsArray a G)) y

pub puts_copy : {C : Type 0} (F : Flat) (w s b : ℕ) (a : ArrayView) (r : Result ℕ (Refusal × C)) (W : Type 0) → IfOk r (λ t. t ≡ s)
    → MatchResult r (λ t. (G : Flat) × (CopyCase F w t b (step.Copied t) G) × (ShowsArray a G))
    (λ e. MayRefuse e.0 W ((G : Flat) × (CopyCase F w s b (Refused e.0) G) × (ShowsArray a G)))
    → PutReports r F w Again s b a
puts_copy F w s b a (Ok t) W is y = subst (λ n. (G : Flat) × (CopyCase F w n b (step.Copied n) G) × (ShowsArray a G)) is y
puts_copy F w s b a (Err e) W is y = may_less e.0 W ((G : Flat) × (CopyCase F w s b (Refused e.0) G) × (ShowsArray a G)) y

-- an array that refused has the groups and the keys that it had
pub refused_still : (a b : ArrayView) (q : Refusal) → IsRefused a b q → IsStill a b
refused_still a b (Gone slot) is = record { groups = is.1.rest.groups; keys = ap (λ (x : ArrayView). x.keys) is.0 }
refused_still a b (DriveLost drive) is = record { groups = is.1.rest.groups; keys = ap (λ (x : ArrayView). x.keys) is.0 }
refused_still a b _ is = record { groups = ap (λ (x : ArrayView). x.parts.groups) is; keys = ap (λ (x : ArrayView). x.keys) is }

-- so has one in which a slot was filled or copied into
pub fill_still : {C : Type 0} (k : Kind) (A : ℕ → Type 0) (u : Stored) (r : Result ℕ (Refusal × C)) (claim : C) (a b : ArrayView)
    → IfOk r (λ t. A t × (b ≡ fill_view (with_parts a b.parts) t k) × WasPut a.parts b.parts t u) → IfErr r (λ e. (e.1 ≡ claim) × IsRefused a b e.0) → IsStill a b
fill_still k A u (Ok t) claim a b ok err = record { groups = ok.2.rest.groups; keys = ap (λ (x : ArrayView). x.keys) ok.1 }
fill_still k A u (Err e) claim a b ok err = refused_still a b e.0 err.1

pub copy_still : {C : Type 0} (A : ℕ → Type 0) (B : Record → Type 0) (r : Result ℕ (Refusal × C)) (claim : C) (a b : ArrayView)
    → IfOk r (λ t. A t × ((q : Record) × (k : Kind) × B q × (b ≡ copy_view (with_parts a b.parts) t q k) × WasCopied a.parts b.parts q.place t k))
    → IfErr r (λ e. (e.1 ≡ claim) × IsRefused a b e.0) → IsStill a b
copy_still A B (Ok t) claim a b ok err = record { groups = ok.1.4.rest.groups; keys = ap (λ (x : ArrayView). x.keys) ok.1.3 }
copy_still A B (Err e) claim a b ok err = refused_still a b e.0 err.1

-- what is given has numbers in range
sized : (z : Groups) (x : Option Given) (s b : ℕ) → s < 65536 → b < z.blocks → IsSizedFor z.payload x → (w : ℕ) → IsValidStep z (put_step (put_of x) w s b)
sized z None s b small block fits w = (small, block)
sized z (Some (given.Payload payload)) s b small block fits w = (small, fits)
sized z (Some given.Trim) s b small block fits w = (small, tt)

-- a slot that was found free
pub opened : (u v : WorldView) (x : Option Given) (s b : ℕ) → u ≡ v → s < 65536 → length u.hands ≡ 65536 → has_no_holder (kept_at v.array s) (hand_at v.hands s) ≡ true
    → b < v.array.parts.groups.blocks → IsSizedFor v.array.parts.groups.payload x → IsOpen u (put_of x) s b
opened u v x s b is small long free block fits =
    let inside : b < u.array.parts.groups.blocks = subst (λ (y : WorldView). b < y.array.parts.groups.blocks) (sym is) block in record {
      small = small;
      long = long;
      free = subst (λ (y : WorldView). has_no_holder (kept_at y.array s) (hand_at y.hands s) ≡ true) (sym is) free;
      fits = sized u.array.parts.groups x s b small inside (subst (λ (y : WorldView). IsSizedFor y.array.parts.groups.payload x) (sym is) fits);
      block = inside;
    }

-- what was placed, as the call reports it
pub places_as : {C : Type 0} (names : C → ℕ) (F : Flat) (v : WorldView) (what : Put) (w s b : ℕ) (r n : Record) (claim : Option C) (found : Option Record) (left : Option ℕ) → n ≡ r
    → ((old : Option Record) → IsPlaceOf names claim old → left ≡ record_slot old) → IsPlaceOf names claim found
    → (G : Flat) × ((is : IsRelocated F w s b what r G) × (is.old ≡ found)) × (Represents v G)
    → (G : Flat) × ((is : IsRelocated F w s b what n G) × (left ≡ record_slot is.old)) × (Represents v G)
places_as names F v what w s b r n claim found left newest is_left at y = (
  y.0,
  (
    record {
      old = old;
      newest = y.1.0.newest;
      run = subst (λ (m : Record). Runs F (Claim w s ∷ put_step what w s b ∷ Commit w s b ∷ back_steps w old) (Claimed s ∷ put_answer what s ∷ Committed m ∷ back_answers old) y.0) (sym newest) y.1.0.run;
    },
    is_left old (subst (λ (o : Option Record). IsPlaceOf names claim o) (sym y.1.1) at),
  ),
  y.2,
)
  where
    old : Option Record
    old = y.1.0.old

-- what is said of a refusal, if there is one, with nothing said of a call that ran out of memory
pub less_reported : {T C : Type 0} (A : T → Type 0) (W : Type 0) (P : Refusal → Type 0) (r : Result T (Option Refusal × C))
    → MatchResult r A (λ e. IfSome e.0 (λ q. MayRefuse q W (P q))) → MatchResult r A (λ e. IfSome e.0 (λ q. MayRefuse q (Unit {0}) (P q)))
less_reported A W P (Ok t) y = y
less_reported A W P (Err e) y = less e.0 y
  where
    less : (o : Option Refusal) → IfSome o (λ q. MayRefuse q W (P q)) → IfSome o (λ q. MayRefuse q (Unit {0}) (P q))
    less None y = y
    less (Some q) y = may_less q W (P q) y

-- a content that can't go into the slot is refused, and the array stays
pub closed_case : (a : ArrayView) (v : What) (F : Flat) (w s b : ℕ) (q : Refusal) → IsClosedFor a s v q → ShowsArray a F → F.held s (Worker w) ≡ true
    → MayRefuse q (Unit {0}) ((G : Flat) × (Case F (put_step (put_for v) w s b) (Refused q) G) × (ShowsArray a G))
closed_case a (what.Fresh x) F w s b q closed shows held =
    may_less q _ ((G : Flat) × (FillCase F w s (content_of x) (Refused q) G) × (ShowsArray a G)) (fill_refused a F w s (content_of x) q closed shows held)
closed_case a (what.CopyOf n) F w s b q closed shows held = absurd closed

pub closed_refused : (a : ArrayView) (v : What) (s : ℕ) (q : Refusal) → IsClosedFor a s v q → IsRefused a a q × (q ≢ Memory)
closed_refused a (what.CopyOf n) s q closed = absurd closed
closed_refused a (what.Fresh x) s q closed = go (class_at a.parts.groups s) (kept_at a s) closed
  where
    P : Refusal → Type 0
    P r = IsRefused a a r × (r ≢ Memory)

    go : (c : Option Class) (k : Kept) → fill_reason_of c k ≡ Some q → P q
    go None k e = subst P (same_Some _ _ e) (refl, (λ is. absurd (cc)))
    go (Some Parity) k e = subst P (same_Some _ _ e) (refl, (λ is. absurd (cc)))
    go (Some Mirrored) Nothing e = absurd (cc)
    go (Some Mirrored) (Pending x) e = subst P (same_Some _ _ e) (refl, (λ is. absurd (cc)))
    go (Some Mirrored) (Moving r x) e = subst P (same_Some _ _ e) (refl, (λ is. absurd (cc)))
    go (Some Mirrored) (Newest b) e = subst P (same_Some _ _ e) (refl, (λ is. absurd (cc)))
    go (Some Mirrored) Unmade e = subst P (same_Some _ _ e) (refl, (λ is. absurd (cc)))

-- an array in which a content was put at once, or wasn't, has the sizes that it had
still_sizes : (a b : ArrayView) → IsStill a b → SameSizes a b
still_sizes a b still = record { payload = ap (λ (z : Groups). z.payload) still.groups; blocks = ap (λ (z : Groups). z.blocks) still.groups }

unplaced_sizes : (a b : ArrayView) (o : Option Refusal) → IsUnplaced a b o → SameSizes a b
unplaced_sizes a b None is = record { payload = ap (λ (x : ArrayView). x.parts.groups.payload) is; blocks = ap (λ (x : ArrayView). x.parts.groups.blocks) is }
unplaced_sizes a b (Some q) is = still_sizes a b (refused_still a b q is)

pub placed_sizes : {T C : Type 0} (r : Result T (Option Refusal × C)) (a b : ArrayView) (A : T → Type 0) (B : C → Type 0) → ((t : T) → A t → b.parts.groups ≡ a.parts.groups)
    → IfOk r A → IfErr r (λ e. B e.1 × IsUnplaced a b e.0) → SameSizes a b
placed_sizes (Ok t) a b A B same ok err = record { payload = ap (λ (z : Groups). z.payload) (same t ok); blocks = ap (λ (z : Groups). z.blocks) (same t ok) }
placed_sizes (Err e) a b A B same ok err = unplaced_sizes a b e.0 err.1

-- whoever put something into a slot has its ticket
or_true : (b : Bool) → (b || true) ≡ true
or_true true = refl
or_true false = refl

turned_gets : (held : ℕ → Holder → Bool) (s : ℕ) (j k : Holder) → turned held s j k s k ≡ true
turned_gets held s j k = turned_here held s j k k ∙ ap (λ b. (held s k && not (same_holder k j)) || b) (itself k) ∙ or_true (held s k && not (same_holder k j))

put_held : (F M : Flat) (what : Put) (w s b : ℕ) → Case F (put_step what w s b) (put_answer what s) M → M.held s (Ticket w) ≡ true
put_held F M (Fresh x) w s b case = ap (λ (z : Flat). z.held s (Ticket w)) case.3.same ∙ turned_gets F.held s (Worker w) (Ticket w)
put_held F M Again w s b case = ap (λ (z : Flat). z.held s (Ticket w)) case.1.6.same ∙ turned_gets F.held s (Worker w) (Ticket w)

-- a put and then a commit, one after the other, are both
pub puts_then : (a m e : ArrayView) (what : Put) (s b : ℕ) (r : Record) → Puts a m what s b → Commits m e s b r → PutsAtOnce a e what s b r
puts_then a m e what s b r puts commits F w shows held =
    let p = puts F w shows held in
    (p.0, p.1, commits p.0 w p.2 (λ _. put_held F p.0 what w s b p.1))

-- what goes into the slot is what was given, else a copy of the block
pub given_at_once : (x : Option Given) (n : ℕ) (v : What) (a e : ArrayView) (s b : ℕ) (r : Record) → v ≡ what_of x n → PutsAtOnce a e (put_for v) s b r → PutsAtOnce a e (put_of x) s b r
given_at_once (Some g) n v a e s b r is y = subst (λ (p : What). PutsAtOnce a e (put_for p) s b r) is y
given_at_once None n v a e s b r is y = subst (λ (p : What). PutsAtOnce a e (put_for p) s b r) is y

pub given_not_placed : (x : Option Given) (n : ℕ) (v : What) (a e : ArrayView) (s b : ℕ) (q : Refusal) → v ≡ what_of x n → IsNotPlaced a e (put_for v) s b q → IsNotPlaced a e (put_of x) s b q
given_not_placed (Some g) n v a e s b q is y = subst (λ (p : What). IsNotPlaced a e (put_for p) s b q) is y
given_not_placed None n v a e s b q is y = subst (λ (p : What). IsNotPlaced a e (put_for p) s b q) is y

pub given_of : (x : Option Given) (b : ℕ) (v : What) → v ≡ what_of x b → IsWhatOf b v
given_of (Some g) b v is = subst (IsWhatOf b) (sym is) tt
given_of None b v is = subst (IsWhatOf b) (sym is) refl

-- the class of a mirrored group's slot
class_is : (groups : Groups) (s : ℕ) → IsSlotOf Mirrored groups s → class_at groups s ≡ Some Mirrored
class_is groups s is = there (group_at groups (s / 128)) is.made is.below
  where
    there : (group : Option Group) → class_in group ≡ Some Mirrored → s % 128 < slots_in groups.segments group → class_below groups.segments group (s % 128) ≡ Some Mirrored
    there None made below = absurd (cc)
    there (Some group) made below =
        let inside : nat_lt (s % 128) (slot_count group.class (length group.members) groups.segments) ≡ true = grind (arith, nat_tests) in
        ap (λ q. cond q (Some group.class) None) inside ∙ made

-- a slot where it can go, of which the array keeps nothing, is open to it
pub given_open : (a : ArrayView) (x : Option Given) (s b : ℕ) → IsLevelFor x a.parts.groups s → kept_at a s ≡ Nothing → IsOpenFor a s (what_of x b)
given_open a (Some g) s b level kept = λ i. fill_reason_of (class_is a.parts.groups s level i) (kept i)
given_open a None s b level kept = tt

-- and a slot that is open to it is of a group where it can go
mirror_is : (groups : Groups) (s : ℕ) → class_at groups s ≡ Some Mirrored → IsSlotOf Mirrored groups s
mirror_is groups s is = let found = there (group_at groups (s / 128)) is in record { made = found.0; below = found.1 }
  where
    here : (group : Group) (inside : Bool) → nat_lt (s % 128) (slot_count group.class (length group.members) groups.segments) ≡ inside
        → cond inside (Some group.class) None ≡ Some Mirrored → (class_in (Some group) ≡ Some Mirrored) × (s % 128 < slots_in groups.segments (Some group))
    here group true lies is = (is, grind (arith, nat_tests))
    here group false lies is = absurd (cc)

    there : (group : Option Group) → class_below groups.segments group (s % 128) ≡ Some Mirrored → (class_in group ≡ Some Mirrored) × (s % 128 < slots_in groups.segments group)
    there None is = absurd (cc)
    there (Some group) is = here group (nat_lt (s % 128) (slot_count group.class (length group.members) groups.segments)) refl is

pub open_given : (a : ArrayView) (x : Option Given) (s b : ℕ) → IsOpenFor a s (what_of x b) → IsLevelFor x a.parts.groups s
open_given a (Some g) s b is_open = mirror_is a.parts.groups s (can_fill a s is_open).class
open_given a None s b is_open = tt

-- refused, before or after something waited in the slot
pub refused_then : (v : WorldView) (F : Flat) (e : ArrayView) (what : Put) (w s b : ℕ) (q : Refusal) → IsOpen v what s b → Represents v F → IsNotPlaced v.array e what s b q
    → (G : Flat) × (Places F w s b what (Err (denied.Refused q)) G) × (Represents (record { array = e; hands = v.hands }) G)
refused_then v F e what w s b q ready rep (inl first) = refused_first v F e what w s b q ready rep first.1 first.0
refused_then v F e what w s b q ready rep (inr late) =
    let inside : b < late.between.parts.groups.blocks = subst (λ n. b < n) (sym late.room.blocks) ready.block in
    refused_last v F late.between late.up.between e what w s b q ready inside rep late.puts (λ H x shows held. late.up.refused H x shows (λ _. held)) late.up.same
    (λ H x shows held. late.up.ended H x shows held)

-- a put tells the same of the block that it is for
pub put_of_block : {C : Type 0} (v : What) (b : ℕ) (r : Result ℕ (Refusal × C)) (F : Flat) (w s : ℕ) (a : ArrayView) → IsWhatOf b v
    → PutReports r F w (put_for v) s (block_for v) a → PutReports r F w (put_for v) s b a
put_of_block (what.Fresh x) b (Ok t) F w s a of y = y
put_of_block (what.Fresh x) b (Err e) F w s a of y = y
put_of_block (what.CopyOf n) b r F w s a of y = subst (λ m. PutReports r F w Again s m a) of y

pub same_block : (b : ℕ) (v : What) (n : ℕ) → v ≡ what.CopyOf n → IsWhatOf b v → n ≡ b
same_block b v n is of = subst (IsWhatOf b) is of

-- what follows from either answer
pub either : {T E : Type 0} {A B : T → Type 0} {P Q : E → Type 0} (r : Result T E) → ((t : T) → A t → B t) → ((e : E) → P e → Q e) → MatchResult r A P → MatchResult r B Q
either (Ok t) ok err y = ok t y
either (Err e) ok err y = err e y
