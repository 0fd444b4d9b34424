-- Workers claim and release, and the array represents the state after it as it represented the one before.
use Rattle.std.proofs.Common.{◌↔◌, ◌≡◌, ℕ, ◌<◌, Bool, true, false, not, length, refl, sym, ap, ◌∙◌, subst}
use Rattle.std.proofs.Math.ListN.{set}
use Rattle.std.proofs.lemmas.List.{get_or-set_same, get_or-set_other}
use Rattle.flat_machine.specs.Flat.{Flat, Holder, Worker, Ticket, Block, Shut, with_pair, without_pair, IsArrays, for_block, for_shut, IsUnheld}
use Rattle.flat_machine.specs.Steps.{Claim, Claimed, Taken, Release, Released}
use Rattle.flat_machine.specs.Cases.{ClaimCase, ReleaseCase}
use Rattle.flat_machine.proofs.Pairs.{equal, with_else, with_just, without_else, without_nobody, just_one, IsNobodys, Any}
use Rattle.slot_tables.specs.declared.hand.Hand.{Hand}
use Rattle.slot_tables.specs.declared.hand.Hand.TheVariants.{Empty, Holds, Waits}
use Rattle.slot_tables.specs.Views.{Kept, Nothing, Pending, Moving, Newest, Unmade, ArrayView, WorldView, kept_at, key_at, hand_at, is_kept, has_no_holder}
use Rattle.slot_tables.specs.Represents.{HandSlot, ArraySlot, InTables, Represents, is_claim, is_ticket, is_shut}
use Rattle.slot_tables.proofs.Kepts.{kept_iff, nothing_kept}
use Rattle.slot_tables.proofs.Fares.{itself}
use Rattle.slot_tables.proofs.Slots.{worker_hand, one_slot, shows_after}
use Rattle.flat_machine.proofs.Holding.{step_holds, once_any}
use Rattle.flat_machine.proofs.Claims.{with_worker, without_worker}

-- F with other holders
abbrev pub with_held : Flat → (ℕ → Holder → Bool) → Flat
with_held F held = record F { held = held }

-- where only workers' claims change, the tables are the state's as before
pub hands_move : (a : ArrayView) (F : Flat) (H : ℕ → Holder → Bool) → ((t : ℕ) (k : Holder) → IsArrays k → H t k ≡ F.held t k)
    → InTables a F → InTables a (with_held F H)
hands_move a F H same is = record {
  lost = is.lost;
  failures = is.failures;
  drives = is.drives;
  log = is.log;
  groups = is.groups;
  slots = λ s. let x = is.slots s in record {
    blocks = λ b. same s (Block b) (for_block b) ∙ x.blocks b;
    shut = λ g. same s (Shut g) (for_shut g) ∙ x.shut g;
    waits = x.waits;
  };
}

-- the world after a worker's hand changed
abbrev pub with_hand : WorldView → ℕ → Hand → WorldView
with_hand v s h = record v { hands = set v.hands s h }

-- what is true of the hands stays true where one slot changes
pub one_hand : (v : WorldView) (F G : Flat) (s : ℕ) (h : Hand) → s < length v.hands → ((t : ℕ) → HandSlot (hand_at v.hands t) (F.held t))
    → ((t : ℕ) → (t ≡ s → ⊥) → G.held t ≡ F.held t) → HandSlot h (G.held s) → (t : ℕ) → HandSlot (hand_at (set v.hands s h) t) (G.held t)
one_hand v F G s h inside old rest here = one_slot (λ t. HandSlot (hand_at (set v.hands s h) t) (G.held t)) s
    (subst (λ x. HandSlot x (G.held s)) (sym (get_or-set_same v.hands s h Empty inside)) here)
    (λ t ne. subst (λ x. HandSlot x (G.held t)) (sym (get_or-set_other v.hands s t h Empty ne)) (subst (HandSlot (hand_at v.hands t)) (sym (rest t ne)) (old t)))

-- nothing is kept of a slot without holder, and no hand has it
nothing_of : (k : Kept) → not (is_kept k) ≡ true → k ≡ Nothing
nothing_of Nothing e = refl
nothing_of (Pending k) e = absurd (cc)
nothing_of (Moving r k) e = absurd (cc)
nothing_of (Newest b) e = absurd (cc)
nothing_of Unmade e = absurd (cc)

no_hand : (k : Kept) (h : Hand) → has_no_holder k h ≡ true → (k ≡ Nothing) × (h ≡ Empty)
no_hand k Empty e = (nothing_of k e, refl)
no_hand k (Holds w) e = absurd (cc)
no_hand k (Waits w) e = absurd (cc)

-- a slot that is free in a world has no holder
free_holder : (v : WorldView) (F : Flat) (s : ℕ) → Represents v F → kept_at v.array s ≡ Nothing → hand_at v.hands s ≡ Empty → IsUnheld F s
free_holder v F s rep none empty (Worker w) = (rep.hands s).claims w ∙ ap (λ h. is_claim h w) empty
free_holder v F s rep none empty (Ticket w) = (rep.hands s).tickets w ∙ ap (λ h. is_ticket h w) empty
free_holder v F s rep none empty (Block b) = nothing_kept F.groups (key_at v.array) s (F.held s) (F.tickets s) (rep.array.history.holders s)
    (subst (λ j. ArraySlot s j (F.held s) (F.tickets s)) none (rep.array.tables.slots s)) (Block b) (for_block b)
free_holder v F s rep none empty (Shut g) = (rep.array.tables.slots s).shut g ∙ ap (λ j. is_shut j s g) none

pub claim_case : (v : WorldView) (F : Flat) (w s : ℕ) → s < 65536 → s < length v.hands → has_no_holder (kept_at v.array s) (hand_at v.hands s) ≡ true → Represents v F
    → (G : Flat) × (ClaimCase F w s (Claimed s) G) × (Represents (with_hand v s (Holds w)) G)
claim_case v F w s small inside free rep = (
  G,
  case,
  record {
    array = shows_after v.array v.array F G (Claim w s) (Claimed s) rep.array small case rep.array.history.map rep.array.units (hands_move v.array F H kept rep.array.tables);
    held = step_holds F G (key_at v.array) (Claim w s) (Claimed s) rep.array.history rep.held small case;
    hands = one_hand v F G s (Holds w) inside rep.hands (λ t ne. with_else F.held s (Worker w) t ne) (worker_hand (H s) w (with_just Any F.held s (Worker w) (λ k of. is_free k)));
  },
)
  where
    H : ℕ → Holder → Bool
    H = with_pair F.held s (Worker w)

    G : Flat
    G = with_held F H

    none : (kept_at v.array s ≡ Nothing) × (hand_at v.hands s ≡ Empty)
    none = no_hand (kept_at v.array s) (hand_at v.hands s) free

    is_free : IsUnheld F s
    is_free = free_holder v F s rep none.0 none.1

    case : ClaimCase F w s (Claimed s) (with_held F (with_pair F.held s (Worker w)))
    case = (refl, is_free, itself (with_held F (with_pair F.held s (Worker w))))

    kept : (t : ℕ) (k : Holder) → IsArrays k → H t k ≡ F.held t k
    kept = with_worker F w s

-- a slot with a holder is taken
pub taken_case : (v : WorldView) (F : Flat) (w s : ℕ) → has_no_holder (kept_at v.array s) (hand_at v.hands s) ≡ false → Represents v F
    → ClaimCase F w s (Taken s) F
taken_case v F w s held rep = (refl, holder (hand_at v.hands s) refl, itself F)
  where
    kept_of_not : (k : Kept) → not (is_kept k) ≡ false → is_kept k ≡ true
    kept_of_not Nothing e = absurd (cc)
    kept_of_not (Pending k) e = refl
    kept_of_not (Moving r k) e = refl
    kept_of_not (Newest b) e = refl
    kept_of_not Unmade e = refl

    holder : (h : Hand) → hand_at v.hands s ≡ h → (k : Holder) × (F.held s k ≡ true)
    holder Empty e =
        let k = (kept_iff v.array F s rep.array).0 (kept_of_not (kept_at v.array s) (sym (ap (has_no_holder (kept_at v.array s)) e) ∙ held)) in
        (k.0, k.2)
    holder (Holds u) e = (Worker u, (rep.hands s).claims u ∙ ap (λ h. is_claim h u) e ∙ equal u u refl)
    holder (Waits u) e = (Ticket u, (rep.hands s).tickets u ∙ ap (λ h. is_ticket h u) e ∙ equal u u refl)

-- so the tables say exactly which slots are free
pub free_iff : (v : WorldView) (F : Flat) (s : ℕ) → Represents v F → has_no_holder (kept_at v.array s) (hand_at v.hands s) ≡ true ↔ IsUnheld F s
free_iff v F s rep = (there, λ free. go free (has_no_holder (kept_at v.array s) (hand_at v.hands s)) refl)
  where
    there : has_no_holder (kept_at v.array s) (hand_at v.hands s) ≡ true → IsUnheld F s
    there is = let none = no_hand (kept_at v.array s) (hand_at v.hands s) is in free_holder v F s rep none.0 none.1

    go : IsUnheld F s → (b : Bool) → has_no_holder (kept_at v.array s) (hand_at v.hands s) ≡ b → b ≡ true
    go free true e = refl
    go free false e =
        let held = (taken_case v F 0 s e rep).1 in
        let both : true ≡ false = sym held.1 ∙ free held.0 in
        cc

nobody_hand : (h : Holder → Bool) → IsNobodys Any h → HandSlot Empty h
nobody_hand h free = record { claims = λ w. free (Worker w) tt; tickets = λ w. free (Ticket w) tt }

pub release_case : (v : WorldView) (F : Flat) (w s : ℕ) → s < length v.hands → is_claim (hand_at v.hands s) w ≡ true → Represents v F
    → (G : Flat) × (ReleaseCase F w s (Released s) G) × (Represents (with_hand v s Empty) G)
release_case v F w s inside is_held rep = (
  G,
  case,
  record {
    array = shows_after v.array v.array F G (Release w s) (Released s) rep.array tt case rep.array.history.map rep.array.units (hands_move v.array F H kept rep.array.tables);
    held = step_holds F G (key_at v.array) (Release w s) (Released s) rep.array.history rep.held tt case;
    hands = one_hand v F G s Empty inside rep.hands (λ t ne. without_else F.held s (Worker w) t ne)
        (nobody_hand (H s) (without_nobody Any F.held s (Worker w) (just_one Any (F.held s) (Worker w) (once_any F rep.held s) tt held)));
  },
)
  where
    H : ℕ → Holder → Bool
    H = without_pair F.held s (Worker w)

    G : Flat
    G = with_held F H

    held : F.held s (Worker w) ≡ true
    held = (rep.hands s).claims w ∙ is_held

    case : ReleaseCase F w s (Released s) (with_held F (without_pair F.held s (Worker w)))
    case = (refl, held, itself (with_held F (without_pair F.held s (Worker w))))

    kept : (t : ℕ) (k : Holder) → IsArrays k → H t k ≡ F.held t k
    kept = without_worker F w s

-- what holds of some state for one world does for an equal one
pub as_world : (P : Flat → Type 0) (u v : WorldView) → u ≡ v → (G : Flat) × (P G) × (Represents v G) → (G : Flat) × (P G) × (Represents u G)
as_world P u v e x = (x.0, x.1, subst (λ (w : WorldView). Represents w x.0) (sym e) x.2)
