-- A slot that is made to wait, and one whose ticket is given up, keep what is true of every state.
use Rattle.std.proofs.Common.{◌≡◌, ◌≢◌, ℕ, ◌<◌, Bool, true, false, is_some, length, refl, sym, ap, ◌∙◌, subst, ◌⊎◌, inl, inr, Option, Some, None}
use Rattle.std.proofs.lemmas.Bool.{cases_eq}
use Rattle.std.proofs.lemmas.List.{length-replicate}
use Rattle.std.proofs.lemmas.Option.{same_Some}
use Rattle.map_join.specs.Record.{record_of}
use Rattle.extents.specs.Header.{record_in}
use Rattle.extent_groups.specs.declared.class.Class.{Class}
use Rattle.flat_machine.specs.Flat.{Flat, IsArrays, for_ticket, for_block, IsArrayHeld, Content, Payload, Trim, IsSized, Holder, Worker, Ticket, Block, Waiting, content_of, Stored, waiting_unit, class_of, put, turned}
use Rattle.flat_machine.specs.Cases.{ticketed, discarded}
use Rattle.flat_machine.specs.History.{HoldersStand, UnitMatches, WaitingMatches, IsHistory}
use Rattle.flat_machine.proofs.Pairs.{put_here, put_else, turned_else, just_one, turned_just, turned_free, IsJust}
use Rattle.flat_machine.proofs.Slots.{nobody_matches, worker_nobody, ticket_matches, holders_same, units_same, unit_ended, history_as, apart}

-- one slot changes, which no block held
slot_kept : (F : Flat) (keys : ℕ → ℕ) (held : ℕ → Holder → Bool) (tickets : ℕ → Option Waiting) (units : ℕ → Option Stored) (s : ℕ) → IsHistory F keys
    → ((b : ℕ) → F.held s (Block b) ≡ true → ⊥)
    → ((t : ℕ) → (t ≡ s → ⊥) → held t ≡ F.held t) → ((t : ℕ) → (t ≡ s → ⊥) → tickets t ≡ F.tickets t) → ((t : ℕ) → (t ≡ s → ⊥) → units t ≡ F.units t)
    → HoldersStand F.groups keys s (held s) (tickets s) → UnitMatches F.groups.payload F.emitted F.writes keys s (class_of F s) (tickets s) (units s)
    → IsHistory (record F { held = held; tickets = tickets; units = units }) keys
slot_kept F keys held tickets units s is free rest others elsewhere here unit =
    history_as F keys is is.limits.least is.limits.most is.groups (λ t. holders t (cases_eq t s)) (λ t. stored t (cases_eq t s))
    (λ b has. let away : (record_of b (keys b)).place ≡ s → ⊥ = apart F.held (record_of b (keys b)).place s b has (free b) in
    (elsewhere (record_of b (keys b)).place away, ap (λ (h : Holder → Bool). h (Block b)) (rest (record_of b (keys b)).place away) ∙ has))
  where
    holders : (t : ℕ) → (t ≡ s) ⊎ (t ≡ s → ⊥) → HoldersStand F.groups keys t (held t) (tickets t)
    holders t (inl e) = subst (λ n. HoldersStand F.groups keys n (held n) (tickets n)) (sym e) here
    holders t (inr ne) = holders_same F.groups keys t (F.held t) (held t) (F.tickets t) (tickets t) (rest t ne) (others t ne) (is.holders t)

    stored : (t : ℕ) → (t ≡ s) ⊎ (t ≡ s → ⊥) → UnitMatches F.groups.payload F.emitted F.writes keys t (class_of F t) (tickets t) (units t)
    stored t (inl e) = subst (λ n. UnitMatches F.groups.payload F.emitted F.writes keys n (class_of F n) (tickets n) (units n)) (sym e) unit
    stored t (inr ne) = units_same F.groups.payload F.emitted F.writes keys t (class_of F t) (F.tickets t) (tickets t) (F.units t) (units t)
        (others t ne) (elsewhere t ne) (is.units t)

-- a holder that isn't
pub unheld : (b : Bool) → (b ≡ true → ⊥) → b ≡ false
unheld true never = absurd (never refl)
unheld false never = refl

-- bytes of a content that fits are as long as a payload
sized_bytes : (size : ℕ) (x : Content) → IsSized size x → length (waiting_unit size x).payload ≡ size
sized_bytes size (Payload x) e = e
sized_bytes size Trim e = length-replicate size 0

there_is : (class : Option Class) → class ≢ None → true ≡ is_some class
there_is (Some c) some = refl
there_is None some = absurd (some refl)

pub ticket_keeps : (F : Flat) (keys : ℕ → ℕ) (w s : ℕ) (c : Waiting) → IsHistory F keys → s < 65536 → (IsArrayHeld F s → ⊥) → class_of F s ≢ None
    → IsSized F.groups.payload (content_of c) → WaitingMatches (class_of F s) F.writes keys c → IsHistory (ticketed F w s c) keys
ticket_keeps F keys w s c is inside free there fits rests =
    slot_kept F keys (turned F.held s (Worker w) (Ticket w)) (put F.tickets s (Some c)) (put F.units s (Some u)) s is
    (λ b has. free (Block b, for_block b, has))
    (λ t ne. turned_else F.held s (Worker w) (Ticket w) t ne) (λ t ne. put_else F.tickets s (Some c) t ne) (λ t ne. put_else F.units s (Some u) t ne)
    (holders_same F.groups keys s (turned F.held s (Worker w) (Ticket w) s) (turned F.held s (Worker w) (Ticket w) s) (Some c) (put F.tickets s (Some c) s) refl
    (put_here F.tickets s (Some c)) (ticket_matches F.groups keys s (turned F.held s (Worker w) (Ticket w) s) w c inside now))
    (units_same F.groups.payload F.emitted F.writes keys s (class_of F s) (Some c) (put F.tickets s (Some c) s) (Some u) (put F.units s (Some u) s)
    (put_here F.tickets s (Some c)) (put_here F.units s (Some u)) unit)
  where
    u : Stored
    u = waiting_unit F.groups.payload (content_of c)

    now : IsJust IsArrays (turned F.held s (Worker w) (Ticket w) s) (Ticket w)
    now = turned_free IsArrays F.held s (Worker w) (Ticket w) (λ k of. unheld (F.held s k) (λ e. free (k, of, e)))

    unit : UnitMatches F.groups.payload F.emitted F.writes keys s (class_of F s) (Some c) (Some u)
    unit = record {
      there = there_is (class_of F s) there;
      sized = λ x e. subst (λ (y : Stored). length y.payload ≡ F.groups.payload) (same_Some u x e) (sized_bytes F.groups.payload (content_of c) fits);
      header = λ x r e header. let same : u ≡ x = same_Some u x e in let bad : None ≡ Some r = ap (λ (y : Stored). record_in y.header) same ∙ header in absurd (cc);
      content = λ x r z e header. let same : u ≡ x = same_Some u x e in let bad : None ≡ Some r = ap (λ (y : Stored). record_in y.header) same ∙ header in absurd (cc);
      blank = λ d e. ap (λ v. Some (waiting_unit F.groups.payload (content_of v))) (same_Some c d e);
      rests = λ d e. subst (WaitingMatches (class_of F s) F.writes keys) (same_Some c d e) rests;
    }

pub discard_keeps : (F : Flat) (keys : ℕ → ℕ) (w s : ℕ) → IsHistory F keys → F.held s (Ticket w) ≡ true → IsHistory (discarded F w s) keys
discard_keeps F keys w s is mine =
    slot_kept F keys (turned F.held s (Ticket w) (Worker w)) (put F.tickets s None) F.units s is
    (λ b has. let e : Block b ≡ Ticket w = (is.holders s).once (Block b) (Ticket w) (for_block b) (for_ticket w) has mine in cc)
    (λ t ne. turned_else F.held s (Ticket w) (Worker w) t ne) (λ t ne. put_else F.tickets s None t ne) (λ t ne. refl)
    (holders_same F.groups keys s (turned F.held s (Ticket w) (Worker w) s) (turned F.held s (Ticket w) (Worker w) s) None (put F.tickets s None s) refl
    (put_here F.tickets s None) (nobody_matches F.groups keys s (turned F.held s (Ticket w) (Worker w) s) (worker_nobody (turned F.held s (Ticket w) (Worker w) s) w now)))
    (units_same F.groups.payload F.emitted F.writes keys s (class_of F s) None (put F.tickets s None s) (F.units s) (F.units s)
    (put_here F.tickets s None) refl
    (unit_ended F.groups.payload F.emitted F.writes keys s (class_of F s) (F.tickets s) (F.units s) (is.units s)))
  where
    now : IsJust IsArrays (turned F.held s (Ticket w) (Worker w) s) (Worker w)
    now = turned_just IsArrays F.held s (Ticket w) (Worker w) (just_one IsArrays (F.held s) (Ticket w) (is.holders s).once (for_ticket w) mine)
