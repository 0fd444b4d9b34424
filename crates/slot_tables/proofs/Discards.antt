-- A ticket that is given up is the flat machine's case.
use Rattle.std.proofs.Common.{◌≡◌, ◌≢◌, ℕ, ◌<◌, true, length, refl, sym, ap, ◌∙◌, arith, ◌⊎◌, inl, inr, None}
use Rattle.std.proofs.lemmas.List.{length-set, get_or-set_same, get_or-set_other}
use Rattle.std.proofs.lemmas.Bool.{cases_eq}
use Rattle.map_join.specs.Record.{record_of}
use Rattle.flat_machine.specs.Flat.{Flat, Worker, Ticket, put, turned, IsArrays, for_ticket}
use Rattle.flat_machine.specs.Steps.{Discard, Discarded}
use Rattle.flat_machine.specs.Cases.{DiscardCase, discarded}
use Rattle.flat_machine.proofs.Pairs.{put_here, put_else, turned_else, turned_just, just_one, IsJust}
use Rattle.slot_tables.specs.Changes.{discard_view}
use Rattle.slot_tables.specs.Views.{Kept, Nothing, Moving, Newest, Unmade, ArrayView, kept_at, key_at, is_waiting, IsWhole}
use Rattle.slot_tables.specs.Represents.{ArraySlot, InTables, ShowsArray}
use Rattle.slot_tables.proofs.Fares.{itself}
use Rattle.slot_tables.proofs.Slots.{worker_slot, slot_same, one_slot, shows_after}
use Rattle.slot_tables.proofs.Kepts.{waiting_newest, waiting_made}

-- an array is whole after a ticket was given up
pub discard_whole : (a : ArrayView) (s : ℕ) → s < 65536 → is_waiting (kept_at a s) ≡ true → IsWhole a → IsWhole (discard_view a s)
discard_whole a s inside waits whole = record {
  room = record {
    kept = length-set a.kept s Nothing ∙ whole.room.kept;
    keys = whole.room.keys;
  };
  blocks = whole.blocks;
  keys = whole.keys;
  fit = whole.fit;
  newest = newest;
  only = λ t b is. whole.only t b (before t (Newest b) (λ e. cc) is (cases_eq t s));
  moving = λ t r k is. whole.moving t r k (before t (Moving r k) (λ e. cc) is (cases_eq t s));
  there = λ t kept made. whole.there t (λ none. kept (nothing t none (cases_eq t s))) (λ is. not_shut t is made (cases_eq t s));
  unmade = λ t is. whole.unmade t (before t Unmade (λ e. cc) is (cases_eq t s));
  groups = whole.groups;
  agree = whole.agree;
  rows = whole.rows;
  wide = whole.wide;
  drives = whole.drives;
}
  where
    here : kept_at (discard_view a s) s ≡ Nothing
    here = let e = whole.room.kept in get_or-set_same a.kept s Nothing Nothing (omega arith)

    other : (t : ℕ) → (t ≡ s → ⊥) → kept_at (discard_view a s) t ≡ kept_at a t
    other t ne = get_or-set_other a.kept s t Nothing Nothing ne

    newest : (b : ℕ) → 0 < key_at a b → kept_at (discard_view a s) (record_of b (key_at a b)).place ≡ Newest b
    newest b some =
        let at = whole.newest b some in
        other (record_of b (key_at a b)).place (λ e. waiting_newest (kept_at a s) b waits (sym (ap (kept_at a) e) ∙ at)) ∙ at

    before : (t : ℕ) (k : Kept) → (k ≡ Nothing → ⊥) → kept_at (discard_view a s) t ≡ k → (t ≡ s) ⊎ (t ≡ s → ⊥) → kept_at a t ≡ k
    before t k some is (inl e) = absurd (some (sym is ∙ ap (kept_at (discard_view a s)) e ∙ here))
    before t k some is (inr ne) = sym (other t ne) ∙ is

    nothing : (t : ℕ) → kept_at a t ≡ Nothing → (t ≡ s) ⊎ (t ≡ s → ⊥) → kept_at (discard_view a s) t ≡ Nothing
    nothing t none (inl e) = ap (kept_at (discard_view a s)) e ∙ here
    nothing t none (inr ne) = other t ne ∙ none

    not_shut : (t : ℕ) → kept_at a t ≡ Unmade → kept_at (discard_view a s) t ≢ Unmade → (t ≡ s) ⊎ (t ≡ s → ⊥) → ⊥
    not_shut t is made (inl e) = waiting_made (kept_at a s) waits (sym (ap (kept_at a) e) ∙ is)
    not_shut t is made (inr ne) = made (other t ne ∙ is)

-- the ticket of a slot that waits is the worker's
pub discard_case : (a : ArrayView) (F : Flat) (w s : ℕ) → s < 65536 → is_waiting (kept_at a s) ≡ true → IsWhole a → ShowsArray a F → F.held s (Ticket w) ≡ true
    → (G : Flat) × (DiscardCase F w s (Discarded s) G) × (ShowsArray (discard_view a s) G)
discard_case a F w s inside waits whole shows mine =
    (discarded F w s, case, shows_after a (discard_view a s) F (discarded F w s) (Discard w s) (Discarded s) shows tt case shows.history.map shows.units tables)
  where
    case : DiscardCase F w s (Discarded s) (discarded F w s)
    case = (refl, mine, itself (discarded F w s))

    P : ℕ → Type 0
    P t = ArraySlot t (kept_at (discard_view a s) t) ((discarded F w s).held t) ((discarded F w s).tickets t)

    kept_room : s < length a.kept
    kept_room = let e = whole.room.kept in omega arith

    just : IsJust IsArrays (turned F.held s (Ticket w) (Worker w) s) (Worker w)
    just = turned_just IsArrays F.held s (Ticket w) (Worker w) (just_one IsArrays (F.held s) (Ticket w) (shows.history.holders s).once (for_ticket w) mine)

    here : P s
    here = slot_same s Nothing (kept_at (discard_view a s) s) (turned F.held s (Ticket w) (Worker w) s) (turned F.held s (Ticket w) (Worker w) s) None (put F.tickets s None s)
        (get_or-set_same a.kept s Nothing Nothing kept_room) refl (put_here F.tickets s None) (worker_slot s (turned F.held s (Ticket w) (Worker w) s) w None just refl)

    rest : (t : ℕ) → (t ≡ s → ⊥) → P t
    rest t ne = slot_same t (kept_at a t) (kept_at (discard_view a s) t) (F.held t) (turned F.held s (Ticket w) (Worker w) t) (F.tickets t) (put F.tickets s None t)
        (get_or-set_other a.kept s t Nothing Nothing ne) (turned_else F.held s (Ticket w) (Worker w) t ne) (put_else F.tickets s None t ne) (shows.tables.slots t)

    tables : InTables (discard_view a s) (discarded F w s)
    tables = record {
      lost = shows.tables.lost;
      failures = shows.tables.failures;
      drives = shows.tables.drives;
      log = shows.tables.log;
      groups = shows.tables.groups;
      slots = one_slot P s here rest;
    }
