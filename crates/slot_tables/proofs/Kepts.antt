-- What the array keeps of a slot is what the flat state's holders say.
use Rattle.std.proofs.Common.{◌≡◌, ◌≢◌, ◌↔◌, ℕ, ◌/◌, Bool, true, false, IsTrue, refl, sym, ap, ◌∙◌, Option, Some, None}
use Rattle.flat_machine.specs.Flat.{Flat, Holder, Ticket, Block, Shut, IsArrays, for_ticket, for_block, for_shut, IsArrayHeld, Waiting, Fresh, Moved}
use Rattle.extent_groups.specs.Groups.{Groups}
use Rattle.flat_machine.specs.History.{HoldersStand}
use Rattle.flat_machine.proofs.Pairs.{equal}
use Rattle.slot_tables.specs.Views.{Kept, Nothing, Pending, Moving, Newest, Unmade, ArrayView, kept_at, key_at, is_kept, is_waiting}
use Rattle.slot_tables.specs.Represents.{ArraySlot, ShowsArray, IsTicketOf}

-- a Boolean that can't be true
pub never : (b : Bool) → (b ≡ true → ⊥) → b ≡ false
never true no_way = absurd (no_way refl)
never false no_way = refl

-- nothing waits where no ticket is kept
pub not_waiting : (k : Kept) (t : Option Waiting) → is_waiting k ≡ false → IsTicketOf k t → t ≡ None
not_waiting Nothing t e is = is
not_waiting Unmade t e is = is
not_waiting (Newest b) t e is = is
not_waiting (Pending k) t e is = absurd (cc)
not_waiting (Moving r k) t e is = absurd (cc)

-- something waits where one is
pub ticket_there : (k : Kept) (t : Option Waiting) → is_waiting k ≡ true → IsTicketOf k t → (c : Waiting) × (t ≡ Some c)
ticket_there (Pending k) t e is = (Fresh is.0, is.1)
ticket_there (Moving r k) t e is = (Moved r.block r.version r.hop is.0, is.1)
ticket_there Nothing t e is = absurd (cc)
ticket_there Unmade t e is = absurd (cc)
ticket_there (Newest b) t e is = absurd (cc)

-- what is kept is held by a ticket or a block, and what isn't by neither
kept_holder : (groups : Groups) (keys : ℕ → ℕ) (s : ℕ) (kept : Kept) (held : Holder → Bool) (t : Option Waiting)
    → HoldersStand groups keys s held t → ArraySlot s kept held t → IsTrue (is_kept kept) → (k : Holder) × (IsArrays k) × (held k ≡ true)
kept_holder groups keys s Nothing held t is slot e = absurd (cc)
kept_holder groups keys s (Pending k) held t is slot e = let w = is.waits (Fresh slot.waits.0) slot.waits.1 in (Ticket w.0, for_ticket w.0, w.1)
kept_holder groups keys s (Moving r k) held t is slot e = let w = is.waits (Moved r.block r.version r.hop slot.waits.0) slot.waits.1 in (Ticket w.0, for_ticket w.0, w.1)
kept_holder groups keys s (Newest b) held t is slot e = (Block b, for_block b, slot.blocks b ∙ equal b b refl)
kept_holder groups keys s Unmade held t is slot e = (Shut (s / 128), for_shut (s / 128), slot.shut (s / 128) ∙ equal (s / 128) (s / 128) refl)

pub nothing_kept : (groups : Groups) (keys : ℕ → ℕ) (s : ℕ) (held : Holder → Bool) (t : Option Waiting)
    → HoldersStand groups keys s held t → ArraySlot s Nothing held t → (k : Holder) → IsArrays k → held k ≡ false
nothing_kept groups keys s held t is slot _ (for_ticket w) = never (held (Ticket w)) (λ e. is.waiting w e slot.waits)
nothing_kept groups keys s held t is slot _ (for_block b) = slot.blocks b
nothing_kept groups keys s held t is slot _ (for_shut g) = slot.shut g

holder_kept : (groups : Groups) (keys : ℕ → ℕ) (s : ℕ) (kept : Kept) (held : Holder → Bool) (t : Option Waiting)
    → HoldersStand groups keys s held t → ArraySlot s kept held t → (k : Holder) → IsArrays k → held k ≡ true → IsTrue (is_kept kept)
holder_kept groups keys s Nothing held t is slot k of e = let bad : true ≡ false = sym e ∙ nothing_kept groups keys s held t is slot k of in absurd (cc)
holder_kept groups keys s (Pending l) held t is slot k of e = refl
holder_kept groups keys s (Moving r l) held t is slot k of e = refl
holder_kept groups keys s (Newest b) held t is slot k of e = refl
holder_kept groups keys s Unmade held t is slot k of e = refl

-- the array keeps a slot exactly where a holder of its own holds it
pub kept_iff : (a : ArrayView) (F : Flat) (s : ℕ) → ShowsArray a F → IsTrue (is_kept (kept_at a s)) ↔ IsArrayHeld F s
kept_iff a F s shows = (
  λ t. kept_holder F.groups (key_at a) s (kept_at a s) (F.held s) (F.tickets s) (shows.history.holders s) (shows.tables.slots s) t,
  λ k. holder_kept F.groups (key_at a) s (kept_at a s) (F.held s) (F.tickets s) (shows.history.holders s) (shows.tables.slots s) k.0 k.1 k.2,
)

-- a slot that waits is no block's newest place, and is kept
pub waiting_kept : (k : Kept) → is_waiting k ≡ true → k ≡ Nothing → ⊥
waiting_kept k w e = let bad : true ≡ false = sym w ∙ ap is_waiting e in cc

pub waiting_newest : (k : Kept) (b : ℕ) → is_waiting k ≡ true → k ≡ Newest b → ⊥
waiting_newest k b w e = let bad : true ≡ false = sym w ∙ ap is_waiting e in cc

pub waiting_made : (k : Kept) → is_waiting k ≡ true → k ≡ Unmade → ⊥
waiting_made k w e = let bad : true ≡ false = sym w ∙ ap is_waiting e in cc

-- a slot of which nothing is kept is not held by the array
pub unkept : (a : ArrayView) (F : Flat) (s : ℕ) → kept_at a s ≡ Nothing → ShowsArray a F → IsArrayHeld F s → ⊥
unkept a F s free shows kept = let t = (kept_iff a F s shows).1 kept in let bad : false ≡ true = sym (ap is_kept free) ∙ t in absurd (cc)

-- the ticket of a slot that waits, and none elsewhere
pub ticket_held : (a : ArrayView) (F : Flat) (w s : ℕ) → is_waiting (kept_at a s) ≡ true → ShowsArray a F
    → (F.tickets s ≢ None → F.held s (Ticket w) ≡ true) → F.held s (Ticket w) ≡ true
ticket_held a F w s waits shows mine =
    let t = ticket_there (kept_at a s) (F.tickets s) waits (shows.tables.slots s).waits in
    mine (λ none. let bad : Some t.0 ≡ None = sym t.1 ∙ none in cc)

pub unticketed : (a : ArrayView) (F : Flat) (w s : ℕ) → is_waiting (kept_at a s) ≡ false → ShowsArray a F → F.held s (Ticket w) ≡ false
unticketed a F w s waits shows =
    never (F.held s (Ticket w)) (λ e. (shows.history.holders s).waiting w e (not_waiting (kept_at a s) (F.tickets s) waits (shows.tables.slots s).waits))
