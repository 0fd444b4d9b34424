-- When an array or a world represents a flat state: what holds of that state alone, and how their tables agree with it.
use Rattle.std.specs.Prelude.{◌≡◌, ℕ, length, ◌==◌, ◌/◌, Bool, false, Option, Some, None}
use Rattle.flat_machine.specs.Flat.{Flat, Content, Holder, Worker, Ticket, Block, Shut, Waiting, Fresh, Moved, kind_of}
use Rattle.unit_store.specs.Views.{Shows, lost_of, failed_of}
use Rattle.flat_machine.specs.History.{IsHistory, AreHeld}
use Rattle.slot_tables.specs.declared.hand.Hand.{Hand}
use Rattle.slot_tables.specs.declared.hand.Hand.TheVariants.{Holds, Waits}
use Rattle.slot_tables.specs.Views.{Kept, Unmade, Pending, Moving, Newest, ArrayView, WorldView, kept_at, hand_at, key_at}

-- the slot is the newest place of the block
abbrev pub is_newest : Kept → ℕ → Bool
is_newest (Newest a) b = a == b
is_newest _ b = false

-- the slot's claim is kept of this dissolved group
abbrev pub is_shut : Kept → ℕ → ℕ → Bool
is_shut Unmade s g = g == s / 128
is_shut _ s g = false

-- what waits at a slot, given by what is kept of it: of its content only the kind, and the rest is in its unit
abbrev pub IsTicketOf : Kept → Option Waiting → Type 0
IsTicketOf (Pending k) ticket = (x : Content) × (ticket ≡ Some (Fresh x)) × (k ≡ kind_of x)
IsTicketOf (Moving r k) ticket = (x : Content) × (ticket ≡ Some (Moved r.block r.version r.hop x)) × (k ≡ kind_of x)
IsTicketOf _ ticket = ticket ≡ None

-- what the array's tables say of one slot: the block whose newest place it is, the dissolved group of which its claim is kept, and
-- what waits there
pub record ArraySlot (s : ℕ) (kept : Kept) (held : Holder → Bool) (ticket : Option Waiting) : Type 0 where
  pub blocks : (b : ℕ) → held (Block b) ≡ is_newest kept b
  pub shut : (g : ℕ) → held (Shut g) ≡ is_shut kept s g
  pub waits : IsTicketOf kept ticket

-- the array's tables are the flat state's
pub record InTables (a : ArrayView) (F : Flat) : Type 0 where
  pub groups : F.groups ≡ a.parts.groups
  pub drives : F.drives ≡ length a.parts.drives
  pub lost : F.lost ≡ lost_of a.parts
  pub failures : F.failures ≡ failed_of a.parts
  pub log : F.emitted ≡ a.log
  pub slots : (s : ℕ) → ArraySlot s (kept_at a s) (F.held s) (F.tickets s)

-- an array represents a flat state: what holds after any steps holds of that state, with the array's keys as the map of its
-- log; the drives show its units; and the array's tables are its tables. Which slots workers hold is left open
pub record ShowsArray (a : ArrayView) (F : Flat) : Type 0 where
  pub history : IsHistory F (key_at a)
  pub units : Shows a.parts F.units
  pub tables : InTables a F

-- worker w has a claim of the slot in hand, or a ticket
abbrev pub is_claim : Hand → ℕ → Bool
is_claim (Holds v) w = v == w
is_claim _ w = false

abbrev pub is_ticket : Hand → ℕ → Bool
is_ticket (Waits v) w = v == w
is_ticket _ w = false

-- what the workers' hands say of one slot
pub record HandSlot (hand : Hand) (held : Holder → Bool) : Type 0 where
  pub claims : (w : ℕ) → held (Worker w) ≡ is_claim hand w
  pub tickets : (w : ℕ) → held (Ticket w) ≡ is_ticket hand w

-- a world represents a flat state: its array does, no slot has two holders, and of each slot its hands say who has it
pub record Represents (w : WorldView) (F : Flat) : Type 0 where
  pub array : ShowsArray w.array F
  pub held : AreHeld F
  pub hands : (s : ℕ) → HandSlot (hand_at w.hands s) (F.held s)
