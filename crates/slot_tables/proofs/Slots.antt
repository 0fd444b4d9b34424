-- What the tables say of a slot, given by its one holder, and what stays where one slot changes.
use Rattle.std.proofs.Common.{◌≡◌, ℕ, Bool, true, false, refl, sym, ap, ◌∙◌, subst, ◌⊎◌, inl, inr, Option, None}
use Rattle.std.proofs.lemmas.Bool.{cases_eq}
use Rattle.map_join.specs.Maps.{IsMapOf}
use Rattle.unit_store.specs.Views.{Shows}
use Rattle.flat_machine.specs.Flat.{Flat, Holder, Worker, Ticket, Block, Shut, Waiting, IsArrays, for_block, for_shut}
use Rattle.flat_machine.specs.Steps.{FlatStep, FlatAnswer}
use Rattle.flat_machine.specs.Cases.{Case}
use Rattle.flat_machine.specs.History.{IsValidStep}
use Rattle.flat_machine.proofs.Keeps.{step_keeps}
use Rattle.flat_machine.proofs.Pairs.{flip, IsJust, Any}
use Rattle.slot_tables.specs.declared.hand.Hand.TheVariants.{Empty, Holds, Waits}
use Rattle.slot_tables.specs.Views.{Kept, Nothing, Pending, Moving, Newest, Unmade, ArrayView, key_at, is_waiting}
use Rattle.slot_tables.specs.Represents.{ArraySlot, InTables, ShowsArray, HandSlot, IsTicketOf, is_newest, is_shut}

-- a slot that waits is no block's newest place
waiting_none : (k : Kept) → is_waiting k ≡ true → (b : ℕ) → is_newest k b ≡ false
waiting_none (Pending k) e b = refl
waiting_none (Moving r k) e b = refl
waiting_none Nothing e b = absurd (cc)
waiting_none Unmade e b = absurd (cc)
waiting_none (Newest c) e b = absurd (cc)

-- nor of a dissolved group
waiting_open : (k : Kept) → is_waiting k ≡ true → (s g : ℕ) → is_shut k s g ≡ false
waiting_open (Pending k) e s g = refl
waiting_open (Moving r k) e s g = refl
waiting_open Nothing e s g = absurd (cc)
waiting_open (Newest c) e s g = absurd (cc)
waiting_open Unmade e s g = absurd (cc)

-- a slot that a worker holds, one that a ticket holds, and one that a block holds
pub worker_slot : (s : ℕ) (h : Holder → Bool) (w : ℕ) (t : Option Waiting) → IsJust IsArrays h (Worker w) → t ≡ None → ArraySlot s Nothing h t
worker_slot s h w t is none = record { blocks = λ b. is (Block b) (for_block b); shut = λ g. is (Shut g) (for_shut g); waits = none }

pub ticket_slot : (s : ℕ) (k : Kept) (h : Holder → Bool) (w : ℕ) (t : Option Waiting) → is_waiting k ≡ true → IsJust IsArrays h (Ticket w) → IsTicketOf k t → ArraySlot s k h t
ticket_slot s k h w t waits is ticket = record { blocks = λ b. is (Block b) (for_block b) ∙ sym (waiting_none k waits b); shut = λ g. is (Shut g) (for_shut g) ∙ sym (waiting_open k waits s g); waits = ticket }

pub block_slot : (s : ℕ) (h : Holder → Bool) (b : ℕ) (t : Option Waiting) → IsJust IsArrays h (Block b) → t ≡ None → ArraySlot s (Newest b) h t
block_slot s h b t is none = record { blocks = λ c. is (Block c) (for_block c) ∙ flip c b; shut = λ g. is (Shut g) (for_shut g); waits = none }

-- whose hand a slot is in
pub worker_hand : (h : Holder → Bool) (w : ℕ) → IsJust Any h (Worker w) → HandSlot (Holds w) h
worker_hand h w is = record { claims = λ v. is (Worker v) tt ∙ flip v w; tickets = λ v. is (Ticket v) tt }

pub ticket_hand : (h : Holder → Bool) (w : ℕ) → IsJust Any h (Ticket w) → HandSlot (Waits w) h
ticket_hand h w is = record { claims = λ v. is (Worker v) tt; tickets = λ v. is (Ticket v) tt ∙ flip v w }

pub block_hand : (h : Holder → Bool) (b : ℕ) → IsJust Any h (Block b) → HandSlot Empty h
block_hand h b is = record { claims = λ v. is (Worker v) tt; tickets = λ v. is (Ticket v) tt }

-- what is true of a slot stays true where nothing of it changed
pub slot_same : (s : ℕ) (k l : Kept) (g h : Holder → Bool) (t r : Option Waiting) → l ≡ k → h ≡ g → r ≡ t → ArraySlot s k g t → ArraySlot s l h r
slot_same s k l g h t r kept held ticket is = record {
  blocks = λ b. ap (λ (x : Holder → Bool). x (Block b)) held ∙ is.blocks b ∙ ap (λ x. is_newest x b) (sym kept);
  shut = λ n. ap (λ (x : Holder → Bool). x (Shut n)) held ∙ is.shut n ∙ ap (λ x. is_shut x s n) (sym kept);
  waits = subst (λ x. IsTicketOf x r) (sym kept) (subst (IsTicketOf k) (sym ticket) is.waits);
}

-- and so where one slot changes
pub one_slot : (P : ℕ → Type 0) (s : ℕ) → P s → ((t : ℕ) → (t ≡ s → ⊥) → P t) → (t : ℕ) → P t
one_slot P s here rest t = go (cases_eq t s)
  where
    go : (t ≡ s) ⊎ (t ≡ s → ⊥) → P t
    go (inl e) = subst P (sym e) here
    go (inr ne) = rest t ne

-- an array after a step represents the state after it, where its tables and its map are that state's
pub shows_after : (a b : ArrayView) (F G : Flat) (step : FlatStep) (answer : FlatAnswer) → ShowsArray a F → IsValidStep F.groups step → Case F step answer G
    → IsMapOf G.emitted (key_at b) → Shows b.parts G.units → InTables b G → ShowsArray b G
shows_after a b F G step answer shows fits case map units tables =
    record { history = step_keeps F G (key_at a) (key_at b) step answer shows.history fits case map; units = units; tables = tables }
