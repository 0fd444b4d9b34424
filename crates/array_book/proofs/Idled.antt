-- An array shows its state also without workers' claims, and with each ticket as worker 0's. So a history can begin with any array.
use Rattle.std.proofs.Common.{◌≡◌, ℕ, ◌<◌, Bool, true, false, true≢false, ◌&&◌, ◌==◌, is_some, [], ◌∷◌, refl, sym, ap, ◌∙◌, Option, Some, None}
use Rattle.std.proofs.lemmas.Bool.{and_parts, eqb-true}
use Rattle.flat_machine.specs.Flat.{Flat, Holder, Worker, Ticket, Block, Shut, Waiting, IsArrays, for_ticket, for_block, for_shut}
use Rattle.flat_machine.specs.History.{HoldersStand}
use Rattle.extent_groups.specs.Groups.{Groups}
use Rattle.flat_machine.proofs.Slots.{history_as}
use Rattle.slot_tables.specs.Represents.{ShowsArray}
use Rattle.slot_tables.specs.Views.{ArrayView, key_at}
use Rattle.history.specs.Entries.{entry}
use Rattle.array_book.specs.Acts.{Opens, IsIdle, IsEndOf}

-- no worker holds a slot, and a ticket is worker 0's, where something waits
abbrev pub idled_held : (Holder → Bool) → Option Waiting → Holder → Bool
idled_held held ticket (Worker w) = false
idled_held held ticket (Ticket w) = (w == 0) && is_some ticket
idled_held held ticket (Block b) = held (Block b)
idled_held held ticket (Shut g) = held (Shut g)

abbrev pub idled : Flat → Flat
idled F = record F { held = λ s. idled_held (F.held s) (F.tickets s) }

zero_of : (w : ℕ) (ticket : Option Waiting) → ((w == 0) && is_some ticket) ≡ true → w ≡ 0
zero_of w ticket has = eqb-true w 0 (and_parts (w == 0) (is_some ticket) has).0

-- where something waits, some worker had the ticket
waited : (groups : Groups) (keys : ℕ → ℕ) (s : ℕ) (held : Holder → Bool) (ticket : Option Waiting) (w : ℕ) → HoldersStand groups keys s held ticket
    → ((w == 0) && is_some ticket) ≡ true → (v : ℕ) × (held (Ticket v) ≡ true)
waited groups keys s held (Some c) w is has = is.waits c refl
waited groups keys s held None w is has = absurd (true≢false (sym (and_parts (w == 0) false has).1))

-- a holder that was there before, and is as little a worker
once_idled : (groups : Groups) (keys : ℕ → ℕ) (s : ℕ) (held : Holder → Bool) (ticket : Option Waiting) → HoldersStand groups keys s held ticket
    → (j k : Holder) → IsArrays j → IsArrays k → idled_held held ticket j ≡ true → idled_held held ticket k ≡ true → j ≡ k
once_idled groups keys s held ticket is (Worker v) k of_j of_k hj hk = absurd (true≢false (sym hj))
once_idled groups keys s held ticket is j (Worker w) of_j of_k hj hk = absurd (true≢false (sym hk))
once_idled groups keys s held ticket is (Ticket v) (Ticket w) of_j of_k hj hk = ap (λ (n : ℕ). Ticket n) (zero_of v ticket hj ∙ sym (zero_of w ticket hk))
once_idled groups keys s held ticket is (Ticket v) (Block b) of_j of_k hj hk =
    let t = waited groups keys s held ticket v is hj in
    let same : Ticket t.0 ≡ Block b = is.once (Ticket t.0) (Block b) (for_ticket t.0) (for_block b) t.1 hk in absurd (cc)
once_idled groups keys s held ticket is (Ticket v) (Shut g) of_j of_k hj hk =
    let t = waited groups keys s held ticket v is hj in
    let same : Ticket t.0 ≡ Shut g = is.once (Ticket t.0) (Shut g) (for_ticket t.0) (for_shut g) t.1 hk in absurd (cc)
once_idled groups keys s held ticket is (Block b) (Ticket w) of_j of_k hj hk =
    let t = waited groups keys s held ticket w is hk in
    let same : Ticket t.0 ≡ Block b = is.once (Ticket t.0) (Block b) (for_ticket t.0) (for_block b) t.1 hj in absurd (cc)
once_idled groups keys s held ticket is (Shut g) (Ticket w) of_j of_k hj hk =
    let t = waited groups keys s held ticket w is hk in
    let same : Ticket t.0 ≡ Shut g = is.once (Ticket t.0) (Shut g) (for_ticket t.0) (for_shut g) t.1 hj in absurd (cc)
once_idled groups keys s held ticket is (Block b) (Block c) of_j of_k hj hk = is.once (Block b) (Block c) of_j of_k hj hk
once_idled groups keys s held ticket is (Block b) (Shut g) of_j of_k hj hk = is.once (Block b) (Shut g) of_j of_k hj hk
once_idled groups keys s held ticket is (Shut g) (Block b) of_j of_k hj hk = is.once (Shut g) (Block b) of_j of_k hj hk
once_idled groups keys s held ticket is (Shut g) (Shut h) of_j of_k hj hk = is.once (Shut g) (Shut h) of_j of_k hj hk

inside_idled : (groups : Groups) (keys : ℕ → ℕ) (s : ℕ) (held : Holder → Bool) (ticket : Option Waiting) → HoldersStand groups keys s held ticket
    → (k : Holder) → IsArrays k → idled_held held ticket k ≡ true → s < 65536
inside_idled groups keys s held ticket is (Worker w) of has = absurd (true≢false (sym has))
inside_idled groups keys s held ticket is (Ticket w) of has =
    let t = waited groups keys s held ticket w is has in is.inside (Ticket t.0) (for_ticket t.0) t.1
inside_idled groups keys s held ticket is (Block b) of has = is.inside (Block b) of has
inside_idled groups keys s held ticket is (Shut g) of has = is.inside (Shut g) of has

idled_matches : (groups : Groups) (keys : ℕ → ℕ) (s : ℕ) (held : Holder → Bool) (ticket : Option Waiting) → HoldersStand groups keys s held ticket
    → HoldersStand groups keys s (idled_held held ticket) ticket
idled_matches groups keys s held ticket is = record {
  once = once_idled groups keys s held ticket is;
  inside = inside_idled groups keys s held ticket is;
  waits = λ c e. (0, ap is_some e);
  waiting = λ w has none. true≢false (sym (and_parts (w == 0) (is_some ticket) has).1 ∙ ap is_some none);
  block = is.block;
  shut = is.shut;
}

idled_idle : (F : Flat) → IsIdle (idled F)
idled_idle F = record {
  claims = λ s w e. true≢false (sym e);
  tickets = λ s w e. zero_of w (F.tickets s) e;
}

shows_idled : (a : ArrayView) (F : Flat) → ShowsArray a F → ShowsArray a (idled F)
shows_idled a F is = record {
  history = history_as F (key_at a) is.history is.history.limits.least is.history.limits.most is.history.groups
      (λ t. idled_matches F.groups (key_at a) t (F.held t) (F.tickets t) (is.history.holders t)) is.history.units (λ b has. (refl, has));
  units = is.units;
  tables = record {
    groups = is.tables.groups;
    drives = is.tables.drives;
    lost = is.tables.lost;
    failures = is.tables.failures;
    log = is.tables.log;
    slots = λ s. let x = is.tables.slots s in record { blocks = x.blocks; shut = x.shut; waits = x.waits };
  };
}

-- a history in which only the array stands leads to what the array shows
pub opened : (n : ℕ) (a : ArrayView) → ((F : Flat) × ShowsArray a F) → IsEndOf (entry n (Opens a) ∷ []) a
opened n a shown =
    let F = idled shown.0 in
    let shows = shows_idled a shown.0 shown.1 in
    let free = idled_idle shown.0 in
    record {
      flat = F;
      traced = record {
        run = record { by = n; array = a; rest = []; begins = refl; opening = F; shows = shows; idle = free; follows = refl };
        idle = free;
      };
      shows = shows;
    }
