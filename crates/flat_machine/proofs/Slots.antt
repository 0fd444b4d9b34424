-- What is true of one slot, given by who holds it, and what stays where nothing changed.
use Rattle.std.proofs.Common.{◌≡◌, ℕ, ◌<◌, ◌≤◌, Bool, true, false, List, refl, sym, ◌∙◌, subst, Option, Some, None}
use Rattle.extents.specs.Failures.{Failures}
use Rattle.map_join.specs.declared.records.Record.{Record}
use Rattle.map_join.specs.Record.{record_of}
use Rattle.extent_groups.specs.declared.class.Class.{Class}
use Rattle.extent_groups.specs.Groups.{Group, Groups}
use Rattle.flat_machine.specs.Flat.{Flat, Write, Content, Holder, Worker, Ticket, Block, Shut, IsArrays, for_ticket, for_block, for_shut, Waiting, Stored, last_write}
use Rattle.flat_machine.specs.Groups.{class_at, GroupsStand}
use Rattle.flat_machine.specs.History.{HoldersStand, UnitMatches, IsAt, BlockMatches, IsHistory}
use Rattle.flat_machine.proofs.Pairs.{IsNobodys, IsJust, just_once, just_is, just_held, not_workers}

-- the array holds it for nobody, for a ticket, or for a block
pub nobody_matches : (groups : Groups) (keys : ℕ → ℕ) (s : ℕ) (h : Holder → Bool) → IsNobodys IsArrays h → HoldersStand groups keys s h None
nobody_matches groups keys s h free = record {
  once = λ j k of_j of_k hj hk. absurd (no_one j of_j hj);
  inside = λ k of hk. absurd (no_one k of hk);
  waits = λ c is. absurd (cc);
  waiting = λ w hw. absurd (no_one (Ticket w) (for_ticket w) hw);
  block = λ b hb. absurd (no_one (Block b) (for_block b) hb);
  shut = λ g hg. absurd (no_one (Shut g) (for_shut g) hg);
}
  where
    no_one : (k : Holder) → IsArrays k → h k ≡ true → ⊥
    no_one k of hk = let bad : true ≡ false = sym hk ∙ free k of in cc

-- a worker alone is nobody to the array
pub worker_nobody : (h : Holder → Bool) (w : ℕ) → IsJust IsArrays h (Worker w) → IsNobodys IsArrays h
worker_nobody h w is j of = is j of ∙ not_workers j w of

pub ticket_matches : (groups : Groups) (keys : ℕ → ℕ) (s : ℕ) (h : Holder → Bool) (w : ℕ) (c : Waiting) → s < 65536 → IsJust IsArrays h (Ticket w)
    → HoldersStand groups keys s h (Some c)
ticket_matches groups keys s h w c inside is = record {
  once = just_once IsArrays h (Ticket w) is;
  inside = λ k of hk. inside;
  waits = λ d e. (w, just_held IsArrays h (Ticket w) is (for_ticket w));
  waiting = λ v hv none. cc;
  block = λ b hb. let e : Block b ≡ Ticket w = just_is IsArrays h (Ticket w) (Block b) is (for_block b) hb in absurd (cc);
  shut = λ g hg. let e : Shut g ≡ Ticket w = just_is IsArrays h (Ticket w) (Shut g) is (for_shut g) hg in absurd (cc);
}

pub block_matches : (groups : Groups) (keys : ℕ → ℕ) (s : ℕ) (h : Holder → Bool) (b : ℕ) → s < 65536 → IsJust IsArrays h (Block b) → 0 < keys b
    → (record_of b (keys b)).place ≡ s → HoldersStand groups keys s h None
block_matches groups keys s h b inside is some place = record {
  once = just_once IsArrays h (Block b) is;
  inside = λ k of hk. inside;
  waits = λ d e. absurd (cc);
  waiting = λ v hv. let e : Ticket v ≡ Block b = just_is IsArrays h (Block b) (Ticket v) is (for_ticket v) hv in absurd (cc);
  block = λ c hc.
      let e : Block c ≡ Block b = just_is IsArrays h (Block b) (Block c) is (for_block c) hc in
      let same : c ≡ b = cc in
      let P : ℕ → Type 0 = λ n. (0 < keys n) × ((record_of n (keys n)).place ≡ s) in
      subst P (sym same) (some, place);
  shut = λ g hg. let e : Shut g ≡ Block b = just_is IsArrays h (Block b) (Shut g) is (for_shut g) hg in absurd (cc);
}

-- what is true of the array's own holders stays true where these are the same
pub arrays_same : (groups : Groups) (keys : ℕ → ℕ) (s : ℕ) (h k : Holder → Bool) (t : Option Waiting) → ((j : Holder) → IsArrays j → k j ≡ h j)
    → HoldersStand groups keys s h t → HoldersStand groups keys s k t
arrays_same groups keys s h k t same is = record {
  once = λ i j of_i of_j hi hj. is.once i j of_i of_j (sym (same i of_i) ∙ hi) (sym (same j of_j) ∙ hj);
  inside = λ j of hj. is.inside j of (sym (same j of) ∙ hj);
  waits = λ c e. let y = is.waits c e in (y.0, same (Ticket y.0) (for_ticket y.0) ∙ y.1);
  waiting = λ w hw. is.waiting w (sym (same (Ticket w) (for_ticket w)) ∙ hw);
  block = λ b hb. is.block b (sym (same (Block b) (for_block b)) ∙ hb);
  shut = λ g hg. is.shut g (sym (same (Shut g) (for_shut g)) ∙ hg);
}

-- nothing waits where another than a ticket holds the slot, or nobody
nothing : (t : Option Waiting) → ((c : Waiting) → t ≡ Some c → ⊥) → t ≡ None
nothing None never = refl
nothing (Some c) never = absurd (never c refl)

pub free_waits : (groups : Groups) (keys : ℕ → ℕ) (s : ℕ) (h : Holder → Bool) (t : Option Waiting) → HoldersStand groups keys s h t → IsNobodys IsArrays h → t ≡ None
free_waits groups keys s h t is free = nothing t (λ c e. let y = is.waits c e in let bad : true ≡ false = sym y.1 ∙ free (Ticket y.0) (for_ticket y.0) in cc)

pub block_waits : (groups : Groups) (keys : ℕ → ℕ) (s : ℕ) (h : Holder → Bool) (t : Option Waiting) (b : ℕ) → HoldersStand groups keys s h t
    → h (Block b) ≡ true → t ≡ None
block_waits groups keys s h t b is held = nothing t (λ c e. let y = is.waits c e in let bad : Ticket y.0 ≡ Block b = is.once (Ticket y.0) (Block b) (for_ticket y.0) (for_block b) y.1 held in cc)

-- what is true of holders and ticket, or of ticket and unit, is true of the same ones
pub holders_same : (groups : Groups) (keys : ℕ → ℕ) (s : ℕ) (h k : Holder → Bool) (t u : Option Waiting) → k ≡ h → u ≡ t
    → HoldersStand groups keys s h t → HoldersStand groups keys s k u
holders_same groups keys s h k t u held ticket is =
    subst (λ x. HoldersStand groups keys s x u) (sym held) (subst (HoldersStand groups keys s h) (sym ticket) is)

pub units_same : (payload : ℕ) (emitted : List Record) (writes : List Write) (keys : ℕ → ℕ) (s : ℕ) (class : Option Class) (t u : Option Waiting) (x y : Option Stored)
    → u ≡ t → y ≡ x → UnitMatches payload emitted writes keys s class t x → UnitMatches payload emitted writes keys s class u y
units_same payload emitted writes keys s class t u x y ticket unit is =
    subst (λ o. UnitMatches payload emitted writes keys s class o y) (sym ticket) (subst (UnitMatches payload emitted writes keys s class t) (sym unit) is)

-- a ticket that ends leaves what is true of the unit
pub unit_ended : (payload : ℕ) (emitted : List Record) (writes : List Write) (keys : ℕ → ℕ) (s : ℕ) (class : Option Class) (t : Option Waiting) (x : Option Stored)
    → UnitMatches payload emitted writes keys s class t x → UnitMatches payload emitted writes keys s class None x
unit_ended payload emitted writes keys s class t x is = record {
  there = is.there;
  sized = is.sized;
  header = is.header;
  content = is.content;
  blank = λ c e. absurd (cc);
  rests = λ c e. absurd (cc);
}

-- a unit that is where it was
pub at_same : (old new : ℕ → Option Stored) (r : Record) (x : Content) → new r.place ≡ old r.place → IsAt old r x → IsAt new r x
at_same old new r x same is = record { stored = is.stored; there = same ∙ is.there; header = is.header; content = is.content }

-- what is true of a block's last write and newest place stays so where neither the writes, nor that place's unit and holder, changed
pub block_same : (F G : Flat) (b key : ℕ) → last_write G.writes b ≡ last_write F.writes b
    → (F.held (record_of b key).place (Block b) ≡ true → (G.units (record_of b key).place ≡ F.units (record_of b key).place) × (G.held (record_of b key).place (Block b) ≡ true))
    → BlockMatches F b key → BlockMatches G b key
block_same F G b key last stays is = (
  λ none. last ∙ is.0 none,
  λ some. let y = is.1 some in (
    y.0,
    last ∙ y.1,
    record {
      version = y.2.version;
      unit = at_same F.units G.units (record_of b key) y.0.content (stays y.2.place).0 y.2.unit;
      place = (stays y.2.place).1;
    },
  ),
)

-- a slot that a block holds isn't one that it doesn't
pub apart : (held : ℕ → Holder → Bool) (p s b : ℕ) → held p (Block b) ≡ true → (held s (Block b) ≡ true → ⊥) → p ≡ s → ⊥
apart held p s b is not same = not (subst (λ n. held n (Block b) ≡ true) same is)

-- a state keeps what is true of another with the same records and writes, where its groups are well formed, each slot's holders
-- and unit are as they should be, and no place of a block is touched
pub history_as : {table : List (Option Group)} {drives : ℕ} {lost : ℕ → Bool} {failures : ℕ → Failures} {held : ℕ → Holder → Bool} {tickets : ℕ → Option Waiting} {units : ℕ → Option Stored}
    (F : Flat) (keys : ℕ → ℕ) → IsHistory F keys → 3 ≤ drives → drives ≤ 16 → GroupsStand (record F.groups { table = table }) drives
    → ((s : ℕ) → HoldersStand (record F.groups { table = table }) keys s (held s) (tickets s))
    → ((s : ℕ) → UnitMatches F.groups.payload F.emitted F.writes keys s (class_at (record F.groups { table = table }) s) (tickets s) (units s))
    → ((b : ℕ) → F.held (record_of b (keys b)).place (Block b) ≡ true
    → (units (record_of b (keys b)).place ≡ F.units (record_of b (keys b)).place) × (held (record_of b (keys b)).place (Block b) ≡ true))
    → IsHistory (record F { groups = record F.groups { table = table }; drives = drives; lost = lost; failures = failures; held = held; tickets = tickets; units = units }) keys
history_as F keys is least most groups holders units places = record {
  limits = record { sizes = is.limits.sizes; least = least; most = most; log = is.limits.log };
  groups = groups;
  records = is.records;
  blocks = is.blocks;
  chain = is.chain;
  map = is.map;
  writes = is.writes;
  versions = is.versions;
  holders = holders;
  units = units;
  written = λ b. block_same F _ b (keys b) refl (places b) (is.written b);
}
