-- The state restarted from what the drives hold: the units of any state have its map, and what is made of a map that units have
-- keeps what is true of every state, with the same last writes.
use Rattle.std.proofs.Common.{◌≡◌, ℕ, ◌^◌, ◌<◌, ◌≤◌, ◌==◌, ◌&&◌, nat_lt, true, List, [], map, length, Contains, refl, sym, ap, ◌∙◌, subst, arith, ◌⊎◌, inl, inr, Option, Some, None}
use Rattle.std.proofs.lemmas.Bool.Decides.{nat_tests}
use Rattle.std.proofs.lemmas.Option.{same_Some}
use Rattle.map_join.specs.declared.records.Record.{Record}
use Rattle.map_join.specs.Record.{key_of, record_of, stamp_of, stamp_in, IsRecord}
use Rattle.map_join.specs.Maps.{IsSame, IsMapOf, IsListOf}
use Rattle.extents.specs.declared.header.Kind.{Kind}
use Rattle.extents.specs.declared.header.Kind.TheVariants as kind
use Rattle.extents.specs.Header.{record_in, kind_in}
use Rattle.extent_groups.specs.Groups.{Groups}
use Rattle.flat_machine.specs.Groups.{AreSizes, GroupsStand}
use Rattle.flat_machine.specs.Flat.{Flat, Write, Content, IsSized, Holder, Worker, Ticket, Block, Shut, Stored, content_under, content_in, class_of, last_write}
use Rattle.flat_machine.specs.History.{AreLimits, IsWrite, IsWriteOf, IsHeaderOf, HoldersStand, UnitMatches, IsAt, BlockMatches, IsHistory, AreHeld}
use Rattle.flat_machine.specs.Restarted.{ReportMap, content_at, write_at, newest_places, restarted}
use Rattle.flat_machine.proofs.Newest.{reported_at, reported_key, key_least}
use Rattle.flat_machine.proofs.Writes.{last_there}
use Rattle.flat_machine.proofs.Rises.{few, rising_chain, rising_writes, write_reported, last_none, last_one}

positive : (k : ℕ) → (k ≡ 0) ⊎ (0 < k)
positive k = grind arith

-- the block of a record in a header has a key
header_some : (keys : ℕ → ℕ) (s : ℕ) (r : Record) → IsHeaderOf keys s r → 0 < keys r.block
header_some keys s r is = go is.newest
  where
    go : (key_of r ≡ keys r.block) ⊎ (stamp_of r < stamp_in (keys r.block)) → 0 < keys r.block
    go (inl newest) = let big = key_least r is.ranges in omega arith
    go (inr older) = omega arith

-- the units of any state have its map
pub history_reports : (F : Flat) (keys : ℕ → ℕ) → IsHistory F keys → ReportMap F.groups F.units keys
history_reports F keys is = record {
  there = λ s. (is.units s).there;
  sized = λ s u at. (is.units s).sized u at;
  header = λ s u r at reported. (is.units s).header u r at reported;
  blocks = λ s u r at reported. within r (header_some keys s r ((is.units s).header u r at reported));
  found = λ b some. let w = (is.written b).1 some in (w.0.content, w.2.unit);
}
  where
    within : (r : Record) → 0 < keys r.block → r.block < F.groups.blocks
    within r some = let t = is.map.reported r.block some in subst (λ b. b < F.groups.blocks) t.2 (is.blocks t.0 t.1)

-- units have one map: the record of the one is in a header, and so no newer than the other's
no_newer : (groups : Groups) (units : ℕ → Option Stored) (M N : ℕ → ℕ) → ReportMap groups units M → ReportMap groups units N → (b : ℕ) → M b ≤ N b
no_newer groups units M N one other b = go (positive (M b))
  where
    go : (M b ≡ 0) ⊎ (0 < M b) → M b ≤ N b
    go (inl none) = omega arith
    go (inr some) = at ((other.header (record_of b (M b)).place found.stored (record_of b (M b)) found.there found.header).newest)
      where
        found : IsAt units (record_of b (M b)) (one.found b some).0
        found = (one.found b some).1

        at : (key_of (record_of b (M b)) ≡ N b) ⊎ (stamp_of (record_of b (M b)) < stamp_in (N b)) → M b ≤ N b
        at (inl newest) = omega arith
        at (inr older) = omega arith

pub reports_one : (groups : Groups) (units : ℕ → Option Stored) (M N : ℕ → ℕ) → ReportMap groups units M → ReportMap groups units N → IsSame M N
reports_one groups units M N one other b = let low = no_newer groups units M N one other b in let high = no_newer groups units N M other one b in omega arith

-- the record made of a block's key
abbrev newest : (ℕ → ℕ) → ℕ → Record
newest keys b = record_of b (keys b)

-- a slot of this state is held for a block, at its newest place
placed : (keys : ℕ → ℕ) (s : ℕ) (k : Holder) → newest_places keys s k ≡ true → (b : ℕ) × (k ≡ Block b) × (0 < keys b) × ((newest keys b).place ≡ s)
placed keys s (Block b) held = (b, refl, some (keys b) (newest keys b).place held, place (keys b) (newest keys b).place held)
  where
    some : (key p : ℕ) → (nat_lt 0 key && (p == s)) ≡ true → 0 < key
    some key p is = grind (arith, nat_tests)

    place : (key p : ℕ) → (nat_lt 0 key && (p == s)) ≡ true → p ≡ s
    place key p is = grind (arith, nat_tests)
placed keys s (Worker w) held = absurd (cc)
placed keys s (Ticket w) held = absurd (cc)
placed keys s (Shut g) held = absurd (cc)

-- and each block with a key holds its newest place
places : (keys : ℕ → ℕ) (b : ℕ) → 0 < keys b → newest_places keys (newest keys b).place (Block b) ≡ true
places keys b some = by (keys b) (newest keys b).place some
  where
    by : (key p : ℕ) → 0 < key → (nat_lt 0 key && (p == p)) ≡ true
    by key p is = grind (arith, nat_tests)

-- a write made of a record's unit fits
sized_at : (size : ℕ) (o : Option Stored) (u : Stored) → o ≡ Some u → length u.payload ≡ size → IsSized size (content_at o)
sized_at size None u is long = absurd (cc)
sized_at size (Some x) u is long = sized_in size (kind_in x.header) x.payload (ap (λ (y : Stored). length y.payload) (same_Some x u is) ∙ long)
  where
    sized_in : (size : ℕ) (k : Kind) (payload : List ℕ) → length payload ≡ size → IsSized size (content_under k payload)
    sized_in size kind.Data payload long = long
    sized_in size kind.Trim payload long = tt

-- the content of the unit at a record's place is the one it holds there
reported_content : (units : ℕ → Option Stored) (r : Record) (x : Content) → IsAt units r x → content_at (units r.place) ≡ x
reported_content units r x at = ap content_at at.there ∙ at.content

module _ (F : Flat) (keys : ℕ → ℕ) (reports : ReportMap F.groups F.units keys) where
  -- a block with a key has a header at its newest place
  newest_header : (b : ℕ) → 0 < keys b → IsHeaderOf keys (newest keys b).place (newest keys b)
  newest_header b some =
      let at = (reports.found b some).1 in
      reports.header (newest keys b).place at.stored (newest keys b) at.there at.header

  -- it is one of the array's
  newest_block : (b : ℕ) → 0 < keys b → b < F.groups.blocks
  newest_block b some =
      let at = (reports.found b some).1 in
      reports.blocks (newest keys b).place at.stored (newest keys b) at.there at.header

  -- its key is a record's
  key_big : (b : ℕ) → 0 < keys b → 2 ^ 32 ≤ keys b
  key_big b some = let written = (newest_header b some).ranges.written in omega arith

  -- no slot is the newest place of two blocks
  one_block : (s b c : ℕ) → 0 < keys b → 0 < keys c → (newest keys b).place ≡ s → (newest keys c).place ≡ s → b ≡ c
  one_block s b c some_b some_c at_b at_c =
      let x = (reports.found b some_b).1 in
      let y = (reports.found c some_c).1 in
      let unit : x.stored ≡ y.stored = same_Some x.stored y.stored (sym x.there ∙ ap F.units (at_b ∙ sym at_c) ∙ y.there) in
      let same : newest keys b ≡ newest keys c = same_Some _ _ (sym x.header ∙ ap (λ (u : Stored). record_in u.header) unit ∙ y.header) in
      ap (λ (r : Record). r.block) same

  one_holder : (s : ℕ) (j k : Holder) → newest_places keys s j ≡ true → newest_places keys s k ≡ true → j ≡ k
  one_holder s j k held_j held_k =
      let x = placed keys s j held_j in
      let y = placed keys s k held_k in
      x.1 ∙ ap (λ b. Block b) (one_block s x.0 y.0 x.2 y.2 x.3 y.3) ∙ sym y.1

  held_inside : (s : ℕ) (k : Holder) → newest_places keys s k ≡ true → s < 65536
  held_inside s k held = let x = placed keys s k held in let place = x.3 in omega arith

  holders : (s : ℕ) → HoldersStand F.groups keys s (newest_places keys s) None
  holders s = record {
    once = λ j k of_j of_k held_j held_k. one_holder s j k held_j held_k;
    inside = λ k of held. held_inside s k held;
    waits = λ c is. absurd (cc);
    waiting = λ w held. absurd (cc);
    block = λ b held.
        let x = placed keys s (Block b) held in
        let same : x.0 ≡ b = cc in
        subst (λ n. (0 < keys n) × ((newest keys n).place ≡ s)) same (x.2, x.3);
    shut = λ g held. absurd (cc);
  }

  module _ (records : List Record) (list : IsListOf keys records) where
    -- a record of the list is its block's, which has a key
    some_key : (r : Record) → Contains records r → 0 < keys r.block
    some_key r has = let big = (reported_key r.block (keys r.block) r ((list.each r).0 has)).0 in omega arith

    own_record : (r : Record) → Contains records r → newest keys r.block ≡ r
    own_record r has = (reported_key r.block (keys r.block) r ((list.each r).0 has)).1

    one_record : (q r : Record) → Contains records q → Contains records r → q.block ≡ r.block → q ≡ r
    one_record q r has_q has_r same = sym (own_record q has_q) ∙ ap (λ b. newest keys b) same ∙ own_record r has_r

    -- and each block's is there
    listed : (b : ℕ) → 0 < keys b → Contains records (newest keys b)
    listed b some = (list.each (newest keys b)).1 (reported_at b (keys b) (key_big b some))

    -- it is a record of one of the array's blocks
    record_ranges : (r : Record) → Contains records r → IsRecord r
    record_ranges r has = subst IsRecord (own_record r has) (newest_header r.block (some_key r has)).ranges

    record_block : (r : Record) → Contains records r → r.block < F.groups.blocks
    record_block r has = newest_block r.block (some_key r has)

    -- the map is that of the list
    listed_map : IsMapOf records keys
    listed_map = record {
      reported = λ b some. (newest keys b, listed b some, refl, spelled (keys b));
      most = λ r has. let same = ap key_of (own_record r has) in let whole = spelled (keys r.block) in omega arith;
    }
      where
        spelled : (key : ℕ) → key_of (record_of 0 key) ≡ key
        spelled key = omega arith

    -- the write made of a record of the list fits
    record_sized : (r : Record) → Contains records r → IsSized F.groups.payload (content_at (F.units r.place))
    record_sized r has =
        let at = (reports.found r.block (some_key r has)).1 in
        let place = (newest keys r.block).place in
        subst (λ (q : Record). IsSized F.groups.payload (content_at (F.units q.place))) (own_record r has)
        (sized_at F.groups.payload (F.units place) at.stored at.there (reports.sized place at.stored at.there))

    write_is : (w : Write) → Contains (map (write_at F.units) records) w → IsWrite F.groups.payload w
    write_is w has =
        let q = write_reported F.units records w has in
        subst (IsWrite F.groups.payload) q.2 (record { version = (record_ranges q.0 q.1).written; sized = record_sized q.0 q.1 })

    -- a unit under a record of the list holds what the write of that block does
    content : (s : ℕ) (u : Stored) (r : Record) (w : Write) → F.units s ≡ Some u → record_in u.header ≡ Some r → Contains records r
        → Contains (map (write_at F.units) records) w → IsWriteOf r w → content_in u ≡ w.content
    content s u r w at reported has wrote of =
        let q = write_reported F.units records w wrote in
        let same : q.0 ≡ r = one_record q.0 r q.1 has (ap (λ (x : Write). x.block) q.2 ∙ of.0) in
        let place : r.place ≡ s = (reports.header s u r at reported).place in
        sym (ap content_at (ap F.units place ∙ at)) ∙ ap (λ (x : Record). content_at (F.units x.place)) (sym same) ∙ ap (λ (x : Write). x.content) q.2

    units : (s : ℕ) → UnitMatches F.groups.payload records (map (write_at F.units) records) keys s (class_of F s) None (F.units s)
    units s = record {
      there = reports.there s;
      sized = reports.sized s;
      header = reports.header s;
      content = content s;
      blank = λ c is. absurd (cc);
      rests = λ c is. absurd (cc);
    }

    -- the last writes of a block that has no key, and of one that has
    write_none : (b : ℕ) → keys b ≡ 0 → last_write (map (write_at F.units) records) b ≡ None
    write_none b none = last_none F.units records b (λ r has of. let some = some_key r has in let same = ap keys of in absurd (omega arith))

    write_one : (b : ℕ) → 0 < keys b → last_write (map (write_at F.units) records) b ≡ Some (write_at F.units (newest keys b))
    write_one b some = last_one F.units records (newest keys b) list.rising (listed b some) (λ q has of. one_record q (newest keys b) has (listed b some) of)

    written : (b : ℕ) → BlockMatches (restarted F keys records) b (keys b)
    written b = (
      write_none b,
      λ some. (
        write_at F.units (newest keys b),
        write_one b some,
        record {
          version = refl;
          unit =
              let found = reports.found b some in
              subst (IsAt F.units (newest keys b)) (sym (reported_content F.units (newest keys b) found.0 found.1)) found.1;
          place = places keys b some;
        },
      ),
    )

    limits : AreSizes F.groups → 3 ≤ F.drives → F.drives ≤ 16 → AreLimits F.groups F.drives (length records)
    limits sizes least most = record {
      sizes = sizes;
      least = least;
      most = most;
      log = let count = few records F.groups.blocks list.rising record_block in let blocks = sizes.some_blocks.1 in omega arith;
    }

-- what is restarted with a map that the units have keeps what is true of every state
pub restarted_history : (F : Flat) (keys : ℕ → ℕ) (records : List Record) → AreSizes F.groups → 3 ≤ F.drives → F.drives ≤ 16 → GroupsStand F.groups F.drives
    → ReportMap F.groups F.units keys → IsListOf keys records → IsHistory (restarted F keys records) keys
restarted_history F keys records sizes least most groups reports list = record {
  limits = limits F keys reports records list sizes least most;
  groups = groups;
  records = record_ranges F keys reports records list;
  blocks = record_block F keys reports records list;
  chain = rising_chain [] records list.rising;
  map = listed_map F keys reports records list;
  writes = write_is F keys reports records list;
  versions = rising_writes F.units [] records list.rising;
  holders = holders F keys reports;
  units = units F keys reports records list;
  written = written F keys reports records list;
}

-- no slot of it has two holders
pub restarted_held : (F : Flat) (keys : ℕ → ℕ) (records : List Record) → ReportMap F.groups F.units keys → AreHeld (restarted F keys records)
restarted_held F keys records reports = record { once = one_holder F keys reports; inside = held_inside F keys reports }

-- restarted with a state's own map, it has each block's last write
pub restarted_writes : (F : Flat) (keys : ℕ → ℕ) (records : List Record) → IsHistory F keys → IsListOf keys records
    → (b : ℕ) → last_write (restarted F keys records).writes b ≡ last_write F.writes b
restarted_writes F keys records is list b = go (positive (keys b))
  where
    reports : ReportMap F.groups F.units keys
    reports = history_reports F keys is

    go : (keys b ≡ 0) ⊎ (0 < keys b) → last_write (map (write_at F.units) records) b ≡ last_write F.writes b
    go (inl none) = write_none F keys reports records list b none ∙ sym ((is.written b).0 none)
    go (inr some) = write_one F keys reports records list b some ∙ ap (λ (w : Write). Some w) same ∙ sym last
      where
        w : Write
        w = ((is.written b).1 some).0

        last : last_write F.writes b ≡ Some w
        last = ((is.written b).1 some).1

        version : w.version ≡ (newest keys b).version
        version = ((is.written b).1 some).2.version

        content_is : content_at (F.units (newest keys b).place) ≡ w.content
        content_is = reported_content F.units (newest keys b) w.content ((is.written b).1 some).2.unit

        block : w.block ≡ b
        block = (last_there F.writes b w last).1

        same : write_at F.units (newest keys b) ≡ w
        same = λ i. record { block = sym block i; version = sym version i; content = content_is i }
