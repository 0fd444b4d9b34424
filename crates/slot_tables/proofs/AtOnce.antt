-- A content that goes into a slot under the record of its commit, in one write, is a fill or a copy of the flat machine, and then a
-- commit of it.
use Rattle.std.proofs.Common.{◌≡◌, ℕ, ◌+◌, ◌/◌, ◌^◌, ◌<◌, true, List, [], ◌∷◌, ◌++◌, refl, sym, ap, ◌∙◌, subst, arith, ◌⊎◌, inl, inr, Option, Some, None}
use Rattle.std.proofs.Math.ListN.{set}
use Rattle.std.proofs.lemmas.List.{get_or-set_same}
use Rattle.std.proofs.lemmas.Bool.{cases_eq}
use Rattle.map_join.specs.declared.records.Record.{Record}
use Rattle.map_join.specs.Record.{key_of, record_at, IsRecord}
use Rattle.extents.specs.declared.header.Kind.{Kind}
use Rattle.extents.specs.Header.{kind_in}
use Rattle.extent_groups.specs.Groups.{Groups}
use Rattle.extent_groups.specs.Stores.{AreDrives}
use Rattle.unit_store.specs.Views.{PartsView, Shows, SameTables, DrivesFare, WasPut, WasMoved, placed_unit, drive_units}
use Rattle.flat_machine.specs.Flat.{Flat, Write, Content, IsSized, kind_of, content_in, header_for, Worker, Ticket, Waiting, Fresh, Moved, content_of, Stored, waiting_unit, put, IsArrays, for_ticket, for_block, IsArrayHeld, IsNewest, last_write}
use Rattle.flat_machine.specs.History.{IsHistory, IsValidStep}
use Rattle.flat_machine.specs.Steps.{FlatStep, FlatAnswer, Fill, Filled, Copy, Copied, Commit, Committed}
use Rattle.flat_machine.specs.Cases.{Case, FillPasses, CopyPasses, CommitCase, CommitWith, IsFor, HasCopiedStamp, IsGoneIn, ticketed, committed, stamped, next_version, last_hop}
use Rattle.flat_machine.proofs.Pairs.{put_here, put_else, turned_free, just_held}
use Rattle.flat_machine.proofs.Keeps.{step_keeps, fresh_ready, moved_ready}
use Rattle.flat_machine.proofs.Newest as flat
use Rattle.flat_machine.proofs.Commits.{emitted_by, IsReady}
use Rattle.flat_machine.proofs.Passing.{passed}
use Rattle.flat_machine.proofs.Tickets.{unheld}
use Rattle.slot_tables.specs.AtOnce.{ArePutAtOnce}
use Rattle.slot_tables.specs.Changes as change
use Rattle.slot_tables.specs.Changes.{wait_view, fill_view, copy_view, commit_view, fill_reason, copy_reason, version_reason, full_reason}
use Rattle.slot_tables.specs.Views.{Kept, Nothing, Pending, Moving, ArrayView, with_parts, kept_at, key_at, is_waiting, IsWhole}
use Rattle.slot_tables.specs.Represents.{IsTicketOf, ShowsArray}
use Rattle.slot_tables.proofs.Fares.{fared, itself, leaves, gone_back, gone_before, loses_itself}
use Rattle.slot_tables.proofs.Fills.{fill_passes, fill_whole, wait_tables}
use Rattle.slot_tables.proofs.Copies.{can_copy, copy_passes, copy_whole, kind_reported}
use Rattle.slot_tables.proofs.Finds.{newest_write}
use Rattle.slot_tables.proofs.Newest.{newest_is}
use Rattle.slot_tables.proofs.Commits.{HasTables, commit_map, commit_tables, commit_whole}
use Rattle.slot_tables.proofs.Committing.{fresh_ok, in_blocks, short, version_most}
use Rattle.slot_tables.proofs.Places.{set_twice, set_apart}

-- what is written at one place twice is what was written there last
put_twice : {X : Type 0} (f : ℕ → X) (s : ℕ) (x y : X) → put (put f s x) s y ≡ put f s y
put_twice f s x y = λ i t. same t (cases_eq t s) i
  where
    same : (t : ℕ) → (t ≡ s) ⊎ (t ≡ s → ⊥) → put (put f s x) s y t ≡ put f s y t
    same t (inl e) = subst (λ n. put (put f s x) s y n ≡ put f s y n) (sym e) (put_here (put f s x) s y ∙ sym (put_here f s y))
    same t (inr ne) = put_else (put f s x) s y t ne ∙ put_else f s x t ne ∙ sym (put_else f s y t ne)

-- a slot of the array, and a content that goes there at once: what of it would be kept in between, what would wait there, and under
-- which version and hop it is committed, with the acknowledged writes then
pub record IsAtOnce (a : ArrayView) (v : PartsView) (F : Flat) (w s b : ℕ) (k : Kept) (c : Waiting) (version hop : ℕ) (writes : List Write) (step : FlatStep) (answer : FlatAnswer) : Type 0 where
  pub inside : s < 65536
  pub block : b < a.parts.groups.blocks
  pub waits : is_waiting k ≡ true
  pub ticket : IsTicketOf k (Some c)
  pub free : IsArrayHeld F s → ⊥
  pub same : SameTables a.parts v
  pub fares : DrivesFare a.parts v
  pub whole : IsWhole a
  pub between : IsWhole (wait_view (with_parts a v) s k)
  pub shows : ShowsArray a F
  pub fits : IsValidStep F.groups step
  pub case : Case F step answer (fared (ticketed F w s c) v)
  pub for : IsFor (Some c) b
  pub ready : IsHistory (fared (ticketed F w s c) v) (key_at a) → IsNewest F.emitted b (record_at b (key_at a b)) → (ticketed F w s c).tickets s ≡ Some c
      → (ticketed F w s c).held s (Ticket w) ≡ true → IsReady (fared (ticketed F w s c) v) (key_at a) w s b (record_at b (key_at a b)) c version hop writes
  pub with : CommitWith (fared (ticketed F w s c) v) w s b (record_at b (key_at a b)) (Some c) (Committed (emitted_by b s version hop))
      (committed (fared (ticketed F w s c) v) w s b (record_at b (key_at a b)) writes (content_of c) (emitted_by b s version hop))
  pub units : Shows v (put F.units s (Some (placed_unit (emitted_by b s version hop) F.groups.payload (content_of c))))

module _ (a : ArrayView) (v : PartsView) (F : Flat) (w s b : ℕ) (k : Kept) (c : Waiting) (version hop : ℕ) (writes : List Write) (step : FlatStep) (answer : FlatAnswer)
    (is : IsAtOnce a v F w s b k c version hop writes step answer) where
  abbrev r : Record
  r = emitted_by b s version hop

  abbrev found : Option Record
  found = record_at b (key_at a b)

  abbrev M : Flat
  M = fared (ticketed F w s c) v

  abbrev G : Flat
  G = committed M w s b found writes (content_of c) r

  abbrev mid : ArrayView
  mid = wait_view (with_parts a v) s k

  between_history : IsHistory M (key_at a)
  between_history = step_keeps F M (key_at a) (key_at a) step answer is.shows.history is.fits is.case is.shows.history.map

  between_has : HasTables mid M
  between_has = record { history = between_history; tables = wait_tables a v F w s k c is.inside is.waits is.ticket is.same is.fares is.whole is.shows is.free }

  mine : M.held s (Ticket w) ≡ true
  mine = just_held IsArrays (M.held s) (Ticket w) (turned_free IsArrays F.held s (Worker w) (Ticket w) (λ j of. unheld (F.held s j) (λ e. is.free (j, of, e)))) (for_ticket w)

  there : M.tickets s ≡ Some c
  there = put_here F.tickets s (Some c)

  newest : IsNewest F.emitted b found
  newest = flat.newest_reported F.emitted (key_at a) b is.shows.history.records is.shows.history.map

  commits : CommitCase M w s b (Committed r) G
  commits = (
    mine,
    subst (λ t. IsFor t b) (sym there) is.for,
    (found, newest, subst (λ t. CommitWith M w s b found t (Committed r) G) (sym there) is.with),
  )

  rises : key_at a b < key_of r
  rises = let e = (is.ready between_history newest there mine).above in omega arith

  grows : IsHistory G (key_at (commit_view mid s b found r))
  grows = step_keeps M G (key_at a) (key_at (commit_view mid s b found r)) (Commit w s b) (Committed r) between_history
      (subst (λ (z : Groups). b < z.blocks) (sym is.shows.tables.groups) is.block) commits
      (commit_map mid M b found r s between_has is.between refl (subst (λ (z : Groups). b < z.blocks) (sym is.same.groups) is.block) rises)

  units : Shows v G.units
  units = subst (λ f. Shows v f) (sym (
      ap (λ o. put M.units s (stamped o (header_for r (content_of c)))) (put_here F.units s (Some (waiting_unit F.groups.payload (content_of c))))
      ∙ put_twice F.units s (Some (waiting_unit F.groups.payload (content_of c))) (Some (placed_unit r F.groups.payload (content_of c)))
      )) is.units

  pub at_once : ArePutAtOnce F step answer w s b r (commit_view mid s b found r)
  at_once = (
    M,
    is.case,
    (
      G,
      commits,
      record {
        history = grows;
        units = units;
        tables = commit_tables mid v M w s b writes (content_of c) r is.inside waiting (record { groups = refl; owners = refl }) (loses_itself v).fares is.between between_has
            (passed IsArrays M (key_at a) w s b found (λ t. (between_history.holders t).once) (for_ticket w) (for_block b) between_history newest mine);
      },
    ),
  )
    where
      waiting : is_waiting (kept_at mid s) ≡ true
      waiting = let room = is.whole.room.kept in ap is_waiting (get_or-set_same a.kept s k Nothing (omega (arith, room, is.inside))) ∙ is.waits

-- what is kept afterwards is what a commit leaves of a slot of which nothing was kept
pub at_once_kept : (kept : List Kept) (s : ℕ) (k l : Kept) (found : Option Record) → ((q : Record) → found ≡ Some q → q.place ≡ s → ⊥)
    → set (change.without_old (set kept s k) found) s l ≡ set (change.without_old kept found) s l
at_once_kept kept s k l None apart = set_twice kept s k l
at_once_kept kept s k l (Some q) apart = ap (λ (z : List Kept). set z s l) (set_apart kept s q.place k Nothing (λ e. apart q refl (sym e))) ∙ set_twice (set kept q.place Nothing) s k l

-- the record under which a copy is committed is in range
pub copied_ok : (a : ArrayView) (s b : ℕ) (q : Record) → IsWhole a → s < 65536 → b < a.parts.groups.blocks → record_at b (key_at a b) ≡ Some q → q.hop < last_hop
    → IsRecord (emitted_by b s q.version (q.hop + 1))
copied_ok a s b q whole inside block found few =
    let n = whole.blocks in
    let reported = flat.reported_key b (key_at a b) q found in
    let big = reported.0 in
    let version : key_at a b / 2 ^ 32 ≡ q.version = ap (λ (r : Record). r.version) reported.1 in
    let fit = whole.fit b in
    record { block = omega arith; written = omega arith; version = omega arith; hop = omega arith; place = omega arith }

module _ (a : ArrayView) (v : PartsView) (s b : ℕ) (inside : s < 65536) (block : b < a.parts.groups.blocks) (drives : AreDrives drive_units v.groups v.drives) (whole : IsWhole a) where
  block_then : SameTables a.parts v → b < v.groups.blocks
  block_then same = subst (λ (z : Groups). b < z.blocks) (sym same.groups) block

  waiting : (k : Kept) → is_waiting k ≡ true → is_waiting (kept_at (wait_view (with_parts a v) s k) s) ≡ true
  waiting k waits = let room = whole.room.kept in ap is_waiting (get_or-set_same a.kept s k Nothing (omega (arith, room, inside))) ∙ waits

  -- a fresh content that goes into a slot at once
  module _ (x : Content) (none : fill_reason a s ≡ None) (left : version_reason (record_at b (key_at a b)) ≡ None)
      (was : WasPut a.parts v s (placed_unit (emitted_by b s (next_version (record_at b (key_at a b))) 0) a.parts.groups.payload x)) where
    abbrev stamp : Record
    stamp = emitted_by b s (next_version (record_at b (key_at a b))) 0

    pub fresh_whole : (k : Kind) → IsWhole (commit_view (fill_view (with_parts a v) s k) s b (record_at b (key_at a b)) stamp)
    fresh_whole k = commit_whole (fill_view (with_parts a v) s k) s b (next_version (record_at b (key_at a b))) 0 (fill_whole a v s _ inside none was drives k whole) inside (block_then was.rest)
        (waiting (Pending k) refl) (fresh_ok a s b whole inside block left)

    pub fresh_at_once : (F : Flat) (w : ℕ) → full_reason a ≡ None → IsSized a.parts.groups.payload x → ShowsArray a F → F.held s (Worker w) ≡ true
        → ArePutAtOnce F (Fill w s x) (Filled s) w s b stamp (commit_view (fill_view (with_parts a v) s (kind_of x)) s b (record_at b (key_at a b)) stamp)
    fresh_at_once F w room long shows held =
        at_once a v F w s b (Pending (kind_of x)) (Fresh x) (next_version (record_at b (key_at a b))) 0
        (F.writes ++ record { block = b; version = next_version (record_at b (key_at a b)); content = x } ∷ []) (Fill w s x) (Filled s) (record {
          inside = inside;
          block = block;
          waits = refl;
          ticket = (x, refl, refl);
          free = passes.2;
          same = was.rest;
          fares = was.fares;
          whole = whole;
          between = fill_whole a v s _ inside none was drives (kind_of x) whole;
          shows = shows;
          fits = (inside, subst (λ (z : Groups). IsSized z.payload x) (sym shows.tables.groups) long);
          case = (refl, passes, there, leaves (ticketed F w s (Fresh x)) a.parts v shows.tables.lost shows.tables.failures was.fares);
          for = tt;
          ready = λ history newest ticket mine. fresh_ready (fared (ticketed F w s (Fresh x)) v) (key_at a) w s b (record_at b (key_at a b)) x history newest ticket mine
              (in_blocks a F b shows block) (version_most a b whole left) (short a F shows room);
          with = (version_most a b whole left, short a F shows room, there, refl, itself _);
          units = subst (λ (z : Groups). Shows v (put F.units s (Some (placed_unit stamp z.payload x)))) (sym shows.tables.groups) (was.shows F.units shows.units);
        })
      where
        passes : FillPasses F w s
        passes = fill_passes a F w s none shows held

        there : IsGoneIn (fared F v) s → ⊥
        there gone = was.there (gone_back F a.parts v s shows.tables.groups was.rest gone)

  -- a copy of what a block holds
  module _ (q : Record) (k : Kind) (none : copy_reason a s (Some q) ≡ None) (found : record_at b (key_at a b) ≡ Some q)
      (was : WasMoved (emitted_by b s q.version (q.hop + 1)) a.parts v q.place s k) where
    abbrev next : Record
    next = emitted_by b s q.version (q.hop + 1)

    between : IsWhole (copy_view (with_parts a v) s q k)
    between = copy_whole a v s q k inside was none drives whole

    pub copied_whole : IsWhole (commit_view (copy_view (with_parts a v) s q k) s b (record_at b (key_at a b)) next)
    copied_whole = commit_whole (copy_view (with_parts a v) s q k) s b q.version (q.hop + 1) between inside (block_then was.rest) (waiting (Moving q k) refl)
        (copied_ok a s b q whole inside block found (can_copy a s q none).hop)

    pub copied_at_once : (F : Flat) (w : ℕ) → full_reason a ≡ None → ShowsArray a F → F.held s (Worker w) ≡ true
        → ArePutAtOnce F (Copy w s b) (Copied s) w s b next (commit_view (copy_view (with_parts a v) s q k) s b (record_at b (key_at a b)) next)
    copied_at_once F w room shows held =
        at_once a v F w s b (Moving q k) c q.version (q.hop + 1) F.writes (Copy w s b) (Copied s) (record {
          inside = inside;
          block = block;
          waits = refl;
          ticket = (y.0.content, ap (λ n. Some (Moved n q.version q.hop y.0.content)) at, u.2 ∙ kind_reported u.0 ∙ ap kind_of same);
          free = passes.2;
          same = was.rest;
          fares = was.fares;
          whole = whole;
          between = between;
          shows = shows;
          fits = (inside, in_blocks a F b shows block);
          case = (
            refl,
            (
              q,
              y.0,
              passes,
              y.1,
              (λ gone. was.source (gone_before F a.parts q.place shows.tables.groups shows.tables.lost gone)),
              there,
              leaves (ticketed F w s c) a.parts v shows.tables.lost shows.tables.failures was.fares,
            ),
          );
          for = refl;
          ready = λ history newest ticket mine. moved_ready (fared (ticketed F w s c) v) (key_at a) w s b (record_at b (key_at a b)) b q.version q.hop y.0.content history newest ticket mine
              refl (in_blocks a F b shows block) stamps (short a F shows room);
          with = (stamps, short a F shows room, there, refl, itself _);
          units = subst (λ x. Shows v (put F.units s (Some (placed_unit next F.groups.payload x)))) same
              (subst (λ (z : Groups). Shows v (put F.units s (Some (placed_unit next z.payload (content_in u.0))))) (sym shows.tables.groups) u.3);
        })
      where
        y : (x : Write) × (last_write F.writes b ≡ Some x) × ((u : Stored) → F.units q.place ≡ Some u → content_in u ≡ x.content) × (x.version ≡ q.version)
        y = newest_write a F b q shows found

        c : Waiting
        c = Moved b q.version q.hop y.0.content

        u : (u : Stored) × (F.units q.place ≡ Some u) × (k ≡ kind_in u.header) × Shows v (put F.units s (Some (placed_unit next a.parts.groups.payload (content_in u))))
        u = was.shows F.units shows.units

        same : content_in u.0 ≡ y.0.content
        same = y.2 u.0 u.1

        at : b ≡ q.block
        at = sym (newest_is a F b (Some q) shows found).1

        passes : CopyPasses F w s b q
        passes = copy_passes a F w s b q found none shows held

        there : IsGoneIn (fared F v) s → ⊥
        there gone = was.target (gone_back F a.parts v s shows.tables.groups was.rest gone)

        stamps : HasCopiedStamp (record_at b (key_at a b)) q.version q.hop
        stamps = subst (λ o. HasCopiedStamp o q.version q.hop) (sym found) (refl, refl)
