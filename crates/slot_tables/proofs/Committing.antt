-- A commit of a ticket is the flat machine's case: of a fresh payload, of a copy, and each refusal.
use Rattle.std.proofs.Common.{◌≡◌, ◌≢◌, ℕ, ◌+◌, ◌/◌, ◌^◌, ◌<◌, ◌≤◌, Bool, true, false, ◌==◌, ◌&&◌, cond, List, [], ◌∷◌, ◌++◌, length, refl, sym, ap, ◌∙◌, subst, arith, ◌⊎◌, inl, inr, Option, Some, None, nat_le}
use Rattle.std.proofs.lemmas.Bool.Decides.{nat_tests}
use Rattle.std.proofs.lemmas.Option.{same_Some}
use Rattle.map_join.specs.declared.records.Record.{Record}
use Rattle.extents.specs.declared.header.Kind.{Kind}
use Rattle.map_join.specs.Record.{key_of, record_of, record_at, IsRecord}
use Rattle.flat_machine.specs.declared.refusal.Refusal.{Refusal}
use Rattle.flat_machine.specs.declared.refusal.Refusal.TheVariants.{NoTicket, Outrun, VersionSpent, LogFull}
use Rattle.extents.specs.declared.header.Header.TheVariants.{Is}
use Rattle.extent_groups.specs.Groups.{Groups}
use Rattle.unit_store.specs.Views.{PartsView, Shows, WasCarried, FoundGone}
use Rattle.flat_machine.specs.Flat.{Flat, Write, Content, Stored, put, Ticket, Waiting, Fresh, Moved, or_else, IsNewest, IsArrays, for_ticket, for_block, kind_of, header_for}
use Rattle.flat_machine.specs.Steps.{Commit, Committed, Refused}
use Rattle.flat_machine.specs.Cases.{CommitCase, CommitWith, CommitPasses, IsGoneIn, Leaves, IsFor, HasCopiedStamp, IsAllocating, committed, next_version, last_version, longest_log}
use Rattle.flat_machine.proofs.Pairs.{equal, equal_back}
use Rattle.flat_machine.proofs.Newest.{reported_at, untold_at, reported_key}
use Rattle.flat_machine.proofs.Commits.{emitted_by, IsReady}
use Rattle.flat_machine.proofs.Keeps.{fresh_ready, moved_ready}
use Rattle.flat_machine.proofs.Passing.{passed}
use Rattle.slot_tables.specs.Changes.{commit_view, commit_record, commit_reason, commit_reason_of, version_reason, stamp_reason, full_reason, version_given, hop_given, MayRefuse, kind_given}
use Rattle.slot_tables.specs.Views.{Kept, Nothing, Pending, Moving, Newest, Unmade, is_waiting, ArrayView, with_parts, kept_at, key_at, IsWhole}
use Rattle.slot_tables.specs.Represents.{ShowsArray, IsTicketOf}
use Rattle.slot_tables.proofs.Newest.{newest_reported}
use Rattle.slot_tables.proofs.Fares.{fared, itself, leaves, gone_as, gone_back, lost_shows, lost_leaves}
use Rattle.slot_tables.proofs.Slots.{shows_after}
use Rattle.slot_tables.proofs.Kepts.{waiting_made, ticket_held, unticketed, waiting_kept}
use Rattle.slot_tables.proofs.Wholes.{slot_of_class}
use Rattle.unit_store.specs.Slots.{IsSlot}
use Rattle.slot_tables.proofs.Commits.{tables_of, commit_map, commit_tables, commit_units}

-- neither of two reasons is given
or_none : {X : Type 0} (o p : Option X) → or_else o p ≡ None → (o ≡ None) × (p ≡ None)
or_none None p e = (refl, e)
or_none (Some x) p e = absurd (cc)

-- what follows where a reason is not given
room_left : (a : ArrayView) → full_reason a ≡ None → length a.log < longest_log
room_left a none = go (nat_le longest_log (length a.log)) refl none
  where
    go : (q : Bool) → nat_le longest_log (length a.log) ≡ q → cond q (Some LogFull) None ≡ None → length a.log < longest_log
    go true is e = absurd (cc)
    go false is e = grind (arith, nat_tests)

version_left : (found : Option Record) → version_reason found ≡ None → next_version found ≢ last_version + 1
version_left found none = go (next_version found == last_version + 1) refl none
  where
    go : (q : Bool) → (next_version found == last_version + 1) ≡ q → cond q (Some VersionSpent) None ≡ None → next_version found ≢ last_version + 1
    go true is e = absurd (cc)
    go false is e = λ same. let no : true ≡ false = sym (equal _ _ same) ∙ is in cc

-- the newest record is of the block, version and hop that were copied
pub record IsStamped (q : Record) (b : ℕ) (found : Option Record) : Type 0 where
  pub newest : Record
  pub found_is : found ≡ Some newest
  pub block : q.block ≡ b
  pub version : newest.version ≡ q.version
  pub hop : newest.hop ≡ q.hop

stamp_left : (q : Record) (b : ℕ) (found : Option Record) → stamp_reason q b found ≡ None → IsStamped q b found
stamp_left q b None none = absurd (cc)
stamp_left q b (Some n) none = go (q.block == b) refl (n.version == q.version) refl (n.hop == q.hop) refl none
  where
    go : (x : Bool) → (q.block == b) ≡ x → (y : Bool) → (n.version == q.version) ≡ y → (z : Bool) → (n.hop == q.hop) ≡ z
        → cond x (cond (y && z) None (Some (Outrun n))) (Some NoTicket) ≡ None → IsStamped q b (Some n)
    go true is_x true is_y true is_z e = record {
      newest = n;
      found_is = refl;
      block = equal_back _ _ is_x;
      version = equal_back _ _ is_y;
      hop = equal_back _ _ is_z;
    }
    go false is_x y is_y z is_z e = absurd (cc)
    go true is_x false is_y z is_z e = absurd (cc)
    go true is_x true is_y false is_z e = absurd (cc)

reason_waits : (a : ArrayView) (k : Kept) (b : ℕ) (found : Option Record) → commit_reason_of a k b found ≡ None → is_waiting k ≡ true
reason_waits a (Pending k) b found e = refl
reason_waits a (Moving q k) b found e = refl
reason_waits a Nothing b found e = absurd (cc)
reason_waits a Unmade b found e = absurd (cc)
reason_waits a (Newest c) b found e = absurd (cc)

-- the slot waits where nothing speaks against its commit
pub commit_waits : (a : ArrayView) (s b : ℕ) (found : Option Record) → commit_reason a s b found ≡ None → is_waiting (kept_at a s) ≡ true
commit_waits a s b found none = reason_waits a (kept_at a s) b found none

-- and it is one of a group
pub commit_slot : (a : ArrayView) (s b : ℕ) (found : Option Record) → IsWhole a → commit_reason a s b found ≡ None → IsSlot a.parts.groups s
commit_slot a s b found whole none = slot_of_class a.parts.groups s (whole.there s (waiting_kept (kept_at a s) (commit_waits a s b found none)) (waiting_made (kept_at a s) (commit_waits a s b found none)))

-- versions are at most one past the last
version_bound : (b key : ℕ) → key < 2 ^ 64 → next_version (record_at b key) ≤ last_version + 1
version_bound b key small = go (sizes key)
  where
    sizes : (k : ℕ) → (k < 2 ^ 32) ⊎ (2 ^ 32 ≤ k)
    sizes k = grind arith

    go : (key < 2 ^ 32) ⊎ (2 ^ 32 ≤ key) → next_version (record_at b key) ≤ last_version + 1
    go (inl less) = let n : next_version (record_at b key) ≡ 1 = ap next_version (untold_at b key less) in omega arith
    go (inr big) = let n : next_version (record_at b key) ≡ key / 2 ^ 32 + 1 = ap next_version (reported_at b key big) in omega arith

pub version_most : (a : ArrayView) (b : ℕ) → IsWhole a → version_reason (record_at b (key_at a b)) ≡ None → next_version (record_at b (key_at a b)) ≤ last_version
version_most a b whole none =
    let most = version_bound b (key_at a b) (whole.fit b) in
    let apart = version_left (record_at b (key_at a b)) none in
    omega arith

-- the record that a commit emits is in range
pub fresh_ok : (a : ArrayView) (s b : ℕ) → IsWhole a → s < 65536 → b < a.parts.groups.blocks → version_reason (record_at b (key_at a b)) ≡ None
    → IsRecord (emitted_by b s (next_version (record_at b (key_at a b))) 0)
fresh_ok a s b whole inside block none =
    let n = whole.blocks in
    let most = version_most a b whole none in
    record { block = omega arith; written = one (record_at b (key_at a b)); version = omega arith; hop = omega arith; place = omega arith }
  where
    one : (o : Option Record) → 0 < next_version o
    one None = omega arith
    one (Some q) = omega arith

moved_ok : (a : ArrayView) (s b : ℕ) (q : Record) (k : Kind) → IsWhole a → s < 65536 → b < a.parts.groups.blocks → kept_at a s ≡ Moving q k
    → IsStamped q b (record_at b (key_at a b)) → IsRecord (emitted_by b s q.version (q.hop + 1))
moved_ok a s b q k whole inside block is now =
    let n = whole.blocks in
    let reported = reported_key b (key_at a b) now.newest now.found_is in
    let big = reported.0 in
    let version : key_at a b / 2 ^ 32 ≡ q.version = ap (λ (r : Record). r.version) reported.1 ∙ now.version in
    let fit = whole.fit b in
    let moves = whole.moving s q k is in
    record { block = omega arith; written = omega arith; version = omega arith; hop = omega arith; place = omega arith }

pub commit_ok : (a : ArrayView) (s b : ℕ) → IsWhole a → s < 65536 → b < a.parts.groups.blocks → commit_reason a s b (record_at b (key_at a b)) ≡ None
    → IsRecord (commit_record a s b (record_at b (key_at a b)))
commit_ok a s b whole inside block none = go (kept_at a s) refl none
  where
    go : (k : Kept) → kept_at a s ≡ k → commit_reason_of a k b (record_at b (key_at a b)) ≡ None
        → IsRecord (emitted_by b s (version_given k (record_at b (key_at a b))) (hop_given k))
    go (Pending k) is e = fresh_ok a s b whole inside block (or_none _ _ e).0
    go (Moving q k) is e = moved_ok a s b q k whole inside block is (stamp_left q b (record_at b (key_at a b)) (or_none _ _ e).0)
    go Nothing is e = absurd (cc)
    go Unmade is e = absurd (cc)
    go (Newest c) is e = absurd (cc)

-- what is kept of a slot is its ticket
kept_ticket : (a : ArrayView) (F : Flat) (s : ℕ) (k : Kept) → ShowsArray a F → kept_at a s ≡ k → IsTicketOf k (F.tickets s)
kept_ticket a F s k shows is = subst (λ j. IsTicketOf j (F.tickets s)) is (shows.tables.slots s).waits

-- a commit of a version and hop is the flat machine's
abbrev IsCommit : ArrayView → PartsView → Flat → ℕ → ℕ → ℕ → ℕ → ℕ → Type 0
IsCommit a p F w s b v h =
    (G : Flat) × (CommitCase F w s b (Committed (emitted_by b s v h)) G)
    × (ShowsArray (commit_view (with_parts a p) s b (record_at b (key_at a b)) (emitted_by b s v h)) G)

-- the slot's unit was stamped with the record of that version and hop
abbrev IsStampedTo : ArrayView → PartsView → ℕ → ℕ → ℕ → ℕ → Kind → Type 0
IsStampedTo a p s b v h k = WasCarried a.parts p s s (Is (emitted_by b s v h) k)

pub short : (a : ArrayView) (F : Flat) → ShowsArray a F → full_reason a ≡ None → length F.emitted < longest_log
short a F shows none = subst (λ (l : List Record). length l < longest_log) (sym shows.tables.log) (room_left a none)

pub in_blocks : (a : ArrayView) (F : Flat) (b : ℕ) → ShowsArray a F → b < a.parts.groups.blocks → b < F.groups.blocks
in_blocks a F b shows block = subst (λ (z : Groups). b < z.blocks) (sym shows.tables.groups) block

-- what is ready to be committed, and is the flat machine's case, is
carried : (a : ArrayView) (p : PartsView) (F : Flat) (w s b : ℕ) (c : Waiting) (x : Content) (v h : ℕ) (writes : List Write) → IsWhole a → s < 65536 → b < a.parts.groups.blocks
    → is_waiting (kept_at a s) ≡ true → IsStampedTo a p s b v h (kind_of x) → ShowsArray a F → IsReady F (key_at a) w s b (record_at b (key_at a b)) c v h writes
    → CommitCase F w s b (Committed (emitted_by b s v h)) (fared (committed F w s b (record_at b (key_at a b)) writes x (emitted_by b s v h)) p)
    → IsCommit a p F w s b v h
carried a p F w s b c x v h writes whole inside block waits was shows ready case = (
  fared (committed F w s b (record_at b (key_at a b)) writes x (emitted_by b s v h)) p,
  case,
  shows_after a (commit_view (with_parts a p) s b (record_at b (key_at a b)) (emitted_by b s v h)) F
      (fared (committed F w s b (record_at b (key_at a b)) writes x (emitted_by b s v h)) p)
      (Commit w s b) (Committed (emitted_by b s v h)) shows (in_blocks a F b shows block) case
      (commit_map a F b (record_at b (key_at a b)) (emitted_by b s v h) s (tables_of a F shows) whole refl block above)
      (commit_units p F w s b (record_at b (key_at a b)) writes x (emitted_by b s v h) u.0 u.1 u.2)
      (commit_tables a p F w s b writes x (emitted_by b s v h) inside waits was.rest was.fares whole (tables_of a F shows)
      (passed IsArrays F (key_at a) w s b (record_at b (key_at a b)) (λ t. (shows.history.holders t).once) (for_ticket w) (for_block b) shows.history (newest_reported a F b shows) ready.mine)),
)
  where
    u : (u : Stored) × (F.units s ≡ Some u) × Shows p (put F.units s (Some (record u { header = header_for (emitted_by b s v h) x })))
    u = was.shows F.units shows.units

    above : key_at a b < key_of (emitted_by b s v h)
    above = let e = ready.above in omega arith

-- the slot isn't lost then, and the state is left with the drives of the parts
there : (a : ArrayView) (p : PartsView) (F : Flat) (s b v h : ℕ) (k : Kind) → ShowsArray a F → IsStampedTo a p s b v h k → (x : Flat) → x.groups ≡ F.groups → IsGoneIn (fared x p) s → ⊥
there a p F s b v h k shows was x same gone = was.target (gone_back x a.parts p s (same ∙ shows.tables.groups) was.rest gone)

commit_fresh : (a : ArrayView) (p : PartsView) (F : Flat) (w s b : ℕ) (x : Content) → IsWhole a → s < 65536 → b < a.parts.groups.blocks → is_waiting (kept_at a s) ≡ true → F.tickets s ≡ Some (Fresh x)
    → F.held s (Ticket w) ≡ true → version_reason (record_at b (key_at a b)) ≡ None → full_reason a ≡ None → IsStampedTo a p s b (next_version (record_at b (key_at a b))) 0 (kind_of x) → ShowsArray a F
    → IsCommit a p F w s b (next_version (record_at b (key_at a b))) 0
commit_fresh a p F w s b x whole inside block waits ticket mine left room was shows =
    carried a p F w s b (Fresh x) x (next_version (record_at b (key_at a b))) 0
    (F.writes ++ record { block = b; version = next_version (record_at b (key_at a b)); content = x } ∷ []) whole inside block waits was shows
    (fresh_ready F (key_at a) w s b (record_at b (key_at a b)) x shows.history (newest_reported a F b shows) ticket mine (in_blocks a F b shows block)
    (version_most a b whole left) (short a F shows room)) (
      mine,
      subst (λ c. IsFor c b) (sym ticket) tt,
      (
        record_at b (key_at a b),
        newest_reported a F b shows,
        subst (λ c. CommitWith F w s b (record_at b (key_at a b)) c (Committed (emitted_by b s (next_version (record_at b (key_at a b))) 0)) G) (sym ticket) (
          version_most a b whole left,
          short a F shows room,
          there a p F s b (next_version (record_at b (key_at a b))) 0 (kind_of x) shows was x_left refl,
          refl,
          leaves x_left a.parts p shows.tables.lost shows.tables.failures was.fares,
        ),
      ),
    )
  where
    x_left : Flat
    x_left = committed F w s b (record_at b (key_at a b)) (F.writes ++ record { block = b; version = next_version (record_at b (key_at a b)); content = x } ∷ []) x
        (emitted_by b s (next_version (record_at b (key_at a b))) 0)

    G : Flat
    G = fared (committed F w s b (record_at b (key_at a b)) (F.writes ++ record { block = b; version = next_version (record_at b (key_at a b)); content = x } ∷ []) x
        (emitted_by b s (next_version (record_at b (key_at a b))) 0)) p

commit_moved : (a : ArrayView) (p : PartsView) (F : Flat) (w s b : ℕ) (q : Record) (x : Content) → IsWhole a → s < 65536 → b < a.parts.groups.blocks → is_waiting (kept_at a s) ≡ true
    → F.tickets s ≡ Some (Moved q.block q.version q.hop x) → F.held s (Ticket w) ≡ true → IsStamped q b (record_at b (key_at a b)) → full_reason a ≡ None
    → IsStampedTo a p s b q.version (q.hop + 1) (kind_of x) → ShowsArray a F → IsCommit a p F w s b q.version (q.hop + 1)
commit_moved a p F w s b q x whole inside block waits ticket mine now room was shows =
    carried a p F w s b (Moved q.block q.version q.hop x) x q.version (q.hop + 1) F.writes whole inside block waits was shows
    (moved_ready F (key_at a) w s b (record_at b (key_at a b)) q.block q.version q.hop x shows.history (newest_reported a F b shows) ticket mine now.block (in_blocks a F b shows block)
    stamps (short a F shows room)) (
      mine,
      subst (λ c. IsFor c b) (sym ticket) now.block,
      (
        record_at b (key_at a b),
        newest_reported a F b shows,
        subst (λ c. CommitWith F w s b (record_at b (key_at a b)) c (Committed (emitted_by b s q.version (q.hop + 1))) G) (sym ticket) (
          stamps,
          short a F shows room,
          there a p F s b q.version (q.hop + 1) (kind_of x) shows was x_left refl,
          refl,
          leaves x_left a.parts p shows.tables.lost shows.tables.failures was.fares,
        ),
      ),
    )
  where
    x_left : Flat
    x_left = committed F w s b (record_at b (key_at a b)) F.writes x (emitted_by b s q.version (q.hop + 1))

    G : Flat
    G = fared (committed F w s b (record_at b (key_at a b)) F.writes x (emitted_by b s q.version (q.hop + 1))) p

    stamps : HasCopiedStamp (record_at b (key_at a b)) q.version q.hop
    stamps = subst (λ o. HasCopiedStamp o q.version q.hop) (sym now.found_is) (now.version, now.hop)

-- where nothing speaks against it, and the slot was stamped, the commit is the flat machine's
pub commit_case : (a : ArrayView) (p : PartsView) (F : Flat) (w s b : ℕ) → IsWhole a → s < 65536 → b < a.parts.groups.blocks
    → commit_reason a s b (record_at b (key_at a b)) ≡ None → WasCarried a.parts p s s (Is (commit_record a s b (record_at b (key_at a b))) (kind_given (kept_at a s))) → ShowsArray a F
    → (F.tickets s ≢ None → F.held s (Ticket w) ≡ true)
    → (G : Flat) × (CommitCase F w s b (Committed (commit_record a s b (record_at b (key_at a b)))) G)
    × (ShowsArray (commit_view (with_parts a p) s b (record_at b (key_at a b)) (commit_record a s b (record_at b (key_at a b)))) G)
commit_case a p F w s b whole inside block none was shows mine = go (kept_at a s) refl none was
  where
    go : (k : Kept) → kept_at a s ≡ k → commit_reason_of a k b (record_at b (key_at a b)) ≡ None
        → IsStampedTo a p s b (version_given k (record_at b (key_at a b))) (hop_given k) (kind_given k)
        → IsCommit a p F w s b (version_given k (record_at b (key_at a b))) (hop_given k)
    go (Pending k) is e stamp =
        let reasons = or_none _ _ e in
        let t = kept_ticket a F s (Pending k) shows is in
        commit_fresh a p F w s b t.0 whole inside block (ap is_waiting is) t.1 (ticket_held a F w s (ap is_waiting is) shows mine) reasons.0 reasons.1
        (subst (IsStampedTo a p s b (next_version (record_at b (key_at a b))) 0) t.2 stamp) shows
    go (Moving q k) is e stamp =
        let reasons = or_none _ _ e in
        let t = kept_ticket a F s (Moving q k) shows is in
        commit_moved a p F w s b q t.0 whole inside block (ap is_waiting is) t.1 (ticket_held a F w s (ap is_waiting is) shows mine)
        (stamp_left q b (record_at b (key_at a b)) reasons.0) reasons.1 (subst (IsStampedTo a p s b q.version (q.hop + 1)) t.2 stamp) shows
    go Nothing is e stamp = absurd (cc)
    go Unmade is e stamp = absurd (cc)
    go (Newest c) is e stamp = absurd (cc)

-- the slot is lost
pub commit_gone : (a : ArrayView) (p : PartsView) (F : Flat) (w s b : ℕ) (q : Refusal) → IsWhole a → commit_reason a s b (record_at b (key_at a b)) ≡ None → FoundGone a.parts p s q
    → ShowsArray a F → (F.tickets s ≢ None → F.held s (Ticket w) ≡ true)
    → MayRefuse q (IsAllocating F (Commit w s b)) ((G : Flat) × CommitCase F w s b (Refused q) G × ShowsArray (with_parts a p) G)
commit_gone a p F w s b q whole none found shows mine =
    subst (λ z. MayRefuse z (IsAllocating F (Commit w s b)) ((G : Flat) × CommitCase F w s b (Refused z) G × ShowsArray (with_parts a p) G)) (sym found.reported)
    (fared F p, go (kept_at a s) refl none, lost_shows a F p shows found.loses)
  where
    gone : IsGoneIn (fared F p) s
    gone = gone_as F a.parts p s shows.tables.groups found.loses.rest found.gone

    left : Leaves F (fared F p)
    left = lost_leaves a F p shows found.loses

    reported : (c : Waiting) → F.tickets s ≡ Some c → F.held s (Ticket w) ≡ true → IsFor (Some c) b
        → CommitWith F w s b (record_at b (key_at a b)) (Some c) (Refused (Refusal.Gone s)) (fared F p) → CommitCase F w s b (Refused (Refusal.Gone s)) (fared F p)
    reported c ticket held for with = (
      held,
      subst (λ t. IsFor t b) (sym ticket) for,
      (
        record_at b (key_at a b),
        newest_reported a F b shows,
        subst (λ t. CommitWith F w s b (record_at b (key_at a b)) t (Refused (Refusal.Gone s)) (fared F p)) (sym ticket) with,
      ),
    )

    go : (k : Kept) → kept_at a s ≡ k → commit_reason_of a k b (record_at b (key_at a b)) ≡ None → CommitCase F w s b (Refused (Refusal.Gone s)) (fared F p)
    go (Pending k) is e =
        let reasons = or_none _ _ e in
        let t = kept_ticket a F s (Pending k) shows is in
        reported (Fresh t.0) t.1 (ticket_held a F w s (ap is_waiting is) shows mine) tt (version_most a b whole reasons.0, short a F shows reasons.1, refl, gone, left)
    go (Moving m k) is e =
        let reasons = or_none _ _ e in
        let t = kept_ticket a F s (Moving m k) shows is in
        let now = stamp_left m b (record_at b (key_at a b)) reasons.0 in
        reported (Moved m.block m.version m.hop t.0) t.1 (ticket_held a F w s (ap is_waiting is) shows mine) now.block
        (subst (λ o. HasCopiedStamp o m.version m.hop) (sym now.found_is) (now.version, now.hop), short a F shows reasons.1, refl, gone, left)
    go Nothing is e = absurd (cc)
    go Unmade is e = absurd (cc)
    go (Newest c) is e = absurd (cc)

-- where nothing speaks against it, the commit may run out of memory
pub commit_needs : (a : ArrayView) (F : Flat) (w s b : ℕ) → IsWhole a → commit_reason a s b (record_at b (key_at a b)) ≡ None → ShowsArray a F
    → (F.tickets s ≢ None → F.held s (Ticket w) ≡ true) → IsAllocating F (Commit w s b)
commit_needs a F w s b whole none shows mine = go (kept_at a s) refl none
  where
    reported : (c : Waiting) → F.tickets s ≡ Some c → F.held s (Ticket w) ≡ true → IsFor (Some c) b → CommitPasses F (record_at b (key_at a b)) (Some c) → IsAllocating F (Commit w s b)
    reported c ticket held for passes = (
      held,
      subst (λ t. IsFor t b) (sym ticket) for,
      (record_at b (key_at a b), newest_reported a F b shows, subst (CommitPasses F (record_at b (key_at a b))) (sym ticket) passes),
    )

    go : (k : Kept) → kept_at a s ≡ k → commit_reason_of a k b (record_at b (key_at a b)) ≡ None → IsAllocating F (Commit w s b)
    go (Pending k) is e =
        let reasons = or_none _ _ e in
        let t = kept_ticket a F s (Pending k) shows is in
        reported (Fresh t.0) t.1 (ticket_held a F w s (ap is_waiting is) shows mine) tt (version_most a b whole reasons.0, short a F shows reasons.1)
    go (Moving q k) is e =
        let reasons = or_none _ _ e in
        let t = kept_ticket a F s (Moving q k) shows is in
        let now = stamp_left q b (record_at b (key_at a b)) reasons.0 in
        reported (Moved q.block q.version q.hop t.0) t.1 (ticket_held a F w s (ap is_waiting is) shows mine) now.block
        (subst (λ o. HasCopiedStamp o q.version q.hop) (sym now.found_is) (now.version, now.hop), short a F shows reasons.1)
    go Nothing is e = absurd (cc)
    go Unmade is e = absurd (cc)
    go (Newest c) is e = absurd (cc)

-- and where something does, it is the flat machine's refusal
pub commit_refused : (a : ArrayView) (F : Flat) (w s b : ℕ) (q : Refusal) → IsWhole a
    → commit_reason a s b (record_at b (key_at a b)) ≡ Some q → ShowsArray a F → (F.tickets s ≢ None → F.held s (Ticket w) ≡ true)
    → MayRefuse q (IsAllocating F (Commit w s b)) ((G : Flat) × CommitCase F w s b (Refused q) G × ShowsArray a G)
commit_refused a F w s b q whole some shows mine = go (kept_at a s) refl some
  where
    P : Refusal → Type 0
    P r = MayRefuse r (IsAllocating F (Commit w s b)) ((G : Flat) × CommitCase F w s b (Refused r) G × ShowsArray a G)

    no_ticket : is_waiting (kept_at a s) ≡ false → Some NoTicket ≡ Some q → P q
    no_ticket waits e = subst P (same_Some _ _ e) (F, (inl (unticketed a F w s waits shows), itself F), shows)

    -- what the flat machine asks of any answer but that there is no ticket
    with_ticket : (c : Waiting) (r : Refusal) → F.tickets s ≡ Some c → F.held s (Ticket w) ≡ true → IsFor (Some c) b
        → CommitWith F w s b (record_at b (key_at a b)) (Some c) (Refused r) F
        → (F.held s (Ticket w) ≡ true) × (IsFor (F.tickets s) b) × ((o : Option Record) × (IsNewest F.emitted b o) × (CommitWith F w s b o (F.tickets s) (Refused r) F))
    with_ticket c r ticket held for x = (
      held,
      subst (λ t. IsFor t b) (sym ticket) for,
      (record_at b (key_at a b), newest_reported a F b shows, subst (λ t. CommitWith F w s b (record_at b (key_at a b)) t (Refused r) F) (sym ticket) x),
    )

    full : (f : Bool) → nat_le longest_log (length a.log) ≡ f → cond f (Some LogFull) None ≡ Some q → (longest_log ≤ length F.emitted → P LogFull) → P q
    full true is e case = subst P (same_Some _ _ e) (case (subst (λ (l : List Record). longest_log ≤ length l) (sym shows.tables.log) long))
      where
        long : longest_log ≤ length a.log
        long = grind (arith, nat_tests)
    full false is e case = absurd (cc)

    fresh : (x : Content) → F.tickets s ≡ Some (Fresh x) → F.held s (Ticket w) ≡ true → (p : Bool) → (next_version (record_at b (key_at a b)) == last_version + 1) ≡ p
        → or_else (cond p (Some VersionSpent) None) (full_reason a) ≡ Some q → P q
    fresh x t held true is_p e = subst P (same_Some _ _ e) (F, with_ticket (Fresh x) VersionSpent t held tt (equal_back _ _ is_p, itself F), shows)
    fresh x t held false is_p e = full _ refl e (λ long. (F, with_ticket (Fresh x) LogFull t held tt (under, long, itself F), shows))
      where
        under : next_version (record_at b (key_at a b)) ≤ last_version
        under =
            let most = version_bound b (key_at a b) (whole.fit b) in
            let apart : next_version (record_at b (key_at a b)) ≢ last_version + 1 = λ same. let no : true ≡ false = sym (equal _ _ same) ∙ is_p in cc in
            omega arith

    another : (m : Record) (x : Content) → F.tickets s ≡ Some (Moved m.block m.version m.hop x) → (m.block ≡ b → ⊥) → Some NoTicket ≡ Some q → P q
    another m x t ne e = subst P (same_Some _ _ e) (F, (inr (λ for. ne (subst (λ c. IsFor c b) t for)), itself F), shows)

    unwritten : (m : Record) (x : Content) → F.tickets s ≡ Some (Moved m.block m.version m.hop x) → record_at b (key_at a b) ≡ None → m.block ≡ b → ⊥
    unwritten m x t none same =
        let some = ((shows.history.units s).rests (Moved m.block m.version m.hop x) t).written in
        let key : key_at a m.block ≡ key_at a b = ap (key_at a) same in
        let big = whole.keys b (omega arith) in
        let bad : Some (record_of b (key_at a b)) ≡ None = sym (reported_at b (key_at a b) big) ∙ none in cc

    outrun : (m n : Record) (x : Content) → F.tickets s ≡ Some (Moved m.block m.version m.hop x) → F.held s (Ticket w) ≡ true → record_at b (key_at a b) ≡ Some n → m.block ≡ b
        → (HasCopiedStamp (Some n) m.version m.hop → ⊥) → Some (Outrun n) ≡ Some q → P q
    outrun m n x t held reported same passed e = subst P (same_Some _ _ e)
        (F, with_ticket (Moved m.block m.version m.hop x) (Outrun n) t held same (reported, (λ has. passed (subst (λ o. HasCopiedStamp o m.version m.hop) reported has)), itself F), shows)

    copy : (m : Record) (x : Content) → F.tickets s ≡ Some (Moved m.block m.version m.hop x) → F.held s (Ticket w) ≡ true → (o : Option Record) → record_at b (key_at a b) ≡ o
        → or_else (stamp_reason m b o) (full_reason a) ≡ Some q → P q
    copy m x t held None reported e = another m x t (unwritten m x t reported) e
    copy m x t held (Some n) reported e = at (m.block == b) refl (n.version == m.version) refl (n.hop == m.hop) refl e
      where
        at : (i : Bool) → (m.block == b) ≡ i → (j : Bool) → (n.version == m.version) ≡ j → (k : Bool) → (n.hop == m.hop) ≡ k
            → or_else (cond i (cond (j && k) None (Some (Outrun n))) (Some NoTicket)) (full_reason a) ≡ Some q → P q
        at false is_i j is_j k is_k e = another m x t (λ same. let no : true ≡ false = sym (equal _ _ same) ∙ is_i in cc) e
        at true is_i false is_j k is_k e = outrun m n x t held reported (equal_back _ _ is_i) (λ has. let no : true ≡ false = sym (equal _ _ has.0) ∙ is_j in cc) e
        at true is_i true is_j false is_k e = outrun m n x t held reported (equal_back _ _ is_i) (λ has. let no : true ≡ false = sym (equal _ _ has.1) ∙ is_k in cc) e
        at true is_i true is_j true is_k e = full _ refl e (λ long. (
          F,
          with_ticket (Moved m.block m.version m.hop x) LogFull t held (equal_back _ _ is_i)
              (subst (λ o. HasCopiedStamp o m.version m.hop) (sym reported) (equal_back _ _ is_j, equal_back _ _ is_k), long, itself F),
          shows,
        ))

    go : (k : Kept) → kept_at a s ≡ k → commit_reason_of a k b (record_at b (key_at a b)) ≡ Some q → P q
    go Nothing is e = no_ticket (ap is_waiting is) e
    go Unmade is e = no_ticket (ap is_waiting is) e
    go (Newest c) is e = no_ticket (ap is_waiting is) e
    go (Pending k) is e =
        let t = kept_ticket a F s (Pending k) shows is in
        fresh t.0 t.1 (ticket_held a F w s (ap is_waiting is) shows mine) _ refl e
    go (Moving m k) is e =
        let t = kept_ticket a F s (Moving m k) shows is in
        copy m t.0 t.1 (ticket_held a F w s (ap is_waiting is) shows mine) (record_at b (key_at a b)) refl e
