-- The list of a commit.
use Rattle.std.proofs.Common.{◌≡◌, ◌≢◌, ℕ, ◌⊎◌, inl, inr, ◌+◌, ◌<◌, ◌≤◌, ◌++◌, ◌∷◌, [], ◌==◌, Bool, true, false, cond, Some, None, Option, List, length, take, drop, refl, sym, ◌∙◌, ap, subst, arith}
use Rattle.std.specs.Global.{Global}
use Rattle.std.specs.Prelude.{◌&&◌, nat_le, Vec, Result, Ok, Err, IfOk, IfErr, OnOk, MatchResult}
use Rattle.std.proofs.Math.Seq.{take-append_seam}
use Rattle.extents.proofs.Headers.{length-header_bytes}
use Rattle.flat_machine.proofs.Pairs.{equal_back}
use Rattle.std.proofs.lemmas.Bool.Decides.{nat_tests}
use Rattle.map_join.specs.declared.records.Record.{Record}
use Rattle.map_join.specs.Record.{record_at}
use Rattle.extents.specs.Failures.{Failures}
use Rattle.extents.specs.Header.{header_bytes}
use Rattle.extents.specs.declared.header.Header.TheVariants.{Is}
use Rattle.extents.specs.declared.header.Kind.{Kind}
use Rattle.extent_groups.specs.Groups.{Groups}
use Rattle.extent_groups.specs.Stores.{unit_bytes, unit_of}
use Rattle.flat_machine.specs.Cases.{CommitCase, CommitWith, HasCopiedStamp, IsFor, IsGoneIn, IsAllocating, Leaves, committed, stamped, next_version, last_version, longest_log}
use Rattle.flat_machine.specs.declared.refusal.Refusal.{Refusal}
use Rattle.flat_machine.specs.declared.refusal.Refusal.TheVariants.{Memory, LogFull, NoTicket, Outrun}
use Rattle.flat_machine.specs.Flat.{Flat, Content, Waiting, Fresh, Moved, Stored, Ticket, Write, IsNewest, header_for, kind_of, or_else, put}
use Rattle.flat_machine.specs.Steps.{Commit, Committed, Refused, FlatAnswer}
use Rattle.unit_store.specs.declared.micro.Micro.{Micro}
use Rattle.unit_store.specs.Shows.{IsUnit}
use Rattle.unit_store.specs.Slots.{IsSlot}
use Rattle.unit_store.specs.Views.{drive_cells, IsLost, FoundGone}
use Rattle.unit_store.proofs.Shows.{unit_of_header}
use Rattle.slot_tables.specs.Changes.{MayRefuse, commit_reason, commit_reason_of, commit_record, full_reason, kind_given, stamp_reason, version_given, hop_given}
use Rattle.slot_tables.specs.Represents.{IsTicketOf, ShowsArray}
use Rattle.slot_tables.specs.Views.{ArrayView, IsWhole, Kept, Nothing, Pending, Moving, Newest, Unmade, is_waiting, key_at, kept_at, with_parts}
use Rattle.slot_tables.proofs.Committing.{commit_gone, commit_ok, commit_slot, commit_needs}
use Rattle.slot_tables.proofs.Fares.{fared, leaves, gone_back, lost_leaves}
use Rattle.slot_tables.proofs.Kepts.{ticket_held}
use Rattle.slot_tables.proofs.Newest.{newest_reported}
use Rattle.disk_array.specs.Laws.{only_more}
use Rattle.disk_array.specs.Refused.{OnlyLoses}
use Rattle.disk_array.proofs.Ready.{as_refused}
use Rattle.crash_points.specs.Lists.{IsUnitList, IsStepList}
use Rattle.crash_points.proofs.Gone.{gone_following}
use Rattle.crash_points.proofs.Steps.{still_shown, micro_of}

-- the first 32 bytes of two pieces are the first piece, where that has 32 bytes
take_front : (xs ys : List ℕ) → length xs ≡ 32 → take 32 (xs ++ ys) ≡ xs
take_front xs ys long = subst (λ n. take n (xs ++ ys) ≡ xs) long (take-append_seam xs ys)

-- where no reason is given against a commit
no_reason : {X : Type 0} (o p : Option X) → or_else o p ≡ None → (o ≡ None) × (p ≡ None)
no_reason None p e = (refl, e)
no_reason (Some x) p e = absurd (cc)

room_in : (a : ArrayView) → full_reason a ≡ None → length a.log < longest_log
room_in a none = go (nat_le longest_log (length a.log)) refl none
  where
    go : (q : Bool) → nat_le longest_log (length a.log) ≡ q → cond q (Some LogFull) None ≡ None → length a.log < longest_log
    go true is e = absurd (cc)
    go false is e = grind (arith, nat_tests)

has_stamp : (q : Record) (b : ℕ) (found : Option Record) → stamp_reason q b found ≡ None → (q.block ≡ b) × HasCopiedStamp found q.version q.hop
has_stamp q b None none = absurd (cc)
has_stamp q b (Some n) none = go (q.block == b) refl (n.version == q.version) refl (n.hop == q.hop) refl none
  where
    go : (x : Bool) → (q.block == b) ≡ x → (y : Bool) → (n.version == q.version) ≡ y → (z : Bool) → (n.hop == q.hop) ≡ z
        → cond x (cond (y && z) None (Some (Outrun n))) (Some NoTicket) ≡ None → (q.block ≡ b) × HasCopiedStamp (Some n) q.version q.hop
    go true is_x true is_y true is_z e = (equal_back _ _ is_x, (equal_back _ _ is_y, equal_back _ _ is_z))
    go false is_x y is_y z is_z e = absurd (cc)
    go true is_x false is_y z is_z e = absurd (cc)
    go true is_x true is_y false is_z e = absurd (cc)

-- the slot was read, and its plan with the record's header goes on from there
module _ {D : Type 0} (units : D → List (List ℕ)) (lost : D → Bool) (failures : D → Failures) (a m b : ArrayView) (slot block : ℕ) (read bytes : List ℕ) (whole : IsWhole a) (low : slot < 65536) (inside : block < a.parts.groups.blocks)
    (none : commit_reason a slot block (record_at block (key_at a block)) ≡ None) (first : OnlyLoses a m) (was : unit_of m.parts.groups (drive_cells m.parts) slot ≡ Some read) (long : length read ≡ unit_bytes m.parts.groups)
    (reported : bytes ≡ header_bytes (Is (commit_record a slot block (record_at block (key_at a block))) (kind_given (kept_at a slot))) ++ drop 32 read) (same : length bytes ≡ length read) (loses : OnlyLoses m b) where
  both : OnlyLoses a b
  both = only_more a m b first loses

  abbrev found : Option Record
  found = record_at block (key_at a block)

  abbrev r : Record
  r = commit_record a slot block found

  -- the list, where the step is what the flat machine makes of a content that waits
  of_content : (F : Flat) (w : ℕ) (list : List Micro) (x : Content) (writes : List Write) → IsUnitList b.parts slot bytes list → ShowsArray a F → (F.tickets slot ≢ None → F.held slot (Ticket w) ≡ true) → kind_given (kept_at a slot) ≡ kind_of x
      → CommitCase F w slot block (Committed r) (fared (committed F w slot block found writes x r) b.parts)
      → IsStepList units lost failures b F slot (Commit w slot block) (λ answer. (q : Record) × (answer ≡ Committed q)) list
  of_content F w list x writes l shows mine kind case = record {
    before = fared F b.parts;
    after = fared (committed F w slot block found writes x r) b.parts;
    answer = Committed r;
    bytes = bytes;
    unit = record u.0 { header = header_for r x };
    expected = commit_needs a F w slot block whole none shows mine;
    lost_are = refl;
    failures_are = refl;
    listed = l;
    front = ap (take 32) reported ∙ take_front (header_bytes (Is r (kind_given (kept_at a slot)))) (drop 32 read) (length-header_bytes (Is r (kind_given (kept_at a slot)))) ∙ ap (λ (k : Kind). header_bytes (Is r k)) kind;
    given = ap (λ (o : Option Stored). put F.units slot (stamped o (header_for r x))) u.1;
    leaves = lost_leaves a F b.parts shows both.1;
    shows = still_shown a b F shows both;
    took = (r, refl);
    case = case;
    micro = λ p seen note. micro_of units lost failures p (fared F b.parts) (fared (committed F w slot block found writes x r) b.parts) slot bytes (record u.0 { header = header_for r x }) list b.parts l seen note
        (subst (λ (z : Groups). IsSlot z slot) (sym both.1.rest.groups) (commit_slot a slot block found whole none))
        (same ∙ long ∙ ap (λ (z : Groups). unit_bytes z) (sym loses.1.rest.groups)) holds refl
        (ap (λ (o : Option Stored). put F.units slot (stamped o (header_for r x))) u.1);
  }
    where
      u : (u : Stored) × (F.units slot ≡ Some u) × IsUnit read u
      u = (first.1.shows F.units shows.units).shown slot read was

      holds : IsUnit bytes (record u.0 { header = header_for r x })
      holds = subst (λ z. IsUnit z (record u.0 { header = header_for r x })) (sym reported)
          (subst (λ (k : Kind). IsUnit (header_bytes (Is r k) ++ drop 32 read) (record u.0 { header = header_for r x })) (sym kind)
          (subst (λ z. IsUnit (header_bytes (header_for r x) ++ drop 32 read) (record { header = header_for r x; payload = z })) u.2.1
          (unit_of_header (header_for r x) (drop 32 read) (commit_ok a slot block whole low inside none))))

  listed : (F : Flat) (w : ℕ) (list : List Micro) → IsUnitList b.parts slot bytes list → (IsLost b.parts slot → ⊥) → ShowsArray a F → (F.tickets slot ≢ None → F.held slot (Ticket w) ≡ true)
      → IsStepList units lost failures b F slot (Commit w slot block) (λ answer. (q : Record) × (answer ≡ Committed q)) list
  listed F w list l there shows mine = go (kept_at a slot) refl none
    where
      short : full_reason a ≡ None → length F.emitted < longest_log
      short full = subst (λ (xs : List Record). length xs < longest_log) (sym shows.tables.log) (room_in a full)

      stays : (x : Flat) → x.groups ≡ F.groups → IsGoneIn (fared x b.parts) slot → ⊥
      stays x groups gone = there (gone_back x a.parts b.parts slot (groups ∙ shows.tables.groups) both.1.rest gone)

      left : (x : Flat) → x.lost ≡ F.lost → x.failures ≡ F.failures → Leaves x (fared x b.parts)
      left x lost_same failed_same = leaves x a.parts b.parts (lost_same ∙ shows.tables.lost) (failed_same ∙ shows.tables.failures) both.1.fares

      ticket : (k : Kept) → kept_at a slot ≡ k → IsTicketOf k (F.tickets slot)
      ticket k is = subst (λ j. IsTicketOf j (F.tickets slot)) is (shows.tables.slots slot).waits

      case : (c : Waiting) (answer : FlatAnswer) (G : Flat) → F.tickets slot ≡ Some c → F.held slot (Ticket w) ≡ true → IsFor (Some c) block → CommitWith F w slot block found (Some c) answer G
          → (F.held slot (Ticket w) ≡ true) × (IsFor (F.tickets slot) block) × ((o : Option Record) × (IsNewest F.emitted block o) × (CommitWith F w slot block o (F.tickets slot) answer G))
      case c answer G is held for with = (
        held,
        subst (λ t. IsFor t block) (sym is) for,
        (found, newest_reported a F block shows, subst (λ t. CommitWith F w slot block found t answer G) (sym is) with),
      )

      go : (k : Kept) → kept_at a slot ≡ k → commit_reason_of a k block found ≡ None → IsStepList units lost failures b F slot (Commit w slot block) (λ answer. (q : Record) × (answer ≡ Committed q)) list
      go (Pending k) is e =
          let t = ticket (Pending k) is in
          let version : r.version ≡ next_version found = ap (λ (j : Kept). version_given j found) is in
          let hop : r.hop ≡ 0 = ap hop_given is in
          let writes = F.writes ++ record { block = block; version = next_version found; content = t.0 } ∷ [] in
          let G = fared (committed F w slot block found writes t.0 r) b.parts in
          let most : next_version found ≤ last_version = let fits = (commit_ok a slot block whole low inside none).version in omega (arith, fits, version) in
          of_content F w list t.0 writes l shows mine (ap kind_given is ∙ t.2)
          (case (Fresh t.0) (Committed r) G t.1 (ticket_held a F w slot (ap is_waiting is) shows mine) tt (
            most,
            short (no_reason _ _ e).1,
            stays (committed F w slot block found writes t.0 r) refl,
            (ap (λ v. record { block = block; version = v; hop = r.hop; place = slot }) version ∙ ap (λ h. record { block = block; version = next_version found; hop = h; place = slot }) hop),
            left (committed F w slot block found writes t.0 r) refl refl,
          ))
      go (Moving q k) is e =
          let t = ticket (Moving q k) is in
          let reasons = no_reason _ _ e in
          let stamp = has_stamp q block found reasons.0 in
          let version : r.version ≡ q.version = ap (λ (j : Kept). version_given j found) is in
          let hop : r.hop ≡ q.hop + 1 = ap hop_given is in
          let G = fared (committed F w slot block found F.writes t.0 r) b.parts in
          of_content F w list t.0 F.writes l shows mine (ap kind_given is ∙ t.2)
          (case (Moved q.block q.version q.hop t.0) (Committed r) G t.1 (ticket_held a F w slot (ap is_waiting is) shows mine) stamp.0 (
            stamp.1,
            short reasons.1,
            stays (committed F w slot block found F.writes t.0 r) refl,
            (ap (λ v. record { block = block; version = v; hop = r.hop; place = slot }) version ∙ ap (λ h. record { block = block; version = q.version; hop = h; place = slot }) hop),
            left (committed F w slot block found F.writes t.0 r) refl refl,
          ))
      go Nothing is e = absurd (cc)
      go Unmade is e = absurd (cc)
      go (Newest c) is e = absurd (cc)

  pub commit_flat : (result : Result (Vec Micro Global) Refusal) → IfOk result (λ list. IsUnitList b.parts slot bytes list.items) → OnOk result (IsLost b.parts slot → ⊥)
      → IfErr result (λ e. ((e ≡ Memory) × (b ≡ m)) ⊎ FoundGone m.parts b.parts slot e) → (F : Flat) (w : ℕ) → ShowsArray a F → (F.tickets slot ≢ None → F.held slot (Ticket w) ≡ true)
      → MatchResult result (λ list. IsStepList units lost failures b F slot (Commit w slot block) (λ answer. (q : Record) × (answer ≡ Committed q)) list.items)
      (λ e. MayRefuse e (IsAllocating F (Commit w slot block)) ((G : Flat) × CommitCase F w slot block (Refused e) G × ShowsArray b G))
  commit_flat (Ok list) l there err F w shows mine = listed F w list.items l there shows mine
  commit_flat (Err e) l there (inl needs) F w shows mine =
      subst (λ q. MayRefuse q (IsAllocating F (Commit w slot block)) ((G : Flat) × CommitCase F w slot block (Refused q) G × ShowsArray b G)) (sym needs.0) (commit_needs a F w slot block whole none shows mine)
  commit_flat (Err e) l there (inr gone) F w shows mine =
      as_refused e (IsAllocating F (Commit w slot block)) (λ G. CommitCase F w slot block (Refused e) G) b (with_parts a b.parts) both.0
      (commit_gone a b.parts F w slot block e whole none (gone_following a.parts m.parts b.parts slot e first.1 gone) shows mine)

-- the unit couldn't be read
pub commit_unread : (a m : ArrayView) (slot block : ℕ) (e : Refusal) → IsWhole a → commit_reason a slot block (record_at block (key_at a block)) ≡ None → OnlyLoses a m
    → ((e ≡ Memory) × (m ≡ a)) ⊎ FoundGone a.parts m.parts slot e → (F : Flat) (w : ℕ) → ShowsArray a F → (F.tickets slot ≢ None → F.held slot (Ticket w) ≡ true)
    → MayRefuse e (IsAllocating F (Commit w slot block)) ((G : Flat) × CommitCase F w slot block (Refused e) G × ShowsArray m G)
commit_unread a m slot block e whole none loses (inl needs) F w shows mine =
    subst (λ q. MayRefuse q (IsAllocating F (Commit w slot block)) ((G : Flat) × CommitCase F w slot block (Refused q) G × ShowsArray m G)) (sym needs.0) (commit_needs a F w slot block whole none shows mine)
commit_unread a m slot block e whole none loses (inr gone) F w shows mine =
    as_refused e (IsAllocating F (Commit w slot block)) (λ G. CommitCase F w slot block (Refused e) G) m (with_parts a m.parts) loses.0 (commit_gone a m.parts F w slot block e whole none gone shows mine)
