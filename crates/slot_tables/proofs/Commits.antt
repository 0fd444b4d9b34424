-- A slot that waits becomes a block's newest place in an array's tables.
use Rattle.std.proofs.Common.{◌≡◌, ◌≢◌, ℕ, ◌^◌, ◌<◌, ◌≤◌, max, true, List, [], ◌∷◌, ◌++◌, length, get_or, refl, sym, ap, ◌∙◌, subst, arith, ◌⊎◌, inl, inr, Option, Some, None}
use Rattle.std.proofs.Math.ListN.{set}
use Rattle.std.proofs.lemmas.List.{length-set, get_or-set_same, get_or-set_other}
use Rattle.std.proofs.lemmas.Bool.{cases_eq}
use Rattle.std.proofs.lemmas.Option.{same_Some}
use Rattle.map_join.specs.declared.records.Record.{Record}
use Rattle.map_join.specs.Record.{key_of, record_of, record_at, IsRecord}
use Rattle.map_join.specs.Maps.{IsSame, IsMapOf, join, only}
use Rattle.map_join.proofs.Joins.{took, only_here, only_else}
use Rattle.unit_store.specs.Views.{PartsView, Shows, SameTables, DrivesFare}
use Rattle.flat_machine.specs.Groups.{class_at}
use Rattle.flat_machine.specs.Flat.{Flat, Write, Content, Stored, put, IsArrays, header_for}
use Rattle.flat_machine.specs.Cases.{committed, stamped}
use Rattle.flat_machine.proofs.Pairs.{put_here, put_else}
use Rattle.flat_machine.proofs.Newest.{reported_again, reported_at, untold_at, key_least, place_small}
use Rattle.flat_machine.proofs.Commits.{emitted_by}
use Rattle.flat_machine.proofs.Passing.{Passes, passed_on}
use Rattle.flat_machine.proofs.Slots.{block_waits}
use Rattle.slot_tables.specs.Changes.{commit_view, without_old}
use Rattle.slot_tables.specs.Views.{Kept, Nothing, Moving, Newest, Unmade, is_waiting, ArrayView, with_parts, kept_at, key_at, IsWhole}
use Rattle.flat_machine.specs.History.{IsHistory}
use Rattle.slot_tables.specs.Represents.{ArraySlot, InTables, ShowsArray}
use Rattle.slot_tables.proofs.Fares.{fared}
use Rattle.slot_tables.proofs.Slots.{block_slot, worker_slot, slot_same, one_slot}
use Rattle.slot_tables.proofs.Kepts.{waiting_made, waiting_kept, waiting_newest}

-- where a block's old place lies: not at the slot that waits, and kept for the block
pub record IsOld (a : ArrayView) (s b : ℕ) (found : Option Record) : Type 0 where
  pub apart : (r : Record) → found ≡ Some r → (r.place ≡ s → ⊥)
  pub kept : (r : Record) → found ≡ Some r → kept_at a r.place ≡ Newest b

pub some_is : {X : Type 0} (x y : X) → Some x ≡ Some y → x ≡ y
some_is x y e = same_Some x y e

-- the newest place of a block is kept for it
pub place_kept : (a : ArrayView) (b : ℕ) → IsWhole a → (r : Record) → record_at b (key_at a b) ≡ Some r → kept_at a r.place ≡ Newest b
place_kept a b whole r is = kept_so (sizes (key_at a b))
  where
    sizes : (k : ℕ) → (k < 2 ^ 32) ⊎ (2 ^ 32 ≤ k)
    sizes k = grind arith

    kept_so : (key_at a b < 2 ^ 32) ⊎ (2 ^ 32 ≤ key_at a b) → kept_at a r.place ≡ Newest b
    kept_so (inl small) = let no : None ≡ Some r = sym (untold_at b (key_at a b) small) ∙ is in absurd (cc)
    kept_so (inr big) =
        let same : record_of b (key_at a b) ≡ r = some_is _ _ (sym (reported_at b (key_at a b) big) ∙ is) in
        ap (λ (q : Record). kept_at a q.place) (sym same) ∙ whole.newest b (omega arith)

-- and it isn't a slot that waits, nor one of which nothing is kept
pub old_place : (a : ArrayView) (s b : ℕ) → IsWhole a → is_waiting (kept_at a s) ≡ true → IsOld a s b (record_at b (key_at a b))
old_place a s b whole waits = record { apart = apart; kept = place_kept a b whole }
  where
    apart : (r : Record) → record_at b (key_at a b) ≡ Some r → r.place ≡ s → ⊥
    apart r is e = waiting_newest (kept_at a s) b waits (sym (ap (kept_at a) e) ∙ place_kept a b whole r is)

pub place_apart : (a : ArrayView) (s b : ℕ) → IsWhole a → kept_at a s ≡ Nothing → (r : Record) → record_at b (key_at a b) ≡ Some r → r.place ≡ s → ⊥
place_apart a s b whole free r is e = let bad : Newest b ≡ Nothing = sym (place_kept a b whole r is) ∙ ap (kept_at a) e ∙ free in absurd (cc)

-- what is kept after a commit
pub kept_here : (a : ArrayView) (s b : ℕ) (found : Option Record) (r : Record) → s < length a.kept → kept_at (commit_view a s b found r) s ≡ Newest b
kept_here a s b None r inside = get_or-set_same a.kept s (Newest b) Nothing inside
kept_here a s b (Some old) r inside =
    get_or-set_same (set a.kept old.place Nothing) s (Newest b) Nothing (subst (λ n. s < n) (sym (length-set a.kept old.place Nothing)) inside)

pub kept_old : (a : ArrayView) (s b : ℕ) (old r : Record) → (old.place ≡ s → ⊥) → old.place < length a.kept → kept_at (commit_view a s b (Some old) r) old.place ≡ Nothing
kept_old a s b old r ne inside =
    get_or-set_other (set a.kept old.place Nothing) s old.place (Newest b) Nothing ne ∙ get_or-set_same a.kept old.place Nothing Nothing inside

pub kept_else : (a : ArrayView) (s b : ℕ) (found : Option Record) (r : Record) (t : ℕ) → (t ≡ s → ⊥) → ((q : Record) → found ≡ Some q → t ≡ q.place → ⊥)
    → kept_at (commit_view a s b found r) t ≡ kept_at a t
kept_else a s b None r t ne other = get_or-set_other a.kept s t (Newest b) Nothing ne
kept_else a s b (Some old) r t ne other =
    get_or-set_other (set a.kept old.place Nothing) s t (Newest b) Nothing ne ∙ get_or-set_other a.kept old.place t Nothing Nothing (other old refl)

-- a list that grows keeps its length with one place changed
passed_length : (kept : List Kept) (found : Option Record) → length (without_old kept found) ≡ length kept
passed_length kept None = refl
passed_length kept (Some old) = length-set kept old.place Nothing

-- an array is whole after a commit
pub commit_whole : (a : ArrayView) (s b v h : ℕ) → IsWhole a → s < 65536 → b < a.parts.groups.blocks → is_waiting (kept_at a s) ≡ true → IsRecord (emitted_by b s v h)
    → IsWhole (commit_view a s b (record_at b (key_at a b)) (emitted_by b s v h))
commit_whole a s b v h whole inside block waits ok = record {
  room = record {
    kept = length-set (without_old a.kept (record_at b (key_at a b))) s (Newest b) ∙ passed_length a.kept (record_at b (key_at a b)) ∙ whole.room.kept;
    keys = length-set a.keys b _ ∙ whole.room.keys;
  };
  blocks = whole.blocks;
  keys = λ c. keys c (cases_eq c b);
  fit = λ c. fit c (cases_eq c b);
  newest = λ c. newest c (cases_eq c b);
  only = λ t c is. only t c is (cases_eq t s);
  moving = λ t q k is. whole.moving t q k (kept_same t (Moving q k) is (λ e. cc) (λ e. cc) (cases_eq t s));
  there = λ t kept made. there t kept made (cases_eq t s);
  unmade = λ t is. whole.unmade t (kept_same t Unmade is (λ e. cc) (λ e. cc) (cases_eq t s));
  groups = whole.groups;
  agree = whole.agree;
  rows = whole.rows;
  wide = whole.wide;
  drives = whole.drives;
}
  where
    r : Record
    r = emitted_by b s v h

    view : ArrayView
    view = commit_view a s b (record_at b (key_at a b)) (emitted_by b s v h)

    old : IsOld a s b (record_at b (key_at a b))
    old = old_place a s b whole waits

    here : key_at view b ≡ key_of r
    here = let e = whole.room.keys in get_or-set_same a.keys b (key_of r) 0 (omega arith)

    other : (c : ℕ) → (c ≡ b → ⊥) → key_at view c ≡ key_at a c
    other c ne = get_or-set_other a.keys b c (key_of r) 0 ne

    keys : (c : ℕ) → (c ≡ b) ⊎ (c ≡ b → ⊥) → 0 < key_at view c → 2 ^ 32 ≤ key_at view c
    keys c (inl e) some = let k : key_at view c ≡ key_of r = ap (key_at view) e ∙ here in let big = key_least r ok in omega arith
    keys c (inr ne) some = let k = other c ne in let old_key = whole.keys c (omega arith) in omega arith

    fit : (c : ℕ) → (c ≡ b) ⊎ (c ≡ b → ⊥) → key_at view c < 2 ^ 64
    fit c (inl e) =
        let k : key_at view c ≡ key_of r = ap (key_at view) e ∙ here in
        let v = ok.version in let h = ok.hop in let p = ok.place in
        omega arith
    fit c (inr ne) = let k = other c ne in let f = whole.fit c in omega arith

    kept_off : (c : ℕ) → (c ≡ b → ⊥) → (p : ℕ) → kept_at a p ≡ Newest c → kept_at view p ≡ Newest c
    kept_off c ne p is = kept_else a s b (record_at b (key_at a b)) r p away off ∙ is
      where
        away : p ≡ s → ⊥
        away e = waiting_newest (kept_at a s) c waits (sym (ap (kept_at a) e) ∙ is)

        off : (q : Record) → record_at b (key_at a b) ≡ Some q → p ≡ q.place → ⊥
        off q found e = let same : Newest c ≡ Newest b = sym is ∙ ap (kept_at a) e ∙ old.kept q found in ne (cc)

    newest : (c : ℕ) → (c ≡ b) ⊎ (c ≡ b → ⊥) → 0 < key_at view c → kept_at view (record_of c (key_at view c)).place ≡ Newest c
    newest c (inl e) some =
        let place : (record_of c (key_at view c)).place ≡ s =
        ap (λ n. (record_of n (key_at view n)).place) e ∙ ap (λ k. (record_of b k).place) here ∙ ap (λ (q : Record). q.place) (reported_again r ok)
        in
        let room = whole.room.kept in
        ap (kept_at view) place ∙ kept_here a s b (record_at b (key_at a b)) r (omega arith) ∙ ap (λ n. Newest n) (sym e)
    newest c (inr ne) some =
        let k = other c ne in
        ap (λ n. kept_at view (record_of c n).place) k ∙ kept_off c ne (record_of c (key_at a c)).place (whole.newest c (omega arith))

    -- what is kept of a slot after the commit, but for the slot itself and the old place, was kept before
    kept_off_old : (t : ℕ) (k : Kept) → kept_at view t ≡ k → (k ≡ Nothing → ⊥) → (t ≡ s → ⊥) → kept_at view t ≡ kept_at a t
    kept_off_old t k is some ne = by_found (record_at b (key_at a b)) refl
      where
        same : ((p : Record) → record_at b (key_at a b) ≡ Some p → t ≡ p.place → ⊥) → kept_at view t ≡ kept_at a t
        same off = kept_else a s b (record_at b (key_at a b)) r t ne off

        by_found : (o : Option Record) → record_at b (key_at a b) ≡ o → kept_at view t ≡ kept_at a t
        by_found None none = same (λ p found. let bad : None ≡ Some p = sym none ∙ found in absurd (cc))
        by_found (Some p) found = by_place (cases_eq t p.place)
          where
            by_place : (t ≡ p.place) ⊎ (t ≡ p.place → ⊥) → kept_at view t ≡ kept_at a t
            by_place (inr off) = same (λ x x_is e. off (e ∙ ap (λ (y : Record). y.place) (some_is x p (sym x_is ∙ found))))
            by_place (inl e) =
                let room = whole.room.kept in
                let small = place_small b (key_at a b) p found in
                let gone : kept_at view t ≡ Nothing =
                ap (kept_at view) e ∙ ap (λ o. kept_at (commit_view a s b o r) p.place) found ∙ kept_old a s b p r (old.apart p found) (omega arith)
                in
                absurd (some (sym is ∙ gone))

    kept_same : (t : ℕ) (k : Kept) → kept_at view t ≡ k → (k ≡ Newest b → ⊥) → (k ≡ Nothing → ⊥) → (t ≡ s) ⊎ (t ≡ s → ⊥) → kept_at a t ≡ k
    kept_same t k is other some (inl e) =
        let room = whole.room.kept in absurd (other (sym is ∙ ap (kept_at view) e ∙ kept_here a s b (record_at b (key_at a b)) r (omega arith)))
    kept_same t k is other some (inr ne) = sym (kept_off_old t k is some ne) ∙ is

    place_here : (record_of b (key_at view b)).place ≡ s
    place_here = ap (λ k. (record_of b k).place) here ∙ ap (λ (q : Record). q.place) (reported_again r ok)

    only : (t c : ℕ) → kept_at view t ≡ Newest c → (t ≡ s) ⊎ (t ≡ s → ⊥) → (0 < key_at view c) × ((record_of c (key_at view c)).place ≡ t)
    only t c is (inl e) =
        let room = whole.room.kept in
        let same : Newest c ≡ Newest b = sym is ∙ ap (kept_at view) e ∙ kept_here a s b (record_at b (key_at a b)) r (omega arith) in
        let block : c ≡ b = cc in
        let big = key_least r ok in
        let k : key_at view c ≡ key_of r = ap (key_at view) block ∙ here in
        (omega arith, ap (λ n. (record_of n (key_at view n)).place) block ∙ place_here ∙ sym e)
    only t c is (inr ne) = at (cases_eq c b)
      where
        was : kept_at a t ≡ Newest c
        was = sym (kept_off_old t (Newest c) is (λ e. cc) ne) ∙ is

        before : (0 < key_at a c) × ((record_of c (key_at a c)).place ≡ t)
        before = whole.only t c was

        at : (c ≡ b) ⊎ (c ≡ b → ⊥) → (0 < key_at view c) × ((record_of c (key_at view c)).place ≡ t)
        at (inr off) = let k = other c off in let some = before.0 in (omega arith, ap (λ n. (record_of c n).place) k ∙ before.1)
        at (inl block) =
            let key : key_at a c ≡ key_at a b = ap (key_at a) block in
            let some = before.0 in
            let big = whole.keys b (omega arith) in
            let found : record_at b (key_at a b) ≡ Some (record_of b (key_at a b)) = reported_at b (key_at a b) big in
            let place : (record_of b (key_at a b)).place ≡ t = ap (λ n. (record_of n (key_at a n)).place) (sym block) ∙ before.1 in
            let small = place_small b (key_at a b) (record_of b (key_at a b)) found in
            let room = whole.room.kept in
            let gone : kept_at view t ≡ Nothing =
            ap (kept_at view) (sym place) ∙ ap (λ o. kept_at (commit_view a s b o r) (record_of b (key_at a b)).place) found
            ∙ kept_old a s b (record_of b (key_at a b)) r (old.apart (record_of b (key_at a b)) found) (omega arith)
            in
            let bad : Newest c ≡ Nothing = sym is ∙ gone in absurd (cc)

    there : (t : ℕ) → kept_at view t ≢ Nothing → kept_at view t ≢ Unmade → (t ≡ s) ⊎ (t ≡ s → ⊥) → class_at a.parts.groups t ≢ None
    there t kept made (inl e) =
        subst (λ n. class_at a.parts.groups n ≢ None) (sym e) (whole.there s (waiting_kept (kept_at a s) waits) (waiting_made (kept_at a s) waits))
    there t kept made (inr ne) = whole.there t (before Nothing (λ e. cc) kept) (before Unmade (λ e. cc) made)
      where
        before : (k : Kept) → (Newest b ≡ k → ⊥) → kept_at view t ≢ k → kept_at a t ≡ k → ⊥
        before k other kept is = kept (kept_else a s b (record_at b (key_at a b)) r t ne off ∙ is)
          where
            off : (q : Record) → record_at b (key_at a b) ≡ Some q → t ≡ q.place → ⊥
            off q place e = other (sym (old.kept q place) ∙ ap (kept_at a) (sym e) ∙ is)

-- the table with the key of a record at its block is the join with that record
pub key_set : (keys : List ℕ) (r : Record) → r.block < length keys → get_or keys r.block 0 < key_of r
    → IsSame (λ b. get_or (set keys r.block (key_of r)) b 0) (join (λ b. get_or keys b 0) (only r))
key_set keys r inside above block = go (cases_eq block r.block)
  where
    go : (block ≡ r.block) ⊎ (block ≡ r.block → ⊥) → get_or (set keys r.block (key_of r)) block 0 ≡ max (get_or keys block 0) (only r block)
    go (inl e) =
        let here = only_here r block e in
        let now : get_or (set keys r.block (key_of r)) block 0 ≡ key_of r = ap (λ b. get_or (set keys r.block (key_of r)) b 0) e ∙ get_or-set_same keys r.block (key_of r) 0 inside in
        let was : get_or keys block 0 ≡ get_or keys r.block 0 = ap (λ b. get_or keys b 0) e in
        omega arith
    go (inr ne) =
        let here = only_else r block ne in
        let now : get_or (set keys r.block (key_of r)) block 0 ≡ get_or keys block 0 = get_or-set_other keys r.block block (key_of r) 0 ne in
        omega arith

-- an array's tables and its map are a flat state's, whatever its drives show
pub record HasTables (a : ArrayView) (F : Flat) : Type 0 where
  pub history : IsHistory F (key_at a)
  pub tables : InTables a F

pub tables_of : (a : ArrayView) (F : Flat) → ShowsArray a F → HasTables a F
tables_of a F shows = record { history = shows.history; tables = shows.tables }

-- the map of a log that grows by a commit's record is the table's
pub commit_map : (a : ArrayView) (F : Flat) (b : ℕ) (found : Option Record) (r : Record) (s : ℕ) → HasTables a F → IsWhole a → r.block ≡ b → b < a.parts.groups.blocks → key_at a b < key_of r
    → IsMapOf (F.emitted ++ r ∷ []) (key_at (commit_view a s b found r))
commit_map a F b found r s shows whole is inside above =
    took F.emitted r (key_at a) (key_at (commit_view a s b found r))
    (subst (λ n. IsSame (λ c. get_or (set a.keys n (key_of r)) c 0) (join (key_at a) (only r))) is (key_set a.keys r here rises)) shows.history.map
  where
    here : r.block < length a.keys
    here = let e = whole.room.keys in omega arith

    rises : get_or a.keys r.block 0 < key_of r
    rises = subst (λ n. get_or a.keys n 0 < key_of r) (sym is) above

-- the tables after a commit are the state's after it, with the drives of the parts then
pub commit_tables : (a : ArrayView) (p : PartsView) (F : Flat) (w s b : ℕ) (writes : List Write) (x : Content) (r : Record) → s < 65536 → is_waiting (kept_at a s) ≡ true
    → SameTables a.parts p → DrivesFare a.parts p → IsWhole a → HasTables a F → Passes IsArrays F w s b (record_at b (key_at a b))
    → InTables (commit_view (with_parts a p) s b (record_at b (key_at a b)) r) (fared (committed F w s b (record_at b (key_at a b)) writes x r) p)
commit_tables a p F w s b writes x r inside waits same fares whole shows passes = record {
  groups = shows.tables.groups ∙ sym same.groups;
  drives = shows.tables.drives ∙ sym many;
  lost = refl;
  failures = refl;
  log = ap (λ l. l ++ r ∷ []) shows.tables.log;
  slots = one_slot P s here rest;
}
  where
    many : length p.drives ≡ length a.parts.drives
    many = fares.many

    kept_room : s < length a.kept
    kept_room = let e = whole.room.kept in omega arith

    P : ℕ → Type 0
    P t = ArraySlot t (kept_at (commit_view a s b (record_at b (key_at a b)) r) t) (passed_on F w s b (record_at b (key_at a b)) t) (put F.tickets s None t)

    here : P s
    here = slot_same s (Newest b) (kept_at (commit_view a s b (record_at b (key_at a b)) r) s)
        (passed_on F w s b (record_at b (key_at a b)) s) (passed_on F w s b (record_at b (key_at a b)) s) None (put F.tickets s None s)
        (kept_here a s b (record_at b (key_at a b)) r kept_room) refl (put_here F.tickets s None)
        (block_slot s (passed_on F w s b (record_at b (key_at a b)) s) b None passes.here refl)

    other : (t : ℕ) → (t ≡ s → ⊥) → ((q : Record) → record_at b (key_at a b) ≡ Some q → t ≡ q.place → ⊥) → P t
    other t ne off = slot_same t (kept_at a t) (kept_at (commit_view a s b (record_at b (key_at a b)) r) t)
        (F.held t) (passed_on F w s b (record_at b (key_at a b)) t) (F.tickets t) (put F.tickets s None t)
        (kept_else a s b (record_at b (key_at a b)) r t ne off) (passes.rest t ne off) (put_else F.tickets s None t ne) (shows.tables.slots t)

    at_old : (q : Record) → record_at b (key_at a b) ≡ Some q → P q.place
    at_old q is =
        let room = whole.room.kept in
        let small = place_small b (key_at a b) q is in
        slot_same q.place Nothing (kept_at (commit_view a s b (record_at b (key_at a b)) r) q.place)
        (passed_on F w s b (record_at b (key_at a b)) q.place) (passed_on F w s b (record_at b (key_at a b)) q.place) None (put F.tickets s None q.place)
        (ap (λ o. kept_at (commit_view a s b o r) q.place) is ∙ kept_old a s b q r (passes.apart q is) (omega arith)) refl
        (put_else F.tickets s None q.place (passes.apart q is)
        ∙ block_waits F.groups (key_at a) q.place (F.held q.place) (F.tickets q.place) b (shows.history.holders q.place) (passes.held q is))
        (worker_slot q.place (passed_on F w s b (record_at b (key_at a b)) q.place) w None (passes.old q is) refl)

    by_found : (t : ℕ) → (o : Option Record) → record_at b (key_at a b) ≡ o → (t ≡ s → ⊥) → P t
    by_found t None none ne = other t ne (λ q is. let bad : None ≡ Some q = sym none ∙ is in cc)
    by_found t (Some q) is ne = at (cases_eq t q.place)
      where
        at : (t ≡ q.place) ⊎ (t ≡ q.place → ⊥) → P t
        at (inl e) = subst P (sym e) (at_old q is)
        at (inr away) = other t ne (λ y y_is e. away (e ∙ ap (λ (z : Record). z.place) (some_is y q (sym y_is ∙ is))))

    rest : (t : ℕ) → (t ≡ s → ⊥) → P t
    rest t ne = by_found t (record_at b (key_at a b)) refl ne

-- and the units, the slot's stamped
pub commit_units : (p : PartsView) (F : Flat) (w s b : ℕ) (found : Option Record) (writes : List Write) (x : Content) (r : Record) (u : Stored) → F.units s ≡ Some u
    → Shows p (put F.units s (Some (record u { header = header_for r x }))) → Shows p (committed F w s b found writes x r).units
commit_units p F w s b found writes x r u is shows = subst (λ o. Shows p (put F.units s o)) (sym (ap (λ o. stamped o (header_for r x)) is)) shows

-- a slot other than the old place is kept as before
pub passed_apart : (kept : List Kept) (s : ℕ) (found : Option Record) → ((q : Record) → found ≡ Some q → q.place ≡ s → ⊥)
    → get_or (without_old kept found) s Nothing ≡ get_or kept s Nothing
passed_apart kept s None apart = refl
passed_apart kept s (Some old) apart = get_or-set_other kept old.place s Nothing Nothing (λ e. apart old refl (sym e))

-- where a block's newest record, however it was found, says that its old place lies
pub old_found : (a : ArrayView) (s b : ℕ) (o : Option Record) → o ≡ record_at b (key_at a b) → IsWhole a → is_waiting (kept_at a s) ≡ true → IsOld a s b o
old_found a s b o e whole waits = subst (IsOld a s b) (sym e) (old_place a s b whole waits)
