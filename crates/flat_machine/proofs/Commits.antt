-- A commit keeps what is true of every state.
use Rattle.std.proofs.Common.{◌≡◌, ℕ, ◌+◌, ◌<◌, max, Bool, true, is_some, List, [], ◌∷◌, ◌++◌, length, Contains, refl, sym, ap, ◌∙◌, subst, arith, ◌⊎◌, inl, inr, Option, Some, None}
use Rattle.std.proofs.lemmas.List.{length-append}
use Rattle.std.proofs.lemmas.List.Elements.{Contains-push_cases}
use Rattle.std.proofs.lemmas.Bool.{cases_eq}
use Rattle.std.proofs.lemmas.Option.{same_Some}
use Rattle.map_join.specs.declared.records.Record.{Record}
use Rattle.extents.specs.Header.{record_in}
use Rattle.map_join.specs.Record.{key_of, record_of, stamp, stamp_of, stamp_in, IsRecord}
use Rattle.map_join.specs.Maps.{IsMapOf, join, only}
use Rattle.map_join.proofs.Joins.{took, only_here, only_else}
use Rattle.extent_groups.specs.declared.class.Class.{Class}
use Rattle.flat_machine.specs.Flat.{Flat, IsArrays, for_ticket, for_block, Write, Content, Payload, Trim, bytes_of, Holder, Ticket, Block, Waiting, Fresh, Moved, content_of, header_for, Stored, content_in, waiting_unit, class_of, put, last_write, IsNewest}
use Rattle.flat_machine.specs.Cases.{committed, stamped, longest_log}
use Rattle.flat_machine.specs.History.{AreLimits, ComesNext, IsWrite, IsWriteChain, IsWriteOf, IsHeaderOf, HoldersStand, UnitMatches, WaitingMatches, IsCopy, IsAt, BlockMatches, IsHistory}
use Rattle.flat_machine.proofs.Pairs.{put_here, put_else, just_held}
use Rattle.flat_machine.proofs.Newest.{newest_zero, newest_record, newest_unique, same_map, reported_again, key_least}
use Rattle.flat_machine.proofs.Writes.{chained, write_most}
use Rattle.flat_machine.proofs.Passing.{Passes, passed}
use Rattle.flat_machine.proofs.Slots.{nobody_matches, worker_nobody, block_matches, block_waits, holders_same, units_same, block_same, apart}

-- the record that a commit emits
abbrev pub emitted_by : ℕ → ℕ → ℕ → ℕ → Record
emitted_by b s v h = record { block = b; version = v; hop = h; place = s }

-- a content is what is read of its unit once that has the record
pub stamped_content : (size : ℕ) (r : Record) (x : Content) → content_in (record { header = header_for r x; payload = bytes_of size x }) ≡ x
stamped_content size r (Payload x) = refl
stamped_content size r Trim = refl

pub stamped_record : (r : Record) (x : Content) → record_in (header_for r x) ≡ Some r
stamped_record r x = refl

-- all that a commit under a version and a hop needs, with the acknowledged writes then
pub record IsReady (F : Flat) (keys : ℕ → ℕ) (w s b : ℕ) (found : Option Record) (c : Waiting) (v h : ℕ) (writes : List Write) : Type 0 where
  pub history : IsHistory F keys
  pub newest : IsNewest F.emitted b found
  pub ticket : F.tickets s ≡ Some c
  pub mine : F.held s (Ticket w) ≡ true
  pub block : b < F.groups.blocks
  pub ok : IsRecord (emitted_by b s v h)
  pub above : stamp_in (keys b) < stamp v h
  pub next : (n : Record) → found ≡ Some n → ComesNext n (emitted_by b s v h)
  pub room : length F.emitted < longest_log
  pub last : (x : Write) × (last_write writes b ≡ Some x) × (x.version ≡ v) × (x.content ≡ content_of c)
  pub others : (d : ℕ) → (d ≡ b → ⊥) → last_write writes d ≡ last_write F.writes d
  pub all : (x : Write) → Contains writes x → IsWrite F.groups.payload x
  pub versions : IsWriteChain [] writes
  pub stays : (x : Write) → Contains F.writes x → Contains writes x
  -- a write that is new is of no record emitted before
  pub grown : (x : Write) → Contains writes x → (Contains F.writes x) ⊎ ((q : Record) → Contains F.emitted q → IsWriteOf q x → ⊥)

module _ (F : Flat) (keys : ℕ → ℕ) (w s b : ℕ) (found : Option Record) (c : Waiting) (v h : ℕ) (writes : List Write)
    (M : ℕ → ℕ) (ready : IsReady F keys w s b found c v h writes) (grows : IsMapOf (F.emitted ++ emitted_by b s v h ∷ []) M) where
  abbrev G : Flat
  G = committed F w s b found writes (content_of c) (emitted_by b s v h)

  map_is : M ≡ join keys (only (emitted_by b s v h))
  map_is = same_map (F.emitted ++ emitted_by b s v h ∷ []) M (join keys (only (emitted_by b s v h))) grows
      (took F.emitted (emitted_by b s v h) keys (join keys (only (emitted_by b s v h))) (λ n. refl) ready.history.map)

  slot_small : s < 65536
  slot_small = (ready.history.holders s).inside (Ticket w) (for_ticket w) ready.mine

  above : keys b < key_of (emitted_by b s v h)
  above = let e = ready.above in omega arith

  key_here : M b ≡ key_of (emitted_by b s v h)
  key_here =
      let e : M b ≡ max (keys b) (only (emitted_by b s v h) b) = ap (λ (f : ℕ → ℕ). f b) map_is in
      let o = only_here (emitted_by b s v h) b refl in
      let up = above in
      omega arith

  key_else : (d : ℕ) → (d ≡ b → ⊥) → M d ≡ keys d
  key_else d ne =
      let e : M d ≡ max (keys d) (only (emitted_by b s v h) d) = ap (λ (f : ℕ → ℕ). f d) map_is in
      let o = only_else (emitted_by b s v h) d ne in
      omega arith

  again : record_of b (M b) ≡ emitted_by b s v h
  again = ap (record_of b) key_here ∙ reported_again (emitted_by b s v h) ready.ok

  passes : Passes IsArrays F w s b found
  passes = passed IsArrays F keys w s b found (λ t. (ready.history.holders t).once) (for_ticket w) (for_block b) ready.history ready.newest ready.mine

  -- the place of a block with a key is its newest record's
  placed : (d t : ℕ) → d ≡ b → 0 < keys d → (record_of d (keys d)).place ≡ t → ((q : Record) → found ≡ Some q → t ≡ q.place → ⊥) → ⊥
  placed d t same some place off = by found refl
    where
      by : (o : Option Record) → found ≡ o → ⊥
      by None is =
          let zero = newest_zero F.emitted keys b ready.history.map (subst (IsNewest F.emitted b) is ready.newest) in
          let e : keys d ≡ keys b = ap keys same in
          omega arith
      by (Some q) is = off q is (sym place ∙ ap (λ n. (record_of n (keys n)).place) same ∙ ap (λ (n : Record). n.place) (newest_record F.emitted keys b q ready.history.records ready.history.map (subst (IsNewest F.emitted b) is ready.newest)))

  holders : (t : ℕ) → HoldersStand F.groups M t (G.held t) (put F.tickets s None t)
  holders t = go (cases_eq t s)
    where
      P : ℕ → Type 0
      P n = HoldersStand F.groups M n (G.held n) (put F.tickets s None n)

      some : 0 < M b
      some = let k = key_here in let big = key_least (emitted_by b s v h) ready.ok in omega arith

      here : P s
      here = holders_same F.groups M s (G.held s) (G.held s) None (put F.tickets s None s) refl (put_here F.tickets s None)
          (block_matches F.groups M s (G.held s) b slot_small passes.here some (ap (λ (n : Record). n.place) again))

      -- a slot that stays as it was
      kept : (t ≡ s → ⊥) → ((q : Record) → found ≡ Some q → t ≡ q.place → ⊥) → P t
      kept ne off = holders_same F.groups M t (F.held t) (G.held t) (F.tickets t) (put F.tickets s None t) (passes.rest t ne off) (put_else F.tickets s None t ne) (record {
        once = is.once;
        inside = is.inside;
        waits = is.waits;
        waiting = is.waiting;
        block = λ d has. blocked d (is.block d has) (cases_eq d b);
        shut = is.shut;
      })
        where
          is : HoldersStand F.groups keys t (F.held t) (F.tickets t)
          is = ready.history.holders t

          blocked : (d : ℕ) → (0 < keys d) × ((record_of d (keys d)).place ≡ t) → (d ≡ b) ⊎ (d ≡ b → ⊥) → (0 < M d) × ((record_of d (M d)).place ≡ t)
          blocked d y (inl same) = absurd (placed d t same y.0 y.1 off)
          blocked d y (inr other) = let Q : ℕ → Type 0 = λ n. (0 < n) × ((record_of d n).place ≡ t) in subst Q (sym (key_else d other)) y

      old : (q : Record) → found ≡ Some q → P q.place
      old q is = holders_same F.groups M q.place (G.held q.place) (G.held q.place) None (put F.tickets s None q.place) refl
          (put_else F.tickets s None q.place (passes.apart q is)
          ∙ block_waits F.groups keys q.place (F.held q.place) (F.tickets q.place) b (ready.history.holders q.place) (passes.held q is))
          (nobody_matches F.groups M q.place (G.held q.place) (worker_nobody (G.held q.place) w (passes.old q is)))

      by_found : (o : Option Record) → found ≡ o → (t ≡ s → ⊥) → P t
      by_found None none ne = kept ne (λ q is. let bad : None ≡ Some q = sym none ∙ is in cc)
      by_found (Some q) is ne = at (cases_eq t q.place)
        where
          at : (t ≡ q.place) ⊎ (t ≡ q.place → ⊥) → P t
          at (inl e) = subst P (sym e) (old q is)
          at (inr away) = kept ne (λ p p_is e. away (e ∙ ap (λ (x : Record). x.place) (same_Some p q (sym p_is ∙ is))))

      go : (t ≡ s) ⊎ (t ≡ s → ⊥) → P t
      go (inl e) = subst P (sym e) here
      go (inr ne) = by_found found refl ne

  -- the newest version and hop of a block only rise
  reports : (t : ℕ) (q : Record) → IsHeaderOf keys t q → IsHeaderOf M t q
  reports t q is = record { ranges = is.ranges; place = is.place; newest = at (cases_eq q.block b) is.newest }
    where
      at : (q.block ≡ b) ⊎ (q.block ≡ b → ⊥) → (key_of q ≡ keys q.block) ⊎ (stamp_of q < stamp_in (keys q.block)) → (key_of q ≡ M q.block) ⊎ (stamp_of q < stamp_in (M q.block))
      at (inr ne) (inl e) = inl (e ∙ sym (key_else q.block ne))
      at (inr ne) (inr below) = let now = key_else q.block ne in inr (omega arith)
      at (inl same) or = inr (under or)
        where
          now : M q.block ≡ key_of (emitted_by b s v h)
          now = ap M same ∙ key_here

          was_key : keys q.block ≡ keys b
          was_key = ap keys same

          under : (key_of q ≡ keys q.block) ⊎ (stamp_of q < stamp_in (keys q.block)) → stamp_of q < stamp_in (M q.block)
          under (inl e) = let p = is.ranges.place in let n = now in let k = was_key in let up = ready.above in let i = slot_small in omega arith
          under (inr below) = let n = now in let k = was_key in let up = ready.above in let i = slot_small in omega arith

  -- what the other tickets rest on: the newest stamp of the block has risen above theirs
  rests : (class : Option Class) (d : Waiting) → WaitingMatches class F.writes keys d → WaitingMatches class writes M d
  rests class (Fresh x) was = was
  rests class (Moved d i g x) was = copy (cases_eq d b)
    where
      copy : (d ≡ b) ⊎ (d ≡ b → ⊥) → IsCopy writes d i g x (M d)
      copy (inl e) =
          let now : M d ≡ key_of (emitted_by b s v h) = ap M e ∙ key_here in
          let old_key : keys d ≡ keys b = ap keys e in
          let most = was.most in
          let rises = ready.above in
          let slot = slot_small in
          let big = key_least (emitted_by b s v h) ready.ok in record {
            written = omega arith;
            hop = was.hop;
            most = omega arith;
            write = ready.stays (record { block = d; version = i; content = x }) was.write;
          }
      copy (inr ne) =
          let now = key_else d ne in
          let most = was.most in
          let some = was.written in record {
            written = omega arith;
            hop = was.hop;
            most = omega arith;
            write = ready.stays (record { block = d; version = i; content = x }) was.write;
          }

  -- the unit of the slot, stamped
  abbrev stored_now : Stored
  stored_now = record { header = header_for (emitted_by b s v h) (content_of c); payload = bytes_of F.groups.payload (content_of c) }

  was_unit : F.units s ≡ Some (waiting_unit F.groups.payload (content_of c))
  was_unit = (ready.history.units s).blank c ready.ticket

  unit_now : G.units s ≡ Some stored_now
  unit_now = put_here F.units s _ ∙ ap (λ o. stamped o (header_for (emitted_by b s v h) (content_of c))) was_unit

  unit_else : (t : ℕ) → (t ≡ s → ⊥) → G.units t ≡ F.units t
  unit_else t ne = put_else F.units s _ t ne

  unit_here : UnitMatches F.groups.payload (F.emitted ++ emitted_by b s v h ∷ []) writes M s (class_of F s) None (Some stored_now)
  unit_here = record {
    there = ap is_some (sym was_unit) ∙ (ready.history.units s).there;
    sized = λ u e. subst (λ (y : Stored). length y.payload ≡ F.groups.payload) (same_Some stored_now u e) ((ready.history.units s).sized _ was_unit);
    header = λ u q e reported. subst (IsHeaderOf M s) (header_is u q e reported) (record {
      ranges = ready.ok;
      place = refl;
      newest = inl (sym key_here);
    });
    content = λ u q z e reported has wrote of. ap content_in (sym (same_Some stored_now u e)) ∙ stamped_content F.groups.payload (emitted_by b s v h) (content_of c)
        ∙ sym ready.last.3 ∙ ap (λ (x : Write). x.content) (last_is q z wrote (ap (λ (p : Record). p.block) (header_is u q e reported)) (ap (λ (p : Record). p.version) (header_is u q e reported)) of);
    blank = λ d e. absurd (cc);
    rests = λ d e. absurd (cc);
  }
    where
      header_is : (u : Stored) (q : Record) → Some stored_now ≡ Some u → record_in u.header ≡ Some q → emitted_by b s v h ≡ q
      header_is u q e reported = same_Some _ q (sym (stamped_record (emitted_by b s v h) (content_of c)) ∙ ap (λ (y : Stored). record_in y.header) (same_Some stored_now u e) ∙ reported)

      -- the write of the record emitted now is the block's last
      last_is : (q : Record) (z : Write) → Contains writes z → b ≡ q.block → v ≡ q.version → IsWriteOf q z → ready.last.0 ≡ z
      last_is q z wrote block_is version_is of =
          let most = write_most writes z ready.versions wrote in
          let block : z.block ≡ b = of.0 ∙ sym block_is in
          let newest : most.newest ≡ ready.last.0 = same_Some _ _ (sym most.last ∙ ap (last_write writes) block ∙ ready.last.1) in
          let version : z.version ≡ most.newest.version = of.1 ∙ sym version_is ∙ sym ready.last.2 ∙ ap (λ (x : Write). x.version) (sym newest) in
          sym newest ∙ sym (most.same version)

  unit_kept : (t : ℕ) → (t ≡ s → ⊥) → UnitMatches F.groups.payload F.emitted F.writes keys t (class_of F t) (F.tickets t) (F.units t)
      → UnitMatches F.groups.payload (F.emitted ++ emitted_by b s v h ∷ []) writes M t (class_of F t) (F.tickets t) (F.units t)
  unit_kept t ne is = record {
    there = is.there;
    sized = is.sized;
    header = λ u q e reported. reports t q (is.header u q e reported);
    content = λ u q z e reported has wrote of. same u q z e reported wrote of (Contains-push_cases F.emitted (emitted_by b s v h) q has);
    blank = is.blank;
    rests = λ d e. rests (class_of F t) d (is.rests d e);
  }
    where
      -- the write of a record's block and version that now is there was there, but for the record emitted now
      same : (u : Stored) (q : Record) (z : Write) → F.units t ≡ Some u → record_in u.header ≡ Some q → Contains writes z → IsWriteOf q z
          → (Contains F.emitted q) ⊎ (emitted_by b s v h ≡ q) → content_in u ≡ z.content
      same u q z e reported wrote of (inl old) = by (ready.grown z wrote)
        where
          by : (Contains F.writes z) ⊎ ((p : Record) → Contains F.emitted p → IsWriteOf p z → ⊥) → content_in u ≡ z.content
          by (inl before) = is.content u q z e reported old before of
          by (inr none) = absurd (none q old of)
      same u q z e reported wrote of (inr now) = absurd (ne (sym (is.header u q e reported).place ∙ ap (λ (p : Record). p.place) (sym now)))

  units : (t : ℕ) → (t ≡ s) ⊎ (t ≡ s → ⊥) → UnitMatches F.groups.payload (F.emitted ++ emitted_by b s v h ∷ []) writes M t (class_of F t) (put F.tickets s None t) (G.units t)
  units t (inl e) = subst (λ n. UnitMatches F.groups.payload (F.emitted ++ emitted_by b s v h ∷ []) writes M n (class_of F n) (put F.tickets s None n) (G.units n)) (sym e)
      (units_same F.groups.payload (F.emitted ++ emitted_by b s v h ∷ []) writes M s (class_of F s) None (put F.tickets s None s) (Some stored_now) (G.units s)
      (put_here F.tickets s None) unit_now unit_here)
  units t (inr ne) =
      units_same F.groups.payload (F.emitted ++ emitted_by b s v h ∷ []) writes M t (class_of F t) (F.tickets t) (put F.tickets s None t) (F.units t) (G.units t)
      (put_else F.tickets s None t ne) (unit_else t ne) (unit_kept t ne (ready.history.units t))

  written : (d : ℕ) → (d ≡ b) ⊎ (d ≡ b → ⊥) → BlockMatches G d (M d)
  written d (inl e) = subst (λ n. BlockMatches G n (M n)) (sym e) (
    (λ zero. let big = key_least (emitted_by b s v h) ready.ok in let k = key_here in absurd (omega arith)),
    (λ some. (
      ready.last.0,
      ready.last.1,
      record {
        version = ready.last.2 ∙ ap (λ (q : Record). q.version) (sym again);
        unit = subst (λ (q : Record). IsAt G.units q ready.last.0.content) (sym again) (record {
          stored = stored_now;
          there = unit_now;
          header = stamped_record (emitted_by b s v h) (content_of c);
          content = stamped_content F.groups.payload (emitted_by b s v h) (content_of c) ∙ sym ready.last.3;
        });
        place = subst (λ (q : Record). G.held q.place (Block b) ≡ true) (sym again) (just_held IsArrays (G.held s) (Block b) passes.here (for_block b));
      },
    )),
  )
  written d (inr ne) = subst (BlockMatches G d) (sym (key_else d ne)) (block_same F G d (keys d) (ready.others d ne) stays (ready.history.written d))
    where
      stays : F.held (record_of d (keys d)).place (Block d) ≡ true
          → (G.units (record_of d (keys d)).place ≡ F.units (record_of d (keys d)).place) × (G.held (record_of d (keys d)).place (Block d) ≡ true)
      stays has = (unit_else (record_of d (keys d)).place away, ap (λ (x : Holder → Bool). x (Block d)) (passes.rest (record_of d (keys d)).place away off) ∙ has)
        where
          away : (record_of d (keys d)).place ≡ s → ⊥
          away = apart F.held (record_of d (keys d)).place s d has (passes.unblocked d)

          off : (q : Record) → found ≡ Some q → (record_of d (keys d)).place ≡ q.place → ⊥
          off q is = apart F.held (record_of d (keys d)).place q.place d has
              (λ other. let e : Block d ≡ Block b = (ready.history.holders q.place).once (Block d) (Block b) (for_block d) (for_block b) other (passes.held q is) in ne (cc))

  limits : AreLimits F.groups F.drives (length (F.emitted ++ emitted_by b s v h ∷ []))
  limits =
      let room = ready.room in
      let long : length (F.emitted ++ emitted_by b s v h ∷ []) ≡ length F.emitted + 1 = length-append F.emitted (emitted_by b s v h ∷ []) in
      record {
        sizes = ready.history.limits.sizes;
        least = ready.history.limits.least;
        most = ready.history.limits.most;
        log = omega arith;
      }

  records : (q : Record) → Contains F.emitted q ⊎ (emitted_by b s v h ≡ q) → IsRecord q
  records q (inl there) = ready.history.records q there
  records q (inr is) = subst IsRecord is ready.ok

  blocks : (q : Record) → Contains F.emitted q ⊎ (emitted_by b s v h ≡ q) → q.block < F.groups.blocks
  blocks q (inl there) = ready.history.blocks q there
  blocks q (inr is) = subst (λ (p : Record). p.block < F.groups.blocks) is ready.block

  next : (n : Record) → IsNewest F.emitted b (Some n) → ComesNext n (emitted_by b s v h)
  next n newest = ready.next n (newest_unique F.emitted b ready.history.records found (Some n) ready.newest newest)

  pub commit_keeps : IsHistory (committed F w s b found writes (content_of c) (emitted_by b s v h)) M
  commit_keeps = record {
    limits = limits;
    groups = ready.history.groups;
    records = λ q has. records q (Contains-push_cases F.emitted (emitted_by b s v h) q has);
    blocks = λ q has. blocks q (Contains-push_cases F.emitted (emitted_by b s v h) q has);
    chain = chained [] F.emitted (emitted_by b s v h) ready.history.chain next;
    map = grows;
    writes = ready.all;
    versions = ready.versions;
    holders = holders;
    units = λ t. units t (cases_eq t s);
    written = λ d. written d (cases_eq d b);
  }
