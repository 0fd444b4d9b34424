-- Where all drives are steady a step of one slot has one answer, and leaves one state.
use Rattle.std.proofs.Common.{◌≡◌, ℕ, ◌+◌, ◌<◌, ◌≤◌, true, false, [], ◌∷◌, ◌++◌, length, refl, sym, ap, ◌∙◌, subst, arith, ◌⊎◌, inl, inr, Option, Some, None}
use Rattle.std.proofs.lemmas.Option.{same_Some, none-some}
use Rattle.map_join.specs.declared.records.Record.{Record}
use Rattle.map_join.specs.Record.{key_of}
use Rattle.extent_groups.specs.Groups.{Groups}
use Rattle.extent_groups.specs.declared.class.Class.{Class}
use Rattle.extent_groups.specs.declared.class.Class.TheVariants.{Mirrored, Parity}
use Rattle.flat_machine.specs.declared.refusal.Refusal.TheVariants.{NoGroup, WrongClass, InUse, NoTicket, Outrun, VersionSpent, HopsSpent, Unwritten, Gone, Ahead, LogFull}
use Rattle.flat_machine.specs.Flat.{Flat, Write, Holder, Worker, Ticket, Content, Waiting, Fresh, Moved, Stored, class_of, last_write, IsNewest, IsArrayHeld, IsUnheld, with_pair, without_pair}
use Rattle.flat_machine.specs.Steps.{FlatAnswer, Claimed, Taken, Released, NotHeld, Filled, Copied, Committed, Discarded, Found, FoundAt, Refused, Seen, Data, Stale}
use Rattle.flat_machine.specs.Cases.{ClaimCase, ReleaseCase, FillCase, CopyCase, DiscardCase, ReadCase, ReadAtCase, IsGoneIn, IsSeen, IsAhead, ticketed, discarded, found_of, last_hop, CommitCase, CommitWith, IsFor, HasCopiedStamp, next_version, committed, last_version, longest_log}
use Rattle.script_laws.specs.Once.{Settles}
use Rattle.script_laws.specs.Steady.{AreSteady, IsSteady}
use Rattle.script_laws.proofs.Trees.{Ends, Asks, Picks, ends, asks, picks, settles_by}
use Rattle.script_laws.proofs.Quiet.{Steps, changed, AreRecords, quiet, gone_was, gone_is, not_both, one_newest}

-- a slot's class is not none, and not both classes
no_class : (c : Class) (o : Option Class) → o ≡ Some c → o ≡ None → ⊥
no_class c o is none = none-some c (sym none ∙ is)

other_class : (o : Option Class) → o ≡ Some Mirrored → o ≡ Some Parity → ⊥
other_class o m p = let both : Some Parity ≡ Some Mirrored = sym p ∙ m in absurd (cc)

-- a record's place shows one thing
seen_once : (o : Option Stored) (r : Record) (x y : Seen) → IsSeen o r x → IsSeen o r y → x ≡ y
seen_once None r (Data x) y a b = absurd a
seen_once None r (Stale k) (Data y) a b = absurd b
seen_once None r (Stale k) (Stale m) a b = ap Stale (a ∙ sym b)
seen_once (Some u) r (Data x) (Data y) a b = ap Data (a.1 ∙ sym b.1)
seen_once (Some u) r (Data x) (Stale m) a b = absurd (b.0 a.0)
seen_once (Some u) r (Stale k) (Data y) a b = absurd (a.0 b.0)
seen_once (Some u) r (Stale k) (Stale m) a b = ap Stale (a.1 ∙ sym b.1)

-- an option holds one record
found_once : (found : Option Record) (m n : Record) → found ≡ Some m → found ≡ Some n → m ≡ n
found_once found m n a b = same_Some m n (sym a ∙ b)

module _ (z : Groups) (F : Flat) (calm : IsSteady z F) (all : AreRecords F) where
  steady : AreSteady F
  steady = calm.steady

  -- claim: taken unless nobody holds the slot
  abbrev claim_tree : ℕ → ℕ → Steps
  claim_tree w s = Asks (IsUnheld F s) (Ends (Claimed s) (record F { held = with_pair F.held s (Worker w) })) (Ends (Taken s) F)

  pub claim_settles : (w s : ℕ) → Settles (IsSteady z) (ClaimCase F w s)
  claim_settles w s = settles_by (ClaimCase F w s) (claim_tree w s) to (asks (ends (changed calm refl refl refl)) (ends calm))
    where
      to : (a : FlatAnswer) (G : Flat) → ClaimCase F w s a G → claim_tree w s a G
      to (Claimed t) G c = inl (c.1, (ap Claimed c.0, quiet _ G steady c.2))
      to (Taken t) G c = inr ((λ free. not_both (F.held s c.1.0) (free c.1.0) c.1.1), (ap Taken c.0, quiet F G steady c.2))
      to _ G c = absurd c

  -- this holder holds the slot
  abbrev Holds : ℕ → Holder → Type 0
  Holds s k = F.held s k ≡ true

  -- release: only by the worker who holds the slot
  abbrev release_tree : ℕ → ℕ → Steps
  release_tree w s = Asks (Holds s (Worker w)) (Ends (Released s) (record F { held = without_pair F.held s (Worker w) })) (Ends (NotHeld s) F)

  pub release_settles : (w s : ℕ) → Settles (IsSteady z) (ReleaseCase F w s)
  release_settles w s = settles_by (ReleaseCase F w s) (release_tree w s) to (asks (ends (changed calm refl refl refl)) (ends calm))
    where
      to : (a : FlatAnswer) (G : Flat) → ReleaseCase F w s a G → release_tree w s a G
      to (Released t) G c = inl (c.1, (ap Released c.0, quiet _ G steady c.2))
      to (NotHeld t) G c = inr (not_both (F.held s (Worker w)) c.1, (ap NotHeld c.0, quiet F G steady c.2))
      to _ G c = absurd c

  -- discard: only of the worker's ticket
  abbrev discard_tree : ℕ → ℕ → Steps
  discard_tree w s = Asks (Holds s (Ticket w)) (Ends (Discarded s) (discarded F w s)) (Ends (Refused NoTicket) F)

  pub discard_settles : (w s : ℕ) → Settles (IsSteady z) (DiscardCase F w s)
  discard_settles w s = settles_by (DiscardCase F w s) (discard_tree w s) to (asks (ends (changed calm refl refl refl)) (ends calm))
    where
      to : (a : FlatAnswer) (G : Flat) → DiscardCase F w s a G → discard_tree w s a G
      to (Discarded t) G c = inl (c.1, (ap Discarded c.0, quiet _ G steady c.2))
      to (Refused NoTicket) G c = inr (not_both (F.held s (Ticket w)) c.0, (refl, quiet F G steady c.1))
      to _ G c = absurd c

  -- fill: the holder, the group, its class, the slot's use, its unit
  abbrev fill_tree : ℕ → ℕ → Content → Steps
  fill_tree w s x =
      Asks (Holds s (Worker w))
      (Asks (class_of F s ≡ None) (Ends (Refused NoGroup) F)
      (Asks (class_of F s ≡ Some Parity) (Ends (Refused WrongClass) F)
      (Asks (IsArrayHeld F s) (Ends (Refused InUse) F)
      (Asks (IsGoneIn F s) (Ends (Refused (Gone s)) F) (Ends (Filled s) (ticketed F w s (Fresh x)))))))
      (Ends (NotHeld s) F)

  pub fill_settles : (w s : ℕ) (x : Content) → Settles (IsSteady z) (FillCase F w s x)
  fill_settles w s x = settles_by (FillCase F w s x) (fill_tree w s x) to
      (asks (asks (ends calm) (asks (ends calm) (asks (ends calm) (asks (ends calm) (ends (changed calm refl refl refl)))))) (ends calm))
    where
      none : class_of F s ≡ Some Mirrored → class_of F s ≡ None → ⊥
      none is = no_class Mirrored (class_of F s) is

      other : class_of F s ≡ Some Mirrored → class_of F s ≡ Some Parity → ⊥
      other is = other_class (class_of F s) is

      to : (a : FlatAnswer) (G : Flat) → FillCase F w s x a G → fill_tree w s x a G
      to (NotHeld t) G c = inr (not_both (F.held s (Worker w)) c.1, (ap NotHeld c.0, quiet F G steady c.2))
      to (Refused NoGroup) G c = inl (c.0, inl (c.1, (refl, quiet F G steady c.2)))
      to (Refused WrongClass) G c = inl (c.0, inr (no_class Parity (class_of F s) c.1, inl (c.1, (refl, quiet F G steady c.2))))
      to (Refused InUse) G c = inl (c.0, inr (none c.1, inr (other c.1, inl (c.2, (refl, quiet F G steady c.3)))))
      to (Refused (Gone t)) G c =
          inl (c.1.0, inr (none c.1.1, inr (other c.1.1, inr (c.1.2, inl (gone_was F G s steady c.3 c.2, (ap (λ n. Refused (Gone n)) c.0, quiet F G steady c.3))))))
      to (Filled t) G c =
          inl (c.1.0, inr (none c.1.1, inr (other c.1.1, inr (c.1.2, inr ((λ gone. c.2 (gone_is (ticketed F w s (Fresh x)) G s steady c.3 gone)), (ap Filled c.0, quiet _ G steady c.3))))))
      to _ G c = absurd c

  -- copy: the holder, the group, the slot's use, the newest record, its hop, the source's unit, the target's
  abbrev source_tree : ℕ → ℕ → ℕ → Record → Steps
  source_tree w s b r =
      Asks (IsGoneIn F r.place) (Ends (Refused (Gone r.place)) F)
      (Asks (IsGoneIn F s) (Ends (Refused (Gone s)) F)
      (Picks (λ (x : Write). last_write F.writes b ≡ Some x) (λ x. Ends (Copied s) (ticketed F w s (Moved b r.version r.hop x.content)))))

  abbrev copied_tree : ℕ → ℕ → ℕ → Option Record → Steps
  copied_tree w s b None = Ends (Refused Unwritten) F
  copied_tree w s b (Some r) = Asks (last_hop ≤ r.hop) (Ends (Refused HopsSpent) F) (source_tree w s b r)

  abbrev copy_tree : ℕ → ℕ → ℕ → Steps
  copy_tree w s b =
      Asks (Holds s (Worker w))
      (Asks (class_of F s ≡ None) (Ends (Refused NoGroup) F)
      (Asks (IsArrayHeld F s) (Ends (Refused InUse) F)
      (Picks (IsNewest F.emitted b) (copied_tree w s b))))
      (Ends (NotHeld s) F)

  pub copy_settles : (w s b : ℕ) → Settles (IsSteady z) (CopyCase F w s b)
  copy_settles w s b = settles_by (CopyCase F w s b) (copy_tree w s b) to
      (asks (asks (ends calm) (asks (ends calm) (picks (one_newest F b all) (λ found is. source found)))) (ends calm))
    where
      source : (found : Option Record) → Settles (IsSteady z) (copied_tree w s b found)
      source None = ends calm
      source (Some r) = asks (ends calm) (asks (ends calm) (asks (ends calm) (picks (λ x y. one_write x y) (λ x is. ends (changed calm refl refl refl)))))
        where
          one_write : (x y : Write) → last_write F.writes b ≡ Some x → last_write F.writes b ≡ Some y → x ≡ y
          one_write x y a c = same_Some x y (sym a ∙ c)

      to : (a : FlatAnswer) (G : Flat) → CopyCase F w s b a G → copy_tree w s b a G
      to (NotHeld t) G c = inr (not_both (F.held s (Worker w)) c.1, (ap NotHeld c.0, quiet F G steady c.2))
      to (Refused NoGroup) G c = inl (c.0, inl (c.1, (refl, quiet F G steady c.2)))
      to (Refused InUse) G c = inl (c.0, inr (c.1, inl (c.2, (refl, quiet F G steady c.3))))
      to (Refused Unwritten) G c = inl (c.0, inr (c.1, inr (c.2, (None, c.3, (refl, quiet F G steady c.4)))))
      to (Refused HopsSpent) G c = inl (c.0, inr (c.1, inr (c.2, (Some c.3.0, c.3.1, inl (c.3.2, (refl, quiet F G steady c.4))))))
      to (Refused (Gone t)) G c =
          inl (c.0.1.0, inr (c.0.1.1, inr (c.0.1.2, (Some c.0.0, c.0.1.3, inr ((λ spent. let left = c.0.1.4 in omega (arith, spent, left)), named c.0.2)))))
        where
          same : G ≡ F
          same = quiet F G steady c.1

          named : ((t ≡ c.0.0.place) × (IsGoneIn G c.0.0.place)) ⊎ ((t ≡ s) × (IsGoneIn F c.0.0.place → ⊥) × (IsGoneIn G s)) → source_tree w s b c.0.0 (Refused (Gone t)) G
          named (inl n) = inl (gone_was F G c.0.0.place steady c.1 n.1, (ap (λ n. Refused (Gone n)) n.0, same))
          named (inr n) = inr (n.1, inl (gone_was F G s steady c.1 n.2, (ap (λ n. Refused (Gone n)) n.0, same)))
      to (Copied t) G c =
          inl (
            c.1.2.0,
            inr (
              c.1.2.1,
              inr (
                c.1.2.2,
                (
                  Some c.1.0,
                  c.1.2.3,
                  inr (
                    (λ spent. let left = c.1.2.4 in omega (arith, spent, left)),
                    inr (
                      c.1.4,
                      inr (
                        (λ gone. c.1.5 (gone_is (ticketed F w s (Moved b c.1.0.version c.1.0.hop c.1.1.content)) G s steady c.1.6 gone)),
                        (c.1.1, c.1.3, (ap Copied c.0, quiet _ G steady c.1.6)),
                      ),
                    ),
                  ),
                ),
              ),
            ),
          )
      to _ G c = absurd c

  -- commit: the ticket, then by what waits in it the version or the stamp, the log, the unit
  abbrev committed_tree : ℕ → ℕ → ℕ → Option Record → Option Waiting → Steps
  committed_tree w s b found None = Ends (Refused NoTicket) F
  committed_tree w s b found (Some (Fresh x)) =
      Asks (next_version found ≤ last_version)
      (Asks (length F.emitted < longest_log)
      (Asks (IsGoneIn F s) (Ends (Refused (Gone s)) F)
      (Ends (Committed (record { block = b; version = next_version found; hop = 0; place = s }))
      (committed F w s b found (F.writes ++ record { block = b; version = next_version found; content = x } ∷ []) x
      (record { block = b; version = next_version found; hop = 0; place = s }))))
      (Ends (Refused LogFull) F))
      (Ends (Refused VersionSpent) F)
  committed_tree w s b found (Some (Moved c v h x)) =
      Asks (HasCopiedStamp found v h)
      (Asks (length F.emitted < longest_log)
      (Asks (IsGoneIn F s) (Ends (Refused (Gone s)) F)
      (Ends (Committed (record { block = b; version = v; hop = h + 1; place = s }))
      (committed F w s b found F.writes x (record { block = b; version = v; hop = h + 1; place = s }))))
      (Ends (Refused LogFull) F))
      (Picks (λ (n : Record). found ≡ Some n) (λ n. Ends (Refused (Outrun n)) F))

  abbrev commit_tree : ℕ → ℕ → ℕ → Steps
  commit_tree w s b =
      Asks ((F.held s (Ticket w) ≡ true) × IsFor (F.tickets s) b)
      (Picks (IsNewest F.emitted b) (λ found. committed_tree w s b found (F.tickets s)))
      (Ends (Refused NoTicket) F)

  with_tree : (w s b : ℕ) (found : Option Record) (ticket : Option Waiting) (a : FlatAnswer) (G : Flat) → CommitWith F w s b found ticket a G
      → committed_tree w s b found ticket a G
  with_tree w s b found (Some (Fresh x)) (Refused VersionSpent) G c = inr ((λ most. let spent = c.0 in omega (arith, most, spent)), (refl, quiet F G steady c.1))
  with_tree w s b found (Some (Fresh x)) (Refused LogFull) G c = inl (c.0, inr ((λ short. let long = c.1 in omega (arith, short, long)), (refl, quiet F G steady c.2)))
  with_tree w s b found (Some (Fresh x)) (Refused (Gone t)) G c =
      inl (c.0, inl (c.1, inl (gone_was F G s steady c.4 c.3, (ap (λ n. Refused (Gone n)) c.2, quiet F G steady c.4))))
  with_tree w s b found (Some (Fresh x)) (Committed r) G c =
      inl (
        c.0,
        inl (
          c.1,
          inr (
            (λ gone. c.2 (gone_is _ G s steady c.4 gone)),
            (
              ap Committed c.3,
              quiet _ G steady c.4 ∙ ap (committed F w s b found (F.writes ++ record { block = b; version = next_version found; content = x } ∷ []) x) c.3,
            ),
          ),
        ),
      )
  with_tree w s b found (Some (Moved k v h x)) (Refused (Outrun n)) G c = inr (c.1, (n, c.0, (refl, quiet F G steady c.2)))
  with_tree w s b found (Some (Moved k v h x)) (Refused LogFull) G c = inl (c.0, inr ((λ short. let long = c.1 in omega (arith, short, long)), (refl, quiet F G steady c.2)))
  with_tree w s b found (Some (Moved k v h x)) (Refused (Gone t)) G c =
      inl (c.0, inl (c.1, inl (gone_was F G s steady c.4 c.3, (ap (λ n. Refused (Gone n)) c.2, quiet F G steady c.4))))
  with_tree w s b found (Some (Moved k v h x)) (Committed r) G c =
      inl (c.0, inl (c.1, inr ((λ gone. c.2 (gone_is _ G s steady c.4 gone)), (ap Committed c.3, quiet _ G steady c.4 ∙ ap (committed F w s b found F.writes x) c.3))))
  with_tree w s b found _ _ G c = absurd c

  with_settles : (w s b : ℕ) (found : Option Record) (ticket : Option Waiting) → Settles (IsSteady z) (committed_tree w s b found ticket)
  with_settles w s b found None = ends calm
  with_settles w s b found (Some (Fresh x)) = asks (asks (asks (ends calm) (ends (changed calm refl refl refl))) (ends calm)) (ends calm)
  with_settles w s b found (Some (Moved c v h x)) =
      asks (asks (asks (ends calm) (ends (changed calm refl refl refl))) (ends calm)) (picks (found_once found) (λ n is. ends calm))

  pub commit_settles : (w s b : ℕ) → Settles (IsSteady z) (CommitCase F w s b)
  commit_settles w s b = settles_by (CommitCase F w s b) (commit_tree w s b) to
      (asks (picks (one_newest F b all) (λ found is. with_settles w s b found (F.tickets s))) (ends calm))
    where
      unticketed : (F.held s (Ticket w) ≡ false) ⊎ (IsFor (F.tickets s) b → ⊥) → (F.held s (Ticket w) ≡ true) × IsFor (F.tickets s) b → ⊥
      unticketed (inl no_one) is = not_both (F.held s (Ticket w)) no_one is.0
      unticketed (inr no_for) is = no_for is.1

      waits : (a : FlatAnswer) (G : Flat) → (F.held s (Ticket w) ≡ true) × (IsFor (F.tickets s) b)
          × ((found : Option Record) × (IsNewest F.emitted b found) × (CommitWith F w s b found (F.tickets s) a G)) → commit_tree w s b a G
      waits a G c = inl ((c.0, c.1), (c.2.0, c.2.1, with_tree w s b c.2.0 (F.tickets s) a G c.2.2))

      to : (a : FlatAnswer) (G : Flat) → CommitCase F w s b a G → commit_tree w s b a G
      to (Refused NoTicket) G c = inr (unticketed c.0, (refl, quiet F G steady c.1))
      to a G c = waits a G c

  -- read: refused where the newest place is gone
  abbrev read_tree : ℕ → Steps
  read_tree b =
      Asks ((r : Record) × IsNewest F.emitted b (Some r) × IsGoneIn F r.place)
      (Picks (λ (r : Record). IsNewest F.emitted b (Some r)) (λ r. Ends (Refused (Gone r.place)) F))
      (Ends (Found (found_of (last_write F.writes b))) F)

  pub read_settles : (b : ℕ) → Settles (IsSteady z) (ReadCase F b)
  read_settles b = settles_by (ReadCase F b) (read_tree b) to (asks (picks one (λ r is. ends calm)) (ends calm))
    where
      one : (r q : Record) → IsNewest F.emitted b (Some r) → IsNewest F.emitted b (Some q) → r ≡ q
      one r q a c = same_Some r q (one_newest F b all (Some r) (Some q) a c)

      to : (a : FlatAnswer) (G : Flat) → ReadCase F b a G → read_tree b a G
      to (Found v) G c = inr ((λ is. c.1 is.0 is.1 (gone_is F G is.0.place steady c.2 is.2)), (ap Found c.0, quiet F G steady c.2))
      to (Refused (Gone t)) G c =
          let gone : IsGoneIn F c.0.0.place = subst (IsGoneIn F) c.0.2 (gone_was F G t steady c.1 c.0.3) in
          inl ((c.0.0, c.0.1, gone), (c.0.0, c.0.1, (ap (λ n. Refused (Gone n)) c.0.2, quiet F G steady c.1)))
      to _ G c = absurd c

  -- read at a record's place: it is ahead, gone, or seen
  abbrev look_tree : Record → Steps
  look_tree r =
      Picks (IsNewest F.emitted r.block) (λ found. Asks (IsAhead r found) (Ends (Refused (Ahead found)) F)
      (Asks (IsGoneIn F r.place) (Ends (Refused (Gone r.place)) F) (Picks (IsSeen (F.units r.place) r) (λ seen. Ends (FoundAt seen) F))))

  pub look_settles : (r : Record) → Settles (IsSteady z) (ReadAtCase F r)
  look_settles r = settles_by (ReadAtCase F r) (look_tree r) to
      (picks (one_newest F r.block all) (λ found is. asks (ends calm) (asks (ends calm) (picks (seen_once (F.units r.place) r) (λ seen is. ends calm)))))
    where
      at_most : (n : Record) → key_of r ≤ key_of n → IsAhead r (Some n) → ⊥
      at_most n most ahead = omega (arith, most, ahead)

      to : (a : FlatAnswer) (G : Flat) → ReadAtCase F r a G → look_tree r a G
      to (Refused (Ahead found)) G c = (found, c.0, inl (c.1, (refl, quiet F G steady c.2)))
      to (Refused (Gone t)) G c =
          let gone : IsGoneIn F r.place = subst (IsGoneIn F) c.1 (gone_was F G t steady c.3 c.2) in
          (Some c.0.0, c.0.1, inr (at_most c.0.0 c.0.2, inl (gone, (ap (λ n. Refused (Gone n)) c.1, quiet F G steady c.3))))
      to (FoundAt seen) G c =
          (Some c.0.0, c.0.1, inr (at_most c.0.0 c.0.2, inr ((λ gone. c.1 (gone_is F G r.place steady c.3 gone)), (seen, c.2, (refl, quiet F G steady c.3)))))
      to _ G c = absurd c
