-- A put and its commit in one write: the history goes on by two acts.
use Rattle.std.proofs.Common.{◌≡◌, ℕ, ◌<◌, sym, ap, ◌∙◌, subst, Option, Some}
use Rattle.map_join.specs.declared.records.Record.{Record}
use Rattle.map_join.specs.Record.{record_at}
use Rattle.extent_groups.specs.Groups.{Groups}
use Rattle.flat_machine.specs.Flat.{Flat, Content, Fresh, IsArrayHeld}
use Rattle.flat_machine.specs.Steps as say
use Rattle.flat_machine.specs.Cases.{Case, FillCase, CommitCase, CommitWith}
use Rattle.flat_machine.specs.History.{IsHistory, IsValidStep}
use Rattle.flat_machine.proofs.Pairs.{put_here}
use Rattle.slot_tables.specs.AtOnce.{ArePutAtOnce}
use Rattle.slot_tables.specs.Changes.{IsPlaceOf}
use Rattle.slot_tables.specs.Represents.{ShowsArray}
use Rattle.slot_tables.specs.Views.{ArrayView}
use Rattle.slot_tables.proofs.OneMore.{shows_one_more}
use Rattle.tiered_array.proofs.Emitting.{alike_put, commit_emits}
use Rattle.step_core.specs.Claimed.{with_claim}
use Rattle.step_core.specs.Placing.{Put, Fresh as Afresh, Again, IsWhatFor, put_for, put_step, put_answer}
use Rattle.step_core.specs.declared.claimed.What.{What}
use Rattle.step_core.specs.declared.claimed.What.TheVariants as what
use Rattle.step_core.specs.declared.place.Given.TheVariants as given
use Rattle.array_book.specs.Acts.{IsIdle, placed_act, committed_act, claim_slot}
use Rattle.array_book.specs.Kept as book
use Rattle.array_book.specs.Kept.{KeptView}
use Rattle.array_book.specs.Outcomes.{HasHop}
use Rattle.array_book.proofs.Going.{Goes, GoesOn, commits_go, puts_go, put_idle, put_sound}
use Rattle.array_book.proofs.Shown.{emitted_written}

-- what goes into a slot has numbers in range
pub fits : (z : Groups) (v : What) (s b w : ℕ) → s < 65536 → b < z.blocks → IsWhatFor z.blocks z.payload v → IsValidStep z (put_step (put_for v) w s b)
fits z (what.Fresh (given.Payload payload)) s b w small low is = (small, is)
fits z (what.Fresh given.Trim) s b w small low is = (small, tt)
fits z (what.CopyOf n) s b w small low is = (small, low)

pub fits_kept : (blocks payload : ℕ) (k : KeptView) (is : book.IsKept blocks payload k) (v : What) (s b w : ℕ) → s < 65536 → b < blocks → IsWhatFor blocks payload v
    → IsValidStep is.flat.groups (put_step (put_for v) w s b)
fits_kept blocks payload k is v s b w small low for =
    let many : is.flat.groups.blocks ≡ blocks = ap (λ (z : Groups). z.blocks) is.shows.tables.groups ∙ is.blocks in
    let long : is.flat.groups.payload ≡ payload = ap (λ (z : Groups). z.payload) is.shows.tables.groups ∙ is.payload in
    fits is.flat.groups v s b w small (subst (λ n. b < n) (sym many) low)
    (subst (λ n. IsWhatFor n is.flat.groups.payload v) (sym many) (subst (λ n. IsWhatFor blocks n v) (sym long) for))

-- an equal array shows the state in which worker 0 claims the slot
pub claimed_shows : (k a : ArrayView) (F : Flat) (s : ℕ) → a ≡ k → ShowsArray k F → ShowsArray a (with_claim F s 0)
claimed_shows k a F s same shows = subst (λ (v : ArrayView). ShowsArray v (with_claim F s 0)) (sym same) (shows_one_more k F s 0 shows)

module _ (F : Flat) (keys : ℕ → ℕ) (b : ArrayView) (s block : ℕ) (what : Put) (r : Record) (history : IsHistory (with_claim F s 0) keys)
    (fit : IsValidStep F.groups (put_step what 0 s block)) (put : ArePutAtOnce (with_claim F s 0) (put_step what 0 s block) (put_answer what s) 0 s block r b) where
  abbrev pub between : Flat
  between = put.0

  pub between_history : IsHistory between keys
  between_history = put_sound (with_claim F s 0) between keys what 0 s block history fit put.1

  pub between_groups : between.groups ≡ F.groups
  between_groups = (alike_put (with_claim F s 0) between what 0 s block put.1).groups

  pub between_idle : IsIdle F → IsIdle between
  between_idle idle = put_idle F between what s block idle put.1

  abbrev pub first : IsIdle F → (IsArrayHeld F s → ⊥) → Goes F (placed_act what s block)
  first idle none = puts_go F between keys s block what idle none between_history put.1

  pub second : {C : Type 0} (names : C → ℕ) (old : Option C) → IsIdle F → IsPlaceOf names old (record_at block (keys block)) → GoesOn between (committed_act s block r (claim_slot names old)) b
  second names old idle of = commits_go names keys b between s block r old between_history (between_idle idle) of put.2

  pub after_groups : b.parts.groups ≡ F.groups
  after_groups = sym put.2.2.tables.groups ∙ (commit_emits between put.2.0 0 s block r between_history.records put.2.1).groups ∙ between_groups

  -- the record is the block's, it has a version, and that of a fresh content has no hop
  pub of_block : r.block ≡ block
  of_block = (commit_emits between put.2.0 0 s block r between_history.records put.2.1).newest.1

  pub written : 0 < r.version
  written = emitted_written b put.2.0 between.emitted r put.2.2 (sym put.2.2.tables.log ∙ (commit_emits between put.2.0 0 s block r between_history.records put.2.1).emitted)

-- of a fresh content that was filled in, the commit's record has no hop
no_hop : (F M G : Flat) (w s b : ℕ) (x : Content) (r : Record) → FillCase F w s x (say.Filled s) M → CommitCase M w s b (say.Committed r) G → r.hop ≡ 0
no_hop F M G w s b x r fill commit = ap (λ (q : Record). q.hop) is.3
  where
    there : M.tickets s ≡ Some (Fresh x)
    there = ap (λ (z : Flat). z.tickets s) fill.3.same ∙ put_here F.tickets s (Some (Fresh x))

    is : CommitWith M w s b commit.2.0 (Some (Fresh x)) (say.Committed r) G
    is = subst (λ t. CommitWith M w s b commit.2.0 t (say.Committed r) G) there commit.2.2

pub has_hop : (F M G : Flat) (w s b : ℕ) (what : Put) (r : Record) → Case F (put_step what w s b) (put_answer what s) M → CommitCase M w s b (say.Committed r) G → HasHop what r
has_hop F M G w s b (Afresh x) r put commit = no_hop F M G w s b x r put commit
has_hop F M G w s b Again r put commit = tt
