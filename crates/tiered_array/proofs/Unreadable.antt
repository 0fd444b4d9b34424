-- A slot that is gone stays so, and a placing that is refused as gone found its slot or its block's place gone.
use Rattle.std.proofs.Common.{◌≡◌, ◌⊎◌, inl, inr, ℕ, ◌∷◌, [], sym, ap, subst, Option, Some, None}
use Rattle.map_join.specs.declared.records.Record.{Record}
use Rattle.extent_groups.specs.Missing.{IsGone}
use Rattle.unit_store.proofs.Calls.{gone_more}
use Rattle.flat_machine.specs.declared.refusal.Refusal.{Refusal}
use Rattle.flat_machine.specs.declared.refusal.Refusal.TheVariants.{Gone}
use Rattle.flat_machine.specs.Flat.{Flat, Waiting, IsNewest}
use Rattle.flat_machine.specs.Flat as waiting
use Rattle.flat_machine.specs.Steps.{Released}
use Rattle.flat_machine.specs.Steps as step
use Rattle.flat_machine.specs.Cases.{Case, Leaves, Runs, CommitWith, IsGoneIn}
use Rattle.step_core.proofs.Worlds.{refused_leaves}
use Rattle.tiered_array.specs.Placing.{Put, Fresh, Again, PlaceCase, put_step, put_answer, back_steps, back_answers}
use Rattle.tiered_array.specs.declared.outcome.Outcome.TheVariants as outcome
use Rattle.tiered_array.proofs.Emitting.{alike_claimed}

-- what is gone stays so
abbrev pub StaysGone : Flat → Flat → Type 0
StaysGone F G = (s : ℕ) → IsGoneIn F s → IsGoneIn G s

pub left_gone : (x G : Flat) → Leaves x G → StaysGone x G
left_gone x G leaves s gone =
    subst (λ z. IsGone z G.lost s) (sym (ap (λ (y : Flat). y.groups) leaves.same))
    (gone.0, gone.1, gone_more x.lost G.lost (λ d was. (leaves.drives d).stays was) gone.0 gone.2)

same_gone : (F G : Flat) → G ≡ F → StaysGone F G
same_gone F G same s gone = subst (λ (x : Flat). IsGoneIn x s) (sym same) gone

claim_gone : (F G : Flat) (w s t : ℕ) → Case F (step.Claim w s) (step.Claimed t) G → StaysGone F G
claim_gone F G w s t case n gone = left_gone _ G case.2 n gone

release_gone : (F G : Flat) (w s t : ℕ) → Case F (step.Release w s) (Released t) G → StaysGone F G
release_gone F G w s t case n gone = left_gone _ G case.2 n gone

discard_gone : (F G : Flat) (w s t : ℕ) → Case F (step.Discard w s) (step.Discarded t) G → StaysGone F G
discard_gone F G w s t case n gone = left_gone _ G case.2 n gone

put_gone : (F G : Flat) (what : Put) (w s b : ℕ) → Case F (put_step what w s b) (put_answer what s) G → StaysGone F G
put_gone F G (Fresh x) w s b case n gone = left_gone _ G case.3 n gone
put_gone F G Again w s b case n gone = left_gone _ G case.1.6 n gone

commit_gone : (F G : Flat) (w s b : ℕ) (r : Record) → Case F (step.Commit w s b) (step.Committed r) G → StaysGone F G
commit_gone F G w s b r case n gone = go (F.tickets s) case.2.2
  where
    go : (c : Option Waiting) → CommitWith F w s b case.2.0 c (step.Committed r) G → IsGoneIn G n
    go None with = absurd with
    go (Some (waiting.Fresh x)) with = left_gone _ G with.4 n gone
    go (Some (waiting.Moved c v h x)) with = left_gone _ G with.4 n gone

given_gone : (F G : Flat) (w s : ℕ) → Runs F (step.Release w s ∷ []) (Released s ∷ []) G → StaysGone F G
given_gone F G w s run n gone = same_gone run.0 G run.2 n (release_gone F run.0 w s s run.1 n gone)

back_gone : (F G : Flat) (w : ℕ) (old : Option Record) → Runs F (back_steps w old) (back_answers old) G → StaysGone F G
back_gone F G w None run n gone = same_gone F G run n gone
back_gone F G w (Some old) run n gone = given_gone F G w old.place run n gone

pub placed_gone : (F G : Flat) (w s b : ℕ) (what : Put) (r : Record) → PlaceCase F w s b what (outcome.Placed r) G → StaysGone F G
placed_gone F G w s b what r case n gone =
    let run : Runs F (step.Claim w s ∷ put_step what w s b ∷ step.Commit w s b ∷ back_steps w case.old)
    (step.Claimed s ∷ put_answer what s ∷ step.Committed r ∷ back_answers case.old) G = case.run in
    back_gone run.2.2.0 G w case.old run.2.2.2 n
    (commit_gone run.2.0 run.2.2.0 w s b r run.2.2.1 n (put_gone run.0 run.2.0 what w s b run.2.1 n (claim_gone F run.0 w s s run.1 n gone)))

pub refused_stays : (F G : Flat) (w s b : ℕ) (what : Put) (k : Refusal) → PlaceCase F w s b what (outcome.Refused k) G → StaysGone F G
refused_stays F G w s b what k (inl run) n gone =
    given_gone run.2.0 G w s run.2.2 n
    (left_gone run.0 run.2.0 (refused_leaves run.0 run.2.0 (put_step what w s b) k run.2.1) n (claim_gone F run.0 w s s run.1 n gone))
refused_stays F G w s b what k (inr run) n gone =
    given_gone run.2.2.2.0 G w s run.2.2.2.2 n (discard_gone run.2.2.0 run.2.2.2.0 w s s run.2.2.2.1 n
    (left_gone run.2.0 run.2.2.0 (refused_leaves run.2.0 run.2.2.0 (step.Commit w s b) k run.2.2.1) n
    (put_gone run.0 run.2.0 what w s b run.2.1 n (claim_gone F run.0 w s s run.1 n gone))))

-- the newest place of the block is gone, where it is copied
abbrev pub IsSourceGone : Flat → Flat → ℕ → Put → Type 0
IsSourceGone F G b (Fresh x) = ⊥
IsSourceGone F G b Again = (r : Record) × IsNewest F.emitted b (Some r) × IsGoneIn G r.place

put_refused : (F M G : Flat) (w s b : ℕ) (what : Put) (t : ℕ) → M.emitted ≡ F.emitted → Case M (put_step what w s b) (step.Refused (Gone t)) G
    → IsGoneIn G s ⊎ IsSourceGone F G b what
put_refused F M G w s b (Fresh x) t same case = inl case.2
put_refused F M G w s b Again t same case = go case.0.2
  where
    go : ((t ≡ case.0.0.place) × (IsGoneIn G case.0.0.place)) ⊎ ((t ≡ s) × (IsGoneIn M case.0.0.place → ⊥) × (IsGoneIn G s))
        → IsGoneIn G s ⊎ IsSourceGone F G b Again
    go (inl source) = inr (case.0.0, subst (λ rs. IsNewest rs b (Some case.0.0)) same case.0.1.3, source.1)
    go (inr target) = inl target.2

commit_refused : (F G : Flat) (w s b t : ℕ) → Case F (step.Commit w s b) (step.Refused (Gone t)) G → IsGoneIn G s
commit_refused F G w s b t case = go (F.tickets s) case.2.2
  where
    go : (c : Option Waiting) → CommitWith F w s b case.2.0 c (step.Refused (Gone t)) G → IsGoneIn G s
    go None with = absurd with
    go (Some (waiting.Fresh x)) with = with.3
    go (Some (waiting.Moved c v h x)) with = with.3

pub refused_gone : (F G : Flat) (w s b : ℕ) (what : Put) (t : ℕ) → PlaceCase F w s b what (outcome.Refused (Gone t)) G → IsGoneIn G s ⊎ IsSourceGone F G b what
refused_gone F G w s b what t (inl run) =
    after what (put_refused F run.0 run.2.0 w s b what t (alike_claimed F run.0 w s s run.1).emitted run.2.1)
  where
    after : (x : Put) → IsGoneIn run.2.0 s ⊎ IsSourceGone F run.2.0 b x → IsGoneIn G s ⊎ IsSourceGone F G b x
    after x (inl gone) = inl (given_gone run.2.0 G w s run.2.2 s gone)
    after Again (inr source) = inr (source.0, source.1, given_gone run.2.0 G w s run.2.2 source.0.place source.2)
    after (Fresh x) (inr wrong) = absurd wrong
refused_gone F G w s b what t (inr run) =
    inl (given_gone run.2.2.2.0 G w s run.2.2.2.2 s (discard_gone run.2.2.0 run.2.2.2.0 w s s run.2.2.2.1 s (commit_refused run.2.0 run.2.2.0 w s b t run.2.2.1)))

-- a block that was copied could be read
pub source_there : (F G : Flat) (w s b : ℕ) (r : Record) → PlaceCase F w s b Again (outcome.Placed r) G
    → (q : Record) × IsNewest F.emitted b (Some q) × (IsGoneIn F q.place → ⊥)
source_there F G w s b r case =
    let run : Runs F (step.Claim w s ∷ step.Copy w s b ∷ step.Commit w s b ∷ back_steps w case.old)
    (step.Claimed s ∷ step.Copied s ∷ step.Committed r ∷ back_answers case.old) G = case.run in
    let copy = run.2.1.1 in (
      copy.0,
      subst (λ rs. IsNewest rs b (Some copy.0)) (alike_claimed F run.0 w s s run.1).emitted copy.2.3,
      λ gone. copy.4 (claim_gone F run.0 w s s run.1 copy.0.place gone),
    )
