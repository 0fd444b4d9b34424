-- What comes of a block that goes into a slot is one outcome and one state.
use Rattle.std.proofs.Common.{inl, inr, ℕ, ◌<◌, refl, Option, Some, None}
use Rattle.map_join.specs.declared.records.Record.{Record}
use Rattle.extent_groups.specs.Groups.{Groups}
use Rattle.flat_machine.specs.Flat.{Flat, IsSized, IsNewest}
use Rattle.flat_machine.specs.Steps.{FlatAnswer, Claimed, Taken, Released, Filled, Copied, Committed, Discarded}
use Rattle.flat_machine.specs.Steps as step
use Rattle.flat_machine.specs.Cases.{Case, Runs}
use Rattle.flat_machine.specs.History.{IsValidStep}
use Rattle.tiered_array.specs.Placing.{Put, Fresh, Again, PlaceCase, put_step, put_answer, back_steps, back_answers}
use Rattle.tiered_array.specs.declared.outcome.Outcome.{Outcome}
use Rattle.tiered_array.specs.declared.outcome.Outcome.TheVariants.{Placed, Refused, NoRoom, Nothing}
use Rattle.script_laws.specs.Once.{Settles}
use Rattle.script_laws.specs.Steady.{IsReached}
use Rattle.script_laws.proofs.Trees.{Ends, Picks, Then, ends, picks, then, settles_by}
use Rattle.script_laws.proofs.Quiet.{one_newest}
use Rattle.script_laws.proofs.Steps.{step_settles}

-- a relation of an outcome and a flat state
abbrev pub Places : Type 1
Places = Outcome → Flat → Type 0

-- what goes into the slot fits the units
abbrev pub PutFits : Groups → Put → Type 0
PutFits z (Fresh x) = IsSized z.payload x
PutFits z Again = Unit {0}

-- the fill or copy has numbers in range
put_fits : (z : Groups) (w s b : ℕ) (what : Put) → s < 65536 → b < z.blocks → PutFits z what → IsValidStep z (put_step what w s b)
put_fits z w s b (Fresh x) low below sized = (low, sized)
put_fits z w s b Again low below sized = (low, below)

-- the slot is released
abbrev back : ℕ → ℕ → Outcome → Flat → Places
back w s o M = Then (Case M (step.Release w s)) (λ a N. Ends o N)

-- and so is the old place, if there was one
abbrev old_back : ℕ → Option Record → Outcome → Flat → Places
old_back w None o M = Ends o M
old_back w (Some old) o M = back w old.place o M

-- after a commit
abbrev committed_tree : Flat → ℕ → ℕ → ℕ → FlatAnswer → Flat → Places
committed_tree F w s b (Committed r) M = Picks (IsNewest F.emitted b) (λ old. old_back w old (Placed r) M)
committed_tree F w s b (step.Refused k) M = Then (Case M (step.Discard w s)) (λ a N. back w s (Refused k) N)
committed_tree F w s b _ M = Ends Nothing M

-- after a fill or a copy
abbrev put_tree : Flat → ℕ → ℕ → ℕ → FlatAnswer → Flat → Places
put_tree F w s b (step.Refused k) M = back w s (Refused k) M
put_tree F w s b _ M = Then (Case M (step.Commit w s b)) (committed_tree F w s b)

-- after a claim
abbrev claimed_tree : Flat → ℕ → ℕ → ℕ → Put → FlatAnswer → Flat → Places
claimed_tree F w s b what (Claimed t) M = Then (Case M (put_step what w s b)) (put_tree F w s b)
claimed_tree F w s b what _ M = Ends NoRoom M

-- from the claim on
abbrev place_tree : Flat → ℕ → ℕ → ℕ → Put → Places
place_tree F w s b what = Then (Case F (step.Claim w s)) (claimed_tree F w s b what)

-- after a fill or copy that isn't refused comes the commit
goes_on : (F M : Flat) (w s b : ℕ) (what : Put) (o : Outcome) (G : Flat) → Then (Case M (step.Commit w s b)) (committed_tree F w s b) o G
    → put_tree F w s b (put_answer what s) M o G
goes_on F M w s b (Fresh x) o G rest = rest
goes_on F M w s b Again o G rest = rest

-- a run that releases the old place satisfies `old_back`
old_run : (M G : Flat) (w : ℕ) (old : Option Record) (o : Outcome) → Runs M (back_steps w old) (back_answers old) G → old_back w old o M o G
old_run M G w None o run = (refl, run)
old_run M G w (Some old) o run = (Released old.place, run.0, run.1, (refl, run.2))

-- each outcome is one of the tree
to_tree : (F : Flat) (w s b : ℕ) (what : Put) (o : Outcome) (G : Flat) → PlaceCase F w s b what o G → place_tree F w s b what o G
to_tree F w s b what (Placed r) G c =
    let run = c.run in (
      Claimed s,
      run.0,
      run.1,
      (
        put_answer what s,
        run.2.0,
        run.2.1,
        goes_on F _ w s b what (Placed r) G
            (Committed r, run.2.2.0, run.2.2.1, (c.old, c.newest, old_run _ G w c.old (Placed r) run.2.2.2)),
      ),
    )
to_tree F w s b what (Refused k) G (inl run) =
    (Claimed s, run.0, run.1, (step.Refused k, run.2.0, run.2.1, (Released s, run.2.2.0, run.2.2.1, (refl, run.2.2.2))))
to_tree F w s b what (Refused k) G (inr run) = (
  Claimed s,
  run.0,
  run.1,
  (
    put_answer what s,
    run.2.0,
    run.2.1,
    goes_on F _ w s b what (Refused k) G
        (step.Refused k, run.2.2.0, run.2.2.1, (Discarded s, run.2.2.2.0, run.2.2.2.1, (Released s, run.2.2.2.2.0, run.2.2.2.2.1, (refl, run.2.2.2.2.2)))),
  ),
)
to_tree F w s b what NoRoom G run = (Taken s, run.0, run.1, (refl, run.2))
to_tree F w s b what Nothing G c = absurd c

module _ (z : Groups) (F : Flat) (w s b : ℕ) (is : IsReached z F) (low : s < 65536) (below : b < z.blocks) where
  back_settles : (t : ℕ) (o : Outcome) (M : Flat) → IsReached z M → Settles (IsReached z) (back w t o M)
  back_settles t o M reached = then (step_settles z M (step.Release w t) reached tt) (λ a N now. ends now)

  old_settles : (old : Option Record) (o : Outcome) (M : Flat) → IsReached z M → Settles (IsReached z) (old_back w old o M)
  old_settles None o M reached = ends reached
  old_settles (Some old) o M reached = back_settles old.place o M reached

  committed_settles : (a : FlatAnswer) (M : Flat) → IsReached z M → Settles (IsReached z) (committed_tree F w s b a M)
  committed_settles (Committed r) M reached = picks (one_newest F b is.history.records) (λ old newest. old_settles old (Placed r) M reached)
  committed_settles (step.Refused k) M reached =
      then (step_settles z M (step.Discard w s) reached tt) (λ a N now. back_settles s (Refused k) N now)
  committed_settles _ M reached = ends reached

  put_settles : (a : FlatAnswer) (M : Flat) → IsReached z M → Settles (IsReached z) (put_tree F w s b a M)
  put_settles (step.Refused k) M reached = back_settles s (Refused k) M reached
  put_settles _ M reached = then (step_settles z M (step.Commit w s b) reached below) (λ a N now. committed_settles a N now)

  claimed_settles : (what : Put) → PutFits z what → (a : FlatAnswer) (M : Flat) → IsReached z M → Settles (IsReached z) (claimed_tree F w s b what a M)
  claimed_settles what sized (Claimed t) M reached =
      then (step_settles z M (put_step what w s b) reached (put_fits z w s b what low below sized)) (λ a N now. put_settles a N now)
  claimed_settles what sized _ M reached = ends reached

  pub place_settles : (what : Put) → PutFits z what → Settles (IsReached z) (PlaceCase F w s b what)
  place_settles what sized = settles_by (PlaceCase F w s b what) (place_tree F w s b what) (to_tree F w s b what)
      (then (step_settles z F (step.Claim w s) is low) (λ a M now. claimed_settles what sized a M now))
