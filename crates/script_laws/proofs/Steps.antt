-- A step of a reached state has one answer, and leaves one reached state.
use Rattle.std.proofs.Common.{◌≡◌, ℕ, ◌<◌, sym, subst}
use Rattle.extent_groups.specs.Groups.{Groups}
use Rattle.flat_machine.specs.Flat.{Flat, Content, IsSized}
use Rattle.flat_machine.specs.Steps.{FlatStep, Claim, Release, Fill, Copy, Commit, Discard, Read, ReadAt, Make, Unmake, MoveExtent, AddDrive, Lose}
use Rattle.flat_machine.specs.Cases.{Case}
use Rattle.flat_machine.specs.History.{IsValidStep}
use Rattle.flat_machine.proofs.Keeps.{step_keeps}
use Rattle.script_laws.specs.Once.{Settles}
use Rattle.script_laws.specs.Steady.{IsSteady, IsReached}
use Rattle.script_laws.proofs.Quiet.{AreRecords}
use Rattle.script_laws.proofs.Lists.{some_map}
use Rattle.script_laws.proofs.Slots.{claim_settles, release_settles, fill_settles, copy_settles, commit_settles, discard_settles, read_settles, look_settles}
use Rattle.script_laws.proofs.Groups.{make_settles, unmake_settles, move_settles, add_settles, lose_settles}

-- a step has one answer, and leaves one state whose drives are steady
pub step_steady : (z : Groups) (F : Flat) (step : FlatStep) → IsSteady z F → AreRecords F → Settles (IsSteady z) (Case F step)
step_steady z F (Claim w s) calm all = claim_settles z F calm all w s
step_steady z F (Release w s) calm all = release_settles z F calm all w s
step_steady z F (Fill w s x) calm all = fill_settles z F calm all w s x
step_steady z F (Copy w s b) calm all = copy_settles z F calm all w s b
step_steady z F (Commit w s b) calm all = commit_settles z F calm all w s b
step_steady z F (Discard w s) calm all = discard_settles z F calm all w s
step_steady z F (Read b) calm all = read_settles z F calm all b
step_steady z F (ReadAt r) calm all = look_settles z F calm all r
step_steady z F (Make class members) calm all = make_settles z F calm class members
step_steady z F (Unmake w g) calm all = unmake_settles z F calm w g
step_steady z F (MoveExtent g k to) calm all = move_settles z F calm g k to
step_steady z F AddDrive calm all = add_settles z F calm
step_steady z F (Lose d) calm all = lose_settles z F calm d

-- a content fits units of the same size
sized_as : (x : Content) (m n : ℕ) → m ≡ n → IsSized n x → IsSized m x
sized_as x m n same is = subst (λ k. IsSized k x) (sym same) is

-- the numbers of a step fit a state of the same sizes
pub fits_as : (z : Groups) (F : Flat) (step : FlatStep) → IsSteady z F → IsValidStep z step → IsValidStep F.groups step
fits_as z F (Claim w s) calm fits = fits
fits_as z F (Release w s) calm fits = fits
fits_as z F (Fill w s x) calm fits = (fits.0, sized_as x F.groups.payload z.payload calm.payload fits.1)
fits_as z F (Copy w s b) calm fits = (fits.0, subst (λ n. b < n) (sym calm.blocks) fits.1)
fits_as z F (Commit w s b) calm fits = subst (λ n. b < n) (sym calm.blocks) fits
fits_as z F (Discard w s) calm fits = fits
fits_as z F (Read b) calm fits = fits
fits_as z F (ReadAt r) calm fits = fits
fits_as z F (Make class members) calm fits = fits
fits_as z F (Unmake w g) calm fits = fits
fits_as z F (MoveExtent g k to) calm fits = fits
fits_as z F AddDrive calm fits = fits
fits_as z F (Lose d) calm fits = fits

-- a step with numbers in range has one answer, and leaves one reached state
pub step_settles : (z : Groups) (F : Flat) (step : FlatStep) → IsReached z F → IsValidStep z step → Settles (IsReached z) (Case F step)
step_settles z F step is fits = record {
  once = calm.once;
  keeps = λ a G case. let now = some_map G.emitted in record {
    calm = calm.keeps a G case;
    keys = now.0;
    history = step_keeps F G is.keys now.0 step a is.history (fits_as z F step is.calm fits) case now.1;
  };
}
  where
    calm : Settles (IsSteady z) (Case F step)
    calm = step_steady z F step is.calm is.history.records
