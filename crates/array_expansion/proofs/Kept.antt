-- What stays where an array has grown, for callers.
use Rattle.std.proofs.Common.{◌≡◌, ◌≢◌, ◌+◌, ℕ, false, true, ap, ◌∙◌}
use Rattle.extents.specs.Failures.{Failures, no_failures}
use Rattle.flat_machine.specs.Flat.{Flat}
use Rattle.flat_machine.proofs.Pairs.{put_here, put_else}
use Rattle.array_expansion.specs.Expansion.{IsExpanded}

module _ (F G : Flat) (grown : IsExpanded F G) where
  pub writes_kept : G.writes ≡ F.writes
  writes_kept = ap (λ (z : Flat). z.writes) grown.spread.left.same

  pub log_kept : G.emitted ≡ F.emitted
  log_kept = ap (λ (z : Flat). z.emitted) grown.spread.left.same

  pub units_kept : G.units ≡ F.units
  units_kept = ap (λ (z : Flat). z.units) grown.spread.left.same

  pub payload_kept : G.groups.payload ≡ F.groups.payload
  payload_kept = grown.spread.groups.payload

  pub one_more_drive : G.drives ≡ F.drives + 1
  one_more_drive = ap (λ (z : Flat). z.drives) grown.spread.left.same

  -- the new drive is there
  pub new_drive_there : G.lost F.drives ≡ false
  new_drive_there =
      let fares = grown.spread.left.drives F.drives in
      let steady = ap (λ (f : Failures). f.steady) (put_here F.failures F.drives no_failures) in
      (fares.steady steady).1 ∙ put_here F.lost F.drives false

  -- a drive that was lost is lost, and a steady one that wasn't isn't
  pub lost_kept : (d : ℕ) → d ≢ F.drives → F.lost d ≡ true → G.lost d ≡ true
  lost_kept d other lost = (grown.spread.left.drives d).stays (put_else F.lost F.drives false d other ∙ lost)

  pub steady_kept : (d : ℕ) → d ≢ F.drives → (F.failures d).steady ≡ true → G.lost d ≡ F.lost d
  steady_kept d other steady =
      let before = ap (λ (f : Failures). f.steady) (put_else F.failures F.drives no_failures d other) in
      ((grown.spread.left.drives d).steady (before ∙ steady)).1 ∙ put_else F.lost F.drives false d other
