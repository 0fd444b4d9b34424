use Rattle.std.proofs.Common.{arith, inl, inr}
use Rattle.file_vault.specs.Vaults.{plan_of}
use Rattle.file_vault.proofs.Puts.{below_or}
use Rattle.file_vault.proofs.Blanks.{none_past}
use Rattle.file_vault.proofs.blank.write_blanks.Goals as goal

pub loop-drive-preserved : goal.loop-drive-preserved
loop-drive-preserved g c = record {
  stays = λ known. c.blank_drive.ensures.stays (c.loop-drive.invariant.stays known);
  blank = λ known x low.
      let more = c.in_ok-blank_drive.ensures.blank (c.loop-drive.invariant.stays known) x in
      elim (below_or x.drive c.loop-drive.drive) [
        | inl under ↦ more (inr (c.loop-drive.invariant.blank known x under))
        | inr rest ↦ elim rest [ inl e ↦ more (inl e) | inr (j, past) ↦ absurd (omega (arith, low, past)) ]
      ];
}

pub returns-clause-blank : goal.returns-clause-blank
returns-clause-blank g c = λ known x.
    elim (below_or x.drive 17) [
      | inl under ↦ c.loop-drive.invariant.blank known x (omega (arith, under, c.loop-drive-test.false))
      | inr rest ↦ none_past (plan_of c.args.layout.now) (g.F.Files.seen c.loop-drive.files) x (elim rest [ inl e ↦ omega (arith, e) | inr (j, e) ↦ omega (arith, e) ])
    ]
