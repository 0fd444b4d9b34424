use Rattle.std.proofs.Common.{arith}
use Rattle.file_vault.specs.Vaults.{plan_of}
use Rattle.file_vault.proofs.Blanks.{below_none, below_more, below_all}
use Rattle.file_vault.proofs.blank.blank_drive.Goals as goal

pub loop-address-init : goal.loop-address-init
loop-address-init g c = record {
  stays = λ known. known;
  blank = λ known. below_none (plan_of c.args.layout.now) c.args.drive (g.F.Files.seen c.args.files.now);
}

pub loop-address-preserved : goal.loop-address-preserved
loop-address-preserved g c = record {
  stays = λ known. c.write_blank.ensures.stays (c.loop-address.invariant.stays known);
  blank = λ known.
      below_more (plan_of c.args.layout.now) c.args.drive c.loop-address.address (g.F.Files.seen c.args.files.now) (g.F.Files.seen c.loop-address.files) (g.F.Files.seen c.write_blank.new.files)
      (c.loop-address.invariant.blank known) (c.in_ok-write_blank.ensures.blank (c.loop-address.invariant.stays known));
}

pub returns-clause-blank : goal.returns-clause-blank
returns-clause-blank g c = λ known.
    below_all (plan_of c.args.layout.now) c.args.drive c.loop-address.address c.count-address-end.result (g.F.Files.seen c.args.files.now) (g.F.Files.seen c.loop-address.files)
    c.count-address-end.ensures (omega (arith, c.loop-address-test.false)) (c.loop-address.invariant.blank known)
