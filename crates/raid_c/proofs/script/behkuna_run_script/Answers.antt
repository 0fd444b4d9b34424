use Rattle.std.proofs.Common.{subst}
use Rattle.raid_c.specs.declared.status.Status.TheVariants as is
use Rattle.raid_c.specs.Lists.{IsBuffered}
use Rattle.raid_c.proofs.script.behkuna_run_script.Goals as goal

pub returns-in-Done : goal.returns-in-Done
returns-in-Done c =
    let put = c.put_out-in-Fault.new in (
      is.Fault,
      c.number-in-Done.ensures,
      (
        c.answer.new.text.items,
        c.in-Fault.ensures,
        subst (λ bytes. IsBuffered bytes c.args.answers.now put.out put.count) c.deref-in-Fault.ensures.value c.in-Done.ensures,
      ),
    )
