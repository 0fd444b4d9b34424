use Rattle.std.proofs.Common.{◌++◌, ap, ◌∙◌, append_assoc, arith, rules}
use Rattle.std.proofs.lemmas.Grind.{common_steps}
use Rattle.script_exec.specs.Text.{fault_detail}
use Rattle.script_exec.proofs.Carried.{on_ok}
use Rattle.script_exec.proofs.texts.put_fault.Goals as goal

pub returns : goal.returns
returns c =
    let number = rw (c.from.ensures ∙ c.number.ensures) at c.in_ok-put_numbered.ensures.reported in record {
      reported =
          on_ok c.put_fault_detail.result _ _ c.put_fault_detail.ensures.reported
          (λ out. out ∙ ap (λ xs. xs ++ fault_detail c.args.fault.now) number ∙ append_assoc c.args.out.now.items _ _);
      memory = search rules;
      kept = grind (arith, common_steps);
    }
