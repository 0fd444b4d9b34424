use Rattle.std.proofs.Common.{rules, ◌∙◌}
use Rattle.std.proofs.lemmas.Result.{on_ok_weaker}
use Rattle.vault.proofs.Writes.{torn_matches}
use Rattle.vault.proofs.Carried.{both_more, cause_later, cause_passed}
use Rattle.vault.proofs.carry.write_batches.Goals as goal

pub returns-in_err-write_last-clause-cause : goal.returns-in_err-write_last-clause-cause
returns-in_err-write_last-clause-cause g c = λ known.
    cause_passed _ _ _ c.write_last.result c.from_residual.result c.in_err-write_last.field-0.0 c.in_err-write_last.was (search rules) (c.write_last.ensures.cause known)

pub returns-clause-underway : goal.returns-clause-underway
returns-clause-underway g c = λ known.
    both_more g.V.Vault.seen g.V.Vault.may_leave g.V.Vault.moment g.V.Vault.left_since c.args.lost.now c.args.vault.now c.write_last.new.vault c.write_all.new.vault (c.write_last.ensures.underway known)
    (c.write_all.ensures.underway (c.write_last.ensures.stays known))

pub returns-clause-written : goal.returns-clause-written
returns-clause-written g c = λ known.
    on_ok_weaker c.write_all.result
    (λ same x live. same x live ∙ torn_matches c.args.lost.now (g.V.Vault.seen c.args.vault.now) (g.V.Vault.seen c.write_last.new.vault) (c.write_last.ensures.underway known).finds x live)
    (c.write_all.ensures.written (c.write_last.ensures.stays known))

pub returns-clause-cause : goal.returns-clause-cause
returns-clause-cause g c = λ known.
    cause_later _ _ _ _ c.write_all.result (c.write_last.ensures.cause known).later (c.write_all.ensures.cause (c.write_last.ensures.stays known))
