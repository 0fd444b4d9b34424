use Rattle.group_form.proofs.Reading.{read_more}
use Rattle.group_form.proofs.table.table_units.Goals as goal

pub returns-in_err-lay_journal-clause-read : goal.returns-in_err-lay_journal-clause-read
returns-in_err-lay_journal-clause-read g c = λ known.
    read_more g.V.Vault.seen g.V.Vault.may_leave g.V.Vault.moment g.V.Vault.left_since c.args.vault.now c.load_units.new.vault c.lay_journal.new.vault (c.load_units.ensures.read known) (c.lay_journal.ensures.read (c.load_units.ensures.stays known))

pub returns-clause-read : goal.returns-clause-read
returns-clause-read g c = λ known.
    read_more g.V.Vault.seen g.V.Vault.may_leave g.V.Vault.moment g.V.Vault.left_since c.args.vault.now c.load_units.new.vault c.lay_journal.new.vault (c.load_units.ensures.read known) (c.lay_journal.ensures.read (c.load_units.ensures.stays known))
