use Rattle.unit_store.proofs.parts.Parts.finish.Goals as goal

pub returns-clause-fit : goal.returns-clause-fit
returns-clause-fit g c =
    let f = c.write_noted.ensures.fit in
    record { shape = f.shape; least = f.least; most = f.most; groups = f.groups; drives = f.drives; agree = f.agree; rows = f.rows; wide = f.wide }
