use Rattle.blank_array.proofs.create.make_disk.Goals as goal

pub returns-clause-made : goal.returns-clause-made
returns-clause-made g c = λ known size.
    let can = c.in_ok-make_array.ensures.can in
    let shape = c.shape-shape.ensures in
    let blank = c.in-Ok.ensures.blank known c.args.groups.now c.args.drives (c.layout_for.ensures c.args.groups.now can.most shape) in
    c.in_ok-make_array.ensures.made (c.in-Ok.ensures.known known) blank size
