use Rattle.std.proofs.Common.{rules}
use Rattle.array_book.specs.Kept.{IsKept}
use Rattle.array_book.proofs.book.Book.new.Goals as goal

pub invariant_of-kept : goal.invariant_of-kept
invariant_of-kept g c =
    let ends = c.requires.course in
    let is : IsKept g.N.Sizes.blocks g.N.Sizes.payload (record { array = c.args.array; planner = c.in-Ok-new.planner }) = record {
      flat = ends.flat;
      shows = ends.shows;
      blocks = c.requires.blocks;
      payload = c.requires.payload;
      order = search rules;
      long = search rules;
      marked = search rules;
    } in (is, record { traced = ends.traced; hired = c.requires.hands })
