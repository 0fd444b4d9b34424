use Rattle.std.proofs.Common.{◌≡◌, ◌<◌, ◌∙◌, true, length, get_or, sym, ap, rules}
use Rattle.slot_tables.specs.Views.{Nothing, Newest}
use Rattle.slot_tables.specs.Kept.{kepts_of}
use Rattle.slot_tables.proofs.Places.{kept_inside}
use Rattle.slot_tables.specs.Counted.{is_newest}
use Rattle.slot_tables.proofs.Counts.{counted_there, counts_fewer}
use Rattle.disk_array.proofs.commit.let_go.Given as given
use Rattle.disk_array.proofs.commit.let_go.Goals as goal
use Rattle.disk_array.proofs.commit.let_go.Goals.{In-Some}

-- the record's place is one of the slots, and a newest place
there : (g : given.Over) (c : In-Some g)
    → (c.in-Some.record.place < length (kepts_of c.args.places.now.items)) × (c.in-Some.record.place < 65536) × (is_newest (get_or (kepts_of c.args.places.now.items) c.in-Some.record.place Nothing) ≡ true)
there g c =
    let low : c.in-Some.record.place < 65536 = search rules in
    let was : get_or (kepts_of c.args.places.now.items) c.in-Some.record.place Nothing ≡ Newest c.args.block = search rules in
    (kept_inside (kepts_of c.args.places.now.items) c.in-Some.record.place (λ none. let bad = sym was ∙ none in absurd (cc)), low, ap is_newest was)

pub one_fewer-requires : goal.one_fewer-requires
one_fewer-requires g c =
    let at = there g (goal.at.one_fewer-requires g c).In-Some in
    counted_there (kepts_of c.args.places.now.items) c.args.live.now c.in-Some.record.place at.0 at.1 at.2 c.requires.counts

pub returns-clause-counts : goal.returns-clause-counts
returns-clause-counts g c =
    let at = there g (goal.at.returns-clause-counts g c).In-Some in
    rw (c.take_out.ensures.left, c.one_fewer.ensures) (counts_fewer (kepts_of c.args.places.now.items) c.args.live.now c.in-Some.record.place at.0 at.1 at.2 c.requires.counts)
