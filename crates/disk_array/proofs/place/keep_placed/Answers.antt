use Rattle.std.proofs.Common.{◌≡◌, ◌/◌, ◌∙◌, false, get_or, sym, ap, arith}
use Rattle.slot_tables.specs.Kept.{kepts_of}
use Rattle.slot_tables.specs.Counted.{is_newest}
use Rattle.slot_tables.specs.Views.{Nothing, Newest}
use Rattle.slot_tables.proofs.Commits.{passed_apart}
use Rattle.slot_tables.proofs.Counts.{counted_few, counts_more}
use Rattle.slot_tables.proofs.Places.{kepts_longer}
use Rattle.disk_array.proofs.place.keep_placed.Given as given
use Rattle.disk_array.proofs.place.keep_placed.Goals as goal
use Rattle.disk_array.proofs.place.keep_placed.Goals.{After-let_go-old}

-- nothing is kept of the slot once the block's last place was taken out
free : (g : given.Over) (c : After-let_go-old g) → get_or (kepts_of c.let_go-old.new.places.items) c.args.slot Nothing ≡ Nothing
free g c =
    ap (λ k. get_or k c.args.slot Nothing) c.let_go-old.ensures.kept
    ∙ passed_apart (kepts_of c.args.places.now.items) c.args.slot c.args.found
    (λ q is e. let bad : Newest c.args.block ≡ Nothing = sym (c.requires.newest q is) ∙ ap (λ n. get_or (kepts_of c.args.places.now.items) n Nothing) e ∙ c.requires.free in absurd (cc))
    ∙ c.requires.free

pub one_more-requires : goal.one_more-requires
one_more-requires g c =
    let low = c.ranges.slot.fits in
    let few = counted_few (kepts_of c.let_go-old.new.places.items) c.let_go-old.new.live (c.args.slot / 128) (omega (arith, low)) c.let_go-old.ensures.counts in
    omega (arith, few)

pub returns-clause-counts : goal.returns-clause-counts
returns-clause-counts g c =
    let kept = kepts_of c.let_go-old.new.places.items in
    let own = c.let_go-old.new.places.ok.0 in
    let long = kepts_longer c.let_go-old.new.places.items in
    let isnt : is_newest (get_or kept c.args.slot Nothing) ≡ false = ap is_newest (free g (goal.at.returns-clause-counts g c).After-let_go-old) in
    rw (c.put_in.ensures.kept, c.one_more.ensures) (counts_more kept c.let_go-old.new.live c.args.slot c.args.block (omega (arith, own, long, c.let_go-old.ensures.room, c.requires.inside)) c.ranges.slot.fits isnt c.let_go-old.ensures.counts)
