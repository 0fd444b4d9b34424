use Rattle.std.proofs.Common.{Some, sym, ap, ◌∙◌, arith}
use Rattle.std.specs.Prelude.{slice_range, slice_index_or}
use Rattle.std.proofs.lemmas.Bool.{true≢false}
use Rattle.std.proofs.lemmas.Bool.Decides.{Decides-eqb}
use Rattle.std.proofs.lemmas.Slice.Eq.{slice_eq-Decides}
use Rattle.vault.specs.declared.batch.Entry.{Entry}
use Rattle.vault.proofs.Held.{within_here, unit_at, is_unit_at, unit_below}
use Rattle.vault.proofs.batch.is_unit_of.Goals as goal

pub slice_bounds-eq-count : goal.slice_bounds-eq-count
slice_bounds-eq-count c = (within_here c.args.units.now c.args.entries.now c.args.index _ c.requires c.if-index-entries.false).0

pub slice_bounds-eq-start : goal.slice_bounds-eq-start
slice_bounds-eq-start c = (within_here c.args.units.now c.args.entries.now c.args.index _ c.requires c.if-index-entries.false).0

pub slice_bounds-eq-end : goal.slice_bounds-eq-end
slice_bounds-eq-end c =
    let none : Entry = record { place = record { drive = 0; address = 0 }; from = 0; to = 0 } in
    (within_here c.args.units.now c.args.entries.now c.args.index none c.requires c.if-index-entries.false).1

pub returns-then-index-entries : goal.returns-then-index-entries
returns-then-index-entries c = (
  (λ never. absurd (true≢false (sym never))),
  (λ is. let low = unit_below c.args.units.now c.args.entries.now c.args.index c.args.unit.now is in let past = c.if-index-entries.true in absurd (omega (arith, low, past))),
)

pub returns : goal.returns
returns c =
    let none : Entry = record { place = record { drive = 0; address = 0 }; from = 0; to = 0 } in
    let units = c.args.units.now in
    let es = c.args.entries.now in
    let k = c.args.index in
    let e = slice_index_or es k none in
    let decides = slice_eq-Decides Decides-eqb (slice_range units e.from e.to) c.args.unit.now c.eq.result c.eq.ensures in
    ((λ yes. unit_at units es k none c.if-index-entries.false ∙ ap (λ u. Some u) (decides.0 yes)), (λ is. decides.1 (is_unit_at units es k none c.args.unit.now is)))

pub returns-then-differ : goal.returns-then-differ
returns-then-differ c = (
  (λ never. absurd (true≢false (sym never))),
  (λ is.
      let none : Entry = record { place = record { drive = 0; address = 0 }; from = 0; to = 0 } in
      let es = c.args.entries.now in
      absurd (c.differ.ensures c.if-differ.true (slice_index_or es c.args.index none).to (is_unit_at c.args.units.now es c.args.index none c.args.unit.now is))),
)
