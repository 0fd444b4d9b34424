use Rattle.std.proofs.Common.{◌≡◌, [], ◌∷◌, ◌++◌, List, rules, sym, ap, subst}
use Rattle.history.specs.declared.view.Entry.{Entry}
use Rattle.history.specs.Entries.{entry, Course}
use Rattle.tests_history.specs.Calls.{Appended, appended, AppendsAll}
use Rattle.tests_history.proofs.Longer.{runs_more}
use Rattle.tests_history.proofs.shelf.Shelf.append.Goals as goal

-- the bytes and their history are one call longer
pub invariant_of-self-2 : goal.invariant_of-self-2
invariant_of-self-2 g c =
    let log = c.self.inside.keeper.log in
    let e = entry c.args.me.now.number (appended c.args.item.now c.len-place.result) in
    let more : AppendsAll [] (log ++ e ∷ []) (c.self.inside.bytes.items ++ c.args.item.now) = runs_more [] c.self.inside.bytes.items log e c.self.invariant (search rules) in
    let same : c.note.new.self.log ≡ log ++ e ∷ [] = ap (λ (k : Course Appended). k.log) c.note.ensures.log in
    let bytes : c.extend_from_slice.new.self.items ≡ c.self.inside.bytes.items ++ c.args.item.now = search rules in
    subst (λ (l : List (Entry Appended)). AppendsAll [] l c.extend_from_slice.new.self.items) (sym same) (subst (λ b. AppendsAll [] (log ++ e ∷ []) b) (sym bytes) more)
