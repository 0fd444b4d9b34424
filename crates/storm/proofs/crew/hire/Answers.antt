use Rattle.std.proofs.Common.{◌≡◌, [], ap, subst, ◌∙◌, rules}
use Rattle.std.specs.List.{All}
use Rattle.history.specs.Entries.{Carried}
use Rattle.array_book.specs.Acts.{Act}
use Rattle.storm.proofs.Playing.{all_popped, hired_push}
use Rattle.storm.proofs.crew.hire.Goals as goal

pub loop-number-preserved : goal.loop-number-preserved
loop-number-preserved g c =
    let left = all_popped (λ (h : Carried Act). h.mine ≡ []) c.pop.new.self.items c.in-Some.part
    (subst (All (λ (h : Carried Act). h.mine ≡ [])) c.in-Some.ensures.items c.loop-number.invariant.parts) in
    let same : c.new-worker.result.hand ≡ c.in-Some.part = search rules in
    record {
      first = search rules;
      parts = left.0;
      many = search rules;
      hired = hired_push (λ w. w.number) (λ w. w.hand) c.loop-number.hired.items c.push.new.self.items c.new-worker.result c.loop-number.number (search rules) c.loop-number.invariant.many c.new-worker.ensures.number (ap (λ (h : Carried Act). h.mine) same ∙ left.1) c.loop-number.invariant.hired;
    }
