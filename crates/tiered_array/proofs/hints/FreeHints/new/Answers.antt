use Rattle.std.proofs.Common.{◌≡◌, ◌/◌, ◌^◌, ◌-◌, length, replicate, arith, ap, ◌∙◌}
use Rattle.std.proofs.lemmas.List.{length-replicate}
use Rattle.tiered_array.proofs.Words.{within, full}
use Rattle.tiered_array.proofs.hints.FreeHints.new.Goals as goal

pub invariant_of-result : goal.invariant_of-result
invariant_of-result c =
    let slots = c.in_ok-vec.field-0.items in
    let rows = c.in_ok-vec-2.field-0.items in
    let all : slots ≡ replicate 1024 (2 ^ 64 - 1) = c.in_ok-vec.ensures.items_if_clones_equal (λ y same. same) in
    let few : rows ≡ replicate 16 (2 ^ 64 - 1) = c.in_ok-vec-2.ensures.items_if_clones_equal (λ y same. same) in
    let long : length slots ≡ 1024 = ap length all ∙ length-replicate 1024 (2 ^ 64 - 1) in record {
      all = long;
      few = ap length few ∙ length-replicate 16 (2 ^ 64 - 1);
      above = λ s has. let low = within slots s has in full rows 16 (s / 64) few (omega (arith, long, low));
    }

pub returns : goal.returns
returns c slot low = full c.in_ok-vec.field-0.items 1024 slot (c.in_ok-vec.ensures.items_if_clones_equal (λ y same. same)) low
