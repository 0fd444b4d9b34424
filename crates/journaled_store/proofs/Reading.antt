-- Calls of a vault that only read, one after another.
use Rattle.std.proofs.Common.{◌≡◌, inl, inr, ℕ, arith, ◌∙◌}
use Rattle.vault.specs.Images.{Image}
use Rattle.vault.specs.Moments.{Elapses}
use Rattle.vault.specs.declared.store.Stop.{Stop}
use Rattle.journaled_store.specs.Keeping.{OnlyReadKnown}

-- time goes on by two calls that only read
pub elapses_more : {I : Type 0} (a b c : ℕ) (one two three : ℕ → I → Type 0) (here there then : I → Type 0)
    → Elapses a b one two here there → Elapses b c two three there then → Elapses a c one three here then
elapses_more a b c one two three here there then x y = record {
  later = let s = x.later in let t = y.later in omega (arith, s, t);
  nothing_else = λ t i le left. elim (y.nothing_else t i (let s = x.later in omega (arith, le, s)) left) [
    | inl was ↦ x.nothing_else t i le was
    | inr is ↦ inr (x.ends i is)
  ];
  keeps = λ t i le was. y.keeps t i (let s = x.later in omega (arith, le, s)) (x.keeps t i le was);
  ends = λ i is. x.ends i (y.ends i is);
}

-- two calls that only read
pub read_more : {V : Type 0} (known : V → Type 0) (seen : V → Image) (may_leave : V → Stop → Image → Type 0) (moment : V → ℕ) (left_since : V → Stop → ℕ → Image → Type 0) (old mid new : V)
    → OnlyReadKnown known seen may_leave moment left_since old mid → OnlyReadKnown known seen may_leave moment left_since mid new → OnlyReadKnown known seen may_leave moment left_since old new
read_more known seen may_leave moment left_since old mid new one two = record {
  stays = two.stays;
  finds = two.finds ∙ one.finds;
  time = λ stop. elapses_more (moment old) (moment mid) (moment new) (left_since old stop) (left_since mid stop) (left_since new stop)
      (may_leave old stop) (may_leave mid stop) (may_leave new stop) (one.time stop) (two.time stop);
}
