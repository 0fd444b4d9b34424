use Rattle.std.proofs.Common.{rules, ◌≡◌, ℕ, zero, suc, List, [], ◌∷◌, ◌++◌, get_or, refl, ap, ◌∙◌}
use Rattle.slot_tables.specs.declared.slot_state.SlotState.TheVariants.{Free}
use Rattle.slot_tables.proofs.tables.free_places.Goals as goal

-- a list of one value throughout, with that value appended
more : {X : Type 0} (xs : List X) (d : X) → ((k : ℕ) → get_or xs k d ≡ d) → (k : ℕ) → get_or (xs ++ d ∷ []) k d ≡ d
more [] d all zero = refl
more [] d all (suc k) = refl
more (x ∷ xs) d all zero = all 0
more (x ∷ xs) d all (suc k) = more xs d (λ j. all (suc j)) k

pub loop-made-preserved : goal.loop-made-preserved
loop-made-preserved g c = record {
  count = search rules;
  room = search rules;
  same = λ k. ap (λ items. get_or items k Free) c.push_reserved.ensures.items ∙ more c.loop-made.places.items Free c.loop-made.invariant.same k;
}
