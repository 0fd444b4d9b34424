-- What a write of a drive leaves of what was saved.
use Rattle.std.proofs.Common.{◌≡◌, ◌≢◌, ◌<◌, inl, inr, ℕ, Bool, true, false, List, length, slice_set, refl, sym, ◌∙◌, subst}
use Rattle.std.specs.Prelude.{Contains}
use Rattle.std.proofs.lemmas.Bool.{true≢false}
use Rattle.std.proofs.lemmas.List.{length-set}
use Rattle.extent_groups.proofs.Places.{get-set_other, same_or_not}
use Rattle.cached_drive.specs.Saving.{Units, AreSaved}

still_all : (was now : Bool) → (was ≡ true → now ≡ true) → now ≡ false → was ≡ false
still_all true now stays is = absurd (true≢false (sym (stays refl) ∙ is))
still_all false now stays is = refl

pub written : (all all_now : Bool) (dirty dirty_now : List ℕ) (saved units : Units) (at : ℕ) (unit : List ℕ) → at < length units
    → AreSaved all dirty saved units → (all_now ≡ false → Contains dirty_now at) → (all_now ≡ false → (a : ℕ) → Contains dirty a → Contains dirty_now a)
    → ((a : ℕ) → Contains dirty_now a → a ≢ at → Contains dirty a) → (all ≡ true → all_now ≡ true)
    → AreSaved all_now dirty_now saved (slice_set units at unit)
written all all_now dirty dirty_now saved units at unit below was listed kept only stays = record {
  many = was.many ∙ sym (length-set units at unit);
  listed = λ no x out. was.listed (still_all all all_now stays no) x (λ in_it. out (kept no x in_it))
      ∙ sym (get-set_other units at x unit (λ same. out (subst (Contains dirty_now) (sym same) (listed no))));
  inside = λ x in_it. subst (λ n. x < n) (sym (length-set units at unit)) (elim (same_or_not x at) [
    | inl same ↦ subst (λ n. n < length units) (sym same) below
    | inr ne ↦ was.inside x (only x in_it ne)
  ]);
}
