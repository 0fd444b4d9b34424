-- The drives that are read into memory, of which the last is lost.
use Rattle.std.proofs.Common.{◌≡◌, ◌≢◌, ◌+◌, ◌<◌, ℕ, Bool, true, false, Some, List, length, replicate, slice_get, sym, ◌∙◌, ap, arith}
use Rattle.std.specs.Prelude.{◌++◌, drop, slice_set, take}
use Rattle.std.proofs.lemmas.List.{take_at}
use Rattle.extents.specs.Condition.{Held, is_gone}
use Rattle.extent_groups.specs.Cells.{Cells}
use Rattle.extent_groups.proofs.Places.{get-set_other}
use Rattle.unit_store.specs.Memory.{held_lost}
use Rattle.vault.specs.Images.{is_lost, is_some_true}
use Rattle.array_recovery.specs.Found.{AreFormed, HaveUnits}
use Rattle.drive_removal.specs.Shortened.{AreOthersOf}
use Rattle.drive_removal.proofs.Lists.{none_lost}

pub others_of : (c : Cells) (drives last count size : ℕ) (lost : List Bool) (before after : List Held) → last + 1 ≡ drives → lost ≡ slice_set (replicate 16 false) last true
    → length before ≡ drives → HaveUnits lost c before → AreFormed count size before → ((m : Held) → slice_get after last ≡ Some m → held_lost m ≡ true)
    → ((d : ℕ) → d ≢ last → slice_get after d ≡ slice_get before d) → length after ≡ length before → AreOthersOf c drives after
others_of c drives last count size lost before after one_more lost_is many have formed gone same long = record {
  many = long ∙ many;
  units = λ d a m low is within. have.each d a m (sym (same d (other d low)) ∙ is) (there d low) within;
  present = λ d m low is. ap is_gone (formed.present d m (sym (same d (other d low)) ∙ is));
  last = λ d m high is. let here : last ≡ d = omega (arith, one_more, high) in gone m (ap (λ n. slice_get after n) here ∙ is);
} where
  other : (d : ℕ) → d + 1 < drives → d ≢ last
  other d low e = omega (arith, low, one_more, e)

  there : (d : ℕ) → d + 1 < drives → is_lost lost d ≡ false
  there d low = ap (λ (l : List Bool). is_lost l d) lost_is ∙ ap is_some_true (get-set_other (replicate 16 false) last d true (other d low)) ∙ none_lost 16 d

-- a Vec whose elements were written as a slice
pub written_back : (len : ℕ) (items new : List Held) → len ≡ length items → length new ≡ length items → take len (new ++ drop (length new) items) ≡ new
written_back len items new whole kept = take_at new (drop (length new) items) len (kept ∙ sym whole)
