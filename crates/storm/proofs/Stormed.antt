-- From the first hand, which has seen how the history began, to what is said of a whole storm.
use Rattle.std.proofs.Common.{◌≡◌, ℕ, List, [], ◌∷◌, ◌++◌, map, None, sym, ap, ◌∙◌, subst}
use Rattle.map_words.specs.declared.view.View.{View}
use Rattle.slot_tables.specs.Views.{ArrayView, key_at}
use Rattle.history.specs.declared.view.Entry.{Entry}
use Rattle.history.specs.Entries.{Carried, Course, entry}
use Rattle.array_book.specs.Acts.{Act, Opens, Steps, Learns, Fails}
use Rattle.array_book.specs.Whole.{IsHistoryOf, IsMissing}
use Rattle.storm.specs.declared.outcome.Storm.{Storm}
use Rattle.storm.specs.Rounds.{HaveAllPlayed}
use Rattle.storm.specs.Ending.{IsEnding, IsFreshArray, HaveBegun, HasStormed}

-- one hand more comes after the first
pub begun_more : {T : Type 0} (hand_of : T → Carried Act) (xs ys : List T) (x : T) (array : ArrayView) → ys ≡ xs ++ x ∷ [] → HaveBegun (map hand_of xs) array → HaveBegun (map hand_of ys) array
begun_more hand_of [] ys x array same begun = absurd begun
begun_more hand_of (z ∷ zs) ys x array same begun = subst (λ l. HaveBegun (map hand_of l) array) (sym same) begun

-- the array with which a history begins
opened_by : ArrayView → Act → ArrayView
opened_by other (Opens array) = array
opened_by other (Steps steps answers) = other
opened_by other (Learns asked reported content) = other
opened_by other (Fails asked q) = other

opened_in : ArrayView → List (Entry Act) → ArrayView
unfolding opened_by
opened_in other [] = other
opened_in other (e ∷ es) = opened_by other e.what

-- it is the one that the first hand has seen
begins_with : (count : ℕ) (hands : List (Carried Act)) (keeper : Course Act) (array first : ArrayView) → HaveBegun hands first → (is : IsHistoryOf count hands keeper array) → first ≡ is.one.first
unfolding opened_by opened_in
begins_with count [] keeper array first begun is = absurd begun
begins_with count (hand ∷ hands) keeper array first begun is =
    let starts = is.whole.0.seen in
    let log : keeper.log ≡ entry 0 (Opens first) ∷ starts.0 = starts.1 ∙ ap (λ (l : List (Entry Act)). l ++ starts.0) begun in
    ap (opened_in first) (sym log ∙ is.one.begins)

pub stormed : (count payload rounds : ℕ) (hands : List (Carried Act)) (keeper : Course Act) (array first : ArrayView) (even odd : List View) (storm : Storm)
    → IsFreshArray payload first → HaveBegun hands first → HaveAllPlayed payload rounds hands → IsHistoryOf count hands keeper array → IsMissing keeper hands None → IsEnding even odd (key_at array) storm
    → HasStormed count payload rounds storm
stormed count payload rounds hands keeper array first even odd storm new begun played history missing ending = record {
  array = array;
  keeper = keeper;
  hands = hands;
  history = history;
  missing = missing;
  first = subst (IsFreshArray payload) (begins_with count hands keeper array first begun history) new;
  played = played;
  even = even;
  odd = odd;
  ending = ending;
}
