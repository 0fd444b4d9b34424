-- The turns of the blocks that were written, in a map that has room for all blocks.
use Rattle.std.proofs.Common.{◌≡◌, ◌∙◌, ◌⊎◌, inl, inr, ℕ, ◌+◌, ◌<◌, ◌≤◌, Bool, true, false, cond, nat_eq, List, [], ◌∷◌, ◌++◌, ◌||◌, length, map, get_or, set, Option, None, Some, is_some, unwrap_or, refl, sym, ap, subst, arith, IsSome, map-id}
use Rattle.std.proofs.lemmas.Bool.{eq-eqb, ne_eqb, cases_eq}
use Rattle.std.proofs.lemmas.Cmp.{nat_eq_equiv}
use Rattle.std.proofs.lemmas.List.{get_or-map, get_or-set_same, get_or-set_other, length-map, length-set, length_push}
use Rattle.std.proofs.lemmas.List.Folds.{list_any-append}
use Rattle.std.proofs.lemmas.Grind.{same_number_lists}
use Rattle.std.proofs.lemmas.Map.Keys.{IsDistinct-push}
use Rattle.std.proofs.lemmas.Map.Made.{is_some-lookup}
use Rattle.std.proofs.lemmas.Map.Steps.{length-le_from_distinct_below}
use Rattle.std.specs.List.{IsDistinct, list_any}
use Rattle.std.specs.Map.{lookup}
use Rattle.indexmap.specs.IndexMap.{IndexMap, get, keys, index_map_len, spare, ContainsKey, IsEmpty, IsUnique, Updates}
use Rattle.migrator.specs.Ages.{by_number}
use Rattle.migrator.specs.Inside.{turns_of, IsTurnTable}
use Rattle.migrator.proofs.Turned.{length_numbers, read_number}

-- the turn of each block by what is written down
abbrev pub turns_by : (ℕ → Option ℕ) → ℕ → List ℕ
turns_by f n = map (λ b. unwrap_or (f b) b) (by_number n)

pub length_by : (f : ℕ → Option ℕ) (n : ℕ) → length (turns_by f n) ≡ n
length_by f n = length-map (by_number n) _ ∙ length_numbers n

pub read_by : (f : ℕ → Option ℕ) (n b : ℕ) → b < n → get_or (turns_by f n) b 0 ≡ unwrap_or (f b) b
read_by f n b low =
    get_or-map (λ b. unwrap_or (f b) b) (by_number n) b 0 0 (omega (arith, low, length_numbers n))
    ∙ ap (λ b. unwrap_or (f b) b) (read_number n b low)

-- one more turn is written down
pub set_by : (f g : ℕ → Option ℕ) (n k v : ℕ) → k < n → ((q : ℕ) → g q ≡ cond (nat_eq k q) (Some v) (f q)) → turns_by g n ≡ set (turns_by f n) k v
set_by f g n k v low updates =
    same_number_lists (turns_by g n) (set (turns_by f n) k v) (length_by g n ∙ sym (length-set (turns_by f n) k v ∙ length_by f n))
    (λ b l. let here : b < n = omega (arith, l, length_by g n) in read_by g n b here ∙ by b here (cases_eq b k))
  where
    by : (b : ℕ) → b < n → (b ≡ k) ⊎ (b ≡ k → ⊥) → unwrap_or (g b) b ≡ get_or (set (turns_by f n) k v) b 0
    by b l (inl e) =
        ap (λ o. unwrap_or o b) (updates b ∙ ap (λ t. cond t (Some v) (f b)) (eq-eqb k b (sym e)))
        ∙ sym (ap (λ j. get_or (set (turns_by f n) k v) j 0) e ∙ get_or-set_same (turns_by f n) k v 0 (omega (arith, low, length_by f n)))
    by b l (inr ne) =
        ap (λ o. unwrap_or o b) (updates b ∙ ap (λ t. cond t (Some v) (f b)) (ne_eqb k b (λ e. ne (sym e))))
        ∙ sym (get_or-set_other (turns_by f n) k b v 0 ne ∙ read_by f n b l)

module _ {S : Type 0} where
  pub length_turns : (n : ℕ) (m : IndexMap ℕ ℕ S) (ts : List ℕ) → turns_of n m ≡ ts → n ≡ length ts
  length_turns n m ts view = sym (length_by (get nat_eq m) n) ∙ ap length view

  -- the turn of a block by the map
  pub read_turn : (n b : ℕ) (m : IndexMap ℕ ℕ S) (ts : List ℕ) (o : Option ℕ) → turns_of n m ≡ ts → b < length ts → o ≡ get nat_eq m b → unwrap_or o b ≡ get_or ts b 0
  read_turn n b m ts o view low found =
      ap (λ o. unwrap_or o b) found ∙ sym (read_by (get nat_eq m) n b (omega (arith, low, length_turns n m ts view))) ∙ ap (λ l. get_or l b 0) view

  -- of an empty map
  pub turns_of_none : (n : ℕ) (m : IndexMap ℕ ℕ S) → IsEmpty m → turns_of n m ≡ by_number n
  turns_of_none n m e = ap (λ es. map (λ b. unwrap_or (lookup (nat_eq b) es) b) (by_number n)) e ∙ map-id (by_number n)

  length_keys : (m : IndexMap ℕ ℕ S) → length (keys m) ≡ index_map_len m
  length_keys m = length-map m.entries _

  -- the keys are blocks, so there are at most as many
  pub count_written : (n : ℕ) (m : IndexMap ℕ ℕ S) → IsTurnTable n m → index_map_len m ≤ n
  count_written n m w =
      let few = length-le_from_distinct_below (keys m) n w.unique (λ q e. w.below q (is_some-lookup (nat_eq q) m.entries ∙ e)) in
      omega (arith, few, length_keys m)

  -- a block that isn't among them makes one fewer
  pub spare_for : (n b : ℕ) (m : IndexMap ℕ ℕ S) → IsTurnTable n m → b < n → get nat_eq m b ≡ None → 0 < spare m
  spare_for n b m w low absent =
      let fewer = length-le_from_distinct_below (keys m ++ b ∷ []) n distinct below in
      omega (arith, fewer, length_push (keys m) b, length_keys m, w.room)
    where
      missing : list_any (nat_eq b) (keys m) ≡ false
      missing = sym (is_some-lookup (nat_eq b) m.entries) ∙ ap is_some absent

      distinct : IsDistinct nat_eq (keys m ++ b ∷ [])
      distinct = IsDistinct-push nat_eq_equiv (keys m) b w.unique missing

      below : (q : ℕ) → list_any (nat_eq q) (keys m ++ b ∷ []) ≡ true → q < n
      below q e = by (list_any (nat_eq q) (keys m)) refl (cases_eq q b)
        where
          by : (t : Bool) → list_any (nat_eq q) (keys m) ≡ t → (q ≡ b) ⊎ (q ≡ b → ⊥) → q < n
          by true has other = w.below q (is_some-lookup (nat_eq q) m.entries ∙ has)
          by false out (inl same) = omega (arith, same, low)
          by false out (inr ne) =
              absurd (let parts = list_any-append (nat_eq q) (keys m) (b ∷ []) in
              let last = ne_eqb q b ne in
              let both : true ≡ false = sym e ∙ parts ∙ (λ i. out i || (last i || false)) in
              cc)

  -- one more turn is written down
  pub written_more : (n b v : ℕ) (m more : IndexMap ℕ ℕ S) → IsTurnTable n m → b < n → Updates nat_eq m more b (Some v) → IsUnique nat_eq more → n ≤ index_map_len more + spare more
      → IsTurnTable n more
  written_more n b v m more w low updates unique room = record {
    few = w.few;
    unique = unique;
    below = λ q has. below q has (cases_eq q b);
    room = room;
  }
    where
      below : (q : ℕ) → ContainsKey nat_eq more q → (q ≡ b) ⊎ (q ≡ b → ⊥) → q < n
      below q has (inl same) = omega (arith, same, low)
      below q has (inr ne) =
          w.below q (subst IsSome (updates.0 q ∙ ap (λ t. cond t (Some v) (get nat_eq m q)) (ne_eqb b q (λ e. ne (sym e)))) has)

  pub turns_more : (n b v : ℕ) (m more : IndexMap ℕ ℕ S) → b < n → Updates nat_eq m more b (Some v) → turns_of n more ≡ set (turns_of n m) b v
  turns_more n b v m more low updates = set_by (get nat_eq m) (get nat_eq more) n b v low updates.0
