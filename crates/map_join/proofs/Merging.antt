-- A map that is joined with the pages of another, one after the other.
use Rattle.std.proofs.Common.{◌≡◌, ℕ, ◌+◌, ◌*◌, ◌/◌, ◌%◌, ◌^◌, ◌<◌, ◌≤◌, max, Bool, true, false, [], ◌∷◌, ◌++◌, length, slice_index, List, Some, None, Result, Ok, Err, OnOk, OnErr, IsOk, refl, sym, ap, ◌∙◌, subst, arith, ◌⊎◌, inl, inr}
use Rattle.std.proofs.lemmas.Bool.{cases_eq, cases_lt}
use Rattle.std.proofs.lemmas.List.{append-nil}
use Rattle.map_join.specs.declared.records.Record.{Record}
use Rattle.map_join.specs.Maps.{Lanes, Entries, find, at, lanes_of, IsSame, IsBelow, join, IsJoinedBelow, IsPartlyJoined, IsMapOf}
use Rattle.map_join.specs.Pages.{HasKey, AreNumbers, IsFirstBlock, paged}
use Rattle.map_join.proofs.Fronts.{IsMet, met_page, unmet, met_below, met_at, front_more}
use Rattle.map_join.proofs.Joins.{together}
use Rattle.map_join.proofs.Lanes.{IsFirstKey, first_key}
use Rattle.map_join.proofs.Paged.{Answer, at_is, at_lane, at_none, number_of, lane_of, paged_here, paged_else}

pub whole : (es front rest : Entries) → front ++ rest ≡ es → rest ≡ [] → front ≡ es
whole es front rest parts none = sym (append-nil front) ∙ ap (λ (xs : Entries). front ++ xs) (sym none) ∙ parts

module _ (es front : Entries) (number : ℕ) (keys : Lanes) (rest : Entries) (met : IsMet es front number keys rest) where
  pub number_met : AreNumbers es → number < 2 ^ 26
  number_met numbers = numbers number keys (met_page es front number keys rest met)

  -- one page more is joined
  pub joined_more : (M was now : ℕ → ℕ) → IsSame was (join M (at front)) → IsSame now (join was (paged number (slice_index keys)))
      → IsSame now (join M (at (front ++ (number, keys) ∷ [])))
  joined_more M was now before step b =
      let e = before b in
      let s = step b in
      let f = front_more es front number keys rest met b in
      grind arith

  -- or there is no memory for it, and the join stops before its first key
  stopped : (M now : ℕ → ℕ) (lane : ℕ) → IsFirstKey keys lane → IsSame now (join M (at front)) → now (64 * number + lane) ≡ 0
      → IsJoinedBelow (64 * number + lane) M (at es) now
  stopped M now lane first before none = record { below = below; rest = other; missing = missing; there = there }
    where
      below : (b : ℕ) → b < 64 * number + lane → now b ≡ max (M b) (at es b)
      below b lt = go (cases_lt (b / 64) number)
        where
          go : (b / 64 < number) ⊎ (number ≤ b / 64) → now b ≡ max (M b) (at es b)
          go (inl l) = let e = before b in let f = met_below es front number keys rest met b l in grind arith
          go (inr le) =
              let low = first.low in
              let here : b / 64 ≡ number = omega arith in
              let e = before b in
              let u = unmet es front number keys rest met b le in
              let k = met_at es front number keys rest met b here in
              let z = first.none (b % 64) (omega arith) in
              grind arith

      other : (b : ℕ) → 64 * number + lane ≤ b → now b ≡ M b
      other b le = let e = before b in let f = unmet es front number keys rest met b (omega arith) in grind arith

      missing : M (64 * number + lane) ≡ 0
      missing = let e = before (64 * number + lane) in grind arith

      there : 0 < at es (64 * number + lane)
      there =
          let low = first.low in
          let k = met_at es front number keys rest met (64 * number + lane) (number_of number lane low) in
          let l : slice_index keys ((64 * number + lane) % 64) ≡ slice_index keys lane = ap (slice_index keys) (lane_of number lane low) in
          let above = first.key in
          omega arith

  pub stopped_here : (M : ℕ → ℕ) (was now : Entries) → HasKey keys → IsSame (at was) (join M (at front)) → now ≡ was → find was number ≡ None
      → IsPartlyJoined M (at es) (at now)
  stopped_here M was now some before kept none =
      let first = first_key keys some in
      let bound : ℕ = 64 * number + first.0 in
      let gone : at was bound ≡ 0 = at_lane was number first.0 first.1.low ∙ ap (λ o. lanes_of o first.0) none in
      subst (λ (xs : Entries). IsPartlyJoined M (at es) (at xs)) (sym kept) (bound, stopped M (at was) first.0 first.1 before gone)

  -- one page more is no greater
  pub below_more : (mine : Entries) → IsBelow (at front) (at mine) → ((lane : ℕ) → lane < 64 → slice_index keys lane ≤ lanes_of (find mine number) lane)
      → IsBelow (at (front ++ (number, keys) ∷ [])) (at mine)
  below_more mine before le b = go (cases_eq (b / 64) number)
    where
      go : (b / 64 ≡ number) ⊎ (b / 64 ≡ number → ⊥) → at (front ++ (number, keys) ∷ []) b ≤ at mine b
      go (inl is) =
          let f = front_more es front number keys rest met b in
          let e = paged_here number (slice_index keys) b is in
          let old = before b in
          let l = le (b % 64) (omega arith) in
          let m : at mine b ≡ lanes_of (find mine number) (b % 64) = at_is mine b ∙ ap (λ n. lanes_of (find mine n) (b % 64)) is in
          grind arith
      go (inr ne) =
          let f = front_more es front number keys rest met b in
          let e = paged_else number (slice_index keys) b ne in
          let old = before b in
          grind arith

  pub below_next : (inside mine : Entries) (theirs ours : Lanes) → inside ≡ mine → theirs ≡ keys → IsSame (slice_index ours) (lanes_of (find inside number))
      → IsBelow (at front) (at mine) → ((lane : ℕ) → lane < 64 → slice_index theirs lane ≤ slice_index ours lane) → IsBelow (at (front ++ (number, keys) ∷ [])) (at mine)
  below_next inside mine theirs ours is own same before le = below_more mine before lanes
    where
      lanes : (lane : ℕ) → lane < 64 → slice_index keys lane ≤ lanes_of (find mine number) lane
      lanes lane low =
          let l = le lane low in
          let k : slice_index theirs lane ≡ slice_index keys lane = ap (λ (xs : Lanes). slice_index xs lane) own in
          let m : slice_index ours lane ≡ lanes_of (find mine number) lane = same lane ∙ ap (λ (xs : Entries). lanes_of (find xs number) lane) is in
          omega arith

  -- the lanes of a page are no greater where the map is none greater
  pub lanes_below : (mine : Entries) → IsBelow (at es) (at mine) → (lane : ℕ) → lane < 64 → slice_index keys lane ≤ lanes_of (find mine number) lane
  lanes_below mine below lane low =
      let b = below (64 * number + lane) in
      let k : at es (64 * number + lane) ≡ slice_index keys lane =
      at_lane es number lane low ∙ ap (λ o. lanes_of o lane) (met_page es front number keys rest met) in
      let m = at_lane mine number lane low in
      omega arith

  pub lanes_le : (inside mine : Entries) (theirs ours : Lanes) → inside ≡ mine → theirs ≡ keys → IsSame (slice_index ours) (lanes_of (find inside number))
      → IsBelow (at es) (at mine) → (lane : ℕ) → lane < 64 → slice_index theirs lane ≤ slice_index ours lane
  lanes_le inside mine theirs ours is own same below lane low =
      let l = lanes_below mine below lane low in
      let k : slice_index theirs lane ≡ slice_index keys lane = ap (λ (xs : Lanes). slice_index xs lane) own in
      let m : slice_index ours lane ≡ lanes_of (find mine number) lane = same lane ∙ ap (λ (xs : Entries). lanes_of (find xs number) lane) is in
      omega arith

-- then the other has a block that the map didn't have
pub stopped_where : (bound : ℕ) (M N now : ℕ → ℕ) → IsJoinedBelow bound M N now → ((block : ℕ) → 0 < N block → 0 < M block) → false ≡ true
stopped_where bound M N now joined all = let there = all bound joined.there in let none = joined.missing in absurd (omega arith)

-- joined once more, it is the whole join
pub completed : (bound : ℕ) (M N now : ℕ → ℕ) → IsJoinedBelow bound M N now → IsSame (join now N) (join M N)
completed bound M N now joined block = go (cases_lt block bound)
  where
    go : (block < bound) ⊎ (bound ≤ block) → max (now block) (N block) ≡ max (M block) (N block)
    go (inl lt) = let e = joined.below block lt in grind arith
    go (inr le) = let e = joined.rest block le in grind arith

-- all pages are joined
pub all_joined : (es front rest : Entries) (M now : ℕ → ℕ) → front ++ rest ≡ es → rest ≡ [] → IsSame now (join M (at front)) → IsSame now (join M (at es))
all_joined es front rest M now parts none joined = subst (λ (xs : Entries). IsSame now (join M (at xs))) (whole es front rest parts none) joined

-- before the first page nothing is joined
pub joined_none : (M : ℕ → ℕ) → IsSame M (join M (at []))
joined_none M block = let z = at_none block in grind arith

pub below_none : (M : ℕ → ℕ) → IsBelow (at []) M
below_none M block = let z = at_none block in omega arith

-- what holds anyway holds where a call failed
pub at_err : {X Y : Type 0} (result : Result X Y) (P : Type 0) → P → OnErr result P
at_err (Ok _) P p = tt
at_err (Err _) P p = p

-- the first block of a map that has a page
pub first_block : (es : Entries) (number : ℕ) (keys : Lanes) (rest : Entries) → IsMet es [] number keys rest → HasKey keys → (block : ℕ) × IsFirstBlock (at es) block
first_block es number keys rest met some =
    let first = first_key keys some in
    let stop = stopped es [] number keys rest met (λ _. 0) (λ _. 0) first.0 first.1 (joined_none (λ _. 0)) refl in
    (64 * number + first.0, (stop.there, λ lower lt. let e = stop.below lower lt in omega arith))

-- nothing was joined of a map that has a first block
pub stopped_at_once : (was es : Entries) → was ≡ [] → (block : ℕ) × IsFirstBlock (at es) block → IsPartlyJoined (at was) (at es) (at was)
stopped_at_once was es none first = (
  first.0,
  record {
    below = λ b lt. let z = zero b in let n = first.1.1 b lt in grind arith;
    rest = λ b le. refl;
    missing = zero first.0;
    there = first.1.0;
  },
)
  where
    zero : (b : ℕ) → at was b ≡ 0
    zero b = ap (λ (xs : Entries). at xs b) none ∙ at_none b

-- a call that fails only where there is a block
pub first_there : (es inside : Entries) (ok : Bool) → inside ≡ es → (ok ≡ false → (block : ℕ) × IsFirstBlock (at inside) block) → IsSame (at es) (λ _. 0) → ok ≡ true
first_there es inside true is fails none = refl
first_there es inside false is fails none =
    let first = fails refl in
    let z : at inside first.0 ≡ 0 = ap (λ (xs : Entries). at xs first.0) is ∙ none first.0 in
    let above = first.1.0 in
    absurd (omega arith)

-- a map without blocks that became a copy is the join
pub copied_join : (result : Answer) (was es now : Entries) → was ≡ [] → OnOk result (now ≡ es) → OnOk result (IsSame (at now) (join (at was) (at es)))
copied_join (Err _) was es now none same = tt
copied_join (Ok _) was es now none same = λ block.
    (let e : at now block ≡ at es block = ap (λ (xs : Entries). at xs block) same in
    let z : at was block ≡ 0 = ap (λ (xs : Entries). at xs block) none ∙ at_none block in
    grind arith)

pub copied_map : (result : Answer) (was es now : Entries) → was ≡ [] → OnOk result (now ≡ es)
    → OnOk result ((ours theirs : List Record) → IsMapOf ours (at was) → IsMapOf theirs (at es) → IsMapOf (ours ++ theirs) (at now))
copied_map (Err _) was es now none same = tt
copied_map (Ok e) was es now none same = λ ours theirs our_map their_map.
    together ours theirs (at was) (at es) (at now) (copied_join (Ok e) was es now none same) our_map their_map

-- a join runs out of memory only where the map lacks a block of the other
pub partly_where : (result : Answer) (M N now : ℕ → ℕ) → OnErr result (IsPartlyJoined M N now) → ((block : ℕ) → 0 < N block → 0 < M block) → IsOk result
partly_where (Ok _) M N now stop all = refl
partly_where (Err _) M N now stop all = stopped_where stop.0 M N now stop.1 all

-- what was joined in part, joined once more, is the whole join
pub partly_again : (result : Answer) (M N now : ℕ → ℕ) → OnErr result (IsPartlyJoined M N now) → OnErr result (IsSame (join now N) (join M N))
partly_again (Ok _) M N now stop = tt
partly_again (Err _) M N now stop = completed stop.0 M N now stop.1

-- a list of length 0 is empty
pub none_of : (es : Entries) → length es ≡ 0 → es ≡ []
none_of [] zero = refl
none_of (e ∷ es) zero = absurd (omega arith)

-- a map that has a page has a block
pub some_at : (es : Entries) (number : ℕ) (keys : Lanes) → find es number ≡ Some keys → HasKey keys → (block : ℕ) × (0 < at es block)
some_at es number keys is some = (
  64 * number + some.0,
  (let e : at es (64 * number + some.0) ≡ slice_index keys some.0 = at_lane es number some.0 some.1 ∙ ap (λ o. lanes_of o some.0) is in
      let above = some.2 in
      omega arith),
)
