-- Calls that only read a vault, one after the other.
use Rattle.std.proofs.Common.{◌≡◌, inl, inr, ℕ, refl, ◌∙◌, arith}
use Rattle.vault.specs.Images.{Image}
use Rattle.vault.specs.Moments.{Elapses}
use Rattle.vault.specs.declared.store.Stop.{Stop}
use Rattle.extent_groups.specs.declared.place.Place.{Place}
use Rattle.rotten_units.specs.Loaded.{NotesRotten, OnlyRead, SameAttested}

module _ {V : Type 0} (seen : V → Image) (may_leave : V → Stop → Image → Type 0) (moment : V → ℕ) (left_since : V → Stop → ℕ → Image → Type 0) where
  -- no call
  pub read_none : (a : V) → OnlyRead seen may_leave moment left_since a a
  read_none a = record {
    finds = refl;
    time = λ stop. record { later = omega arith; nothing_else = λ t i le since. inl since; keeps = λ t i le past. past; ends = λ i left. left };
  }

  -- one call more
  pub read_more : (a b c : V) → OnlyRead seen may_leave moment left_since a b → OnlyRead seen may_leave moment left_since b c → OnlyRead seen may_leave moment left_since a c
  read_more a b c one two = record {
    finds = two.finds ∙ one.finds;
    time = λ stop.
        let x = one.time stop in
        let y = two.time stop in
        let first = x.later in
        let second = y.later in
        record {
          later = omega (arith, first, second);
          nothing_else = λ t i le since. elim (y.nothing_else t i (omega (arith, le, first)) since) [ inl past ↦ x.nothing_else t i le past | inr during ↦ inr (x.ends i during) ];
          keeps = λ t i le past. y.keeps t i (omega (arith, le, first)) (x.keeps t i le past);
          ends = λ i left. x.ends i (y.ends i left);
        };
  }

  -- one call of the vault more
  pub read_call : (a b c : V) → OnlyRead seen may_leave moment left_since a b → seen c ≡ seen b
      → ((stop : Stop) → Elapses (moment b) (moment c) (left_since b stop) (left_since c stop) (may_leave b stop) (may_leave c stop)) → OnlyRead seen may_leave moment left_since a c
  read_call a b c one finds time = read_more a b c one (record { finds = finds; time = time })

-- calls that leave attested what was
pub same_more : {V : Type 0} (attested : V → Place → Type 0) (a b c : V) → SameAttested attested a b → SameAttested attested b c → SameAttested attested a c
same_more attested a b c one two x = ((λ n. (one x).0 ((two x).0 n)), (λ o. (two x).1 ((one x).1 o)))

-- more places that aren't attested are noted
pub notes_more : (was mid noted more latest : Place → Type 0) → ((x : Place) → was x → mid x) → NotesRotten was noted more → NotesRotten mid more latest → NotesRotten was noted latest
notes_more was mid noted more latest before one two x n = elim (two x n) [ inl m ↦ one x m | inr out ↦ inr (λ a. out (before x a)) ]
