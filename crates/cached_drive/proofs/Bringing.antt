-- Writes of a drive's changed units make its saved units those of now.
use Rattle.std.proofs.Common.{◌≡◌, ◌≢◌, ◌<◌, ◌⊎◌, inl, inr, ℕ, zero, suc, arith, Bool, false, Some, None, List, [], ◌∷◌, ◌++◌, length, append_assoc, slice_get, refl, sym, ◌∙◌, ap, subst}
use Rattle.std.specs.Prelude.{Contains, slice_index_or}
use Rattle.std.proofs.lemmas.Option.{slice_get-get_or}
use Rattle.std.proofs.lemmas.List.Elements.{Contains-push, Contains-push_cases, Contains-append_left}
use Rattle.extent_groups.specs.declared.place.Place.{Place}
use Rattle.extent_groups.specs.Cells.{Cells}
use Rattle.extent_groups.specs.Planned.{Intended, over, with_unit, after}
use Rattle.extent_groups.proofs.Finishing.{write_here, write_else}
use Rattle.extent_groups.proofs.Places.{same_or_not}
use Rattle.history.specs.declared.view.Entry.{Entry}
use Rattle.cached_drive.specs.Saving.{Units, AreSaved, Brings, writes_at, upto, last_of}

-- one of some addresses
abbrev pub IsIn : List ℕ → ℕ → Type 0
IsIn [] a = ⊥
IsIn (x ∷ xs) a = (x ≡ a) ⊎ IsIn xs a

pub into : (xs : List ℕ) (a : ℕ) → Contains xs a → IsIn xs a
into [] a (k, low, is) = absurd (omega (arith, low))
into (x ∷ xs) a (zero, low, is) = inl is
into (x ∷ xs) a (suc k, low, is) = inr (into xs a (k, omega (arith, low), is))

pub back : (xs : List ℕ) (a : ℕ) → IsIn xs a → Contains xs a
back [] a out = absurd out
back (x ∷ xs) a (inl is) = (0, omega arith, is)
back (x ∷ xs) a (inr more) = let rest = back xs a more in let low = rest.1 in (suc rest.0, omega (arith, low), rest.2)

pub in_or_not : (xs : List ℕ) (a : ℕ) → IsIn xs a ⊎ (IsIn xs a → ⊥)
in_or_not [] a = inr (λ out. out)
in_or_not (x ∷ xs) a = elim (same_or_not x a) [
  | inl is ↦ inl (inl is)
  | inr ne ↦ elim (in_or_not xs a) [
    | inl more ↦ inl (inr more)
    | inr out ↦ inr (λ both. elim both [ inl is ↦ ne is | inr more ↦ out more ])
  ]
]

module _ (drive : ℕ) (units : Units) where
  abbrev place_of : ℕ → Place
  place_of at = record { drive = drive; address = at }

  abbrev write_of : ℕ → Intended
  write_of at = record { place = record { drive = drive; address = at }; unit = slice_index_or units at [] }

  -- each of the drive's units is held already, or one is held that is still to be written
  abbrev Due : Cells → List ℕ → Type 0
  Due c ats = (at : ℕ) → (c drive at ≡ slice_get units at) ⊎ (IsIn ats at × ((u : List ℕ) × (c drive at ≡ Some u)))

  unit_there : (c : Cells) (b : ℕ) (bs : List ℕ) → b < length units → Due c (b ∷ bs) → (u : List ℕ) × (c drive b ≡ Some u)
  unit_there c b bs low due = elim (due b) [
    | inl is ↦ (slice_index_or units b [], is ∙ slice_get-get_or units b [] low)
    | inr one ↦ one.1
  ]

  written_here : (c : Cells) (b : ℕ) (bs : List ℕ) → b < length units → Due c (b ∷ bs) → with_unit c (write_of b) drive b ≡ slice_get units b
  written_here c b bs low due =
      let there = unit_there c b bs low due in
      write_here c (write_of b) ∙ ap (λ o. over o (slice_index_or units b [])) there.1 ∙ sym (slice_get-get_or units b [] low)

  others_held : (c : Cells) (b at : ℕ) → at ≢ b → with_unit c (write_of b) drive at ≡ c drive at
  others_held c b at ne = write_else c (write_of b) (place_of at) (λ e. ne (sym (ap (λ (p : Place). p.address) e)))

  due_next : (c : Cells) (b : ℕ) (bs : List ℕ) → b < length units → Due c (b ∷ bs) → Due (with_unit c (write_of b)) bs
  due_next c b bs low due at = elim (same_or_not at b) [
    | inl same ↦ inl (subst (λ n. with_unit c (write_of b) drive n ≡ slice_get units n) (sym same) (written_here c b bs low due))
    | inr ne ↦ elim (due at) [
      | inl is ↦ inl (others_held c b at ne ∙ is)
      | inr one ↦ elim one.0 [
        | inl e ↦ absurd (ne (sym e))
        | inr more ↦ inr (more, (one.1.0, others_held c b at ne ∙ one.1.1))
      ]
    ]
  ]

  all_brought : (ats : List ℕ) (c : Cells) → ((a : ℕ) → IsIn ats a → a < length units) → Due c ats → (at : ℕ) → after c (writes_at drive units ats) drive at ≡ slice_get units at
  all_brought [] c inside due at = elim (due at) [ inl is ↦ is | inr one ↦ absurd one.0 ]
  all_brought (b ∷ bs) c inside due at =
      all_brought bs (with_unit c (write_of b)) (λ a more. inside a (inr more)) (due_next c b bs (inside b (inl refl)) due) at

  elsewhere : (ats : List ℕ) (c : Cells) (d at : ℕ) → d ≢ drive → after c (writes_at drive units ats) d at ≡ c d at
  elsewhere [] c d at ne = refl
  elsewhere (b ∷ bs) c d at ne =
      elsewhere bs (with_unit c (write_of b)) d at ne ∙ write_else c (write_of b) (record { drive = d; address = at }) (λ e. ne (sym (ap (λ (p : Place). p.drive) e)))

  brings : (saved : Units) (ats : List ℕ) → length saved ≡ length units → ((at : ℕ) → (Contains ats at → ⊥) → slice_get saved at ≡ slice_get units at)
      → ((at : ℕ) → Contains ats at → at < length units) → Brings drive saved units (writes_at drive units ats)
  brings saved ats many same inside = record {
    own = λ c held_is. all_brought ats c (λ a one. inside a (back ats a one)) (λ a. elim (in_or_not ats a) [
      | inl one ↦ (let low = inside a (back ats a one) in inr (one, (slice_index_or saved a [], held_is a ∙ slice_get-get_or saved a [] (omega (arith, low, many)))))
      | inr out ↦ inl (held_is a ∙ same a (λ has. out (into ats a has)))
    ]);
    others = λ c d at ne. elsewhere ats c d at ne;
  }

  -- the listed units
  pub listed_brings : (saved : Units) (dirty : List ℕ) (all : Bool) → all ≡ false → AreSaved all dirty saved units → Brings drive saved units (writes_at drive units dirty)
  listed_brings saved dirty all out are = brings saved dirty are.many (are.listed out) are.inside

pub upto_below : (n at : ℕ) → Contains (upto n) at → at < n
upto_below zero at (k, low, is) = absurd (omega (arith, low))
upto_below (suc n) at has = elim (Contains-push_cases (upto n) n at has) [
  | inl before ↦ (let low = upto_below n at before in omega (arith, low))
  | inr is ↦ omega (arith, is)
]

upto_has : (n at : ℕ) → at < n → Contains (upto n) at
upto_has zero at low = absurd (omega (arith, low))
upto_has (suc n) at low = elim (same_or_not n at) [
  | inl is ↦ subst (Contains (upto n ++ n ∷ [])) is (Contains-push (upto n) n)
  | inr ne ↦ Contains-append_left (upto n) (n ∷ []) at (upto_has n at (omega (arith, low, ne)))
]

past : (xs : Units) (at : ℕ) → (at < length xs → ⊥) → slice_get xs at ≡ None
past [] at out = refl
past (x ∷ xs) zero out = absurd (out (omega arith))
past (x ∷ xs) (suc at) out = past xs at (λ low. out (omega (arith, low)))

-- all units
pub all_bring : (drive : ℕ) (units saved : Units) → length saved ≡ length units → Brings drive saved units (writes_at drive units (upto (length units)))
all_bring drive units saved many = brings drive units saved (upto (length units)) many
    (λ at out. past saved at (λ low. out (upto_has (length units) at (omega (arith, low, many)))) ∙ sym (past units at (λ low. out (upto_has (length units) at low))))
    (λ at has. upto_below (length units) at has)

-- one more write
pub writes_more : (drive : ℕ) (units : Units) (ats : List ℕ) (at : ℕ) → writes_at drive units (ats ++ at ∷ []) ≡ writes_at drive units ats ++ writes_at drive units (at ∷ [])
writes_more drive units [] at = refl
writes_more drive units (a ∷ ats) at = ap (λ ws. writes_at drive units (a ∷ []) ++ ws) (writes_more drive units ats at)

-- one more is put behind others
pub put_more : (drive : ℕ) (units : Units) (old was now : List Intended) (ats : List ℕ) (at : ℕ) → was ≡ old ++ writes_at drive units ats
    → now ≡ was ++ writes_at drive units (at ∷ []) → now ≡ old ++ writes_at drive units (ats ++ at ∷ [])
put_more drive units old was now ats at was_is now_is =
    now_is ∙ ap (λ l. l ++ writes_at drive units (at ∷ [])) was_is ∙ append_assoc old (writes_at drive units ats) (writes_at drive units (at ∷ []))
    ∙ ap (λ l. old ++ l) (sym (writes_more drive units ats at))

-- the units of the last save
pub last_is : (units : Units) (es : List (Entry Units)) (e : Entry Units) → last_of units (es ++ e ∷ []) ≡ e.what
last_is units [] e = refl
last_is units (f ∷ es) e = last_is f.what es e

-- right after a save
pub saved_now : (units : Units) (mine now : List (Entry Units)) (e : Entry Units) → now ≡ mine ++ e ∷ [] → e.what ≡ units → AreSaved false [] (last_of [] now) units
saved_now units mine now e is what =
    let same : last_of [] now ≡ units = ap (last_of []) is ∙ last_is [] mine e ∙ what in
    record { many = ap length same; listed = λ _ at out. ap (λ us. slice_get us at) same; inside = λ at (k, low, is). absurd (omega (arith, low)) }
