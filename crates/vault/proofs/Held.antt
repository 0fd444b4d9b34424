-- What a batch holds, by its entries.
use Rattle.std.proofs.Common.{◌≡◌, ◌<◌, ◌≤◌, ◌+◌, ◌-◌, ℕ, zero, suc, Some, List, [], ◌∷◌, ◌++◌, length, take, drop, get_or, refl, sym, ◌∙◌, ap, subst, arith, length-append, length-drop, length-take}
use Rattle.std.specs.Prelude.{slice_get, slice_range, slice_index_or, option_map}
use Rattle.std.proofs.lemmas.List.{drop-append-le, take-append-le, take_all}
use Rattle.std.proofs.Math.Seq.{drop-append_seam}
use Rattle.extent_groups.specs.Planned.{Intended}
use Rattle.vault.specs.declared.batch.Entry.{Entry}
use Rattle.std.proofs.lemmas.Option.{none-some, same_Some}
use Rattle.vault.specs.Entries.{write_in, writes_in, AreWithin, IsUnitOf}

pub writes_len : (units : List ℕ) (es : List Entry) → length (writes_in units es) ≡ length es
writes_len units [] = refl
writes_len units (e ∷ es) = ap (λ n. suc n) (writes_len units es)

pub writes_more : (units : List ℕ) (es : List Entry) (e : Entry) → writes_in units (es ++ e ∷ []) ≡ writes_in units es ++ write_in units e ∷ []
writes_more units [] e = refl
writes_more units (first ∷ es) e = ap (λ ws. write_in units first ∷ ws) (writes_more units es e)

pub within_more : (units : List ℕ) (es : List Entry) (e : Entry) → AreWithin units es → e.from ≤ e.to → e.to ≤ length units → AreWithin units (es ++ e ∷ [])
within_more units [] e within low high = (low, high, tt)
within_more units (first ∷ es) e within low high = (within.0, within.1, within_more units es e within.2 low high)

-- the first writes are those of the first entries
pub writes_front : (units : List ℕ) (n : ℕ) (es : List Entry) → writes_in units (take n es) ≡ take n (writes_in units es)
writes_front units zero es = refl
writes_front units (suc n) [] = refl
writes_front units (suc n) (e ∷ es) = ap (λ ws. write_in units e ∷ ws) (writes_front units n es)

pub within_front : (units : List ℕ) (n : ℕ) (es : List Entry) → AreWithin units es → AreWithin units (take n es)
within_front units zero es within = tt
within_front units (suc n) [] within = tt
within_front units (suc n) (e ∷ es) within = (within.0, within.1, within_front units n es within.2)

pub within_longer : (units more : List ℕ) (es : List Entry) → AreWithin units es → AreWithin (units ++ more) es
within_longer units more [] within = tt
within_longer units more (e ∷ es) within = let high = within.1 in (within.0, omega (arith, high, length-append units more), within_longer units more es within.2)

range_longer : (units more : List ℕ) (i j : ℕ) → i ≤ j → j ≤ length units → slice_range (units ++ more) i j ≡ slice_range units i j
range_longer units more i j low high =
    ap (λ xs. take (j - i) xs) (drop-append-le i units more (omega (arith, low, high)))
    ∙ take-append-le (j - i) (drop i units) more (omega (arith, low, high, length-drop i units))

pub writes_longer : (units more : List ℕ) (es : List Entry) → AreWithin units es → writes_in (units ++ more) es ≡ writes_in units es
writes_longer units more [] within = refl
writes_longer units more (e ∷ es) within =
    ap (λ u. let w : Intended = record { place = e.place; unit = u } in w ∷ writes_in (units ++ more) es) (range_longer units more e.from e.to within.0 within.1)
    ∙ ap (λ ws. write_in units e ∷ ws) (writes_longer units more es within.2)

-- an entry among others
pub within_at : (units : List ℕ) (es : List Entry) (k : ℕ) (e : Entry) → AreWithin units es → k < length es → e ≡ get_or es k e → (e.from ≤ e.to) × (e.to ≤ length units)
within_at units [] k e within low is = absurd (omega (arith, low))
within_at units (first ∷ es) zero e within low is = subst (λ (x : Entry). (x.from ≤ x.to) × (x.to ≤ length units)) (sym is) (within.0, within.1)
within_at units (first ∷ es) (suc k) e within low is = within_at units es k e within.2 (omega (arith, low)) is

pub write_at : (units : List ℕ) (es : List Entry) (k : ℕ) (e : Entry) → k < length es → e ≡ get_or es k e → slice_get (writes_in units es) k ≡ Some (write_in units e)
write_at units [] k e low is = absurd (omega (arith, low))
write_at units (first ∷ es) zero e low is = ap (λ (x : Entry). Some (write_in units x)) (sym is)
write_at units (first ∷ es) (suc k) e low is = write_at units es k e (omega (arith, low)) is

pub place_at : (units : List ℕ) (es : List Entry) (k : ℕ) (e : Entry) → k < length es → e ≡ get_or es k e → option_map (λ (w : Intended). w.place) (slice_get (writes_in units es) k) ≡ Some e.place
place_at units es k e low is = ap (λ o. option_map (λ (w : Intended). w.place) o) (write_at units es k e low is)

-- a write's unit, by its entry
pub unit_at : (units : List ℕ) (es : List Entry) (k : ℕ) (d : Entry) → k < length es
    → option_map (λ (w : Intended). w.unit) (slice_get (writes_in units es) k) ≡ Some (slice_range units (slice_index_or es k d).from (slice_index_or es k d).to)
unit_at units [] k d low = absurd (omega (arith, low))
unit_at units (e ∷ es) zero d low = refl
unit_at units (e ∷ es) (suc k) d low = unit_at units es k d (omega (arith, low))

pub unit_below : (units : List ℕ) (es : List Entry) (k : ℕ) (unit : List ℕ) → IsUnitOf units es k unit → k < length es
unit_below units [] k unit is = absurd (none-some unit is)
unit_below units (e ∷ es) zero unit is = omega arith
unit_below units (e ∷ es) (suc k) unit is = let low = unit_below units es k unit is in omega (arith, low)

pub is_unit_at : (units : List ℕ) (es : List Entry) (k : ℕ) (d : Entry) (unit : List ℕ) → IsUnitOf units es k unit
    → slice_range units (slice_index_or es k d).from (slice_index_or es k d).to ≡ unit
is_unit_at units es k d unit is = same_Some _ unit (sym (unit_at units es k d (unit_below units es k unit is)) ∙ is)

pub within_here : (units : List ℕ) (es : List Entry) (k : ℕ) (d : Entry) → AreWithin units es → k < length es
    → ((slice_index_or es k d).from ≤ (slice_index_or es k d).to) × ((slice_index_or es k d).to ≤ length units)
within_here units [] k d within low = absurd (omega (arith, low))
within_here units (e ∷ es) zero d within low = (within.0, within.1)
within_here units (e ∷ es) (suc k) d within low = within_here units es k d within.2 (omega (arith, low))

-- a part of the bytes that is the same as others
pub same_part : (units unit : List ℕ) (i j : ℕ) → i ≤ j → j ≤ length units → slice_range units i j ≡ unit → (i + length unit ≤ length units) × (slice_range units i (i + length unit) ≡ unit)
same_part units unit i j low high same =
    let long : length unit ≡ j - i = sym (ap length same) ∙ length-take (j - i) (drop i units) ∙ omega (arith, length-drop i units, low, high) in
    let end : i + length unit ≡ j = omega (arith, long, low) in
    (omega (arith, end, high), ap (λ n. slice_range units i n) end ∙ same)

-- the bytes at the end
pub range_last : (units more : List ℕ) → slice_range (units ++ more) (length units) (length units + length more) ≡ more
range_last units more =
    let count : length units + length more - length units ≡ length more = omega arith in
    ap (λ n. take n (drop (length units) (units ++ more))) count ∙ ap (take (length more)) (drop-append_seam units more) ∙ take_all (length more) more (omega arith)
