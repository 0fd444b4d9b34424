-- The claims of an array with nothing pending and no claim of a dissolved group.
use Rattle.std.proofs.Common.{◌≡◌, ℕ, ◌<◌, ◌/◌, ◌==◌, true, false, List, refl, sym, ◌∙◌, arith, None}
use Rattle.std.proofs.lemmas.Bool.Decides.{nat_tests}
use Rattle.map_join.specs.Record.{record_of}
use Rattle.flat_machine.specs.Flat.{Flat, Shut}
use Rattle.slot_tables.specs.Views.{Kept, Nothing, Pending, Moving, Newest, Unmade, ArrayView, kept_at, key_at}
use Rattle.slot_tables.specs.Represents.{ArraySlot, ShowsArray, is_newest}
use Rattle.slot_tables.specs.Claims.{how_many, claims_in, AreClaimsOf, AreOfPlaces}

-- they are those of its newest places, one of each
pub claims_rest : {C : Type 0} (names : C → ℕ) (claims : List C) (a : ArrayView) (F : Flat) → ShowsArray a F → ((s : ℕ) → F.tickets s ≡ None) → ((s g : ℕ) → F.held s (Shut g) ≡ false)
    → AreClaimsOf names a claims → AreOfPlaces names (key_at a) claims
claims_rest {C} names claims a F shows rests open_all are = record {
  one = λ b some. are (place b) ∙ single (kept_at a (place b)) b (sym ((shows.tables.slots (place b)).blocks b) ∙ ((shows.history.written b).1 some).2.place);
  only = λ slot some. found slot some (kept_at a slot) (shows.tables.slots slot) (are slot);
}
  where
    place : ℕ → ℕ
    place b = (record_of b (key_at a b)).place

    single : (kept : Kept) (b : ℕ) → is_newest kept b ≡ true → claims_in kept ≡ 1
    single Nothing b e = absurd (let n = e in cc)
    single (Pending k) b e = refl
    single (Moving r k) b e = refl
    single (Newest c) b e = refl
    single Unmade b e = refl

    same : (b : ℕ) → (b == b) ≡ true
    same b = grind (arith, nat_tests)

    found : (slot : ℕ) → 0 < how_many names claims slot → (kept : Kept) → ArraySlot slot kept (F.held slot) (F.tickets slot) → how_many names claims slot ≡ claims_in kept
        → (b : ℕ) × (0 < key_at a b) × ((record_of b (key_at a b)).place ≡ slot)
    found slot some Nothing reports e = absurd (omega (arith, some, e))
    found slot some (Pending k) reports e = absurd (let w = reports.waits.1 in let n = rests slot in cc)
    found slot some (Moving r k) reports e = absurd (let w = reports.waits.1 in let n = rests slot in cc)
    found slot some (Newest b) reports e = let h = (shows.history.holders slot).block b (reports.blocks b ∙ same b) in (b, h.0, h.1)
    found slot some Unmade reports e = absurd (let n = sym (open_all slot (slot / 128)) ∙ reports.shut (slot / 128) ∙ same (slot / 128) in cc)
