-- The units that lie side by side in bytes: their number, one of them, a write to one, and zeros.
use Rattle.std.proofs.Common.{◌≡◌, ℕ, zero, suc, ◌+◌, ◌*◌, ◌≤◌, ◌<◌, Some, List, ◌∷◌, ◌++◌, length, take, drop, refl, sym, ◌∙◌, ap, subst, arith, length-drop, append_assoc}
use Rattle.std.proofs.Math.Seq.{take-add}
use Rattle.std.proofs.Math.Nat.{mul-le-mul_right}
use Rattle.std.specs.Prelude.{slice_get, slice_set}
use Rattle.std.proofs.lemmas.List.{drop-drop, take_at, drop_at, length-take-le, length-append}
use Rattle.std.proofs.lemmas.Option.{slice_get_within, same_Some}
use Rattle.extents.specs.Units.{AreUnitsSized, units_in}

-- there are `count` units
pub length-units_in : (size count : ℕ) (bytes : List ℕ) → length (units_in size count bytes) ≡ count
length-units_in size zero bytes = refl
length-units_in size (suc count) bytes = ap (λ n. suc n) (length-units_in size count (drop size bytes))

-- one of them is its run of bytes
pub get-units_in : (size count at start : ℕ) (bytes : List ℕ) → at < count → start ≡ at * size → slice_get (units_in size count bytes) at ≡ Some (take size (drop start bytes))
get-units_in size zero at start bytes h e = absurd (omega arith)
get-units_in size (suc count) zero start bytes h e =
    let none : 0 ≡ start = omega arith in ap (λ s. Some (take size (drop s bytes))) none
get-units_in size (suc count) (suc at) start bytes h e =
    let more : size + at * size ≡ start = omega arith in
    get-units_in size count at (at * size) (drop size bytes) (omega arith) refl
    ∙ ap (λ s. Some (take size s)) (drop-drop (at * size) size bytes)
    ∙ ap (λ s. Some (take size (drop s bytes))) more

-- bytes that begin with a unit
began : (size count : ℕ) (bytes unit rest : List ℕ) → bytes ≡ unit ++ rest → length unit ≡ size → units_in size (suc count) bytes ≡ unit ∷ units_in size count rest
began size count bytes unit rest e l =
    ap (λ b. units_in size (suc count) b) e
    ∙ ap (λ u. u ∷ units_in size count (drop size (unit ++ rest))) (take_at unit rest size l)
    ∙ ap (λ b. unit ∷ units_in size count b) (drop_at unit rest size l)

-- the bytes with a unit written later on begin as before
written_later : (size start : ℕ) (bytes unit : List ℕ) → size ≤ length bytes
    → take (size + start) bytes ++ (unit ++ drop (size + start + length unit) bytes) ≡ take size bytes ++ (take start (drop size bytes) ++ (unit ++ drop (start + length unit) (drop size bytes)))
written_later size start bytes unit room =
    let same : size + start + length unit ≡ size + (start + length unit) = omega arith in
    rw (take-add size start bytes, append_assoc, drop-drop (start + length unit) size bytes, same)

-- two pieces written one after the other are written at once
pub written_following : (start : ℕ) (bytes front rest : List ℕ) → start + (length front + length rest) ≤ length bytes
    → take (start + length front) (take start bytes ++ (front ++ drop (start + length front) bytes)) ++ (rest ++ drop (start + length front + length rest) (take start bytes ++ (front ++ drop (start + length front) bytes)))
    ≡ take start bytes ++ ((front ++ rest) ++ drop (start + length (front ++ rest)) bytes)
written_following start bytes front rest room =
    let before = take start bytes ++ front in
    let following = drop (start + length front) bytes in
    let long : length before ≡ start + length front = omega (arith, length-append (take start bytes) front, length-take-le start bytes (omega arith)) in
    let once : take start bytes ++ (front ++ following) ≡ before ++ following = sym (append_assoc (take start bytes) front following) in
    let all : start + length front + length rest ≡ start + length (front ++ rest) = omega (arith, length-append front rest) in
    let left : drop (start + length front + length rest) (before ++ following) ≡ drop (start + length (front ++ rest)) bytes =
    sym (drop-drop (length rest) (start + length front) (before ++ following))
    ∙ ap (drop (length rest)) (drop_at before following (start + length front) long)
    ∙ drop-drop (length rest) (start + length front) bytes
    ∙ ap (λ n. drop n bytes) all in
    rw (once, take_at before following (start + length front) long, left, append_assoc, append_assoc) refl

-- a unit written over its run of bytes
pub units_in-written : (size count at start : ℕ) (bytes unit : List ℕ) → at < count → start ≡ at * size → count * size ≤ length bytes → length unit ≡ size
    → units_in size count (take start bytes ++ (unit ++ drop (start + length unit) bytes)) ≡ slice_set (units_in size count bytes) at unit
units_in-written size zero at start bytes unit h s room e = absurd (omega arith)
units_in-written size (suc count) zero start bytes unit h s room e =
    let none : start ≡ 0 = omega arith in
    ap (λ n. units_in size (suc count) (take n bytes ++ (unit ++ drop (n + length unit) bytes))) none
    ∙ began size count (unit ++ drop (0 + length unit) bytes) unit (drop (0 + length unit) bytes) refl e
    ∙ ap (λ n. unit ∷ units_in size count (drop n bytes)) (let same : 0 + length unit ≡ size = omega arith in same)
units_in-written size (suc count) (suc at) start bytes unit h s room e =
    let more : start ≡ size + at * size = omega arith in
    let fits : size ≤ length bytes = omega arith in
    let left : count * size ≤ length (drop size bytes) = omega (arith, length-drop size bytes) in
    ap (λ n. units_in size (suc count) (take n bytes ++ (unit ++ drop (n + length unit) bytes))) more
    ∙ began size count _ (take size bytes) _ (written_later size (at * size) bytes unit fits) (length-take-le size bytes fits)
    ∙ ap (λ units. take size bytes ∷ units) (units_in-written size count at (at * size) (drop size bytes) unit (omega arith) refl left e)

-- the bytes of one unit lie within those of all
pub unit_within : (size count at : ℕ) → at < count → at * size + size ≤ count * size
unit_within size count at h = let below : suc at ≤ count = omega arith in omega (arith, mul-le-mul_right size below)

-- what fits a unit of a drive has the drive's size
pub unit_size : (m size count at : ℕ) (bytes : List ℕ) → AreUnitsSized m (units_in size count bytes) → at < count → count * size ≤ length bytes → m ≡ size
unit_size m size count at bytes sized h room =
    let one = get-units_in size count at (at * size) bytes h refl in
    let left : size ≤ length (drop (at * size) bytes) = omega (arith, length-drop (at * size) bytes, unit_within size count at h) in
    sym (sized at _ one) ∙ length-take-le size (drop (at * size) bytes) left

-- a drive's units, given by its bytes: what fits one of them has the drive's size, and the address is one of the drive's
pub one_of : (units : List (List ℕ)) (m size count at : ℕ) (bytes : List ℕ) → units_in size count bytes ≡ units → length bytes ≡ count * size → at < length units → AreUnitsSized m units
    → (m ≡ size) × (at < count) × (at * size + m ≤ length bytes)
one_of units m size count at bytes reported room h sized =
    let many : length units ≡ count = sym (ap length reported) ∙ length-units_in size count bytes in
    let below : at < count = omega arith in
    let same : m ≡ size = unit_size m size count at bytes (subst (AreUnitsSized m) (sym reported) sized) below (omega arith) in
    (same, below, omega (arith, unit_within size count at below))

-- each unit of a drive has the drive's size
pub sized_units_in : (size count : ℕ) (bytes : List ℕ) → count * size ≤ length bytes → AreUnitsSized size (units_in size count bytes)
sized_units_in size count bytes room at unit there =
    let below : at < count = subst (λ n. at < n) (length-units_in size count bytes) (slice_get_within (units_in size count bytes) at unit there) in
    let one = get-units_in size count at (at * size) bytes below refl in
    let left : size ≤ length (drop (at * size) bytes) = omega (arith, length-drop (at * size) bytes, unit_within size count at below) in
    let same : unit ≡ take size (drop (at * size) bytes) = same_Some _ _ (sym there ∙ one) in
    ap length same ∙ length-take-le size (drop (at * size) bytes) left
