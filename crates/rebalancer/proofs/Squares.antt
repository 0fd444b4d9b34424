-- What a shift does to the sum of the squares of the loads.
use Rattle.std.proofs.Common.{◌≡◌, ◌≢◌, ℕ, ◌+◌, ◌*◌, ◌<◌, ◌≤◌, Bool, true, false, cond, Option, Some, None, List, [], length, get_or, refl, sym, ◌∙◌, ap, subst, arith}
use Rattle.std.specs.Prelude.{slice_get, slice_set, unwrap_or, is_some, is_none, count_by, position, ◌==◌}
use Rattle.std.proofs.lemmas.List.{length-set}
use Rattle.std.proofs.lemmas.List.Sums.{sum_by-set}
use Rattle.std.proofs.lemmas.List.Quantifiers.{position-Some}
use Rattle.std.proofs.lemmas.Bool.{eqb-true, false≢true}
use Rattle.std.proofs.lemmas.Option.{slice_get-get_or, get_or_from_slice_get}
use Rattle.extents.specs.Owners.{Owners, owner_row, with_owner, load_of, lowest_free_of}
use Rattle.extent_groups.specs.declared.class.Member.{Member}
use Rattle.extent_groups.specs.Groups.{Groups, Agree, IsMove, members_of}
use Rattle.extent_groups.proofs.Places.{get-set_other}
use Rattle.rebalancer.specs.Balancing.{sum_of_squares}

-- two sums of squares that differ in one load each: the greater load less one, and the lesser load plus one
falls_by_two : (all between after more less one other : ℕ) → one + 1 ≡ more → other ≡ less + 1 → less + 2 ≤ more
    → between + more * more ≡ all + one * one → after + less * less ≡ between + other * other → after + 2 ≤ all
falls_by_two all between after more less one other giver taker uneven first second =
    let square : ℕ → ℕ = λ n. n * n in
    let gives : more * more ≡ (one + 1) * (one + 1) = ap square (sym giver) in
    let takes : other * other ≡ (less + 1) * (less + 1) = ap square taker in
    omega (arith, gives, takes, giver, taker, uneven, first, second)

-- a row of which an owned extent is freed
freed : (row : List (Option ℕ)) (e : ℕ) → e < length row → is_some (get_or row e None) ≡ true → count_by is_some (slice_set row e None) + 1 ≡ count_by is_some row
freed row e within owned =
    let set = sum_by-set (λ (x : Option ℕ). cond (is_some x) 1 0) row e None None within in
    let value : Bool → ℕ = λ b. cond b 1 0 in
    let one : value (is_some (get_or row e None)) ≡ 1 = ap value owned in
    omega (arith, set, one)

-- a row of which a free extent is given to a group
given : (row : List (Option ℕ)) (e g : ℕ) → e < length row → is_some (get_or row e None) ≡ false → count_by is_some (slice_set row e (Some g)) ≡ count_by is_some row + 1
given row e g within free =
    let set = sum_by-set (λ (x : Option ℕ). cond (is_some x) 1 0) row e (Some g) None within in
    let value : Bool → ℕ = λ b. cond b 1 0 in
    let none : value (is_some (get_or row e None)) ≡ 0 = ap value free in
    omega (arith, set, none)

-- the row of a drive that is there
row_is : (o : Owners) (d : ℕ) → d < length o.rows → owner_row o d ≡ get_or o.rows d []
row_is o d within = ap (λ r. unwrap_or r []) (slice_get-get_or o.rows d [] within)

-- the sum of the squares, once a row is another one
squares_set : (o : Owners) (d : ℕ) (row : List (Option ℕ)) → d < length o.rows
    → sum_of_squares (record o { rows = slice_set o.rows d row }) + load_of o d * load_of o d ≡ sum_of_squares o + count_by is_some row * count_by is_some row
squares_set o d row within =
    rw row_is (sum_by-set (λ (r : List (Option ℕ)). count_by is_some r * count_by is_some r) o.rows d row [] within)

-- an owned extent of one drive is freed and a free one of another is given away: the sum falls by two where the loads were
-- two apart
shifted : (o : Owners) (d e x y g : ℕ) → d < length o.rows → x < length o.rows → x ≢ d
    → e < length (owner_row o d) → is_some (get_or (owner_row o d) e None) ≡ true
    → y < length (owner_row o x) → is_some (get_or (owner_row o x) y None) ≡ false
    → load_of o x + 2 ≤ load_of o d
    → sum_of_squares (with_owner (with_owner o d e None) x y (Some g)) + 2 ≤ sum_of_squares o
shifted o d e x y g giver taker apart inside owned within free uneven =
    let one : Owners = with_owner o d e None in
    let there : x < length one.rows = rw length-set taker in
    let same : owner_row one x ≡ owner_row o x = ap (λ r. unwrap_or r []) (get-set_other o.rows d x (slice_set (owner_row o d) e None) apart) in
    let less : count_by is_some (slice_set (owner_row o d) e None) + 1 ≡ load_of o d = freed (owner_row o d) e inside owned in
    let inside_one : y < length (owner_row one x) = rw same within in
    let free_one : is_some (get_or (owner_row one x) y None) ≡ false = rw same free in
    let uneven_one : load_of one x + 2 ≤ load_of o d = rw same uneven in
    falls_by_two (sum_of_squares o) (sum_of_squares one) (sum_of_squares (with_owner one x y (Some g))) (load_of o d) (load_of one x)
    (count_by is_some (slice_set (owner_row o d) e None)) (count_by is_some (slice_set (owner_row one x) y (Some g)))
    less (given (owner_row one x) y g inside_one free_one) uneven_one
    (squares_set o d (slice_set (owner_row o d) e None) giver)
    (squares_set one x (slice_set (owner_row one x) y (Some g)) there)

-- an extent that a group owns
owned_at : (row : List (Option ℕ)) (e g : ℕ) → e < length row → unwrap_or (slice_get row e) None ≡ Some g → is_some (get_or row e None) ≡ true
owned_at row e g within owned = ap is_some (sym (ap (λ o. unwrap_or o None) (slice_get-get_or row e None within)) ∙ owned)

-- an optional owner that is none isn't some
is_free : (o : Option ℕ) → is_none o ≡ true → is_some o ≡ false
is_free None h = refl
is_free (Some g) h = absurd (false≢true h)

-- a member that is found by its drive
member_at : (members : List Member) (drive k : ℕ) (m : Member) → position (λ m. m.drive == drive) members ≡ Some k → slice_get members k ≡ Some m → m.drive ≡ drive
member_at members drive k m at is =
    let first = position-Some (λ (m : Member). m.drive == drive) members k m at in
    eqb-true m.drive drive (ap (λ (n : Member). n.drive == drive) (sym (get_or_from_slice_get members k m m is)) ∙ first.1)

-- a shift lowers the sum of the squares of the loads by at least two
pub evens : (o after : Owners) (groups : Groups) (from k g : ℕ) (to : Member) → Agree groups o
    → position (λ m. m.drive == from) (members_of groups g) ≡ Some k → lowest_free_of o to.drive ≡ Some to.extent
    → to.drive < length o.rows → load_of o to.drive + 2 ≤ load_of o from
    → IsMove groups o after g k to → sum_of_squares after + 2 ≤ sum_of_squares o
evens o after groups from k g to agree at free there uneven move =
    let found = position-Some (λ (m : Member). m.drive == from) (members_of groups g) k to at in
    let was : Member = get_or (members_of groups g) k to in
    let is : slice_get (members_of groups g) k ≡ Some was = slice_get-get_or (members_of groups g) k to found.0 in
    let on : was.drive ≡ from = member_at (members_of groups g) from k was at is in
    let owned = agree.owned g k was is in
    let place = position-Some is_none (owner_row o to.drive) to.extent None free in
    let apart : to.drive ≢ was.drive = λ same. let alike : load_of o to.drive ≡ load_of o from = ap (load_of o) (same ∙ on) in omega (arith, alike, uneven) in
    let inside : was.extent < length (owner_row o was.drive) = omega (arith, agree.wide was.drive owned.0.within, owned.0.inside) in
    let uneven_was : load_of o to.drive + 2 ≤ load_of o was.drive = rw on uneven in
    subst (λ a. sum_of_squares a + 2 ≤ sum_of_squares o) (sym (move was is))
    (shifted o was.drive was.extent to.drive to.extent g owned.0.within there apart inside (owned_at (owner_row o was.drive) was.extent g inside owned.1)
    place.0 (is_free (get_or (owner_row o to.drive) to.extent None) place.1) uneven_was)
