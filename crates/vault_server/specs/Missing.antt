-- A session with an array of which a drive may be missing for the first time: it is absent, and the vault's table has no mark of it.
use Rattle.std.specs.Prelude.{◌≡◌, ℕ, ◌≤◌, ◌||◌, ◌==◌, not, Bool, List, [], ◌∷◌, length, Result, OnOk}
use Rattle.extent_groups.specs.Groups.{Groups}
use Rattle.vault.specs.Images.{Image, recovered}
use Rattle.vault.specs.Moments.{AreLogged}
use Rattle.vault.specs.declared.store.Stop.{Stop}
use Rattle.byte_store.specs.Lasting.{Shown}
use Rattle.journaled_store.specs.Steps.{IsUpToDate}
use Rattle.journaled_store.specs.Left.{HasBoth, IsLeftOf}
use Rattle.journaled_store.specs.Outlasting.{Point}
use Rattle.array_recovery.specs.Found.{IsTable, OnlyRead}
use Rattle.array_recovery.specs.Reopened.{CoversGone, EndsAt, IsOpenedWith}
use Rattle.vault_server.specs.Served.{HasBegun}

-- the drives that have a mark, and those that are absent
abbrev pub gone_of : List ℕ → List Bool → List Bool
gone_of [] absent = absent
gone_of (mark ∷ marks) [] = not (mark == 0) ∷ gone_of marks []
gone_of (mark ∷ marks) (away ∷ absent) = (not (mark == 0) || away) ∷ gone_of marks absent

-- A vault of which a store that shows this is opened, on a shape with this many units a drive. Drives may be absent that its table doesn't mark.
pub record IsSoundBut {V : Type 0} (seen : V → Image) (may_leave : V → Stop → Image → Type 0) (what : Shown) (groups : Groups) (drives units : ℕ) (absent : List Bool) (vault : V) : Type 0 where
  -- it has all of an array that showed this; a drive of which it may have other units was lost in that array, or is absent
  pub left : IsLeftOf HasBoth what groups drives absent (recovered (seen vault))
  -- past the end of a drive that has no mark and isn't absent it has no unit
  pub ends : EndsAt (gone_of left.kept.marks absent) drives units (recovered (seen vault))
  -- a stop leaves what calls find, but for units of the other drives and those that the journal's batches write
  pub logged : AreLogged seen may_leave (gone_of left.kept.marks absent) vault

-- A stop at some moment since that one leaves a vault of which an array that shows this is opened, if the same drives are absent then.
abbrev pub LeavesBut : {V : Type 0} → (V → Stop → ℕ → Image → Type 0) → Shown → Groups → ℕ → List Bool → V → ℕ → Type 0
LeavesBut left_since what groups drives absent vault t = (stop : Stop) (i : Image) → left_since vault stop t i → IsLeftOf HasBoth what groups drives absent (recovered i)

-- From a vault on the marks of all lost drives were made durable. What stops leave until that moment is opened again if the same drives are absent.
-- Since that moment something holds.
pub record OnceMarked {V : Type 0} (known : V → Type 0) (moment : V → ℕ) (left_since : V → Stop → ℕ → Image → Type 0) (what : Shown) (groups : Groups) (drives : ℕ) (absent : List Bool) (vault : V)
    (holds : ℕ → Type 0) : Type 0 where
  -- the vault at that moment
  pub marked : V
  pub is_known : known marked
  pub later : moment vault ≤ moment marked
  pub before : LeavesBut left_since what groups drives absent marked (moment vault)
  pub since : holds (moment marked)

-- A store that was opened of such a vault, which was only read. What it has, and what its table marks, are in step with that vault.
pub record IsOpenedBut {V : Type 0} (known : V → Type 0) (seen : V → Image) (may_leave : V → Stop → Image → Type 0) (moment : V → ℕ) (left_since : V → Stop → ℕ → Image → Type 0)
    (what : Shown) (groups : Groups) (drives units : ℕ) (absent : List Bool) (vault : V) (p : Point V) : Type 0 where
  pub sound : IsSoundBut seen may_leave what groups drives units absent vault
  pub was_known : known vault
  pub is_known : known p.vault
  pub read : OnlyRead seen may_leave moment left_since vault p.vault
  pub shown : HasBoth p.tiers what
  pub opened : IsOpenedWith groups drives p.noted absent p.tiers
  pub table : IsTable p.noted (recovered (seen vault))
  pub long : length p.noted ≡ 16
  pub wide : length absent ≡ 16
  pub live : (lost : List Bool) → CoversGone drives p.noted absent lost → EndsAt lost drives units (recovered (seen vault))
      → IsUpToDate lost p.keeper p.noted p.batch (recovered (seen vault))

-- A call by which the lost drives of a store are marked, if it is Ok: it leaves what is shown, also where one was missing for the first time.
abbrev pub MarksLost : {V E : Type 0} → (V → Type 0) → (V → Image) → (V → Stop → Image → Type 0) → (V → ℕ) → (V → Stop → ℕ → Image → Type 0) → Result (Unit {0}) E → Point V → Point V → Type 0
MarksLost {V} known seen may_leave moment left_since result p q =
    (what : Shown) (groups : Groups) (drives units : ℕ) (absent : List Bool) (vault : V) → IsOpenedBut known seen may_leave moment left_since what groups drives units absent vault p
    → OnOk result (OnceMarked known moment left_since what groups drives absent vault (λ t. HasBegun known seen may_leave moment left_since t what q))
