-- Where a session begins.
use Rattle.std.proofs.Common.{◌≡◌, ℕ, ◌≤◌, Bool, true, false, List, [], ◌∷◌, inl, inr, sym, subst, arith, ◌∙◌, Option}
use Rattle.std.proofs.lemmas.Bool.{true≢false}
use Rattle.extent_groups.specs.Groups.{Groups}
use Rattle.extent_groups.specs.Cells.{Cells}
use Rattle.tiered_array.specs.Views.{TiersView}
use Rattle.vault.specs.Images.{Image}
use Rattle.vault.specs.declared.store.Stop.{Stop}
use Rattle.byte_store.specs.Flat.{StoreState}
use Rattle.byte_store.specs.Lasting.{Lasts, Shown, ShowsState}
use Rattle.byte_store.specs.declared.fault.StoreFault.{StoreFault}
use Rattle.nbd_serve.specs.Stopping.{StoreType}
use Rattle.nbd_serve.specs.declared.end.End.{End}
use Rattle.array_store.specs.Stores.{Follows, IsStoreOf, StoreView}
use Rattle.journaled_store.specs.Left.{HasBoth, IsLeftOf}
use Rattle.journaled_store.specs.Outlasting.{Outlasts, OutlastsSince, Point}
use Rattle.journaled_store.proofs.Opening.{alone}
use Rattle.vault_server.specs.Served.{HasBegun, IsOn, IsServedFrom}
use Rattle.vault_server.proofs.Sessions.{covers_one}

-- of an array that a vault has all of, more drives may be absent
abbrev pub left_absent : (what : Shown) (groups : Groups) (drives : ℕ) (absent : List Bool) (c : Cells) → IsLeftOf HasBoth what groups drives [] c → IsLeftOf HasBoth what groups drives absent c
left_absent what groups drives absent c left = record {
  tiers = left.tiers;
  shown = left.shown;
  groups_are = left.groups_are;
  many = left.many;
  table = left.table;
  one = left.one;
  lost = left.lost;
  kept = left.kept;
  excused = λ d low is. elim (left.excused d low is) [ inl away ↦ absurd (true≢false (sym away)) | inr was ↦ inr was ];
}

-- the same groups and drives, after a call
pub on_after : (groups : Groups) (drives : ℕ) (old new : TiersView) → IsOn groups drives old → Follows old new → IsOn groups drives new
on_after groups drives old new on follows = record { groups_are = follows.groups ∙ on.groups_are; many = follows.many ∙ on.many }

-- what a store shows whose parts are the same
pub shows_then : (was now : StoreView) (u w : Bool) (F : StoreState) (what : Shown) → now ≡ was → w ≡ u → ShowsState was.tiers.world.array.keys F what × IsStoreOf was.tiers was.size u F
    → ShowsState now.tiers.world.array.keys F what × IsStoreOf now.tiers now.size w F
shows_then was now u w F what same noted there = subst (λ (s : StoreView). ShowsState s.tiers.world.array.keys F what × IsStoreOf s.tiers s.size w F) (sym same)
    (there.0, subst (λ b. IsStoreOf was.tiers was.size b F) (sym noted) there.1)

module _ {V : Type 0} (known : V → Type 0) (seen : V → Image) (may_leave : V → Stop → Image → Type 0) (moment : V → ℕ) (left_since : V → Stop → ℕ → Image → Type 0) where
  -- after a call that leaves what is shown
  pub begun_after : (t : ℕ) (what : Shown) (p q : Point V) → HasBegun known seen may_leave moment left_since t what p
      → Lasts (Outlasts HasBoth known seen may_leave) (λ (r : Point V). moment r.vault) (OutlastsSince HasBoth left_since) what what p q → HasBegun known seen may_leave moment left_since t what q
  begun_after t what p q begun lasts =
      let one = what ∷ [] in
      let covers = covers_one one one what (λ b is. is) (alone what) in
      let early = begun.early in
      let more = lasts.later one one begun.now in record {
        early = omega (arith, early, more);
        now = lasts.following one one one one begun.now covers covers;
        then = lasts.earlier t one one one one one one early begun.then begun.now (λ b is. is) (λ b is. is) covers covers;
      }

-- from what the premise follows from
pub served_from : {S : Type 0} (type : StoreType S) (may : StoreFault → Type 0) (sound begun : Type 0) (opens : Stop → ℕ → List Shown → Type 0) (since ended : ℕ) (flushed : Type 0)
    (what : Shown) (last : End) (before after held now : Option (List ℕ)) → (sound → begun)
    → IsServedFrom type may begun opens since ended flushed what last before after held now → IsServedFrom type may sound opens since ended flushed what last before after held now
served_from type may sound begun opens since ended flushed what last before after held now to s = record {
  opened = s.opened;
  closed = s.closed;
  shown = s.shown;
  sizes = s.sizes;
  sized = s.sized;
  session = s.session;
  stops = λ is. s.stops (to is);
}
