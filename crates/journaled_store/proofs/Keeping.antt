-- Calls that change no bytes, one after another.
use Rattle.std.proofs.Common.{◌≡◌, ◌≤◌, ◌⊎◌, inl, inr, ℕ, arith, Bool, true, false, List, length, take, refl, sym, ◌∙◌, ap, subst}
use Rattle.std.proofs.lemmas.Bool.{true≢false}
use Rattle.extent_groups.specs.Cells.{Cells}
use Rattle.extent_groups.specs.Planned.{Intended, after}
use Rattle.history.specs.Entries.{Course}
use Rattle.cached_drive.specs.Saving.{Units}
use Rattle.tiered_array.specs.Views.{TiersView}
use Rattle.slot_tables.specs.Views.{key_at}
use Rattle.byte_store.specs.Flat.{StoreState}
use Rattle.byte_store.specs.Lasting.{Covers, Lasts, ShowsState, Shown, HasAllOf}
use Rattle.byte_store.proofs.Lasts.{lasts_after}
use Rattle.array_store.specs.Stores.{Follows, IsStoreOf, StoreView}
use Rattle.array_store.proofs.Holding.{follows_more, follows_same}
use Rattle.vault.specs.Images.{Image, flat, recovered}
use Rattle.vault.specs.Moments.{IsFront, IsLogged}
use Rattle.vault.specs.declared.store.Stop.{Stop}
use Rattle.vault.specs.declared.store.Stop.TheVariants.{Killed}
use Rattle.group_form.specs.Form.{HasGroups}
use Rattle.journaled_store.specs.Left.{HasBoth}
use Rattle.journaled_store.specs.Steps.{IsUpToDate}
use Rattle.journaled_store.specs.Outlasting.{OpensAs, OpensBut, Outlasts, OutlastsSince, Point, Works, allowed, parts_of}
use Rattle.journaled_store.specs.Keeping.{KeepsStore, WholeRepresents, OnlyReadKnown, Whole, at_point}
use Rattle.journaled_store.proofs.Lasting.{allowed_within, moved_lasts, table}
use Rattle.journaled_store.proofs.Opening.{opens_more}
use Rattle.journaled_store.proofs.Storing.{has_both, shows_on}

module _ {V X : Type 0} (shows : TiersView → X → Type 0) (known : V → Type 0) (seen : V → Image) (may_leave : V → Stop → Image → Type 0) (moment : V → ℕ) (left_since : V → Stop → ℕ → Image → Type 0)
    (counts_now : (vault : V) → known vault → (stop : Stop) (t : ℕ) (i : Image) → t ≤ moment vault → may_leave vault stop i → left_since vault stop t i)
    (only_now : (vault : V) → known vault → (stop : Stop) (i : Image) → left_since vault stop (moment vault) i → may_leave vault stop i)
    (p : Point V) (vault : V) (read : known p.vault → OnlyReadKnown known seen may_leave moment left_since p.vault vault) where
  abbrev q : Point V
  q = record { keeper = p.keeper; noted = p.noted; batch = p.batch; failed = p.failed; tiers = p.tiers; vault = vault }

  as_more : (list more : List X) (c : Cells) → HasAllOf list more → OpensAs shows list (parts_of p.tiers).groups (length (parts_of p.tiers).drives) c
      → OpensAs shows more (parts_of p.tiers).groups (length (parts_of p.tiers).drives) c
  as_more list more c within o = record { what = o.what; listed = within o.what o.listed; left = λ absent d there same. o.left absent d there same }

  module _ (killed cut more_killed more_cut : List X) (out : Outlasts shows known seen may_leave p killed cut) (k : HasAllOf killed more_killed) (c : HasAllOf cut more_cut) where
    now : OnlyReadKnown known seen may_leave moment left_since p.vault vault
    now = read out.is_known

    old_leaves : (stop : Stop) (i : Image) → may_leave p.vault stop i → OpensAs shows (allowed stop more_killed more_cut) (parts_of p.tiers).groups (length (parts_of p.tiers).drives) (recovered i)
    old_leaves stop i may = as_more (allowed stop killed cut) (allowed stop more_killed more_cut) (recovered i) (allowed_within stop killed cut more_killed more_cut k c) (out.leaves stop i may)

    works_read : p.failed ≡ false → Works shows seen may_leave q more_killed more_cut
    works_read on = let w = out.works on in record {
      lost = w.lost;
      few = w.few;
      gone = w.gone;
      live = subst (λ (s : Image). IsUpToDate w.lost p.keeper p.noted p.batch (recovered s)) (sym now.finds) w.live;
      table = subst (λ (s : Image). HasGroups (parts_of p.tiers).groups (length (parts_of p.tiers).drives) (recovered s)) (sym now.finds) w.table;
      low = w.low;
      logged = λ stop. record {
        flushed = subst (λ (s : Image). w.low stop ≤ length s.journal) (sym now.finds) (w.logged stop).flushed;
        leaves = λ i may. subst (λ (s : Image). IsFront w.lost s (w.low stop) i) (sym now.finds) ((w.logged stop).leaves i ((now.time stop).ends i may));
      };
      all = w.all ∙ ap (λ (s : Image). length s.journal) (sym now.finds);
      opens = λ stop n least most. opens_more shows w.lost (table shows known seen may_leave moment left_since counts_now only_now p killed cut w) (parts_of p.tiers).groups (length (parts_of p.tiers).drives)
          (allowed stop killed cut) (allowed stop more_killed more_cut) _ (allowed_within stop killed cut more_killed more_cut k c)
          (subst (λ (s : Image). OpensBut shows w.lost (allowed stop killed cut) (parts_of p.tiers).groups (length (parts_of p.tiers).drives) (after s.cells (flat (take n s.journal)))) (sym now.finds)
          (w.opens stop n least (subst (λ (s : Image). n ≤ length s.journal) now.finds most)));
    }

    pub read_outlasts : Outlasts shows known seen may_leave q more_killed more_cut
    read_outlasts = record {
      is_known = now.stays;
      leaves = λ stop i may. old_leaves stop i ((now.time stop).ends i may);
      works = works_read;
    }

    pub read_since : (t : ℕ) → t ≤ moment p.vault → (stop : Stop) (i : Image) → left_since vault stop t i
        → (left_since p.vault stop t i → OpensAs shows (allowed stop more_killed more_cut) (parts_of p.tiers).groups (length (parts_of p.tiers).drives) (recovered i))
        → OpensAs shows (allowed stop more_killed more_cut) (parts_of p.tiers).groups (length (parts_of p.tiers).drives) (recovered i)
    read_since t le stop i left was = elim ((now.time stop).nothing_else t i le left) [
      | inl before ↦ was before
      | inr is ↦ old_leaves stop i is
    ]

  -- the vault was only read
  pub read_lasts : (before then : X) → Lasts (Outlasts shows known seen may_leave) (λ (r : Point V). moment r.vault) (OutlastsSince shows left_since) before then p q
  read_lasts before then = record {
    later = λ killed cut out. ((read out.is_known).time Killed).later;
    following = λ killed cut more_killed more_cut out k c. read_outlasts killed cut more_killed more_cut out k.each c.each;
    during = λ killed cut more_killed more_cut out k c stop i left. read_since killed cut more_killed more_cut out k.each c.each (moment p.vault) (omega arith) stop i left
        (λ was. old_leaves killed cut more_killed more_cut out k.each c.each stop i (only_now p.vault out.is_known stop i was));
    earlier = λ t since_killed since_cut killed cut more_killed more_cut le since out wk wc k c stop i left.
        read_since killed cut more_killed more_cut out k.each c.each t le stop i left
        (λ was. as_more (allowed stop since_killed since_cut) (allowed stop more_killed more_cut) (recovered i) (allowed_within stop since_killed since_cut more_killed more_cut wk wc) (since stop i was));
  }

module _ {V : Type 0} (known : V → Type 0) (seen : V → Image) (may_leave : V → Stop → Image → Type 0) (moment : V → ℕ) (left_since : V → Stop → ℕ → Image → Type 0)
    (counts_now : (vault : V) → known vault → (stop : Stop) (t : ℕ) (i : Image) → t ≤ moment vault → may_leave vault stop i → left_since vault stop t i)
    (only_now : (vault : V) → known vault → (stop : Stop) (i : Image) → left_since vault stop (moment vault) i → may_leave vault stop i) where
  abbrev Keeps : Whole V → Whole V → Type 0
  Keeps = KeepsStore known seen may_leave moment left_since

  -- the vault is as it was
  pub kept_calm : (was now : Whole V) → ((F : StoreState) → WholeRepresents was F → WholeRepresents now F)
      → ((F : StoreState) → WholeRepresents was F → (block : ℕ) → key_at now.store.tiers.world.array block ≡ key_at was.store.tiers.world.array block)
      → (now.store.size ≡ was.store.size) × (now.store.tiers.world.array.parts.groups.payload ≡ was.store.tiers.world.array.parts.groups.payload)
      → now.vault ≡ was.vault → ((F : StoreState) → WholeRepresents was F → Follows was.store.tiers now.store.tiers) → (now.failed ≡ false → was.failed ≡ false)
      → ((lost : List Bool) (c : Cells) → IsUpToDate lost was.keeper was.noted was.batch c → IsUpToDate lost now.keeper now.noted now.batch c)
      → KeepsStore known seen may_leave moment left_since was now
  kept_calm was now bytes keys sizes vault follows works step = record {
    bytes = bytes;
    keys = keys;
    sizes = sizes;
    stays = λ is. subst known (sym vault) is;
    follows = follows;
    lasts = λ F what is shows. moved_lasts HasBoth known seen may_leave moment left_since counts_now only_now (at_point was) (at_point now) vault (follows F is) works step what what;
  }

  -- and so is the array
  pub kept_same : (was now : Whole V) → now.store ≡ was.store → now.unsynced ≡ was.unsynced → now.vault ≡ was.vault → now.failed ≡ was.failed
      → ((lost : List Bool) (c : Cells) → IsUpToDate lost was.keeper was.noted was.batch c → IsUpToDate lost now.keeper now.noted now.batch c)
      → KeepsStore known seen may_leave moment left_since was now
  kept_same was now store unsynced vault failed step = kept_calm was now
      (λ F is. subst (λ (s : StoreView). IsStoreOf s.tiers s.size now.unsynced F) (sym store) (subst (λ b. IsStoreOf was.store.tiers was.store.size b F) (sym unsynced) is))
      (λ F is block. ap (λ (s : StoreView). key_at s.tiers.world.array block) store)
      (ap (λ (s : StoreView). s.size) store, ap (λ (s : StoreView). s.tiers.world.array.parts.groups.payload) store)
      vault
      (λ F is. subst (λ (s : StoreView). Follows was.store.tiers s.tiers) (sym store) (follows_same was.store.tiers))
      (λ on. sym failed ∙ on)
      step

  -- its vault was only read
  pub kept_read : (was : Whole V) (vault : V) → (known was.vault → OnlyReadKnown known seen may_leave moment left_since was.vault vault)
      → KeepsStore known seen may_leave moment left_since was
      (record { store = was.store; unsynced = was.unsynced; keeper = was.keeper; noted = was.noted; batch = was.batch; failed = was.failed; vault = vault })
  kept_read was vault read = record {
    bytes = λ F is. is;
    keys = λ F is block. refl;
    sizes = (refl, refl);
    stays = λ is. (read is).stays;
    follows = λ F is. follows_same was.store.tiers;
    lasts = λ F what is shows. read_lasts HasBoth known seen may_leave moment left_since counts_now only_now (at_point was) vault read what what;
  }

  -- two calls
  pub kept_more : (was mid now : Whole V) → KeepsStore known seen may_leave moment left_since was mid → KeepsStore known seen may_leave moment left_since mid now
      → KeepsStore known seen may_leave moment left_since was now
  kept_more was mid now one two = record {
    bytes = λ F is. two.bytes F (one.bytes F is);
    keys = λ F is block. two.keys F (one.bytes F is) block ∙ one.keys F is block;
    sizes = (two.sizes.0 ∙ one.sizes.0, two.sizes.1 ∙ one.sizes.1);
    stays = λ is. two.stays (one.stays is);
    follows = λ F is. follows_more was.store.tiers mid.store.tiers now.store.tiers (one.follows F is) (two.follows F (one.bytes F is));
    lasts = λ F what is shows. lasts_after (Outlasts HasBoth known seen may_leave) (λ (r : Point V). moment r.vault) (OutlastsSince HasBoth left_since) what what (at_point was) (at_point mid) (at_point now)
        (one.lasts F what is shows)
        (two.lasts F what (one.bytes F is) (shows_on was.store.tiers.world.array.keys mid.store.tiers.world.array.keys F what (λ k. one.keys F is k) shows));
  }

  -- no call
  pub kept_none : (was : Whole V) → KeepsStore known seen may_leave moment left_since was was
  kept_none was = kept_same was was refl refl refl refl (λ lost c live. live)

  works_by : (was now : Bool) → (was ≡ true → now ≡ true) → now ≡ false → was ≡ false
  works_by true later stays on = absurd (true≢false (sym (stays refl) ∙ on))
  works_by false later stays on = refl

  -- the vault was left, and the journal may have failed or a drive be lost
  pub kept_given_up : (was now : Whole V) → ((F : StoreState) → WholeRepresents was F → WholeRepresents now F)
      → ((F : StoreState) → WholeRepresents was F → (block : ℕ) → key_at now.store.tiers.world.array block ≡ key_at was.store.tiers.world.array block)
      → (now.store.size ≡ was.store.size) × (now.store.tiers.world.array.parts.groups.payload ≡ was.store.tiers.world.array.parts.groups.payload)
      → now.vault ≡ was.vault → ((F : StoreState) → WholeRepresents was F → Follows was.store.tiers now.store.tiers) → (was.failed ≡ true → now.failed ≡ true)
      → ((lost : List Bool) (c : Cells) → IsUpToDate lost was.keeper was.noted was.batch c → IsUpToDate lost now.keeper now.noted now.batch c)
      → KeepsStore known seen may_leave moment left_since was now
  kept_given_up was now bytes keys sizes vault follows failed step = kept_calm was now bytes keys sizes vault follows (works_by was.failed now.failed failed) step

  -- the store was settled
  pub kept_settled : (was now : Whole V) → ((F : StoreState) → WholeRepresents was F → WholeRepresents now F)
      → ((F : StoreState) → WholeRepresents was F → (block : ℕ) → key_at now.store.tiers.world.array block ≡ key_at was.store.tiers.world.array block)
      → (now.store.size ≡ was.store.size) × (now.store.tiers.world.array.parts.groups.payload ≡ was.store.tiers.world.array.parts.groups.payload)
      → (known was.vault → known now.vault) → ((F : StoreState) → WholeRepresents was F → Follows was.store.tiers now.store.tiers)
      → ((F : StoreState) (what : Shown) → WholeRepresents was F → HasBoth was.store.tiers what
      → Lasts (Outlasts HasBoth known seen may_leave) (λ (r : Point V). moment r.vault) (OutlastsSince HasBoth left_since) what what (at_point was) (at_point now))
      → KeepsStore known seen may_leave moment left_since was now
  kept_settled was now bytes keys sizes stays follows lasts = record {
    bytes = bytes;
    keys = keys;
    sizes = sizes;
    stays = stays;
    follows = follows;
    lasts = λ F what is shows. lasts F what is (has_both was.store.tiers F what is.holds shows);
  }
