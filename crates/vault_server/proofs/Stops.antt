-- What stops leave of a vault after a session, a flush, and a settling.
use Rattle.std.proofs.Common.{◌≡◌, ℕ, ◌≤◌, ◌⊎◌, List, [], ◌∷◌, ◌++◌, inl, inr, refl, sym, ap, subst, arith, ◌∙◌, Option}
use Rattle.std.specs.Prelude.{Contains, length}
use Rattle.extent_groups.specs.Groups.{Groups}
use Rattle.byte_store.specs.Flat.{Sizes, StoreState}
use Rattle.byte_store.specs.Lasting.{Covers, Flushes, Lasts, Shown, HasAllOf}
use Rattle.byte_store.specs.declared.fault.StoreFault.{StoreFault}
use Rattle.array_store.specs.Stores.{Follows}
use Rattle.vault.specs.Images.{Image, recovered}
use Rattle.vault.specs.declared.store.Stop.{Stop}
use Rattle.vault.specs.declared.store.Stop.TheVariants.{Killed, PowerLost}
use Rattle.journaled_store.specs.Left.{HasBoth}
use Rattle.journaled_store.specs.Outlasting.{OpensAs, Outlasts, OutlastsSince, Point, allowed, parts_of}
use Rattle.nbd_serve.specs.Enduring.{AreKept, HoldsSince, IsHonored, Rise, Round, passed}
use Rattle.nbd_serve.specs.Exchanges.{Exchange}
use Rattle.nbd_serve.specs.Sessions.{Session}
use Rattle.nbd_serve.specs.Stopping.{IsStoreAt, StoreType}
use Rattle.nbd_serve.proofs.Stopping.{has_head, has_rest}
use Rattle.nbd_serve.specs.declared.end.End.{End}
use Rattle.vault_server.specs.Served.{AreFound, HasBegun, IsExchangeFound, IsOn, IsServedFrom, Opens, Outlived, StopsLeave, durable}
use Rattle.vault_server.proofs.Sessions.{Held, carry, covers_one, held_served, held_still, rise_between, rise_to, session_ends, session_same}
use Rattle.vault_server.proofs.Begun.{on_after}

-- each stop may leave the same
same_allowed : (stop : Stop) (list : List Shown) → allowed stop list list ≡ list
same_allowed Killed list = refl
same_allowed PowerLost list = refl

module _ {S V : Type 0} (type : StoreType S) (known : V → Type 0) (seen : V → Image) (may_leave : V → Stop → Image → Type 0) (moment : V → ℕ) (left_since : V → Stop → ℕ → Image → Type 0)
    (only_now : (v : V) → known v → (stop : Stop) (i : Image) → left_since v stop (moment v) i → may_leave v stop i) (at : S → Point V)
    (is_out : (s : S) (killed cut : List Shown) → type.outlasts s killed cut → Outlasts HasBoth known seen may_leave (at s) killed cut)
    (is_since : (s : S) (t : ℕ) (killed cut : List Shown) → type.outlasts_since s t killed cut → OutlastsSince HasBoth left_since (at s) t killed cut)
    (was_out : (s : S) (killed cut : List Shown) → Outlasts HasBoth known seen may_leave (at s) killed cut → type.outlasts s killed cut)
    (was_since : (s : S) (t : ℕ) (killed cut : List Shown) → OutlastsSince HasBoth left_since (at s) t killed cut → type.outlasts_since s t killed cut)
    (is_moment : (s : S) → type.moment s ≡ moment (at s).vault) (closed flushed : S) (q : Point V) (ok : Type 0) where
  -- a flush and a settling of a store that shows this
  pub record Closes (x : Shown) : Type 0 where
    pub flushes : Lasts type.outlasts type.moment type.outlasts_since x x closed flushed
    pub secures : ok → Flushes type.outlasts x closed flushed
    pub settles : Lasts (Outlasts HasBoth known seen may_leave) (λ (r : Point V). moment r.vault) (OutlastsSince HasBoth left_since) x x (at flushed) q

  -- moments of the two
  later : (killed cut : List Shown) (x : Shown) → Closes x → type.outlasts closed killed cut → Contains killed x → Contains cut x
      → (type.moment closed ≤ moment (at flushed).vault) × (moment (at flushed).vault ≤ moment q.vault)
  later killed cut x closes out has has_cut =
      let one = closes.flushes.later killed cut out in
      let same = is_moment flushed in (
        omega (arith, one, same),
        closes.settles.later killed cut (is_out flushed killed cut (closes.flushes.following killed cut killed cut out
            (covers_one killed killed x (λ b is. is) has) (covers_one cut cut x (λ b is. is) has_cut))),
      )

  settled_since : (t : ℕ) (killed cut : List Shown) (x : Shown) → Closes x → t ≤ type.moment closed → Contains killed x → Contains cut x → HoldsSince type closed t killed cut
      → OutlastsSince HasBoth left_since q t killed cut
  settled_since t killed cut x closes early has has_cut was =
      let w = carry type t killed cut x closed flushed early closes.flushes has has_cut was in
      let one = (later killed cut x closes was.now has has_cut).0 in
      closes.settles.earlier t killed cut killed cut killed cut (omega (arith, early, one)) (is_since flushed t killed cut w.since) (is_out flushed killed cut w.now)
      (λ b is. is) (λ b is. is) (covers_one killed killed x (λ b is. is) has) (covers_one cut cut x (λ b is. is) has_cut)

  module _ (groups : Groups) (drives : ℕ) (on : IsOn groups drives q.tiers) where
    abbrev opens : Stop → ℕ → List Shown → Type 0
    opens = Opens left_since groups drives q.vault

    these : (list : List Shown) (i : Image) → OpensAs HasBoth list (parts_of q.tiers).groups (length (parts_of q.tiers).drives) (recovered i) → OpensAs HasBoth list groups drives (recovered i)
    these list i o = subst (λ n. OpensAs HasBoth list groups n (recovered i)) on.many
        (subst (λ g. OpensAs HasBoth list g (length (parts_of q.tiers).drives) (recovered i)) on.groups_are o)

    opens_at : (stop : Stop) (t : ℕ) (killed cut : List Shown) → OutlastsSince HasBoth left_since q t killed cut → opens stop t (allowed stop killed cut)
    opens_at stop t killed cut since i left = these (allowed stop killed cut) i (since stop i left)

    opens_within : (stop : Stop) (t : ℕ) (some more : List Shown) → HasAllOf some more → opens stop t some → opens stop t more
    opens_within stop t some more within given i left =
        let o = given i left in record { what = o.what; listed = within o.what o.listed; left = λ absent d there same. o.left absent d there same }

    opens_each : (stop : Stop) (t : ℕ) (list : List Shown) → OutlastsSince HasBoth left_since q t list list → opens stop t list
    opens_each stop t list since = subst (λ l. opens stop t l) (same_allowed stop list) (opens_at stop t list list since)

    -- each exchange
    found : (xs : List Exchange) (rs : List (Round S)) (final : Shown) (all : List Shown) (first : ℕ) → Closes final → Contains all final → Rise type.moment first rs (type.moment closed)
        → AreKept type closed all final xs rs → AreFound opens type.moment final xs rs
    found [] [] final all first closes has rise kept = tt
    found [] (r ∷ rs) final all first closes has rise kept = absurd kept
    found (x ∷ xs) [] final all first closes has rise kept = absurd kept
    found (x ∷ xs) (r ∷ rs) final all first closes has rise kept =
        let later = final ∷ r.then ∷ passed r.after rs in
        let t = type.moment r.answered in
        let early = rise_to type.moment t rs (type.moment closed) rise.1 in
        let head = has_head final (r.then ∷ passed r.after rs) in (
          record {
            changed = λ says. opens_at Killed t later all (settled_since t later all final closes early head has (kept.0.changed says));
            durable = λ says stop. opens_each stop t later (settled_since t later later final closes early head head (kept.0.durable says));
          },
          found xs rs final all t closes has rise.1 kept.1,
        )

    -- what was flushed
    secured : (t : ℕ) (list : List Shown) (final : Shown) → Closes final → HoldsSince type closed t list list → ok → (stop : Stop) → opens stop (moment q.vault) (final ∷ [])
    secured t list final closes was is stop i left =
        let one = final ∷ [] in
        let covers = covers_one one one final (λ b has. has) (has_head final []) in
        let now = closes.settles.following one one one one (is_out flushed one one (closes.secures is list list was.now)) covers covers in
        these one i (subst (λ l. OpensAs HasBoth l (parts_of q.tiers).groups (length (parts_of q.tiers).drives) (recovered i)) (same_allowed stop one)
        (now.leaves stop i (only_now q.vault now.is_known stop i left)))

    outlived : (t : ℕ) (what final : Shown) (old : S) (xs : List Exchange) (rs : List (Round S)) (all : List Shown) → t ≤ type.moment old → Closes final
        → Held type closed t final (final ∷ passed what rs) → Contains all final → Rise type.moment (type.moment old) rs (type.moment closed) → AreKept type closed all final xs rs
        → Outlived opens type.moment t (moment q.vault) ok what final xs rs
    outlived t what final old xs rs all early closes held has rise kept =
        let there = rise_to type.moment (type.moment old) rs (type.moment closed) rise in
        let times = later held.list held.list final closes held.holds.now held.ends held.ends in
        let one = times.0 in
        let two = times.1 in record {
          lasts = λ stop. opens_within stop t held.list (final ∷ passed what rs) held.within
              (opens_each stop t held.list (settled_since t held.list held.list final closes (omega (arith, early, there)) held.ends held.ends held.holds));
          rise = rise_between type.moment t (type.moment old) rs (type.moment closed) (moment q.vault) early rise (omega (arith, one, two));
          found = found xs rs final all (type.moment old) closes has rise kept;
          secured = secured t held.list final closes held.holds;
        }

    pub stops_leave : (may : StoreFault → Type 0) (sizes : Sizes) (F : StoreState) (what : Shown) (opened : S) (last : End) (before after held now : Option (List ℕ))
        (session : Session type may sizes F what opened closed last before after held now) (t : ℕ) → IsStoreAt type opened F what
        → ((G : StoreState) (x : Shown) → IsStoreAt type closed G x → Closes x) → t ≤ type.moment opened → HoldsSince type opened t (what ∷ []) (what ∷ [])
        → StopsLeave opens type.moment t (moment q.vault) ok what session
    stops_leave may sizes F what opened last before after held now (inl turned) t is close early was =
        let P : S → Type 0 = λ s. IsStoreAt type s F what in
        let all = what ∷ what ∷ [] in
        outlived t what what opened [] [] all early (close F what (subst P (sym turned.same) is)) (held_still type t what what opened closed all turned.same refl (has_head what (what ∷ [])) was)
        (has_head what (what ∷ [])) (let same = ap type.moment turned.same in omega (arith, same)) tt
    stops_leave may sizes F what opened last before after held now (inr served) t is close early was =
        let s = served.serves in
        let e = s.endures in
        outlived t what e.final opened s.exchanges e.rounds (what ∷ e.final ∷ passed what e.rounds) early (close s.final e.final e.is)
        (held_served type may sizes.bytes F s.final s.exchanges s.state s.runs t what opened closed early was e)
        (has_rest what e.final (e.final ∷ passed what e.rounds) (has_head e.final (passed what e.rounds))) (e.rise (what ∷ []) (what ∷ []) was.now) (e.kept (what ∷ []) (what ∷ []) was.now)

  -- the array that is served keeps its groups and drives
  pub served_from_store : (groups : Groups) (drives : ℕ) (opened : S) → ((a b : S) → type.stays a b → Follows (at a).tiers (at b).tiers) → IsOn groups drives (at opened).tiers
      → ((G : StoreState) → type.represents closed G → Follows (at closed).tiers (at flushed).tiers × Follows (at flushed).tiers q.tiers)
      → ((G : StoreState) (x : Shown) → IsStoreAt type closed G x → Closes x) → (may : StoreFault → Type 0) (sizes : Sizes) (what : Shown) → sizes.bytes ≡ length what.bytes
      → IsStoreAt type opened (durable what) what → (last : End) (before after held now : Option (List ℕ))
      → (IsStoreAt type opened (durable what) what → Session type may sizes (durable what) what opened closed last before after held now) → (t : ℕ)
      → IsServedFrom type may (HasBegun known seen may_leave moment left_since t what (at opened)) (Opens left_since groups drives q.vault) t (moment q.vault) ok what last before after held now
  served_from_store groups drives opened stays on follows close may sizes what sized is last before after held now serves t =
      let session = serves is in
      let ends = session_ends type may sizes (durable what) what opened closed last before after held now is session in
      let then = follows ends.0 ends.2.represented in
      let groups_kept : S → Groups = λ s. (parts_of (at s).tiers).groups in
      let drives_kept : S → ℕ = λ s. length (parts_of (at s).tiers).drives in
      let on_closed : IsOn groups drives (at closed).tiers = record {
        groups_are = session_same type groups_kept (λ a b is. (stays a b is).groups) may sizes (durable what) what opened closed last before after held now session ∙ on.groups_are;
        many = session_same type drives_kept (λ a b is. (stays a b is).many) may sizes (durable what) what opened closed last before after held now session ∙ on.many;
      } in
      let on_now = on_after groups drives (at flushed).tiers q.tiers (on_after groups drives (at closed).tiers (at flushed).tiers on_closed then.0) then.1 in record {
        opened = opened;
        closed = closed;
        shown = is;
        sizes = sizes;
        sized = sized;
        session = session;
        stops = λ begun.
            let early = begun.early in
            let same = is_moment opened in
            stops_leave groups drives on_now may sizes (durable what) what opened last before after held now session t is close (omega (arith, early, same))
            (record { now = was_out opened (what ∷ []) (what ∷ []) begun.now; since = was_since opened t (what ∷ []) (what ∷ []) begun.then });
      }
