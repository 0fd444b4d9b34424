-- What stops leave of a session, exchange by exchange.
use Rattle.std.proofs.Common.{◌≡◌, ℕ, ◌≤◌, List, [], ◌∷◌, ◌++◌, ◌⊎◌, inl, inr, refl, sym, ap, subst, arith, ◌∙◌}
use Rattle.std.specs.Prelude.{Contains}
use Rattle.std.proofs.lemmas.List.Elements.{All-cons, All-contains, All-nil, Contains-append_cases, Contains-append_left, Contains-append_right}
use Rattle.byte_store.specs.Flat.{StoreState}
use Rattle.byte_store.specs.Lasting.{Acknowledges, Covers, Flushes, Lasts, Shown, HasAllOf}
use Rattle.byte_store.proofs.Lasts.{covering}
use Rattle.byte_store.specs.declared.fault.StoreFault.{StoreFault}
use Rattle.nbd_serve.specs.Exchanges.{Exchange, IsExchange, RunsSession}
use Rattle.nbd_serve.specs.Stopping.{Comes, IsStoreAt, LeavesBy, LeavesStore, SaysChanged, SaysDurable, StoreType, Survives}
use Rattle.nbd_serve.specs.Enduring.{AreKept, AreServedRounds, CoversBoth, Endures, HoldsSince, IsHonored, IsServedRound, LastsThrough, Rise, Round, passed}
use Rattle.nbd_serve.proofs.Stopping.{came_none, comes_on, has_head, has_rest}

-- one exchange more
abbrev pub runs_more : (may : StoreFault → Type 0) (size : ℕ) (F : StoreState) (xs : List Exchange) (G : StoreState) (x : Exchange) (H : StoreState) → RunsSession may size F xs G → IsExchange may size G x H
    → RunsSession may size F (xs ++ x ∷ []) H
runs_more may size F [] G x H runs is = (H, (let P : StoreState → Type 0 = λ S. IsExchange may size S x H in subst P runs is), refl)
runs_more may size F (y ∷ xs) G x H runs is = (runs.0, runs.1, runs_more may size runs.0 xs G x H runs.2 is)

-- lists within others
within_cons : (x : Shown) (xs more : List Shown) → Contains more x → HasAllOf xs more → HasAllOf (x ∷ xs) more
within_cons x xs more has within = λ b is.
    elim (Contains-append_cases (x ∷ []) xs b is) [
      | inl at ↦ All-contains (Contains more) (x ∷ []) b (All-cons (Contains more) x [] has (All-nil (Contains more))) at
      | inr rest ↦ within b rest
    ]

within_following : (xs ys zs : List Shown) → HasAllOf ys zs → HasAllOf (xs ++ ys) (xs ++ zs)
within_following xs ys zs within = λ b is.
    elim (Contains-append_cases xs ys b is) [
      | inl first ↦ Contains-append_left xs zs b first
      | inr second ↦ Contains-append_right xs zs b (within b second)
    ]

within_rest : (x : Shown) (ys zs : List Shown) → HasAllOf ys zs → HasAllOf (x ∷ ys) (x ∷ zs)
within_rest x ys zs within = within_following (x ∷ []) ys zs within

joining : (some states : List Shown) → CoversBoth (some ++ states) some states
joining some states = record { first = λ b is. Contains-append_left some states b is; second = λ b is. Contains-append_right some states b is }

-- what a session showed last; and with one round more it showed no less, and what the store showed in this round
abbrev pub shown_last : {S : Type 0} → Shown → List (Round S) → Shown
shown_last first [] = first
shown_last first (r ∷ rs) = shown_last r.after rs

passed_last : {S : Type 0} (first : Shown) (rs : List (Round S)) → Contains (passed first rs) (shown_last first rs)
passed_last first [] = has_head first []
passed_last first (r ∷ rs) = has_rest first (shown_last r.after rs) (r.then ∷ passed r.after rs) (has_rest r.then (shown_last r.after rs) (passed r.after rs) (passed_last r.after rs))

passed_more : {S : Type 0} (first : Shown) (rs : List (Round S)) (r : Round S) → HasAllOf (passed first rs) (passed first (rs ++ r ∷ []))
passed_more first [] r = λ b has. Contains-append_left (first ∷ []) (r.then ∷ r.after ∷ []) b has
passed_more first (s ∷ rs) r = within_rest first (s.then ∷ passed s.after rs) (s.then ∷ passed s.after (rs ++ r ∷ []))
    (within_rest s.then (passed s.after rs) (passed s.after (rs ++ r ∷ [])) (passed_more s.after rs r))

passed_then : {S : Type 0} (first : Shown) (rs : List (Round S)) (r : Round S) → Contains (passed first (rs ++ r ∷ [])) r.then
passed_then first [] r = has_rest first r.then (r.then ∷ r.after ∷ []) (has_head r.then (r.after ∷ []))
passed_then first (s ∷ rs) r = has_rest first r.then (s.then ∷ passed s.after (rs ++ r ∷ [])) (has_rest s.then r.then (passed s.after (rs ++ r ∷ [])) (passed_then s.after rs r))

passed_after : {S : Type 0} (first : Shown) (rs : List (Round S)) (r : Round S) → Contains (passed first (rs ++ r ∷ [])) r.after
passed_after first [] r = has_rest first r.after (r.then ∷ r.after ∷ []) (has_rest r.then r.after (r.after ∷ []) (has_head r.after []))
passed_after first (s ∷ rs) r = has_rest first r.after (s.then ∷ passed s.after (rs ++ r ∷ [])) (has_rest s.then r.after (passed s.after (rs ++ r ∷ [])) (passed_after s.after rs r))

last_more : {S : Type 0} (first : Shown) (rs : List (Round S)) (r : Round S) → r.after ≡ shown_last first (rs ++ r ∷ [])
last_more first [] r = refl
last_more first (s ∷ rs) r = last_more s.after rs r

-- lists of two and of three
within_two : (a b : Shown) (more : List Shown) → Contains more a → Contains more b → HasAllOf (a ∷ b ∷ []) more
within_two a b more has_a has_b = within_cons a (b ∷ []) more has_a (within_cons b [] more has_b (λ c has. (let low = has.1 in absurd (omega (arith, low)))))

within_three : (a b c : Shown) (more : List Shown) → Contains more a → Contains more b → Contains more c → HasAllOf (a ∷ b ∷ c ∷ []) more
within_three a b c more has_a has_b has_c = within_cons a (b ∷ c ∷ []) more has_a (within_two b c more has_b has_c)

-- moments
rise_all : {S : Type 0} (moment : S → ℕ) (first : ℕ) (rs : List (Round S)) (last : ℕ) → Rise moment first rs last → first ≤ last
rise_all moment first [] last rise = rise
rise_all moment first (r ∷ rs) last rise = let one = rise.0 in let two = rise_all moment (moment r.answered) rs last rise.1 in omega (arith, one, two)

rise_more : {S : Type 0} (moment : S → ℕ) (first : ℕ) (rs : List (Round S)) (last : ℕ) (r : Round S) (more : ℕ) → Rise moment first rs last → last ≤ moment r.answered → moment r.answered ≤ more
    → Rise moment first (rs ++ r ∷ []) more
rise_more moment first [] last r more rise one two = ((omega (arith, rise, one)), two)
rise_more moment first (s ∷ rs) last r more rise one two = (rise.0, rise_more moment (moment s.answered) rs last r more rise.1 one two)

rise_later : {S : Type 0} (moment : S → ℕ) (first : ℕ) (rs : List (Round S)) (last more : ℕ) → Rise moment first rs last → last ≤ more → Rise moment first rs more
rise_later moment first [] last more rise one = omega (arith, rise, one)
rise_later moment first (r ∷ rs) last more rise one = (rise.0, rise_later moment (moment r.answered) rs last more rise.1 one)

module _ {S : Type 0} (type : StoreType S) where
  abbrev LastsBy : Shown → Shown → S → S → Type 0
  LastsBy before now old new = Lasts type.outlasts type.moment type.outlasts_since before now old new

  -- rounds, and one more
  rounds_more : (may : StoreFault → Type 0) (size : ℕ) (F : StoreState) (xs : List Exchange) (G : StoreState) (x : Exchange) (H : StoreState) (run : RunsSession may size F xs G) (is : IsExchange may size G x H)
      (old : S) (rs : List (Round S)) (last : S) (r : Round S) → AreServedRounds type may size F xs G run old rs last → IsServedRound type last H r
      → AreServedRounds type may size F (xs ++ x ∷ []) H (runs_more may size F xs G x H run is) old (rs ++ r ∷ []) r.rested
  rounds_more may size F [] G x H run is old [] last r are one = (let P : S → Type 0 = λ s. IsServedRound type s H r in subst P are one, refl)
  rounds_more may size F [] G x H run is old (s ∷ rs) last r are one = absurd are
  rounds_more may size F (y ∷ xs) G x H run is old [] last r are one = absurd are
  rounds_more may size F (y ∷ xs) G x H run is old (s ∷ rs) last r are one = (are.0, rounds_more may size run.0 xs G x H run.2 is s.rested rs last r are.1 one)

  -- one call
  through_one : (states : List Shown) (before now : Shown) (old new : S) → LastsBy before now old new
      → Contains states before → Contains states now → LastsThrough type states old new
  through_one states before now old new lasts has_before has_now =
      let covers : (more some : List Shown) → CoversBoth more some states → Covers more some before now =
      λ more some joins. record { each = joins.first; has_before = joins.second before has_before; has_now = joins.second now has_now } in record {
        later = lasts.later;
        following = λ killed cut more_killed more_cut holds joins joins_cut.
            lasts.following killed cut more_killed more_cut holds (covers more_killed killed joins) (covers more_cut cut joins_cut);
        during = λ killed cut more_killed more_cut holds joins joins_cut.
            lasts.during killed cut more_killed more_cut holds (covers more_killed killed joins) (covers more_cut cut joins_cut);
        earlier = λ t since_killed since_cut killed cut more_killed more_cut early since holds within within_cut joins joins_cut.
            lasts.earlier t since_killed since_cut killed cut more_killed more_cut early since holds within within_cut
            (covers more_killed killed joins) (covers more_cut cut joins_cut);
      }

  through_wider : (some states : List Shown) (old new : S) → LastsThrough type some old new → HasAllOf some states → LastsThrough type states old new
  through_wider some states old new lasts within =
      let joins : (all more : List Shown) → CoversBoth all more states → CoversBoth all more some =
      λ all more j. record { first = j.first; second = λ b has. j.second b (within b has) } in record {
        later = lasts.later;
        following = λ killed cut more_killed more_cut holds j j_cut. lasts.following killed cut more_killed more_cut holds (joins more_killed killed j) (joins more_cut cut j_cut);
        during = λ killed cut more_killed more_cut holds j j_cut. lasts.during killed cut more_killed more_cut holds (joins more_killed killed j) (joins more_cut cut j_cut);
        earlier = λ t since_killed since_cut killed cut more_killed more_cut early since holds within_killed within_cut j j_cut.
            lasts.earlier t since_killed since_cut killed cut more_killed more_cut early since holds within_killed within_cut (joins more_killed killed j) (joins more_cut cut j_cut);
      }

  -- and others
  through_more : (some others states : List Shown) (old mid new : S) → LastsThrough type some old mid → LastsThrough type others mid new
      → HasAllOf some states → HasAllOf others states → LastsThrough type states old new
  through_more some others states old mid new first second within_some within_others =
      let joins_some : (all more : List Shown) → CoversBoth all more states → CoversBoth all more some =
      λ all more joins. record { first = joins.first; second = λ b has. joins.second b (within_some b has) } in
      let covers : (all more : List Shown) → CoversBoth all more states → CoversBoth all all others =
      λ all more joins. record { first = λ b has. has; second = λ b has. joins.second b (within_others b has) } in record {
        later = λ killed cut holds.
            let there = first.following killed cut (killed ++ some) (cut ++ some) holds (joining killed some) (joining cut some) in
            let one = first.later killed cut holds in
            let two = second.later (killed ++ some) (cut ++ some) there in omega (arith, one, two);
        following = λ killed cut more_killed more_cut holds joins joins_cut.
            second.following more_killed more_cut more_killed more_cut
            (first.following killed cut more_killed more_cut holds (joins_some more_killed killed joins) (joins_some more_cut cut joins_cut))
            (covers more_killed killed joins) (covers more_cut cut joins_cut);
        during = λ killed cut more_killed more_cut holds joins joins_cut.
            second.earlier (type.moment old) more_killed more_cut more_killed more_cut more_killed more_cut (first.later killed cut holds)
            (first.during killed cut more_killed more_cut holds (joins_some more_killed killed joins) (joins_some more_cut cut joins_cut))
            (first.following killed cut more_killed more_cut holds (joins_some more_killed killed joins) (joins_some more_cut cut joins_cut))
            (λ b has. has) (λ b has. has) (covers more_killed killed joins) (covers more_cut cut joins_cut);
        earlier = λ t since_killed since_cut killed cut more_killed more_cut early since holds within within_cut joins joins_cut.
            let one = first.later killed cut holds in
            second.earlier t more_killed more_cut more_killed more_cut more_killed more_cut (omega (arith, early, one))
            (first.earlier t since_killed since_cut killed cut more_killed more_cut early since holds within within_cut
            (joins_some more_killed killed joins) (joins_some more_cut cut joins_cut))
            (first.following killed cut more_killed more_cut holds (joins_some more_killed killed joins) (joins_some more_cut cut joins_cut))
            (λ b has. has) (λ b has. has) (covers more_killed killed joins) (covers more_cut cut joins_cut);
      }

  -- what holds since a moment does so after more calls
  since_more : (t : ℕ) (killed cut more_killed more_cut states : List Shown) (old new : S) → t ≤ type.moment old
      → LastsThrough type states old new → CoversBoth more_killed killed states → CoversBoth more_cut cut states
      → HoldsSince type old t killed cut → HoldsSince type new t more_killed more_cut
  since_more t killed cut more_killed more_cut states old new early lasts covers covers_cut was = record {
    now = lasts.following killed cut more_killed more_cut was.now covers covers_cut;
    since = lasts.earlier t killed cut killed cut more_killed more_cut early was.since was.now covers.first covers_cut.first covers covers_cut;
  }

  kept_on : (t : ℕ) (x : Exchange) (later all more more_all states : List Shown) (old new : S) → t ≤ type.moment old
      → LastsThrough type states old new → CoversBoth more later states → CoversBoth more_all all states
      → IsHonored (HoldsSince type old t) x later all → IsHonored (HoldsSince type new t) x more more_all
  kept_on t x later all more more_all states old new early lasts covers covers_all kept = record {
    changed = λ says. since_more t later all more more_all states old new early lasts covers covers_all (kept.changed says);
    durable = λ says. since_more t later later more more states old new early lasts covers covers (kept.durable says);
  }

  -- the exchanges made, after one more
  kept_more : (xs : List Exchange) (x : Exchange) (first : Shown) (rs : List (Round S)) (r : Round S) (all more_all : List Shown) (t : ℕ) (old new : S)
      → Rise type.moment t rs (type.moment old) → LastsThrough type (shown_last first rs ∷ r.then ∷ r.after ∷ []) old new
      → CoversBoth more_all all (shown_last first rs ∷ r.then ∷ r.after ∷ []) → IsHonored (HoldsSince type new (type.moment r.answered)) x (r.after ∷ r.then ∷ r.after ∷ []) more_all
      → AreKept type old all (shown_last first rs) xs rs → AreKept type new more_all r.after (xs ++ x ∷ []) (rs ++ r ∷ [])
  kept_more [] x first [] r all more_all t old new rise lasts covers last kept = (last, tt)
  kept_more [] x first (s ∷ rs) r all more_all t old new rise lasts covers last kept = absurd kept
  kept_more (y ∷ xs) x first [] r all more_all t old new rise lasts covers last kept = absurd kept
  kept_more (y ∷ xs) x first (s ∷ rs) r all more_all t old new rise lasts covers last kept =
      let was = shown_last s.after rs in
      let more = passed s.after (rs ++ r ∷ []) in
      let list = r.after ∷ s.then ∷ more in
      let wider : HasAllOf more list = λ b has. has_rest r.after b (s.then ∷ more) (has_rest s.then b more has) in
      let has_was = wider was (passed_more s.after rs r was (passed_last s.after rs)) in
      let covers_later : CoversBoth list (was ∷ s.then ∷ passed s.after rs) (was ∷ r.then ∷ r.after ∷ []) = record {
        first = within_cons was (s.then ∷ passed s.after rs) list has_was
            (within_cons s.then (passed s.after rs) list (has_rest r.after s.then (s.then ∷ more) (has_head s.then more)) (λ b has. wider b (passed_more s.after rs r b has)));
        second = within_three was r.then r.after list has_was (wider r.then (passed_then s.after rs r)) (wider r.after (passed_after s.after rs r));
      } in (
        kept_on (type.moment s.answered) y (was ∷ s.then ∷ passed s.after rs) all list more_all (was ∷ r.then ∷ r.after ∷ []) old new
            (rise_all type.moment (type.moment s.answered) rs (type.moment old) rise.1) lasts covers_later covers kept.0,
        kept_more xs x s.after rs r all more_all (type.moment s.answered) old new rise.1 lasts covers last kept.1,
      )

  -- and after what the session stops at
  kept_last : (xs : List Exchange) (first : Shown) (rs : List (Round S)) (final : Shown) (all more_all : List Shown) (t : ℕ) (old new : S)
      → Rise type.moment t rs (type.moment old) → LastsThrough type (shown_last first rs ∷ final ∷ []) old new → CoversBoth more_all all (shown_last first rs ∷ final ∷ [])
      → AreKept type old all (shown_last first rs) xs rs → AreKept type new more_all final xs rs
  kept_last [] first [] final all more_all t old new rise lasts covers kept = tt
  kept_last [] first (s ∷ rs) final all more_all t old new rise lasts covers kept = absurd kept
  kept_last (y ∷ xs) first [] final all more_all t old new rise lasts covers kept = absurd kept
  kept_last (y ∷ xs) first (s ∷ rs) final all more_all t old new rise lasts covers kept =
      let was = shown_last s.after rs in
      let rest = s.then ∷ passed s.after rs in
      let has_was = has_rest final was rest (has_rest s.then was (passed s.after rs) (passed_last s.after rs)) in
      let covers_later : CoversBoth (final ∷ rest) (was ∷ rest) (was ∷ final ∷ []) = record {
        first = within_cons was rest (final ∷ rest) has_was (λ b has. has_rest final b rest has);
        second = within_two was final (final ∷ rest) has_was (has_head final rest);
      } in (
        kept_on (type.moment s.answered) y (was ∷ rest) all (final ∷ rest) more_all (was ∷ final ∷ []) old new
            (rise_all type.moment (type.moment s.answered) rs (type.moment old) rise.1) lasts covers_later covers kept.0,
        kept_last xs s.after rs final all more_all (type.moment s.answered) old new rise.1 lasts covers kept.1,
      )

  -- the last that was shown is what the store shows
  abbrev pub AtLast : (may : StoreFault → Type 0) (size : ℕ) (F : StoreState) (xs : List Exchange) (G : StoreState) (run : RunsSession may size F xs G) (first : Shown) (old store : S)
      → Endures type may size F xs G run G first old store → Type 0
  AtLast may size F xs G run first old store e = e.final ≡ shown_last first e.rounds

  -- no exchange was made
  pub endures_none : (may : StoreFault → Type 0) (size : ℕ) (F : StoreState) (first : Shown) (store : S) → IsStoreAt type store F first
      → (e : Endures type may size F [] F refl F first store store) × AtLast may size F [] F refl first store store e
  endures_none may size F first store is = (
    record {
      rounds = [];
      last = store;
      are = refl;
      came = came_none type.stays store store refl;
      final = first;
      is = is;
      lasts = inl (refl, refl, refl);
      rise = λ killed cut holds. omega arith;
      kept = λ killed cut holds. tt;
    },
    refl,
  )

  -- what the store outlasts after exchanges
  record Outlasted (all_cut : List Shown) (store : S) : Type 0 where
    killed : List Shown
    cut : List Shown
    holds : type.outlasts store killed cut
    within : HasAllOf cut all_cut

  outlasted : (states killed cut : List Shown) (old store : S) (P : Type 0) → (P → store ≡ old) → P ⊎ LastsThrough type states old store
      → type.outlasts old killed cut → Outlasted (cut ++ states) store
  outlasted states killed cut old store P same (inl still) holds =
      let Q : S → Type 0 = λ s. type.outlasts s killed cut in record {
        killed = killed;
        cut = cut;
        holds = subst Q (sym (same still)) holds;
        within = λ b has. Contains-append_left cut states b has;
      }
  outlasted states killed cut old store P same (inr through) holds = record {
    killed = killed ++ states;
    cut = cut ++ states;
    holds = through.following killed cut (killed ++ states) (cut ++ states) holds (joining killed states) (joining cut states);
    within = λ b has. has;
  }

  -- what is called after none or more calls
  through_next : (some others states : List Shown) (old store new : S) (P : Type 0) → (P → store ≡ old) → P ⊎ LastsThrough type some old store → LastsThrough type others store new
      → HasAllOf some states → HasAllOf others states → LastsThrough type states old new
  through_next some others states old store new P same (inl still) next within_some within_others =
      let Q : S → Type 0 = λ s. LastsThrough type others s new in
      through_wider others states old new (subst Q (same still) next) within_others
  through_next some others states old store new P same (inr first) next within_some within_others =
      through_more some others states old store new first next within_some within_others

  -- an exchange, and then the store rested
  exchange_rested : (was now after : Shown) (old mid new : S) → Survives type was now old mid → LastsBy now after mid new → LastsThrough type (was ∷ now ∷ after ∷ []) old new
  exchange_rested was now after old mid new (inl still) rested =
      let P : S → Type 0 = λ s. LastsBy now after s new in
      let states = was ∷ now ∷ after ∷ [] in
      through_one states now after old new (subst P still.0 rested) (has_rest was now (now ∷ after ∷ []) (has_head now (after ∷ [])))
      (has_rest was after (now ∷ after ∷ []) (has_rest now after (after ∷ []) (has_head after [])))
  exchange_rested was now after old mid new (inr first) rested =
      let states = was ∷ now ∷ after ∷ [] in
      let has_was = has_head was (now ∷ after ∷ []) in
      let has_now = has_rest was now (now ∷ after ∷ []) (has_head now (after ∷ [])) in
      let has_after = has_rest was after (now ∷ after ∷ []) (has_rest now after (after ∷ []) (has_head after [])) in
      through_more states states states old mid new (through_one states was now old mid first has_was has_now) (through_one states now after mid new rested has_now has_after)
      (λ b has. has) (λ b has. has)

  later_by : (before now : Shown) (killed cut : List Shown) (old mid : S) → Survives type before now old mid → type.outlasts old killed cut
      → type.moment old ≤ type.moment mid
  later_by before now killed cut old mid (inl still) holds = let same = ap type.moment still.0 in omega (arith, same)
  later_by before now killed cut old mid (inr first) holds = first.later killed cut holds

  held_by : (before now : Shown) (killed cut : List Shown) (old mid : S) → Survives type before now old mid → type.outlasts old killed cut
      → (more : List Shown) × (more_cut : List Shown) × type.outlasts mid more more_cut
  held_by before now killed cut old mid (inl still) holds = let P : S → Type 0 = λ s. type.outlasts s killed cut in (killed, cut, subst P (sym still.0) holds)
  held_by before now killed cut old mid (inr first) holds =
      (killed ++ before ∷ now ∷ [], cut ++ before ∷ now ∷ [], first.following killed cut (killed ++ before ∷ now ∷ []) (cut ++ before ∷ now ∷ []) holds (covering killed before now) (covering cut before now))

  -- what an exchange's reply says holds from the moment when it was answered
  kept_new : (was now after : Shown) (x : Exchange) (all : List Shown) (old mid new : S)
      → (SaysChanged x.request x.reply → Acknowledges type.outlasts was now old mid) → (SaysDurable x.request x.reply → Flushes type.outlasts now old mid) → LastsBy now after mid new
      → Contains all was → Contains all now → Contains all after → Outlasted all old
      → IsHonored (HoldsSince type new (type.moment mid)) x (after ∷ now ∷ after ∷ []) all
  kept_new was now after x all old mid new acknowledged flushed rested has_was has_now has_after there =
      let later = after ∷ now ∷ after ∷ [] in
      let one = now ∷ [] in
      let covers : Covers later one now after = record {
        each = λ b has. has_rest after b (now ∷ after ∷ []) (Contains-append_left one (after ∷ []) b has);
        has_before = has_rest after now (now ∷ after ∷ []) (has_head now (after ∷ []));
        has_now = has_head after (now ∷ after ∷ []);
      } in
      let covers_all : Covers all all now after = record { each = λ b has. has; has_before = has_now; has_now = has_after } in
      let covers_cut : Covers all there.cut was now = record { each = there.within; has_before = has_was; has_now = has_now } in record {
        changed = λ says.
            let holds = acknowledged says there.killed there.cut all there.holds covers_cut in record {
              now = rested.following one all later all holds covers covers_all;
              since = rested.during one all later all holds covers covers_all;
            };
        durable = λ says.
            let holds = flushed says there.killed there.cut there.holds in record {
              now = rested.following one one later later holds covers covers;
              since = rested.during one one later later holds covers covers;
            };
      }

  -- one exchange more was made, and then the store rested
  pub endures_more : (may : StoreFault → Type 0) (size : ℕ) (F : StoreState) (xs : List Exchange) (G : StoreState) (x : Exchange) (H : StoreState)
      (run : RunsSession may size F xs G) (is : IsExchange may size G x H) (first : Shown) (old store mid new : S)
      → (e : Endures type may size F xs G run G first old store) → AtLast may size F xs G run first old store e
      → (left : LeavesBy type (shown_last first e.rounds) store mid x.request x.reply H) → (after : Shown) → Comes type.stays mid new → IsStoreAt type new H after → LastsBy left.now after mid new
      → (more : Endures type may size F (xs ++ x ∷ []) H (runs_more may size F xs G x H run is) H first old new)
      × AtLast may size F (xs ++ x ∷ []) H (runs_more may size F xs G x H run is) first old new more
  endures_more may size F xs G x H run is first old store mid new e at left after went there rested =
      let r : Round S = record { answered = mid; then = left.now; rested = new; after = after } in
      let rs = e.rounds in
      let was = shown_last first rs in
      let states = was ∷ left.now ∷ after ∷ [] in
      let some = passed first rs in
      let more = passed first (rs ++ r ∷ []) in
      let final_was : HasAllOf (e.final ∷ some) (after ∷ more) = within_cons e.final some (after ∷ more)
      (subst (λ (b : Shown). Contains (after ∷ more) b) (sym at) (has_rest after was more (passed_more first rs r was (passed_last first rs))))
      (λ b has. has_rest after b more (passed_more first rs r b has)) in
      let has_was = has_rest after was more (passed_more first rs r was (passed_last first rs)) in
      let has_then = has_rest after left.now more (passed_then first rs r) in
      let has_after = has_head after more in
      let within_states = within_three was left.now after (after ∷ more) has_was has_then has_after in
      let lasts = exchange_rested was left.now after store mid new left.survives rested in
      let now : (killed cut : List Shown) → type.outlasts old killed cut → Outlasted (cut ++ e.final ∷ some) store =
      λ killed cut holds. outlasted (e.final ∷ some) killed cut old store _ (λ still. still.1) e.lasts holds in (
        record {
          rounds = rs ++ r ∷ [];
          last = new;
          are = rounds_more may size F xs G x H run is old rs e.last r e.are (record {
            came = comes_on type.stays e.last store mid e.came left.came;
            answered = left.is;
            went = went;
            rested = there;
          });
          came = came_none type.stays new new refl;
          final = after;
          is = there;
          lasts = inr (through_next (e.final ∷ some) states (after ∷ more) old store new _ (λ still. still.1) e.lasts lasts final_was within_states);
          rise = λ killed cut holds.
              let out = now killed cut holds in
              let held = held_by was left.now out.killed out.cut store mid left.survives out.holds in
              rise_more type.moment (type.moment old) rs (type.moment store) r (type.moment new) (e.rise killed cut holds)
              (later_by was left.now out.killed out.cut store mid left.survives out.holds) (rested.later held.0 held.1 held.2);
          kept = λ killed cut holds.
              let all = cut ++ after ∷ more in
              let out = now killed cut holds in
              let wider = within_following cut (e.final ∷ some) (after ∷ more) final_was in
              let covers : CoversBoth all (cut ++ e.final ∷ some) states =
              record { first = wider; second = λ b has. Contains-append_right cut (after ∷ more) b (within_states b has) } in
              kept_more xs x first rs r (cut ++ e.final ∷ some) all (type.moment old) store new (e.rise killed cut holds) lasts covers
              (kept_new was left.now after x all store mid new left.acknowledged left.flushed rested
              (Contains-append_right cut (after ∷ more) was has_was) (Contains-append_right cut (after ∷ more) left.now has_then) (Contains-append_right cut (after ∷ more) after has_after)
              (record { killed = out.killed; cut = out.cut; holds = out.holds; within = λ b has. wider b (out.within b has) }))
              (subst (λ (b : Shown). AreKept type store (cut ++ e.final ∷ some) b xs rs) at (e.kept killed cut holds));
        },
        last_more first rs r,
      )

  -- and then the session stopped
  pub endures_last : (may : StoreFault → Type 0) (size : ℕ) (F : StoreState) (xs : List Exchange) (G : StoreState) (run : RunsSession may size F xs G) (H : StoreState) (first : Shown) (old store new : S)
      → (e : Endures type may size F xs G run G first old store) → AtLast may size F xs G run first old store e → LeavesStore type ⊥ ⊥ (shown_last first e.rounds) store new H
      → Endures type may size F xs G run H first old new
  endures_last may size F xs G run H first old store new e at left = go left.survives
    where
      rs : List (Round S)
      rs = e.rounds

      was : Shown
      was = shown_last first rs

      go : Survives type was left.now store new → Endures type may size F xs G run H first old new
      go (inl still) =
          let final_is : left.now ≡ e.final = still.1 ∙ sym at in record {
            rounds = rs;
            last = e.last;
            are = e.are;
            came = comes_on type.stays e.last store new e.came left.came;
            final = left.now;
            is = left.is;
            lasts = elim e.lasts [
              | inl none ↦ inl (none.0, still.0 ∙ none.1, final_is ∙ none.2)
              | inr through ↦
                  let P : S → Type 0 = λ s. LastsThrough type (left.now ∷ passed first rs) old s in
                  let Q : Shown → Type 0 = λ b. LastsThrough type (b ∷ passed first rs) old store in
                  inr (subst P (sym still.0) (subst Q (sym final_is) through))
            ];
            rise = λ killed cut holds. let P : S → Type 0 = λ s. Rise type.moment (type.moment old) rs (type.moment s) in subst P (sym still.0) (e.rise killed cut holds);
            kept = λ killed cut holds.
                let P : S → Type 0 = λ s. AreKept type s (cut ++ left.now ∷ passed first rs) left.now xs rs in
                let Q : Shown → Type 0 = λ b. AreKept type store (cut ++ b ∷ passed first rs) b xs rs in
                subst P (sym still.0) (subst Q (sym final_is) (e.kept killed cut holds));
          }
      go (inr lasts) =
          let final = left.now in
          let some = passed first rs in
          let states = was ∷ final ∷ [] in
          let through = through_one states was final store new lasts (has_head was (final ∷ [])) (has_rest was final (final ∷ []) (has_head final [])) in
          let has_was = has_rest final was some (passed_last first rs) in
          let final_was : HasAllOf (e.final ∷ some) (final ∷ some) = within_cons e.final some (final ∷ some)
          (subst (λ (b : Shown). Contains (final ∷ some) b) (sym at) has_was) (λ b has. has_rest final b some has) in
          let within_states = within_two was final (final ∷ some) has_was (has_head final some) in record {
            rounds = rs;
            last = e.last;
            are = e.are;
            came = comes_on type.stays e.last store new e.came left.came;
            final = final;
            is = left.is;
            lasts = inr (through_next (e.final ∷ some) states (final ∷ some) old store new _ (λ still. still.1) e.lasts through final_was within_states);
            rise = λ killed cut holds.
                let out = outlasted (e.final ∷ some) killed cut old store _ (λ still. still.1) e.lasts holds in
                rise_later type.moment (type.moment old) rs (type.moment store) (type.moment new) (e.rise killed cut holds) (lasts.later out.killed out.cut out.holds);
            kept = λ killed cut holds.
                kept_last xs first rs final (cut ++ e.final ∷ some) (cut ++ final ∷ some) (type.moment old) store new (e.rise killed cut holds) through
                (record {
                  first = within_following cut (e.final ∷ some) (final ∷ some) final_was;
                  second = λ b has. Contains-append_right cut (final ∷ some) b (within_states b has);
                })
                (subst (λ (b : Shown). AreKept type store (cut ++ e.final ∷ some) b xs rs) at (e.kept killed cut holds));
          }
