-- What a session keeps of a store, and what stops leave of the store after it.
use Rattle.std.proofs.Common.{◌≡◌, ℕ, ◌≤◌, ◌⊎◌, List, [], ◌∷◌, ◌++◌, inl, inr, refl, sym, ap, subst, arith, ◌∙◌, Option}
use Rattle.std.specs.Prelude.{Contains}
use Rattle.byte_store.specs.Flat.{Sizes, StoreState}
use Rattle.byte_store.specs.Lasting.{Covers, Lasts, Shown, HasAllOf}
use Rattle.byte_store.specs.declared.fault.StoreFault.{StoreFault}
use Rattle.journaled_store.proofs.Opening.{alone, one_of}
use Rattle.nbd_serve.specs.Enduring.{AreServedRounds, CoversBoth, Endures, HoldsSince, Rise, Round, passed}
use Rattle.nbd_serve.specs.Exchanges.{Exchange, RunsSession}
use Rattle.nbd_serve.specs.Sessions.{Session}
use Rattle.nbd_serve.specs.Stopping.{Comes, IsStoreAt, Path, StoreType}
use Rattle.nbd_serve.proofs.Stopping.{has_head, has_rest}
use Rattle.nbd_serve.specs.declared.end.End.{End}

-- what was passed begins with the first
passed_first : {S : Type 0} (first : Shown) (rs : List (Round S)) → Contains (passed first rs) first
passed_first first [] = has_head first []
passed_first first (r ∷ rs) = has_head first (r.then ∷ passed r.after rs)

-- a list that covers itself and one that it has
pub covers_one : (more some : List Shown) (x : Shown) → HasAllOf some more → Contains more x → Covers more some x x
covers_one more some x within has = record { each = within; has_before = has; has_now = has }

-- moments that rise to the last
pub rise_to : {S : Type 0} (moment : S → ℕ) (first : ℕ) (rs : List (Round S)) (last : ℕ) → Rise moment first rs last → first ≤ last
rise_to moment first [] last rise = rise
rise_to moment first (r ∷ rs) last rise = let one = rise.0 in let two = rise_to moment (moment r.answered) rs last rise.1 in omega (arith, one, two)

pub rise_between : {S : Type 0} (moment : S → ℕ) (before first : ℕ) (rs : List (Round S)) (last more : ℕ) → before ≤ first → Rise moment first rs last → last ≤ more → Rise moment before rs more
rise_between moment before first [] last more early rise late = omega (arith, early, rise, late)
rise_between moment before first (r ∷ rs) last more early rise late =
    let one = rise.0 in (omega (arith, early, one), rise_between moment (moment r.answered) (moment r.answered) rs last more (omega arith) rise.1 late)

module _ {S : Type 0} (type : StoreType S) where
  -- what each call leaves as it is stays in a session
  module _ {A : Type 0} (f : S → A) (step : (a b : S) → type.stays a b → f b ≡ f a) where
    path_same : (after : List S) (old new : S) → Path type.stays old after new → f new ≡ f old
    path_same [] old new same = ap f same
    path_same (s ∷ after) old new path = path_same after s new path.1 ∙ step old s path.0

    comes_same : (old new : S) → Comes type.stays old new → f new ≡ f old
    comes_same old new came = path_same came.0 old new came.1

    rounds_same : (may : StoreFault → Type 0) (size : ℕ) (F : StoreState) (xs : List Exchange) (H : StoreState) (run : RunsSession may size F xs H) (old : S) (rs : List (Round S)) (last : S)
        → AreServedRounds type may size F xs H run old rs last → f last ≡ f old
    rounds_same may size F [] H run old [] last are = ap f are
    rounds_same may size F [] H run old (r ∷ rs) last are = absurd are
    rounds_same may size F (x ∷ xs) H run old [] last are = absurd are
    rounds_same may size F (x ∷ xs) H run old (r ∷ rs) last are =
        rounds_same may size run.0 xs H run.2 r.rested rs last are.1 ∙ comes_same r.answered r.rested are.0.went ∙ comes_same old r.answered are.0.came

    pub session_same : (may : StoreFault → Type 0) (sizes : Sizes) (F : StoreState) (first : Shown) (old new : S) (last : End) (before after held now : Option (List ℕ))
        → Session type may sizes F first old new last before after held now → f new ≡ f old
    session_same may sizes F first old new last before after held now (inl turned) = ap f turned.same
    session_same may sizes F first old new last before after held now (inr served) =
        let e = served.serves.endures in
        comes_same e.last new e.came ∙ rounds_same may sizes.bytes F served.serves.exchanges served.serves.state served.serves.runs old e.rounds e.last e.are

  -- what holds since a moment does so after a call that leaves what is shown
  pub carry : (t : ℕ) (killed cut : List Shown) (x : Shown) (old new : S) → t ≤ type.moment old → Lasts type.outlasts type.moment type.outlasts_since x x old new
      → Contains killed x → Contains cut x → HoldsSince type old t killed cut → HoldsSince type new t killed cut
  carry t killed cut x old new early lasts has has_cut was =
      let k = covers_one killed killed x (λ b is. is) has in
      let c = covers_one cut cut x (λ b is. is) has_cut in record {
        now = lasts.following killed cut killed cut was.now k c;
        since = lasts.earlier t killed cut killed cut killed cut early was.since was.now (λ b is. is) (λ b is. is) k c;
      }

  -- what stops leave after a session: lists of what was shown, up to its end
  pub record Held (new : S) (t : ℕ) (final : Shown) (all : List Shown) : Type 0 where
    pub list : List Shown
    pub holds : HoldsSince type new t list list
    pub within : HasAllOf list all
    pub ends : Contains list final

  pub held_still : (t : ℕ) (what final : Shown) (old new : S) (all : List Shown) → new ≡ old → final ≡ what → Contains all what
      → HoldsSince type old t (what ∷ []) (what ∷ []) → Held new t final all
  held_still t what final old new all same is has was = record {
    list = what ∷ [];
    holds = let P : S → Type 0 = λ s. HoldsSince type s t (what ∷ []) (what ∷ []) in subst P (sym same) was;
    within = one_of what all has;
    ends = subst (Contains (what ∷ [])) (sym is) (alone what);
  }

  pub held_served : (may : StoreFault → Type 0) (size : ℕ) (F G : StoreState) (xs : List Exchange) (H : StoreState) (run : RunsSession may size F xs H) (t : ℕ) (what : Shown) (old new : S)
      → t ≤ type.moment old → HoldsSince type old t (what ∷ []) (what ∷ [])
      → (e : Endures type may size F xs H run G what old new) → Held new t e.final (e.final ∷ passed what e.rounds)
  held_served may size F G xs H run t what old new early was e =
      let all = e.final ∷ passed what e.rounds in
      let has = has_rest e.final what (passed what e.rounds) (passed_first what e.rounds) in
      elim e.lasts [
        | inl still ↦ held_still t what e.final old new all still.1 still.2 has was
        | inr through ↦ (let covers : CoversBoth all (what ∷ []) all = record { first = one_of what all has; second = λ b is. is } in record {
          list = all;
          holds = record {
            now = through.following (what ∷ []) (what ∷ []) all all was.now covers covers;
            since = through.earlier t (what ∷ []) (what ∷ []) (what ∷ []) (what ∷ []) all all early was.since was.now covers.first covers.first covers covers;
          };
          within = λ b is. is;
          ends = has_head e.final (passed what e.rounds);
        })
      ]

  -- what a store shows after a session
  pub session_ends : (may : StoreFault → Type 0) (sizes : Sizes) (F : StoreState) (first : Shown) (old new : S) (last : End) (before after held now : Option (List ℕ)) → IsStoreAt type old F first
      → Session type may sizes F first old new last before after held now → (G : StoreState) × (x : Shown) × IsStoreAt type new G x
  session_ends may sizes F first old new last before after held now is (inl turned) = let P : S → Type 0 = λ s. IsStoreAt type s F first in (F, first, subst P (sym turned.same) is)
  session_ends may sizes F first old new last before after held now is (inr served) = let e = served.serves.endures in (served.serves.final, e.final, e.is)
