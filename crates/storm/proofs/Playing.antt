-- A worker's rounds, and the hands of all workers.
use Rattle.std.proofs.Common.{◌≡◌, ℕ, zero, suc, ◌+◌, List, [], ◌∷◌, ◌++◌, length, map, take, drop, append-nil, refl, sym, ap, ◌∙◌, subst, arith}
use Rattle.std.proofs.Math.Seq.{take-length, drop-length}
use Rattle.std.proofs.lemmas.List.{length-append, length-map, map-append}
use Rattle.std.specs.List.{All}
use Rattle.history.specs.Entries.{Carried}
use Rattle.array_book.specs.Acts.{Act}
use Rattle.array_book.specs.Running.{AreDone}
use Rattle.storm.specs.Rounds.{Sized, IsRound, AreRounds, HasPlayed, AreHired, HavePlayed}

-- one round more
rounds_more : (sizes : Sized) (size number from n : ℕ) (v w x : Carried Act) (after : List (Carried Act)) → n ≡ from + length after
    → AreRounds sizes size number from v after w → IsRound sizes size number n w x → AreRounds sizes size number from v (after ++ x ∷ []) x
rounds_more sizes size number from n v w x [] count same round =
    (subst (λ u. IsRound sizes size number from u x) same (subst (λ m. IsRound sizes size number m w x) (omega (arith, count)) round), refl)
rounds_more sizes size number from n v w x (y ∷ ys) count rounds round =
    (rounds.0, rounds_more sizes size number (from + 1) n y w x ys (omega (arith, count)) rounds.1 round)

pub played_none : (sizes : Sized) (size number : ℕ) (v : Carried Act) → HasPlayed sizes size 0 number v v
played_none sizes size number v = record { after = []; many = refl; each = refl }

pub played_more : (sizes : Sized) (size number rounds : ℕ) (v w x : Carried Act) → HasPlayed sizes size rounds number v w → IsRound sizes size number rounds w x
    → HasPlayed sizes size (rounds + 1) number v x
played_more sizes size number rounds v w x played round = record {
  after = played.after ++ x ∷ [];
  many = length-append played.after (x ∷ []) ∙ ap (λ n. n + 1) played.many;
  each = rounds_more sizes size number 0 rounds v w x played.after (omega (arith, played.many)) played.each round;
}

-- what holds of each of a list and of one more
all_cons : {X : Type 0} (P : X → Type 0) (y : X) (ys : List X) → P y → All P ys → All P (y ∷ ys)
all_cons P y ys one rest zero d low = one
all_cons P y ys one rest (suc k) d low = rest k d (omega (arith, low))

pub all_popped : {X : Type 0} (P : X → Type 0) (ys : List X) (x : X) → All P (ys ++ x ∷ []) → All P ys × P x
all_popped P [] x all = ((λ k d low. absurd (omega (arith, low))), all 0 x (omega arith))
all_popped P (y ∷ ys) x all =
    let rest = all_popped P ys x (λ k d low. all (suc k) d (omega (arith, low))) in
    (all_cons P y ys (all 0 y (omega arith)) rest.0, rest.1)

-- one worker more was hired
pub hired_more : (from n : ℕ) (numbers : List ℕ) (hands : List (Carried Act)) (hand : Carried Act) → n ≡ from + length numbers → hand.mine ≡ []
    → AreHired from numbers hands → AreHired from (numbers ++ n ∷ []) (hands ++ hand ∷ [])
hired_more from n [] [] hand count none hired = (omega (arith, count), none, tt)
hired_more from n [] (h ∷ hs) hand count none hired = absurd hired
hired_more from n (m ∷ ms) [] hand count none hired = absurd hired
hired_more from n (m ∷ ms) (h ∷ hs) hand count none hired = (hired.0, hired.1, hired_more (from + 1) n ms hs hand (omega (arith, count)) none hired.2)

-- workers that were hired and whose jobs were done have played
pub all_played : (sizes : Sized) (size rounds from : ℕ) (numbers : List ℕ) (vs ws : List (Carried Act)) → AreHired from numbers vs
    → AreDone (HasPlayed sizes size rounds) numbers vs ws → HavePlayed sizes size rounds from ws
all_played sizes size rounds from [] [] [] hired done = tt
all_played sizes size rounds from [] [] (w ∷ ws) hired done = absurd done
all_played sizes size rounds from [] (v ∷ vs) ws hired done = absurd hired
all_played sizes size rounds from (n ∷ ns) [] ws hired done = absurd hired
all_played sizes size rounds from (n ∷ ns) (v ∷ vs) [] hired done = absurd done
all_played sizes size rounds from (n ∷ ns) (v ∷ vs) (w ∷ ws) hired done =
    ((v, hired.1, subst (λ m. HasPlayed sizes size rounds m v w) hired.0 done.0), all_played sizes size rounds (from + 1) ns vs ws hired.2 done.1)

pub hired_push : {W : Type 0} (number_of : W → ℕ) (hand_of : W → Carried Act) (ws us : List W) (w : W) (n : ℕ) → us ≡ ws ++ w ∷ [] → n ≡ length ws → number_of w ≡ n → (hand_of w).mine ≡ []
    → AreHired 0 (map number_of ws) (map hand_of ws) → AreHired 0 (map number_of us) (map hand_of us)
hired_push number_of hand_of ws us w n pushed count is none hired =
    subst (λ us. AreHired 0 (map number_of us) (map hand_of us)) (sym pushed)
    (subst (λ ns. AreHired 0 ns (map hand_of (ws ++ w ∷ []))) (sym (map-append number_of ws (w ∷ [])))
    (subst (λ hs. AreHired 0 (map number_of ws ++ number_of w ∷ []) hs) (sym (map-append hand_of ws (w ∷ [])))
    (subst (λ m. AreHired 0 (map number_of ws ++ m ∷ []) (map hand_of ws ++ hand_of w ∷ [])) (sym is)
    (hired_more 0 n (map number_of ws) (map hand_of ws) (hand_of w) (omega (arith, count, length-map ws number_of)) none hired))))

-- a list that was written over as a whole
pub written_back : {X : Type 0} (len : ℕ) (items new : List X) → length new ≡ length items → length items ≡ len → take len (new ++ drop (length new) items) ≡ new
written_back len items new same all =
    ap (λ rest. take len (new ++ rest)) (ap (λ n. drop n items) same ∙ drop-length items)
    ∙ (ap (take len) (append-nil new) ∙ (ap (λ n. take n new) (sym all ∙ sym same) ∙ take-length new))
