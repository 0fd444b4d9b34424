-- Calls of a store one after another, and what stops leave of them.
use Rattle.std.proofs.Common.{ℕ, arith, List, [], ◌∷◌, ◌++◌, refl}
use Rattle.std.proofs.lemmas.List.Elements.{Contains-append_left, Contains-append_right}
use Rattle.byte_store.specs.Lasting.{Acknowledges, Covers, Lasts}

-- a list with what is shown before and after a call
pub covering : {X : Type 0} (list : List X) (before now : X) → Covers (list ++ before ∷ now ∷ []) list before now
covering list before now = record {
  each = λ b has. Contains-append_left list (before ∷ now ∷ []) b has;
  has_before = Contains-append_right list (before ∷ now ∷ []) before (0, omega arith, refl);
  has_now = Contains-append_right list (before ∷ now ∷ []) now (1, omega arith, refl);
}

-- a list with what is shown before and after a call covers itself
pub covers_own : {X : Type 0} (more some : List X) (before now : X) → Covers more some before now → Covers more more before now
covers_own more some before now c = record { each = λ b has. has; has_before = c.has_before; has_now = c.has_now }

module _ {S X : Type 0} (outlasts : S → List X → List X → Type 0) (moment : S → ℕ) (outlasts_since : S → ℕ → List X → List X → Type 0) where
  -- a call that leaves more
  pub lasts_wider : (b n before now : X) (old new : S) → ((more some : List X) → Covers more some before now → Covers more some b n)
      → Lasts outlasts moment outlasts_since b n old new → Lasts outlasts moment outlasts_since before now old new
  lasts_wider b n before now old new to lasts = record {
    later = lasts.later;
    following = λ killed cut more_killed more_cut out k c. lasts.following killed cut more_killed more_cut out (to more_killed killed k) (to more_cut cut c);
    during = λ killed cut more_killed more_cut out k c. lasts.during killed cut more_killed more_cut out (to more_killed killed k) (to more_cut cut c);
    earlier = λ t since_killed since_cut killed cut more_killed more_cut le since out wk wc k c.
        lasts.earlier t since_killed since_cut killed cut more_killed more_cut le since out wk wc (to more_killed killed k) (to more_cut cut c);
  }

  -- one that leaves what is shown before it, or what is shown after it
  pub lasts_as_before : (before now : X) (old new : S) → Lasts outlasts moment outlasts_since before before old new → Lasts outlasts moment outlasts_since before now old new
  lasts_as_before before now old new lasts = lasts_wider before before before now old new (λ more some c. record { each = c.each; has_before = c.has_before; has_now = c.has_before }) lasts

  pub lasts_as_now : (before now : X) (old new : S) → Lasts outlasts moment outlasts_since now now old new → Lasts outlasts moment outlasts_since before now old new
  lasts_as_now before now old new lasts = lasts_wider now now before now old new (λ more some c. record { each = c.each; has_before = c.has_now; has_now = c.has_now }) lasts

  -- two calls, each of which leaves what is shown before or after both
  pub lasts_both : (b1 n1 b2 n2 before now : X) (old mid new : S)
      → ((more some : List X) → Covers more some before now → Covers more some b1 n1) → ((more some : List X) → Covers more some before now → Covers more some b2 n2)
      → Lasts outlasts moment outlasts_since b1 n1 old mid → Lasts outlasts moment outlasts_since b2 n2 mid new → Lasts outlasts moment outlasts_since before now old new
  lasts_both b1 n1 b2 n2 before now old mid new to_one to_two one two = record {
    later = λ killed cut out.
        let was = one.later killed cut out in
        let is = two.later (killed ++ b1 ∷ n1 ∷ []) (cut ++ b1 ∷ n1 ∷ [])
        (one.following killed cut (killed ++ b1 ∷ n1 ∷ []) (cut ++ b1 ∷ n1 ∷ []) out (covering killed b1 n1) (covering cut b1 n1)) in
        omega (arith, was, is);
    following = λ killed cut more_killed more_cut out k c.
        two.following more_killed more_cut more_killed more_cut (one.following killed cut more_killed more_cut out (to_one more_killed killed k) (to_one more_cut cut c))
        (to_two more_killed more_killed (covers_own more_killed killed before now k)) (to_two more_cut more_cut (covers_own more_cut cut before now c));
    during = λ killed cut more_killed more_cut out k c.
        two.earlier (moment old) more_killed more_cut more_killed more_cut more_killed more_cut (one.later killed cut out)
        (one.during killed cut more_killed more_cut out (to_one more_killed killed k) (to_one more_cut cut c))
        (one.following killed cut more_killed more_cut out (to_one more_killed killed k) (to_one more_cut cut c))
        (λ b has. has) (λ b has. has)
        (to_two more_killed more_killed (covers_own more_killed killed before now k)) (to_two more_cut more_cut (covers_own more_cut cut before now c));
    earlier = λ t since_killed since_cut killed cut more_killed more_cut le since out wk wc k c.
        two.earlier t more_killed more_cut more_killed more_cut more_killed more_cut (let was = one.later killed cut out in omega (arith, le, was))
        (one.earlier t since_killed since_cut killed cut more_killed more_cut le since out wk wc (to_one more_killed killed k) (to_one more_cut cut c))
        (one.following killed cut more_killed more_cut out (to_one more_killed killed k) (to_one more_cut cut c))
        (λ b has. has) (λ b has. has)
        (to_two more_killed more_killed (covers_own more_killed killed before now k)) (to_two more_cut more_cut (covers_own more_cut cut before now c));
  }

  -- a call that leaves what is shown, and then another one; and the other way round
  pub lasts_after : (before now : X) (old mid new : S)
      → Lasts outlasts moment outlasts_since before before old mid → Lasts outlasts moment outlasts_since before now mid new → Lasts outlasts moment outlasts_since before now old new
  lasts_after before now old mid new one two =
      lasts_both before before before now before now old mid new (λ more some c. record { each = c.each; has_before = c.has_before; has_now = c.has_before }) (λ more some c. c) one two

  pub lasts_ahead : (before now : X) (old mid new : S)
      → Lasts outlasts moment outlasts_since before now old mid → Lasts outlasts moment outlasts_since now now mid new → Lasts outlasts moment outlasts_since before now old new
  lasts_ahead before now old mid new one two =
      lasts_both before now now now before now old mid new (λ more some c. c) (λ more some c. record { each = c.each; has_before = c.has_now; has_now = c.has_now }) one two

-- a call that leaves what is shown, and then one that is acknowledged
pub acknowledges_after : {S X : Type 0} (outlasts : S → List X → List X → Type 0) (moment : S → ℕ) (outlasts_since : S → ℕ → List X → List X → Type 0)
    (before now : X) (old mid new : S) → Lasts outlasts moment outlasts_since before before old mid → Acknowledges outlasts before now mid new → Acknowledges outlasts before now old new
acknowledges_after outlasts moment outlasts_since before now old mid new lasts acknowledges killed cut more_cut out c =
    acknowledges (killed ++ before ∷ before ∷ []) more_cut more_cut
    (lasts.following killed cut (killed ++ before ∷ before ∷ []) more_cut out (covering killed before before) (record { each = c.each; has_before = c.has_before; has_now = c.has_before }))
    (covers_own more_cut cut before now c)
