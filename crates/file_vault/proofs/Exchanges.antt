-- Files under exchanged numbers.
use Rattle.std.proofs.Common.{◌≡◌, ◌≢◌, ◌⊎◌, inl, inr, ⊎_elim, ℕ, if◌then◌else◌, List, sym, ◌∙◌, ap, subst, arith}
use Rattle.std.specs.Prelude.{◌==◌}
use Rattle.std.proofs.lemmas.Bool.{ne_eqb}
use Rattle.vault.specs.Moments.{Elapses}
use Rattle.file_vault.specs.Folders.{Folder, Wrote, Mixed, WasCut, CutShort, wrote_at, mixed_at, cut_at, HasFile}
use Rattle.file_vault.specs.Renumbering.{exchanged, renumbered}
use Rattle.file_vault.proofs.Puts.{below_or}

-- which of the numbers one is
which : (d : ℕ) → (d ≡ 16) ⊎ ((d ≡ 17) ⊎ ((d ≡ 18) ⊎ ((d ≡ 19) ⊎ ((d ≢ 16) × (d ≢ 17) × (d ≢ 18) × (d ≢ 19)))))
which d = elim (below_or d 16) [
  | inl under ↦ inr (inr (inr (inr ((λ e. omega (arith, e, under)), (λ e. omega (arith, e, under)), (λ e. omega (arith, e, under)), (λ e. omega (arith, e, under))))))
  | inr rest ↦ elim rest [
    | inl e ↦ inl e
    | inr (j, e) ↦ elim (below_or d 17) [
      | inl under ↦ absurd (omega (arith, e, under))
      | inr rest ↦ elim rest [
        | inl is ↦ inr (inl is)
        | inr (i, is) ↦ elim (below_or d 18) [
          | inl under ↦ absurd (omega (arith, is, under))
          | inr rest ↦ elim rest [
            | inl that ↦ inr (inr (inl that))
            | inr (h, that) ↦ elim (below_or d 19) [
              | inl under ↦ absurd (omega (arith, that, under))
              | inr rest ↦ elim rest [
                | inl last ↦ inr (inr (inr (inl last)))
                | inr (g, past) ↦ inr (inr (inr (inr ((λ e. omega (arith, e, past)), (λ e. omega (arith, e, past)), (λ e. omega (arith, e, past)), (λ e. omega (arith, e, past))))))
              ]
            ]
          ]
        ]
      ]
    ]
  ]
]

other_stays : (d : ℕ) → d ≢ 16 → d ≢ 17 → d ≢ 18 → d ≢ 19 → exchanged d ≡ d
other_stays d n16 n17 n18 n19 =
    ap (λ t. if t then 17 else if d == 17 then 16 else if d == 18 then 19 else if d == 19 then 18 else d) (ne_eqb d 16 n16)
    ∙ ap (λ t. if t then 16 else if d == 18 then 19 else if d == 19 then 18 else d) (ne_eqb d 17 n17)
    ∙ ap (λ t. if t then 19 else if d == 19 then 18 else d) (ne_eqb d 18 n18)
    ∙ ap (λ t. if t then 18 else d) (ne_eqb d 19 n19)

-- a number that is exchanged twice
pub twice : (d : ℕ) → exchanged (exchanged d) ≡ d
twice d = elim (which d) [
  | inl e ↦ ap (λ n. exchanged (exchanged n)) e ∙ sym e
  | inr rest ↦ elim rest [
    | inl e ↦ ap (λ n. exchanged (exchanged n)) e ∙ sym e
    | inr rest ↦ elim rest [
      | inl e ↦ ap (λ n. exchanged (exchanged n)) e ∙ sym e
      | inr rest ↦ elim rest [
        | inl e ↦ ap (λ n. exchanged (exchanged n)) e ∙ sym e
        | inr (n16, n17, n18, n19) ↦ let stays = other_stays d n16 n17 n18 n19 in ap exchanged stays ∙ stays
      ]
    ]
  ]
]

pub twice_renumbered : (f : Folder) → renumbered (renumbered f) ≡ f
twice_renumbered f i d = (ap f (twice d)) i

-- other numbers are exchanged with others
pub apart : (d file : ℕ) → d ≢ file → exchanged d ≢ exchanged file
apart d file ne e = ne (sym (twice d) ∙ ap exchanged e ∙ twice file)

-- time goes on for the files under exchanged numbers
pub exchanged_elapses : (m0 m1 : ℕ) (past since : ℕ → Folder → Type 0) (during leaves all : Folder → Type 0) → Elapses m0 m1 past since during leaves → ((g : Folder) → during (renumbered g) → all g)
    → Elapses m0 m1 (λ t g. past t (renumbered g)) (λ t g. since t (renumbered g)) all (λ g. leaves (renumbered g))
exchanged_elapses m0 m1 past since during leaves all time to = record {
  later = time.later;
  nothing_else = λ t g le left. ⊎_elim (λ was. inl was) (λ now. inr (to g now)) (time.nothing_else t (renumbered g) le left);
  keeps = λ t g le left. time.keeps t (renumbered g) le left;
  ends = λ g now. to g (time.ends (renumbered g) now);
}

-- writes and cuts, by the number under which they are made
module _ (file n at : ℕ) (bytes : List ℕ) (is : n ≡ exchanged file) (f g : Folder) where
  pub exchanged_wrote : Wrote n at bytes f g → Wrote file at bytes (renumbered f) (renumbered g)
  exchanged_wrote wrote =
      let it : Wrote (exchanged file) at bytes f g = subst (λ m. Wrote m at bytes f g) is wrote in
      record { inside = it.inside; outside = it.outside; others = λ d ne. it.others (exchanged d) (apart d file ne) }

  pub exchanged_mixed : Mixed n at bytes f g → Mixed file at bytes (renumbered f) (renumbered g)
  exchanged_mixed mixed =
      let it : Mixed (exchanged file) at bytes f g = subst (λ m. Mixed m at bytes f g) is mixed in
      record { inside = it.inside; outside = it.outside; others = λ d ne. it.others (exchanged d) (apart d file ne) }

  pub exchanged_cut : WasCut n at f g → WasCut file at (renumbered f) (renumbered g)
  exchanged_cut cut =
      let it : WasCut (exchanged file) at f g = subst (λ m. WasCut m at f g) is cut in
      record { before = it.before; zeros = it.zeros; others = λ d ne. it.others (exchanged d) (apart d file ne) }

  pub exchanged_short : CutShort n at f g → CutShort file at (renumbered f) (renumbered g)
  exchanged_short cut =
      let it : CutShort (exchanged file) at f g = subst (λ m. CutShort m at f g) is cut in
      record { before = it.before; either = it.either; others = λ d ne. it.others (exchanged d) (apart d file ne) }

-- what a stop leaves of them
module _ (file n at : ℕ) (bytes : List ℕ) (is : n ≡ exchanged file) (outcomes : Folder → Type 0) (g : Folder) where
  pub exchanged_wrote_at : wrote_at n at bytes outcomes (renumbered g) → wrote_at file at bytes (λ f. outcomes (renumbered f)) g
  exchanged_wrote_at (f, was, wrote) = (
    renumbered f,
    subst outcomes (sym (twice_renumbered f)) was,
    subst (λ (h : Folder). Wrote file at bytes (renumbered f) h) (twice_renumbered g) (exchanged_wrote file n at bytes is f (renumbered g) wrote),
  )

  pub exchanged_mixed_at : mixed_at n at bytes outcomes (renumbered g) → mixed_at file at bytes (λ f. outcomes (renumbered f)) g
  exchanged_mixed_at (f, was, mixed) = (
    renumbered f,
    subst outcomes (sym (twice_renumbered f)) was,
    subst (λ (h : Folder). Mixed file at bytes (renumbered f) h) (twice_renumbered g) (exchanged_mixed file n at bytes is f (renumbered g) mixed),
  )

  pub exchanged_cut_at : cut_at n at outcomes (renumbered g) → cut_at file at (λ f. outcomes (renumbered f)) g
  exchanged_cut_at (f, was, cut) = (
    renumbered f,
    subst outcomes (sym (twice_renumbered f)) was,
    subst (λ (h : Folder). CutShort file at (renumbered f) h) (twice_renumbered g) (exchanged_short file n at bytes is f (renumbered g) cut),
  )

pub exchanged_file : (file n : ℕ) (s : Folder) (outcomes : Folder → Type 0) → n ≡ exchanged file → HasFile n s outcomes → HasFile file (renumbered s) (λ g. outcomes (renumbered g))
exchanged_file file n s outcomes is has g now = ap g (sym (twice file)) ∙ subst (λ m. g (exchanged m) ≡ s m) is (has (renumbered g) now)
