-- The rule goes over to new views: where only who knows what changes, and where one seat takes a step.
use Rattle.std.proofs.Common.{◌≡◌, ℕ, ◌+◌, ◌<◌, ◌≤◌, ◌≢◌, ◌⊎◌, List, [], set, get_or, get_or-set_same, get_or-set_other, length-set, sym, refl, ◌∙◌, le_refl, le_trans, ⊎_elim, subst, arith}
use mathlib.Core.Option.{some}
use mathlib.Core.Logic.{dite}
use native.Mathlib.Decide.{ℕ_discrete}
use lib.ListN.{get_elem?}
use Rattle.map_join.specs.declared.records.Record.{Record}
use Rattle.map_join.specs.Record.{key_of}
use Rattle.map_words.specs.declared.view.Found.{Found}
use Rattle.map_words.specs.declared.view.View.{View}
use Rattle.map_words.specs.Places.{word_of}
use Rattle.map_words.specs.TakeRule.{shares, steps, whole, TakenBy, FoundBy, DecodesTo, IsLeft, TakeRule}

-- the word of a block
abbrev pub word : List ℕ → ℕ → ℕ
word ws block = get_or ws (word_of block) 0

-- each seat's share is at least 1, or it knows nothing
abbrev pub AreSpent : List View → Type 0
AreSpent vs = (seat : ℕ) (v : View) → get_elem? vs seat ≡ some v → v.share ≡ 0 → (v.taken ≡ []) × (v.found ≡ [])

-- what is left depends on the steps alone
pub relabelled : (P Q : Found → Type 0) (block time key : ℕ) → ((f : Found) → P f → Q f) → ((f : Found) → Q f → P f) → IsLeft P block time key → IsLeft Q block time key
relabelled P Q block time key to from is = record {
  reported = λ above. let t = is.reported above in (t.0, to t.0 t.1, t.2, t.3, t.4);
  most = λ f q here early. is.most f (from f q) here early;
}

-- all that was taken and found is known to some seat as before
pub settled : (n : ℕ) (ws : List ℕ) (vs xs : List View) → TakeRule n ws vs → shares xs ≤ whole → AreSpent xs → steps xs ≡ steps vs
    → ((r : Record) → TakenBy vs r → TakenBy xs r) → ((r : Record) → TakenBy xs r → TakenBy vs r)
    → ((f : Found) → FoundBy vs f → FoundBy xs f) → ((f : Found) → FoundBy xs f → FoundBy vs f) → TakeRule n ws xs
settled n ws vs xs rule within spent same keeps takes notes finds = record {
  wide = rule.wide;
  within = within;
  spent = spent;
  timed = λ f by. let early = rule.timed f (finds f by) in omega arith;
  latest = λ above. let last = rule.latest (omega arith) in (last.0, notes last.0 last.1, last.2 ∙ sym same);
  exact = λ f by. relabelled (FoundBy vs) (FoundBy xs) f.block f.time f.key notes finds (rule.exact f (finds f by));
  current = λ block inside. subst (λ (t : ℕ). IsLeft (FoundBy xs) block t (word ws block)) (sym same)
      (relabelled (FoundBy vs) (FoundBy xs) block (steps vs) (word ws block) notes finds (rule.current block inside));
  known = λ f by above. let t = rule.known f (finds f by) above in (t.0, keeps t.0 t.1, t.2);
  most = λ r by. rule.most r (takes r by);
}

-- one seat makes the step e, which finds its block's word and leaves no lower one there
pub stepped : (n : ℕ) (ws : List ℕ) (vs xs : List View) (e : Found) → TakeRule n ws vs → shares xs ≤ whole → AreSpent xs → steps xs ≡ steps vs + 1
    → e.block < n → e.time ≡ steps vs → e.key ≡ word ws e.block → e.key ≤ e.left
    → ((r : Record) → TakenBy vs r → TakenBy xs r)
    → ((r : Record) → TakenBy xs r → TakenBy vs r ⊎ ((r.block ≡ e.block) × (key_of r ≤ e.left)))
    → ((f : Found) → FoundBy vs f → FoundBy xs f) → FoundBy xs e → ((f : Found) → FoundBy xs f → FoundBy vs f ⊎ (e ≡ f))
    → (0 < e.left → (r : Record) × TakenBy xs r × DecodesTo e.block e.left r) → TakeRule n (set ws (word_of e.block) e.left) xs
stepped n ws vs xs e rule within spent more inside now finds_it rises keeps takes notes noted finds reports = record {
  wide = length-set ws (word_of e.block) e.left ∙ rule.wide;
  within = within;
  spent = spent;
  timed = λ f by. ⊎_elim
      (λ (old : FoundBy vs f). let early = rule.timed f old in omega arith)
      (λ (new : e ≡ f). subst (λ (g : Found). g.time < steps xs) new (omega arith))
      (finds f by);
  latest = λ _. (e, noted, omega arith);
  exact = λ f by. ⊎_elim
      (λ (old : FoundBy vs f). let early = rule.timed f old in lasting f.block f.time f.key (omega arith) (rule.exact f old))
      (λ (new : e ≡ f). subst (λ (g : Found). IsLeft (FoundBy xs) g.block g.time g.key) new
      (lasting e.block e.time e.key (omega arith)
      (subst (λ (k : ℕ). IsLeft (FoundBy vs) e.block e.time k) (sym finds_it) (subst (λ (t : ℕ). IsLeft (FoundBy vs) e.block t (word ws e.block)) (sym now) (rule.current e.block inside)))))
      (finds f by);
  current = λ block small. dite (ℕ_discrete block e.block)
      (λ (same : block ≡ e.block). subst (λ (b : ℕ). IsLeft (FoundBy xs) b (steps xs) (word us b)) (sym same)
      (subst (λ (k : ℕ). IsLeft (FoundBy xs) e.block (steps xs) k) (sym written) here))
      (λ (ne : block ≢ e.block). subst (λ (k : ℕ). IsLeft (FoundBy xs) block (steps xs) k) (sym (unmoved block ne)) (elsewhere block ne small));
  known = λ f by above. ⊎_elim
      (λ (old : FoundBy vs f). let t = rule.known f old above in (t.0, keeps t.0 t.1, t.2))
      (λ (new : e ≡ f). subst (λ (g : Found). (r : Record) × TakenBy xs r × DecodesTo g.block g.left r) new (reports (subst (λ (g : Found). 0 < g.left) (sym new) above)))
      (finds f by);
  most = λ r by. ⊎_elim
      (λ (old : TakenBy vs r). le_trans (rule.most r old) (climbs r.block))
      (λ (new : (r.block ≡ e.block) × (key_of r ≤ e.left)). subst (λ (b : ℕ). key_of r ≤ word us b) (sym new.0) (subst (λ (k : ℕ). key_of r ≤ k) (sym written) new.1))
      (takes r by);
}
  where
    us : List ℕ
    us = set ws (word_of e.block) e.left

    written : word us e.block ≡ e.left
    written = get_or-set_same ws (word_of e.block) e.left 0 (let wide = rule.wide in omega arith)

    unmoved : (block : ℕ) → block ≢ e.block → word us block ≡ word ws block
    unmoved block ne = get_or-set_other ws (word_of e.block) (word_of block) e.left 0 (λ same. ne (omega arith))

    climbs : (block : ℕ) → word ws block ≤ word us block
    climbs block = dite (ℕ_discrete block e.block)
        (λ (same : block ≡ e.block). subst (λ (b : ℕ). word ws b ≤ word us b) (sym same) (subst (λ (k : ℕ). word ws e.block ≤ k) (sym written) (subst (λ (k : ℕ). k ≤ e.left) finds_it rises)))
        (λ (ne : block ≢ e.block). subst (λ (k : ℕ). word ws block ≤ k) (sym (unmoved block ne)) (le_refl (word ws block)))

    -- what was left before a time up to now is left before it still
    lasting : (block time key : ℕ) → time ≤ steps vs → IsLeft (FoundBy vs) block time key → IsLeft (FoundBy xs) block time key
    lasting block time key past is = record {
      reported = λ above. let t = is.reported above in (t.0, notes t.0 t.1, t.2, t.3, t.4);
      most = λ f by same early. ⊎_elim
          (λ (old : FoundBy vs f). is.most f old same early)
          (λ (new : e ≡ f). absurd (too_early f new early))
          (finds f by);
    }
      where
        too_early : (f : Found) → e ≡ f → f.time < time → ⊥
        too_early f new early = let same : e.time < time = subst (λ (g : Found). g.time < time) (sym new) early in omega arith

    here : IsLeft (FoundBy xs) e.block (steps xs) e.left
    here = record {
      reported = λ above. (e, noted, refl, omega arith, refl);
      most = λ f by same early. ⊎_elim
          (λ (old : FoundBy vs f). le_trans ((rule.current e.block inside).most f old same (rule.timed f old)) (subst (λ (k : ℕ). k ≤ e.left) finds_it rises))
          (λ (new : e ≡ f). subst (λ (g : Found). g.left ≤ e.left) new (le_refl e.left))
          (finds f by);
    }

    elsewhere : (block : ℕ) → block ≢ e.block → block < n → IsLeft (FoundBy xs) block (steps xs) (word ws block)
    elsewhere block ne small = record {
      reported = λ above. let t = (rule.current block small).reported above in let early = t.3 in (t.0, notes t.0 t.1, t.2, omega arith, t.4);
      most = λ f by same early. ⊎_elim
          (λ (old : FoundBy vs f). (rule.current block small).most f old same (rule.timed f old))
          (λ (new : e ≡ f). absurd (ne (sym (subst (λ (g : Found). g.block ≡ block) (sym new) same))))
          (finds f by);
    }
