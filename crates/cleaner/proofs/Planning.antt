-- What a plan's target, source and cleaned group make of the plan.
use Rattle.std.proofs.Common.{◌≡◌, ◌∙◌, ℕ, ◌/◌, sym, ap, subst, Option, Some, None}
use Rattle.std.proofs.lemmas.Option.{same_Some}
use Rattle.map_join.specs.Live.{MapsTo}
use Rattle.extent_groups.specs.Groups.{Groups}
use Rattle.cleaner.specs.Plans.{IsHoled, IsPlugTarget, IsSource, IsCleaned, IsPlugPlan, IsCleanPlan}
use Rattle.cleaner.specs.Counts.{IsLiveOf, IsHoleOf, IsLowest}
use Rattle.cleaner.specs.Choosing.{IsFewest}
use Rattle.cleaner.specs.declared.moves.Move.{Move}
use Rattle.cleaner.proofs.Best.{most_once, fewest_once}

module _ (groups : Groups) (keys : ℕ → ℕ) (write : Option ℕ) where
  -- nothing can be plugged without a target, nor without a source of the target
  pub no_target : ((g n : ℕ) → IsHoled groups keys write g n → ⊥) → IsPlugPlan groups keys write None
  no_target none target most source live into out = none target most into.offered

  pub no_source : (t m : ℕ) → IsPlugTarget groups keys write t m → ((g n : ℕ) → IsSource groups keys t m g n → ⊥) → IsPlugPlan groups keys write None
  no_source t m chosen none target most source live into out =
      let same = most_once (IsHoled groups keys write) target most t m into chosen in
      let out_of : IsSource groups keys t most source live = subst (λ g. IsSource groups keys g most source live) same.0 out in
      none source live (subst (λ n. IsSource groups keys t n source live) same.1 out_of)

  -- a plug, from all its parts
  pub plugged : (t m s n : ℕ) (move : Move) → IsPlugTarget groups keys write t m → IsFewest (IsSource groups keys t m) s n
      → IsLowest (IsLiveOf groups keys s) move.from → MapsTo keys move.block move.from → IsLowest (IsHoleOf groups keys t) move.to
      → IsPlugPlan groups keys write (Some move)
  plugged t m s n move into out slot block hole = (t, m, s, n, record { into = into; out = out; slot = slot; block = block; hole = hole })

  -- a plan can't be both a plug and none
  not_both : (move : Move) → IsPlugPlan groups keys write (Some move) → IsPlugPlan groups keys write None → ⊥
  not_both move p none = none p.0 p.1 p.2 p.3 p.4.into p.4.out.offered

  module _ (append : Option ℕ) where
    -- the log has no next slot
    pub no_append : append ≡ None → IsCleanPlan groups keys write append None
    no_append none no_plug group live to cleaned is = let both : None ≡ Some to = sym none ∙ is in cc

    -- where something can be plugged, nothing is cleaned
    pub plug_first : (move : Move) → IsPlugPlan groups keys write (Some move) → IsCleanPlan groups keys write append None
    plug_first move p none group live to cleaned is = absurd (not_both move p none)

    -- no group can be cleaned, or the log's next slot is in the one that would be
    pub no_clean : ((g n : ℕ) → IsHoled groups keys write g n → ⊥) → IsCleanPlan groups keys write append None
    no_clean none no_plug group live to cleaned is = absurd (none group live cleaned.offered)

    pub clean_within : (e n next : ℕ) → IsCleaned groups keys write e n → append ≡ Some next → next / 128 ≡ e → IsCleanPlan groups keys write append None
    clean_within e n next chosen at own no_plug group live to cleaned is =
        let same = fewest_once (IsHoled groups keys write) group live e n cleaned chosen in
        ap (λ slot. slot / 128) (sym (same_Some _ _ (sym at ∙ is))) ∙ own ∙ sym same.0

    -- a clean, from all its parts
    pub cleaned : (e n : ℕ) (move : Move) → IsPlugPlan groups keys write None → IsCleaned groups keys write e n
        → IsLowest (IsLiveOf groups keys e) move.from → MapsTo keys move.block move.from → append ≡ Some move.to → (move.to / 128 ≡ e → ⊥)
        → IsCleanPlan groups keys write append (Some move)
    cleaned e n move no_plug out slot block at apart =
        (e, n, record { no_plug = no_plug; out = out; slot = slot; block = block; to = at; apart = apart })
