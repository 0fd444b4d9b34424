use Rattle.std.proofs.Common.{◌≡◌, ◌∷◌, length, map, sym, ap, subst, ◌∙◌, rules}
use Rattle.storm.specs.Rounds.{Sized, AreHired, HavePlayed, HaveAllPlayed}
use Rattle.storm.proofs.Playing.{all_played, written_back}
use Rattle.storm.proofs.crew.run_all.Goals as goal

pub returns-in-Some-clause-played : goal.returns-in-Some-clause-played
returns-in-Some-clause-played g c =
    let sizes : Sized = record { blocks = g.N.Sizes.blocks; payload = g.N.Sizes.payload } in
    let before = c.in_ok-hired.hired.items in
    let after = c.run_workers.new.workers in
    let all : length before ≡ c.in_ok-hired.hired.len = search rules in
    let same : length after ≡ length before = search rules in
    let lent : c.deref_mut.result.now ≡ before = search rules in
    let hired : AreHired 0 (map (λ w. w.number) c.deref_mut.result.now) (map (λ w. w.hand) c.deref_mut.result.now)
    = subst (λ ws. AreHired 0 (map (λ w. w.number) ws) (map (λ w. w.hand) ws)) (sym lent) c.in_ok-hired.ensures.hired in
    let played = all_played sizes c.new-rounds.result.payload c.new-rounds.result.writes 0 (map (λ w. w.number) c.deref_mut.result.now) (map (λ w. w.hand) c.deref_mut.result.now) (map (λ w. w.hand) after) hired c.in_default.ensures in
    let these : HavePlayed sizes c.args.crew.payload c.args.crew.writes 0 (map (λ w. w.hand) after)
    = subst (λ n. HavePlayed sizes n c.args.crew.writes 0 (map (λ w. w.hand) after)) c.new-rounds.ensures.1
    (subst (λ n. HavePlayed sizes c.new-rounds.result.payload n 0 (map (λ w. w.hand) after)) c.new-rounds.ensures.0 played) in
    let sized : HavePlayed (record { blocks = 16; payload = c.args.crew.payload }) c.args.crew.payload c.args.crew.writes 0 (map (λ w. w.hand) after)
    = subst (λ n. HavePlayed (record { blocks = 16; payload = n }) c.args.crew.payload c.args.crew.writes 0 (map (λ w. w.hand) after)) c.requires.sizes.1
    (subst (λ n. HavePlayed (record { blocks = n; payload = g.N.Sizes.payload }) c.args.crew.payload c.args.crew.writes 0 (map (λ w. w.hand) after)) c.requires.sizes.0 these) in
    subst (λ hs. HaveAllPlayed c.args.crew.payload c.args.crew.writes hs) (sym c.in-Some.ensures)
    (subst (λ ws. HavePlayed (record { blocks = 16; payload = c.args.crew.payload }) c.args.crew.payload c.args.crew.writes 0 (map (λ w. w.hand) ws)) (sym (written_back c.in_ok-hired.hired.len before after same all)) sized)
