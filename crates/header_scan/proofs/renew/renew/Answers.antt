use Rattle.map_join.specs.Maps.{at}
use Rattle.header_scan.proofs.Renewing.{made_shows, made_matches}
use Rattle.header_scan.proofs.renew.renew.Goals as goal

pub returns-in-Ok-adopt_among-clause-ok : goal.returns-in-Ok-adopt_among-clause-ok
returns-in-Ok-adopt_among-clause-ok g c =
    let d = g.D.Drive in
    let s = c.in-Ok.ensures in
    let made = c.in-Ok-adopt_among.ensures in
    record {
      left = c.scan.new.units;
      keys = at c.in-Ok.map;
      loses = s.leaves;
      adopted = made.ok;
      reported = λ sound. record { scanned = s.map sound; fine = s.fine sound; once = s.once sound };
      flat = λ F has there.
          made_shows d.units d.lost d.failures c.args.parts c.scan.new.units c.requires.fit (at c.in-Ok.map) c.in-Ok-adopt_among.made.0 s.leaves s.keeps
          (λ sound. record { scanned = s.map sound; fine = s.fine sound; once = s.once sound }) made.ok.log made.flat F has there;
    }

pub returns-in-Ok-adopt_among-clause-matches : goal.returns-in-Ok-adopt_among-clause-matches
returns-in-Ok-adopt_among-clause-matches g c sound =
    let d = g.D.Drive in
    let s = c.in-Ok.ensures in
    let made = c.in-Ok-adopt_among.ensures in
    made_matches d.units d.lost d.failures c.args.parts c.scan.new.units c.requires.fit (at c.in-Ok.map) c.in-Ok-adopt_among.made.0 s.leaves s.keeps
    (λ ok. record { scanned = s.map ok; fine = s.fine ok; once = s.once ok }) made.ok.log made.flat sound
