use Rattle.std.proofs.Common.{◌∙◌, sym, refl}
use Rattle.vault.specs.declared.store.Stop.{Stop}
use Rattle.vault.specs.declared.store.Stop.TheVariants.{Killed}
use Rattle.file_vault.specs.declared.twin.Twin.{Twin}
use Rattle.file_vault.specs.Folders.{mixed_at}
use Rattle.file_vault.specs.Twins.{lead_of, shown, file_of}
use Rattle.file_vault.proofs.Puts.{both_elapse}
use Rattle.file_vault.proofs.Shown.{shown_elapses, WroteFollowing, MixedFollowing}
use Rattle.file_vault.proofs.PairCalls.{ok_then, first_done, second_done, lead_done, lead_either, alike_both, mixed_count, first_mixed, second_mixed, first_wrote, second_wrote, others_same, seen_wrote, seen_mixed, wrote_from, mixed_from, pair_shown, pair_elapses, killed_both, killed_shown, even_counts}
use Rattle.file_vault.proofs.held.write_both.Goals as goal

pub returns-clause-held : goal.returns-clause-held
returns-clause-held g c = λ known even alike.
    let k1 = c.write_at.ensures.stays known in
    c.keep.ensures.held (c.write_at-2.ensures.stays k1)
    (λ (stop : Stop) h now.
    let two = (c.write_at-2.ensures.time k1 stop).ends h now in
    let one = (c.write_at.ensures.time known stop).ends two.0 two.1 in
    let is = even stop one.0 one.1 in (
      mixed_count 18 c.args.at c.args.bytes.now two.0 h 17 c.requires two.2 ∙ mixed_count 17 c.args.at c.args.bytes.now one.0 two.0 17 c.requires one.2 ∙ is.0,
      mixed_count 18 c.args.at c.args.bytes.now two.0 h 18 c.requires two.2 ∙ mixed_count 17 c.args.at c.args.bytes.now one.0 two.0 18 c.requires one.2 ∙ is.1,
    ))
    (λ one two.
    let s0 = g.F.Files.seen c.args.files.now in
    let s1 = g.F.Files.seen c.write_at.new.self in
    let s2 = g.F.Files.seen c.write_at-2.new.self in
    alike_both c.args.at c.args.bytes.now c.requires s0 s1 s2 s2 (c.write_at.ensures.mixed known) (c.write_at-2.ensures.mixed k1) (record { first = λ k past. refl; second = λ k past. refl; others = λ d n17 n18. refl }) alike
    (ok_then c.write_at.result _ (c.write_at.ensures.wrote known) (sym c.is_ok-first.ensures.value ∙ one)) (ok_then c.write_at-2.result _ (c.write_at-2.ensures.wrote k1) (sym c.is_ok-second.ensures.value ∙ two)))

pub returns-clause-wrote : goal.returns-clause-wrote
returns-clause-wrote g c = λ known alike kept.
    let k1 = c.write_at.ensures.stays known in
    let s0 = g.F.Files.seen c.args.files.now in
    let s1 = g.F.Files.seen c.write_at.new.self in
    let s2 = g.F.Files.seen c.write_at-2.new.self in
    let s3 = g.F.Files.seen c.keep.new.files in
    let m1 = c.write_at.ensures.mixed known in
    let m2 = c.write_at-2.ensures.mixed k1 in
    let same = c.keep.ensures.following (c.write_at-2.ensures.stays k1) in
    seen_wrote c.args.at c.args.bytes.now (lead_of c.keep.result) s0 s3 c.requires (others_same c.args.at c.args.bytes.now c.requires s0 s1 s2 s3 m1 m2 same)
    (lead_done c.is_ok-first.result c.is_ok-second.result c.keep.result (λ (twin : Twin). WroteFollowing c.args.at c.args.bytes.now (s0 17) (s3 (file_of twin))) c.keep.ensures.succeeded kept
    (λ done. first_wrote c.args.at c.args.bytes.now c.requires s0 s1 s2 s3 m1 m2 same (ok_then c.write_at.result _ (c.write_at.ensures.wrote known) (sym c.is_ok-first.ensures.value ∙ done)))
    (λ done. wrote_from c.args.at c.args.bytes.now (s0 17) (s0 18) (s3 18) alike
    (second_wrote c.args.at c.args.bytes.now c.requires s0 s1 s2 s3 m1 m2 same (ok_then c.write_at-2.result _ (c.write_at-2.ensures.wrote k1) (sym c.is_ok-second.ensures.value ∙ done)))))

pub returns-clause-mixed : goal.returns-clause-mixed
returns-clause-mixed g c = λ known alike.
    let k1 = c.write_at.ensures.stays known in
    let s0 = g.F.Files.seen c.args.files.now in
    let s1 = g.F.Files.seen c.write_at.new.self in
    let s2 = g.F.Files.seen c.write_at-2.new.self in
    let s3 = g.F.Files.seen c.keep.new.files in
    let m1 = c.write_at.ensures.mixed known in
    let m2 = c.write_at-2.ensures.mixed k1 in
    let same = c.keep.ensures.following (c.write_at-2.ensures.stays k1) in
    seen_mixed c.args.at c.args.bytes.now (lead_of c.keep.result) s0 s3 c.requires (others_same c.args.at c.args.bytes.now c.requires s0 s1 s2 s3 m1 m2 same)
    (lead_either c.keep.result (λ (twin : Twin). MixedFollowing c.args.at c.args.bytes.now (s0 17) (s3 (file_of twin)))
    (first_mixed c.args.at c.args.bytes.now c.requires s0 s1 s2 s3 m1 m2 same)
    (mixed_from c.args.at c.args.bytes.now (s0 17) (s0 18) (s3 18) c.requires alike (second_mixed c.args.at c.args.bytes.now c.requires s0 s1 s2 s3 m1 m2 same)))

pub returns-clause-killed : goal.returns-clause-killed
returns-clause-killed g c = λ known even alike kept h now.
    let k1 = c.write_at.ensures.stays known in
    let k2 = c.write_at-2.ensures.stays k1 in
    let held = returns-clause-held g c known even alike in
    let from = c.keep.ensures.left k2 Killed now.0 now.1 in
    killed_shown c.args.at c.args.bytes.now c.is_ok-first.result c.is_ok-second.result (g.F.Files.may_leave c.args.files.now Killed) from.0 now.0 h c.requires
    (killed_both c.args.at c.args.bytes.now c.is_ok-first.result c.is_ok-second.result (g.F.Files.may_leave c.args.files.now Killed) (g.F.Files.may_leave c.write_at.new.self Killed) (g.F.Files.may_leave c.write_at-2.new.self Killed)
    (λ done. ok_then c.write_at.result _ (c.write_at.ensures.killed known) (sym c.is_ok-first.ensures.value ∙ done)) ((c.write_at.ensures.time known Killed).ends)
    (λ done. ok_then c.write_at-2.result _ (c.write_at-2.ensures.killed k1) (sym c.is_ok-second.ensures.value ∙ done)) ((c.write_at-2.ensures.time k1 Killed).ends) from.0 from.1)
    from.2 now.2
    (λ counts. first_done g.F.Files.seen g.F.Files.may_leave c.keep.new.files c.is_ok-first.result c.is_ok-second.result Killed now.0 now.1 c.keep.result c.keep.ensures.succeeded kept held counts)
    (λ counts. second_done g.F.Files.seen g.F.Files.may_leave c.keep.new.files c.is_ok-first.result c.is_ok-second.result Killed now.0 now.1 c.keep.result c.keep.ensures.succeeded kept held counts)
    (λ f was. even_counts c.args.count f (even Killed f was))

pub returns-clause-time : goal.returns-clause-time
returns-clause-time g c = λ known even stop.
    let k1 = c.write_at.ensures.stays known in
    let raw = pair_elapses c.args.at c.args.bytes.now _ _ _ _ _ _ _ _ _ (c.write_at.ensures.time known stop) (c.write_at-2.ensures.time k1 stop) in
    let so_far = shown_elapses _ _ _ _ _ _ (mixed_at 17 c.args.at c.args.bytes.now (λ h. shown (g.F.Files.may_leave c.args.files.now stop) h)) raw
    (pair_shown c.args.at c.args.bytes.now (g.F.Files.may_leave c.args.files.now stop) c.requires) in
    both_elapse _ _ _ _ _ _ _ _ _ _ _ so_far
    (c.keep.ensures.time (c.write_at-2.ensures.stays k1)
    (λ (at : Stop) h now.
    let two = (c.write_at-2.ensures.time k1 at).ends h now in
    let one = (c.write_at.ensures.time known at).ends two.0 two.1 in
    let is = even at one.0 one.1 in (
      mixed_count 18 c.args.at c.args.bytes.now two.0 h 17 c.requires two.2 ∙ mixed_count 17 c.args.at c.args.bytes.now one.0 two.0 17 c.requires one.2 ∙ is.0,
      mixed_count 18 c.args.at c.args.bytes.now two.0 h 18 c.requires two.2 ∙ mixed_count 17 c.args.at c.args.bytes.now one.0 two.0 18 c.requires one.2 ∙ is.1,
    )) stop)
    (λ h d. d) (λ h there. so_far.ends h there)
