use Rattle.std.proofs.Common.{◌≡◌, ◌≤◌, ◌∙◌, ℕ, sym, refl}
use Rattle.vault.specs.declared.store.Stop.{Stop}
use Rattle.file_vault.specs.declared.twin.Twin.{Twin}
use Rattle.file_vault.specs.Folders.{cut_at}
use Rattle.file_vault.specs.Twins.{lead_of, shown, file_of}
use Rattle.file_vault.proofs.Puts.{both_elapse}
use Rattle.file_vault.proofs.Shown.{shown_elapses, CutFollowing}
use Rattle.file_vault.proofs.PairCalls.{ok_then, lead_done, lead_either}
use Rattle.file_vault.proofs.Cuts.{cut_count, cut_alike, first_cut, second_cut, cut_others, cut_from, cut_zero_first, cut_zero_second, seen_cut, seen_short, cut_shown, cut_elapses}
use Rattle.file_vault.proofs.held.cut_both.Goals as goal

pub returns-clause-held : goal.returns-clause-held
returns-clause-held g c = λ known even alike.
    let k1 = c.cut.ensures.stays known in
    c.keep.ensures.held (c.cut-2.ensures.stays k1)
    (λ (stop : Stop) h now.
    let two = (c.cut-2.ensures.time k1 stop).ends h now in
    let one = (c.cut.ensures.time known stop).ends two.0 two.1 in
    let is = even stop one.0 one.1 in (
      cut_count 18 c.args.at two.0 h 17 c.requires two.2 ∙ cut_count 17 c.args.at one.0 two.0 17 c.requires one.2 ∙ is.0,
      cut_count 18 c.args.at two.0 h 18 c.requires two.2 ∙ cut_count 17 c.args.at one.0 two.0 18 c.requires one.2 ∙ is.1,
    ))
    (λ one two.
    let s0 = g.F.Files.seen c.args.files.now in
    let s1 = g.F.Files.seen c.cut.new.self in
    let s2 = g.F.Files.seen c.cut-2.new.self in
    cut_alike c.args.at c.requires s0 s1 s2 s2 (c.cut.ensures.short known) (c.cut-2.ensures.short k1) (record { first = λ k past. refl; second = λ k past. refl; others = λ d n17 n18. refl }) alike
    (ok_then c.cut.result _ (c.cut.ensures.cut known) (sym c.is_ok-first.ensures.value ∙ one)) (ok_then c.cut-2.result _ (c.cut-2.ensures.cut k1) (sym c.is_ok-second.ensures.value ∙ two)))

pub returns-clause-cut : goal.returns-clause-cut
returns-clause-cut g c = λ known alike kept.
    let k1 = c.cut.ensures.stays known in
    let s0 = g.F.Files.seen c.args.files.now in
    let s1 = g.F.Files.seen c.cut.new.self in
    let s2 = g.F.Files.seen c.cut-2.new.self in
    let s3 = g.F.Files.seen c.keep.new.files in
    let m1 = c.cut.ensures.short known in
    let m2 = c.cut-2.ensures.short k1 in
    let same = c.keep.ensures.following (c.cut-2.ensures.stays k1) in
    seen_cut c.args.at (lead_of c.keep.result) s0 s3 c.requires (cut_others c.args.at c.requires s0 s1 s2 s3 m1 m2 same)
    (lead_either c.keep.result (λ (twin : Twin). CutFollowing c.args.at (s0 17) (s3 (file_of twin))) (first_cut c.args.at c.requires s0 s1 s2 s3 m1 m2 same)
    (cut_from c.args.at (s0 17) (s0 18) (s3 18) alike (second_cut c.args.at c.requires s0 s1 s2 s3 m1 m2 same)))
    (lead_done c.is_ok-first.result c.is_ok-second.result c.keep.result (λ (twin : Twin). (k : ℕ) → c.args.at ≤ k → s3 (file_of twin) k ≡ 0) c.keep.ensures.succeeded kept
    (λ done. cut_zero_first c.args.at c.requires s0 s1 s2 s3 m1 m2 same (ok_then c.cut.result _ (c.cut.ensures.cut known) (sym c.is_ok-first.ensures.value ∙ done)))
    (λ done. cut_zero_second c.args.at c.requires s0 s1 s2 s3 m1 m2 same (ok_then c.cut-2.result _ (c.cut-2.ensures.cut k1) (sym c.is_ok-second.ensures.value ∙ done))))

pub returns-clause-short : goal.returns-clause-short
returns-clause-short g c = λ known alike.
    let k1 = c.cut.ensures.stays known in
    let s0 = g.F.Files.seen c.args.files.now in
    let s1 = g.F.Files.seen c.cut.new.self in
    let s2 = g.F.Files.seen c.cut-2.new.self in
    let s3 = g.F.Files.seen c.keep.new.files in
    let m1 = c.cut.ensures.short known in
    let m2 = c.cut-2.ensures.short k1 in
    let same = c.keep.ensures.following (c.cut-2.ensures.stays k1) in
    seen_short c.args.at (lead_of c.keep.result) s0 s3 c.requires (cut_others c.args.at c.requires s0 s1 s2 s3 m1 m2 same)
    (lead_either c.keep.result (λ (twin : Twin). CutFollowing c.args.at (s0 17) (s3 (file_of twin))) (first_cut c.args.at c.requires s0 s1 s2 s3 m1 m2 same)
    (cut_from c.args.at (s0 17) (s0 18) (s3 18) alike (second_cut c.args.at c.requires s0 s1 s2 s3 m1 m2 same)))

pub returns-clause-time : goal.returns-clause-time
returns-clause-time g c = λ known even stop.
    let k1 = c.cut.ensures.stays known in
    let raw = cut_elapses c.args.at _ _ _ _ _ _ _ _ _ (c.cut.ensures.time known stop) (c.cut-2.ensures.time k1 stop) in
    let so_far = shown_elapses _ _ _ _ _ _ (cut_at 17 c.args.at (λ h. shown (g.F.Files.may_leave c.args.files.now stop) h)) raw (cut_shown c.args.at (g.F.Files.may_leave c.args.files.now stop) c.requires) in
    both_elapse _ _ _ _ _ _ _ _ _ _ _ so_far
    (c.keep.ensures.time (c.cut-2.ensures.stays k1)
    (λ (at : Stop) h now.
    let two = (c.cut-2.ensures.time k1 at).ends h now in
    let one = (c.cut.ensures.time known at).ends two.0 two.1 in
    let is = even at one.0 one.1 in (
      cut_count 18 c.args.at two.0 h 17 c.requires two.2 ∙ cut_count 17 c.args.at one.0 two.0 17 c.requires one.2 ∙ is.0,
      cut_count 18 c.args.at two.0 h 18 c.requires two.2 ∙ cut_count 17 c.args.at one.0 two.0 18 c.requires one.2 ∙ is.1,
    )) stop)
    (λ h d. d) (λ h there. so_far.ends h there)
