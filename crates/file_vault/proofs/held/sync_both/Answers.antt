use Rattle.std.proofs.Common.{◌∙◌, sym, ap, subst}
use Rattle.vault.specs.declared.store.Stop.{Stop}
use Rattle.file_vault.specs.declared.twin.Twin.TheVariants.{First}
use Rattle.file_vault.specs.Folders.{Folder, Bytes}
use Rattle.file_vault.specs.Twins.{AreAlike, SameBoth, lead_of, shown}
use Rattle.file_vault.proofs.Puts.{both_elapse}
use Rattle.file_vault.proofs.Shown.{seen_both, shown_elapses, shows_only}
use Rattle.file_vault.proofs.PairCalls.{ok_then, first_done, second_done}
use Rattle.file_vault.proofs.held.sync_both.Goals as goal

pub returns-clause-held : goal.returns-clause-held
returns-clause-held g c = λ known even alike.
    let k1 = c.sync.ensures.stays known in
    let same = c.sync-2.ensures.seen k1 ∙ c.sync.ensures.seen known in
    c.keep.ensures.held (c.sync-2.ensures.stays k1) (λ (stop : Stop) h now. even stop h ((c.sync.ensures.time known stop).ends h ((c.sync-2.ensures.time k1 stop).ends h now)))
    (λ one two. subst (λ (f : Folder). AreAlike f) (sym same) alike)

pub returns-clause-seen : goal.returns-clause-seen
returns-clause-seen g c = λ known alike.
    let k1 = c.sync.ensures.stays known in
    let same = c.sync-2.ensures.seen k1 ∙ c.sync.ensures.seen known in
    seen_both (g.F.Files.seen c.args.files.now) (g.F.Files.seen c.keep.new.files) (subst (λ (f : Folder). SameBoth f (g.F.Files.seen c.keep.new.files)) same (c.keep.ensures.following (c.sync-2.ensures.stays k1))) alike (lead_of c.keep.result) First

pub returns-clause-durable : goal.returns-clause-durable
returns-clause-durable g c = λ known alike held kept stop h now.
    let k1 = c.sync.ensures.stays known in
    let k2 = c.sync-2.ensures.stays k1 in
    let from = c.keep.ensures.left k2 stop now.0 now.1 in
    let same = from.2 in
    shows_only now.0 h (g.F.Files.seen c.args.files.now 17) now.2
    (λ counts k past.
    let done = first_done g.F.Files.seen g.F.Files.may_leave c.keep.new.files c.is_ok-first.result c.is_ok-second.result stop now.0 now.1 c.keep.result c.keep.ensures.succeeded kept held counts in
    same.first k past ∙ ap (λ (b : Bytes). b k) (ok_then c.sync.result _ (c.sync.ensures.durable known) (sym c.is_ok-first.ensures.value ∙ done) stop from.0 ((c.sync-2.ensures.time k1 stop).ends from.0 from.1)))
    (λ counts k past.
    let done = second_done g.F.Files.seen g.F.Files.may_leave c.keep.new.files c.is_ok-first.result c.is_ok-second.result stop now.0 now.1 c.keep.result c.keep.ensures.succeeded kept held counts in
    same.second k past ∙ ap (λ (b : Bytes). b k) (ok_then c.sync-2.result _ (c.sync-2.ensures.durable k1) (sym c.is_ok-second.ensures.value ∙ done) stop from.0 from.1)
    ∙ ap (λ (f : Folder). f 18 k) (c.sync.ensures.seen known) ∙ sym (alike k past))

pub returns-clause-time : goal.returns-clause-time
returns-clause-time g c = λ known even stop.
    let k1 = c.sync.ensures.stays known in
    let one = c.sync.ensures.time known stop in
    let two = c.sync-2.ensures.time k1 stop in
    let raw = both_elapse _ _ _ _ _ _ _ _ _ _ _ one two (λ h d. d) (λ h there. one.ends h there) in
    let so_far = shown_elapses _ _ _ _ _ _ (λ h. shown (g.F.Files.may_leave c.args.files.now stop) h) raw (λ h d. d) in
    both_elapse _ _ _ _ _ _ _ _ _ _ _ so_far
    (c.keep.ensures.time (c.sync-2.ensures.stays k1) (λ (at : Stop) h now. even at h ((c.sync.ensures.time known at).ends h ((c.sync-2.ensures.time k1 at).ends h now))) stop)
    (λ h d. d) (λ h there. so_far.ends h there)
