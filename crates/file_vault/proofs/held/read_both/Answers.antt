use Rattle.std.proofs.Common.{◌∙◌, sym, ap, subst}
use Rattle.vault.specs.declared.store.Stop.{Stop}
use Rattle.file_vault.specs.declared.twin.Twin.TheVariants.{First}
use Rattle.file_vault.specs.Folders.{Folder}
use Rattle.file_vault.specs.Twins.{AreAlike, SameBoth, lead_of, shown}
use Rattle.file_vault.proofs.Puts.{both_elapse}
use Rattle.file_vault.proofs.Shown.{seen_both, shown_elapses}
use Rattle.file_vault.proofs.PairCalls.{ok_then, reads_following, read_second}
use Rattle.file_vault.proofs.held.read_both.Goals as goal

pub returns-then-is_ok-clause-held : goal.returns-then-is_ok-clause-held
returns-then-is_ok-clause-held g c = λ known even alike. (
  (λ (stop : Stop) h now. even stop h ((c.read_at.ensures.time known stop).ends h now)),
  subst (λ (f : Folder). AreAlike f) (sym (c.read_at.ensures.seen known)) alike,
)

pub returns-then-is_ok-clause-time : goal.returns-then-is_ok-clause-time
returns-then-is_ok-clause-time g c = λ known even stop. shown_elapses _ _ _ _ _ _ _ (c.read_at.ensures.time known stop) (λ h d. d)

pub returns-clause-held : goal.returns-clause-held
returns-clause-held g c = λ known even alike.
    let k1 = c.read_at.ensures.stays known in
    let same = c.read_at-2.ensures.seen k1 ∙ c.read_at.ensures.seen known in
    c.keep.ensures.held (c.read_at-2.ensures.stays k1) (λ (stop : Stop) h now. even stop h ((c.read_at.ensures.time known stop).ends h ((c.read_at-2.ensures.time k1 stop).ends h now)))
    (λ one two. subst (λ (f : Folder). AreAlike f) (sym same) alike)

pub returns-clause-seen : goal.returns-clause-seen
returns-clause-seen g c = λ known alike.
    let k1 = c.read_at.ensures.stays known in
    let same = c.read_at-2.ensures.seen k1 ∙ c.read_at.ensures.seen known in
    seen_both (g.F.Files.seen c.args.files.now) (g.F.Files.seen c.keep.new.files) (subst (λ (f : Folder). SameBoth f (g.F.Files.seen c.keep.new.files)) same (c.keep.ensures.following (c.read_at-2.ensures.stays k1))) alike (lead_of c.keep.result) First

pub returns-clause-bytes : goal.returns-clause-bytes
returns-clause-bytes g c = λ known alike kept.
    let k1 = c.read_at.ensures.stays known in
    let done = read_second c.is_ok-second.result c.keep.result c.keep.ensures.succeeded kept in
    reads_following (g.F.Files.seen c.read_at.new.self 18) (g.F.Files.seen c.args.files.now 17) c.args.at c.read_at-2.new.out c.requires
    (λ k past. ap (λ (f : Folder). f 18 k) (c.read_at.ensures.seen known) ∙ sym (alike k past))
    (ok_then c.read_at-2.result _ (c.read_at-2.ensures.bytes k1) (sym c.is_ok-second.ensures.value ∙ done))

pub returns-clause-time : goal.returns-clause-time
returns-clause-time g c = λ known even stop.
    let k1 = c.read_at.ensures.stays known in
    let one = c.read_at.ensures.time known stop in
    let two = c.read_at-2.ensures.time k1 stop in
    let raw = both_elapse _ _ _ _ _ _ _ _ _ _ _ one two (λ h d. d) (λ h there. one.ends h there) in
    let so_far = shown_elapses _ _ _ _ _ _ (λ h. shown (g.F.Files.may_leave c.args.files.now stop) h) raw (λ h d. d) in
    both_elapse _ _ _ _ _ _ _ _ _ _ _ so_far
    (c.keep.ensures.time (c.read_at-2.ensures.stays k1) (λ (at : Stop) h now. even at h ((c.read_at.ensures.time known at).ends h ((c.read_at-2.ensures.time k1 at).ends h now))) stop)
    (λ h d. d) (λ h there. so_far.ends h there)
