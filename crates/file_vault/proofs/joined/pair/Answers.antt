use Rattle.std.proofs.Common.{◌<◌, ◌+◌, ◌≡◌, ◌≤◌, suc, sym, ◌∙◌, subst, arith}
use Rattle.vault.specs.declared.store.Stop.{Stop}
use Rattle.file_vault.specs.Folders.{Folder}
use Rattle.file_vault.specs.declared.twin.Twin.{Twin}
use Rattle.file_vault.specs.Twins.{file_of, other, count_in, Counts, shown}
use Rattle.file_vault.proofs.Puts.{both_elapse}
use Rattle.file_vault.proofs.Shown.{shown_elapses}
use Rattle.file_vault.proofs.Copied.{copied_within, copied_count, settled_copied, settled_lead, settled_counts, copied_may, lead_leads, mate_leads, alone_shows, pair_shows, copied_seen, only_both, alone_raised, raised_copied}
use Rattle.file_vault.proofs.joined.pair.Goals as goal

pub returns-in-Ok-clause-held : goal.returns-in-Ok-clause-held
returns-in-Ok-clause-held g c = λ known settled is small low.
    let k1 = c.copy_over.ensures.stays known in
    let copied = c.copy_over.ensures.seen known in
    let settled1 = λ (at : Stop) (h : Folder) (now : g.F.Files.may_leave c.copy_over.new.files at h).
    (let from = (c.copy_over.ensures.time known at).ends h now in settled_copied c.args.lead (g.F.Files.seen c.args.files.now) (g.F.Files.seen c.copy_over.new.files) from.0 h (settled at from.0 from.1) from.2 copied (c.in-Ok.ensures.durable known at h now)) in
    let is1 : c.args.count ≡ count_in (g.F.Files.seen c.copy_over.new.files (file_of c.args.lead)) = is ∙ sym ((copied_count c.args.lead (g.F.Files.seen c.args.files.now) (g.F.Files.seen c.args.files.now) (g.F.Files.seen c.copy_over.new.files) copied).0) in
    let mate1 = (copied_count c.args.lead (g.F.Files.seen c.args.files.now) (g.F.Files.seen c.args.files.now) (g.F.Files.seen c.copy_over.new.files) copied).1 in
    let low1 : count_in (g.F.Files.seen c.copy_over.new.files (file_of (other c.args.lead))) ≤ c.args.count = omega (arith, mate1, small, low) in
    c.raise.ensures.held k1 settled1 (c.in-Ok.ensures.alike known) is1 low1

pub returns-in-Ok-clause-seen : goal.returns-in-Ok-clause-seen
returns-in-Ok-clause-seen g c = λ known is small low kept.
    let k1 = c.copy_over.ensures.stays known in
    let copied = c.copy_over.ensures.seen known in
    let is1 : c.args.count ≡ count_in (g.F.Files.seen c.copy_over.new.files (file_of c.args.lead)) = is ∙ sym ((copied_count c.args.lead (g.F.Files.seen c.args.files.now) (g.F.Files.seen c.args.files.now) (g.F.Files.seen c.copy_over.new.files) copied).0) in
    let mate1 = (copied_count c.args.lead (g.F.Files.seen c.args.files.now) (g.F.Files.seen c.args.files.now) (g.F.Files.seen c.copy_over.new.files) copied).1 in
    let low1 : count_in (g.F.Files.seen c.copy_over.new.files (file_of (other c.args.lead))) ≤ c.args.count = omega (arith, mate1, small, low) in
    pair_shows c.args.lead (g.F.Files.seen c.args.files.now) (g.F.Files.seen c.copy_over.new.files) _ copied (omega (arith, is, small, low)) (omega (arith, is1, low1)) (c.raise.ensures.seen k1 (c.in-Ok.ensures.alike known))

pub returns-in-Ok-clause-time : goal.returns-in-Ok-clause-time
returns-in-Ok-clause-time g c = λ known settled is small low stop.
    let k1 = c.copy_over.ensures.stays known in
    let copied = c.copy_over.ensures.seen known in
    let settled1 = λ (at : Stop) (h : Folder) (now : g.F.Files.may_leave c.copy_over.new.files at h).
    (let from = (c.copy_over.ensures.time known at).ends h now in settled_copied c.args.lead (g.F.Files.seen c.args.files.now) (g.F.Files.seen c.copy_over.new.files) from.0 h (settled at from.0 from.1) from.2 copied (c.in-Ok.ensures.durable known at h now)) in
    let is1 : c.args.count ≡ count_in (g.F.Files.seen c.copy_over.new.files (file_of c.args.lead)) = is ∙ sym ((copied_count c.args.lead (g.F.Files.seen c.args.files.now) (g.F.Files.seen c.args.files.now) (g.F.Files.seen c.copy_over.new.files) copied).0) in
    let mate1 = (copied_count c.args.lead (g.F.Files.seen c.args.files.now) (g.F.Files.seen c.args.files.now) (g.F.Files.seen c.copy_over.new.files) copied).1 in
    let low1 : count_in (g.F.Files.seen c.copy_over.new.files (file_of (other c.args.lead))) ≤ c.args.count = omega (arith, mate1, small, low) in
    let first = shown_elapses _ _ _ _ _ _ (λ h. shown (g.F.Files.may_leave c.args.files.now stop) h) (c.copy_over.ensures.time known stop)
    (copied_within c.args.lead (g.F.Files.seen c.args.files.now) (g.F.Files.may_leave c.args.files.now stop)
    (λ f now. ((settled_lead c.args.lead (g.F.Files.seen c.args.files.now) f (settled stop f now)).0, (lead_leads c.args.lead f c.args.count c.args.least (settled_counts c.args.lead (g.F.Files.seen c.args.files.now) f c.args.count c.args.least (settled stop f now) is small) low).0))) in
    both_elapse _ _ _ _ _ _ _ _ _ _ _ first (c.raise.ensures.time k1 settled1 (c.in-Ok.ensures.alike known) is1 low1 stop) (λ h d. d) (λ h there. first.ends h there)

pub returns-in-Err-Mate-clause-held : goal.returns-in-Err-Mate-clause-held
returns-in-Err-Mate-clause-held g c = λ known settled is small low.
    let k1 = c.copy_over.ensures.stays known in
    let copied = c.copy_over.ensures.seen known in
    let counted = λ (at : Stop) (h : Folder) (now : g.F.Files.may_leave c.copy_over.new.files at h).
    (let from = (c.copy_over.ensures.time known at).ends h now in copied_may c.args.lead (g.F.Files.seen c.args.files.now) from.0 h c.args.count c.args.least (settled at from.0 from.1) is small from.2) in
    c.go_alone.ensures.held k1 (λ (at : Stop) (h : Folder) (now : g.F.Files.may_leave c.copy_over.new.files at h). lead_leads c.args.lead h c.args.count c.args.least (counted at h now) low)

pub returns-in-Err-Mate-clause-seen : goal.returns-in-Err-Mate-clause-seen
returns-in-Err-Mate-clause-seen g c = λ known is small low kept.
    let k1 = c.copy_over.ensures.stays known in
    let copied = c.copy_over.ensures.seen known in
    let is1 : c.args.count ≡ count_in (g.F.Files.seen c.copy_over.new.files (file_of c.args.lead)) = is ∙ sym ((copied_count c.args.lead (g.F.Files.seen c.args.files.now) (g.F.Files.seen c.args.files.now) (g.F.Files.seen c.copy_over.new.files) copied).0) in
    let mate1 = (copied_count c.args.lead (g.F.Files.seen c.args.files.now) (g.F.Files.seen c.args.files.now) (g.F.Files.seen c.copy_over.new.files) copied).1 in
    let low1 : count_in (g.F.Files.seen c.copy_over.new.files (file_of (other c.args.lead))) ≤ c.args.count = omega (arith, mate1, small, low) in
    alone_shows c.args.lead c.args.lead (g.F.Files.seen c.args.files.now) (g.F.Files.seen c.copy_over.new.files) (g.F.Files.seen c.go_alone.new.files) c.go_alone.result copied (omega (arith, is, small, low)) (omega (arith, is1, low1)) c.go_alone.ensures.only kept (c.go_alone.ensures.following k1)

pub returns-in-Err-Mate-clause-time : goal.returns-in-Err-Mate-clause-time
returns-in-Err-Mate-clause-time g c = λ known settled is small low stop.
    let k1 = c.copy_over.ensures.stays known in
    let copied = c.copy_over.ensures.seen known in
    let counted = λ (at : Stop) (h : Folder) (now : g.F.Files.may_leave c.copy_over.new.files at h).
    (let from = (c.copy_over.ensures.time known at).ends h now in copied_may c.args.lead (g.F.Files.seen c.args.files.now) from.0 h c.args.count c.args.least (settled at from.0 from.1) is small from.2) in
    let first = shown_elapses _ _ _ _ _ _ (λ h. shown (g.F.Files.may_leave c.args.files.now stop) h) (c.copy_over.ensures.time known stop)
    (copied_within c.args.lead (g.F.Files.seen c.args.files.now) (g.F.Files.may_leave c.args.files.now stop)
    (λ f now. ((settled_lead c.args.lead (g.F.Files.seen c.args.files.now) f (settled stop f now)).0, (lead_leads c.args.lead f c.args.count c.args.least (settled_counts c.args.lead (g.F.Files.seen c.args.files.now) f c.args.count c.args.least (settled stop f now) is small) low).0))) in
    both_elapse _ _ _ _ _ _ _ _ _ _ _ first (c.go_alone.ensures.time k1 (λ (at : Stop) (h : Folder) (now : g.F.Files.may_leave c.copy_over.new.files at h). lead_leads c.args.lead h c.args.count c.args.least (counted at h now) low) stop) (λ h d. d) (λ h there. first.ends h there)

pub returns-then-count-saturating_add-clause-held : goal.returns-then-count-saturating_add-clause-held
returns-then-count-saturating_add-clause-held g c = λ known settled is small low.
    let k1 = c.copy_over.ensures.stays known in
    let copied = c.copy_over.ensures.seen known in
    let counted = λ (at : Stop) (h : Folder) (now : g.F.Files.may_leave c.copy_over.new.files at h).
    (let from = (c.copy_over.ensures.time known at).ends h now in copied_may c.args.lead (g.F.Files.seen c.args.files.now) from.0 h c.args.count c.args.least (settled at from.0 from.1) is small from.2) in
    let near : c.args.count ≤ suc c.args.least = omega (arith, c.if-count-saturating_add.true, c.saturating_add.ensures) in
    c.go_alone-then-count-saturating_add.ensures.held k1 (λ (at : Stop) (h : Folder) (now : g.F.Files.may_leave c.copy_over.new.files at h). subst (λ (t : Twin). Counts h t × (count_in (h (file_of (other t))) ≤ suc c.args.least)) (sym c.other.ensures) (mate_leads c.args.lead h c.args.count c.args.least (counted at h now) near))

pub returns-then-count-saturating_add-clause-seen : goal.returns-then-count-saturating_add-clause-seen
returns-then-count-saturating_add-clause-seen g c = λ known is small low kept.
    let k1 = c.copy_over.ensures.stays known in
    let copied = c.copy_over.ensures.seen known in
    let near : c.args.count ≤ suc c.args.least = omega (arith, c.if-count-saturating_add.true, c.saturating_add.ensures) in
    let same = copied_count c.args.lead (g.F.Files.seen c.args.files.now) (g.F.Files.seen c.args.files.now) (g.F.Files.seen c.copy_over.new.files) copied in
    let leads = mate_leads c.args.lead (g.F.Files.seen c.copy_over.new.files) c.args.count c.args.least (same.0 ∙ sym is, same.1 ∙ sym small) near in
    alone_shows c.args.lead c.other.result (g.F.Files.seen c.args.files.now) (g.F.Files.seen c.copy_over.new.files) (g.F.Files.seen c.go_alone-then-count-saturating_add.new.files) c.go_alone-then-count-saturating_add.result copied (omega (arith, is, small, low)) (subst (λ (t : Twin). Counts (g.F.Files.seen c.copy_over.new.files) t) (sym c.other.ensures) leads.0) c.go_alone-then-count-saturating_add.ensures.only kept (c.go_alone-then-count-saturating_add.ensures.following k1)

pub returns-then-count-saturating_add-clause-time : goal.returns-then-count-saturating_add-clause-time
returns-then-count-saturating_add-clause-time g c = λ known settled is small low stop.
    let k1 = c.copy_over.ensures.stays known in
    let copied = c.copy_over.ensures.seen known in
    let counted = λ (at : Stop) (h : Folder) (now : g.F.Files.may_leave c.copy_over.new.files at h).
    (let from = (c.copy_over.ensures.time known at).ends h now in copied_may c.args.lead (g.F.Files.seen c.args.files.now) from.0 h c.args.count c.args.least (settled at from.0 from.1) is small from.2) in
    let near : c.args.count ≤ suc c.args.least = omega (arith, c.if-count-saturating_add.true, c.saturating_add.ensures) in
    let first = shown_elapses _ _ _ _ _ _ (λ h. shown (g.F.Files.may_leave c.args.files.now stop) h) (c.copy_over.ensures.time known stop)
    (copied_within c.args.lead (g.F.Files.seen c.args.files.now) (g.F.Files.may_leave c.args.files.now stop)
    (λ f now. ((settled_lead c.args.lead (g.F.Files.seen c.args.files.now) f (settled stop f now)).0, (lead_leads c.args.lead f c.args.count c.args.least (settled_counts c.args.lead (g.F.Files.seen c.args.files.now) f c.args.count c.args.least (settled stop f now) is small) low).0))) in
    both_elapse _ _ _ _ _ _ _ _ _ _ _ first (c.go_alone-then-count-saturating_add.ensures.time k1 (λ (at : Stop) (h : Folder) (now : g.F.Files.may_leave c.copy_over.new.files at h). subst (λ (t : Twin). Counts h t × (count_in (h (file_of (other t))) ≤ suc c.args.least)) (sym c.other.ensures) (mate_leads c.args.lead h c.args.count c.args.least (counted at h now) near)) stop) (λ h d. d) (λ h there. first.ends h there)

pub returns-else-count-saturating_add-clause-time : goal.returns-else-count-saturating_add-clause-time
returns-else-count-saturating_add-clause-time g c = λ known settled is small low stop.
    let first = shown_elapses _ _ _ _ _ _ (λ h. shown (g.F.Files.may_leave c.args.files.now stop) h) (c.copy_over.ensures.time known stop)
    (copied_within c.args.lead (g.F.Files.seen c.args.files.now) (g.F.Files.may_leave c.args.files.now stop)
    (λ f now. ((settled_lead c.args.lead (g.F.Files.seen c.args.files.now) f (settled stop f now)).0, (lead_leads c.args.lead f c.args.count c.args.least (settled_counts c.args.lead (g.F.Files.seen c.args.files.now) f c.args.count c.args.least (settled stop f now) is small) low).0))) in
    first

pub returns-in-Ok-clause-newest : goal.returns-in-Ok-clause-newest
returns-in-Ok-clause-newest g c = λ known both.
    let k1 = c.copy_over.ensures.stays known in
    c.raise.ensures.seen k1 (c.in-Ok.ensures.alike known) ∙ copied_seen c.args.lead (g.F.Files.seen c.args.files.now) (g.F.Files.seen c.copy_over.new.files) (c.copy_over.ensures.seen known)

pub returns-in-Err-Mate-clause-newest : goal.returns-in-Err-Mate-clause-newest
returns-in-Err-Mate-clause-newest g c = λ known both. only_both c.args.lead c.go_alone.result c.go_alone.ensures.only both

pub returns-then-count-saturating_add-clause-newest : goal.returns-then-count-saturating_add-clause-newest
returns-then-count-saturating_add-clause-newest g c = λ known both. only_both c.other.result c.go_alone-then-count-saturating_add.result c.go_alone-then-count-saturating_add.ensures.only both

pub returns-in-Ok-clause-raised : goal.returns-in-Ok-clause-raised
returns-in-Ok-clause-raised g c = λ known is small low.
    let copied = c.copy_over.ensures.seen known in
    let same = copied_count c.args.lead (g.F.Files.seen c.args.files.now) (g.F.Files.seen c.args.files.now) (g.F.Files.seen c.copy_over.new.files) copied in
    raised_copied c.args.lead (g.F.Files.seen c.args.files.now) (g.F.Files.seen c.copy_over.new.files) c.raise.result copied (c.raise.ensures.raised (c.copy_over.ensures.stays known) (is ∙ sym same.0) (let mate = same.1 in omega (arith, mate, small, low)))

pub returns-in-Err-Mate-clause-raised : goal.returns-in-Err-Mate-clause-raised
returns-in-Err-Mate-clause-raised g c = λ known is small low. alone_raised c.args.lead (c.args.count + 3) (g.F.Files.seen c.args.files.now) c.go_alone.result c.go_alone.ensures.only c.go_alone.ensures.raised (omega (arith, is))

pub returns-then-count-saturating_add-clause-raised : goal.returns-then-count-saturating_add-clause-raised
returns-then-count-saturating_add-clause-raised g c = λ known is small low.
    alone_raised c.other.result (c.args.least + 3) (g.F.Files.seen c.args.files.now) c.go_alone-then-count-saturating_add.result c.go_alone-then-count-saturating_add.ensures.only c.go_alone-then-count-saturating_add.ensures.raised
    (subst (λ (t : Twin). count_in (g.F.Files.seen c.args.files.now (file_of t)) < c.args.least + 3) (sym c.other.ensures) (omega (arith, small)))
