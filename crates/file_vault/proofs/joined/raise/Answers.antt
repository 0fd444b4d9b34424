use Rattle.std.proofs.Common.{◌<◌, ◌≡◌, ◌≤◌, ◌+◌, suc, sym, ◌∙◌, ap, subst, arith}
use Rattle.vault.specs.declared.store.Stop.{Stop}
use Rattle.file_vault.specs.declared.twin.Twin.{Twin}
use Rattle.file_vault.specs.Folders.{Folder}
use Rattle.file_vault.specs.Twins.{file_of, other, count_in, Counts, shown}
use Rattle.file_vault.proofs.Puts.{both_elapse}
use Rattle.file_vault.proofs.Shown.{shown_elapses}
use Rattle.file_vault.proofs.Copied.{not_err, alone_raised, both_raised}
use Rattle.file_vault.proofs.Raised.{settled_counted, mate_stage, lead_stage, mate_made, lead_made, stage_shown, lead_may, mate_may, even_of, both_by, both_more, alike_on}
use Rattle.file_vault.proofs.joined.raise.Goals as goal

pub returns-then-is_err-clause-held : goal.returns-then-is_err-clause-held
returns-then-is_err-clause-held g c = λ known settled alike is low.
    let n1 = c.number.ensures ∙ ap file_of c.other-mate.ensures in
    let c0 = λ (at : Stop) (f : Folder) (now : g.F.Files.may_leave c.args.files.now at f). settled_counted c.args.lead (g.F.Files.seen c.args.files.now) f c.args.count (settled at f now) alike is low in
    let c1 = λ (at : Stop) (f : Folder) (now : g.F.Files.may_leave c.put_count.new.files at f). mate_stage c.args.lead (g.F.Files.seen c.args.files.now 17) c.args.count c.args.count 0 c.args.count c.args.count c.number.result (g.F.Files.may_leave c.args.files.now at) (g.F.Files.may_leave c.put_count.new.files at) n1 (omega arith) (omega arith) (c0 at) ((c.put_count.ensures.time known at).ends) f now in
    let k1 = c.put_count.ensures.stays known in
    c.go_alone.ensures.held k1 (λ (at : Stop) (f : Folder) (now : g.F.Files.may_leave c.put_count.new.files at f). lead_may c.args.lead (g.F.Files.seen c.args.files.now 17) c.args.count c.args.count 0 c.args.count c.args.count f (omega arith) (omega arith) (c1 at f now))

pub returns-then-is_err-clause-time : goal.returns-then-is_err-clause-time
returns-then-is_err-clause-time g c = λ known settled alike is low stop.
    let n1 = c.number.ensures ∙ ap file_of c.other-mate.ensures in
    let c0 = λ (at : Stop) (f : Folder) (now : g.F.Files.may_leave c.args.files.now at f). settled_counted c.args.lead (g.F.Files.seen c.args.files.now) f c.args.count (settled at f now) alike is low in
    let c1 = λ (at : Stop) (f : Folder) (now : g.F.Files.may_leave c.put_count.new.files at f). mate_stage c.args.lead (g.F.Files.seen c.args.files.now 17) c.args.count c.args.count 0 c.args.count c.args.count c.number.result (g.F.Files.may_leave c.args.files.now at) (g.F.Files.may_leave c.put_count.new.files at) n1 (omega arith) (omega arith) (c0 at) ((c.put_count.ensures.time known at).ends) f now in
    let k1 = c.put_count.ensures.stays known in
    let t1 = shown_elapses _ _ _ _ _ _ (λ h. shown (g.F.Files.may_leave c.args.files.now stop) h) (c.put_count.ensures.time known stop) (stage_shown c.args.lead (other c.args.lead) (g.F.Files.seen c.args.files.now 17) c.args.count c.args.count 0 c.args.count c.args.count c.number.result (g.F.Files.may_leave c.args.files.now stop) n1 (omega arith) (c0 stop)) in
    both_elapse _ _ _ _ _ _ _ _ _ _ _ t1 (c.go_alone.ensures.time k1 (λ (at : Stop) (f : Folder) (now : g.F.Files.may_leave c.put_count.new.files at f). lead_may c.args.lead (g.F.Files.seen c.args.files.now 17) c.args.count c.args.count 0 c.args.count c.args.count f (omega arith) (omega arith) (c1 at f now)) stop) (λ h d. d) (λ h there. t1.ends h there)

pub returns-then-is_err-2-clause-held : goal.returns-then-is_err-2-clause-held
returns-then-is_err-2-clause-held g c = λ known settled alike is low.
    let n1 = c.number.ensures ∙ ap file_of c.other-mate.ensures in
    let c0 = λ (at : Stop) (f : Folder) (now : g.F.Files.may_leave c.args.files.now at f). settled_counted c.args.lead (g.F.Files.seen c.args.files.now) f c.args.count (settled at f now) alike is low in
    let c1 = λ (at : Stop) (f : Folder) (now : g.F.Files.may_leave c.put_count.new.files at f). mate_stage c.args.lead (g.F.Files.seen c.args.files.now 17) c.args.count c.args.count 0 c.args.count c.args.count c.number.result (g.F.Files.may_leave c.args.files.now at) (g.F.Files.may_leave c.put_count.new.files at) n1 (omega arith) (omega arith) (c0 at) ((c.put_count.ensures.time known at).ends) f now in
    let k1 = c.put_count.ensures.stays known in
    let up : c.in-Some.next ≡ c.args.count + 1 = omega (arith, c.in-Some.ensures) in
    let d1 = λ (at : Stop) (f : Folder) (now : g.F.Files.may_leave c.put_count.new.files at f). mate_made c.args.lead (g.F.Files.seen c.args.files.now 17) c.args.count c.args.count 0 c.args.count c.number.result (g.F.Files.seen c.put_count.new.files) (g.F.Files.may_leave c.put_count.new.files at) n1
    (not_err c.put_count.result _ (c.put_count.ensures.durable known) (sym c.is_err.ensures.value ∙ c.if-is_err.false) at)
    (not_err c.put_count.result _ (c.put_count.ensures.count known) (sym c.is_err.ensures.value ∙ c.if-is_err.false)) (c1 at) f now in
    let c2 = λ (at : Stop) (f : Folder) (now : g.F.Files.may_leave c.put_count-2.new.files at f). lead_stage c.args.lead (g.F.Files.seen c.args.files.now 17) c.args.count c.args.count c.args.count c.args.count c.in-Some.next c.number-2.result (g.F.Files.may_leave c.put_count.new.files at) (g.F.Files.may_leave c.put_count-2.new.files at) c.number-2.ensures (omega (arith, up)) (omega (arith, up)) (d1 at) ((c.put_count-2.ensures.time k1 at).ends) f now in
    let k2 = c.put_count-2.ensures.stays k1 in
    c.go_alone-then-is_err-2.ensures.held k2 (λ (at : Stop) (f : Folder) (now : g.F.Files.may_leave c.put_count-2.new.files at f). subst (λ (t : Twin). Counts f t × (count_in (f (file_of (other t))) ≤ suc c.args.count)) (sym c.other-mate.ensures) (mate_may c.args.lead (g.F.Files.seen c.args.files.now 17) c.args.count c.in-Some.next c.args.count c.args.count c.args.count f (omega (arith, up)) (omega (arith, up)) (c2 at f now)))

pub returns-then-is_err-2-clause-time : goal.returns-then-is_err-2-clause-time
returns-then-is_err-2-clause-time g c = λ known settled alike is low stop.
    let n1 = c.number.ensures ∙ ap file_of c.other-mate.ensures in
    let c0 = λ (at : Stop) (f : Folder) (now : g.F.Files.may_leave c.args.files.now at f). settled_counted c.args.lead (g.F.Files.seen c.args.files.now) f c.args.count (settled at f now) alike is low in
    let c1 = λ (at : Stop) (f : Folder) (now : g.F.Files.may_leave c.put_count.new.files at f). mate_stage c.args.lead (g.F.Files.seen c.args.files.now 17) c.args.count c.args.count 0 c.args.count c.args.count c.number.result (g.F.Files.may_leave c.args.files.now at) (g.F.Files.may_leave c.put_count.new.files at) n1 (omega arith) (omega arith) (c0 at) ((c.put_count.ensures.time known at).ends) f now in
    let k1 = c.put_count.ensures.stays known in
    let up : c.in-Some.next ≡ c.args.count + 1 = omega (arith, c.in-Some.ensures) in
    let d1 = λ (at : Stop) (f : Folder) (now : g.F.Files.may_leave c.put_count.new.files at f). mate_made c.args.lead (g.F.Files.seen c.args.files.now 17) c.args.count c.args.count 0 c.args.count c.number.result (g.F.Files.seen c.put_count.new.files) (g.F.Files.may_leave c.put_count.new.files at) n1
    (not_err c.put_count.result _ (c.put_count.ensures.durable known) (sym c.is_err.ensures.value ∙ c.if-is_err.false) at)
    (not_err c.put_count.result _ (c.put_count.ensures.count known) (sym c.is_err.ensures.value ∙ c.if-is_err.false)) (c1 at) f now in
    let c2 = λ (at : Stop) (f : Folder) (now : g.F.Files.may_leave c.put_count-2.new.files at f). lead_stage c.args.lead (g.F.Files.seen c.args.files.now 17) c.args.count c.args.count c.args.count c.args.count c.in-Some.next c.number-2.result (g.F.Files.may_leave c.put_count.new.files at) (g.F.Files.may_leave c.put_count-2.new.files at) c.number-2.ensures (omega (arith, up)) (omega (arith, up)) (d1 at) ((c.put_count-2.ensures.time k1 at).ends) f now in
    let k2 = c.put_count-2.ensures.stays k1 in
    let t1 = shown_elapses _ _ _ _ _ _ (λ h. shown (g.F.Files.may_leave c.args.files.now stop) h) (c.put_count.ensures.time known stop) (stage_shown c.args.lead (other c.args.lead) (g.F.Files.seen c.args.files.now 17) c.args.count c.args.count 0 c.args.count c.args.count c.number.result (g.F.Files.may_leave c.args.files.now stop) n1 (omega arith) (c0 stop)) in
    let t2 = both_elapse _ _ _ _ _ _ _ _ _ _ _ t1 (shown_elapses _ _ _ _ _ _ (λ h. shown (g.F.Files.may_leave c.put_count.new.files stop) h) (c.put_count-2.ensures.time k1 stop) (stage_shown c.args.lead c.args.lead (g.F.Files.seen c.args.files.now 17) c.args.count c.args.count c.args.count c.args.count c.in-Some.next c.number-2.result (g.F.Files.may_leave c.put_count.new.files stop) c.number-2.ensures (omega arith) (d1 stop))) (λ h d. d) (λ h there. t1.ends h there) in
    both_elapse _ _ _ _ _ _ _ _ _ _ _ t2 (c.go_alone-then-is_err-2.ensures.time k2 (λ (at : Stop) (f : Folder) (now : g.F.Files.may_leave c.put_count-2.new.files at f). subst (λ (t : Twin). Counts f t × (count_in (f (file_of (other t))) ≤ suc c.args.count)) (sym c.other-mate.ensures) (mate_may c.args.lead (g.F.Files.seen c.args.files.now 17) c.args.count c.in-Some.next c.args.count c.args.count c.args.count f (omega (arith, up)) (omega (arith, up)) (c2 at f now))) stop) (λ h d. d) (λ h there. t2.ends h there)

pub returns-then-is_err-3-clause-held : goal.returns-then-is_err-3-clause-held
returns-then-is_err-3-clause-held g c = λ known settled alike is low.
    let n1 = c.number.ensures ∙ ap file_of c.other-mate.ensures in
    let c0 = λ (at : Stop) (f : Folder) (now : g.F.Files.may_leave c.args.files.now at f). settled_counted c.args.lead (g.F.Files.seen c.args.files.now) f c.args.count (settled at f now) alike is low in
    let c1 = λ (at : Stop) (f : Folder) (now : g.F.Files.may_leave c.put_count.new.files at f). mate_stage c.args.lead (g.F.Files.seen c.args.files.now 17) c.args.count c.args.count 0 c.args.count c.args.count c.number.result (g.F.Files.may_leave c.args.files.now at) (g.F.Files.may_leave c.put_count.new.files at) n1 (omega arith) (omega arith) (c0 at) ((c.put_count.ensures.time known at).ends) f now in
    let k1 = c.put_count.ensures.stays known in
    let up : c.in-Some.next ≡ c.args.count + 1 = omega (arith, c.in-Some.ensures) in
    let d1 = λ (at : Stop) (f : Folder) (now : g.F.Files.may_leave c.put_count.new.files at f). mate_made c.args.lead (g.F.Files.seen c.args.files.now 17) c.args.count c.args.count 0 c.args.count c.number.result (g.F.Files.seen c.put_count.new.files) (g.F.Files.may_leave c.put_count.new.files at) n1
    (not_err c.put_count.result _ (c.put_count.ensures.durable known) (sym c.is_err.ensures.value ∙ c.if-is_err.false) at)
    (not_err c.put_count.result _ (c.put_count.ensures.count known) (sym c.is_err.ensures.value ∙ c.if-is_err.false)) (c1 at) f now in
    let c2 = λ (at : Stop) (f : Folder) (now : g.F.Files.may_leave c.put_count-2.new.files at f). lead_stage c.args.lead (g.F.Files.seen c.args.files.now 17) c.args.count c.args.count c.args.count c.args.count c.in-Some.next c.number-2.result (g.F.Files.may_leave c.put_count.new.files at) (g.F.Files.may_leave c.put_count-2.new.files at) c.number-2.ensures (omega (arith, up)) (omega (arith, up)) (d1 at) ((c.put_count-2.ensures.time k1 at).ends) f now in
    let k2 = c.put_count-2.ensures.stays k1 in
    let n3 = c.number-3.ensures ∙ ap file_of c.other-mate.ensures in
    let d2 = λ (at : Stop) (f : Folder) (now : g.F.Files.may_leave c.put_count-2.new.files at f). lead_made c.args.lead (g.F.Files.seen c.args.files.now 17) c.args.count c.in-Some.next c.args.count c.args.count c.number-2.result (g.F.Files.seen c.put_count-2.new.files) (g.F.Files.may_leave c.put_count-2.new.files at) c.number-2.ensures
    (not_err c.put_count-2.result _ (c.put_count-2.ensures.durable k1) (sym c.is_err-2.ensures.value ∙ c.if-is_err-2.false) at)
    (not_err c.put_count-2.result _ (c.put_count-2.ensures.count k1) (sym c.is_err-2.ensures.value ∙ c.if-is_err-2.false)) (c2 at) f now in
    let c3 = λ (at : Stop) (f : Folder) (now : g.F.Files.may_leave c.put_count-3.new.files at f). mate_stage c.args.lead (g.F.Files.seen c.args.files.now 17) c.in-Some.next c.in-Some.next c.args.count c.args.count c.in-Some.next c.number-3.result (g.F.Files.may_leave c.put_count-2.new.files at) (g.F.Files.may_leave c.put_count-3.new.files at) n3 (omega (arith, up)) (omega (arith, up)) (d2 at) ((c.put_count-3.ensures.time k2 at).ends) f now in
    let k3 = c.put_count-3.ensures.stays k2 in
    c.go_alone-then-is_err-3.ensures.held k3 (λ (at : Stop) (f : Folder) (now : g.F.Files.may_leave c.put_count-3.new.files at f). lead_may c.args.lead (g.F.Files.seen c.args.files.now 17) c.in-Some.next c.in-Some.next c.args.count c.in-Some.next c.in-Some.next f (omega arith) (omega arith) (c3 at f now))

pub returns-then-is_err-3-clause-time : goal.returns-then-is_err-3-clause-time
returns-then-is_err-3-clause-time g c = λ known settled alike is low stop.
    let n1 = c.number.ensures ∙ ap file_of c.other-mate.ensures in
    let c0 = λ (at : Stop) (f : Folder) (now : g.F.Files.may_leave c.args.files.now at f). settled_counted c.args.lead (g.F.Files.seen c.args.files.now) f c.args.count (settled at f now) alike is low in
    let c1 = λ (at : Stop) (f : Folder) (now : g.F.Files.may_leave c.put_count.new.files at f). mate_stage c.args.lead (g.F.Files.seen c.args.files.now 17) c.args.count c.args.count 0 c.args.count c.args.count c.number.result (g.F.Files.may_leave c.args.files.now at) (g.F.Files.may_leave c.put_count.new.files at) n1 (omega arith) (omega arith) (c0 at) ((c.put_count.ensures.time known at).ends) f now in
    let k1 = c.put_count.ensures.stays known in
    let up : c.in-Some.next ≡ c.args.count + 1 = omega (arith, c.in-Some.ensures) in
    let d1 = λ (at : Stop) (f : Folder) (now : g.F.Files.may_leave c.put_count.new.files at f). mate_made c.args.lead (g.F.Files.seen c.args.files.now 17) c.args.count c.args.count 0 c.args.count c.number.result (g.F.Files.seen c.put_count.new.files) (g.F.Files.may_leave c.put_count.new.files at) n1
    (not_err c.put_count.result _ (c.put_count.ensures.durable known) (sym c.is_err.ensures.value ∙ c.if-is_err.false) at)
    (not_err c.put_count.result _ (c.put_count.ensures.count known) (sym c.is_err.ensures.value ∙ c.if-is_err.false)) (c1 at) f now in
    let c2 = λ (at : Stop) (f : Folder) (now : g.F.Files.may_leave c.put_count-2.new.files at f). lead_stage c.args.lead (g.F.Files.seen c.args.files.now 17) c.args.count c.args.count c.args.count c.args.count c.in-Some.next c.number-2.result (g.F.Files.may_leave c.put_count.new.files at) (g.F.Files.may_leave c.put_count-2.new.files at) c.number-2.ensures (omega (arith, up)) (omega (arith, up)) (d1 at) ((c.put_count-2.ensures.time k1 at).ends) f now in
    let k2 = c.put_count-2.ensures.stays k1 in
    let n3 = c.number-3.ensures ∙ ap file_of c.other-mate.ensures in
    let d2 = λ (at : Stop) (f : Folder) (now : g.F.Files.may_leave c.put_count-2.new.files at f). lead_made c.args.lead (g.F.Files.seen c.args.files.now 17) c.args.count c.in-Some.next c.args.count c.args.count c.number-2.result (g.F.Files.seen c.put_count-2.new.files) (g.F.Files.may_leave c.put_count-2.new.files at) c.number-2.ensures
    (not_err c.put_count-2.result _ (c.put_count-2.ensures.durable k1) (sym c.is_err-2.ensures.value ∙ c.if-is_err-2.false) at)
    (not_err c.put_count-2.result _ (c.put_count-2.ensures.count k1) (sym c.is_err-2.ensures.value ∙ c.if-is_err-2.false)) (c2 at) f now in
    let c3 = λ (at : Stop) (f : Folder) (now : g.F.Files.may_leave c.put_count-3.new.files at f). mate_stage c.args.lead (g.F.Files.seen c.args.files.now 17) c.in-Some.next c.in-Some.next c.args.count c.args.count c.in-Some.next c.number-3.result (g.F.Files.may_leave c.put_count-2.new.files at) (g.F.Files.may_leave c.put_count-3.new.files at) n3 (omega (arith, up)) (omega (arith, up)) (d2 at) ((c.put_count-3.ensures.time k2 at).ends) f now in
    let k3 = c.put_count-3.ensures.stays k2 in
    let t1 = shown_elapses _ _ _ _ _ _ (λ h. shown (g.F.Files.may_leave c.args.files.now stop) h) (c.put_count.ensures.time known stop) (stage_shown c.args.lead (other c.args.lead) (g.F.Files.seen c.args.files.now 17) c.args.count c.args.count 0 c.args.count c.args.count c.number.result (g.F.Files.may_leave c.args.files.now stop) n1 (omega arith) (c0 stop)) in
    let t2 = both_elapse _ _ _ _ _ _ _ _ _ _ _ t1 (shown_elapses _ _ _ _ _ _ (λ h. shown (g.F.Files.may_leave c.put_count.new.files stop) h) (c.put_count-2.ensures.time k1 stop) (stage_shown c.args.lead c.args.lead (g.F.Files.seen c.args.files.now 17) c.args.count c.args.count c.args.count c.args.count c.in-Some.next c.number-2.result (g.F.Files.may_leave c.put_count.new.files stop) c.number-2.ensures (omega arith) (d1 stop))) (λ h d. d) (λ h there. t1.ends h there) in
    let t3 = both_elapse _ _ _ _ _ _ _ _ _ _ _ t2 (shown_elapses _ _ _ _ _ _ (λ h. shown (g.F.Files.may_leave c.put_count-2.new.files stop) h) (c.put_count-3.ensures.time k2 stop) (stage_shown c.args.lead (other c.args.lead) (g.F.Files.seen c.args.files.now 17) c.in-Some.next c.in-Some.next c.args.count c.args.count c.in-Some.next c.number-3.result (g.F.Files.may_leave c.put_count-2.new.files stop) n3 (omega (arith, up)) (d2 stop))) (λ h d. d) (λ h there. t2.ends h there) in
    both_elapse _ _ _ _ _ _ _ _ _ _ _ t3 (c.go_alone-then-is_err-3.ensures.time k3 (λ (at : Stop) (f : Folder) (now : g.F.Files.may_leave c.put_count-3.new.files at f). lead_may c.args.lead (g.F.Files.seen c.args.files.now 17) c.in-Some.next c.in-Some.next c.args.count c.in-Some.next c.in-Some.next f (omega arith) (omega arith) (c3 at f now)) stop) (λ h d. d) (λ h there. t3.ends h there)

pub returns-in_default-clause-time : goal.returns-in_default-clause-time
returns-in_default-clause-time g c = λ known settled alike is low stop.
    let n1 = c.number.ensures ∙ ap file_of c.other-mate.ensures in
    let c0 = λ (at : Stop) (f : Folder) (now : g.F.Files.may_leave c.args.files.now at f). settled_counted c.args.lead (g.F.Files.seen c.args.files.now) f c.args.count (settled at f now) alike is low in
    let c1 = λ (at : Stop) (f : Folder) (now : g.F.Files.may_leave c.put_count.new.files at f). mate_stage c.args.lead (g.F.Files.seen c.args.files.now 17) c.args.count c.args.count 0 c.args.count c.args.count c.number.result (g.F.Files.may_leave c.args.files.now at) (g.F.Files.may_leave c.put_count.new.files at) n1 (omega arith) (omega arith) (c0 at) ((c.put_count.ensures.time known at).ends) f now in
    let k1 = c.put_count.ensures.stays known in
    shown_elapses _ _ _ _ _ _ (λ h. shown (g.F.Files.may_leave c.args.files.now stop) h) (c.put_count.ensures.time known stop) (stage_shown c.args.lead (other c.args.lead) (g.F.Files.seen c.args.files.now 17) c.args.count c.args.count 0 c.args.count c.args.count c.number.result (g.F.Files.may_leave c.args.files.now stop) n1 (omega arith) (c0 stop))

pub returns-clause-held : goal.returns-clause-held
returns-clause-held g c = λ known settled alike is low.
    let n1 = c.number.ensures ∙ ap file_of c.other-mate.ensures in
    let c0 = λ (at : Stop) (f : Folder) (now : g.F.Files.may_leave c.args.files.now at f). settled_counted c.args.lead (g.F.Files.seen c.args.files.now) f c.args.count (settled at f now) alike is low in
    let c1 = λ (at : Stop) (f : Folder) (now : g.F.Files.may_leave c.put_count.new.files at f). mate_stage c.args.lead (g.F.Files.seen c.args.files.now 17) c.args.count c.args.count 0 c.args.count c.args.count c.number.result (g.F.Files.may_leave c.args.files.now at) (g.F.Files.may_leave c.put_count.new.files at) n1 (omega arith) (omega arith) (c0 at) ((c.put_count.ensures.time known at).ends) f now in
    let k1 = c.put_count.ensures.stays known in
    let up : c.in-Some.next ≡ c.args.count + 1 = omega (arith, c.in-Some.ensures) in
    let d1 = λ (at : Stop) (f : Folder) (now : g.F.Files.may_leave c.put_count.new.files at f). mate_made c.args.lead (g.F.Files.seen c.args.files.now 17) c.args.count c.args.count 0 c.args.count c.number.result (g.F.Files.seen c.put_count.new.files) (g.F.Files.may_leave c.put_count.new.files at) n1
    (not_err c.put_count.result _ (c.put_count.ensures.durable known) (sym c.is_err.ensures.value ∙ c.if-is_err.false) at)
    (not_err c.put_count.result _ (c.put_count.ensures.count known) (sym c.is_err.ensures.value ∙ c.if-is_err.false)) (c1 at) f now in
    let c2 = λ (at : Stop) (f : Folder) (now : g.F.Files.may_leave c.put_count-2.new.files at f). lead_stage c.args.lead (g.F.Files.seen c.args.files.now 17) c.args.count c.args.count c.args.count c.args.count c.in-Some.next c.number-2.result (g.F.Files.may_leave c.put_count.new.files at) (g.F.Files.may_leave c.put_count-2.new.files at) c.number-2.ensures (omega (arith, up)) (omega (arith, up)) (d1 at) ((c.put_count-2.ensures.time k1 at).ends) f now in
    let k2 = c.put_count-2.ensures.stays k1 in
    let n3 = c.number-3.ensures ∙ ap file_of c.other-mate.ensures in
    let d2 = λ (at : Stop) (f : Folder) (now : g.F.Files.may_leave c.put_count-2.new.files at f). lead_made c.args.lead (g.F.Files.seen c.args.files.now 17) c.args.count c.in-Some.next c.args.count c.args.count c.number-2.result (g.F.Files.seen c.put_count-2.new.files) (g.F.Files.may_leave c.put_count-2.new.files at) c.number-2.ensures
    (not_err c.put_count-2.result _ (c.put_count-2.ensures.durable k1) (sym c.is_err-2.ensures.value ∙ c.if-is_err-2.false) at)
    (not_err c.put_count-2.result _ (c.put_count-2.ensures.count k1) (sym c.is_err-2.ensures.value ∙ c.if-is_err-2.false)) (c2 at) f now in
    let c3 = λ (at : Stop) (f : Folder) (now : g.F.Files.may_leave c.put_count-3.new.files at f). mate_stage c.args.lead (g.F.Files.seen c.args.files.now 17) c.in-Some.next c.in-Some.next c.args.count c.args.count c.in-Some.next c.number-3.result (g.F.Files.may_leave c.put_count-2.new.files at) (g.F.Files.may_leave c.put_count-3.new.files at) n3 (omega (arith, up)) (omega (arith, up)) (d2 at) ((c.put_count-3.ensures.time k2 at).ends) f now in
    let k3 = c.put_count-3.ensures.stays k2 in
    let s1 = both_by (other c.args.lead) c.number.result (g.F.Files.seen c.args.files.now) (g.F.Files.seen c.put_count.new.files) n1 (c.put_count.ensures.following known) in
    let s2 = both_by c.args.lead c.number-2.result (g.F.Files.seen c.put_count.new.files) (g.F.Files.seen c.put_count-2.new.files) c.number-2.ensures (c.put_count-2.ensures.following k1) in
    let s3 = both_by (other c.args.lead) c.number-3.result (g.F.Files.seen c.put_count-2.new.files) (g.F.Files.seen c.put_count-3.new.files) n3 (c.put_count-3.ensures.following k2) in
    let d3 = λ (at : Stop) (f : Folder) (now : g.F.Files.may_leave c.put_count-3.new.files at f). mate_made c.args.lead (g.F.Files.seen c.args.files.now 17) c.in-Some.next c.in-Some.next c.args.count c.in-Some.next c.number-3.result (g.F.Files.seen c.put_count-3.new.files) (g.F.Files.may_leave c.put_count-3.new.files at) n3
    (not_err c.put_count-3.result _ (c.put_count-3.ensures.durable k2) (sym c.is_err-3.ensures.value ∙ c.if-is_err-3.false) at)
    (not_err c.put_count-3.result _ (c.put_count-3.ensures.count k2) (sym c.is_err-3.ensures.value ∙ c.if-is_err-3.false)) (c3 at) f now in (
      (λ (at : Stop) (f : Folder) (now : g.F.Files.may_leave c.put_count-3.new.files at f). even_of c.args.lead (g.F.Files.seen c.args.files.now 17) c.in-Some.next f (d3 at f now)),
      alike_on _ _ (both_more _ _ _ (both_more _ _ _ s1 s2) s3) alike,
    )

pub returns-clause-time : goal.returns-clause-time
returns-clause-time g c = λ known settled alike is low stop.
    let n1 = c.number.ensures ∙ ap file_of c.other-mate.ensures in
    let c0 = λ (at : Stop) (f : Folder) (now : g.F.Files.may_leave c.args.files.now at f). settled_counted c.args.lead (g.F.Files.seen c.args.files.now) f c.args.count (settled at f now) alike is low in
    let c1 = λ (at : Stop) (f : Folder) (now : g.F.Files.may_leave c.put_count.new.files at f). mate_stage c.args.lead (g.F.Files.seen c.args.files.now 17) c.args.count c.args.count 0 c.args.count c.args.count c.number.result (g.F.Files.may_leave c.args.files.now at) (g.F.Files.may_leave c.put_count.new.files at) n1 (omega arith) (omega arith) (c0 at) ((c.put_count.ensures.time known at).ends) f now in
    let k1 = c.put_count.ensures.stays known in
    let up : c.in-Some.next ≡ c.args.count + 1 = omega (arith, c.in-Some.ensures) in
    let d1 = λ (at : Stop) (f : Folder) (now : g.F.Files.may_leave c.put_count.new.files at f). mate_made c.args.lead (g.F.Files.seen c.args.files.now 17) c.args.count c.args.count 0 c.args.count c.number.result (g.F.Files.seen c.put_count.new.files) (g.F.Files.may_leave c.put_count.new.files at) n1
    (not_err c.put_count.result _ (c.put_count.ensures.durable known) (sym c.is_err.ensures.value ∙ c.if-is_err.false) at)
    (not_err c.put_count.result _ (c.put_count.ensures.count known) (sym c.is_err.ensures.value ∙ c.if-is_err.false)) (c1 at) f now in
    let c2 = λ (at : Stop) (f : Folder) (now : g.F.Files.may_leave c.put_count-2.new.files at f). lead_stage c.args.lead (g.F.Files.seen c.args.files.now 17) c.args.count c.args.count c.args.count c.args.count c.in-Some.next c.number-2.result (g.F.Files.may_leave c.put_count.new.files at) (g.F.Files.may_leave c.put_count-2.new.files at) c.number-2.ensures (omega (arith, up)) (omega (arith, up)) (d1 at) ((c.put_count-2.ensures.time k1 at).ends) f now in
    let k2 = c.put_count-2.ensures.stays k1 in
    let n3 = c.number-3.ensures ∙ ap file_of c.other-mate.ensures in
    let d2 = λ (at : Stop) (f : Folder) (now : g.F.Files.may_leave c.put_count-2.new.files at f). lead_made c.args.lead (g.F.Files.seen c.args.files.now 17) c.args.count c.in-Some.next c.args.count c.args.count c.number-2.result (g.F.Files.seen c.put_count-2.new.files) (g.F.Files.may_leave c.put_count-2.new.files at) c.number-2.ensures
    (not_err c.put_count-2.result _ (c.put_count-2.ensures.durable k1) (sym c.is_err-2.ensures.value ∙ c.if-is_err-2.false) at)
    (not_err c.put_count-2.result _ (c.put_count-2.ensures.count k1) (sym c.is_err-2.ensures.value ∙ c.if-is_err-2.false)) (c2 at) f now in
    let c3 = λ (at : Stop) (f : Folder) (now : g.F.Files.may_leave c.put_count-3.new.files at f). mate_stage c.args.lead (g.F.Files.seen c.args.files.now 17) c.in-Some.next c.in-Some.next c.args.count c.args.count c.in-Some.next c.number-3.result (g.F.Files.may_leave c.put_count-2.new.files at) (g.F.Files.may_leave c.put_count-3.new.files at) n3 (omega (arith, up)) (omega (arith, up)) (d2 at) ((c.put_count-3.ensures.time k2 at).ends) f now in
    let k3 = c.put_count-3.ensures.stays k2 in
    let t1 = shown_elapses _ _ _ _ _ _ (λ h. shown (g.F.Files.may_leave c.args.files.now stop) h) (c.put_count.ensures.time known stop) (stage_shown c.args.lead (other c.args.lead) (g.F.Files.seen c.args.files.now 17) c.args.count c.args.count 0 c.args.count c.args.count c.number.result (g.F.Files.may_leave c.args.files.now stop) n1 (omega arith) (c0 stop)) in
    let t2 = both_elapse _ _ _ _ _ _ _ _ _ _ _ t1 (shown_elapses _ _ _ _ _ _ (λ h. shown (g.F.Files.may_leave c.put_count.new.files stop) h) (c.put_count-2.ensures.time k1 stop) (stage_shown c.args.lead c.args.lead (g.F.Files.seen c.args.files.now 17) c.args.count c.args.count c.args.count c.args.count c.in-Some.next c.number-2.result (g.F.Files.may_leave c.put_count.new.files stop) c.number-2.ensures (omega arith) (d1 stop))) (λ h d. d) (λ h there. t1.ends h there) in
    let t3 = both_elapse _ _ _ _ _ _ _ _ _ _ _ t2 (shown_elapses _ _ _ _ _ _ (λ h. shown (g.F.Files.may_leave c.put_count-2.new.files stop) h) (c.put_count-3.ensures.time k2 stop) (stage_shown c.args.lead (other c.args.lead) (g.F.Files.seen c.args.files.now 17) c.in-Some.next c.in-Some.next c.args.count c.args.count c.in-Some.next c.number-3.result (g.F.Files.may_leave c.put_count-2.new.files stop) n3 (omega (arith, up)) (d2 stop))) (λ h d. d) (λ h there. t2.ends h there) in
    t3

pub returns-then-is_err-clause-raised : goal.returns-then-is_err-clause-raised
returns-then-is_err-clause-raised g c = λ known is low. alone_raised c.args.lead (c.args.count + 3) (g.F.Files.seen c.args.files.now) c.go_alone.result c.go_alone.ensures.only c.go_alone.ensures.raised (omega (arith, is))

pub returns-then-is_err-2-clause-raised : goal.returns-then-is_err-2-clause-raised
returns-then-is_err-2-clause-raised g c = λ known is low. alone_raised c.other-mate.result (c.args.count + 3) (g.F.Files.seen c.args.files.now) c.go_alone-then-is_err-2.result c.go_alone-then-is_err-2.ensures.only c.go_alone-then-is_err-2.ensures.raised (subst (λ (t : Twin). count_in (g.F.Files.seen c.args.files.now (file_of t)) < c.args.count + 3) (sym c.other-mate.ensures) (omega (arith, low)))

pub returns-then-is_err-3-clause-raised : goal.returns-then-is_err-3-clause-raised
returns-then-is_err-3-clause-raised g c = λ known is low. alone_raised c.args.lead (c.in-Some.next + 3) (g.F.Files.seen c.args.files.now) c.go_alone-then-is_err-3.result c.go_alone-then-is_err-3.ensures.only c.go_alone-then-is_err-3.ensures.raised (omega (arith, is, c.in-Some.ensures))

pub returns-clause-raised : goal.returns-clause-raised
returns-clause-raised g c = λ known is low. both_raised c.args.lead c.args.count c.in-Some.next (g.F.Files.seen c.args.files.now) (omega (arith, c.in-Some.ensures)) is low
