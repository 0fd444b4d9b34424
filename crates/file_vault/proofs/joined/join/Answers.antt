use Rattle.std.proofs.Common.{◌+◌, ◌≡◌, ◌≤◌, sym, ◌∙◌, ap, subst, arith}
use Rattle.vault.specs.declared.store.Stop.{Stop}
use Rattle.file_vault.specs.Folders.{Folder, HasFile}
use Rattle.file_vault.specs.declared.twin.Twin.TheVariants.{First, Second}
use Rattle.file_vault.specs.Twins.{IsRaised, count_in, shown, MergesTwins, seen_as, lead_of}
use Rattle.file_vault.proofs.Puts.{both_elapse}
use Rattle.file_vault.proofs.Shown.{shown_elapses}
use Rattle.file_vault.proofs.Copied.{some_at, alone_found, alone_may, both_are, only_both, newer_second, newer_first, alone_raised}
use Rattle.file_vault.proofs.joined.join.Goals as goal

pub returns-then-first-second-clause-held : goal.returns-then-first-second-clause-held
returns-then-first-second-clause-held g c = λ known older.
    let k1 = c.admit-first.ensures.stays known in
    let k2 = c.admit-second.ensures.stays k1 in
    let same1 = c.admit-first.ensures.seen known in
    let same2 = c.admit-second.ensures.seen k1 in
    let one = some_at c.admit-first.result c.in-Some-Some.first (λ n. n ≡ count_in (g.F.Files.seen c.args.files.now 17)) (c.admit-first.ensures.count known) c.in-Some-Some.is-0 in
    let one2 : c.in-Some-Some.first ≡ count_in (g.F.Files.seen c.admit-second.new.files 17) = one ∙ sym (ap (λ (f : Folder). count_in (f 17)) (same2 ∙ same1)) in
    let two = some_at c.admit-second.result c.in-Some-Some.second (λ n. n ≡ count_in (g.F.Files.seen c.admit-first.new.files 18)) (c.admit-second.ensures.count k1) c.in-Some-Some.is-1 in
    let two2 : c.in-Some-Some.second ≡ count_in (g.F.Files.seen c.admit-second.new.files 18) = two ∙ sym (ap (λ (f : Folder). count_in (f 18)) same2) in
    let first = some_at c.admit-first.result c.in-Some-Some.first (λ n. (stop : Stop) → HasFile 17 (g.F.Files.seen c.args.files.now) (g.F.Files.may_leave c.admit-first.new.files stop)) (c.admit-first.ensures.durable known) c.in-Some-Some.is-0 in
    let second = some_at c.admit-second.result c.in-Some-Some.second (λ n. (stop : Stop) → HasFile 18 (g.F.Files.seen c.admit-first.new.files) (g.F.Files.may_leave c.admit-second.new.files stop)) (c.admit-second.ensures.durable k1) c.in-Some-Some.is-1 in
    let settled = λ (at : Stop) (h : Folder) (now : g.F.Files.may_leave c.admit-second.new.files at h).
    both_are (g.F.Files.seen c.admit-second.new.files) h (first at h ((c.admit-second.ensures.time k1 at).ends h now) ∙ sym (ap (λ (f : Folder). f 17) (same2 ∙ same1))) (second at h now ∙ sym (ap (λ (f : Folder). f 18) same2)) in
    let low : c.in-Some-Some.first ≤ c.in-Some-Some.second = omega (arith, c.if-first-second.true) in
    c.pair.ensures.held k2 settled two2 one2 low

pub returns-then-first-second-clause-seen : goal.returns-then-first-second-clause-seen
returns-then-first-second-clause-seen g c = λ known kept.
    let k1 = c.admit-first.ensures.stays known in
    let k2 = c.admit-second.ensures.stays k1 in
    let same1 = c.admit-first.ensures.seen known in
    let same2 = c.admit-second.ensures.seen k1 in
    let one = some_at c.admit-first.result c.in-Some-Some.first (λ n. n ≡ count_in (g.F.Files.seen c.args.files.now 17)) (c.admit-first.ensures.count known) c.in-Some-Some.is-0 in
    let one2 : c.in-Some-Some.first ≡ count_in (g.F.Files.seen c.admit-second.new.files 17) = one ∙ sym (ap (λ (f : Folder). count_in (f 17)) (same2 ∙ same1)) in
    let two = some_at c.admit-second.result c.in-Some-Some.second (λ n. n ≡ count_in (g.F.Files.seen c.admit-first.new.files 18)) (c.admit-second.ensures.count k1) c.in-Some-Some.is-1 in
    let two2 : c.in-Some-Some.second ≡ count_in (g.F.Files.seen c.admit-second.new.files 18) = two ∙ sym (ap (λ (f : Folder). count_in (f 18)) same2) in
    let low : c.in-Some-Some.first ≤ c.in-Some-Some.second = omega (arith, c.if-first-second.true) in
    subst (λ (f : Folder). MergesTwins f (seen_as (lead_of c.pair.result) (g.F.Files.seen c.pair.new.files))) (same2 ∙ same1) (c.pair.ensures.seen k2 two2 one2 low kept)

pub returns-then-first-second-clause-time : goal.returns-then-first-second-clause-time
returns-then-first-second-clause-time g c = λ known older stop.
    let k1 = c.admit-first.ensures.stays known in
    let k2 = c.admit-second.ensures.stays k1 in
    let same1 = c.admit-first.ensures.seen known in
    let same2 = c.admit-second.ensures.seen k1 in
    let one = some_at c.admit-first.result c.in-Some-Some.first (λ n. n ≡ count_in (g.F.Files.seen c.args.files.now 17)) (c.admit-first.ensures.count known) c.in-Some-Some.is-0 in
    let one2 : c.in-Some-Some.first ≡ count_in (g.F.Files.seen c.admit-second.new.files 17) = one ∙ sym (ap (λ (f : Folder). count_in (f 17)) (same2 ∙ same1)) in
    let two = some_at c.admit-second.result c.in-Some-Some.second (λ n. n ≡ count_in (g.F.Files.seen c.admit-first.new.files 18)) (c.admit-second.ensures.count k1) c.in-Some-Some.is-1 in
    let two2 : c.in-Some-Some.second ≡ count_in (g.F.Files.seen c.admit-second.new.files 18) = two ∙ sym (ap (λ (f : Folder). count_in (f 18)) same2) in
    let first = some_at c.admit-first.result c.in-Some-Some.first (λ n. (stop : Stop) → HasFile 17 (g.F.Files.seen c.args.files.now) (g.F.Files.may_leave c.admit-first.new.files stop)) (c.admit-first.ensures.durable known) c.in-Some-Some.is-0 in
    let second = some_at c.admit-second.result c.in-Some-Some.second (λ n. (stop : Stop) → HasFile 18 (g.F.Files.seen c.admit-first.new.files) (g.F.Files.may_leave c.admit-second.new.files stop)) (c.admit-second.ensures.durable k1) c.in-Some-Some.is-1 in
    let settled = λ (at : Stop) (h : Folder) (now : g.F.Files.may_leave c.admit-second.new.files at h).
    both_are (g.F.Files.seen c.admit-second.new.files) h (first at h ((c.admit-second.ensures.time k1 at).ends h now) ∙ sym (ap (λ (f : Folder). f 17) (same2 ∙ same1))) (second at h now ∙ sym (ap (λ (f : Folder). f 18) same2)) in
    let low : c.in-Some-Some.first ≤ c.in-Some-Some.second = omega (arith, c.if-first-second.true) in
    let raw = both_elapse _ _ _ _ _ _ _ _ _ _ _ (c.admit-first.ensures.time known stop) (c.admit-second.ensures.time k1 stop) (λ h d. d) (λ h there. (c.admit-first.ensures.time known stop).ends h there) in
    let so_far = shown_elapses _ _ _ _ _ _ (λ h. shown (g.F.Files.may_leave c.args.files.now stop) h) raw (λ h d. d) in
    both_elapse _ _ _ _ _ _ _ _ _ _ _ so_far (c.pair.ensures.time k2 settled two2 one2 low stop) (λ h d. d) (λ h there. so_far.ends h there)

pub returns-else-first-second-clause-held : goal.returns-else-first-second-clause-held
returns-else-first-second-clause-held g c = λ known older.
    let k1 = c.admit-first.ensures.stays known in
    let k2 = c.admit-second.ensures.stays k1 in
    let same1 = c.admit-first.ensures.seen known in
    let same2 = c.admit-second.ensures.seen k1 in
    let one = some_at c.admit-first.result c.in-Some-Some.first (λ n. n ≡ count_in (g.F.Files.seen c.args.files.now 17)) (c.admit-first.ensures.count known) c.in-Some-Some.is-0 in
    let one2 : c.in-Some-Some.first ≡ count_in (g.F.Files.seen c.admit-second.new.files 17) = one ∙ sym (ap (λ (f : Folder). count_in (f 17)) (same2 ∙ same1)) in
    let two = some_at c.admit-second.result c.in-Some-Some.second (λ n. n ≡ count_in (g.F.Files.seen c.admit-first.new.files 18)) (c.admit-second.ensures.count k1) c.in-Some-Some.is-1 in
    let two2 : c.in-Some-Some.second ≡ count_in (g.F.Files.seen c.admit-second.new.files 18) = two ∙ sym (ap (λ (f : Folder). count_in (f 18)) same2) in
    let first = some_at c.admit-first.result c.in-Some-Some.first (λ n. (stop : Stop) → HasFile 17 (g.F.Files.seen c.args.files.now) (g.F.Files.may_leave c.admit-first.new.files stop)) (c.admit-first.ensures.durable known) c.in-Some-Some.is-0 in
    let second = some_at c.admit-second.result c.in-Some-Some.second (λ n. (stop : Stop) → HasFile 18 (g.F.Files.seen c.admit-first.new.files) (g.F.Files.may_leave c.admit-second.new.files stop)) (c.admit-second.ensures.durable k1) c.in-Some-Some.is-1 in
    let settled = λ (at : Stop) (h : Folder) (now : g.F.Files.may_leave c.admit-second.new.files at h).
    both_are (g.F.Files.seen c.admit-second.new.files) h (first at h ((c.admit-second.ensures.time k1 at).ends h now) ∙ sym (ap (λ (f : Folder). f 17) (same2 ∙ same1))) (second at h now ∙ sym (ap (λ (f : Folder). f 18) same2)) in
    let low : c.in-Some-Some.second ≤ c.in-Some-Some.first = omega (arith, c.if-first-second.false) in
    c.pair-else-first-second.ensures.held k2 settled one2 two2 low

pub returns-else-first-second-clause-seen : goal.returns-else-first-second-clause-seen
returns-else-first-second-clause-seen g c = λ known kept.
    let k1 = c.admit-first.ensures.stays known in
    let k2 = c.admit-second.ensures.stays k1 in
    let same1 = c.admit-first.ensures.seen known in
    let same2 = c.admit-second.ensures.seen k1 in
    let one = some_at c.admit-first.result c.in-Some-Some.first (λ n. n ≡ count_in (g.F.Files.seen c.args.files.now 17)) (c.admit-first.ensures.count known) c.in-Some-Some.is-0 in
    let one2 : c.in-Some-Some.first ≡ count_in (g.F.Files.seen c.admit-second.new.files 17) = one ∙ sym (ap (λ (f : Folder). count_in (f 17)) (same2 ∙ same1)) in
    let two = some_at c.admit-second.result c.in-Some-Some.second (λ n. n ≡ count_in (g.F.Files.seen c.admit-first.new.files 18)) (c.admit-second.ensures.count k1) c.in-Some-Some.is-1 in
    let two2 : c.in-Some-Some.second ≡ count_in (g.F.Files.seen c.admit-second.new.files 18) = two ∙ sym (ap (λ (f : Folder). count_in (f 18)) same2) in
    let low : c.in-Some-Some.second ≤ c.in-Some-Some.first = omega (arith, c.if-first-second.false) in
    subst (λ (f : Folder). MergesTwins f (seen_as (lead_of c.pair-else-first-second.result) (g.F.Files.seen c.pair-else-first-second.new.files))) (same2 ∙ same1) (c.pair-else-first-second.ensures.seen k2 one2 two2 low kept)

pub returns-else-first-second-clause-time : goal.returns-else-first-second-clause-time
returns-else-first-second-clause-time g c = λ known older stop.
    let k1 = c.admit-first.ensures.stays known in
    let k2 = c.admit-second.ensures.stays k1 in
    let same1 = c.admit-first.ensures.seen known in
    let same2 = c.admit-second.ensures.seen k1 in
    let one = some_at c.admit-first.result c.in-Some-Some.first (λ n. n ≡ count_in (g.F.Files.seen c.args.files.now 17)) (c.admit-first.ensures.count known) c.in-Some-Some.is-0 in
    let one2 : c.in-Some-Some.first ≡ count_in (g.F.Files.seen c.admit-second.new.files 17) = one ∙ sym (ap (λ (f : Folder). count_in (f 17)) (same2 ∙ same1)) in
    let two = some_at c.admit-second.result c.in-Some-Some.second (λ n. n ≡ count_in (g.F.Files.seen c.admit-first.new.files 18)) (c.admit-second.ensures.count k1) c.in-Some-Some.is-1 in
    let two2 : c.in-Some-Some.second ≡ count_in (g.F.Files.seen c.admit-second.new.files 18) = two ∙ sym (ap (λ (f : Folder). count_in (f 18)) same2) in
    let first = some_at c.admit-first.result c.in-Some-Some.first (λ n. (stop : Stop) → HasFile 17 (g.F.Files.seen c.args.files.now) (g.F.Files.may_leave c.admit-first.new.files stop)) (c.admit-first.ensures.durable known) c.in-Some-Some.is-0 in
    let second = some_at c.admit-second.result c.in-Some-Some.second (λ n. (stop : Stop) → HasFile 18 (g.F.Files.seen c.admit-first.new.files) (g.F.Files.may_leave c.admit-second.new.files stop)) (c.admit-second.ensures.durable k1) c.in-Some-Some.is-1 in
    let settled = λ (at : Stop) (h : Folder) (now : g.F.Files.may_leave c.admit-second.new.files at h).
    both_are (g.F.Files.seen c.admit-second.new.files) h (first at h ((c.admit-second.ensures.time k1 at).ends h now) ∙ sym (ap (λ (f : Folder). f 17) (same2 ∙ same1))) (second at h now ∙ sym (ap (λ (f : Folder). f 18) same2)) in
    let low : c.in-Some-Some.second ≤ c.in-Some-Some.first = omega (arith, c.if-first-second.false) in
    let raw = both_elapse _ _ _ _ _ _ _ _ _ _ _ (c.admit-first.ensures.time known stop) (c.admit-second.ensures.time k1 stop) (λ h d. d) (λ h there. (c.admit-first.ensures.time known stop).ends h there) in
    let so_far = shown_elapses _ _ _ _ _ _ (λ h. shown (g.F.Files.may_leave c.args.files.now stop) h) raw (λ h d. d) in
    both_elapse _ _ _ _ _ _ _ _ _ _ _ so_far (c.pair-else-first-second.ensures.time k2 settled one2 two2 low stop) (λ h d. d) (λ h there. so_far.ends h there)

pub returns-in-Some-None-clause-held : goal.returns-in-Some-None-clause-held
returns-in-Some-None-clause-held g c = λ known older.
    let k1 = c.admit-first.ensures.stays known in
    let k2 = c.admit-second.ensures.stays k1 in
    let same1 = c.admit-first.ensures.seen known in
    let same2 = c.admit-second.ensures.seen k1 in
    let one = some_at c.admit-first.result c.in-Some-None.first (λ n. n ≡ count_in (g.F.Files.seen c.args.files.now 17)) (c.admit-first.ensures.count known) c.in-Some-None.is-0 in
    let one2 : c.in-Some-None.first ≡ count_in (g.F.Files.seen c.admit-second.new.files 17) = one ∙ sym (ap (λ (f : Folder). count_in (f 17)) (same2 ∙ same1)) in
    let first = some_at c.admit-first.result c.in-Some-None.first (λ n. (stop : Stop) → HasFile 17 (g.F.Files.seen c.args.files.now) (g.F.Files.may_leave c.admit-first.new.files stop)) (c.admit-first.ensures.durable known) c.in-Some-None.is-0 in
    c.go_alone.ensures.held k2 (λ (at : Stop) (h : Folder) (now : g.F.Files.may_leave c.admit-second.new.files at h). (let was = (c.admit-second.ensures.time k1 at).ends h now in alone_may First (g.F.Files.seen c.args.files.now) h c.in-Some-None.first (first at h was) one (older at h ((c.admit-first.ensures.time known at).ends h was))))

pub returns-in-Some-None-clause-seen : goal.returns-in-Some-None-clause-seen
returns-in-Some-None-clause-seen g c = λ known kept.
    let k1 = c.admit-first.ensures.stays known in
    let k2 = c.admit-second.ensures.stays k1 in
    let same1 = c.admit-first.ensures.seen known in
    let same2 = c.admit-second.ensures.seen k1 in
    alone_found First (g.F.Files.seen c.args.files.now) (g.F.Files.seen c.admit-second.new.files) (g.F.Files.seen c.go_alone.new.files) c.go_alone.result (same2 ∙ same1) c.go_alone.ensures.only kept (c.go_alone.ensures.following k2)

pub returns-in-Some-None-clause-time : goal.returns-in-Some-None-clause-time
returns-in-Some-None-clause-time g c = λ known older stop.
    let k1 = c.admit-first.ensures.stays known in
    let k2 = c.admit-second.ensures.stays k1 in
    let same1 = c.admit-first.ensures.seen known in
    let same2 = c.admit-second.ensures.seen k1 in
    let one = some_at c.admit-first.result c.in-Some-None.first (λ n. n ≡ count_in (g.F.Files.seen c.args.files.now 17)) (c.admit-first.ensures.count known) c.in-Some-None.is-0 in
    let one2 : c.in-Some-None.first ≡ count_in (g.F.Files.seen c.admit-second.new.files 17) = one ∙ sym (ap (λ (f : Folder). count_in (f 17)) (same2 ∙ same1)) in
    let first = some_at c.admit-first.result c.in-Some-None.first (λ n. (stop : Stop) → HasFile 17 (g.F.Files.seen c.args.files.now) (g.F.Files.may_leave c.admit-first.new.files stop)) (c.admit-first.ensures.durable known) c.in-Some-None.is-0 in
    let raw = both_elapse _ _ _ _ _ _ _ _ _ _ _ (c.admit-first.ensures.time known stop) (c.admit-second.ensures.time k1 stop) (λ h d. d) (λ h there. (c.admit-first.ensures.time known stop).ends h there) in
    let so_far = shown_elapses _ _ _ _ _ _ (λ h. shown (g.F.Files.may_leave c.args.files.now stop) h) raw (λ h d. d) in
    both_elapse _ _ _ _ _ _ _ _ _ _ _ so_far (c.go_alone.ensures.time k2 (λ (at : Stop) (h : Folder) (now : g.F.Files.may_leave c.admit-second.new.files at h). (let was = (c.admit-second.ensures.time k1 at).ends h now in alone_may First (g.F.Files.seen c.args.files.now) h c.in-Some-None.first (first at h was) one (older at h ((c.admit-first.ensures.time known at).ends h was)))) stop) (λ h d. d) (λ h there. so_far.ends h there)

pub returns-in-None-Some-clause-held : goal.returns-in-None-Some-clause-held
returns-in-None-Some-clause-held g c = λ known older.
    let k1 = c.admit-first.ensures.stays known in
    let k2 = c.admit-second.ensures.stays k1 in
    let same1 = c.admit-first.ensures.seen known in
    let same2 = c.admit-second.ensures.seen k1 in
    let two = some_at c.admit-second.result c.in-None-Some.second (λ n. n ≡ count_in (g.F.Files.seen c.admit-first.new.files 18)) (c.admit-second.ensures.count k1) c.in-None-Some.is-1 in
    let two2 : c.in-None-Some.second ≡ count_in (g.F.Files.seen c.admit-second.new.files 18) = two ∙ sym (ap (λ (f : Folder). count_in (f 18)) same2) in
    let second = some_at c.admit-second.result c.in-None-Some.second (λ n. (stop : Stop) → HasFile 18 (g.F.Files.seen c.admit-first.new.files) (g.F.Files.may_leave c.admit-second.new.files stop)) (c.admit-second.ensures.durable k1) c.in-None-Some.is-1 in
    c.go_alone-in-None-Some.ensures.held k2 (λ (at : Stop) (h : Folder) (now : g.F.Files.may_leave c.admit-second.new.files at h). (let was = (c.admit-second.ensures.time k1 at).ends h now in alone_may Second (g.F.Files.seen c.admit-first.new.files) h c.in-None-Some.second (second at h now) two (older at h ((c.admit-first.ensures.time known at).ends h was))))

pub returns-in-None-Some-clause-seen : goal.returns-in-None-Some-clause-seen
returns-in-None-Some-clause-seen g c = λ known kept.
    let k1 = c.admit-first.ensures.stays known in
    let k2 = c.admit-second.ensures.stays k1 in
    let same1 = c.admit-first.ensures.seen known in
    let same2 = c.admit-second.ensures.seen k1 in
    alone_found Second (g.F.Files.seen c.args.files.now) (g.F.Files.seen c.admit-second.new.files) (g.F.Files.seen c.go_alone-in-None-Some.new.files) c.go_alone-in-None-Some.result (same2 ∙ same1) c.go_alone-in-None-Some.ensures.only kept (c.go_alone-in-None-Some.ensures.following k2)

pub returns-in-None-Some-clause-time : goal.returns-in-None-Some-clause-time
returns-in-None-Some-clause-time g c = λ known older stop.
    let k1 = c.admit-first.ensures.stays known in
    let k2 = c.admit-second.ensures.stays k1 in
    let same1 = c.admit-first.ensures.seen known in
    let same2 = c.admit-second.ensures.seen k1 in
    let two = some_at c.admit-second.result c.in-None-Some.second (λ n. n ≡ count_in (g.F.Files.seen c.admit-first.new.files 18)) (c.admit-second.ensures.count k1) c.in-None-Some.is-1 in
    let two2 : c.in-None-Some.second ≡ count_in (g.F.Files.seen c.admit-second.new.files 18) = two ∙ sym (ap (λ (f : Folder). count_in (f 18)) same2) in
    let second = some_at c.admit-second.result c.in-None-Some.second (λ n. (stop : Stop) → HasFile 18 (g.F.Files.seen c.admit-first.new.files) (g.F.Files.may_leave c.admit-second.new.files stop)) (c.admit-second.ensures.durable k1) c.in-None-Some.is-1 in
    let raw = both_elapse _ _ _ _ _ _ _ _ _ _ _ (c.admit-first.ensures.time known stop) (c.admit-second.ensures.time k1 stop) (λ h d. d) (λ h there. (c.admit-first.ensures.time known stop).ends h there) in
    let so_far = shown_elapses _ _ _ _ _ _ (λ h. shown (g.F.Files.may_leave c.args.files.now stop) h) raw (λ h d. d) in
    both_elapse _ _ _ _ _ _ _ _ _ _ _ so_far (c.go_alone-in-None-Some.ensures.time k2 (λ (at : Stop) (h : Folder) (now : g.F.Files.may_leave c.admit-second.new.files at h). (let was = (c.admit-second.ensures.time k1 at).ends h now in alone_may Second (g.F.Files.seen c.admit-first.new.files) h c.in-None-Some.second (second at h now) two (older at h ((c.admit-first.ensures.time known at).ends h was)))) stop) (λ h d. d) (λ h there. so_far.ends h there)

pub returns-in-None-None-clause-time : goal.returns-in-None-None-clause-time
returns-in-None-None-clause-time g c = λ known older stop.
    let k1 = c.admit-first.ensures.stays known in
    let raw = both_elapse _ _ _ _ _ _ _ _ _ _ _ (c.admit-first.ensures.time known stop) (c.admit-second.ensures.time k1 stop) (λ h d. d) (λ h there. (c.admit-first.ensures.time known stop).ends h there) in
    let so_far = shown_elapses _ _ _ _ _ _ (λ h. shown (g.F.Files.may_leave c.args.files.now stop) h) raw (λ h d. d) in
    so_far

pub returns-then-first-second-clause-newest : goal.returns-then-first-second-clause-newest
returns-then-first-second-clause-newest g c = λ known both.
    let k1 = c.admit-first.ensures.stays known in
    let k2 = c.admit-second.ensures.stays k1 in
    let same1 = c.admit-first.ensures.seen known in
    let same2 = c.admit-second.ensures.seen k1 in
    let one = some_at c.admit-first.result c.in-Some-Some.first (λ n. n ≡ count_in (g.F.Files.seen c.args.files.now 17)) (c.admit-first.ensures.count known) c.in-Some-Some.is-0 in
    let two = some_at c.admit-second.result c.in-Some-Some.second (λ n. n ≡ count_in (g.F.Files.seen c.admit-first.new.files 18)) (c.admit-second.ensures.count k1) c.in-Some-Some.is-1 in
    c.pair.ensures.newest k2 both ∙ ap (λ (f : Folder). seen_as Second f) (same2 ∙ same1)
    ∙ sym (ap (λ t. seen_as t (g.F.Files.seen c.args.files.now)) (newer_second (g.F.Files.seen c.args.files.now) c.in-Some-Some.first c.in-Some-Some.second one (two ∙ ap (λ (f : Folder). count_in (f 18)) same1) (omega arith)))

pub returns-else-first-second-clause-newest : goal.returns-else-first-second-clause-newest
returns-else-first-second-clause-newest g c = λ known both.
    let k1 = c.admit-first.ensures.stays known in
    let k2 = c.admit-second.ensures.stays k1 in
    let same1 = c.admit-first.ensures.seen known in
    let same2 = c.admit-second.ensures.seen k1 in
    let one = some_at c.admit-first.result c.in-Some-Some.first (λ n. n ≡ count_in (g.F.Files.seen c.args.files.now 17)) (c.admit-first.ensures.count known) c.in-Some-Some.is-0 in
    let two = some_at c.admit-second.result c.in-Some-Some.second (λ n. n ≡ count_in (g.F.Files.seen c.admit-first.new.files 18)) (c.admit-second.ensures.count k1) c.in-Some-Some.is-1 in
    c.pair-else-first-second.ensures.newest k2 both ∙ ap (λ (f : Folder). seen_as First f) (same2 ∙ same1)
    ∙ sym (ap (λ t. seen_as t (g.F.Files.seen c.args.files.now)) (newer_first (g.F.Files.seen c.args.files.now) c.in-Some-Some.first c.in-Some-Some.second one (two ∙ ap (λ (f : Folder). count_in (f 18)) same1) (omega arith)))

pub returns-in-Some-None-clause-newest : goal.returns-in-Some-None-clause-newest
returns-in-Some-None-clause-newest g c = λ known both. only_both First c.go_alone.result c.go_alone.ensures.only both

pub returns-in-None-Some-clause-newest : goal.returns-in-None-Some-clause-newest
returns-in-None-Some-clause-newest g c = λ known both. only_both Second c.go_alone-in-None-Some.result c.go_alone-in-None-Some.ensures.only both

pub returns-then-first-second-clause-raised : goal.returns-then-first-second-clause-raised
returns-then-first-second-clause-raised g c = λ known.
    let k1 = c.admit-first.ensures.stays known in
    let k2 = c.admit-second.ensures.stays k1 in
    let same1 = c.admit-first.ensures.seen known in
    let same2 = c.admit-second.ensures.seen k1 in
    let one = some_at c.admit-first.result c.in-Some-Some.first (λ n. n ≡ count_in (g.F.Files.seen c.args.files.now 17)) (c.admit-first.ensures.count known) c.in-Some-Some.is-0 in
    let one2 : c.in-Some-Some.first ≡ count_in (g.F.Files.seen c.admit-second.new.files 17) = one ∙ sym (ap (λ (f : Folder). count_in (f 17)) (same2 ∙ same1)) in
    let two = some_at c.admit-second.result c.in-Some-Some.second (λ n. n ≡ count_in (g.F.Files.seen c.admit-first.new.files 18)) (c.admit-second.ensures.count k1) c.in-Some-Some.is-1 in
    let two2 : c.in-Some-Some.second ≡ count_in (g.F.Files.seen c.admit-second.new.files 18) = two ∙ sym (ap (λ (f : Folder). count_in (f 18)) same2) in
    subst (λ (f : Folder). IsRaised f c.pair.result) (same2 ∙ same1) (c.pair.ensures.raised k2 two2 one2 (omega (arith, c.if-first-second.true)))

pub returns-else-first-second-clause-raised : goal.returns-else-first-second-clause-raised
returns-else-first-second-clause-raised g c = λ known.
    let k1 = c.admit-first.ensures.stays known in
    let k2 = c.admit-second.ensures.stays k1 in
    let same1 = c.admit-first.ensures.seen known in
    let same2 = c.admit-second.ensures.seen k1 in
    let one = some_at c.admit-first.result c.in-Some-Some.first (λ n. n ≡ count_in (g.F.Files.seen c.args.files.now 17)) (c.admit-first.ensures.count known) c.in-Some-Some.is-0 in
    let one2 : c.in-Some-Some.first ≡ count_in (g.F.Files.seen c.admit-second.new.files 17) = one ∙ sym (ap (λ (f : Folder). count_in (f 17)) (same2 ∙ same1)) in
    let two = some_at c.admit-second.result c.in-Some-Some.second (λ n. n ≡ count_in (g.F.Files.seen c.admit-first.new.files 18)) (c.admit-second.ensures.count k1) c.in-Some-Some.is-1 in
    let two2 : c.in-Some-Some.second ≡ count_in (g.F.Files.seen c.admit-second.new.files 18) = two ∙ sym (ap (λ (f : Folder). count_in (f 18)) same2) in
    subst (λ (f : Folder). IsRaised f c.pair-else-first-second.result) (same2 ∙ same1) (c.pair-else-first-second.ensures.raised k2 one2 two2 (omega (arith, c.if-first-second.false)))

pub returns-in-Some-None-clause-raised : goal.returns-in-Some-None-clause-raised
returns-in-Some-None-clause-raised g c = λ known.
    let k1 = c.admit-first.ensures.stays known in
    let k2 = c.admit-second.ensures.stays k1 in
    let same1 = c.admit-first.ensures.seen known in
    let same2 = c.admit-second.ensures.seen k1 in
    let is = some_at c.admit-first.result c.in-Some-None.first (λ n. n ≡ count_in (g.F.Files.seen c.args.files.now 17)) (c.admit-first.ensures.count known) c.in-Some-None.is-0 in
    alone_raised First (c.in-Some-None.first + 3) (g.F.Files.seen c.args.files.now) c.go_alone.result c.go_alone.ensures.only c.go_alone.ensures.raised (omega (arith, is))

pub returns-in-None-Some-clause-raised : goal.returns-in-None-Some-clause-raised
returns-in-None-Some-clause-raised g c = λ known.
    let k1 = c.admit-first.ensures.stays known in
    let k2 = c.admit-second.ensures.stays k1 in
    let same1 = c.admit-first.ensures.seen known in
    let same2 = c.admit-second.ensures.seen k1 in
    let is = some_at c.admit-second.result c.in-None-Some.second (λ n. n ≡ count_in (g.F.Files.seen c.admit-first.new.files 18)) (c.admit-second.ensures.count k1) c.in-None-Some.is-1 ∙ ap (λ (f : Folder). count_in (f 18)) same1 in
    alone_raised Second (c.in-None-Some.second + 3) (g.F.Files.seen c.args.files.now) c.go_alone-in-None-Some.result c.go_alone-in-None-Some.ensures.only c.go_alone-in-None-Some.ensures.raised (omega (arith, is))
