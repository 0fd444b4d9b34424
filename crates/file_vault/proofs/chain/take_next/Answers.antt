use Rattle.std.proofs.Common.{◌≡◌, ◌+◌, ◌∙◌, Option, ap, subst, arith}
use Rattle.std.proofs.lemmas.Bool.{eq-eqb, ne_eqb}
use Rattle.vault.specs.Coding.{IsCode}
use Rattle.file_vault.specs.declared.record.Head.{Head}
use Rattle.file_vault.specs.Folders.{Folder, part}
use Rattle.file_vault.specs.Records.{body_at}
use Rattle.file_vault.specs.Recoveries.{IsHeadAt}
use Rattle.file_vault.proofs.Chained.{both_read, whole_by}
use Rattle.file_vault.proofs.chain.take_next.Goals as goal

pub returns-in_err-read_body-clause-read : goal.returns-in_err-read_body-clause-read
returns-in_err-read_body-clause-read g c = λ known.
    let first = c.read_head.ensures.read known in
    let now = first.keeps in
    both_read _ _ _ _ _ _ c.args.files.now c.read_head.new.files c.read_body.new.files first
    (record { keeps = c.read_body.ensures.stays now; same = c.read_body.ensures.seen now; time = c.read_body.ensures.time now; later = (c.read_body.ensures.cause now).later })

pub returns-then-nonzero-head-clause-read : goal.returns-then-nonzero-head-clause-read
returns-then-nonzero-head-clause-read g c = λ known.
    let first = c.read_head.ensures.read known in
    let now = first.keeps in
    both_read _ _ _ _ _ _ c.args.files.now c.read_head.new.files c.read_body.new.files first
    (record { keeps = c.read_body.ensures.stays now; same = c.read_body.ensures.seen now; time = c.read_body.ensures.time now; later = (c.read_body.ensures.cause now).later })

pub returns-in_err-decode_into-clause-read : goal.returns-in_err-decode_into-clause-read
returns-in_err-decode_into-clause-read g c = λ known.
    let first = c.read_head.ensures.read known in
    let now = first.keeps in
    both_read _ _ _ _ _ _ c.args.files.now c.read_head.new.files c.read_body.new.files first
    (record { keeps = c.read_body.ensures.stays now; same = c.read_body.ensures.seen now; time = c.read_body.ensures.time now; later = (c.read_body.ensures.cause now).later })

pub returns-in_err-push-clause-read : goal.returns-in_err-push-clause-read
returns-in_err-push-clause-read g c = λ known.
    let first = c.read_head.ensures.read known in
    let now = first.keeps in
    both_read _ _ _ _ _ _ c.args.files.now c.read_head.new.files c.read_body.new.files first
    (record { keeps = c.read_body.ensures.stays now; same = c.read_body.ensures.seen now; time = c.read_body.ensures.time now; later = (c.read_body.ensures.cause now).later })

pub returns-clause-read : goal.returns-clause-read
returns-clause-read g c = λ known.
    let first = c.read_head.ensures.read known in
    let now = first.keeps in
    both_read _ _ _ _ _ _ c.args.files.now c.read_head.new.files c.read_body.new.files first
    (record { keeps = c.read_body.ensures.stays now; same = c.read_body.ensures.seen now; time = c.read_body.ensures.time now; later = (c.read_body.ensures.cause now).later })

pub returns-clause-grows : goal.returns-clause-grows
returns-clause-grows g c = λ more. (omega (arith, c.in_ok-push.ensures.end), omega (arith, c.in_ok-push.ensures.end, c.if-head-gt-LIMIT.false))

pub returns-then-nonzero-head-clause-last : goal.returns-then-nonzero-head-clause-last
returns-then-nonzero-head-clause-last g c = λ known chain no.
    let first = c.read_head.ensures.read known in
    let f = g.F.Files.seen c.args.files.now 17 in
    let head = subst (λ (o : Option Head). IsHeadAt f c.args.chain.now.end o) c.in-Some.is (c.in_ok-head.ensures.head known) in
    let body : c.read_body.new.body.items ≡ body_at f c.args.chain.now.end =
    c.in_ok-read_body.ensures.bytes first.keeps ∙ ap (λ (h : Folder). part (h 17) (c.args.chain.now.end + 18) c.in-Some.head.length) first.same ∙ ap (λ n. part f (c.args.chain.now.end + 18) n) head.1 in
    let whole = whole_by f c.args.chain.now.end c.nonzero.result c.in-Some.head.nonzero c.deref.result.now head.0 (c.deref.ensures.value ∙ body) c.nonzero.ensures head.2 in
    (chain.0, record { lie = chain.1; last = whole ∙ ne_eqb _ _ c.if-nonzero-head.true; inside = omega (arith, c.requires) })

pub returns-clause-more : goal.returns-clause-more
returns-clause-more g c = λ known chain yes.
    let first = c.read_head.ensures.read known in
    let f = g.F.Files.seen c.args.files.now 17 in
    let head = subst (λ (o : Option Head). IsHeadAt f c.args.chain.now.end o) c.in-Some.is (c.in_ok-head.ensures.head known) in
    let body : c.read_body.new.body.items ≡ body_at f c.args.chain.now.end =
    c.in_ok-read_body.ensures.bytes first.keeps ∙ ap (λ (h : Folder). part (h 17) (c.args.chain.now.end + 18) c.in-Some.head.length) first.same ∙ ap (λ n. part f (c.args.chain.now.end + 18) n) head.1 in
    let whole = whole_by f c.args.chain.now.end c.nonzero.result c.in-Some.head.nonzero c.deref.result.now head.0 (c.deref.ensures.value ∙ body) c.nonzero.ensures head.2 in
    c.in_ok-push.ensures.more f chain (record {
      whole = whole ∙ eq-eqb _ _ c.if-nonzero-head.false;
      length_is = head.1;
      code = subst IsCode (c.deref-2.ensures.value ∙ body) c.in_ok-decode_into.ensures.code;
    })
