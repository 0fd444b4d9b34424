use Rattle.std.proofs.Common.{◌∙◌, sym, ap}
use Rattle.std.specs.Prelude.{is_ok}
use Rattle.journaled_store.proofs.Batching.{when_ok}
use Rattle.journaled_store.proofs.Lasting.{on_ok_by}
use Rattle.vault_server.proofs.Begun.{served_from}
use Rattle.vault_server.proofs.session.serve_vault.Goals as goal

pub returns-in-Ok-clause-served : goal.returns-in-Ok-clause-served
returns-in-Ok-clause-served g c = λ known what long left.
    let e = c.in-Ok.ensures in
    let there = e.both known what long left in
    served_from _ _ _ _ _ _ _ _ what _ _ _ _ _ (λ sound. e.lasts known what long sound)
    (c.attend.ensures.served what (e.size ∙ sym long) there.0 there.1 c.args.groups c.args.drives (g.V.Vault.moment c.args.vault) (e.same known what long left))

pub returns-in-Ok-clause-missing : goal.returns-in-Ok-clause-missing
returns-in-Ok-clause-missing g c = λ known what long sound.
    let e = c.in-Ok.ensures in
    let there = e.both known what long sound.left in
    on_ok_by c.attend.result.marked (λ ok.
    let once = when_ok c.in-Ok.settled.marked (sym (ap (λ r. is_ok r) c.attend.ensures.marked) ∙ ok) (e.marks known what long sound) in record {
      marked = once.marked;
      is_known = once.is_known;
      later = once.later;
      before = once.before;
      since = served_from _ _ _ _ _ _ _ _ what _ _ _ _ _ (λ is. once.since)
          (c.attend.ensures.served what (e.size ∙ sym long) there.0 there.1 c.args.groups c.args.drives (g.V.Vault.moment once.marked) (e.same known what long sound.left));
    })
