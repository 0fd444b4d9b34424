use Rattle.std.proofs.Common.{◌++◌, ◌∙◌, ap, sym, subst, take, append_assoc}
use Rattle.std.specs.Prelude.{slice_index_or}
use Rattle.std.proofs.lemmas.List.{take_more}
use Rattle.vault.specs.declared.batch.Entry.{Entry}
use Rattle.vault.specs.Coding.{entries_code, entry_code, AreSmall}
use Rattle.vault.proofs.Codes.{entries_more, small_more}
use Rattle.vault.proofs.batch.put_entries.Goals as goal

pub loop-entry-preserved : goal.loop-entry-preserved
loop-entry-preserved c =
    let es = c.args.entries.now in
    let k = c.loop-entry.entry-index in
    let none : Entry = record { place = record { drive = 0; address = 0 }; from = 0; to = 0 } in
    let e = slice_index_or es k none in
    let more = take_more es k none c.loop-entry-test.true in
    record {
      bytes = c.in_ok-put_entry.ensures.bytes
          ∙ ap (λ o. o ++ entry_code e) c.loop-entry.invariant.bytes
          ∙ append_assoc c.args.out.now.items (entries_code (take k es)) (entry_code e)
          ∙ ap (λ l. c.args.out.now.items ++ l) (sym (ap entries_code more ∙ entries_more (take k es) e));
      small = subst AreSmall (sym more) (small_more (take k es) e c.loop-entry.invariant.small c.in_ok-put_entry.ensures.small);
    }
