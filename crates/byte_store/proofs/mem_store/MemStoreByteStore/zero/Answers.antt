use Rattle.std.proofs.Common.{◌≡◌, length, replicate, true, refl, sym, ap, ◌∙◌}
use Rattle.std.proofs.lemmas.List.{take_at}
use Rattle.byte_store.specs.Flat.{written_over}
use Rattle.byte_store.proofs.mem_store.MemStoreByteStore.zero.Goals as goal

pub returns-clause-change : goal.returns-clause-change
returns-clause-change c = λ F same.
    let held = c.deref_mut.ensures.value ∙ sym same.0 in
    let long : length c.clear.new.held ≡ c.args.self.now.bytes.len = c.clear.auto.held ∙ (ap length c.deref_mut.ensures.value ∙ sym c.args.self.now.bytes.ok.0) in (
      record { bytes = _; unsynced = true },
      (refl, refl),
      record {
        bytes_are = take_at c.clear.new.held _ _ long ∙ (c.clear.ensures ∙ ap (λ xs. written_over xs c.args.offset (replicate c.args.length 0)) held);
        unsynced = refl;
      },
    )
