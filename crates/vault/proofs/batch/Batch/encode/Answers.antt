use Rattle.std.proofs.Common.{◌≡◌, ◌∙◌, ◌++◌, ◌<◌, ◌^◌, ap, subst, length, append_assoc, rules}
use Rattle.vault.specs.Coding.{word, entries_code, AreSmall, Encodes}
use Rattle.vault.proofs.Codes.{encodes, when_ok}
use Rattle.vault.proofs.batch.Batch.encode.Goals as goal

pub returns : goal.returns
returns c =
    let old = c.args.out.now.items in
    let es = c.self.inside.entries.items in
    let units = c.self.inside.units.items in
    let few : length es < 2 ^ 64 = search rules in
    let small : AreSmall es = subst AreSmall c.deref.ensures.value c.in_ok-put_entries.ensures.small in
    let count : c.put_number.new.out.items ≡ old ++ word (length es) = search rules in
    let table : c.put_entries.new.out.items ≡ (old ++ word (length es)) ++ entries_code es = c.in_ok-put_entries.ensures.bytes ∙ ap (λ o. o ++ entries_code c.deref.result.now) count ∙ ap (λ l. (old ++ word (length es)) ++ entries_code l) c.deref.ensures.value in
    when_ok _ _ c.extend_from_slice.result c.extend_from_slice.ensures.items
    (λ more. subst (λ ws. Encodes old c.extend_from_slice.new.self.items ws) c.self.view_is
    (encodes old c.extend_from_slice.new.self.items units es c.self.invariant small few
    (more ∙ ap (λ o. o ++ c.deref-2.result.now) table ∙ ap (λ u. ((old ++ word (length es)) ++ entries_code es) ++ u) c.deref-2.ensures.value
    ∙ append_assoc (old ++ word (length es)) (entries_code es) units ∙ append_assoc old (word (length es)) (entries_code es ++ units))))
