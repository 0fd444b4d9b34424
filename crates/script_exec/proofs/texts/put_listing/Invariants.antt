use Rattle.std.proofs.Common.{◌≡◌, ◌++◌, drop}
use Rattle.script_exec.specs.Prefix.{IsPrefix}
use Rattle.script_exec.specs.Text.{listing, records_text}
use Rattle.script_exec.proofs.texts.put_listing.Given as goal

-- the text so far and that of the records that are left are all
abbrev pub invariant-loop-record : goal.invariant-loop-record
invariant-loop-record l = record {
  reported : l.out.items ++ records_text (drop l.record-index l.records) ≡ l.fn.out.items ++ (l.fn.word ++ listing l.records);
  kept : IsPrefix l.fn.out.items l.out.items;
}
