-- A state whose log is shortened to its newest records keeps what is true of every state.
use Rattle.std.proofs.Common.{◌≡◌, ℕ, ◌^◌, ◌<◌, ◌≤◌, List, Contains, sym, ap, ◌∙◌, subst, arith}
use Rattle.map_join.specs.declared.records.Record.{Record}
use Rattle.map_join.specs.Record.{key_of, record_of}
use Rattle.map_join.specs.Maps.{IsListOf}
use Rattle.flat_machine.specs.Flat.{Flat}
use Rattle.flat_machine.specs.History.{IsHistory}
use Rattle.flat_machine.proofs.Newest.{reported_again, reported_key}
use Rattle.flat_machine.proofs.Restarts.{history_reports, restarted_history}

-- a record of the list is one of the log
was_emitted : (F : Flat) (keys : ℕ → ℕ) (records : List Record) → IsHistory F keys → IsListOf keys records → (r : Record) → Contains records r → Contains F.emitted r
was_emitted F keys records is list r has =
    let reported = reported_key r.block (keys r.block) r ((list.each r).0 has) in
    let there : 0 < keys r.block = let big = reported.0 in omega arith in
    let q = is.map.reported r.block there in
    let same : q.0 ≡ r = sym (reported_again q.0 (is.records q.0 q.1)) ∙ ap (λ b. record_of b (key_of q.0)) q.2 ∙ ap (record_of r.block) q.3 ∙ reported.1 in
    subst (Contains F.emitted) same q.1

pub shortened_history : (F : Flat) (keys : ℕ → ℕ) (records : List Record) → IsHistory F keys → IsListOf keys records → IsHistory (record F { emitted = records }) keys
shortened_history F keys records is list =
    let begun = restarted_history F keys records is.limits.sizes is.limits.least is.limits.most is.groups (history_reports F keys is) list in
    record {
      limits = begun.limits;
      groups = is.groups;
      records = begun.records;
      blocks = begun.blocks;
      chain = begun.chain;
      map = begun.map;
      writes = is.writes;
      versions = is.versions;
      holders = is.holders;
      units = λ s. let u = is.units s in record {
        there = u.there;
        sized = u.sized;
        header = u.header;
        content = λ v r w at reported has wrote of. u.content v r w at reported (was_emitted F keys records is list r has) wrote of;
        blank = u.blank;
        rests = u.rests;
      };
      written = λ b. (
        (is.written b).0,
        λ some. let w = (is.written b).1 some in (w.0, w.1, record { version = w.2.version; unit = w.2.unit; place = w.2.place }),
      );
    }
