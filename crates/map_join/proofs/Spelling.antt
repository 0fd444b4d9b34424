-- The bytes of a record spell it.
use Rattle.std.proofs.Common.{◌≡◌, ℕ, ◌^◌, ◌<◌, [], ◌++◌, refl, sym, ap, ◌∙◌}
use Rattle.std.proofs.lemmas.List.{append-nil}
use Rattle.byteorder.specs.Endian.{big_bytes, big_number}
use Rattle.byteorder.specs.Numbers.{big_number-reads_back}
use Rattle.map_join.specs.declared.records.Record.{Record}
use Rattle.map_join.specs.Record.{Spells, record_bytes}

last : (x : ℕ) → x < 2 ^ 16 → x ≡ big_number 2 (big_bytes 2 x)
last x h = sym (ap (big_number 2) (sym (append-nil (big_bytes 2 x))) ∙ big_number-reads_back 2 x [] h)

pub spells : (r : Record) → r.block < 2 ^ 32 → r.version < 2 ^ 32 → r.hop < 2 ^ 16 → r.place < 2 ^ 16 → Spells (record_bytes r) r
spells r block version hop place =
    let tail = big_bytes 2 r.hop ++ big_bytes 2 r.place in
    record {
      length = refl;
      block = sym (big_number-reads_back 4 r.block (big_bytes 4 r.version ++ tail) block);
      version = sym (big_number-reads_back 4 r.version tail version);
      hop = sym (big_number-reads_back 2 r.hop (big_bytes 2 r.place) hop);
      place = last r.place place;
    }
