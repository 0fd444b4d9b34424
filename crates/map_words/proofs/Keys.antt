-- Records and their keys.
use Rattle.std.proofs.Common.{◌≡◌, ℕ, ◌/◌, ◌^◌, ◌<◌, ◌≤◌, ◌≢◌, nat_lt, Bool, true, false, sym, refl, arith}
use Rattle.std.proofs.Math.Nat.{div-div-eq-div-mul}
use Rattle.std.proofs.lemmas.Bool.Decides.{nat_tests}
use mathlib.Core.Logic.{dite}
use native.Mathlib.Decide.{ℕ_discrete}
use Rattle.map_join.specs.declared.records.Record.{Record}
use Rattle.map_join.specs.Record.{IsRecord, key_of, record_of, record_at}
use Rattle.map_words.specs.TakeRule.{DecodesTo}
use Rattle.map_words.specs.Steps.{IsKeyOrNone}
use Rattle.map_words.specs.Answers.{key_or_zero}

-- two records of one block with one key are one
pub same_record : (p q : Record) → IsRecord p → IsRecord q → p.block ≡ q.block → key_of p ≡ key_of q → p ≡ q
same_record p q ip iq same keys =
    let pv = ip.version in let ph = ip.hop in let pp = ip.place in
    let qv = iq.version in let qh = iq.hop in let qp = iq.place in
    let versions : p.version ≡ q.version = omega arith in
    let hops : p.hop ≡ q.hop = omega arith in
    let places : p.place ≡ q.place = omega arith in
    λ i. record { block = same i; version = versions i; hop = hops i; place = places i }

-- a key that is a record's is at least 2^32
pub reported_key : (block key : ℕ) (r : Record) → DecodesTo block key r → 2 ^ 32 ≤ key
reported_key block key r reports = let e = reports.key in let w = reports.written in omega arith

-- the record made of a key has that key
key_back : (block key : ℕ) → key_of (record_of block key) ≡ key
key_back block key = let halves : key / 2 ^ 16 / 2 ^ 16 ≡ key / 2 ^ 32 = div-div-eq-div-mul key (2 ^ 16) (2 ^ 16) in omega arith

-- the key of what is made of a key is that key
pub key_reported : (block key : ℕ) → IsKeyOrNone key → key_or_zero (record_at block key) ≡ key
key_reported block key is = go (nat_lt key (2 ^ 32)) refl
  where
    go : (b : Bool) → nat_lt key (2 ^ 32) ≡ b → key_or_zero (record_at block key) ≡ key
    go true e = rw e (let low : key < 2 ^ 32 = grind (arith, nat_tests) in none_of low)
      where
        none_of : key < 2 ^ 32 → 0 ≡ key
        none_of low = dite (ℕ_discrete key 0)
            (λ (zero : key ≡ 0). sym zero)
            (λ (ne : key ≢ 0). let high : 2 ^ 32 ≤ key = is (omega arith) in absurd (omega arith))
    go false e = rw e (key_back block key)
