use Rattle.std.proofs.Common.{◌≡◌, ◌⊎◌, ℕ, true, Option, Result, Ok, Err, refl, sym, ap, ◌∙◌, inl, inr}
use Rattle.std.specs.Prelude.{IfOk, OnOk}
use Rattle.nbd_wire.specs.declared.reply.Errno.{Errno}
use Rattle.nbd_wire.specs.declared.request.Request.{Request}
use Rattle.nbd_wire.specs.declared.request.Command.{Command}
use Rattle.nbd_wire.specs.declared.request.Command.TheVariants as command
use Rattle.nbd_serve.specs.Refusals.{refusal_of}
use Rattle.nbd_serve.specs.declared.calls.Short.{Short}
use Rattle.nbd_serve.specs.Stopping.{is_change, secures, store_type}
use Rattle.nbd_serve.proofs.Stopping.{flush_leaves, untouched}
use Rattle.nbd_serve.proofs.Saying.{change_says, flush_says, quiet_says, refusal_says}
use Rattle.nbd_serve.proofs.Outcomes.{cache_answered, flush_answered, leaving_refused, other_refused, read_answered, refused_answered, trim_answered, write_answered}
use Rattle.nbd_serve.proofs.answer.answer.Goals as goal

-- a trim and zeroes change bytes
trims : (c : Command) → (c ≡ command.Trim) ⊎ (c ≡ command.WriteZeroes) → is_change c ≡ true
trims c (inl is) = ap is_change is
trims c (inr is) = ap is_change is

-- what was found to be refused, or not to be, is so
asked : (size n : ℕ) (r : Request) (refusal is : Option Errno) → n ≡ size → refusal ≡ refusal_of n r → refusal ≡ is → refusal_of size r ≡ is
asked size n r refusal is size_is found same = ap (λ k. refusal_of k r) (sym size_is) ∙ sym found ∙ same

-- two facts of one outcome
of_both : (result : Result ℕ Short) (P R : ℕ → Type 0) (Q : Type 0) → IfOk result P → OnOk result Q → ((n : ℕ) → P n → Q → R n) → IfOk result R
of_both (Ok n) P R Q one two both = both n one two
of_both (Err short) P R Q one two both = tt

pub returns-in-Ok-clause-ok : goal.returns-in-Ok-clause-ok
returns-in-Ok-clause-ok g c = λ F a is.
    let store = g.S.ByteStore in
    let type = store_type store.represents store.keys store.stays store.outlasts store.moment store.outlasts_since in
    write_answered _ _ _ (store.sizes c.args.store.now).bytes F c.args.request.now c.in-Ok.outcome _ _ c.error_of.result _
    (asked _ _ c.args.request.now _ _ c.size.ensures.size c.refusal_of.ensures c.in_default.is) c.in-Write.is (c.in-Ok.ensures.ok F a is)
    (change_says type a _ _ c.args.request.now c.in-Ok.outcome c.error_of.result _
    (ap is_change c.in-Write.is) c.error_of.ensures c.put_head.ensures.written) c.error_of.ensures c.put_head.ensures.written

pub returns-in-Trim-clause-ok : goal.returns-in-Trim-clause-ok
returns-in-Trim-clause-ok g c = λ F a is.
    let store = g.S.ByteStore in
    let type = store_type store.represents store.keys store.stays store.outlasts store.moment store.outlasts_since in
    trim_answered _ _ _ (store.sizes c.args.store.now).bytes F c.args.request.now c.zero-outcome.result _ c.error_of-in-Trim.result _
    (asked _ _ c.args.request.now _ _ c.size.ensures.size c.refusal_of.ensures c.in_default.is) c.in-Trim.is
    c.zero-outcome.ensures.cause (c.zero-outcome.ensures.change F a is)
    (change_says type a _ _ c.args.request.now c.zero-outcome.result c.error_of-in-Trim.result _
    (trims c.args.request.now.command c.in-Trim.is) c.error_of-in-Trim.ensures c.put_head-in-Trim.ensures.written)
    c.error_of-in-Trim.ensures c.put_head-in-Trim.ensures.written

pub returns-in-Flush-clause-ok : goal.returns-in-Flush-clause-ok
returns-in-Flush-clause-ok g c = λ F a is.
    let store = g.S.ByteStore in
    let type = store_type store.represents store.keys store.stays store.outlasts store.moment store.outlasts_since in
    let e = c.flush-outcome.ensures in
    flush_answered _ _ _ (store.sizes c.args.store.now).bytes F c.args.request.now c.flush-outcome.result _ c.error_of-in-Flush.result _
    (asked _ _ c.args.request.now _ _ c.size.ensures.size c.refusal_of.ensures c.in_default.is) c.in-Flush.is
    e.cause (e.change F is.represented)
    (λ G represented flushed. flush_says type a _ _ c.args.request.now c.flush-outcome.result c.error_of-in-Flush.result _
    c.in-Flush.is c.error_of-in-Flush.ensures c.put_head-in-Flush.ensures.written G
    (flush_leaves type c.flush-outcome.result F G a _ _ is.shown (e.stays F is.represented) (e.keys F is.represented) (e.lasts F a is.represented is.shown)
    (e.flushed F a is.represented is.shown) represented flushed))
    c.error_of-in-Flush.ensures c.put_head-in-Flush.ensures.written

pub returns-in-Cache-clause-ok : goal.returns-in-Cache-clause-ok
returns-in-Cache-clause-ok g c = λ F a is.
    let store = g.S.ByteStore in
    let type = store_type store.represents store.keys store.stays store.outlasts store.moment store.outlasts_since in
    let size = (store.sizes c.args.store.now).bytes in
    let none = asked size _ c.args.request.now _ _ c.size.ensures.size c.refusal_of.ensures c.in_default.is in
    elim c.in-Cache.is [
      | inl cache ↦
          cache_answered _ _ size F c.args.request.now _ _ none cache
          (quiet_says type a _ _ c.args.request.now _ F (ap is_change cache)
          (λ forced. ap (λ c. secures c forced) cache) (untouched type F a _ _ refl is)) c.put_head-in-Cache.ensures.written
      | inr others ↦ elim others [
        | inl leaving ↦ absurd (leaving_refused size c.args.request.now none leaving)
        | inr other ↦ absurd (other_refused size c.args.request.now none other)
      ]
    ]

pub returns-in-Read-clause-ok : goal.returns-in-Read-clause-ok
returns-in-Read-clause-ok g c = λ F a is.
    let store = g.S.ByteStore in
    let type = store_type store.represents store.keys store.stays store.outlasts store.moment store.outlasts_since in
    let size = (store.sizes c.args.store.now).bytes in
    read_answered _ _ size F c.args.request.now _ _
    (asked size _ c.args.request.now _ _ c.size.ensures.size c.refusal_of.ensures c.in_default.is) c.in-Read.is
    (quiet_says type a _ _ c.args.request.now _ F (ap is_change c.in-Read.is)
    (λ forced. ap (λ c. secures c forced) c.in-Read.is) (c.answer_read.ensures.leaves F a is))
    (c.answer_read.ensures.written F is.represented)

pub returns-in-Some-clause-ok : goal.returns-in-Some-clause-ok
returns-in-Some-clause-ok g c =
    let store = g.S.ByteStore in
    let type = store_type store.represents store.keys store.stays store.outlasts store.moment store.outlasts_since in
    let size = (store.sizes c.args.store.now).bytes in
    let refused = asked size _ c.args.request.now _ _ c.size.ensures.size c.refusal_of.ensures c.in-Some.is in
    of_both c.refuse.result _ _ _ c.refuse.ensures.written c.refuse.ensures.read (λ count written skipped F a is.
    refused_answered _ _ size F c.args.request.now _ _ c.in-Some.error _ refused skipped
    (refusal_says type F a _ c.args.request.now c.in-Some.error _ written is) written)
