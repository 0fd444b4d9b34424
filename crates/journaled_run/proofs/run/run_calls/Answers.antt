use Rattle.std.proofs.Common.{◌≡◌, ◌⊎◌, inl, inr, slice_get, [], ◌∷◌, ◌++◌, length, take, rules, refl, sym, ◌∙◌, ap, subst, List, Some}
use Rattle.std.proofs.lemmas.List.{take_all}
use Rattle.std.proofs.lemmas.Option.{slice_get-get_or}
use Rattle.byte_store.specs.Lasting.{Shown, HasAllOf}
use Rattle.array_calls.proofs.Growing.{call_grows, made_grows}
use Rattle.array_calls.specs.Calls.{IsMade}
use Rattle.array_calls.specs.declared.call.CallAnswer.{CallAnswer}
use Rattle.array_calls.specs.declared.call.Call.{Call}
use Rattle.journaled_store.specs.Left.{HasBoth}
use Rattle.journaled_store.specs.Outlasting.{Outlasts, point}
use Rattle.journaled_run.specs.Runs.{IsKeptRun, shown_in}
use Rattle.journaled_run.proofs.Running.{Running, at_rest, called, fits_at, goes_on, if_ok, last_shown, none_kept, run_of, sizes_again, some_of, started}
use Rattle.journaled_run.proofs.Showing.{both_of, shown_now}
use Rattle.journaled_run.proofs.run.run_calls.Goals as goal

pub kept_call-requires : goal.kept_call-requires
kept_call-requires g c = fits_at c.args.calls.now c.loop-at.at c.index-calls-at.result c.loop-at-test.true c.index-calls-at.is _ _ c.loop-at.invariant.sizes c.requires

-- no memory for the answers
pub returns-in-Err-clause-run : goal.returns-in-Err-clause-run
returns-in-Err-clause-run g c T before first matches shown out =
    let v = g.V.Vault in
    let store = c.args.store.now in
    let p = point store in
    let none = none_kept v.known v.seen v.may_leave v.moment v.left_since g.met.V.Vault.counts_now g.met.V.Vault.only_now store.store.size T before first p matches shown out in
    subst (λ (answers : List CallAnswer). (run : IsKeptRun v.known v.seen v.may_leave v.moment v.left_since store.store.size (v.moment store.vault) T before first [] answers p)
    × ((run.last ≡ run.state) ⊎ ((one : Call) × (slice_get c.args.calls.now 0 ≡ Some one) × IsMade run.state one run.last))) (sym c.new.ensures.items) (none.0, inl none.1)

pub returns-in-Err-clause-at : goal.returns-in-Err-clause-at
returns-in-Err-clause-at g c = some_of (length c.args.calls.now) (λ none. let bad = c.in-Err.ensures.succeeds none in cc)

pub loop-at-init : goal.loop-at-init
loop-at-init g c =
    let v = g.V.Vault in
    let store = c.args.store.now in
    let p = point store in record {
      runs = λ T before first matches shown out.
          subst (λ (answers : List CallAnswer). Running v.known v.seen v.may_leave v.moment v.left_since store.store.size (v.moment store.vault) T before first [] answers p) (sym c.in-Ok.ensures.items)
          (started v.known v.seen v.may_leave v.moment v.left_since g.met.V.Vault.only_now store.store.size T before first p matches shown out);
      sizes = record { payload = refl; blocks = refl };
      size = refl;
      count = search rules;
      room = search rules;
    }

pub loop-at-preserved : goal.loop-at-preserved
loop-at-preserved g c = record {
  runs = λ T before first matches shown out.
      let v = g.V.Vault in
      let store = c.args.store.now in
      let now = c.kept_call.new.self in
      let p = point c.loop-at.store in
      let q = point now in
      let r = c.loop-at.invariant.runs T before first matches shown out in
      let done = if_ok _ c.in-Ok-Ok.field-0 c.in-Ok-Ok.answered c.in-Ok-Ok.field-0-is c.in-Ok-Ok.ensures.ok r.state r.matches in
      let w = shown_now store.store.size now.store.tiers done.0 done.2 in
      let has = both_of store.store.size now.store.tiers done.0 w.0 done.2 w.1 in
      let lasts = c.in-Ok-Ok.ensures.lasts r.state w.0 r.matches has in
      goes_on v.known v.seen v.may_leave v.moment v.left_since store.store.size (v.moment store.vault) T before first c.args.calls.now c.loop-at.answers.items c.push_reserved.new.self.items c.loop-at.at
      c.index-calls-at.result c.in-Ok-Ok.answered q c.loop-at-test.true c.index-calls-at.is c.push_reserved.ensures.items
      (called v.known v.seen v.may_leave v.moment v.left_since g.met.V.Vault.only_now store.store.size (v.moment store.vault) T before first (take c.loop-at.at c.args.calls.now) c.loop-at.answers.items p q r
      c.index-calls-at.result c.in-Ok-Ok.answered done.0 w.0 done.1 (call_grows r.state c.index-calls-at.result c.in-Ok-Ok.answered done.0 done.1) done.2 w.1 lasts.0 lasts.1
      (λ is. c.in-Ok-Ok.ensures.flushed r.state w.0 r.matches has is));
  sizes = sizes_again _ _ _ c.loop-at.invariant.sizes c.kept_call.ensures.room;
  size = c.kept_call.ensures.size ∙ c.loop-at.invariant.size;
  count = search rules;
  room = search rules;
}

-- the array was out of memory
pub returns-in-Ok-Err-clause-run : goal.returns-in-Ok-Err-clause-run
returns-in-Ok-Err-clause-run g c T before first matches shown out =
    let v = g.V.Vault in
    let store = c.args.store.now in
    let now = c.kept_call.new.self in
    let r = c.loop-at.invariant.runs T before first matches shown out in
    let done = c.kept_call.ensures.made r.state r.matches in
    let w = shown_now store.store.size now.store.tiers done.0 done.2 in
    let has = both_of store.store.size now.store.tiers done.0 w.0 done.2 w.1 in
    let lasts = c.kept_call.ensures.lasts r.state w.0 r.matches has in (
      run_of v.known v.seen v.may_leave v.moment v.left_since (point c.loop-at.store) (point now) w.0 lasts.0 store.store.size (v.moment store.vault) T before first
          (take c.loop-at.at c.args.calls.now) c.loop-at.answers.items r done.0 done.2 w.1,
      inr (c.index-calls-at.result, slice_get-get_or c.args.calls.now c.loop-at.at c.index-calls-at.result c.loop-at-test.true ∙ ap (λ s. Some s) (sym c.index-calls-at.is), done.1),
    )

-- the vault didn't keep the call
pub returns-in-Err-kept_call-clause-run : goal.returns-in-Err-kept_call-clause-run
returns-in-Err-kept_call-clause-run g c T before first matches shown out =
    let v = g.V.Vault in
    let store = c.args.store.now in
    let now = c.kept_call.new.self in
    let r = c.loop-at.invariant.runs T before first matches shown out in
    let done = c.kept_call.ensures.made r.state r.matches in
    let w = shown_now store.store.size now.store.tiers done.0 done.2 in
    let has = both_of store.store.size now.store.tiers done.0 w.0 done.2 w.1 in
    let lasts = c.kept_call.ensures.lasts r.state w.0 r.matches has in (
      run_of v.known v.seen v.may_leave v.moment v.left_since (point c.loop-at.store) (point now) w.0 lasts.0 store.store.size (v.moment store.vault) T before first
          (take c.loop-at.at c.args.calls.now) c.loop-at.answers.items r done.0 done.2 w.1,
      inr (c.index-calls-at.result, slice_get-get_or c.args.calls.now c.loop-at.at c.index-calls-at.result c.loop-at-test.true ∙ ap (λ s. Some s) (sym c.index-calls-at.is), done.1),
    )

pub returns-clause-run : goal.returns-clause-run
returns-clause-run g c T before first matches shown out =
    let v = g.V.Vault in
    let store = c.args.store.now in
    let p = point c.loop-at.store in
    let r = c.loop-at.invariant.runs T before first matches shown out in
    let last = last_shown first r.kept in
    subst (λ (calls : List Call). (run : IsKeptRun v.known v.seen v.may_leave v.moment v.left_since store.store.size (v.moment store.vault) T before first calls c.loop-at.answers.items p)
    × (run.last ≡ run.state) × (cut : List Shown) × HasAllOf cut (before ++ first ∷ shown_in run.kept) × Outlasts HasBoth v.known v.seen v.may_leave p (run.shown ∷ []) cut)
    (take_all c.loop-at.at c.args.calls.now c.loop-at-test.false) (
      run_of v.known v.seen v.may_leave v.moment v.left_since p p last (at_rest v.known v.seen v.may_leave v.moment v.left_since g.met.V.Vault.counts_now g.met.V.Vault.only_now p last)
          store.store.size (v.moment store.vault) T before first (take c.loop-at.at c.args.calls.now) c.loop-at.answers.items r r.state r.matches r.is_shown,
      refl,
      r.cut,
      r.within,
      r.now,
    )
