use Rattle.std.proofs.lemmas.Result.{err_from_is_err_and}
use Rattle.std.proofs.Common.{refl, sym, subst}
use Rattle.tiered_array.specs.Matches.{RepresentsTiers}
use Rattle.tiered_array.specs.Views.{TiersView}
use Rattle.array_calls.proofs.call.Call.carry.Goals as goal

pub returns-in-Claim-clause-ok : goal.returns-in-Claim-clause-ok
returns-in-Claim-clause-ok g c T m =
    let done = c.claim.ensures.flat T m in (done.0, rw c.in-Claim.is done.1, done.2)

pub returns-in-Release-clause-ok : goal.returns-in-Release-clause-ok
returns-in-Release-clause-ok g c T m =
    let done = c.release.ensures.flat T m in (done.0, rw c.in-Release.is done.1, done.2)

pub returns-in-Discard-clause-ok : goal.returns-in-Discard-clause-ok
returns-in-Discard-clause-ok g c T m =
    let done = c.discard.ensures.flat T m in (done.0, rw c.in-Discard.is done.1, done.2)

pub returns-in_ok-fill-in-Fill-clause-ok : goal.returns-in_ok-fill-in-Fill-clause-ok
returns-in_ok-fill-in-Fill-clause-ok g c T m =
    let done = c.in_ok-fill-in-Fill.ensures.ok T m in (done.0, rw c.in-Fill.is (rw (sym c.deref.ensures.value) done.1), done.2)

pub returns-in_ok-copy-in-Copy-clause-ok : goal.returns-in_ok-copy-in-Copy-clause-ok
returns-in_ok-copy-in-Copy-clause-ok g c T m =
    let done = c.in_ok-copy-in-Copy.ensures.ok T m in (done.0, rw c.in-Copy.is done.1, done.2)

pub returns-in_ok-read_at-in-ReadAt-clause-ok : goal.returns-in_ok-read_at-in-ReadAt-clause-ok
returns-in_ok-read_at-in-ReadAt-clause-ok g c T m =
    let done = c.in_ok-read_at-in-ReadAt.ensures.ok T m in (done.0, rw c.in-ReadAt.is done.1, done.2)

pub returns-in_ok-write-in-Write-clause-ok : goal.returns-in_ok-write-in-Write-clause-ok
returns-in_ok-write-in-Write-clause-ok g c T m =
    let done = c.in_ok-write-in-Write.ensures.ok 0 T m in (done.0, rw c.in-Write.is (rw (sym c.deref-in-Write.ensures.value) done.1), done.2)

pub returns-in_err-write-in-Write-clause-err : goal.returns-in_err-write-in-Write-clause-err
returns-in_err-write-in-Write-clause-err g c =
    let p = err_from_is_err_and c.from_residual-in_err-write-in-Write.result c.from_residual-in_err-write-in-Write.ensures.1 in
    rw p.1 (λ T m. let done = c.in_err-write-in-Write.ensures.err 0 T m in (done.0, rw c.in-Write.is (rw (sym c.deref-in-Write.ensures.value) done.1), done.2))

pub returns-in_ok-write-in-Trim-clause-ok : goal.returns-in_ok-write-in-Trim-clause-ok
returns-in_ok-write-in-Trim-clause-ok g c T m =
    let done = c.in_ok-write-in-Trim.ensures.ok 0 T m in (done.0, rw c.in-Trim.is done.1, done.2)

pub returns-in_err-write-in-Trim-clause-err : goal.returns-in_err-write-in-Trim-clause-err
returns-in_err-write-in-Trim-clause-err g c =
    let p = err_from_is_err_and c.from_residual-in_err-write-in-Trim.result c.from_residual-in_err-write-in-Trim.ensures.1 in
    rw p.1 (λ T m. let done = c.in_err-write-in-Trim.ensures.err 0 T m in (done.0, rw c.in-Trim.is done.1, done.2))

pub returns-in_ok-demote-in-Demote-clause-ok : goal.returns-in_ok-demote-in-Demote-clause-ok
returns-in_ok-demote-in-Demote-clause-ok g c T m =
    let done = c.in_ok-demote-in-Demote.ensures.ok 0 T m in (done.0, rw c.in-Demote.is done.1, done.2)

pub returns-in_err-demote-in-Demote-clause-err : goal.returns-in_err-demote-in-Demote-clause-err
returns-in_err-demote-in-Demote-clause-err g c =
    let p = err_from_is_err_and c.from_residual-in_err-demote-in-Demote.result c.from_residual-in_err-demote-in-Demote.ensures.1 in
    rw p.1 (λ T m. let done = c.in_err-demote-in-Demote.ensures.err 0 T m in (done.0, rw c.in-Demote.is done.1, done.2))

pub returns-in_ok-plug-in-Plug-clause-ok : goal.returns-in_ok-plug-in-Plug-clause-ok
returns-in_ok-plug-in-Plug-clause-ok g c T m =
    let done = c.in_ok-plug-in-Plug.ensures.ok 0 T m in (done.0, rw c.in-Plug.is done.1, done.2)

pub returns-in_err-plug-in-Plug-clause-err : goal.returns-in_err-plug-in-Plug-clause-err
returns-in_err-plug-in-Plug-clause-err g c =
    let p = err_from_is_err_and c.from_residual-in_err-plug-in-Plug.result c.from_residual-in_err-plug-in-Plug.ensures.1 in
    rw p.1 (λ T m. let done = c.in_err-plug-in-Plug.ensures.err 0 T m in (done.0, rw c.in-Plug.is done.1, done.2))

pub returns-in_ok-clean-in-Clean-clause-ok : goal.returns-in_ok-clean-in-Clean-clause-ok
returns-in_ok-clean-in-Clean-clause-ok g c T m =
    let done = c.in_ok-clean-in-Clean.ensures.ok 0 T m in (done.0, rw c.in-Clean.is done.1, done.2)

pub returns-in_err-clean-in-Clean-clause-err : goal.returns-in_err-clean-in-Clean-clause-err
returns-in_err-clean-in-Clean-clause-err g c =
    let p = err_from_is_err_and c.from_residual-in_err-clean-in-Clean.result c.from_residual-in_err-clean-in-Clean.ensures.1 in
    rw p.1 (λ T m. let done = c.in_err-clean-in-Clean.ensures.err 0 T m in (done.0, rw c.in-Clean.is done.1, done.2))

pub returns-in_err-commit-in-Commit-clause-err : goal.returns-in_err-commit-in-Commit-clause-err
returns-in_err-commit-in-Commit-clause-err g c =
    let p = err_from_is_err_and c.from_residual-in_err-commit-in-Commit.result c.from_residual-in_err-commit-in-Commit.ensures.1 in
    rw p.1 (λ T m. (T, rw c.in-Commit.is refl, subst (λ (v : TiersView). RepresentsTiers v T) (sym c.in_err-commit-in-Commit.ensures.err) m))

pub returns-in_err-read_at-in-ReadAt-clause-err : goal.returns-in_err-read_at-in-ReadAt-clause-err
returns-in_err-read_at-in-ReadAt-clause-err g c =
    let p = err_from_is_err_and c.from_residual-in_err-read_at-in-ReadAt.result c.from_residual-in_err-read_at-in-ReadAt.ensures.1 in
    rw p.1 (λ T m. (T, rw c.in-ReadAt.is refl, subst (λ (v : TiersView). RepresentsTiers v T) (sym c.in_err-read_at-in-ReadAt.ensures.err) m))
