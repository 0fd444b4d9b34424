use Rattle.std.proofs.Common.{inl, inr, ⊎_elim, suc}
use Rattle.std.proofs.lemmas.Bool.{false≢true}
use Rattle.file_vault.proofs.stamp.is_current.Goals as goal

pub returns-clause-current : goal.returns-clause-current
returns-clause-current g c = λ known is.
    ⊎_elim (λ e. inl (c.in_ok-bytes.ensures.bytes known c.args.generation e)) (λ e. inr (e.0, c.in_ok-bytes.ensures.bytes known (suc c.args.generation) e.1)) (c.is_code_of.ensures.either is)

pub returns-clause-all : goal.returns-clause-all
returns-clause-all g c = λ known has.
    c.is_code_of.ensures.all (⊎_elim (λ h. inl (c.in_ok-bytes.ensures.back known c.args.generation h)) (λ h. inr (h.0, c.in_ok-bytes.ensures.back known (suc c.args.generation) h.1)) has)

pub returns-clause-cause : goal.returns-clause-cause
returns-clause-cause g c = λ known. record { later = (c.read_code.ensures.cause known).later; failed = λ err. absurd (false≢true err) }
