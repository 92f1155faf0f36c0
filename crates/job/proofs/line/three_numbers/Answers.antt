use Rattle.job.proofs.Refusing.{no_first, no_last, no_second, refused_by}
use Rattle.job.proofs.line.three_numbers.Goals as goal

pub returns-in_err-x-clause-none : goal.returns-in_err-x-clause-none
returns-in_err-x-clause-none c = refused_by _ c.from_residual.result c.from_residual.ensures.1 (λ _ _. no_first _ c.in_err-x.ensures.none)

pub returns-in_err-y-clause-none : goal.returns-in_err-y-clause-none
returns-in_err-y-clause-none c = refused_by _ c.from_residual-in_err-y.result c.from_residual-in_err-y.ensures.1 (λ _ _. no_second _ _ _ c.in_ok-x.ensures.number c.in_err-y.ensures.none)

pub returns-in_err-z-clause-none : goal.returns-in_err-z-clause-none
returns-in_err-z-clause-none c = refused_by _ c.from_residual-in_err-z.result c.from_residual-in_err-z.ensures.1 (λ _ _. no_last _ _ _ _ _ c.in_ok-x.ensures.number c.in_ok-y.ensures.number c.in_err-z.ensures.none)
