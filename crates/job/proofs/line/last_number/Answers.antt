use Rattle.std.proofs.Common.{[]}
use Rattle.job.proofs.Refusing.{refused_by}
use Rattle.job.proofs.line.last_number.Goals as goal

pub returns-in_err-value-clause-none : goal.returns-in_err-value-clause-none
returns-in_err-value-clause-none c = refused_by _ c.from_residual.result c.from_residual.ensures.1 (λ _ _ n _. c.in_err-value.ensures.none n [])
