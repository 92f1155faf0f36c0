use Rattle.std.proofs.Common.{refl, inr, rules}
use Rattle.job.proofs.Refusing.{refused_by}
use Rattle.job.proofs.reader.Reader.read_grid.Goals as goal

pub returns-in_err-count-clause-none : goal.returns-in_err-count-clause-none
returns-in_err-count-clause-none c = refused_by _ c.from_residual.result c.from_residual.ensures.1 (λ _ _ _ _ _ l. c.in_err-count.ensures.none _ l.2 l.1)

pub returns-clause-says : goal.returns-clause-says
returns-clause-says c = inr (_, refl, inr (search rules))
