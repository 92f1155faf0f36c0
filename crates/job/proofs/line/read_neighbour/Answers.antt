use Rattle.std.proofs.Common.{rules}
use Rattle.job.proofs.Refusing.{no_above, refused_by}
use Rattle.job.proofs.line.read_neighbour.Goals as goal

pub returns-in_err-u-clause-none : goal.returns-in_err-u-clause-none
returns-in_err-u-clause-none c = refused_by _ c.from_residual.result c.from_residual.ensures.1 (λ _ _ _ l. c.in_err-u.ensures.none _ _ l.4)

pub returns-in_err-above-clause-none : goal.returns-in_err-above-clause-none
returns-in_err-above-clause-none c = refused_by _ c.from_residual-in_err-above.result c.from_residual-in_err-above.ensures.1 (λ _ _. no_above _ _ _ _ c.in_ok-word.word.now c.in_ok-u.ensures.number (search rules) c.in_err-above.ensures.none)
