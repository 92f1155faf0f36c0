use Rattle.std.proofs.Common.{rules}
use Rattle.job.proofs.Refusing.{no_length, refused_by}
use Rattle.job.proofs.line.read_table.Goals as goal

pub returns-in_err-length-clause-none : goal.returns-in_err-length-clause-none
returns-in_err-length-clause-none c = refused_by _ c.from_residual-in_err-length.result c.from_residual-in_err-length.ensures.1 (λ _ _. no_length _ _ c.in_ok-name.name.now (search rules) c.in_err-length.ensures.none)
