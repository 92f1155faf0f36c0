use Rattle.std.proofs.Common.{ℕ, ◌*◌, ◌∙◌, ap₂, arith}
use Rattle.std.proofs.lemmas.Nat.{mul-le}
use Rattle.body.proofs.grid.rows.Goals as goal

pub returns-clause-value : goal.returns-clause-value
returns-clause-value c = ap₂ (λ (x y : ℕ). x * y) (c.from.ensures ∙ c.side.ensures) (c.from-2.ensures ∙ c.side-2.ensures)

pub returns-clause-bound : goal.returns-clause-bound
returns-clause-bound c = mul-le c.from.result c.from-2.result 1024 1024 (omega (arith, c.from.ensures, c.side.ensures)) (omega (arith, c.from-2.ensures, c.side-2.ensures))
