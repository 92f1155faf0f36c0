use Rattle.std.proofs.Common.{rules}
use Rattle.job.proofs.Refusing.{refused_in}
use Rattle.job.proofs.line.read_command.Goals as goal

pub returns-in-Frame-clause-none : goal.returns-in-Frame-clause-none
returns-in-Frame-clause-none c = rw c.in-Frame.is (refused_in _ _ c.three_numbers.result c.map.result (search rules) (λ _ none _ l. none _ _ _ l.3) c.three_numbers.ensures.none)

pub returns-in-Table-clause-none : goal.returns-in-Table-clause-none
returns-in-Table-clause-none c = rw c.in-Table.is c.read_table.ensures.none

pub returns-in-Find-clause-none : goal.returns-in-Find-clause-none
returns-in-Find-clause-none c = rw c.in-Find.is (refused_in _ _ c.three_numbers-in-Find.result c.map-in-Find.result (search rules) (λ _ none _ l. none _ _ _ l.3) c.three_numbers-in-Find.ensures.none)

pub returns-in-Neighbour-clause-none : goal.returns-in-Neighbour-clause-none
returns-in-Neighbour-clause-none c = rw c.in-Neighbour.is c.read_neighbour.ensures.none
