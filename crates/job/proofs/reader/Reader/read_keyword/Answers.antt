use Rattle.std.proofs.Common.{rules}
use Rattle.job.proofs.Refusing.{refused_in}
use Rattle.job.proofs.reader.Reader.read_keyword.Goals as goal

pub returns-in-Scan-clause-says : goal.returns-in-Scan-clause-says
returns-in-Scan-clause-says c = rw c.in-Scan.is c.read_scan.ensures.says

pub returns-in-Scan-clause-none : goal.returns-in-Scan-clause-none
returns-in-Scan-clause-none c = rw c.in-Scan.is c.read_scan.ensures.none

pub returns-in-Grid-clause-says : goal.returns-in-Grid-clause-says
returns-in-Grid-clause-says c = rw c.in-Grid.is c.read_grid.ensures.says

pub returns-in-Grid-clause-none : goal.returns-in-Grid-clause-none
returns-in-Grid-clause-none c = rw c.in-Grid.is c.read_grid.ensures.none

pub returns-in-Alone-clause-none : goal.returns-in-Alone-clause-none
returns-in-Alone-clause-none c = rw c.in-Alone.is (refused_in _ _ c.read_alone.result c.read_alone.result (search rules) (λ _ none _. none) c.read_alone.ensures.none)
