use Rattle.block.proofs.Exact.{lists_stand}
use Rattle.block.proofs.check.check_list.Goals as goal

pub returns-then-count-min-clause-stand : goal.returns-then-count-min-clause-stand
returns-then-count-min-clause-stand c = lists_stand

pub returns-else-count-min-clause-stand : goal.returns-else-count-min-clause-stand
returns-else-count-min-clause-stand c = lists_stand
