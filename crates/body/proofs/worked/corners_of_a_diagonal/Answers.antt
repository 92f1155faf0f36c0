use Rattle.std.proofs.Common.{refl}
use Rattle.tables.specs.Tables.{listed}
use Rattle.body.specs.Corners.{corner}
use Rattle.body.proofs.worked.corners_of_a_diagonal.Goals as goal

pub returns : goal.returns
unfolding listed corner
returns c = refl
