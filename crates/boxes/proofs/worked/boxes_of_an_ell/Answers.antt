use Rattle.std.proofs.Common.{refl}
use Rattle.tables.specs.Tables.{listed}
use Rattle.boxes.specs.Cuts.{box_at}
use Rattle.boxes.proofs.worked.boxes_of_an_ell.Goals as goal

pub returns : goal.returns
unfolding listed box_at
returns c = (refl, refl)
