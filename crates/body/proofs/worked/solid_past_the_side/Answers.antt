use Rattle.std.proofs.Common.{refl}
use Rattle.body.specs.Grids.{packed}
use Rattle.body.specs.Solids.{solid_cells}
use Rattle.body.proofs.worked.solid_past_the_side.Goals as goal

pub returns : goal.returns
unfolding packed solid_cells
returns c = refl
