use Rattle.std.proofs.Common.{refl}
use Rattle.tables.specs.Tables.{listed}
use Rattle.body.specs.Solids.{solid_cells}
use Rattle.boxes.specs.Cuts.{box_at}
use Rattle.boxes.specs.Measures.{cells_of, volume_of}
use Rattle.boxes.proofs.worked.volume_of_two_cubes.Goals as goal

pub returns : goal.returns
unfolding listed box_at solid_cells volume_of cells_of
returns c = record { number = refl; cells = refl; boxes = refl }
