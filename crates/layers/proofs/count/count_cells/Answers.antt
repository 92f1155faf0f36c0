use Rattle.std.proofs.Common.{◌∙◌, rules}
use Rattle.geometry.specs.declared.axis.Axis.TheVariants.{X}
use Rattle.layers.specs.Counts.{plane_cells}
use Rattle.layers.proofs.Counting.{cells_by_planes, steady_x}
use Rattle.layers.proofs.count.count_cells.Goals as goal

pub returns : goal.returns
returns g c =
    let m = g.B.Body.meaning c.args.body.now in
    c.sum_planes.ensures m X (plane_cells m) c.skip_table-along_x.ensures.indexed (search rules) (steady_x m) ∙ cells_by_planes m
