use Rattle.std.proofs.Common.{◌≡◌, arith, rules}
use Rattle.geometry.specs.declared.axis.Axis.TheVariants.{Z}
use Rattle.layers.specs.Counts.{row_cells}
use Rattle.layers.proofs.Counting.{row_bound}
use Rattle.layers.proofs.count.row_count.Goals as goal

pub returns-clause-bound : goal.returns-clause-bound
returns-clause-bound g c =
    let m = g.B.Body.meaning c.args.body.now in
    let value : c.sum_planes.result ≡ row_cells m c.args.x c.args.y = search rules in
    omega (arith, value, row_bound m c.args.x c.args.y (m.side Z), c.requires.whole, c.args.along_z.now.fits)
