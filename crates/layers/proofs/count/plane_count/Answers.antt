use Rattle.std.proofs.Common.{◌≡◌, ◌≤◌, arith, rules}
use Rattle.geometry.specs.declared.axis.Axis.TheVariants.{Y, Z}
use Rattle.layers.specs.Counts.{plane_cells, row_cells}
use Rattle.layers.proofs.Counting.{row_bound, total_bound, steady_y}
use Rattle.layers.proofs.count.plane_count.Goals as goal

value : (g : _) (c : goal.After-sum_planes g) → c.sum_planes.result ≡ plane_cells (g.B.Body.meaning c.args.body.now) c.args.x
value g c =
    let m = g.B.Body.meaning c.args.body.now in
    c.sum_planes.ensures m Y (row_cells m c.args.x) c.requires.y (search rules) (steady_y m c.args.x)

pub returns-clause-value : goal.returns-clause-value
returns-clause-value g c = value g c

pub returns-clause-bound : goal.returns-clause-bound
returns-clause-bound g c =
    let m = g.B.Body.meaning c.args.body.now in
    let small : m.side Z ≤ 1024 = omega (arith, c.requires.z.whole, c.args.along_z.now.fits) in
    omega (arith, value g c, total_bound (row_cells m c.args.x) 1024 (m.side Y) (λ j. omega (arith, row_bound m c.args.x j (m.side Z), small)), c.requires.y.whole, c.args.along_y.now.fits)
