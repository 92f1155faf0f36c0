use Rattle.std.proofs.Common.{ap}
use mathlib.Core.Path.{fun_ext}
use Rattle.boxes.specs.Orders.{axis_a, side_b, side_c}
use Rattle.boxes.specs.Stretches.{stretch}
use Rattle.boxes.proofs.Turning.{same_along_a}
use Rattle.boxes.proofs.view.PlatesLine.jump.Goals as goal

pub returns-clause-same : goal.returns-clause-same
returns-clause-same g c below n low high =
    let self = c.args.self.now in
    let view = self.view.now in
    let m = g.B.Body.meaning view.body.now in
    let skip = c.after.ensures m (axis_a view.order) view.along_a in
    ap (λ Q. stretch Q (side_b m view.order) self.b self.b_end)
    (fun_ext λ j. ap (λ Q. stretch Q (side_c m view.order) self.c self.c_end) (fun_ext λ k. same_along_a m.holds n c.args.i view.order (λ u v. skip.equal n u v low high) j k))
