use Rattle.std.proofs.Common.{ap}
use mathlib.Core.Path.{fun_ext}
use Rattle.boxes.specs.Orders.{axis_b, side_c}
use Rattle.boxes.specs.Stretches.{stretch}
use Rattle.boxes.proofs.Turning.{same_along_b}
use Rattle.boxes.proofs.view.RunsLine.jump.Goals as goal

pub returns-clause-same : goal.returns-clause-same
returns-clause-same g c below n low high =
    let self = c.args.self.now in
    let view = self.view.now in
    let m = g.B.Body.meaning view.body.now in
    let skip = c.after.ensures m (axis_b view.order) view.along_b in
    ap (λ Q. stretch Q (side_c m view.order) self.c self.c_end) (fun_ext λ k. same_along_b m.holds n c.args.i view.order (λ u v. skip.equal n u v low high) self.a k)
