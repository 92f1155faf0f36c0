use Rattle.boxes.specs.Orders.{axis_c}
use Rattle.boxes.proofs.Turning.{same_along_c}
use Rattle.boxes.proofs.view.RowLine.jump.Goals as goal

pub returns-clause-same : goal.returns-clause-same
returns-clause-same g c below n low high =
    let self = c.args.self.now in
    let view = self.view.now in
    let m = g.B.Body.meaning view.body.now in
    let skip = c.after.ensures m (axis_c view.order) view.along_c in
    same_along_c m.holds n c.args.i view.order (λ u v. skip.equal n u v low high) self.a self.b
