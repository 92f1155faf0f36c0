use Rattle.boxes.specs.Orders.{axis_b}
use Rattle.boxes.proofs.Passing.{passed_b}
use Rattle.boxes.proofs.list.PlaneBoxesListingBoxRecord.after.Goals as goal

pub returns-clause-between : goal.returns-clause-between
returns-clause-between g c _ =
    let self = c.args.self.now in
    let view = self.view.now in
    let m = g.B.Body.meaning view.body.now in
    passed_b m view.order _ _ (c.after.ensures m (axis_b view.order) view.along_b) self.a
