use Rattle.boxes.specs.Orders.{axis_a}
use Rattle.boxes.proofs.Passing.{passed_a}
use Rattle.boxes.proofs.list.BodyBoxesListingBoxRecord.after.Goals as goal

pub returns-clause-between : goal.returns-clause-between
returns-clause-between g c _ =
    let self = c.args.self.now in
    let view = self.view.now in
    let m = g.B.Body.meaning view.body.now in
    passed_a m view.order _ _ (c.after.ensures m (axis_a view.order) view.along_a)
