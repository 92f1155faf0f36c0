use Rattle.geometry.specs.declared.axis.Axis.TheVariants.{Y}
use Rattle.body.proofs.Flat.{flat_row}
use Rattle.body.proofs.corners.PlaneCornersListingPoint.after.Goals as goal

pub returns-clause-between : goal.returns-clause-between
returns-clause-between g c _ =
    let self = c.args.self.now in
    let m = g.B.Body.meaning self.view.now.body.now in
    flat_row m self.x _ _ (c.walk_on.ensures m Y self.along_y)
