use Rattle.geometry.specs.declared.axis.Axis.TheVariants.{Z}
use Rattle.body.proofs.Flat.{flat_at}
use Rattle.body.proofs.corners.RowCornersListingPoint.after.Goals as goal

pub returns-clause-between : goal.returns-clause-between
returns-clause-between g c _ =
    let self = c.args.self.now in
    let m = g.B.Body.meaning self.view.now.body.now in
    flat_at m self.x self.y _ _ (c.walk_on.ensures m Z self.along_z)
