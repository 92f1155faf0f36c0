use Rattle.geometry.specs.declared.axis.Axis.TheVariants.{X}
use Rattle.body.proofs.Flat.{flat_plane}
use Rattle.body.proofs.corners.BodyCornersListingPoint.after.Goals as goal

pub returns-clause-between : goal.returns-clause-between
returns-clause-between g c _ =
    let self = c.args.self.now in
    let m = g.B.Body.meaning self.view.now.body.now in
    flat_plane m _ _ (c.walk_on.ensures m X self.along_x)
