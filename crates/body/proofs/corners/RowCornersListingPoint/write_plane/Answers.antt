use Rattle.std.proofs.Common.{sym, ap, ◌∙◌}
use Rattle.tables.specs.Tables.{placed}
use Rattle.tables.proofs.Placing.{placed_none}
use Rattle.body.proofs.Flat.{no_corner}
use Rattle.body.proofs.corners.RowCornersListingPoint.write_plane.Goals as goal

pub returns-else-is_corner : goal.returns-else-is_corner
returns-else-is_corner g c _ =
    let self = c.args.self.now in
    let m = g.B.Body.meaning self.view.now.body.now in
    let none = no_corner m self.x self.y c.args.plane (sym c.if-is_corner.ensures) in
    sym (ap (λ l. placed l c.args.table.now) none ∙ placed_none _)
