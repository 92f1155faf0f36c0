use Rattle.std.proofs.Common.{ap, ◌∙◌}
use Rattle.tables.specs.Tables.{placed}
use Rattle.tables.proofs.Listed.{listed_map}
use Rattle.boxes.specs.Cuts.{row_boxes}
use Rattle.boxes.specs.Orders.{cells, side_a, side_b, side_c}
use Rattle.boxes.specs.Records.{record_of}
use Rattle.boxes.proofs.list.BodyBoxesListingBoxRecord.write_plane.Goals as goal

pub returns : goal.returns
returns g c _ =
    let self = c.args.self.now in
    let view = self.view.now in
    let m = g.B.Body.meaning view.body.now in
    let o = view.order in
    c.write_all.ensures tt
    ∙ ap (λ l. placed l c.args.table.now) (listed_map (record_of o) (row_boxes (cells m o) (side_a m o) (side_b m o) (side_c m o) c.args.plane) (side_b m o) 0)
