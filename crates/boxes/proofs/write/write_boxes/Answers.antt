use Rattle.std.proofs.Common.{ap, ◌∙◌}
use Rattle.tables.specs.Tables.{filled}
use Rattle.tables.proofs.Listed.{listed_map}
use Rattle.boxes.specs.Cuts.{plane_boxes}
use Rattle.boxes.specs.Orders.{cells, side_a, side_b, side_c}
use Rattle.boxes.specs.Records.{record_of}
use Rattle.boxes.proofs.Summing.{lawful_cut}
use Rattle.boxes.proofs.write.write_boxes.Goals as goal

pub returns-clause-lawful : goal.returns-clause-lawful
returns-clause-lawful g c = lawful_cut (g.B.Body.meaning c.args.body.now) c.skip_table-next_a.ensures.inside c.skip_table-next_a.ensures.small c.args.order

pub returns-clause-boxes : goal.returns-clause-boxes
returns-clause-boxes g c =
    let m = g.B.Body.meaning c.args.body.now in
    let o = c.args.order in
    c.fill.ensures tt ∙ ap (λ l. filled l c.args.table.now) (listed_map (record_of o) (plane_boxes (cells m o) (side_a m o) (side_b m o) (side_c m o)) (side_a m o) 0)
