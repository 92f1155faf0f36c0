-- An inspection: a body is cut and measured, and given back.
use Rattle.std.specs.Prelude.{cond, List, length, Ok, Err, Result, nat_le}
use Rattle.geometry.specs.declared.axis.AxisOrder.{AxisOrder}
use Rattle.geometry.specs.declared.refusal.Refusal.{Refusal}
use Rattle.geometry.specs.declared.refusal.Refusal.TheVariants.{BoxesFull}
use Rattle.tables.specs.Tables.{capacity}
use Rattle.body.specs.Solids.{Solid, solid_cells}
use Rattle.boxes.specs.Records.{cut_list}
use Rattle.cut.specs.declared.inspect.Inspection.{Inspection}
use Rattle.boxes.specs.declared.record.BoxRecord.{BoxRecord}

-- the number of boxes, and the volume: the number of solid cells, whatever the order
abbrev pub inspected : Solid → AxisOrder → List BoxRecord → Result Inspection Refusal
inspected m o table = cond (nat_le (length (cut_list m o)) (capacity table)) (Ok (record { boxes = length (cut_list m o); volume = solid_cells m })) (Err BoxesFull)
