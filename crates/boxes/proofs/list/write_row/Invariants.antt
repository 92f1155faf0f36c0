use Rattle.std.proofs.Common.{◌≡◌, ◌-◌, ◌<◌, ◌≤◌, true, length}
use Rattle.tables.specs.Tables.{listed}
use Rattle.tables.proofs.Placing.{placed_behind}
use Rattle.boxes.specs.Orders.{cells, side_c}
use Rattle.boxes.specs.Records.{records_at}
use Rattle.boxes.specs.Stretches.{opens}
use Rattle.boxes.proofs.list.write_row.Given as goal

-- a run begins at c, and what is left to write, behind what is written, is the whole row
abbrev pub invariant-loop-c : goal.invariant-loop-c
invariant-loop-c g l =
    let view = l.view in
    let m = g.B.Body.meaning view.body.now in
    let part = records_at m view.order l.a l.b in
    let side = side_c m view.order in
    (l.c ≤ side) × (l.c < side → opens (cells m view.order l.a l.b) l.c ≡ true) × (l.used ≤ length l.table) × (length l.table ≡ length l.initial.table) × (placed_behind l.used (listed part (side - l.c) l.c) l.table ≡ placed_behind 0 (listed part side 0) l.initial.table)

abbrev pub decreases-loop-c : goal.decreases-loop-c
decreases-loop-c g l = l.size - l.c
