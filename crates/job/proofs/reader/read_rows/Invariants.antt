use Rattle.std.proofs.Common.{◌≡◌, take, drop, vec_items}
use Rattle.std.specs.List.{flat_map}
use Rattle.job.specs.Jobs.{Later, Rows, left}
use Rattle.text.specs.Scans.{row_cells}
use Rattle.job.proofs.reader.read_rows.Given as goal

abbrev pub invariant-loop : goal.invariant-loop
invariant-loop l =
    Later l.initial.text l.text
    × Rows l.counter l.side (left l.initial.text)
    × (vec_items l.cells ≡ flat_map row_cells (take l.counter (left l.initial.text)))
    × (left l.text ≡ drop l.counter (left l.initial.text))
