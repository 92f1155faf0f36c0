use Rattle.std.proofs.Common.{◌≡◌, ℕ, ◌<◌, true, ◌++◌, get_or, take, vec_items}
use Rattle.text.specs.Scans.{row_cells, cell_byte}
use Rattle.text.proofs.scan.push_row.Given as goal

abbrev pub invariant-loop-byte : goal.invariant-loop-byte
invariant-loop-byte l =
    (vec_items l.cells ≡ vec_items l.initial.cells ++ row_cells (take l.byte-index l.row))
    × ((k : ℕ) → k < l.byte-index → cell_byte (get_or l.row k 0) ≡ true)
