use Rattle.std.proofs.Common.{◌≡◌}
use Rattle.geometry.specs.Frames.{sides}
use Rattle.geometry.specs.declared.axis.Axis.TheVariants.{Z}
use Rattle.body.specs.Grids.{row_words}
use Rattle.body.proofs.GridCounts.{rows_total}
use Rattle.body.proofs.grid.PackedGrid.count.Given as goal

-- the cells of the rows so far
abbrev pub invariant-loop-row : goal.invariant-loop-row
invariant-loop-row l = l.count ≡ rows_total l.self.words.now (row_words (sides l.self.frame Z)) l.side l.row
