use Rattle.std.proofs.Common.{◌≡◌, ◌-◌}
use Rattle.geometry.specs.Frames.{sides}
use Rattle.geometry.specs.declared.axis.Axis.TheVariants.{Z}
use Rattle.body.specs.Grids.{first, row_words, rows_differ}
use Rattle.body.proofs.grid.PackedGrid.next_change.Given as goal

-- the first change in the rows so far
abbrev pub invariant-loop-row : goal.invariant-loop-row
invariant-loop-row l = l.best ≡ first (rows_differ l.self.words.now (row_words (sides l.self.frame Z)) l.row) (l.limit - l.from) l.from
