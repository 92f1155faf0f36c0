use Rattle.std.proofs.Common.{◌≡◌, ◌*◌}
use Rattle.body.proofs.GridCounts.{row_total}
use Rattle.body.proofs.grid.Row.count.Given as goal

-- the cells of the words so far
abbrev pub invariant-loop-w : goal.invariant-loop-w
invariant-loop-w l = l.count ≡ row_total l.self.words.now l.self.base (64 * l.w)
