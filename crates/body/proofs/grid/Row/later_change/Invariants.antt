use Rattle.std.proofs.Common.{◌≡◌, ℕ, ◌*◌, ◌<◌, ◌≤◌, false}
use Rattle.body.specs.Grids.{row_differs}
use Rattle.body.proofs.grid.Row.later_change.Given as goal

-- no change in the words up to here
abbrev pub invariant-loop-w : goal.invariant-loop-w
invariant-loop-w l = (l.start ≤ l.w) × ((n : ℕ) → 64 * l.start ≤ n → n < 64 * l.w → row_differs l.self.words.now l.self.base n ≡ false)
