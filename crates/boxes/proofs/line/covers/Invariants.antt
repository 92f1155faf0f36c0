use Rattle.std.proofs.Common.{◌≡◌, ℕ, ◌-◌, ◌<◌, ◌≤◌, true}
use Rattle.boxes.proofs.line.covers.Given as goal

abbrev pub invariant-loop-at : goal.invariant-loop-at
invariant-loop-at g l =
    let m = g.L.Line in
    (l.low ≤ l.at) × ((k : ℕ) → l.low ≤ k → k < l.at → m.holds l.line k ≡ true)

abbrev pub decreases-loop-at : goal.decreases-loop-at
decreases-loop-at g l = l.high - l.at
