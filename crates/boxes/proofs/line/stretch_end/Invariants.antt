use Rattle.std.proofs.Common.{◌≡◌, ℕ, ◌-◌, ◌<◌, ◌≤◌, true}
use Rattle.boxes.proofs.line.stretch_end.Given as goal

abbrev pub invariant-loop-end : goal.invariant-loop-end
invariant-loop-end g l =
    let m = g.L.Line in
    (l.i ≤ l.end) × (l.end ≤ l.size) × ((k : ℕ) → l.i ≤ k → k < l.end → m.holds l.line k ≡ true)

abbrev pub decreases-loop-end : goal.decreases-loop-end
decreases-loop-end g l = l.size - l.end
