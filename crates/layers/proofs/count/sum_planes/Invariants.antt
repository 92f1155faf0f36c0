use Rattle.std.proofs.Common.{◌≡◌, ℕ, ◌-◌, ◌*◌, ◌<◌, ◌≤◌}
use Rattle.geometry.specs.declared.axis.Axis.{Axis}
use Rattle.body.specs.Indexes.{Indexed}
use Rattle.body.specs.Solids.{Skips, Solid, total}
use Rattle.layers.proofs.count.sum_planes.Given as goal

-- the sum of the planes so far
abbrev pub invariant-loop-plane : goal.invariant-loop-plane
invariant-loop-plane g l =
    (l.plane ≤ l.table.side)
    × (l.sum ≤ l.plane * 1048576)
    × ((m : Solid) (a : Axis) (f : ℕ → ℕ) → Indexed m a l.table.side l.table.next → ((p r : ℕ) → p < m.side a → goal.F-post g l.count p r → r ≡ f p) → ((p q : ℕ) → Skips m a p q → (n : ℕ) → p ≤ n → n < q → f n ≡ f p) → l.sum ≡ total f l.plane)

abbrev pub decreases-loop-plane : goal.decreases-loop-plane
decreases-loop-plane g l = l.table.side - l.plane
