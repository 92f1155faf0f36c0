use Rattle.std.proofs.Common.{◌≡◌, ◌<◌, ◌≤◌, length}
use Rattle.body.specs.Solids.{Solid, Skips}
use Rattle.body.specs.Indexes.{IndexedTo}
use Rattle.body.proofs.walk.skip_table.Given as goal

abbrev pub invariant-loop-plane : goal.invariant-loop-plane
invariant-loop-plane g l =
    let m : Solid = g.B.Body.meaning l.body in
    (length l.next ≡ 1024) × (l.plane ≤ l.stop) × (l.stop ≤ m.side l.axis) × (l.plane < l.stop → Skips m l.axis l.plane l.stop) × IndexedTo m l.axis l.plane l.next
