use Rattle.std.proofs.Common.{◌≡◌, drop}
use Rattle.layers.specs.Boxes.{next_bound}
use Rattle.layers.proofs.boxes.next_bound.Given as goal

abbrev pub invariant-loop-item : goal.invariant-loop-item
invariant-loop-item l = next_bound l.axis l.plane (drop l.item-index l.boxes) l.next ≡ next_bound l.axis l.plane l.boxes l.far
