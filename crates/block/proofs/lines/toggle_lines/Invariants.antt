use Rattle.block.proofs.Bitmaps.{Toggling}
use Rattle.block.proofs.lines.toggle_lines.Given as goal

abbrev pub invariant-loop-point : goal.invariant-loop-point
invariant-loop-point l = Toggling l.axis l.points l.point-index l.initial.map l.map
