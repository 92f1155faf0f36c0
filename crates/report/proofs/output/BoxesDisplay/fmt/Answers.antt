use Rattle.std.proofs.Common.{refl}
use Rattle.std.proofs.Output.{has_written_append}
use Rattle.report.proofs.Printing.{boxes_more}
use Rattle.report.proofs.output.BoxesDisplay.fmt.Goals as goal

pub loop-i-preserved : goal.loop-i-preserved
loop-i-preserved g c = λ plain.
    let so_far = c.loop-i.invariant plain in
    (_, has_written_append _ _ _ _ _ _ so_far.1 (c.in_ok-writeln.ensures.writes so_far.1.plain refl), boxes_more c.args.self.now.0.now c.loop-i.i _ so_far.0 _ c.loop-i-test.true so_far.2)
