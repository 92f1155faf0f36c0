use Rattle.std.proofs.lemmas.Bool.{and_from}
use Rattle.geometry.proofs.ByAxis.{by_axis}
use Rattle.geometry.proofs.Readings.{step_taken, step_stored}
use Rattle.geometry.proofs.shift.Shift.new.Goals as goal

pub returns : goal.returns
returns c =
    let x = c.in_ok-step.ensures in
    let y = c.in_ok-step-2.ensures in
    let z = c.in_ok-step-3.ensures in (
      and_from _ _ (step_taken _ c.ranges.x x.0) (and_from _ _ (step_taken _ c.ranges.y y.0) (step_taken _ c.ranges.z z.0)),
      by_axis _ _ (step_stored _ _ c.ranges.x x) (step_stored _ _ c.ranges.y y) (step_stored _ _ c.ranges.z z),
    )
