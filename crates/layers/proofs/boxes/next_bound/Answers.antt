use Rattle.layers.proofs.Bounding.{bound_more, bound_all}
use Rattle.layers.proofs.boxes.next_bound.Goals as goal

pub loop-item-preserved : goal.loop-item-preserved
loop-item-preserved c =
    bound_more c.args.boxes.now c.loop-item.item-index c.args.axis c.args.plane c.loop-item.next _ c.nearer.result c.nearer-next.result _ c.range-low.result
    c.loop-item-test.true c.range-low.ensures c.nearer.ensures c.nearer-next.ensures c.loop-item.invariant

pub returns : goal.returns
returns c = bound_all c.args.boxes.now c.loop-item.item-index c.args.axis c.args.plane _ _ c.loop-item-test.false c.loop-item.invariant
