use Rattle.geometry.specs.Frames.{sides}
use Rattle.layers.proofs.Bounding.{boxed_good}
use Rattle.layers.proofs.boxes.BoxListBody.skip.Goals as goal

pub returns : goal.returns
returns c =
    let good = boxed_good (sides c.args.self.now.frame) c.args.self.now.boxes.now c.args.axis c.args.plane c.side.result c.next_bound.result c.side.ensures c.next_bound.ensures in
    record { value = good.value; lawful = good.lawful }
