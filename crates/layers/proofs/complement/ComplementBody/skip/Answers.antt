use Rattle.layers.proofs.Framing.{complement_good}
use Rattle.layers.proofs.complement.ComplementBody.skip.Goals as goal

pub returns : goal.returns
returns g c =
    let good =
    complement_good (g.B.Body.meaning c.args.self.now.body) (g.B.Body.skips c.args.self.now.body) c.args.axis c.args.plane c.skip.result
    record { value = c.skip.ensures.value; lawful = c.skip.ensures.lawful } in
    record { value = good.value; lawful = good.lawful }
