use Rattle.std.proofs.Common.{◌≡◌, ap, ◌∙◌, arith}
use Rattle.body.specs.Solids.{Solid}
use Rattle.layers.proofs.Framing.{Good, joined_both, joined_first}
use Rattle.layers.proofs.pair.PairBody.skip.Goals as goal

pub returns-then-plane-side : goal.returns-then-plane-side
returns-then-plane-side g c =
    let m : Solid = g.A.Body.meaning c.args.self.now.first in
    let n : Solid = g.B.Body.meaning c.args.self.now.second in
    let a = c.args.axis in
    let same : c.side.result ≡ n.side a = c.side.ensures ∙ ap (λ s. s a) c.frame.ensures.frame in
    let first : Good m (g.A.Body.skips c.args.self.now.first) a c.args.plane c.skip-skip.result =
    record { value = c.skip-skip.ensures.value; lawful = c.skip-skip.ensures.lawful } in
    let second : Good n (g.B.Body.skips c.args.self.now.second) a c.args.plane c.skip.result =
    record { value = c.skip.ensures.value; lawful = c.skip.ensures.lawful } in
    record {
      value = (joined_both c.args.self.now.join m n a c.args.plane _ _ c.side.result same _ _ _ c.if-plane-side.true first second (omega arith)).value;
      lawful = (joined_both c.args.self.now.join m n a c.args.plane _ _ c.side.result same _ _ _ c.if-plane-side.true first second (omega arith)).lawful;
    }

pub returns-else-plane-side : goal.returns-else-plane-side
returns-else-plane-side g c =
    let m : Solid = g.A.Body.meaning c.args.self.now.first in
    let n : Solid = g.B.Body.meaning c.args.self.now.second in
    let a = c.args.axis in
    let same : c.side.result ≡ n.side a = c.side.ensures ∙ ap (λ s. s a) c.frame.ensures.frame in
    let good =
    joined_first c.args.self.now.join m n a c.args.plane (g.A.Body.skips c.args.self.now.first) (g.B.Body.skips c.args.self.now.second) c.side.result same
    c.skip-skip.result c.if-plane-side.false c.frame.ensures.inside
    record { value = c.skip-skip.ensures.value; lawful = c.skip-skip.ensures.lawful } in
    record { value = good.value; lawful = good.lawful }
