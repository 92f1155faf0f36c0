use Rattle.std.proofs.Common.{◌≡◌, ap, ◌∙◌}
use Rattle.geometry.specs.Shifts.{steps}
use Rattle.body.specs.Solids.{Solid}
use Rattle.layers.proofs.Moving.{translated_beneath, translated_here}
use Rattle.layers.proofs.translation.TranslationBody.skip.Goals as goal

pub returns-in-Here : goal.returns-in-Here
returns-in-Here g c =
    let m : Solid = g.B.Body.meaning c.args.self.now.body in
    let a = c.args.axis in
    let same : c.side-side.result ≡ m.side a = c.side-side.ensures ∙ ap (λ s. s a) c.frame.ensures.frame in
    let good =
    translated_here m (steps c.args.self.now.shift) a c.args.plane (g.B.Body.skips c.args.self.now.body) c.side-side.result same
    c.in-Here.skip c.frame.ensures.inside c.in-Here.ensures in
    record { value = good.value; lawful = good.lawful }

pub returns-in-Beneath : goal.returns-in-Beneath
returns-in-Beneath g c =
    let m : Solid = g.B.Body.meaning c.args.self.now.body in
    let a = c.args.axis in
    let same : c.side-side.result ≡ m.side a = c.side-side.ensures ∙ ap (λ s. s a) c.frame.ensures.frame in
    let good =
    translated_beneath m (steps c.args.self.now.shift) a c.args.plane (g.B.Body.skips c.args.self.now.body) c.side-side.result same
    c.in-Beneath.beneath c.skip.result c.plane_more.result c.in-Beneath.ensures
    record { value = c.skip.ensures.value; lawful = c.skip.ensures.lawful }
    c.plane_more.ensures in
    record { value = good.value; lawful = good.lawful }
