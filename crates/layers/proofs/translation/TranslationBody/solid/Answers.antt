use Rattle.std.proofs.Common.{◌≡◌, ◌&&◌, sym, ap, ◌∙◌, rules}
use Rattle.geometry.specs.Frames.{in_frame}
use Rattle.geometry.specs.Shifts.{steps}
use Rattle.body.specs.Solids.{Solid}
use Rattle.layers.specs.Layers.{cell_less, of_cell}
use Rattle.layers.proofs.translation.TranslationBody.solid.Goals as goal

pub returns : goal.returns
returns g c =
    let m : Solid = g.B.Body.meaning c.args.self.now.body in
    let x = c.args.cell.x in
    let y = c.args.cell.y in
    let z = c.args.cell.z in
    let e : c.is_some_and.result ≡ of_cell m.holds c.cell_less-beneath.result = search rules in
    e ∙ sym (c.cell_less-beneath.ensures m.holds) ∙ ap (λ s. in_frame s x y z && cell_less (steps c.args.self.now.shift) m.holds x y z) c.frame.ensures.frame
