use Rattle.std.proofs.Common.{sym, subst, ap, ap₂, ◌∙◌}
use Rattle.geometry.specs.Shifts.{steps}
use Rattle.geometry.specs.declared.shift.Shift.{Shift}
use Rattle.body.specs.Solids.{Skips}
use Rattle.layers.specs.Layers.{translated}
use Rattle.piles.specs.declared.pile.Pile.{Pile}
use Rattle.piles.specs.Piles.{piled}
use Rattle.piles.proofs.pile.PileBody.+pile.Goals as goal

pub skip-returns-in-Translated-clause-lawful : goal.skip-returns-in-Translated-clause-lawful
skip-returns-in-Translated-clause-lawful t c =
    let is = ap₂ (λ (s : Shift) (p : Pile). translated (steps s) (piled p)) c.translation.ensures.0 (c.translation.ensures.1 ∙ c.deref.ensures) ∙ sym (ap piled c.in-Translated.is) in
    subst (λ m. Skips m c.args.axis c.args.plane c.skip-in-Translated.result) is c.skip-in-Translated.ensures.lawful
