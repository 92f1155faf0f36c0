use Rattle.std.proofs.Common.{sym, ap, ◌∙◌}
use Rattle.piles.specs.Piles.{piled}
use Rattle.piles.proofs.pile.PileBody.+frame.Goals as goal

pub returns-in-Boxes-clause-frame : goal.returns-in-Boxes-clause-frame
returns-in-Boxes-clause-frame t c = c.frame-in-Boxes.ensures.frame ∙ ap (λ p. (piled p).side) (sym c.in-Boxes.is)
