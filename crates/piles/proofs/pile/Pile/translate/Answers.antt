use Rattle.std.proofs.Common.{ap}
use Rattle.geometry.specs.Shifts.{steps}
use Rattle.layers.specs.Layers.{translated}
use Rattle.piles.specs.declared.pile.Pile.{Pile}
use Rattle.piles.specs.Piles.{piled}
use Rattle.piles.proofs.pile.Pile.translate.Goals as goal

pub returns : goal.returns
returns c = ap (λ (x : Pile). translated (steps c.args.shift) (piled x)) c.in_ok-new.ensures.ok
