use Rattle.std.proofs.Common.{sym, ap, ◌∙◌}
use Rattle.geometry.specs.Shifts.{steps}
use Rattle.layers.specs.Layers.{translated}
use Rattle.piles.specs.declared.pile.Pile.{Pile}
use Rattle.piles.specs.Piles.{piled}
use Rattle.piles.proofs.pile.Pile.+duplicate.Goals as goal

pub returns-in_ok-copy-in-Translated : goal.returns-in_ok-copy-in-Translated
returns-in_ok-copy-in-Translated t c =
    let d = steps c.in-Translated.shift in
    ap (λ (x : Pile). translated d (piled x)) c.in_ok-copy-in-Translated.ensures.ok
    ∙ ap (translated d) c.in_ok-duplicate-in-Translated.ensures
    ∙ ap (λ (x : Pile). translated d (piled x)) c.deref.ensures
    ∙ sym (ap piled c.in-Translated.is)
