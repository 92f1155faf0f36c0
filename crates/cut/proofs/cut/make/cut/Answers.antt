use Rattle.std.proofs.Common.{sym, refl, ap}
use Rattle.std.specs.Option.{ok_or}
use Rattle.geometry.specs.declared.refusal.Refusal.TheVariants.{BoxesFull}
use Rattle.boxes.proofs.Outcomes.{cut_outcome_is}
use Rattle.cut.proofs.cut.make.cut.Goals as goal

pub returns-in-Some-clause-outcome : goal.returns-in-Some-clause-outcome
returns-in-Some-clause-outcome g c =
    (cut_outcome_is _ _ _ _ _ _ c.write_boxes.ensures.boxes (ap (λ u. ok_or u BoxesFull) (sym c.in-Some.is)), refl, refl)

pub returns-in-None-clause-outcome : goal.returns-in-None-clause-outcome
returns-in-None-clause-outcome g c =
    (cut_outcome_is _ _ _ _ _ _ c.write_boxes.ensures.boxes (ap (λ u. ok_or u BoxesFull) (sym c.in-None.is)), refl)
