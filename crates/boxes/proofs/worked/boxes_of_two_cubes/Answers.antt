use Rattle.std.proofs.Common.{min, cond, leb, Ok, Err, refl, ap}
use Rattle.geometry.specs.declared.refusal.Refusal.TheVariants.{BoxesFull}
use Rattle.tables.specs.Tables.{listed}
use Rattle.boxes.specs.Cuts.{box_at}
use Rattle.boxes.specs.Records.{cut_outcome}
use Rattle.boxes.proofs.worked.boxes_of_two_cubes.Goals as goal

pub returns : goal.returns
unfolding listed box_at cut_outcome
returns c =
    record {
      boxes = refl;
      count = refl;
      short = λ table e. ap (λ n. cond (leb 6 (min n 65536)) (Ok 6) (Err BoxesFull)) e;
      exact = λ table e. ap (λ n. cond (leb 6 (min n 65536)) (Ok 6) (Err BoxesFull)) e;
    }
