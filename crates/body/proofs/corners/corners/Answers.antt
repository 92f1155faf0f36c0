use Rattle.body.proofs.CornerLaws.{corners_determine, corners_even}
use Rattle.body.proofs.Order.{corners_rise}
use Rattle.body.proofs.Outcome.{corners_outcome_is}
use Rattle.body.proofs.corners.corners.Goals as goal

pub returns : goal.returns
returns g c =
    let m = g.B.Body.meaning c.args.body.now in
    record {
      outcome = corners_outcome_is m _ _ _ _ (c.fill.ensures tt) c.ok_or.ensures.value;
      rises = corners_rise m;
      even = corners_even m c.skip_table-x.ensures.inside;
      determines = corners_determine m c.skip_table-x.ensures.inside;
    }
