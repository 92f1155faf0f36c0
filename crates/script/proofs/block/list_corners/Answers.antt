use Rattle.std.proofs.Common.{take, ap, ◌∙◌}
use Rattle.std.proofs.lemmas.List.{with_items_is}
use Rattle.script.proofs.Fronts.{corners_listed, corners_refused}
use Rattle.script.proofs.block.list_corners.Goals as goal

pub returns-in-Ok : goal.returns-in-Ok
returns-in-Ok g c =
    let m = g.B.Body.meaning c.args.body.now in
    let long = c.as_mut_slice.ensures.len ∙ c.in_ok-table.ensures.len in
    let kept = with_items_is c.in_ok-table.table c.corners.new.table (c.corners.auto.table ∙ c.as_mut_slice.ensures.len) in
    corners_listed m _ _ _ long _ c.corners.ensures.outcome c.in-Ok.count _ c.in-Ok.is (c.truncate.ensures.items ∙ ap (take c.in-Ok.count) kept)

pub returns-in-Err : goal.returns-in-Err
returns-in-Err g c =
    let m = g.B.Body.meaning c.args.body.now in
    let long = c.as_mut_slice.ensures.len ∙ c.in_ok-table.ensures.len in
    corners_refused m _ _ _ long _ c.corners.ensures.outcome c.in-Err.refusal c.in-Err.is
