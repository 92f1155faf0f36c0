use Rattle.std.proofs.Common.{◌∙◌, Ok, ap, sym, rules}
use Rattle.exports.proofs.Giving.{cut_is, given_is, meant, refused_is}
use Rattle.exports.proofs.calls.cut_words.Goals as goal

pub returns-in_err-grid : goal.returns-in_err-grid
returns-in_err-grid c =
    let given = given_is c.new-2.result _ _ _ _ _ c.in_ok-frame.ensures c.new-2.ensures in
    let refused = refused_is c.args.order _ c.args.table.now _ (ap meant (sym c.in_err-grid.was) ∙ given) in
    search rules

pub returns-in_err-count : goal.returns-in_err-count
returns-in_err-count c =
    let given = given_is c.new-2.result _ _ _ _ _ c.in_ok-frame.ensures c.new-2.ensures in
    cut_is _ c.args.order _ _ _ _ _ (ap meant (sym c.in_ok-grid.was) ∙ given) c.write_boxes.ensures.boxes (search rules)

pub returns : goal.returns
returns c =
    let given = given_is c.new-2.result _ _ _ _ _ c.in_ok-frame.ensures c.new-2.ensures in
    cut_is _ c.args.order _ _ _ _ (Ok c.in_ok-count.count) (ap meant (sym c.in_ok-grid.was) ∙ given) c.write_boxes.ensures.boxes (search rules)
