use Rattle.std.proofs.Common.{◌∙◌, rules, refl}
use Rattle.cut.proofs.Inspecting.{inspected_is, inspected_not, measured}
use Rattle.cut.proofs.inspect.inspect.Goals as goal

pub returns-in-Ok-clause-answer : goal.returns-in-Ok-clause-answer
returns-in-Ok-clause-answer g c =
    let m = g.B.Body.meaning c.args.body in
    let was = c.in-Ok.ensures in
    let volume = c.volume-measured.ensures ∙ measured m c.args.order _ _ _ was.outcome.0 c.in-Ok.standing.count refl c.cut.auto.table was.lawful.volume in
    let is = inspected_is m c.args.order _ _ _ was.outcome.0 c.in-Ok.standing.count refl c.cut.auto.table was.lawful.volume in
    search rules

pub returns-in-Err-clause-answer : goal.returns-in-Err-clause-answer
returns-in-Err-clause-answer g c =
    inspected_not (g.B.Body.meaning c.args.body) c.args.order _ _ _ c.in-Err.ensures.outcome.0 _ refl
