use Rattle.std.proofs.Common.{◌-◌, sym, ◌∙◌, arith}
use Rattle.boxes.proofs.Reaching.{all_true_is, all_true_not}
use Rattle.boxes.proofs.line.covers.Goals as goal

pub returns-then-not-at : goal.returns-then-not-at
returns-then-not-at g c =
    let m = g.L.Line in
    let line = c.args.line.now in
    let inv = c.loop-at.invariant in
    sym (all_true_not (m.holds line) (m.extent line) (c.args.high - c.args.low) c.args.low c.loop-at.at inv.0 (omega (arith, inv.0)) (sym c.at.ensures ∙ c.if-not-at.true))

pub returns : goal.returns
returns g c =
    let m = g.L.Line in
    let line = c.args.line.now in
    let inv = c.loop-at.invariant in
    sym (all_true_is (m.holds line) (m.extent line) (c.args.high - c.args.low) c.args.low (λ j a b. inv.1 j a (omega arith)))
