use Rattle.std.proofs.Common.{◌<◌, sym, ◌∙◌, arith}
use Rattle.boxes.proofs.Reaching.{reach_is}
use Rattle.boxes.proofs.line.stretch_end.Goals as goal

pub returns-else-at : goal.returns-else-at
returns-else-at g c =
    let inv = c.loop-end.invariant in
    let n-is = c.size-size.ensures in
    reach_is _ _ _ _ (omega (arith, c.requires.0))
    (record {
      from = inv.0;
      to = omega (arith, inv.1, n-is);
      all = inv.2;
      stop = λ _. sym c.at.ensures ∙ c.if-at.false;
    })

pub returns-after-loop-end : goal.returns-after-loop-end
returns-after-loop-end g c =
    let inv = c.loop-end.invariant in
    let n-is = c.size-size.ensures in
    reach_is _ _ _ _ (omega (arith, c.requires.0))
    (record {
      from = inv.0;
      to = omega (arith, inv.1, n-is);
      all = inv.2;
      stop = λ (l : c.loop-end.end < g.L.Line.extent c.args.line.now). absurd (omega (arith, n-is));
    })
