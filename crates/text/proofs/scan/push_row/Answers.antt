use Rattle.std.proofs.Common.{◌∙◌, arith, below_more}
use Rattle.text.proofs.Scanning.{cells_all, cells_more}
use Rattle.text.proofs.scan.push_row.Goals as goal

pub loop-byte-preserved : goal.loop-byte-preserved
loop-byte-preserved c =
    let cell = c.in_ok-cell_of.ensures.cell in (
      cells_more _ _ _ _ _ _ c.loop-byte-test.true c.loop-byte.invariant.0 cell.1 c.in_ok-push.ensures.items,
      below_more _ _ c.loop-byte.invariant.1 cell.0,
    )

pub returns : goal.returns
returns c = record {
  bytes = λ k h. c.loop-byte.invariant.1 k (omega (arith, h, c.loop-byte-test.false));
  cells = c.loop-byte.invariant.0 ∙ cells_all _ _ _ c.loop-byte-test.false;
  other = tt;
}
