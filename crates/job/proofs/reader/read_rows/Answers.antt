use Rattle.std.proofs.Common.{subst}
use Rattle.job.specs.Jobs.{left}
use Rattle.text.specs.Problems.{Fault}
use Rattle.job.proofs.Refusing.{refused_by, row_good, too_few}
use Rattle.job.proofs.Saying.{joined_rows, later_later, left_more, rows_more}
use Rattle.job.proofs.reader.read_rows.Goals as goal

pub loop-preserved : goal.loop-preserved
loop-preserved c =
    let inv = c.loop.invariant in
    let lines = left c.args.text.now in
    let n = c.loop.counter in
    let next = c.in_ok-row.ensures.line in
    let pushed = c.in_ok-push_row.ensures in (
      later_later _ _ _ inv.0 c.need_line.ensures.later,
      rows_more lines _ _ n _ inv.3 next _ inv.1 c.if-row-side.false pushed.bytes,
      joined_rows lines _ _ n _ inv.3 next _ _ inv.2 pushed.cells,
      left_more lines _ _ n _ inv.3 next,
    )

pub returns-in_err-row-clause-none : goal.returns-in_err-row-clause-none
returns-in_err-row-clause-none c = refused_by _ c.from_residual.result c.from_residual.ensures.1 (λ _ _ _ rows. too_few _ _ c.loop.counter _ c.loop-test.true c.loop.invariant.3 c.in_err-row.ensures.none rows.0)

pub returns-then-row-side-clause-none : goal.returns-then-row-side-clause-none
returns-then-row-side-clause-none c = λ _ rows. c.if-row-side.true (row_good _ _ c.loop.counter _ c.loop-test.true c.loop.invariant.3 _ _ c.in_ok-row.ensures.line _ rows).0

pub returns-in_err-push_row-clause-none : goal.returns-in_err-push_row-clause-none
returns-in_err-push_row-clause-none c = refused_by _ c.from_residual-in_err-push_row.result c.from_residual-in_err-push_row.ensures.1 (λ e is fault rows. c.in_err-push_row.ensures.other (subst Fault is fault) (row_good _ _ c.loop.counter _ c.loop-test.true c.loop.invariant.3 _ _ c.in_ok-row.ensures.line _ rows).1)
