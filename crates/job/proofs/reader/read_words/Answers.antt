use Rattle.std.proofs.Common.{sym, ◌∙◌, arith}
use Rattle.job.specs.Jobs.{left}
use Rattle.job.proofs.Refusing.{number_good, only_fits, refused_by, too_few}
use Rattle.job.proofs.Saying.{later_later, left_more, numbers_more}
use Rattle.job.proofs.reader.read_words.Goals as goal

pub loop-preserved : goal.loop-preserved
loop-preserved c =
    let next = c.in_ok-line.ensures.line in
    let pushed = c.in_ok-push.ensures in
    let inv = c.loop.invariant in
    let lines = left c.args.text.now in
    let n = c.loop.counter in (
      later_later _ _ _ inv.0 c.need_line.ensures.later,
      omega (arith, pushed.len, inv.1),
      numbers_more lines _ _ n _ inv.3 next _ _ _ (sym c.loop.words.ok.0 ∙ inv.1) inv.2 c.in_ok-last_number.ensures.number pushed.items,
      left_more lines _ _ n _ inv.3 next,
    )

pub returns-in_err-line-clause-none : goal.returns-in_err-line-clause-none
returns-in_err-line-clause-none c = refused_by _ c.from_residual.result c.from_residual.ensures.1 (λ _ _ _ ns is numbers. too_few _ _ c.loop.counter _ c.loop-test.true c.loop.invariant.3 c.in_err-line.ensures.none (omega (arith, numbers.0)))

pub returns-in_err-last_number-clause-none : goal.returns-in_err-last_number-clause-none
returns-in_err-last_number-clause-none c = refused_by _ c.from_residual-in_err-last_number.result c.from_residual-in_err-last_number.ensures.1 (λ _ _ _ ns is numbers.
    let only = number_good _ _ c.loop.counter _ c.loop-test.true c.loop.invariant.3 _ _ c.in_ok-line.ensures.line ns is numbers in
    c.in_err-last_number.ensures.none _ (only_fits _ _ only) only)
