use Rattle.std.proofs.Common.{◌<◌, length, sym, ◌∙◌, arith}
use Rattle.text.proofs.Reading.{number_all, number_more, number_of_some}
use Rattle.text.proofs.text.number.Goals as goal

pub returns-in_err-number : goal.returns-in_err-number
returns-in_err-number c =
    let some : 0 < length c.args.word.now = omega arith in
    c.from_residual.ensures ∙ sym (number_more _ _ _ _ c.loop-byte-test.true c.in_err-number.ensures) ∙ c.loop-byte.invariant ∙ sym (number_of_some _ some)

pub loop-byte-preserved : goal.loop-byte-preserved
loop-byte-preserved c = sym (number_more _ _ _ _ c.loop-byte-test.true c.in_ok-number.ensures) ∙ c.loop-byte.invariant

pub returns : goal.returns
returns c =
    let some : 0 < length c.args.word.now = grind (arith, c.if-is_empty.ensures) in
    sym (number_all _ _ _ c.loop-byte-test.false) ∙ c.loop-byte.invariant ∙ sym (number_of_some _ some)
