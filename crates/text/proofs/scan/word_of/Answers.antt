use Rattle.std.proofs.Common.{◌<◌, length, arith}
use Rattle.std.specs.Slice.Iter.{iter_rest}
use Rattle.text.proofs.Scanning.{byte_one, one_below, word_fits}
use Rattle.text.proofs.scan.word_of.Goals as goal

pub overflow_mul-word : goal.overflow_mul-word
overflow_mul-word c =
    let some : 0 < length (iter_rest c.loop-cell.cell-iterator.iter) = grind (arith, c.in-Some.ensures.steps) in
    omega (arith, c.loop-cell.invariant.1, word_fits _ _ _ some c.loop-cell.invariant.0 c.requires)

pub overflow_add-word : goal.overflow_add-word
overflow_add-word c =
    let some : 0 < length (iter_rest c.loop-cell.cell-iterator.iter) = grind (arith, c.in-Some.ensures.steps) in
    omega (arith, c.loop-cell.invariant.1, word_fits _ _ _ some c.loop-cell.invariant.0 c.requires, byte_one c.in-Some.cell.now, one_below c.in-Some.cell.now)
