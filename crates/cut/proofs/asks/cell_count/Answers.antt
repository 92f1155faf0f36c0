use Rattle.std.proofs.Common.{arith}
use Rattle.cut.proofs.Asking.{Reads, cells_bound, cells_from, face_bound}
use Rattle.cut.proofs.asks.cell_count.Goals as goal

pub overflow_mul-result : goal.overflow_mul-result
overflow_mul-result c = omega (arith, face_bound c.args.item c.lower-low.result c.upper-high.result (record { lower = c.lower-low.ensures; upper = c.upper-high.ensures }))

pub overflow_mul-result-2 : goal.overflow_mul-result-2
overflow_mul-result-2 c = omega (arith, cells_bound c.args.item c.lower-low.result c.upper-high.result (record { lower = c.lower-low.ensures; upper = c.upper-high.ensures }))

pub returns : goal.returns
returns c =
    let reads : Reads c.args.item c.lower-low.result c.upper-high.result = record { lower = c.lower-low.ensures; upper = c.upper-high.ensures } in
    record { value = cells_from _ _ _ reads; bound = cells_bound _ _ _ reads }
