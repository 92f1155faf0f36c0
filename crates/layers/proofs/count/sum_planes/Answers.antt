use Rattle.std.proofs.Common.{◌<◌, ◌≤◌, get_or, ap, ◌∙◌, arith}
use Rattle.layers.proofs.Counting.{counted_more, stretch_bound}
use Rattle.body.specs.Solids.{total}
use Rattle.layers.proofs.count.sum_planes.Goals as goal

-- where the walk goes to
to : (g : _) (c : goal.After-from-in-loop-plane g) → (c.loop-plane.plane < get_or c.args.table.now.next c.from.result 0) × (get_or c.args.table.now.next c.from.result 0 ≤ c.args.table.now.side)
to g c = rw c.from.ensures (c.args.table.now.forth c.loop-plane.plane c.loop-plane-test.true)

pub loop-plane-preserved : goal.loop-plane-preserved
loop-plane-preserved g c =
    let p = c.loop-plane.plane in
    let inv = c.loop-plane.invariant in
    let q = get_or c.args.table.now.next c.from.result 0 in
    let forth = to g c in
    let gap = c.from-in-loop-plane.ensures in (
      forth.1,
      rw gap (stretch_bound p q c.loop-plane.sum c.count-here.result 1048576 (omega (arith, forth.0)) inv.1 (c.requires.small p _ c.count-here.ensures)),
      λ m a f indexed each steady.
          let below : p < m.side a = omega (arith, indexed.whole, c.loop-plane-test.true) in
          rw gap (counted_more f p q c.loop-plane.sum c.count-here.result (omega (arith, forth.0)) (steady p q (rw c.from.ensures (indexed.each p c.loop-plane-test.true))) (inv.2 m a f indexed each steady) (each p _ below c.count-here.ensures)),
    )

pub returns : goal.returns
returns g c m a f indexed each steady =
    c.loop-plane.invariant.2 m a f indexed each steady ∙ ap (total f) (omega (arith, c.loop-plane.invariant.0, indexed.whole))
