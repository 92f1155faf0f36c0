use Rattle.std.proofs.Common.{◌≡◌, ◌≤◌, refl, ap, ◌∙◌, arith}
use Rattle.geometry.specs.Frames.{sides}
use Rattle.geometry.specs.declared.axis.Axis.TheVariants.{Z}
use Rattle.body.specs.Grids.{row_words}
use Rattle.body.proofs.GridCounts.{row_total_le, rows_total, rows_total_le, solid_by_rows}
use Rattle.body.proofs.grid.PackedGrid.count.Goals as goal

pub overflow_add-count : goal.overflow_add-count
overflow_add-count c =
    let words = c.args.self.now.words.now in
    let width = row_words (sides c.args.self.now.frame Z) in
    let side = c.side-side.result in
    let row = c.loop-row.row in
    let small : side ≤ 1024 = omega (arith, c.side-side.ensures) in
    let more = row_total_le c.row.result.words.now c.row.result.base side in
    let so_far = rows_total_le words width side row small in
    omega (arith, c.loop-row.invariant, c.count-count.ensures, more, so_far)

pub returns : goal.returns
returns c =
    let words = c.args.self.now.words.now in
    let width = row_words (sides c.args.self.now.frame Z) in
    let side = c.side-side.result in
    let all : c.loop-row.row ≡ c.rows-row-end.result = omega arith in
    solid_by_rows (sides c.args.self.now.frame) words width side c.rows-row-end.result c.loop-row.count refl c.side-side.ensures c.rows-row-end.ensures.value (c.loop-row.invariant ∙ ap (rows_total words width side) all)
