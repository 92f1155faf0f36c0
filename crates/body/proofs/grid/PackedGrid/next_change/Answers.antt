use Rattle.std.proofs.Common.{◌-◌, ◌*◌, sym, ◌∙◌, ap₂, arith}
use Rattle.geometry.specs.Frames.{sides}
use Rattle.geometry.specs.declared.axis.Axis.TheVariants.{X, Y, Z}
use Rattle.body.specs.Grids.{first, row_differs, row_words, rows_differ}
use Rattle.body.proofs.GridRows.{rows_none, rows_more, rows_rest}
use Rattle.body.proofs.GridSearch.{search_found}
use Rattle.body.proofs.grid.PackedGrid.next_change.Goals as goal

pub loop-row-init : goal.loop-row-init
loop-row-init c = rows_none c.args.self.now.words.now (row_words (sides c.args.self.now.frame Z)) _ _ (omega arith)

pub returns-then-best-from : goal.returns-then-best-from
returns-then-best-from c =
    let width = row_words (sides c.args.self.now.frame Z) in
    let at = c.if-best-from.true in
    at ∙ rows_rest c.args.self.now.words.now width c.args.from c.args.limit (omega arith) c.loop-row.row (sides c.args.self.now.frame X * sides c.args.self.now.frame Y) (omega (arith, c.rows-row-end.ensures.value)) (sym at ∙ c.loop-row.invariant)

pub first_change-best-requires : goal.first_change-best-requires
first_change-best-requires c =
    let found = search_found (rows_differ c.args.self.now.words.now (row_words (sides c.args.self.now.frame Z)) c.loop-row.row) c.args.from c.args.limit (omega arith) in
    (omega arith, (omega (arith, found.from, c.loop-row.invariant), omega (arith, found.to, c.loop-row.invariant)))

pub loop-row-preserved : goal.loop-row-preserved
loop-row-preserved c = rows_more c.args.self.now.words.now (row_words (sides c.args.self.now.frame Z)) c.args.from c.args.limit (omega arith) c.loop-row.row c.loop-row.best _ c.loop-row.invariant (c.first_change-best.ensures ∙ ap₂ (λ words base. first (row_differs words base) (c.loop-row.best - c.args.from) c.args.from) c.row.ensures.0 c.row.ensures.1)
