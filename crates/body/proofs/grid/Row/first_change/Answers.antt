use Rattle.std.proofs.Common.{◌≡◌, ◌+◌, ◌*◌, ◌/◌, ap, ◌∙◌, arith}
use Rattle.body.specs.Grids.{row_differs}
use Rattle.body.proofs.GridRows.{changes_past, unchanged_below, zeros_from}
use Rattle.body.proofs.GridSearch.{first_later, found_first}
use Rattle.body.proofs.grid.Row.first_change.Goals as goal

pub returns-then-zeros-lt64 : goal.returns-then-zeros-lt64
returns-then-zeros-lt64 c =
    let words = c.args.self.words.now in
    let base = c.args.self.base in
    let from = c.args.from in
    let changes = c.changes.result in
    let past = changes_past words base from changes (omega arith) c.changes.ensures c.changes.type_inv c.if-zeros-lt64.true in
    found_first (row_differs words base) from c.args.limit c.min.result (omega arith) (record {
      from = omega arith;
      to = omega arith;
      none = λ n a b. unchanged_below words base from changes (omega arith) c.changes.ensures n a (omega arith) (omega (arith, past.0));
      here = λ h. let e : c.min.result ≡ from + zeros_from changes from = omega arith in ap (row_differs words base) e ∙ past.1;
    })

pub returns-then-limit-word : goal.returns-then-limit-word
returns-then-limit-word c =
    let words = c.args.self.words.now in
    let base = c.args.self.base in
    found_first (row_differs words base) c.args.from c.args.limit c.args.limit (omega arith) (record {
      from = omega arith;
      to = omega arith;
      none = λ n a b. unchanged_below words base c.args.from c.changes.result (omega arith) c.changes.ensures n a (omega (arith, c.if-zeros-lt64.false)) (omega arith);
      here = λ h. absurd (omega arith);
    })

pub returns : goal.returns
returns c =
    let words = c.args.self.words.now in
    let base = c.args.self.base in
    first_later (row_differs words base) c.args.from (64 * (c.args.from / 64 + 1)) c.args.limit c.later_change.result (omega arith) (omega arith)
    (λ n a b. unchanged_below words base c.args.from c.changes.result (omega arith) c.changes.ensures n a (omega (arith, c.if-zeros-lt64.false)) (omega arith))
    c.later_change.ensures
