use Rattle.std.proofs.Common.{◌≡◌, ◌+◌, ◌*◌, ◌/◌, ◌<◌, ◌≤◌, ap, ◌∙◌, ⊎_elim, subst, ℕ, arith}
use Rattle.std.proofs.lemmas.Bool.{cases_lt}
use Rattle.body.specs.Grids.{bit, row_differs}
use Rattle.body.proofs.GridRows.{changes_past, unchanged_below, zeros_from, zeros_whole}
use Rattle.body.proofs.GridSearch.{found_first}
use Rattle.body.proofs.grid.Row.later_change.Goals as goal

pub returns-then-zeros-lt64 : goal.returns-then-zeros-lt64
returns-then-zeros-lt64 c =
    let words = c.args.self.words.now in
    let base = c.args.self.base in
    let at = 64 * c.loop-w.w in
    let changes = c.changes.result in
    let here : c.loop-w.w ≡ at / 64 = omega arith in
    let whole = zeros_whole changes c.loop-w.w in
    let is = subst (λ (w : ℕ). (b : ℕ) → b < 64 → 0 < 64 * w + b → bit changes b ≡ row_differs words base (64 * w + b)) here c.changes.ensures in
    let past = changes_past words base at changes (omega (arith, c.loop-w.invariant.0)) is c.changes.type_inv (omega (arith, whole, c.if-zeros-lt64.true)) in
    found_first (row_differs words base) (64 * c.args.start) c.args.limit c.min.result (omega arith) (record {
      from = omega (arith, c.loop-w.invariant.0);
      to = omega arith;
      none = λ n a b. ⊎_elim (λ (h : n < at). c.loop-w.invariant.1 n a h) (λ (h : at ≤ n). unchanged_below words base at changes (omega (arith, c.loop-w.invariant.0)) is n h (omega (arith, whole)) (omega (arith, past.0))) (cases_lt n at);
      here = λ h. let e : c.min.result ≡ at + zeros_from changes at = omega (arith, whole) in ap (row_differs words base) e ∙ past.1;
    })

pub loop-w-preserved : goal.loop-w-preserved
loop-w-preserved c =
    let words = c.args.self.words.now in
    let base = c.args.self.base in
    let at = 64 * c.loop-w.w in
    let changes = c.changes.result in
    let here : c.loop-w.w ≡ at / 64 = omega arith in
    let is = subst (λ (w : ℕ). (b : ℕ) → b < 64 → 0 < 64 * w + b → bit changes b ≡ row_differs words base (64 * w + b)) here c.changes.ensures in (
      omega (arith, c.loop-w.invariant.0),
      λ n a b. ⊎_elim (λ (h : n < at). c.loop-w.invariant.1 n a h) (λ (h : at ≤ n). unchanged_below words base at changes (omega (arith, c.loop-w.invariant.0)) is n h (omega (arith, zeros_whole changes c.loop-w.w, c.if-zeros-lt64.false)) (omega arith)) (cases_lt n at),
    )

pub returns : goal.returns
returns c =
    found_first (row_differs c.args.self.words.now c.args.self.base) (64 * c.args.start) c.args.limit c.args.limit (omega arith)
    (record { from = omega arith; to = omega arith; none = λ n a b. c.loop-w.invariant.1 n a (omega arith); here = λ h. absurd (omega arith) })
