use Rattle.std.proofs.Common.{◌≡◌, suc, ◌+◌, ◌-◌, ◌<◌, ◌++◌, sym, refl, ap, ◌∙◌, subst, arith}
use Rattle.std.specs.Option.{option_to_list}
use Rattle.tables.specs.Tables.{listed}
use Rattle.tables.proofs.Listed.{listed_jump, listed_none, listed_past}
use Rattle.tables.proofs.Placing.{behind_none, behind_zero, both, placed_behind, stopped, went_on}
use Rattle.boxes.specs.Orders.{cells, side_c}
use Rattle.boxes.specs.Records.{RunAt, records_at}
use Rattle.boxes.proofs.Boxing.{records_none, run_begun, run_found}
use Rattle.boxes.proofs.Reaching.{Reaches, reaches}
use Rattle.boxes.proofs.Starting.{Starts, starts_first, starts_next}
use Rattle.boxes.proofs.list.write_row.Goals as goal

pub loop-c-init : goal.loop-c-init
loop-c-init g c =
    let view = c.args.view.now in
    let m = g.B.Body.meaning view.body.now in
    let o = view.order in
    let Q = cells m o c.args.a c.args.b in
    let n = side_c m o in
    let part = records_at m o c.args.a c.args.b in
    let k = c.first_start-c.result in
    let starts : Starts Q n 0 k = subst (λ r. Starts Q n 0 r) (sym c.first_start-c.ensures) (starts_first Q n) in
    let past : listed part (k + (n - k)) 0 ≡ listed part (n - k) (0 + k) = listed_past part k (n - k) 0 (λ i a b. records_none m o _ _ i (starts.none i a (omega arith))) in
    let whole : listed part (n - k) k ≡ listed part n 0 = ap (listed part (n - k)) (omega arith) ∙ sym past ∙ ap (λ t. listed part t 0) (omega (arith, starts.to)) in
    (starts.to, starts.here, omega arith, refl, ap (λ l. placed_behind 0 l c.args.table.now) whole)

pub box_of_run-requires : goal.box_of_run-requires
box_of_run-requires g c =
    let view = c.args.view.now in
    let m = g.B.Body.meaning view.body.now in
    let o = view.order in
    let opened = c.loop-c.invariant.1 (omega (arith, c.size-size.ensures)) in
    subst (λ e. RunAt m o c.args.a c.args.b c.loop-c.c e) (sym c.stretch_end-end.ensures) (run_begun m view.inside o c.args.a c.args.b c.loop-c.c opened)

pub gap_end-c-requires-clause-within : goal.gap_end-c-requires-clause-within
gap_end-c-requires-clause-within g c =
    let view = c.args.view.now in
    let m = g.B.Body.meaning view.body.now in
    let run = reaches (cells m view.order c.args.a c.args.b) (side_c m view.order) c.loop-c.c c.loop-c.invariant.0 in
    omega (arith, run.to, c.stretch_end-end.ensures)

pub gap_end-c-requires-clause-gap : goal.gap_end-c-requires-clause-gap
gap_end-c-requires-clause-gap g c =
    let view = c.args.view.now in
    let m = g.B.Body.meaning view.body.now in
    let Q = cells m view.order c.args.a c.args.b in
    let n = side_c m view.order in
    let run : Reaches Q n c.loop-c.c c.stretch_end-end.result = subst (λ r. Reaches Q n c.loop-c.c r) (sym c.stretch_end-end.ensures) (reaches Q n c.loop-c.c c.loop-c.invariant.0) in
    run.stop

pub returns-in_err-used : goal.returns-in_err-used
returns-in_err-used g c =
    let view = c.args.view.now in
    let m = g.B.Body.meaning view.body.now in
    let o = view.order in
    let n = side_c m o in
    let part = records_at m o c.args.a c.args.b in
    let k = c.loop-c.c in
    let inv = c.loop-c.invariant in
    let below : k < n = omega (arith, c.size-size.ensures) in
    let found : option_to_list c.box_of_run.result ≡ part k = run_found m view.inside o _ _ k c.stretch_end-end.result _ (inv.1 below) c.stretch_end-end.ensures (λ _. c.box_of_run.ensures) in
    let parts = listed_jump part n k (suc k) (omega arith) below (λ i a b. absurd (omega arith)) in
    both c.from_residual.ensures refl
    ∙ stopped c.loop-c.used (option_to_list c.box_of_run.result) (listed part (n - suc k) (suc k)) c.loop-c.table _ _ inv.2 c.write_found.ensures c.in_err-used.was
    ∙ ap (λ l. placed_behind c.loop-c.used (l ++ listed part (n - suc k) (suc k)) c.loop-c.table) found
    ∙ ap (λ l. placed_behind c.loop-c.used l c.loop-c.table) (sym parts)
    ∙ inv.4
    ∙ behind_zero _ _

pub loop-c-smaller : goal.loop-c-smaller
loop-c-smaller g c =
    let view = c.args.view.now in
    let m = g.B.Body.meaning view.body.now in
    let Q = cells m view.order c.args.a c.args.b in
    let n = side_c m view.order in
    let below : c.loop-c.c < n = omega (arith, c.size-size.ensures) in
    let next = starts_next Q n c.loop-c.c c.stretch_end-end.result c.gap_end-c.result below (c.loop-c.invariant.1 below) c.stretch_end-end.ensures c.gap_end-c.ensures in
    omega (arith, next.0)

pub loop-c-preserved : goal.loop-c-preserved
loop-c-preserved g c =
    let view = c.args.view.now in
    let m = g.B.Body.meaning view.body.now in
    let o = view.order in
    let Q = cells m o c.args.a c.args.b in
    let n = side_c m o in
    let part = records_at m o c.args.a c.args.b in
    let k = c.loop-c.c in
    let j = c.gap_end-c.result in
    let inv = c.loop-c.invariant in
    let below : k < n = omega (arith, c.size-size.ensures) in
    let opened = inv.1 below in
    let found : option_to_list c.box_of_run.result ≡ part k = run_found m view.inside o _ _ k c.stretch_end-end.result _ opened c.stretch_end-end.ensures (λ _. c.box_of_run.ensures) in
    let on = went_on c.loop-c.used _ (option_to_list c.box_of_run.result) (listed part (n - j) j) c.loop-c.table _ _ inv.2 c.write_found.ensures c.in_ok-used.was in
    let next = starts_next Q n k c.stretch_end-end.result j below opened c.stretch_end-end.ensures c.gap_end-c.ensures in
    let parts = listed_jump part n k j next.0 next.1.to (λ i a b. records_none m o _ _ i (next.1.none i a b)) in (
      next.1.to,
      next.1.here,
      omega (arith, on.0, on.1),
      on.1 ∙ inv.3,
      on.2
          ∙ ap (λ l. placed_behind c.loop-c.used (l ++ listed part (n - j) j) c.loop-c.table) found
          ∙ ap (λ l. placed_behind c.loop-c.used l c.loop-c.table) (sym parts)
          ∙ inv.4,
    )

pub returns : goal.returns
returns g c =
    let view = c.args.view.now in
    let m = g.B.Body.meaning view.body.now in
    let o = view.order in
    let n = side_c m o in
    let part = records_at m o c.args.a c.args.b in
    let k = c.loop-c.c in
    let inv = c.loop-c.invariant in
    let over : n - k ≡ 0 = omega (arith, c.size-size.ensures) in
    sym (behind_none _ _ inv.2) ∙ ap (λ l. placed_behind c.loop-c.used l c.loop-c.table) (sym (ap (λ t. listed part t k) over ∙ listed_none part k)) ∙ inv.4 ∙ behind_zero _ _
