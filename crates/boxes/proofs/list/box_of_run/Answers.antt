use Rattle.std.proofs.Common.{◌≡◌, true, sym, ap, ◌∙◌, subst}
use Rattle.boxes.specs.Orders.{is_run}
use Rattle.boxes.specs.Records.{PlateAt, plate_records}
use Rattle.boxes.specs.Stretches.{opens}
use Rattle.boxes.proofs.Boxing.{plate_begun, run_records_begun}
use Rattle.boxes.proofs.list.box_of_run.Goals as goal

pub box_of_plate-requires : goal.box_of_plate-requires
box_of_plate-requires g c =
    let view = c.args.view.now in
    let m = g.B.Body.meaning view.body.now in
    let o = view.order in
    let c0 = c.args.c.0 in
    let c1 = c.args.c.1 in
    let first : opens (is_run m o c.args.a c0 c1) c.args.b ≡ true = sym c.is_first.ensures ∙ c.if-not-is_first.false in
    subst (λ e. PlateAt m o c.args.a c.args.b e c0 c1) (sym c.stretch_end-b_end.ensures) (plate_begun m o c.args.a c.args.b c0 c1 c.requires first)

pub returns : goal.returns
returns g c =
    let view = c.args.view.now in
    let m = g.B.Body.meaning view.body.now in
    let o = view.order in
    let a = c.args.a in
    let b = c.args.b in
    let c0 = c.args.c.0 in
    let c1 = c.args.c.1 in
    let first : opens (is_run m o a c0 c1) b ≡ true = sym c.is_first.ensures ∙ c.if-not-is_first.false in
    c.box_of_plate.ensures ∙ ap (λ e. plate_records m o a b e c0 c1) c.stretch_end-b_end.ensures ∙ sym (run_records_begun m o a b c0 c1 first)
