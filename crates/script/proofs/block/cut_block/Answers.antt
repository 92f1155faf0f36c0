use Rattle.std.proofs.Common.{length, take, vec_items, sym, ap, ◌∙◌}
use Rattle.std.proofs.lemmas.List.{with_items_is}
use Rattle.std.proofs.lemmas.Result.{IfOk-weaker}
use Rattle.std.specs.Vec.{with_items}
use Rattle.tables.specs.Tables.{capacity}
use Rattle.boxes.specs.Records.{cut_outcome}
use Rattle.script.specs.Scripts.{boxed, free, overfull, runs, standing, state_of, told, with_boxes, world}
use Rattle.script.proofs.Fronts.{cut_overfull, cut_stands}
use Rattle.script.proofs.block.cut_block.Goals as goal

pub returns-in-Ok-clause-went : goal.returns-in-Ok-clause-went
returns-in-Ok-clause-went g c =
    let m = g.B.Body.meaning c.args.body in
    let o = c.args.order in
    let s = state_of c.args.context.now in
    let n = c.in-Ok.standing.count in
    let left = c.args.calls.now in
    let was = c.in-Ok.ensures.outcome in
    let kept = with_items_is c.args.context.now.boxes c.cut.new.table (c.cut.auto.table ∙ c.as_mut_slice.ensures.len) in
    let boxes = vec_items (with_items c.args.context.now.boxes c.cut.new.table) in
    IfOk-weaker c.ask_cut-left.result _ _ (λ rest went h.
    ap (λ w. runs w left) (cut_stands h m o s _ n (was.0 ∙ ap (cut_outcome m o) c.as_mut_slice.ensures.value))
    ∙ ap (λ l. runs (world h (standing m o n) (told (with_boxes s l) (boxed o (take n l)))) left) (sym kept)
    ∙ ap (λ p. runs (world h (standing m p n) (told (with_boxes s boxes) (boxed p (take n boxes)))) left) (sym was.2)
    ∙ went m h) c.ask_cut-left.ensures.went

pub returns-clause-went : goal.returns-clause-went
returns-clause-went g c = λ h.
    let m = g.B.Body.meaning c.args.body in
    let o = c.args.order in
    let s = state_of c.args.context.now in
    let x = c.in-Err.refusal in
    let left = c.args.calls.now in
    let was = c.in-Err.ensures.outcome in
    let kept = with_items_is c.args.context.now.boxes c.cut.new.table (c.cut.auto.table ∙ c.as_mut_slice.ensures.len) in
    ap (λ w. runs w left) (cut_overfull h m o s _ x (was.0 ∙ ap (cut_outcome m o) c.as_mut_slice.ensures.value) (c.cut.auto.table ∙ ap length c.as_mut_slice.ensures.value))
    ∙ ap (λ l. runs (world h (free m) (told (with_boxes s l) (overfull o x (take (capacity l) l)))) left) (sym kept)
    ∙ ap (λ t. runs (world h (free m) t) left) (sym c.in_ok-tell_overfull-in-Err.ensures)
