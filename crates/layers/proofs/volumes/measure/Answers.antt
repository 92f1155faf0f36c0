use Rattle.std.proofs.Common.{◌≡◌, true, sym, ◌∙◌, ap₂, arith}
use Rattle.std.proofs.lemmas.Bool.{cond-false}
use Rattle.body.specs.Solids.{Solid}
use Rattle.layers.specs.Laws.{same_sides}
use Rattle.layers.proofs.Counting.{cells_bound, small_from}
use Rattle.layers.proofs.Obeying.{both_within, lawful_layers, measured}
use Rattle.layers.proofs.volumes.measure.Goals as goal

pub returns-then-not-same_frame : goal.returns-then-not-same_frame
returns-then-not-same_frame g c =
    let m : Solid = g.A.Body.meaning c.args.first.now in
    let n : Solid = g.B.Body.meaning c.args.second.now in
    let apart = sym (c.if-not-same_frame.ensures ∙ ap₂ same_sides c.frame.ensures.frame c.frame-2.ensures.frame) in
    record { answer = sym (cond-false _ _ _ apart); lawful = lawful_layers m n c.frame.ensures.inside }

pub overflow_add-result : goal.overflow_add-result
overflow_add-result g c =
    let m : Solid = g.A.Body.meaning c.args.first.now in
    let n : Solid = g.B.Body.meaning c.args.second.now in
    let first = cells_bound m (small_from c.frame.result m c.frame.ensures.frame) in
    let second = cells_bound n (small_from c.frame-2.result n c.frame-2.ensures.frame) in
    omega (arith, c.count_cells-first.ensures, c.count_cells-second.ensures)

same : (g : _) (c : goal.After-count_cells-second g) → same_sides (g.A.Body.meaning c.args.first.now).side (g.B.Body.meaning c.args.second.now).side ≡ true
same g c = sym (c.if-not-same_frame.ensures ∙ ap₂ same_sides c.frame.ensures.frame c.frame-2.ensures.frame)

pub overflow_sub-result : goal.overflow_sub-result
overflow_sub-result g c =
    both_within (g.A.Body.meaning c.args.first.now) (g.B.Body.meaning c.args.second.now) c.count_cells-first.result c.count_cells-second.result c.count_cells-intersection.result
    c.count_cells-first.ensures c.count_cells-second.ensures c.count_cells-intersection.ensures (same g c)

pub returns : goal.returns
returns g c =
    let m : Solid = g.A.Body.meaning c.args.first.now in
    let n : Solid = g.B.Body.meaning c.args.second.now in
    record {
      answer = measured m n c.count_cells-first.result c.count_cells-second.result c.count_cells-intersection.result c.count_cells-first.ensures c.count_cells-second.ensures c.count_cells-intersection.ensures (same g c);
      lawful = lawful_layers m n c.frame.ensures.inside;
    }
