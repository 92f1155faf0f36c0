use Rattle.std.proofs.Common.{ℕ, ◌/◌, ◌<◌, eqb, sym, ap, ◌∙◌, subst, arith}
use Rattle.body.specs.Corners.{point}
use Rattle.body.specs.Solids.{differ}
use Rattle.block.specs.Lines.{bit_at}
use Rattle.block.proofs.Bitmaps.{place_below, toggling_end, toggling_on}
use Rattle.block.proofs.Every.{all_at}
use Rattle.block.proofs.lines.toggle_lines.Goals as goal

pub toggle-requires : goal.toggle-requires
toggle-requires c =
    let below = place_below c.args.axis _ (all_at _ c.args.points.now c.requires.1 c.loop-point.point-index (point 0 0 0) c.loop-point-test.true) in
    let word : c.line_of.result / 64 < 17425 = subst (λ (n : ℕ). n / 64 < 17425) (sym c.line_of.ensures) below in
    omega (arith, word, c.requires.0)

pub loop-point-preserved : goal.loop-point-preserved
loop-point-preserved c =
    toggling_on c.args.axis c.args.points.now c.loop-point.point-index _ c.args.map.now c.loop-point.map _ c.loop-point-test.true c.requires.1 c.loop-point.invariant
    (λ n. c.toggle.ensures n ∙ ap (λ (k : ℕ). differ (bit_at c.loop-point.map n) (eqb n k)) c.line_of.ensures)

pub returns : goal.returns
returns c = toggling_end c.args.axis c.args.points.now c.loop-point.point-index c.args.map.now c.loop-point.map c.loop-point-test.false c.loop-point.invariant
