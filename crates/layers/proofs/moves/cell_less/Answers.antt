use Rattle.std.proofs.Common.{◌&&◌, sym, ap, ◌∙◌}
use Rattle.std.proofs.lemmas.Bool.{and_right}
use Rattle.geometry.specs.Shifts.{steps}
use Rattle.geometry.specs.declared.axis.Axis.TheVariants.{Y, Z}
use Rattle.layers.specs.Layers.{cell_less, less}
use Rattle.layers.proofs.moves.cell_less.Goals as goal

pub returns-in_err-x : goal.returns-in_err-x
returns-in_err-x c h = rw c.from_residual.ensures (and_right _ _ (c.in_err-x.ensures _))

pub returns-in_err-y : goal.returns-in_err-y
returns-in_err-y c h = rw c.from_residual-in_err-y.ensures (and_right _ _ (c.in_ok-x.ensures _ ∙ c.in_err-y.ensures _))

pub returns-in_err-z : goal.returns-in_err-z
returns-in_err-z c h =
    rw c.from_residual-in_err-z.ensures (and_right _ _ (c.in_ok-x.ensures _ ∙ c.in_ok-y.ensures _ ∙ c.in_err-z.ensures _))

pub returns : goal.returns
returns c h =
    let d = steps c.args.shift in
    let j = c.args.cell.y in
    let k = c.args.cell.z in
    let x = c.in_ok-x.x in
    let y = c.in_ok-y.y in
    ap (λ b. b && cell_less d h c.args.cell.x j k) (sym c.if-not-holds.ensures)
    ∙ c.in_ok-x.ensures (λ i. less (d Y) (λ n. less (d Z) (h i n) k) j)
    ∙ c.in_ok-y.ensures (λ n. less (d Z) (h x n) k)
    ∙ c.in_ok-z.ensures (h x y)
