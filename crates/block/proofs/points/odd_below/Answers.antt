use Rattle.std.proofs.Common.{◌≡◌, ◌∙◌, ◌%◌, ap, nat_eq, rules}
use Rattle.std.specs.List.{count_by}
use Rattle.body.specs.Corners.{at_or_below}
use Rattle.block.proofs.Folds.{odd_parity}
use Rattle.block.proofs.points.odd_below.Goals as goal

pub returns : goal.returns
returns c =
    let Q = at_or_below c.args.cell.x c.args.cell.y c.args.cell.z in
    let counted : c.count.result ≡ count_by Q c.args.points.now = search rules in
    ap (λ n. nat_eq (n % 2) 1) counted ∙ odd_parity Q c.args.points.now
