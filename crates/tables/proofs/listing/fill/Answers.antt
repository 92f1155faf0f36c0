use Rattle.std.proofs.Common.{arith, rules}
use Rattle.tables.proofs.Placing.{placed_filled}
use Rattle.tables.proofs.listing.fill.Goals as goal

pub returns : goal.returns
returns g c ready = placed_filled c.min-capacity.result _ c.args.table.now _ _ (omega (arith, c.min-capacity.ensures)) (search (rules, ready))
