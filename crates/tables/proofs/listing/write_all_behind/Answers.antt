use Rattle.std.proofs.Common.{◌≡◌, ◌+◌, Some, ap, rules, ◌∙◌, refl}
use Rattle.tables.proofs.Placing.{both}
use Rattle.tables.proofs.Writing.{behind_stopped, behind_went}
use Rattle.tables.proofs.listing.write_all_behind.Goals as goal

pub returns-in_err-count : goal.returns-in_err-count
returns-in_err-count g c ready = both c.from_residual.ensures refl ∙ behind_stopped c.args.used c.min-front.result _ c.args.table.now _ _ c.min-front.ensures (c.write_all.ensures ready) c.in_err-count.was

pub returns : goal.returns
returns g c ready =
    let went = behind_went c.args.used c.min-front.result _ c.args.table.now _ _ c.min-front.ensures (c.write_all.ensures ready) _ c.in_ok-count.was in
    let sum : c.saturating_add.result ≡ c.args.used + c.in_ok-count.count = search (rules, went) in
    both (ap Some sum) refl ∙ went.1
