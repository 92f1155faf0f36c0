use Rattle.std.proofs.Common.{sym, ap, ◌∙◌}
use Rattle.std.specs.Option.{option_to_list}
use Rattle.tables.specs.Tables.{placed}
use Rattle.tables.proofs.Placing.{placed_none}
use Rattle.boxes.proofs.list.write_found.Goals as goal

pub returns-in-None : goal.returns-in-None
returns-in-None c = sym (placed_none _) ∙ ap (λ f. placed (option_to_list f) c.args.table.now) (sym c.in-None.is)
