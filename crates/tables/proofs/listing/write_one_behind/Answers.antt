use Rattle.std.proofs.Common.{sym, ◌∙◌}
use Rattle.tables.proofs.Writing.{write_none, write_fits, write_full}
use Rattle.tables.proofs.listing.write_one_behind.Goals as goal

pub returns-then-used-table : goal.returns-then-used-table
returns-then-used-table g c = sym (write_fits _ _ _ _ c.if-used-table.true ∙ write_none _ _)

pub returns-else-used-table : goal.returns-else-used-table
returns-else-used-table g c = sym (write_full _ _ _ _ c.if-used-table.false)
