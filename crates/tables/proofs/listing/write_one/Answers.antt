use Rattle.std.proofs.Common.{sym, refl, ◌∙◌, rules}
use Rattle.tables.proofs.Placing.{both, placed_one, placed_one_full}
use Rattle.tables.proofs.listing.write_one.Goals as goal

pub returns-in_err-slot : goal.returns-in_err-slot
returns-in_err-slot g c = both c.from_residual.ensures refl ∙ sym (placed_one_full _ _ (search rules))

pub returns : goal.returns
returns g c = sym (placed_one _ _ (search rules))
