use Rattle.std.proofs.Common.{sym, refl}
use Rattle.std.proofs.lemmas.Bool.{eqb-true}
use Rattle.text.proofs.Reading.{lines_none}
use Rattle.text.proofs.text.Text.next_line.Goals as goal

pub returns-then-is_empty : goal.returns-then-is_empty
returns-then-is_empty c =
    let none = lines_none _ (eqb-true _ _ (sym c.if-is_empty.ensures)) in
    record { lines = (none, none); taken = refl }
