-- The bounds and the cells of records, and the search for the first record that passes a test.
use Rattle.std.specs.Prelude.{ℕ, ◌+◌, ◌-◌, ◌*◌, Bool, cond, List, [], ◌∷◌, drop, Some, None, sum_by, Option}
use Rattle.geometry.specs.Cuboids.{in_box, lowers, uppers}
use Rattle.geometry.specs.declared.axis.Axis.{Axis}
use Rattle.geometry.specs.declared.axis.Axis.TheVariants.{X, Y, Z}
use Rattle.geometry.specs.declared.frame.Cell.{Cell}
use Rattle.boxes.specs.declared.record.BoxRecord.{BoxRecord}

-- the bounds of a record's box
abbrev pub low : BoxRecord → Axis → ℕ
low r a = lowers r.cuboid a

abbrev pub high : BoxRecord → Axis → ℕ
high r a = uppers r.cuboid a

-- the number of cells of a record's box, and of those of a list
unfoldable pub cells_of : BoxRecord → ℕ
cells_of r = (high r X - low r X) * (high r Y - low r Y) * (high r Z - low r Z)

unfoldable pub volume_of : List BoxRecord → ℕ
volume_of l = sum_by cells_of l

-- the least number of a record that passes: the list's records have the numbers from n on
abbrev pub least_from : (BoxRecord → Bool) → ℕ → List BoxRecord → Option ℕ
least_from q n [] = None
least_from q n (r ∷ l) = cond (q r) (Some n) (least_from q (n + 1) l)

-- the least number above m of a record that passes, with the records numbered from 1
unfoldable pub found : (BoxRecord → Bool) → ℕ → List BoxRecord → Option ℕ
found q m l = least_from q (m + 1) (drop m l)

-- the box of a record holds a cell
abbrev pub holding : Cell → BoxRecord → Bool
holding x r = in_box r.cuboid x.x x.y x.z
