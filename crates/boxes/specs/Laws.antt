-- What the records of a cut are, in x, y and z.
use Rattle.std.specs.Prelude.{◌≡◌, ℕ, true, not, List, is_some, count_by, ◌==◌}
use Rattle.geometry.specs.Cuboids.{in_box, lowers, uppers, within}
use Rattle.geometry.specs.declared.axis.Axis.{Axis}
use Rattle.geometry.specs.declared.axis.AxisOrder.{AxisOrder}
use Rattle.geometry.specs.declared.frame.Cell.{Cell}
use Rattle.geometry.specs.declared.cuboid.Cuboid.{Cuboid}
use Rattle.body.specs.Corners.{All, corner_list}
use Rattle.body.specs.Solids.{Solid, one, solid_cells}
use Rattle.boxes.specs.Measures.{found, holding, volume_of}
use Rattle.boxes.specs.Cuts.{boxes}
use Rattle.boxes.specs.Covers.{EachLongest, Rising}
use Rattle.boxes.specs.Orders.{axis_a, axis_b, axis_c, cells, side_a, side_b, side_c}
use Rattle.boxes.specs.Records.{cut_list}
use Rattle.boxes.specs.declared.record.BoxRecord.{BoxRecord}

-- how many of the records have a box that holds the cell (x, y, z)
abbrev pub times_held : List BoxRecord → ℕ → ℕ → ℕ → ℕ
times_held l x y z = count_by (λ r. in_box r.cuboid x y z) l

-- the solid with these sides whose solid cells are those in the records' boxes
abbrev pub boxed : (Axis → ℕ) → List BoxRecord → Solid
boxed side l = record { side = side; holds = λ x y z. not (times_held l x y z == 0) }

-- p ends along C where q begins, and some line along C meets both
pub record Touch (o : AxisOrder) (p q : Cuboid) : Type 0 where
  pub i : ℕ
  pub j : ℕ
  pub a : (within p (axis_a o) i ≡ true) × (within q (axis_a o) i ≡ true)
  pub b : (within p (axis_b o) j ≡ true) × (within q (axis_b o) j ≡ true)
  pub meet : uppers p (axis_c o) ≡ lowers q (axis_c o)

module _ (m : Solid) (o : AxisOrder) where
  -- a solid cell is in just one box of the cut, any other cell in none
  abbrev pub Covered : Type 0
  Covered = (x y z : ℕ) → times_held (cut_list m o) x y z ≡ one (m.holds x y z)

  -- the boxes have as many cells as the solid
  abbrev pub SameCells : Type 0
  SameCells = volume_of (cut_list m o) ≡ solid_cells m

  -- the boxes are the solid, and have its corners
  abbrev pub SameSolid : Type 0
  SameSolid = boxed m.side (cut_list m o) ≡ m

  abbrev pub SameCorners : Type 0
  SameCorners = corner_list (boxed m.side (cut_list m o)) ≡ corner_list m

  -- a search for the box of a cell finds one exactly when the cell is solid
  abbrev pub Finds : Type 0
  Finds = (x : Cell) → is_some (found (holding x) 0 (cut_list m o)) ≡ m.holds x.x x.y x.z

  -- no two boxes touch along C
  abbrev pub Apart : Type 0
  Apart = All (λ r. All (λ s. Touch o r.cuboid s.cuboid → ⊥) (cut_list m o)) (cut_list m o)

  -- all laws of a cut: those of the records, and those of the boxes by their bounds along A, B and C
  pub record LawfulCut : Type 0 where
    pub covered : Covered
    pub volume : SameCells
    pub solid : SameSolid
    pub corners : SameCorners
    pub finds : Finds
    pub apart : Apart
    pub longest : EachLongest (cells m o) (side_a m o) (side_b m o) (side_c m o)
    pub rising : Rising (boxes (cells m o) (side_a m o) (side_b m o) (side_c m o))
