-- Cells by the axes A, B and C of an order.
use Rattle.std.specs.Prelude.{ℕ, Bool}
pub use Rattle.geometry.specs.Axes.{axis_a, axis_b, axis_c}
use Rattle.geometry.specs.declared.axis.AxisOrder.{AxisOrder}
use Rattle.geometry.specs.declared.axis.AxisOrder.TheVariants.{Xyz, Xzy, Yxz, Yzx, Zxy, Zyx}
use Rattle.geometry.specs.declared.frame.Point.{Point}
use Rattle.body.specs.Corners.{point}
use Rattle.body.specs.Solids.{Solid}
use Rattle.boxes.specs.Cuts.{plate, run}

-- a function of x, y and z as one of the coordinates along A, B and C
abbrev pub along : {T : Type 0} → AxisOrder → (ℕ → ℕ → ℕ → T) → ℕ → ℕ → ℕ → T
along Xyz h a b c = h a b c
along Xzy h a b c = h a c b
along Yxz h a b c = h b a c
along Yzx h a b c = h c a b
along Zxy h a b c = h b c a
along Zyx h a b c = h c b a

-- the point with these coordinates along A, B and C
abbrev pub place : AxisOrder → ℕ → ℕ → ℕ → Point
place o = along o point

-- the cells of a solid, and its sides, along A, B and C
abbrev pub cells : Solid → AxisOrder → ℕ → ℕ → ℕ → Bool
cells m o = along o m.holds

abbrev pub side_a : Solid → AxisOrder → ℕ
side_a m o = m.side (axis_a o)

abbrev pub side_b : Solid → AxisOrder → ℕ
side_b m o = m.side (axis_b o)

abbrev pub side_c : Solid → AxisOrder → ℕ
side_c m o = m.side (axis_c o)

-- a range of C is a run of the row (a, b); a range of B is a plate of it in the plane a
abbrev pub is_run : Solid → AxisOrder → ℕ → ℕ → ℕ → ℕ → Bool
is_run m o a c c' b = run (cells m o) (side_a m o) (side_b m o) (side_c m o) a b c c'

abbrev pub is_plate : Solid → AxisOrder → ℕ → ℕ → ℕ → ℕ → ℕ → Bool
is_plate m o b b' c c' a = plate (cells m o) (side_a m o) (side_b m o) (side_c m o) a b b' c c'
