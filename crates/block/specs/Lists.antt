-- Lawful corner lists, and the solid that a list stands for.
use Rattle.std.specs.Prelude.{◌≡◌, ℕ, Bool, true, ◌&&◌, List, ◌==◌}
use Rattle.geometry.specs.Frames.{in_frame, on_frame}
use Rattle.geometry.specs.declared.axis.Axis.{Axis}
use Rattle.geometry.specs.declared.frame.Point.{Point}
use Rattle.body.specs.Solids.{Solid}
use Rattle.body.specs.Corners.{All, EvenLines, Rising, at_or_below, parity}

-- a point lies in the frame
abbrev pub reached : (Axis → ℕ) → Point → Bool
reached s p = on_frame s p.x p.y p.z

-- a list is lawful in a frame: all its points lie in the frame, it rises strictly by x, then y, then
-- z, and every line along an axis carries an even number of its points
pub record Lawful (s : Axis → ℕ) (l : List Point) : Type 0 where
  pub inside : All (λ p. reached s p ≡ true) l
  pub rises : Rising l
  pub even : EvenLines l

-- the solid of a list: a cell of the frame is solid when an odd number of points of the list are at
-- or below it in all three coordinates
unfoldable pub cells_of : (Axis → ℕ) → List Point → Solid
cells_of s l = record { side = s; holds = λ i j k. in_frame s i j k && parity (at_or_below i j k) l }

-- a point has these coordinates
abbrev pub is_at : ℕ → ℕ → ℕ → Point → Bool
is_at x y z p = p.z == z && (p.y == y && p.x == x)
