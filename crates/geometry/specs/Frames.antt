-- Frames: their sides, and the cells and points that lie in them.
use Rattle.std.specs.Prelude.{ℕ, min, max, Bool, ◌&&◌, nat_le, nat_lt}
use Rattle.geometry.specs.declared.axis.Axis.{Axis}
use Rattle.geometry.specs.declared.axis.Axis.TheVariants.{X, Y, Z}
use Rattle.geometry.specs.declared.frame.Frame.{Frame}

-- a side is 1 to 1,024
abbrev pub side_ok : ℕ → Bool
side_ok n = nat_le 1 n && nat_le n 1024

abbrev pub sides_ok : ℕ → ℕ → ℕ → Bool
sides_ok x y z = side_ok x && (side_ok y && side_ok z)

-- three sides, by axis
abbrev pub sides_given : ℕ → ℕ → ℕ → Axis → ℕ
sides_given x y z X = x
sides_given x y z Y = y
sides_given x y z Z = z

-- a stored number read as the nearest side
abbrev pub side_of : ℕ → ℕ
side_of n = min (max n 1) 1024

-- the sides that a frame reads as
abbrev pub sides : Frame → Axis → ℕ
sides f X = side_of f.x
sides f Y = side_of f.y
sides f Z = side_of f.z

-- a cell lies in the frame when each coordinate is below its side
abbrev pub in_frame : (Axis → ℕ) → ℕ → ℕ → ℕ → Bool
in_frame s i j k = nat_lt i (s X) && (nat_lt j (s Y) && nat_lt k (s Z))

-- a point lies in the frame when each coordinate is at most its side
abbrev pub on_frame : (Axis → ℕ) → ℕ → ℕ → ℕ → Bool
on_frame s x y z = nat_le x (s X) && (nat_le y (s Y) && nat_le z (s Z))
