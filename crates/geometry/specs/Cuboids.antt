-- Boxes: their bounds, and the cells that lie in them.
use Rattle.std.specs.Prelude.{ℕ, ◌+◌, min, max, Bool, ◌&&◌, nat_le, nat_lt}
use Rattle.geometry.specs.declared.axis.Axis.{Axis}
use Rattle.geometry.specs.declared.axis.Axis.TheVariants.{X, Y, Z}
use Rattle.geometry.specs.declared.cuboid.Cuboid.{Cuboid}

-- a lower bound is below its upper one, which is at most 1,024
abbrev pub range_ok : ℕ → ℕ → Bool
range_ok low high = nat_lt low high && nat_le high 1024

abbrev pub bounds_ok : ℕ × ℕ × ℕ → ℕ × ℕ × ℕ → Bool
bounds_ok low high = range_ok low.0 high.0 && (range_ok low.1 high.1 && range_ok low.2 high.2)

-- a stored lower bound as it is read, and an upper one above a given lower bound
abbrev pub lower_of : ℕ → ℕ
lower_of n = min n 1023

abbrev pub upper_of : ℕ → ℕ → ℕ
upper_of low n = max (min n 1024) (lower_of low + 1)

-- the bounds that a box reads as
abbrev pub lowers : Cuboid → Axis → ℕ
lowers b X = lower_of b.low.x
lowers b Y = lower_of b.low.y
lowers b Z = lower_of b.low.z

abbrev pub uppers : Cuboid → Axis → ℕ
uppers b X = upper_of b.low.x b.high.x
uppers b Y = upper_of b.low.y b.high.y
uppers b Z = upper_of b.low.z b.high.z

-- n is at or above the lower bound and below the upper one along an axis
abbrev pub within : Cuboid → Axis → ℕ → Bool
within b a n = nat_le (lowers b a) n && nat_lt n (uppers b a)

-- a cell lies in a box when it does along each axis
abbrev pub in_box : Cuboid → ℕ → ℕ → ℕ → Bool
in_box b i j k = (within b X i && within b Y j) && within b Z k
