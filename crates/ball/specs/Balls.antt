-- Balls of cells.
use Rattle.std.specs.Prelude.{ℕ, ◌+◌, ◌-◌, ◌*◌, min, Bool, cond, nat_le, nat_lt}
use Rattle.geometry.specs.declared.axis.Axis.{Axis}
use Rattle.geometry.specs.declared.axis.Axis.TheVariants.{X, Y, Z}
use Rattle.geometry.specs.declared.frame.Cell.{Cell}
use Rattle.body.specs.Solids.{Solid}
use Rattle.layers.specs.Layers.{framed}

-- how far apart two numbers are, and its square
abbrev pub distance : ℕ → ℕ → ℕ
distance m n = (m - n) + (n - m)

abbrev pub squared : ℕ → ℕ → ℕ
squared m n = distance m n * distance m n

-- a cell lies in the ball when its distances along the axes, squared, add up to at most the radius squared
abbrev pub in_ball : Cell → ℕ → ℕ → ℕ → ℕ → Bool
in_ball c r i j k = nat_le (squared i c.x + squared j c.y + squared k c.z) (r * r)

-- what a ball means
abbrev pub ball_solid : (Axis → ℕ) → Cell → ℕ → Solid
ball_solid s c r = framed s (in_ball c r)

-- the coordinate of the centre along an axis
abbrev pub centre_along : Cell → Axis → ℕ
centre_along c X = c.x
centre_along c Y = c.y
centre_along c Z = c.z

-- the skips of a ball: plane by plane where it is, to where it begins before it, and to the side behind it
abbrev pub ball_skip : (Axis → ℕ) → Cell → ℕ → Axis → ℕ → ℕ
ball_skip s c r a p =
    cond (nat_le (s a) p) (s a) (cond (nat_le (distance p (centre_along c a)) r) (p + 1) (cond (nat_lt p (centre_along c a)) (min (s a) (centre_along c a - r)) (s a)))
