-- Lines along an axis through points, and bitmaps with a bit for each line.
use Rattle.std.specs.Prelude.{ℕ, ◌+◌, ◌*◌, ◌/◌, ◌%◌, ◌≤◌, Bool, not, List, slice_index}
use Rattle.std.specs.List.{list_all}
use Rattle.geometry.specs.declared.axis.Axis.{Axis}
use Rattle.geometry.specs.declared.axis.Axis.TheVariants.{X, Y, Z}
use Rattle.geometry.specs.declared.frame.Point.{Point}
use Rattle.body.specs.Corners.{All, on_line, parity}
use Rattle.body.specs.Grids.{bit}

-- the two coordinates of a point other than that along an axis, in cyclic order
abbrev pub first_across : Axis → Point → ℕ
first_across X p = p.y
first_across Y p = p.z
first_across Z p = p.x

abbrev pub second_across : Axis → Point → ℕ
second_across X p = p.z
second_across Y p = p.x
second_across Z p = p.y

-- the line through p along an axis carries an odd number of the points of a list
abbrev pub odd_through : Axis → List Point → Point → Bool
odd_through a l p = parity (on_line a (first_across a p) (second_across a p)) l

-- the lines along an axis through the points of a list are even; any other line carries none of them
abbrev pub even_along : Axis → List Point → Bool
even_along a l = list_all (λ p. not (odd_through a l p)) l

-- the bit of a line in a bitmap, in rows of 1,088 bits
abbrev pub place : ℕ → ℕ → ℕ
place u v = u * 1088 + v

abbrev pub line_place : Axis → Point → ℕ
line_place a p = place (first_across a p) (second_across a p)

-- bit n of a bitmap of 64-bit words; past its end it is 0
abbrev pub bit_at : List ℕ → ℕ → Bool
bit_at words n = bit (slice_index words (n / 64)) (n % 64)

-- no coordinate of the points is over 1,024
abbrev pub Near : List Point → Type 0
Near l = All (λ p. (p.x ≤ 1024) × (p.y ≤ 1024) × (p.z ≤ 1024)) l
