-- Shifts: how far a solid is moved along each axis.
use Rattle.std.specs.Prelude.{Bool, ◌&&◌, ℤ, pos, negsuc, int_le}
use Rattle.std.specs.Int.{int_min, int_max}
use Rattle.geometry.specs.declared.axis.Axis.{Axis}
use Rattle.geometry.specs.declared.axis.Axis.TheVariants.{X, Y, Z}
use Rattle.geometry.specs.declared.shift.Shift.{Shift}

-- a step is -1,024 to 1,024 (negsuc 1023 is -1,024)
abbrev pub step_ok : ℤ → Bool
step_ok n = int_le (negsuc 1023) n && int_le n (pos 1024)

abbrev pub steps_ok : ℤ → ℤ → ℤ → Bool
steps_ok x y z = step_ok x && (step_ok y && step_ok z)

-- three steps, by axis
abbrev pub steps_given : ℤ → ℤ → ℤ → Axis → ℤ
steps_given x y z X = x
steps_given x y z Y = y
steps_given x y z Z = z

-- a stored number read as the nearest step
abbrev pub step_of : ℤ → ℤ
step_of n = int_min (int_max n (negsuc 1023)) (pos 1024)

-- the steps that a shift reads as
abbrev pub steps : Shift → Axis → ℤ
steps s X = step_of s.x
steps s Y = step_of s.y
steps s Z = step_of s.z
