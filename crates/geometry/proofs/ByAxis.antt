-- Functions of the axis are equal when they are along each of the three.
use Rattle.std.proofs.Common.{◌≡◌}
use mathlib.Core.Path.{fun_ext}
use Rattle.geometry.specs.declared.axis.Axis.{Axis}
use Rattle.geometry.specs.declared.axis.Axis.TheVariants.{X, Y, Z}

pub by_axis : {A : Type 0} (f g : Axis → A) → f X ≡ g X → f Y ≡ g Y → f Z ≡ g Z → f ≡ g
by_axis {A} f g ex ey ez = fun_ext at_each
  where
    at_each : (a : Axis) → f a ≡ g a
    at_each X = ex
    at_each Y = ey
    at_each Z = ez
