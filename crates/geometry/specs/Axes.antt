-- The axes, and those that each of the six orders names, as (A, B, C).
use Rattle.geometry.specs.declared.axis.Axis.{Axis}
use Rattle.geometry.specs.declared.axis.Axis.TheVariants.{X, Y, Z}
use Rattle.geometry.specs.declared.axis.AxisOrder.{AxisOrder}
use Rattle.geometry.specs.declared.axis.AxisOrder.TheVariants.{Xyz, Xzy, Yxz, Yzx, Zxy, Zyx}

abbrev pub axes_of : AxisOrder → Axis × Axis × Axis
axes_of Xyz = (X, Y, Z)
axes_of Xzy = (X, Z, Y)
axes_of Yxz = (Y, X, Z)
axes_of Yzx = (Y, Z, X)
axes_of Zxy = (Z, X, Y)
axes_of Zyx = (Z, Y, X)

-- the axes of an order
abbrev pub axis_a : AxisOrder → Axis
axis_a o = (axes_of o).0

abbrev pub axis_b : AxisOrder → Axis
axis_b o = (axes_of o).1

abbrev pub axis_c : AxisOrder → Axis
axis_c o = (axes_of o).2

-- one of three values, by axis
abbrev pub by_axis : {A : Type 0} → A → A → A → Axis → A
by_axis x y z X = x
by_axis x y z Y = y
by_axis x y z Z = z
