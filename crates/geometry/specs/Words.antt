-- How points, boxes and axis orders are written.
use Rattle.std.specs.Prelude.{ℕ, List, ◌++◌, codes, decimal}
use Rattle.geometry.specs.Cuboids.{lowers, uppers}
use Rattle.geometry.specs.declared.axis.Axis.TheVariants.{X, Y, Z}
use Rattle.geometry.specs.declared.axis.AxisOrder.{AxisOrder}
use Rattle.geometry.specs.declared.axis.AxisOrder.TheVariants.{Xyz, Xzy, Yxz, Yzx, Zxy, Zyx}
use Rattle.geometry.specs.declared.cuboid.Cuboid.{Cuboid}
use Rattle.geometry.specs.declared.frame.Point.{Point}

-- the letters of the axes, in their order
abbrev pub order_word : AxisOrder → List ℕ
order_word Xyz = codes "XYZ"
order_word Xzy = codes "XZY"
order_word Yxz = codes "YXZ"
order_word Yzx = codes "YZX"
order_word Zxy = codes "ZXY"
order_word Zyx = codes "ZYX"

-- a point as (1 2 3)
abbrev pub point_text : Point → List ℕ
point_text p = codes "(" ++ (decimal p.x ++ (codes " " ++ (decimal p.y ++ (codes " " ++ (decimal p.z ++ codes ")")))))

-- a box by its lower and its upper point, as (0 0 0)-(1 2 2)
abbrev pub cuboid_text : Cuboid → List ℕ
cuboid_text b =
    point_text (record { x = lowers b X; y = lowers b Y; z = lowers b Z }) ++ (codes "-" ++ point_text (record { x = uppers b X; y = uppers b Y; z = uppers b Z }))
