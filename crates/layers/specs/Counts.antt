-- The solid cells of a row along z, and of a plane across x.
use Rattle.std.specs.Prelude.{ℕ}
use Rattle.geometry.specs.declared.axis.Axis.TheVariants.{Y, Z}
use Rattle.body.specs.Solids.{Solid, one, total}

abbrev pub row_cells : Solid → ℕ → ℕ → ℕ
row_cells m i j = total (λ k. one (m.holds i j k)) (m.side Z)

abbrev pub plane_cells : Solid → ℕ → ℕ
plane_cells m i = total (row_cells m i) (m.side Y)
