-- The lists of the worked cases.
use Rattle.std.specs.Prelude.{List, [], ◌∷◌}
use Rattle.geometry.specs.declared.frame.Point.{Point}
use Rattle.body.specs.Corners.{point}

-- the points (0 0 0) and (1 0 0)
abbrev pub edge : List Point
edge = point 0 0 0 ∷ (point 1 0 0 ∷ [])

-- the corners of the box (0 0 0)-(2 2 2)
abbrev pub cube : List Point
cube = point 0 0 0 ∷ (point 0 0 2 ∷ (point 0 2 0 ∷ (point 0 2 2 ∷ (point 2 0 0 ∷ (point 2 0 2 ∷ (point 2 2 0 ∷ (point 2 2 2 ∷ [])))))))
