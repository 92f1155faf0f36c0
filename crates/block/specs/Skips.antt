-- The skips of a corner list: from plane to plane that has a point.
use Rattle.std.specs.Prelude.{ℕ, min, cond, List, [], ◌∷◌, nat_lt}
use Rattle.geometry.specs.declared.axis.Axis.{Axis}
use Rattle.geometry.specs.declared.axis.Axis.TheVariants.{X, Y, Z}
use Rattle.geometry.specs.declared.frame.Point.{Point}

-- the coordinate of a point along an axis: the plane across the axis that it lies in
abbrev pub along : Axis → Point → ℕ
along X p = p.x
along Y p = p.y
along Z p = p.z

-- the least plane past plane p among `side` and those that the points lie in
abbrev pub next_plane : Axis → ℕ → List Point → ℕ → ℕ
next_plane a p [] side = side
next_plane a p (q ∷ l) side = next_plane a p l (cond (nat_lt p (along a q)) (min side (along a q)) side)

-- the skips of a list in a frame: to the next plane that has a point, or to the side
unfoldable pub list_skip : (Axis → ℕ) → List Point → Axis → ℕ → ℕ
list_skip s l a p = cond (nat_lt p (s a)) (next_plane a p l (s a)) (s a)
