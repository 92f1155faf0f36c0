-- Lists of boxes.
use Rattle.std.specs.Prelude.{ℕ, ◌+◌, ◌-◌, min, Bool, false, cond, ◌||◌, List, [], ◌∷◌, ◌==◌, nat_lt}
use Rattle.std.specs.List.{list_any}
use Rattle.geometry.specs.Cuboids.{in_box, lowers, uppers}
use Rattle.geometry.specs.declared.axis.Axis.{Axis}
use Rattle.geometry.specs.declared.cuboid.Cuboid.{Cuboid}
use Rattle.body.specs.Grids.{first}
use Rattle.body.specs.Solids.{Solid}
use Rattle.layers.specs.Layers.{framed}

-- some box of the list holds the cell
abbrev pub some_box : List Cuboid → ℕ → ℕ → ℕ → Bool
some_box boxes i j k = list_any (λ b. in_box b i j k) boxes

-- what a box list means: a cell of the frame is solid when some box holds it
abbrev pub boxed : (Axis → ℕ) → List Cuboid → Solid
boxed s boxes = framed s (some_box boxes)

-- a box of the list begins or ends at plane n along an axis
abbrev pub bounds_at : Axis → List Cuboid → ℕ → Bool
bounds_at a [] n = false
bounds_at a (b ∷ l) n = (n == lowers b a || n == uppers b a) || bounds_at a l n

-- the skips of a box list: to the next plane at which a box begins or ends, or to the side
abbrev pub boxed_skip : (Axis → ℕ) → List Cuboid → Axis → ℕ → ℕ
boxed_skip s boxes a p = cond (nat_lt p (s a)) (first (bounds_at a boxes) (s a - (p + 1)) (p + 1)) (s a)

-- The same by one pass over the boxes.

-- the nearer of `far` and a plane n past p
abbrev pub nearer : ℕ → ℕ → ℕ → ℕ
nearer p far n = cond (nat_lt p n) (min far n) far

-- the nearest plane past p at which a box of the list begins or ends, or `far`
abbrev pub next_bound : Axis → ℕ → List Cuboid → ℕ → ℕ
next_bound a p [] far = far
next_bound a p (b ∷ l) far = next_bound a p l (nearer p (nearer p far (lowers b a)) (uppers b a))
