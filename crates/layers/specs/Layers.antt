-- Layers over solids: the complement, the translation, and two solids joined.
use Rattle.std.specs.Prelude.{ℕ, suc, ◌+◌, ◌-◌, min, Bool, false, cond, not, ◌&&◌, ◌||◌, ℤ, pos, negsuc, Some, None, Option, nat_le, nat_lt}
use Rattle.geometry.specs.Frames.{in_frame}
use Rattle.geometry.specs.declared.axis.Axis.{Axis}
use Rattle.geometry.specs.declared.axis.Axis.TheVariants.{X, Y, Z}
use Rattle.geometry.specs.declared.frame.Cell.{Cell}
use Rattle.body.specs.Solids.{Solid, differ}
use Rattle.layers.specs.declared.join.Join.{Join}
use Rattle.layers.specs.declared.join.Join.TheVariants.{Union, Intersection, Difference, SymmetricDifference}
use Rattle.layers.specs.declared.moves.Source.{Source}
use Rattle.layers.specs.declared.moves.Source.TheVariants.{Here, Beneath}

-- the solid that has the cells of a frame of which g is true
abbrev pub framed : (Axis → ℕ) → (ℕ → ℕ → ℕ → Bool) → Solid
framed s g = record { side = s; holds = λ i j k. in_frame s i j k && g i j k }

-- the complement: the solid cells of the frame become empty, and the empty ones solid
abbrev pub complement : Solid → Solid
complement m = framed m.side (λ i j k. not (m.holds i j k))

-- what f says of n less a step; false where that is below 0
abbrev pub less : ℤ → (ℕ → Bool) → ℕ → Bool
less (pos d) f n = nat_le d n && f (n - d)
less (negsuc d) f n = f (n + suc d)

-- what h says of a cell less a shift
abbrev pub cell_less : (Axis → ℤ) → (ℕ → ℕ → ℕ → Bool) → ℕ → ℕ → ℕ → Bool
cell_less d h i j k = less (d X) (λ x. less (d Y) (λ y. less (d Z) (h x y) k) j) i

-- the translation: a cell of the frame is solid when the cell less the shift is solid below
abbrev pub translated : (Axis → ℤ) → Solid → Solid
translated d m = framed m.side (cell_less d m.holds)

-- whether the joined solid has a cell, from whether the first and the second have it
abbrev pub join_of : Join → Bool → Bool → Bool
join_of Union a b = a || b
join_of Intersection a b = a && b
join_of Difference a b = a && not b
join_of SymmetricDifference a b = differ a b

-- two solids joined, in the frame of the first
abbrev pub joined : Join → Solid → Solid → Solid
joined o m n = framed m.side (λ i j k. join_of o (m.holds i j k) (n.holds i j k))

-- The skips, from those below.

-- a plane below, moved by a step and kept within the side
abbrev pub plane_more : ℤ → ℕ → ℕ → ℕ
plane_more (pos d) side q = min side (q + d)
plane_more (negsuc d) side q = min side (q - suc d)

-- where the skip of a translation from plane p comes from: it goes to where the shift begins, where p
-- less the step is below 0; to the side, where that is past the side; else it is the skip beneath
abbrev pub moved_source : ℤ → ℕ → ℕ → Source
moved_source (pos d) side p = cond (nat_lt p d) (Here (min side d)) (Beneath (p - d))
moved_source (negsuc d) side p = cond (nat_lt (p + suc d) side) (Beneath (p + suc d)) (Here side)

abbrev pub source_of : ℤ → ℕ → ℕ → Source
source_of d side p = cond (nat_lt p side) (moved_source d side p) (Here side)

-- the skip that comes from a source, f being the skips beneath
abbrev pub of_source : ℤ → ℕ → (ℕ → ℕ) → Source → ℕ
of_source d side f (Here q) = q
of_source d side f (Beneath p) = plane_more d side (f p)

abbrev pub translated_skip : ℤ → ℕ → (ℕ → ℕ) → ℕ → ℕ
translated_skip d side f p = of_source d side f (source_of d side p)

-- the skip of two joined solids: the nearer one, where the second has not ended
abbrev pub joined_skip : ℕ → ℕ → ℕ → ℕ → ℕ
joined_skip second_side p q r = cond (nat_lt p second_side) (min q r) q

-- What the functions that layers share give.

-- what f says of a number, or h of a cell, where there is one
abbrev pub of_number : (ℕ → Bool) → Option ℕ → Bool
of_number f None = false
of_number f (Some n) = f n

abbrev pub of_cell : (ℕ → ℕ → ℕ → Bool) → Option Cell → Bool
of_cell h None = false
of_cell h (Some c) = h c.x c.y c.z
