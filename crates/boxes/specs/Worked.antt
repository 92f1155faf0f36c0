-- The solids of the worked cases, in a frame of 4 x 4 x 4.
use Rattle.std.specs.Prelude.{ℕ, ◌+◌, Bool, ◌&&◌, ◌||◌, List, [], ◌∷◌, ◌==◌, nat_le, nat_lt}
use Rattle.geometry.specs.Frames.{sides_given}
use Rattle.body.specs.Corners.{point}
use Rattle.body.specs.Solids.{Solid, differ}
use Rattle.boxes.specs.declared.record.BoxRecord.{BoxRecord}

-- the cells (0, 1, 0), (1, 0, 0), (1, 1, 0) and (1, 2, 0)
abbrev pub ell : Solid
ell =
    record {
      side = sides_given 4 4 4;
      holds = λ i j k. (k == 0) && ((i == 0 && j == 1) || (i == 1 && nat_lt j 3));
    }

-- the cells of just one of the boxes (0 0 0)-(2 2 2) and (1 1 1)-(3 3 3)
abbrev pub cube_at : ℕ → ℕ → ℕ → ℕ → Bool
cube_at n i j k = (nat_le n i && nat_lt i (n + 2)) && ((nat_le n j && nat_lt j (n + 2)) && (nat_le n k && nat_lt k (n + 2)))

abbrev pub two_cubes : Solid
two_cubes = record { side = sides_given 4 4 4; holds = λ i j k. differ (cube_at 0 i j k) (cube_at 1 i j k) }

-- a record with these points, and no piece number
abbrev pub box_record : ℕ → ℕ → ℕ → ℕ → ℕ → ℕ → BoxRecord
box_record x y z x' y' z' = record { cuboid = record { low = point x y z; high = point x' y' z' }; piece = 0 }

-- the boxes of the two cubes in the order XYZ
abbrev pub two_cubes_boxes : List BoxRecord
two_cubes_boxes =
    box_record 0 0 0 1 2 2
    ∷ (box_record 1 0 0 2 1 2
    ∷ (box_record 1 1 0 2 2 1
    ∷ (box_record 1 1 2 2 2 3
    ∷ (box_record 1 2 1 2 3 3
    ∷ (box_record 2 1 1 3 3 3
    ∷ [])))))
