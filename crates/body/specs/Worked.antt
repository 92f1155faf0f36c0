-- The solids of the worked cases.
use Rattle.std.specs.Prelude.{◌^◌, ◌&&◌, ◌||◌, [], ◌∷◌, ◌==◌}
use Rattle.geometry.specs.Frames.{sides_given}
use Rattle.body.specs.Solids.{Solid}
use Rattle.body.specs.Grids.{packed}

-- a row of 65 cells in two words: bit 63 of the first, and bits 0 and 1 of the second
abbrev pub past_the_side : Solid
past_the_side = packed (sides_given 1 1 65) (2 ^ 63 ∷ (3 ∷ []))

-- the cells (0, 0, 0) and (1, 1, 0) in a frame of 4 x 4 x 4
abbrev pub diagonal : Solid
diagonal =
    record {
      side = sides_given 4 4 4;
      holds = λ i j k. (i == 0 && (j == 0 && k == 0)) || (i == 1 && (j == 1 && k == 0));
    }
