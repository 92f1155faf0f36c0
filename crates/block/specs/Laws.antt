-- What holds of lawful lists.
use Rattle.std.specs.Prelude.{◌≡◌, ℕ, false, List}
use Rattle.geometry.specs.Frames.{in_frame}
use Rattle.geometry.specs.declared.axis.Axis.{Axis}
use Rattle.geometry.specs.declared.frame.Point.{Point}
use Rattle.body.specs.Solids.{Inside, Solid}
use Rattle.body.specs.Corners.{at_or_below, corner_list, parity}
use Rattle.block.specs.Lists.{Lawful, cells_of}

-- a list stands for its cells: it is their corner list, no other lawful list has them, and the
-- parity of its points says of every cell outside the frame that it is empty
pub record Stands (s : Axis → ℕ) (l : List Point) : Type 0 where
  pub exact : corner_list (cells_of s l) ≡ l
  pub alone : (m : List Point) → Lawful s m → cells_of s m ≡ cells_of s l → m ≡ l
  pub outside : (i j k : ℕ) → in_frame s i j k ≡ false → parity (at_or_below i j k) l ≡ false

-- every lawful list does
abbrev pub ListsStand : Type 0
ListsStand = (s : Axis → ℕ) (l : List Point) → Lawful s l → Stands s l

-- the corner list of any solid is lawful, and its cells are the solid's
abbrev pub SolidsListed : Type 0
SolidsListed = (m : Solid) → Inside m → Lawful m.side (corner_list m) × (cells_of m.side (corner_list m) ≡ m)
