-- The laws of layers, in words of the cells that two solids have.
use Rattle.std.specs.Prelude.{◌≡◌, ℕ, ◌+◌, Bool, true, false, cond, ◌&&◌, ◌⊎◌, ℤ, neg_ℤ, Some, None, Option, ◌==◌}
use Rattle.geometry.specs.Frames.{in_frame}
use Rattle.geometry.specs.declared.axis.Axis.{Axis}
use Rattle.geometry.specs.declared.axis.Axis.TheVariants.{X, Y, Z}
use Rattle.body.specs.Solids.{Solid, solid_cells}
use Rattle.layers.specs.declared.join.Join.TheVariants.{Union, Intersection, Difference, SymmetricDifference}
use Rattle.layers.specs.declared.volumes.Volumes.{Volumes}
use Rattle.layers.specs.Layers.{cell_less, complement, joined, translated}

-- a solid has a cell
abbrev pub Has : Solid → ℕ → ℕ → ℕ → Type 0
Has m i j k = m.holds i j k ≡ true

-- P holds exactly where Q does
abbrev pub Iff : Type 0 → Type 0 → Type 0
Iff P Q = (P → Q) × (Q → P)

-- the shift back
abbrev pub opposite : (Axis → ℤ) → Axis → ℤ
opposite d a = neg_ℤ (d a)

-- the cell plus the shift lies in the frame
abbrev pub Stays : (Axis → ℤ) → (Axis → ℕ) → ℕ → ℕ → ℕ → Type 0
Stays d s i j k = cell_less (opposite d) (in_frame s) i j k ≡ true

pub record LawfulLayers (m n : Solid) : Type 0 where
  -- the complement of the complement is the solid itself
  pub twice : complement (complement m) ≡ m
  -- the cells that two joined solids have
  pub union : (i j k : ℕ) → in_frame m.side i j k ≡ true → Iff (Has (joined Union m n) i j k) (Has m i j k ⊎ Has n i j k)
  pub intersection : (i j k : ℕ) → Iff (Has (joined Intersection m n) i j k) (Has m i j k × Has n i j k)
  pub difference : (i j k : ℕ) → Iff (Has (joined Difference m n) i j k) (Has m i j k × (Has n i j k → ⊥))
  -- the symmetric difference of a solid with itself is empty
  pub itself : (i j k : ℕ) → (joined SymmetricDifference m m).holds i j k ≡ false
  -- there and back by a shift, just the cells are left that stayed in the frame
  pub back : (d : Axis → ℤ) (i j k : ℕ) → Iff (Has (translated (opposite d) (translated d m)) i j k) (Has m i j k × Stays d m.side i j k)
  -- in one frame, union and intersection have as many cells together as the two solids
  pub volumes : m.side ≡ n.side → solid_cells (joined Union m n) + solid_cells (joined Intersection m n) ≡ solid_cells m + solid_cells n

-- two frames have the same sides
abbrev pub same_sides : (Axis → ℕ) → (Axis → ℕ) → Bool
same_sides s t = s X == t X && (s Y == t Y && s Z == t Z)

-- the numbers of cells of two solids, of their union and of their intersection, where the frames agree
abbrev pub volumes_of : Solid → Solid → Option Volumes
volumes_of m n =
    cond (same_sides m.side n.side)
    (Some (record {
      first = solid_cells m;
      second = solid_cells n;
      union = solid_cells (joined Union m n);
      intersection = solid_cells (joined Intersection m n);
    }))
    None
