-- Tables of skips, which a walk that comes back to the same planes reads in place of asking again.
use Rattle.std.specs.Prelude.{◌≡◌, ℕ, ◌+◌, ◌<◌, ◌≤◌, List, slice_index}
use Rattle.geometry.specs.declared.axis.Axis.{Axis}
use Rattle.body.specs.Solids.{Solid, Skips}

-- the first n planes along an axis have lawful skips in the table
abbrev pub IndexedTo : Solid → Axis → ℕ → List ℕ → Type 0
IndexedTo m a n next = (p : ℕ) → p < n → Skips m a p (slice_index next p)

-- a table of skips along an axis has the side, and the skip from each plane of the frame
pub record Indexed (m : Solid) (a : Axis) (side : ℕ) (next : List ℕ) : Type 0 where
  pub whole : side ≡ m.side a
  pub each : IndexedTo m a side next

-- r is where a walk over the planes 0 to the side goes from plane p: to its skip, and past the side
-- from the side on
pub record Walks (m : Solid) (a : Axis) (p r : ℕ) : Type 0 where
  pub inside : p < m.side a → Skips m a p r
  pub past : m.side a ≤ p → r ≡ m.side a + 1
