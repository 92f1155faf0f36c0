-- What a body means, and what a skip may pass over.
use Rattle.std.specs.Prelude.{◌≡◌, ℕ, zero, suc, ◌+◌, ◌<◌, ◌≤◌, Bool, true, false, cond, not}
use Rattle.geometry.specs.Frames.{in_frame}
use Rattle.geometry.specs.declared.axis.Axis.{Axis}
use Rattle.geometry.specs.declared.axis.Axis.TheVariants.{X, Y, Z}

-- the sides of a frame, and which cells are solid
pub record Solid : Type 0 where
  pub side : Axis → ℕ
  pub holds : ℕ → ℕ → ℕ → Bool

-- no cell outside the frame is solid
abbrev pub Inside : Solid → Type 0
Inside m = (i j k : ℕ) → in_frame m.side i j k ≡ false → m.holds i j k ≡ false

-- no side is over 1,024
abbrev pub Small : Solid → Type 0
Small m = (a : Axis) → m.side a ≤ 1024

-- the section at a plane across an axis: the cells of the plane, by the other two coordinates in
-- cyclic order
abbrev pub section : Axis → (ℕ → ℕ → ℕ → Bool) → ℕ → ℕ → ℕ → Bool
section X h p u v = h p u v
section Y h p u v = h v p u
section Z h p u v = h u v p

-- q is a lawful skip from plane p: a later plane, at most the side, and all sections from p up to q
-- are equal; from a plane at or past the side it is the side
pub record Skips (m : Solid) (a : Axis) (p q : ℕ) : Type 0 where
  pub inside : p < m.side a → (p < q) × (q ≤ m.side a)
  pub past : m.side a ≤ p → q ≡ m.side a
  pub equal : (n u v : ℕ) → p ≤ n → n < q → section a m.holds n u v ≡ section a m.holds p u v

-- just one of two is true
abbrev pub differ : Bool → Bool → Bool
differ true b = not b
differ false b = b

-- the sum of f 0, .., f (n - 1)
abbrev pub total : (ℕ → ℕ) → ℕ → ℕ
total f zero = 0
total f (suc n) = total f n + f n

-- 1 for true, 0 for false
abbrev pub one : Bool → ℕ
one b = cond b 1 0

-- the number of solid cells of the frame
unfoldable pub solid_cells : Solid → ℕ
solid_cells m = total (λ i. total (λ j. total (λ k. one (m.holds i j k)) (m.side Z)) (m.side Y)) (m.side X)
