-- Corners: the points at which a solid's cells meet in an odd number, and their list.
use Rattle.std.specs.Prelude.{◌≡◌, ℕ, zero, suc, ◌+◌, ◌<◌, Bool, false, cond, not, ◌&&◌, ◌⊎◌, List, [], ◌∷◌, length, take, Ok, Err, Result, ◌==◌, nat_le}
use Rattle.geometry.specs.declared.axis.Axis.{Axis}
use Rattle.geometry.specs.declared.axis.Axis.TheVariants.{X, Y, Z}
use Rattle.geometry.specs.declared.frame.Point.{Point}
use Rattle.geometry.specs.declared.refusal.Refusal.{Refusal}
use Rattle.geometry.specs.declared.refusal.Refusal.TheVariants.{CornersFull}
use Rattle.tables.specs.Tables.{capacity, listed, overlay}
use Rattle.body.specs.Solids.{Solid, differ, one}

-- f at n is not as it is before n; before 0 it is false
abbrev pub changes : (ℕ → Bool) → ℕ → Bool
changes f zero = f zero
changes f (suc n) = differ (f (suc n)) (f n)

-- f at n and at the number before it, added; there is nothing before 0
abbrev pub around : (ℕ → ℕ) → ℕ → ℕ
around f zero = f zero
around f (suc n) = f (suc n) + f n

-- the number of solid cells among the eight that meet at the point (x, y, z)
abbrev pub meeting : (ℕ → ℕ → ℕ → Bool) → ℕ → ℕ → ℕ → ℕ
meeting h x y z = around (λ k. around (λ j. around (λ i. one (h i j k)) x) y) z

abbrev pub odd : ℕ → Bool
odd zero = false
odd (suc n) = not (odd n)

-- a point is a corner when an odd number of the cells that meet there are solid
unfoldable pub corner : (ℕ → ℕ → ℕ → Bool) → ℕ → ℕ → ℕ → Bool
corner h x y z = odd (meeting h x y z)

abbrev pub point : ℕ → ℕ → ℕ → Point
point x y z = record { x = x; y = y; z = z }

-- the corners with these x and y, by z; those with this x, by y and z
abbrev pub corner_at : Solid → ℕ → ℕ → ℕ → List Point
corner_at m x y z = cond (corner m.holds x y z) (point x y z ∷ []) []

abbrev pub row_corners : Solid → ℕ → ℕ → List Point
row_corners m x y = listed (corner_at m x y) (m.side Z + 1) 0

abbrev pub plane_corners : Solid → ℕ → List Point
plane_corners m x = listed (row_corners m x) (m.side Y + 1) 0

-- the corner list: all corners in the frame, by x, then y, then z
abbrev pub corner_list : Solid → List Point
corner_list m = listed (plane_corners m) (m.side X + 1) 0

-- what the corners call gives and leaves: the length of the list, or the refusal where it is longer
-- than the capacity; the table begins with the list, or with as much of it as the capacity takes
pub record ListingOutcome : Type 0 where
  pub answer : Result ℕ Refusal
  pub table : List Point

unfoldable pub corners_outcome : Solid → List Point → ListingOutcome
corners_outcome m table =
    record {
      answer = cond (nat_le (length (corner_list m)) (capacity table)) (Ok (length (corner_list m))) (Err CornersFull);
      table = overlay (take (capacity table) (corner_list m)) table;
    }

-- an odd number of the entries pass the test
abbrev pub parity : {A : Type 0} → (A → Bool) → List A → Bool
parity Q [] = false
parity Q (p ∷ l) = differ (Q p) (parity Q l)

-- a point is at or below a cell in all three coordinates
abbrev pub at_or_below : ℕ → ℕ → ℕ → Point → Bool
at_or_below i j k p = nat_le p.z k && (nat_le p.y j && nat_le p.x i)

-- a point lies on the line along an axis with these other two coordinates, in cyclic order
abbrev pub on_line : Axis → ℕ → ℕ → Point → Bool
on_line X u v p = p.y == u && p.z == v
on_line Y u v p = p.z == u && p.x == v
on_line Z u v p = p.x == u && p.y == v

-- every line along an axis carries an even number of the points
abbrev pub EvenLines : List Point → Type 0
EvenLines l = (a : Axis) (u v : ℕ) → parity (on_line a u v) l ≡ false

-- the parity of the points at or below a cell says whether it is solid
abbrev pub Determines : List Point → (ℕ → ℕ → ℕ → Bool) → Type 0
Determines l h = (i j k : ℕ) → parity (at_or_below i j k) l ≡ h i j k

-- p comes before q: by x, then y, then z
abbrev pub Before : Point → Point → Type 0
Before p q = (p.x < q.x) ⊎ ((p.x ≡ q.x) × ((p.y < q.y) ⊎ ((p.y ≡ q.y) × (p.z < q.z))))

abbrev pub All : {A : Type 0} → (A → Type 0) → List A → Type 0
All P [] = Unit {0}
All P (x ∷ l) = P x × All P l

-- each point comes before all that follow it
abbrev pub Rising : List Point → Type 0
Rising [] = Unit {0}
Rising (p ∷ l) = All (Before p) l × Rising l
