-- There are no corners in a plane whose section is as the one before.
use Rattle.std.proofs.Common.{◌≡◌, ℕ, zero, suc, ◌+◌, ◌<◌, ◌≤◌, Bool, false, cond, [], ◌∷◌, sym, ap, ◌∙◌, ⊎_elim, arith}
use mathlib.Core.Path.{fun_ext}
use Rattle.std.proofs.lemmas.Bool.{cases_lt}
use Rattle.geometry.specs.declared.axis.Axis.{Axis}
use Rattle.geometry.specs.declared.axis.Axis.TheVariants.{X, Y, Z}
use Rattle.tables.proofs.Listed.{listed_empty}
use Rattle.body.specs.Indexes.{Walks}
use Rattle.body.specs.Solids.{Solid, Skips, section}
use Rattle.body.specs.Corners.{changes, corner, corner_at, row_corners, plane_corners, point}
use Rattle.body.proofs.Parity.{changes_none, changes_same, corner_changes}

-- a corner, by its plane across an axis and the other two coordinates in cyclic order
abbrev pub corner_in : Axis → (ℕ → ℕ → ℕ → Bool) → ℕ → ℕ → ℕ → Bool
corner_in a h = section a (corner h)

pub flat : (a : Axis) (h : ℕ → ℕ → ℕ → Bool) (n : ℕ) → ((u v : ℕ) → section a h (suc n) u v ≡ section a h n u v) → (u v : ℕ) → corner_in a h (suc n) u v ≡ false
flat X h n same y z =
    corner_changes h (suc n) y z ∙ changes_none _ z (λ k. changes_none _ y (λ j. changes_same (λ i. h i j k) n (same j k)))
flat Y h n same z x =
    corner_changes h x (suc n) z ∙ changes_none _ z (λ k. changes_same (λ j. changes (λ i. h i j k) x) n (ap (λ f. changes f x) (fun_ext λ i. same k i)))
flat Z h n same x y =
    corner_changes h x y (suc n) ∙ changes_same (λ k. changes (λ j. changes (λ i. h i j k) x) y) n (ap (λ f. changes f y) (fun_ext λ j. ap (λ f. changes f x) (fun_ext λ i. same i j)))

-- so there are none strictly between a plane and its skip
pub flat_between : (m : Solid) (a : Axis) (p q : ℕ) → Skips m a p q → (n : ℕ) → p < n → n < q → (u v : ℕ) → corner_in a m.holds n u v ≡ false
flat_between m a p q s zero p<n n<q u v = absurd (omega arith)
flat_between m a p q s (suc n) p<n n<q u v =
    flat a m.holds n (λ u v. s.equal (suc n) u v (omega arith) n<q ∙ sym (s.equal n u v (omega arith) (omega arith))) u v

pub no_corner : (m : Solid) (x y z : ℕ) → corner m.holds x y z ≡ false → corner_at m x y z ≡ []
no_corner m x y z e = ap (λ b. cond b (point x y z ∷ []) []) e

-- a walk stays within the planes 0 to the side
pub walk_bounds : (m : Solid) (a : Axis) (p r : ℕ) → Walks m a p r → p < m.side a + 1 → (p < r) × (r ≤ m.side a + 1)
walk_bounds m a p r w h =
    ⊎_elim
    (λ (below : p < m.side a). let b = (w.inside below).inside below in (b.0, omega (arith, b.1)))
    (λ (past : m.side a ≤ p). let e = w.past past in (omega (arith, e), omega (arith, e)))
    (cases_lt p (m.side a))

-- and passes over no corners
pub walk_flat : (m : Solid) (a : Axis) (p r : ℕ) → Walks m a p r → (n : ℕ) → p < n → n < r → (u v : ℕ) → corner_in a m.holds n u v ≡ false
walk_flat m a p r w n p<n n<r u v =
    ⊎_elim
    (λ (below : p < m.side a). flat_between m a p r (w.inside below) n p<n n<r u v)
    (λ (past : m.side a ≤ p). absurd (omega (arith, w.past past)))
    (cases_lt p (m.side a))

-- the same of the lists
pub flat_at : (m : Solid) (x y p r : ℕ) → Walks m Z p r → (n : ℕ) → p < n → n < r → corner_at m x y n ≡ []
flat_at m x y p r w n p<n n<r = no_corner m x y n (walk_flat m Z p r w n p<n n<r x y)

pub flat_row : (m : Solid) (x p r : ℕ) → Walks m Y p r → (n : ℕ) → p < n → n < r → row_corners m x n ≡ []
flat_row m x p r w n p<n n<r =
    listed_empty (corner_at m x n) _ 0 (λ z. no_corner m x n z (walk_flat m Y p r w n p<n n<r z x))

pub flat_plane : (m : Solid) (p r : ℕ) → Walks m X p r → (n : ℕ) → p < n → n < r → plane_corners m n ≡ []
flat_plane m p r w n p<n n<r =
    listed_empty (row_corners m n) _ 0 (λ y. listed_empty (corner_at m n y) _ 0 (λ z. no_corner m n y z (walk_flat m X p r w n p<n n<r y z)))
