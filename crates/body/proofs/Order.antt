-- The corner list rises by x, then y, then z, and lies in the frame.
use Rattle.std.proofs.Common.{◌≡◌, ℕ, zero, suc, ◌+◌, ◌<◌, ◌≤◌, Bool, true, false, cond, List, [], ◌∷◌, ◌++◌, refl, inl, inr, arith}
use Rattle.std.proofs.lemmas.Bool.{and_from, le-leb}
use Rattle.geometry.specs.Frames.{on_frame}
use Rattle.geometry.specs.declared.axis.Axis.TheVariants.{X, Y, Z}
use Rattle.geometry.specs.declared.frame.Point.{Point}
use Rattle.tables.specs.Tables.{listed}
use Rattle.body.specs.Solids.{Solid}
use Rattle.body.specs.Corners.{All, Before, Rising, corner, corner_at, corner_list, plane_corners, point, row_corners}

all_append : {A : Type 0} (P : A → Type 0) (l m : List A) → All P l → All P m → All P (l ++ m)
all_append P [] m pl pm = pm
all_append P (x ∷ l) m pl pm = (pl.0, all_append P l m pl.1 pm)

pub all_map : {A : Type 0} (P Q : A → Type 0) (l : List A) → ((x : A) → P x → Q x) → All P l → All Q l
all_map P Q [] f pl = tt
all_map P Q (x ∷ l) f pl = (f x pl.0, all_map P Q l f pl.1)

rising_append : (l m : List Point) → Rising l → Rising m → All (λ p. All (Before p) m) l → Rising (l ++ m)
rising_append [] m rl rm below = rm
rising_append (p ∷ l) m rl rm below = (all_append (Before p) l m rl.0 below.0, rising_append l m rl.1 rm below.1)

-- parts that rise, each of points known by its number, where a lower number means before
module _ (f : ℕ → List Point) (Q : ℕ → Point → Type 0) (known : (n : ℕ) → All (Q n) (f n)) where
  all_listed : (R : Point → Type 0) (k i : ℕ) → ((n : ℕ) (p : Point) → i ≤ n → n < i + k → Q n p → R p) → All R (listed f k i)
  unfolding listed
  all_listed R zero i each = tt
  all_listed R (suc k) i each =
      all_append R (f i) (listed f k (suc i)) (all_map (Q i) R (f i) (λ p. each i p (omega arith) (omega arith)) (known i)) (all_listed R k (suc i) (λ n p h l. each n p (omega arith) (omega arith)))

  rising_listed : ((n : ℕ) → Rising (f n)) → ((a b : ℕ) (p q : Point) → a < b → Q a p → Q b q → Before p q) → (k i : ℕ) → Rising (listed f k i)
  unfolding listed
  rising_listed each apart zero i = tt
  rising_listed each apart (suc k) i =
      rising_append (f i) (listed f k (suc i)) (each i) (rising_listed each apart k (suc i))
      (all_map (Q i) (λ p. All (Before p) (listed f k (suc i))) (f i) (λ p qp. all_listed (Before p) k (suc i) (λ n q h l qq. apart i n p q (omega arith) qp qq)) (known i))

module _ (m : Solid) where
  Is : ℕ → ℕ → ℕ → Point → Type 0
  Is x y z p = (p.x ≡ x) × (p.y ≡ y) × (p.z ≡ z)

  InRow : ℕ → ℕ → Point → Type 0
  InRow x y p = (p.x ≡ x) × (p.y ≡ y)

  InPlane : ℕ → Point → Type 0
  InPlane x p = p.x ≡ x

  is_at : (x y z : ℕ) → All (Is x y z) (corner_at m x y z)
  unfolding Is
  is_at x y z = go (corner m.holds x y z)
    where
      go : (b : Bool) → All (Is x y z) (cond b (point x y z ∷ []) [])
      go true = ((refl, refl, refl), tt)
      go false = tt

  rising_at : (x y z : ℕ) → Rising (corner_at m x y z)
  rising_at x y z = go (corner m.holds x y z)
    where
      go : (b : Bool) → Rising (cond b (point x y z ∷ []) [])
      go true = (tt, tt)
      go false = tt

  in_row : (x y : ℕ) → All (InRow x y) (row_corners m x y)
  unfolding Is InRow
  in_row x y = all_listed (corner_at m x y) (Is x y) (is_at x y) (InRow x y) _ 0 (λ n p h l q. (q.0, q.1))

  rising_row : (x y : ℕ) → Rising (row_corners m x y)
  unfolding Is
  rising_row x y = rising_listed (corner_at m x y) (Is x y) (is_at x y) (rising_at x y) (λ a b p q h ip iq. inr (omega (arith, ip.0, iq.0), inr (omega (arith, ip.1, iq.1), omega (arith, ip.2, iq.2)))) _ 0

  in_plane : (x : ℕ) → All (InPlane x) (plane_corners m x)
  unfolding InRow InPlane
  in_plane x = all_listed (row_corners m x) (InRow x) (in_row x) (InPlane x) _ 0 (λ n p h l q. q.0)

  rising_plane : (x : ℕ) → Rising (plane_corners m x)
  unfolding InRow
  rising_plane x = rising_listed (row_corners m x) (InRow x) (in_row x) (rising_row x) (λ a b p q h ip iq. inr (omega (arith, ip.0, iq.0), inl (omega (arith, ip.1, iq.1)))) _ 0

  pub corners_rise : Rising (corner_list m)
  unfolding InPlane
  corners_rise = rising_listed (plane_corners m) InPlane in_plane rising_plane (λ a b p q h ip iq. inl (omega (arith, ip, iq))) _ 0

  -- the corners lie in the frame
  RowReach : ℕ → ℕ → Point → Type 0
  RowReach x y p = (p.x ≡ x) × (p.y ≡ y) × (p.z ≤ m.side Z)

  row_reaches : (x y : ℕ) → All (RowReach x y) (row_corners m x y)
  unfolding Is RowReach
  row_reaches x y = all_listed (corner_at m x y) (Is x y) (is_at x y) (RowReach x y) _ 0 (λ n p h l q. (q.0, q.1, omega (arith, q.2)))

  PlaneReach : ℕ → Point → Type 0
  PlaneReach x p = (p.x ≡ x) × (p.y ≤ m.side Y) × (p.z ≤ m.side Z)

  plane_reaches : (x : ℕ) → All (PlaneReach x) (plane_corners m x)
  unfolding RowReach PlaneReach
  plane_reaches x = all_listed (row_corners m x) (RowReach x) (row_reaches x) (PlaneReach x) _ 0 (λ n p h l q. (q.0, omega (arith, q.1), q.2))

  pub corners_reach : All (λ p. on_frame m.side p.x p.y p.z ≡ true) (corner_list m)
  unfolding PlaneReach
  corners_reach =
      all_listed (plane_corners m) PlaneReach plane_reaches _ _ 0
      (λ n p h l q. and_from _ _ (le-leb p.x (m.side X) (omega (arith, q.0))) (and_from _ _ (le-leb p.y (m.side Y) q.1) (le-leb p.z (m.side Z) q.2)))
