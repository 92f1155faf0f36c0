-- Equal sections across an axis of an order are equal cells along A, B or C.
use Rattle.std.proofs.Common.{◌≡◌, ℕ, Bool}
use Rattle.geometry.specs.declared.axis.AxisOrder.{AxisOrder}
use Rattle.geometry.specs.declared.axis.AxisOrder.TheVariants.{Xyz, Xzy, Yxz, Yzx, Zxy, Zyx}
use Rattle.body.specs.Solids.{section}
use Rattle.boxes.specs.Orders.{along, axis_a, axis_b, axis_c}

module _ (h : ℕ → ℕ → ℕ → Bool) (n p : ℕ) where
  pub same_along_a : (o : AxisOrder) → ((u v : ℕ) → section (axis_a o) h n u v ≡ section (axis_a o) h p u v) → (b c : ℕ) → along o h n b c ≡ along o h p b c
  same_along_a Xyz same b c = same b c
  same_along_a Xzy same b c = same c b
  same_along_a Yxz same b c = same c b
  same_along_a Yzx same b c = same b c
  same_along_a Zxy same b c = same b c
  same_along_a Zyx same b c = same c b

  pub same_along_b : (o : AxisOrder) → ((u v : ℕ) → section (axis_b o) h n u v ≡ section (axis_b o) h p u v) → (a c : ℕ) → along o h a n c ≡ along o h a p c
  same_along_b Xyz same a c = same c a
  same_along_b Xzy same a c = same a c
  same_along_b Yxz same a c = same a c
  same_along_b Yzx same a c = same c a
  same_along_b Zxy same a c = same c a
  same_along_b Zyx same a c = same a c

  pub same_along_c : (o : AxisOrder) → ((u v : ℕ) → section (axis_c o) h n u v ≡ section (axis_c o) h p u v) → (a b : ℕ) → along o h a b n ≡ along o h a b p
  same_along_c Xyz same a b = same a b
  same_along_c Xzy same a b = same b a
  same_along_c Yxz same a b = same b a
  same_along_c Yzx same a b = same a b
  same_along_c Zxy same a b = same a b
  same_along_c Zyx same a b = same b a
