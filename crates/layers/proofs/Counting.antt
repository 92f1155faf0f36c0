-- Sums over planes that are equal in stretches.
use Rattle.std.proofs.Common.{◌≡◌, ℕ, zero, suc, ◌+◌, ◌-◌, ◌*◌, ◌<◌, ◌≤◌, Bool, true, false, sym, refl, ap, ◌∙◌, subst, ap₂, add-mul, one-mul, zero-mul, arith}
use mathlib.Core.Path.{fun_ext}
use mir.Val.{bool_byte}
use Rattle.std.proofs.lemmas.Nat.{mul-le}
use Rattle.geometry.proofs.Bounds.{sides_bound}
use Rattle.geometry.specs.Frames.{sides}
use Rattle.geometry.specs.declared.frame.Frame.{Frame}
use Rattle.geometry.specs.declared.axis.Axis.TheVariants.{X, Y, Z}
use Rattle.body.specs.Solids.{Skips, Small, Solid, one, solid_cells, total}
use Rattle.layers.specs.Counts.{plane_cells, row_cells}

-- d more terms, each equal to f p
total_more : (f : ℕ → ℕ) (p d : ℕ) → ((n : ℕ) → p ≤ n → n < p + d → f n ≡ f p) → total f (p + d) ≡ total f p + d * f p
total_more f p zero same =
    let e : p + zero ≡ p = omega arith in
    let none : total f p ≡ total f p + zero * f p = omega (arith, zero-mul (f p)) in
    ap (total f) e ∙ none
total_more f p (suc d) same =
    let e : p + suc d ≡ suc (p + d) = omega arith in
    let here = same (p + d) (omega arith) (omega arith) in
    let more : total f (p + d) + f (p + d) ≡ total f p + suc d * f p = omega (arith, total_more f p d (λ n a b. same n a (omega arith)), here, add-mul d 1 (f p), one-mul (f p)) in
    ap (total f) e ∙ more

-- a stretch of equal terms, added at once
pub counted_more : (f : ℕ → ℕ) (p q count here : ℕ) → p ≤ q → ((n : ℕ) → p ≤ n → n < q → f n ≡ f p) → count ≡ total f p → here ≡ f p → count + (q - p) * here ≡ total f q
counted_more f p q count here h same is at =
    let e : p + (q - p) ≡ q = omega arith in
    ap₂ (λ (c t : ℕ). c + (q - p) * t) is at ∙ sym (total_more f p (q - p) (λ n a b. same n a (omega arith))) ∙ ap (total f) e

pub stretch_bound : (p q sum here most : ℕ) → p ≤ q → sum ≤ p * most → here ≤ most → sum + (q - p) * here ≤ q * most
stretch_bound p q sum here most h so_far each =
    let d = q - p in
    let more : d * here ≤ d * most = mul-le d here d most (omega arith) each in
    let whole : p * most + d * most ≡ q * most = sym (add-mul p d most) ∙ ap (λ n. n * most) (omega arith) in
    omega (arith, more, whole, so_far)

pub total_bound : (f : ℕ → ℕ) (most n : ℕ) → ((i : ℕ) → f i ≤ most) → total f n ≤ n * most
total_bound f most zero h = omega arith
total_bound f most (suc n) h = omega (arith, total_bound f most n h, h n, add-mul n 1 most, one-mul most)

one_bound : (b : Bool) → one b ≤ 1
one_bound true = omega arith
one_bound false = omega arith

-- a frame's sides are small
pub small_from : (f : Frame) (m : Solid) → sides f ≡ m.side → Small m
small_from f m e a = subst (λ s. s a ≤ 1024) e (sides_bound f a).1

pub one_byte : (b c : Bool) → b ≡ c → bool_byte b ≡ one c
one_byte b true e = ap bool_byte e
one_byte b false e = ap bool_byte e

module _ (m : Solid) where
  pub steady_y : (i p q : ℕ) → Skips m Y p q → (n : ℕ) → p ≤ n → n < q → row_cells m i n ≡ row_cells m i p
  steady_y i p q s n a b = ap (λ f. total f (m.side Z)) (fun_ext (λ k. ap one (s.equal n k i a b)))

  pub steady_x : (p q : ℕ) → Skips m X p q → (n : ℕ) → p ≤ n → n < q → plane_cells m n ≡ plane_cells m p
  steady_x p q s n a b = ap (λ f. total f (m.side Y)) (fun_ext (λ j. ap (λ f. total f (m.side Z)) (fun_ext (λ k. ap one (s.equal n j k a b)))))

  pub row_bound : (i j n : ℕ) → total (λ k. one (m.holds i j k)) n ≤ n
  row_bound i j n = omega (arith, total_bound (λ k. one (m.holds i j k)) 1 n (λ k. one_bound (m.holds i j k)))

  pub plane_bound : Small m → (i n : ℕ) → total (row_cells m i) n ≤ n * 1024
  plane_bound small i n = total_bound (row_cells m i) 1024 n (λ j. omega (arith, row_bound i j (m.side Z), small Z))

  pub body_bound : Small m → (n : ℕ) → total (plane_cells m) n ≤ n * 1048576
  body_bound small n = total_bound (plane_cells m) 1048576 n (λ i. omega (arith, plane_bound small i (m.side Y), small Y))

  pub cells_by_planes : total (plane_cells m) (m.side X) ≡ solid_cells m
  unfolding solid_cells
  cells_by_planes = refl

  pub cells_bound : Small m → solid_cells m ≤ 1073741824
  cells_bound small = omega (arith, cells_by_planes, body_bound small (m.side X), small X)
