-- The records of a cut have as many cells as the solid, and so all laws of a cut hold.
use Rattle.std.proofs.Common.{◌≡◌, ℕ, zero, suc, ◌+◌, Bool, refl, ap, ◌∙◌, arith}
use mathlib.Core.Path.{fun_ext}
use Rattle.geometry.specs.declared.axis.Axis.{Axis}
use Rattle.geometry.specs.declared.axis.Axis.TheVariants.{X, Y, Z}
use Rattle.geometry.specs.declared.axis.AxisOrder.{AxisOrder}
use Rattle.geometry.specs.declared.axis.AxisOrder.TheVariants.{Xyz, Xzy, Yxz, Yzx, Zxy, Zyx}
use Rattle.body.specs.Solids.{Inside, Small, Solid, one, solid_cells, total}
use Rattle.boxes.specs.Cuts.{boxes}
use Rattle.boxes.specs.Covers.{volume}
use Rattle.boxes.specs.Measures.{volume_of}
use Rattle.boxes.specs.Laws.{LawfulCut, SameCells}
use Rattle.boxes.specs.Orders.{along, axis_a, axis_b, axis_c, cells, side_a, side_b, side_c}
use Rattle.boxes.proofs.Covering.{each_longest}
use Rattle.boxes.proofs.Finding.{cut_finds}
use Rattle.boxes.proofs.Recording.{cut_corners, cut_covered, cut_solid, each_reads, record_cells, sum_records}
use Rattle.boxes.proofs.Rising.{boxes_rise}
use Rattle.boxes.proofs.Touching.{cut_apart}
use Rattle.boxes.proofs.Volumes.{same_volume}

total_add : (u v : ℕ → ℕ) (n : ℕ) → total (λ i. u i + v i) n ≡ total u n + total v n
total_add u v zero = refl
total_add u v (suc n) = omega (arith, total_add u v n)

-- the two numberings of a sum's terms may be exchanged
total_exchange : (u : ℕ → ℕ → ℕ) (k n : ℕ) → total (λ i. total (λ j. u i j) n) k ≡ total (λ j. total (λ i. u i j) k) n
total_exchange u zero n = omega (arith, total_add (λ _. 0) (λ _. 0) n)
total_exchange u (suc k) n = ap (λ (t : ℕ). t + total (u k) n) (total_exchange u k n) ∙ omega (arith, total_add (λ j. total (λ i. u i j) k) (u k) n)

module _ (u : ℕ → ℕ → ℕ → ℕ) (p q r : ℕ) where
  last_two : total (λ i. total (λ j. total (λ k. u i j k) r) q) p ≡ total (λ i. total (λ k. total (λ j. u i j k) q) r) p
  last_two = ap (λ f. total f p) (fun_ext (λ i. total_exchange (u i) q r))

  first_two : total (λ i. total (λ j. total (λ k. u i j k) r) q) p ≡ total (λ j. total (λ i. total (λ k. u i j k) r) p) q
  first_two = total_exchange (λ i j. total (u i j) r) p q

-- the solid cells of a frame, counted along A, B and C
module _ (h : ℕ → ℕ → ℕ → Bool) (n : Axis → ℕ) where
  abbrev counted : AxisOrder → ℕ
  counted o = total (λ i. total (λ j. total (λ k. one (along o h i j k)) (n (axis_c o))) (n (axis_b o))) (n (axis_a o))

  from_xzy : counted Xzy ≡ counted Xyz
  from_xzy = last_two (λ x z y. one (h x y z)) (n X) (n Z) (n Y)

  from_yxz : counted Yxz ≡ counted Xyz
  from_yxz = first_two (λ y x z. one (h x y z)) (n Y) (n X) (n Z)

  from_yzx : counted Yzx ≡ counted Xyz
  from_yzx = last_two (λ y z x. one (h x y z)) (n Y) (n Z) (n X) ∙ from_yxz

  counted_same : (o : AxisOrder) → counted o ≡ counted Xyz
  counted_same Xyz = refl
  counted_same Xzy = from_xzy
  counted_same Yxz = from_yxz
  counted_same Yzx = from_yzx
  counted_same Zxy = first_two (λ z x y. one (h x y z)) (n Z) (n X) (n Y) ∙ from_xzy
  counted_same Zyx = first_two (λ z y x. one (h x y z)) (n Z) (n Y) (n X) ∙ from_yzx

pub cut_cells : (m : Solid) → Small m → (o : AxisOrder) → SameCells m o
unfolding solid_cells volume_of
cut_cells m small o =
    sum_records o _ volume (boxes (cells m o) (side_a m o) (side_b m o) (side_c m o)) (each_reads m small o _ (record_cells o))
    ∙ same_volume (cells m o) (side_a m o) (side_b m o) (side_c m o)
    ∙ counted_same m.holds m.side o

pub lawful_cut : (m : Solid) → Inside m → Small m → (o : AxisOrder) → LawfulCut m o
lawful_cut m inside small o =
    record {
      covered = cut_covered m small o inside;
      volume = cut_cells m small o;
      solid = cut_solid m small o inside;
      corners = cut_corners m small o inside;
      finds = cut_finds m o (cut_solid m small o inside);
      apart = cut_apart m small o;
      longest = each_longest (cells m o) (side_a m o) (side_b m o) (side_c m o);
      rising = boxes_rise (cells m o) (side_a m o) (side_b m o) (side_c m o);
    }
