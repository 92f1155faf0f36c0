-- No box begins strictly between a plane and its skip.
use Rattle.std.proofs.Common.{◌≡◌, ℕ, zero, suc, ◌<◌, ◌≤◌, Bool, true, false, cond, not, ◌&&◌, List, [], ◌∷◌, map, sym, refl, ap, ◌∙◌, arith}
use mathlib.Core.Path.{fun_ext}
use Rattle.geometry.specs.declared.axis.AxisOrder.{AxisOrder}
use Rattle.tables.proofs.Listed.{listed_empty}
use Rattle.body.specs.Solids.{Skips, Solid}
use Rattle.boxes.specs.Cuts.{box_at, box_end, box_of_plate, box_of_run, plate_end, row_boxes, run_end}
use Rattle.boxes.specs.Orders.{axis_a, axis_b, cells, is_plate, is_run, side_a, side_b, side_c}
use Rattle.boxes.specs.Records.{plane_records, record_of, row_records}
use Rattle.boxes.specs.Stretches.{opens, stretch}
use Rattle.boxes.proofs.Turning.{same_along_a, same_along_b}

and_not : (b : Bool) → (b && not b) ≡ false
and_not true = refl
and_not false = refl

none_either : {A : Type 0} (b : Bool) (l : List A) → l ≡ [] → cond b l [] ≡ []
none_either true l e = e
none_either false l e = refl

-- nothing begins where all is as before
opens_between : (Q : ℕ → Bool) (p q n : ℕ) → ((i : ℕ) → p ≤ i → i < q → Q i ≡ Q p) → p < n → n < q → opens Q n ≡ false
opens_between Q p q zero same p<n n<q = absurd (omega arith)
opens_between Q p q (suc n) same p<n n<q =
    ap (λ b. b && not (Q n)) (same (suc n) (omega arith) n<q ∙ sym (same n (omega arith) (omega arith))) ∙ and_not (Q n)

module _ (m : Solid) (o : AxisOrder) (p q : ℕ) where
  pub passed_b : Skips m (axis_b o) p q → (a n : ℕ) → p < n → n < q → row_records m o a n ≡ []
  unfolding box_at
  passed_b s a n p<n n<q =
      ap (map (record_of o)) (listed_empty (box_at (cells m o) (side_a m o) (side_b m o) (side_c m o) a n) (side_c m o) 0 (λ c. none_either (opens (cells m o a n) c) _ (none c (run_end (cells m o) (side_a m o) (side_b m o) (side_c m o) a n c))))
    where
      none : (c c' : ℕ) → box_of_run (cells m o) (side_a m o) (side_b m o) (side_c m o) a n c c' ≡ []
      none c c' =
          ap (λ t. cond t (box_of_plate (cells m o) (side_a m o) (side_b m o) (side_c m o) a n (plate_end (cells m o) (side_a m o) (side_b m o) (side_c m o) a n c c') c c') [])
          (opens_between (is_run m o a c c') p q n (λ i low high. ap (λ Q. stretch Q (side_c m o) c c') (fun_ext λ k. same_along_b m.holds i p o (λ u v. s.equal i u v low high) a k)) p<n n<q)

  pub passed_a : Skips m (axis_a o) p q → (n : ℕ) → p < n → n < q → plane_records m o n ≡ []
  unfolding box_at
  passed_a s n p<n n<q =
      ap (map (record_of o)) (listed_empty (row_boxes (cells m o) (side_a m o) (side_b m o) (side_c m o) n) (side_b m o) 0 (λ b. listed_empty (box_at (cells m o) (side_a m o) (side_b m o) (side_c m o) n b) (side_c m o) 0 (λ c. none_either (opens (cells m o n b) c) _ (none_either (opens (is_run m o n c _) b) _ (none b _ c _)))))
    where
      none : (b b' c c' : ℕ) → box_of_plate (cells m o) (side_a m o) (side_b m o) (side_c m o) n b b' c c' ≡ []
      none b b' c c' =
          ap (λ t. cond t (record { a = n; a' = box_end (cells m o) (side_a m o) (side_b m o) (side_c m o) n b b' c c'; b = b; b' = b'; c = c; c' = c' } ∷ []) [])
          (opens_between (is_plate m o b b' c c') p q n (λ i low high. ap (λ Q. stretch Q (side_b m o) b b') (fun_ext λ j. ap (λ Q. stretch Q (side_c m o) c c') (fun_ext λ k. same_along_a m.holds i p o (λ u v. s.equal i u v low high) j k))) p<n n<q)
