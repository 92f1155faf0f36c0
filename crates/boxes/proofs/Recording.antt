-- The records of a cut hold each solid cell once and no other cell, so they are the solid.
use Rattle.std.proofs.Common.{◌≡◌, ℕ, ◌+◌, ◌-◌, ◌*◌, ◌<◌, ◌≤◌, Bool, true, false, not, ◌&&◌, eqb, List, [], ◌∷◌, map, sum_by, sym, refl, ap, ◌∙◌, ap₂, ⊎_elim, mul_assoc, mul_comm, arith}
use mathlib.Core.Path.{fun_ext}
use mathlib.Core.Bool.{and_assoc, and_comm}
use Rattle.std.proofs.lemmas.List.Sums.{sum_by-cons}
use Rattle.std.proofs.lemmas.Bool.{cases_Bool}
use Rattle.geometry.specs.Cuboids.{in_box, lower_of, lowers, upper_of, uppers, within}
use Rattle.geometry.specs.Frames.{sides_given}
use Rattle.geometry.specs.declared.axis.Axis.{Axis}
use Rattle.geometry.specs.declared.axis.Axis.TheVariants.{X, Y, Z}
use Rattle.geometry.specs.declared.axis.AxisOrder.{AxisOrder}
use Rattle.geometry.specs.declared.axis.AxisOrder.TheVariants.{Xyz, Xzy, Yxz, Yzx, Zxy, Zyx}
use Rattle.geometry.specs.declared.cuboid.Cuboid.{Cuboid}
use Rattle.body.specs.Corners.{All, corner_list}
use Rattle.body.specs.Solids.{Inside, Small, Solid, one}
use Rattle.boxes.specs.Cuts.{Bounds, boxes}
use Rattle.boxes.specs.Covers.{LongestBox, between, holds_cell, volume}
use Rattle.boxes.specs.Covers.{Inside as Inside-along}
use Rattle.boxes.specs.Laws.{Covered, SameCorners, SameSolid}
use Rattle.boxes.specs.Measures.{cells_of}
use Rattle.boxes.specs.Orders.{axis_a, axis_b, axis_c, cells, side_a, side_b, side_c}
use Rattle.boxes.specs.Records.{record_of}
use Rattle.boxes.specs.declared.record.BoxRecord.{BoxRecord}
use Rattle.boxes.proofs.Boxing.{cells_inside}
use Rattle.boxes.proofs.Covering.{covered_everywhere, each_longest, lowest_plate, lowest_run}
use Rattle.boxes.proofs.Parts.{all_weaker}

-- three values joined, by x, y and z and by A, B and C
module _ {T : Type 0} (join : T → T → T) (assoc : (s t u : T) → join (join s t) u ≡ join s (join t u)) (comm : (s t : T) → join s t ≡ join t s) where
  last_two : (s t u : T) → join (join s t) u ≡ join (join s u) t
  last_two s t u = assoc s t u ∙ ap (join s) (comm t u) ∙ sym (assoc s u t)

  first_two : (s t u : T) → join (join s t) u ≡ join (join t s) u
  first_two s t u = ap (λ r. join r u) (comm s t)

  joined_along : (o : AxisOrder) (g : Axis → T) → join (join (g X) (g Y)) (g Z) ≡ join (join (g (axis_a o)) (g (axis_b o))) (g (axis_c o))
  joined_along Xyz g = refl
  joined_along Xzy g = last_two (g X) (g Y) (g Z)
  joined_along Yxz g = first_two (g X) (g Y) (g Z)
  joined_along Yzx g = first_two (g X) (g Y) (g Z) ∙ last_two (g Y) (g X) (g Z)
  joined_along Zxy g = last_two (g X) (g Y) (g Z) ∙ first_two (g X) (g Z) (g Y)
  joined_along Zyx g = first_two (g X) (g Y) (g Z) ∙ last_two (g Y) (g X) (g Z) ∙ first_two (g Y) (g Z) (g X)

-- a box reads as these bounds along an axis
abbrev pub Reads : Cuboid → Axis → ℕ → ℕ → Type 0
Reads b a low high = (lowers b a ≡ low) × (uppers b a ≡ high)

pub within_is : (b : Cuboid) (a : Axis) (low high n : ℕ) → Reads b a low high → within b a n ≡ between low high n
within_is b a low high n e = ap₂ (λ (s t : ℕ). between s t n) e.0 e.1

-- the record of a box reads as the bounds of the box
abbrev pub ReadsBack : AxisOrder → Bounds → Type 0
ReadsBack o w =
    Reads (record_of o w).cuboid (axis_a o) w.a w.a'
    × Reads (record_of o w).cuboid (axis_b o) w.b w.b'
    × Reads (record_of o w).cuboid (axis_c o) w.c w.c'

-- stored bounds read as they are
abbrev Kept : ℕ → ℕ → Type 0
Kept low high = (lower_of low ≡ low) × (upper_of low high ≡ high)

kept : (low high : ℕ) → low < high → high ≤ 1024 → Kept low high
kept low high s t = (omega arith, omega arith)

reads_back : (o : AxisOrder) (w : Bounds) → Kept w.a w.a' → Kept w.b w.b' → Kept w.c w.c' → ReadsBack o w
reads_back Xyz w a b c = (a, b, c)
reads_back Xzy w a b c = (a, b, c)
reads_back Yxz w a b c = (a, b, c)
reads_back Yzx w a b c = (a, b, c)
reads_back Zxy w a b c = (a, b, c)
reads_back Zyx w a b c = (a, b, c)

module _ (o : AxisOrder) (w : Bounds) (reads : ReadsBack o w) where
  -- its box holds the same cells
  record_holds : (x y z : ℕ) → let n = sides_given x y z in in_box (record_of o w).cuboid x y z ≡ holds_cell w (n (axis_a o)) (n (axis_b o)) (n (axis_c o))
  record_holds x y z =
      let n = sides_given x y z in
      let at : Axis → Bool = λ a. within (record_of o w).cuboid a (n a) in
      joined_along (λ s t. s && t) and_assoc and_comm o at
      ∙ and_assoc (at (axis_a o)) (at (axis_b o)) (at (axis_c o))
      ∙ ap₂ (λ (s t : Bool). s && t) (within_is (record_of o w).cuboid (axis_a o) w.a w.a' (n (axis_a o)) reads.0)
      (ap₂ (λ (s t : Bool). s && t) (within_is (record_of o w).cuboid (axis_b o) w.b w.b' (n (axis_b o)) reads.1) (within_is (record_of o w).cuboid (axis_c o) w.c w.c' (n (axis_c o)) reads.2))

  -- and has as many
  pub record_cells : cells_of (record_of o w) ≡ volume w
  unfolding cells_of
  record_cells =
      let length : Axis → ℕ = λ a. uppers (record_of o w).cuboid a - lowers (record_of o w).cuboid a in
      let along : (a : Axis) (low high : ℕ) → Reads (record_of o w).cuboid a low high → length a ≡ high - low = λ a low high e. ap₂ (λ (s t : ℕ). t - s) e.0 e.1 in
      joined_along (λ s t. s * t) mul_assoc mul_comm o length
      ∙ ap₂ (λ (s t : ℕ). s * t) (ap₂ (λ (s t : ℕ). s * t) (along (axis_a o) w.a w.a' reads.0) (along (axis_b o) w.b w.b' reads.1)) (along (axis_c o) w.c w.c' reads.2)

-- a sum over records, by the boxes they are of
pub sum_records : (o : AxisOrder) (u : BoxRecord → ℕ) (v : Bounds → ℕ) (l : List Bounds) → All (λ w. u (record_of o w) ≡ v w) l → sum_by u (map (record_of o) l) ≡ sum_by v l
sum_records o u v [] same = refl
sum_records o u v (w ∷ l) same =
    sum_by-cons u (record_of o w) (map (record_of o) l) ∙ ap₂ (λ (s t : ℕ). s + t) same.0 (sum_records o u v l same.1) ∙ sym (sum_by-cons v w l)

-- the cell (x, y, z) by its coordinates along A, B and C
cell_along : (m : Solid) (o : AxisOrder) (x y z : ℕ) → let n = sides_given x y z in cells m o (n (axis_a o)) (n (axis_b o)) (n (axis_c o)) ≡ m.holds x y z
cell_along m Xyz x y z = refl
cell_along m Xzy x y z = refl
cell_along m Yxz x y z = refl
cell_along m Yzx x y z = refl
cell_along m Zxy x y z = refl
cell_along m Zyx x y z = refl

module _ (m : Solid) (small : Small m) (o : AxisOrder) where
  longest_reads : (w : Bounds) → LongestBox (cells m o) (side_a m o) (side_b m o) (side_c m o) w → ReadsBack o w
  longest_reads w long =
      let p = long.planes in
      let q = lowest_plate (cells m o) (side_a m o) (side_b m o) (side_c m o) w long in
      let r = lowest_run (cells m o) (side_a m o) (side_b m o) (side_c m o) w long in
      reads_back o w
      (kept w.a w.a' p.some (omega (arith, p.within, small (axis_a o))))
      (kept w.b w.b' q.some (omega (arith, q.within, small (axis_b o))))
      (kept w.c w.c' r.some (omega (arith, r.within, small (axis_c o))))

  -- what holds of boxes whose records read back holds of all boxes
  pub each_reads : (P : Bounds → Type 0) → ((w : Bounds) → ReadsBack o w → P w) → All P (boxes (cells m o) (side_a m o) (side_b m o) (side_c m o))
  each_reads P of =
      all_weaker _ P (boxes (cells m o) (side_a m o) (side_b m o) (side_c m o)) (λ w long. of w (longest_reads w long)) (each_longest (cells m o) (side_a m o) (side_b m o) (side_c m o))

  module _ (inside : Inside m) where
    outside : (a b c : ℕ) → ((a < side_a m o) × (b < side_b m o) × (c < side_c m o) → ⊥) → cells m o a b c ≡ false
    outside a b c past = ⊎_elim (λ (e : cells m o a b c ≡ true). absurd (past (cells_inside m inside o a b c e))) (λ (e : cells m o a b c ≡ false). e) (cases_Bool (cells m o a b c))

    inside_along : Inside-along (cells m o) (side_a m o) (side_b m o) (side_c m o)
    inside_along =
        record {
          a = λ i j k h. outside i j k (λ l. omega (arith, l.0, h));
          b = λ i j k h. outside i j k (λ l. omega (arith, l.1, h));
          c = λ i j k h. outside i j k (λ l. omega (arith, l.2, h));
        }

    pub cut_covered : Covered m o
    cut_covered x y z =
        let n = sides_given x y z in
        sum_records o _ (λ w. one (holds_cell w (n (axis_a o)) (n (axis_b o)) (n (axis_c o)))) (boxes (cells m o) (side_a m o) (side_b m o) (side_c m o)) (each_reads _ (λ w reads. ap one (record_holds o w reads x y z)))
        ∙ covered_everywhere (cells m o) (side_a m o) (side_b m o) (side_c m o) inside_along (n (axis_a o)) (n (axis_b o)) (n (axis_c o))
        ∙ ap one (cell_along m o x y z)

    -- a cell is held just when it is held once
    pub cut_solid : SameSolid m o
    cut_solid =
        ap (λ (h : ℕ → ℕ → ℕ → Bool). record { side = m.side; holds = h })
        (fun_ext (λ x. fun_ext (λ y. fun_ext (λ z. ap (λ (t : ℕ). not (eqb t 0)) (cut_covered x y z) ∙ some_is (m.holds x y z)))))
      where
        some_is : (b : Bool) → not (eqb (one b) 0) ≡ b
        some_is true = refl
        some_is false = refl

    pub cut_corners : SameCorners m o
    cut_corners = ap corner_list cut_solid
