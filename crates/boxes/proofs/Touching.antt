-- No two boxes of a cut's records touch along C.
use Rattle.std.proofs.Common.{◌≡◌, ℕ, ◌<◌, ◌≤◌, true, List, [], ◌∷◌, map, sym, ◌∙◌}
use Rattle.geometry.specs.Cuboids.{within}
use Rattle.geometry.specs.declared.axis.Axis.{Axis}
use Rattle.geometry.specs.declared.axis.AxisOrder.{AxisOrder}
use Rattle.geometry.specs.declared.cuboid.Cuboid.{Cuboid}
use Rattle.body.specs.Corners.{All}
use Rattle.body.specs.Solids.{Small, Solid}
use Rattle.boxes.specs.Cuts.{Bounds, boxes}
use Rattle.boxes.specs.Covers.{TouchAlongC}
use Rattle.boxes.specs.Laws.{Apart, Touch}
use Rattle.boxes.specs.Orders.{axis_a, axis_b, cells, side_a, side_b, side_c}
use Rattle.boxes.specs.Records.{record_of}
use Rattle.boxes.proofs.Covering.{apart_along_c, between_parts}
use Rattle.boxes.proofs.Recording.{Reads, ReadsBack, each_reads, within_is}

module _ {A : Type 0} where
  -- what holds of all entries, from two things that do
  all_from : (P Q R : A → Type 0) (l : List A) → ((x : A) → P x → Q x → R x) → All P l → All Q l → All R l
  all_from P Q R [] each p q = tt
  all_from P Q R (x ∷ l) each p q = (each x p.0 q.0, all_from P Q R l each p.1 q.1)

  all_map : {B : Type 0} (g : A → B) (P : B → Type 0) (l : List A) → All (λ x. P (g x)) l → All P (map g l)
  all_map g P [] all = tt
  all_map g P (x ∷ l) all = (all.0, all_map g P l all.1)

reads_within : (b : Cuboid) (a : Axis) (low high n : ℕ) → Reads b a low high → within b a n ≡ true → (low ≤ n) × (n < high)
reads_within b a low high n reads e = between_parts low high n (sym (within_is b a low high n reads) ∙ e)

module _ (o : AxisOrder) (v w : Bounds) (read-v : ReadsBack o v) (read-w : ReadsBack o w) where
  touch_along : Touch o (record_of o v).cuboid (record_of o w).cuboid → TouchAlongC v w
  touch_along t =
      let p = (record_of o v).cuboid in
      let q = (record_of o w).cuboid in
      record {
        i = t.i;
        j = t.j;
        a_in_x = reads_within p (axis_a o) v.a v.a' t.i read-v.0 t.a.0;
        a_in_y = reads_within q (axis_a o) w.a w.a' t.i read-w.0 t.a.1;
        b_in_x = reads_within p (axis_b o) v.b v.b' t.j read-v.1 t.b.0;
        b_in_y = reads_within q (axis_b o) w.b w.b' t.j read-w.1 t.b.1;
        meet = sym read-v.2.1 ∙ t.meet ∙ read-w.2.0;
      }

pub cut_apart : (m : Solid) → Small m → (o : AxisOrder) → Apart m o
cut_apart m small o =
    let l = boxes (cells m o) (side_a m o) (side_b m o) (side_c m o) in
    let reads : All (ReadsBack o) l = each_reads m small o (ReadsBack o) (λ _ r. r) in
    all_map (record_of o) _ l (all_from (ReadsBack o) _ _ l (λ v read-v apart.
    all_map (record_of o) _ l (all_from (ReadsBack o) _ _ l (λ w read-w never t. never (touch_along o v w read-v read-w t)) reads apart))
    reads (apart_along_c (cells m o) (side_a m o) (side_b m o) (side_c m o)))
