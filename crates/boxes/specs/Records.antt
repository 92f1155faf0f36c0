-- The records of a cut.
use Rattle.std.specs.Prelude.{◌≡◌, ℕ, ◌<◌, ◌≤◌, true, cond, List, map, length, take, Ok, Err, Result, nat_le}
use Rattle.geometry.specs.declared.axis.AxisOrder.{AxisOrder}
use Rattle.geometry.specs.declared.refusal.Refusal.{Refusal}
use Rattle.geometry.specs.declared.refusal.Refusal.TheVariants.{BoxesFull}
use Rattle.tables.specs.Tables.{capacity, overlay}
use Rattle.body.specs.Solids.{Solid}
use Rattle.boxes.specs.Cuts.{Bounds, box_at, box_of_plate, box_of_run, boxes, plane_boxes, row_boxes}
use Rattle.boxes.specs.Orders.{cells, is_plate, is_run, place, side_a, side_b, side_c}
use Rattle.boxes.specs.declared.record.BoxRecord.{BoxRecord}

-- the record of a box with these bounds along A, B and C: it has no piece number yet
abbrev pub record_of : AxisOrder → Bounds → BoxRecord
record_of o x = record { cuboid = record { low = place o x.a x.b x.c; high = place o x.a' x.b' x.c' }; piece = 0 }

-- the boxes of a solid in an order, by their lower point's A, then B, then C
abbrev pub cut_list : Solid → AxisOrder → List BoxRecord
cut_list m o = map (record_of o) (boxes (cells m o) (side_a m o) (side_b m o) (side_c m o))

-- those that begin at a cell, in a row and in a plane
abbrev pub records_at : Solid → AxisOrder → ℕ → ℕ → ℕ → List BoxRecord
records_at m o a b c = map (record_of o) (box_at (cells m o) (side_a m o) (side_b m o) (side_c m o) a b c)

abbrev pub row_records : Solid → AxisOrder → ℕ → ℕ → List BoxRecord
row_records m o a b = map (record_of o) (row_boxes (cells m o) (side_a m o) (side_b m o) (side_c m o) a b)

abbrev pub plane_records : Solid → AxisOrder → ℕ → List BoxRecord
plane_records m o a = map (record_of o) (plane_boxes (cells m o) (side_a m o) (side_b m o) (side_c m o) a)

-- a range of C is a run of the row (a, b) of the frame
pub record RunAt (m : Solid) (o : AxisOrder) (a b c c' : ℕ) : Type 0 where
  pub a_below : a < side_a m o
  pub b_below : b < side_b m o
  pub c_some : c < c'
  pub c_within : c' ≤ side_c m o
  pub runs : is_run m o a c c' b ≡ true

-- ranges of B and C are a plate of the plane a of the frame
pub record PlateAt (m : Solid) (o : AxisOrder) (a b b' c c' : ℕ) : Type 0 where
  pub a_below : a < side_a m o
  pub b_some : b < b'
  pub b_within : b' ≤ side_b m o
  pub c_some : c < c'
  pub c_within : c' ≤ side_c m o
  pub plates : is_plate m o b b' c c' a ≡ true

-- the records of the box that begins with a plate, and with a run
abbrev pub plate_records : Solid → AxisOrder → ℕ → ℕ → ℕ → ℕ → ℕ → List BoxRecord
plate_records m o a b b' c c' = map (record_of o) (box_of_plate (cells m o) (side_a m o) (side_b m o) (side_c m o) a b b' c c')

abbrev pub run_records : Solid → AxisOrder → ℕ → ℕ → ℕ → ℕ → List BoxRecord
run_records m o a b c c' = map (record_of o) (box_of_run (cells m o) (side_a m o) (side_b m o) (side_c m o) a b c c')

-- what the cut gives and leaves: the number of boxes, or the refusal where there are more than the
-- capacity; the table begins with the boxes, or with as many of them as the capacity takes
pub record CutOutcome : Type 0 where
  pub answer : Result ℕ Refusal
  pub table : List BoxRecord

unfoldable pub cut_outcome : Solid → AxisOrder → List BoxRecord → CutOutcome
cut_outcome m o table =
    record {
      answer = cond (nat_le (length (cut_list m o)) (capacity table)) (Ok (length (cut_list m o))) (Err BoxesFull);
      table = overlay (take (capacity table) (cut_list m o)) table;
    }
