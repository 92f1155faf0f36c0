-- What can be asked of the records of a cut.
use Rattle.std.specs.Prelude.{ℕ, ◌-◌, min, max, Bool, cond, ◌&&◌, ◌||◌, List, length, take, Ok, Err, Option, Result, ◌==◌, nat_lt, slice_index_or}
use Rattle.geometry.specs.declared.axis.Axis.{Axis}
use Rattle.geometry.specs.declared.axis.AxisOrder.{AxisOrder}
use Rattle.geometry.specs.declared.frame.Cell.{Cell}
use Rattle.geometry.specs.declared.refusal.Refusal.{Refusal}
use Rattle.geometry.specs.declared.refusal.Refusal.TheVariants.{TableShort, NoSuchBox}
use Rattle.boxes.specs.Measures.{found, high, holding, low, volume_of}
use Rattle.boxes.specs.Orders.{axis_a, axis_b, axis_c}
use Rattle.boxes.specs.declared.record.BoxRecord.{BoxRecord}
use Rattle.cut.specs.declared.asks.Sense.{Sense}
use Rattle.cut.specs.declared.asks.Sense.TheVariants.{AForward, ABackward, BForward, BBackward}

-- the ranges of two boxes along an axis have a coordinate of a cell in common
abbrev pub share : Axis → BoxRecord → BoxRecord → Bool
share a u v = nat_lt (max (low u a) (low v a)) (min (high u a) (high v a))

-- u ends along one axis where v begins, and they share a range of each of the two other axes
unfoldable pub touches : Axis → Axis → Axis → BoxRecord → BoxRecord → Bool
touches a b c u v = (high u a == low v a && share b u v) && share c u v

-- v is a neighbour of u in a sense
unfoldable pub next_to : AxisOrder → Sense → BoxRecord → BoxRecord → Bool
next_to o AForward u v = touches (axis_a o) (axis_b o) (axis_c o) u v
next_to o ABackward u v = touches (axis_a o) (axis_b o) (axis_c o) v u
next_to o BForward u v = touches (axis_b o) (axis_a o) (axis_c o) u v
next_to o BBackward u v = touches (axis_b o) (axis_a o) (axis_c o) v u

-- the records of a table that count, at most 65,536 of them
abbrev pub counted : ℕ → ℕ
counted n = min n 65536

abbrev pub front : ℕ → List BoxRecord → List BoxRecord
front n l = take (counted n) l

-- an answer, refused where a table is shorter than the count
abbrev pub within_table : {T : Type 0} → List BoxRecord → ℕ → Result T Refusal → Result T Refusal
within_table l n r = cond (nat_lt (length l) n) (Err TableShort) r

abbrev pub volume_answer : List BoxRecord → ℕ → Result ℕ Refusal
volume_answer l n = within_table l n (Ok (volume_of (front n l)))

abbrev pub find_answer : List BoxRecord → ℕ → Cell → Result (Option ℕ) Refusal
find_answer l n x = within_table l n (Ok (found (holding x) 0 (front n l)))

-- the record of a number, and one with no meaning where there is none
abbrev pub numbered : List BoxRecord → ℕ → BoxRecord
numbered l u = slice_index_or l (u - 1) (record { cuboid = record { low = record { x = 0; y = 0; z = 0 }; high = record { x = 0; y = 0; z = 0 } }; piece = 0 })

abbrev pub neighbour_answer : List BoxRecord → ℕ → AxisOrder → ℕ → Sense → ℕ → Result (Option ℕ) Refusal
neighbour_answer l n o u s m =
    within_table l n (cond (u == 0 || nat_lt (counted n) u) (Err NoSuchBox) (Ok (found (next_to o s (numbered (front n l) u)) m (front n l))))
