-- What the exported functions answer and leave.
use Rattle.std.specs.Prelude.{ℕ, zero, suc, cond, List, length, Some, None, Ok, Err, Option, Result, nat_le}
use Rattle.geometry.specs.Frames.{sides_given, sides_ok}
use Rattle.geometry.specs.Refusals.{number_of}
use Rattle.geometry.specs.declared.axis.AxisOrder.{AxisOrder}
use Rattle.geometry.specs.declared.axis.AxisOrder.TheVariants.{Xyz, Xzy, Yxz, Yzx, Zxy, Zyx}
use Rattle.geometry.specs.declared.refusal.Refusal.{Refusal}
use Rattle.geometry.specs.declared.refusal.Refusal.TheVariants.{FrameSide, GridWords}
use Rattle.body.specs.Grids.{packed, words_needed}
use Rattle.body.specs.Solids.{Solid}
use Rattle.boxes.specs.Records.{cut_outcome}
use Rattle.boxes.specs.declared.record.BoxRecord.{BoxRecord}
use Rattle.exports.specs.declared.answer.Answer.{Answer}

-- the order with a number: 0 to 5 for XYZ, XZY, YXZ, YZX, ZXY and ZYX
abbrev pub numbered : ℕ → Option AxisOrder
numbered zero = Some Xyz
numbered (suc zero) = Some Xzy
numbered (suc (suc zero)) = Some Yxz
numbered (suc (suc (suc zero))) = Some Yzx
numbered (suc (suc (suc (suc zero)))) = Some Zxy
numbered (suc (suc (suc (suc (suc zero))))) = Some Zyx
numbered (suc (suc (suc (suc (suc (suc n)))))) = None

-- a number or a refusal as it leaves the library: the refusal's number, 0 for none, and the number, 0
-- for a refusal
abbrev pub answer_of : Result ℕ Refusal → Answer
answer_of (Ok n) = record { refusal = 0; number = n }
answer_of (Err r) = record { refusal = number_of r; number = 0 }

-- the answer where a number names no order: 255 in place of a refusal's number
abbrev pub no_order : Answer
no_order = record { refusal = 255; number = 0 }

-- the solid of the packed grid with these sides and words, or the refusal of one of them
abbrev pub grid_given : ℕ → ℕ → ℕ → List ℕ → Result Solid Refusal
grid_given x y z words = cond (sides_ok x y z) (cond (nat_le (words_needed (sides_given x y z)) (length words)) (Ok (packed (sides_given x y z) words)) (Err GridWords)) (Err FrameSide)

-- an answer, and the table behind it
pub record Outcome : Type 0 where
  pub answer : Answer
  pub table : List BoxRecord

-- the cut of a grid that was given: a refusal of the order or of the grid leaves the table as it is
abbrev pub cut_given : Option AxisOrder → Result Solid Refusal → List BoxRecord → Outcome
cut_given None given table = record { answer = no_order; table = table }
cut_given (Some o) (Err r) table = record { answer = answer_of (Err r); table = table }
cut_given (Some o) (Ok m) table = record { answer = answer_of (cut_outcome m o table).answer; table = (cut_outcome m o table).table }
