-- A grid made of what was given, and its cut.
use Rattle.std.proofs.Common.{◌≡◌, ℕ, true, cond, leb, List, length, Ok, Err, Some, Option, Result, sym, ap, ◌∙◌}
use Rattle.std.specs.Option.{ok_or}
use Rattle.geometry.specs.Frames.{sides, sides_given, sides_ok}
use Rattle.geometry.specs.Refusals.{Answers}
use Rattle.geometry.specs.declared.axis.Axis.{Axis}
use Rattle.geometry.specs.declared.axis.AxisOrder.{AxisOrder}
use Rattle.geometry.specs.declared.refusal.Refusal.{Refusal}
use Rattle.geometry.specs.declared.refusal.Refusal.TheVariants.{BoxesFull, FrameSide, GridWords}
use Rattle.body.specs.Grids.{packed, words_needed}
use Rattle.body.specs.Solids.{Solid}
use Rattle.body.specs.declared.grid.PackedGrid.{PackedGrid}
use Rattle.boxes.specs.Records.{cut_list}
use Rattle.boxes.specs.declared.record.BoxRecord.{BoxRecord}
use Rattle.boxes.proofs.Outcomes.{cut_outcome_is}
use Rattle.tables.specs.Tables.{Written, filled}
use Rattle.exports.specs.Exports.{Outcome, answer_of, cut_given, grid_given}

-- the solid of a grid that was made, or the refusal
abbrev pub meant : Result PackedGrid Refusal → Result Solid Refusal
meant (Ok g) = Ok (packed (sides g.frame) g.words.now)
meant (Err r) = Err r

-- the solid of a grid in a frame with given sides
abbrev within : (Axis → ℕ) → List ℕ → Result Solid Refusal
within s words = cond (leb (words_needed s) (length words)) (Ok (packed s words)) (Err GridWords)

meant_is : (r : Result PackedGrid Refusal) (s : Axis → ℕ) (words : List ℕ) → Answers r (leb (words_needed s) (length words)) (λ g. packed (sides g.frame) g.words.now ≡ packed s words) GridWords → meant r ≡ within s words
meant_is (Ok g) s words a = ap {B = Result Solid Refusal} (λ m. Ok m) a.1 ∙ sym (ap (λ b. cond b (Ok (packed s words)) (Err GridWords)) a.0)
meant_is (Err d) s words a = ap {B = Result Solid Refusal} (λ e. Err e) a.1 ∙ sym (ap (λ b. cond b (Ok (packed s words)) (Err GridWords)) a.0)

pub given_is : (r : Result PackedGrid Refusal) (s : Axis → ℕ) (x y z : ℕ) (words : List ℕ) → (sides_ok x y z ≡ true) × (s ≡ sides_given x y z) → Answers r (leb (words_needed s) (length words)) (λ g. packed (sides g.frame) g.words.now ≡ packed s words) GridWords → meant r ≡ grid_given x y z words
given_is r s x y z words made a =
    meant_is r s words a ∙ ap (λ t. within t words) made.1 ∙ sym (ap (λ b. cond b (within (sides_given x y z) words) (Err FrameSide)) made.0)

-- what the cut of a given grid answers and leaves
pub cut_is : (m : Solid) (o : AxisOrder) (given : Result Solid Refusal) (table after : List BoxRecord) (used : Option ℕ) (r : Result ℕ Refusal) → Ok m ≡ given → ◌≡◌ {A = Written BoxRecord} (record { count = used; table = after }) (filled (cut_list m o) table) → r ≡ ok_or used BoxesFull → ◌≡◌ {A = Outcome} (record { answer = answer_of r; table = after }) (cut_given (Some o) given table)
cut_is m o given table after used r made wrote is =
    ap (λ w. record { answer = answer_of w.answer; table = w.table }) (cut_outcome_is m o table after used r wrote is) ∙ ap (λ g. cut_given (Some o) g table) made

pub refused_is : (o : AxisOrder) (given : Result Solid Refusal) (table : List BoxRecord) (e : Refusal) → Err e ≡ given → ◌≡◌ {A = Outcome} (record { answer = answer_of (Err e); table = table }) (cut_given (Some o) given table)
refused_is o given table e made = ap (λ g. cut_given (Some o) g table) made
