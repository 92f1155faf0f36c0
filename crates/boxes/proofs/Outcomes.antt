-- From a filled table to what the cut gives.
use Rattle.std.proofs.Common.{◌≡◌, ℕ, List, Option, Result, ◌∙◌, ap₂}
use Rattle.std.specs.Option.{ok_or}
use Rattle.geometry.specs.declared.axis.AxisOrder.{AxisOrder}
use Rattle.geometry.specs.declared.refusal.Refusal.{Refusal}
use Rattle.geometry.specs.declared.refusal.Refusal.TheVariants.{BoxesFull}
use Rattle.tables.specs.Tables.{Written, filled}
use Rattle.tables.proofs.Placing.{filled_answer}
use Rattle.body.specs.Solids.{Solid}
use Rattle.boxes.specs.Records.{CutOutcome, cut_list, cut_outcome}
use Rattle.boxes.specs.declared.record.BoxRecord.{BoxRecord}

pub cut_outcome_is : (m : Solid) (o : AxisOrder) (table after : List BoxRecord) (used : Option ℕ) (answer : Result ℕ Refusal) → ◌≡◌ {A = Written BoxRecord} (record { count = used; table = after }) (filled (cut_list m o) table) → answer ≡ ok_or used BoxesFull → ◌≡◌ {A = CutOutcome} (record { answer = answer; table = after }) (cut_outcome m o table)
unfolding cut_outcome
cut_outcome_is m o table after used answer e is =
    let f = filled_answer (cut_list m o) table after used BoxesFull e in
    ap₂ (λ a t. record { answer = a; table = t }) (is ∙ f.0) f.1
