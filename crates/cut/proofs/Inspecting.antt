-- What an inspection measures on the table that its cut wrote.
use Rattle.std.proofs.Common.{◌≡◌, ℕ, ◌≤◌, min, true, cond, ltb, leb, List, length, take, Ok, Err, Result, ap, ◌∙◌, ap₂, arith, take_all}
use Rattle.std.proofs.lemmas.Bool.{cond-false, le-ltb, leb-true}
use Rattle.geometry.specs.declared.axis.AxisOrder.{AxisOrder}
use Rattle.geometry.specs.declared.refusal.Refusal.{Refusal}
use Rattle.geometry.specs.declared.refusal.Refusal.TheVariants.{BoxesFull, TableShort}
use Rattle.tables.specs.Tables.{capacity, overlay}
use Rattle.tables.proofs.Placing.{take_overlay}
use Rattle.body.specs.Solids.{Solid, solid_cells}
use Rattle.boxes.specs.Measures.{volume_of}
use Rattle.cut.specs.Asks.{volume_answer}
use Rattle.cut.specs.Inspections.{inspected}
use Rattle.boxes.specs.Records.{CutOutcome, cut_list, cut_outcome}
use Rattle.cut.specs.declared.inspect.Inspection.{Inspection}
use Rattle.boxes.specs.declared.record.BoxRecord.{BoxRecord}

module _ (m : Solid) (o : AxisOrder) (table after : List BoxRecord) (answer : Result ℕ Refusal) (e : ◌≡◌ {A = CutOutcome} (record { answer = answer; table = after }) (cut_outcome m o table)) where
  answered : answer ≡ cond (leb (length (cut_list m o)) (capacity table)) (Ok (length (cut_list m o))) (Err BoxesFull)
  unfolding cut_outcome
  answered = ap (λ r. r.answer) e

  left : after ≡ overlay (take (capacity table) (cut_list m o)) table
  unfolding cut_outcome
  left = ap (λ r. r.table) e

  -- a granted cut has its boxes in front
  module _ (count : ℕ) (ok : answer ≡ Ok count) (long : length after ≡ length table) (same : volume_of (cut_list m o) ≡ solid_cells m) where
    granted : (leb (length (cut_list m o)) (capacity table) ≡ true) × (count ≡ length (cut_list m o))
    granted = let e = answered in grind arith

    pub measured : volume_answer after count ≡ Ok (solid_cells m)
    measured =
        let within : length (cut_list m o) ≤ capacity table = leb-true _ _ granted.0 in
        let whole : take (capacity table) (cut_list m o) ≡ cut_list m o = take_all (capacity table) (cut_list m o) within in
        let number : min count 65536 ≡ length (cut_list m o) = omega (arith, granted.1) in
        let front : take (min count 65536) after ≡ cut_list m o =
        ap₂ take number (left ∙ ap (λ l. overlay l table) whole) ∙ take_overlay (cut_list m o) table (omega arith) in
        let room : count ≤ length after = omega (arith, granted.1, long) in
        cond-false (ltb (length after) count) (Err TableShort) _ (le-ltb (length after) count room) ∙ ap {B = Result ℕ Refusal} (λ l. Ok (volume_of l)) front ∙ ap {B = Result ℕ Refusal} (λ v. Ok v) same

    pub inspected_is : ◌≡◌ {A = Result Inspection Refusal} (Ok (record { boxes = count; volume = solid_cells m })) (inspected m o table)
    inspected_is = let g = granted in grind arith

  pub inspected_not : (refusal : Refusal) → answer ≡ Err refusal → ◌≡◌ {A = Result Inspection Refusal} (Err refusal) (inspected m o table)
  inspected_not refusal err = let e = answered in grind arith
