-- From a filled table to what the corners call gives.
use Rattle.std.proofs.Common.{◌≡◌, ℕ, List, Option, Result, ◌∙◌, ap₂}
use Rattle.std.specs.Option.{ok_or}
use Rattle.geometry.specs.declared.frame.Point.{Point}
use Rattle.geometry.specs.declared.refusal.Refusal.{Refusal}
use Rattle.geometry.specs.declared.refusal.Refusal.TheVariants.{CornersFull}
use Rattle.tables.specs.Tables.{Written, filled}
use Rattle.tables.proofs.Placing.{filled_answer}
use Rattle.body.specs.Solids.{Solid}
use Rattle.body.specs.Corners.{ListingOutcome, corner_list, corners_outcome}

pub corners_outcome_is : (m : Solid) (table after : List Point) (used : Option ℕ) (answer : Result ℕ Refusal) → ◌≡◌ {A = Written Point} (record { count = used; table = after }) (filled (corner_list m) table) → answer ≡ ok_or used CornersFull → ◌≡◌ {A = ListingOutcome} (record { answer = answer; table = after }) (corners_outcome m table)
unfolding corners_outcome
corners_outcome_is m table after used answer e is =
    let f = filled_answer (corner_list m) table after used CornersFull e in
    ap₂ (λ a t. record { answer = a; table = t }) (is ∙ f.0) f.1
