-- The refusals by number, and what it means that a constructor answers or refuses.
use Rattle.std.specs.Prelude.{◌≡◌, ℕ, Bool, true, false, Ok, Err, Result}
use Rattle.geometry.specs.declared.refusal.Refusal.{Refusal}
use Rattle.geometry.specs.declared.refusal.Refusal.TheVariants.{FrameSide, BoxBounds, ShiftRange, CountOver, PointOutside, NotRising, OddLine, BoxOutside, CornersFull, GridWords, BoxesFull, TableShort, NoSuchBox}

-- the number that stands for a refusal everywhere outside the code
abbrev pub number_of : Refusal → ℕ
number_of FrameSide = 1
number_of BoxBounds = 2
number_of ShiftRange = 3
number_of CountOver = 4
number_of PointOutside = 5
number_of NotRising = 6
number_of OddLine = 7
number_of BoxOutside = 8
number_of CornersFull = 9
number_of GridWords = 10
number_of BoxesFull = 11
number_of TableShort = 12
number_of NoSuchBox = 14

-- an answer r is given exactly when `fits` is true, and then P holds of its value;
-- otherwise the refusal is e
abbrev pub Answers : {A : Type 0} → Result A Refusal → Bool → (A → Type 0) → Refusal → Type 0
Answers (Ok v) fits P e = (fits ≡ true) × P v
Answers (Err d) fits P e = (fits ≡ false) × (d ≡ e)
