-- Lines that say a call at all: their form, whichever call it is.
use Rattle.std.specs.Prelude.{◌≡◌, ℕ, ◌*◌, ◌≤◌, true, List, [], length, drop, is_some, Some, Option}
use Rattle.geometry.specs.declared.axis.Axis.{Axis}
use Rattle.geometry.specs.declared.axis.Axis.TheVariants.{X, Y, Z}
use Rattle.script.specs.declared.call.Call.{Call}
use Rattle.job.specs.Jobs.{Numbers, Only, Reads, Rows, SaysAlone, frame_after}
use Rattle.job.specs.declared.reader.Keyword.{Keyword}
use Rattle.job.specs.declared.reader.Keyword.TheVariants as keywords

-- the words behind a keyword, with the lines behind them, say some call; the sides in force before
-- and after, and the lines that are left
abbrev pub Line : Keyword → Option (Axis → ℕ) → List (List ℕ) → List (List ℕ) → Option (Axis → ℕ) → List (List ℕ) → Type 0
Line keywords.Scan s words lines s' lines' =
    (t : Axis → ℕ) × (words ≡ []) × (s ≡ Some t) × Rows (t X * t Y) (t Z) lines × (s' ≡ s) × (lines' ≡ drop (t X * t Y) lines)
Line keywords.Grid s words lines s' lines' =
    (v : List ℕ) × Only words (length v) × (length v ≤ 16777216) × (is_some s ≡ true) × Numbers v lines × (s' ≡ s) × (lines' ≡ drop (length v) lines)
Line (keywords.Alone k) s words lines s' lines' = (c : Call) × SaysAlone k words c × (s' ≡ frame_after s c) × (lines' ≡ lines)

-- the words behind a keyword, with the lines behind them, say no call
abbrev pub NoLine : Keyword → Option (Axis → ℕ) → List (List ℕ) → List (List ℕ) → Type 0
NoLine k s words lines = (s' : Option (Axis → ℕ)) (lines' : List (List ℕ)) → Line k s words lines s' lines' → ⊥

-- the lines say calls
abbrev pub Readable : Option (Axis → ℕ) → List (List ℕ) → Type 0
Readable s lines = (calls : List Call) × Reads s lines calls
