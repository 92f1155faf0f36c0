-- Jobs whose lines say plain calls: frames, the length of the corner table, scans and grids, counts and
-- corner lists. What such lines say is said here by itself.
use Rattle.std.specs.Prelude.{◌≡◌, ℕ, ◌≤◌, ◌⊎◌, List, [], ◌∷◌, vec_items, codes, Option}
use Rattle.geometry.specs.declared.axis.Axis.{Axis}
use Rattle.text.specs.Texts.{words_of}
use Rattle.script.specs.Plain.{PlainCall, corner_table, corners, count, frame, grid}
use Rattle.script.specs.Scripts.{new_frame}
use Rattle.job.specs.Jobs.{Only, SaysGrid, SaysScan, Then}

-- a line of these words, with the lines behind it, says a plain call; the sides in force before and
-- after, and the lines that are left
abbrev pub Says : Option (Axis → ℕ) → List (List ℕ) → List (List ℕ) → PlainCall → Option (Axis → ℕ) → List (List ℕ) → Type 0
Says s words lines (frame x y z) s' lines' =
    ((a : List (List ℕ)) × ((b : List (List ℕ)) × ((words ≡ codes "frame" ∷ a) × Then a x b × ((c : List (List ℕ)) × Then b y c × Only c z))))
    × (s' ≡ new_frame x y z) × (lines' ≡ lines)
Says s words lines (corner_table n) s' lines' =
    ((a : List (List ℕ)) × (words ≡ codes "table" ∷ codes "corners" ∷ a) × Only a n × (n ≤ 1000000))
    × (s' ≡ s) × (lines' ≡ lines)
Says s words lines (grid v) s' lines' = SaysScan s words lines (vec_items v) s' lines' ⊎ SaysGrid s words lines (vec_items v) s' lines'
Says s words lines count s' lines' = (words ≡ codes "count" ∷ []) × (s' ≡ s) × (lines' ≡ lines)
Says s words lines corners s' lines' = (words ≡ codes "corners" ∷ []) × (s' ≡ s) × (lines' ≡ lines)

-- lines say plain calls, one after another; blank lines say nothing
pub data Reads : Option (Axis → ℕ) → List (List ℕ) → List PlainCall → Type 0 where
  ended : {s : Option (Axis → ℕ)} → Reads s [] []
  skipped : {s : Option (Axis → ℕ)} {line : List ℕ} {lines : List (List ℕ)} {calls : List PlainCall} → words_of line ≡ [] → Reads s lines calls → Reads s (line ∷ lines) calls
  said : {s s' : Option (Axis → ℕ)} {line : List ℕ} {lines lines' : List (List ℕ)} {call : PlainCall} {calls : List PlainCall} → Says s (words_of line) lines call s' lines' → Reads s' lines' calls → Reads s (line ∷ lines) (call ∷ calls)
