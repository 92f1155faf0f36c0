-- Jobs: what the lines of a text say.
use Rattle.std.specs.Prelude.{◌≡◌, ℕ, ◌+◌, ◌*◌, ◌<◌, ◌≤◌, true, ◌⊎◌, List, [], ◌∷◌, ◌++◌, length, take, drop, is_some, Some, vec_items, codes, Option, Result, Vec, MatchOption, MatchResult, ◌≢◌, slice_index, slice_index_or}
use Rattle.std.specs.List.{flat_map}
use Rattle.std.specs.Option.{option_map}
use Rattle.std.specs.declared.alloc.Global.{Global}
use Rattle.geometry.specs.Frames.{sides}
pub use Rattle.geometry.specs.Words.{order_word}
use Rattle.geometry.specs.declared.axis.Axis.{Axis}
use Rattle.geometry.specs.declared.axis.Axis.TheVariants.{X, Y, Z}
use Rattle.geometry.specs.declared.axis.AxisOrder.{AxisOrder}
use Rattle.body.specs.Grids.{packed, words_needed}
use Rattle.cut.specs.declared.asks.Sense.{Sense}
use Rattle.cut.specs.declared.asks.Sense.TheVariants.{AForward, ABackward, BForward, BBackward}
use Rattle.text.specs.Scans.{Row, row_cells, scanned}
use Rattle.text.specs.Texts.{lines_of, number_of, words_of}
use Rattle.text.specs.declared.problem.Problem.{Problem}
use Rattle.text.specs.declared.problem.Problem.TheVariants.{UnknownCommand}
use Rattle.text.specs.declared.text.Text.{Text}
use Rattle.script.specs.Scripts.{new_frame}
use Rattle.script.specs.declared.call.Call.{Call}
use Rattle.script.specs.declared.call.Call.TheVariants.{Make, SetTable, OnBlock, Cut, OnCut}
use Rattle.script.specs.declared.call.MakeCall.TheVariants as makes
use Rattle.script.specs.declared.call.Table.{Table}
use Rattle.script.specs.declared.call.Table.TheVariants as tables
use Rattle.script.specs.declared.call.BlockCall.TheVariants as blocks
use Rattle.script.specs.declared.call.CutCall.TheVariants as cuts
use Rattle.job.specs.declared.line.Command.{Command}
use Rattle.job.specs.declared.line.Command.TheVariants as commands
use Rattle.job.specs.declared.reader.Keyword.{Keyword}
use Rattle.job.specs.declared.reader.Keyword.TheVariants as keywords
use Rattle.job.specs.declared.reader.Reader.{Reader}

-- the words for commands, keywords, tables and senses; those for axis orders are geometry's
abbrev pub command_word : Command → List ℕ
command_word commands.Frame = codes "frame"
command_word commands.Table = codes "table"
command_word commands.Count = codes "count"
command_word commands.Corners = codes "corners"
command_word commands.Inspect = codes "inspect"
command_word commands.Cut = codes "cut"
command_word commands.Volume = codes "volume"
command_word commands.Find = codes "find"
command_word commands.Neighbour = codes "neighbour"
command_word commands.Reopen = codes "reopen"

abbrev pub keyword_word : Keyword → List ℕ
keyword_word keywords.Scan = codes "scan"
keyword_word keywords.Grid = codes "grid"
keyword_word (keywords.Alone c) = command_word c

abbrev pub table_word : Table → List ℕ
table_word tables.Corners = codes "corners"
table_word tables.Boxes = codes "boxes"

abbrev pub sense_word : Sense → List ℕ
sense_word AForward = codes "A+"
sense_word ABackward = codes "A-"
sense_word BForward = codes "B+"
sense_word BBackward = codes "B-"

-- what a word stands for, if it does
abbrev pub Spells : {K : Type 0} → (K → List ℕ) → Option K → List ℕ → Type 0
Spells {K} spell o w = MatchOption o ((k : K) → w ≢ spell k) (λ k. w ≡ spell k)

-- a word is read as the keyword that it spells, or as no command
abbrev pub ReadsKeyword : List ℕ → Result Keyword Problem → Type 0
ReadsKeyword w r = MatchResult r (λ k. w ≡ keyword_word k) (λ e. (e ≡ UnknownCommand) × ((k : Keyword) → w ≢ keyword_word k))

-- the lines that are left
abbrev pub left : Text → List (List ℕ)
left t = lines_of t.rest.now

-- a text after lines of it have been taken, or none; each function that takes lines says so, since a
-- ghost field speaks of one value and not of those before and after
pub record Later (s t : Text) : Type 0 where
  pub total : t.taken + length (left t) ≡ s.taken + length (left s)
  pub on : s.taken ≤ t.taken

-- the sides of the frame in force, if there is one
abbrev pub force : Reader → Option (Axis → ℕ)
force r = option_map sides r.frame

-- a word and no more, which writes a number
abbrev pub Only : List (List ℕ) → ℕ → Type 0
Only words n = (w : List ℕ) × (words ≡ w ∷ []) × (number_of w ≡ Some n)

-- a number, and words behind it
abbrev pub Then : List (List ℕ) → ℕ → List (List ℕ) → Type 0
Then words n rest = (w : List ℕ) × (words ≡ w ∷ rest) × (number_of w ≡ Some n)

-- the first lines are the rows of a scan with these sides
abbrev pub Rows : ℕ → ℕ → List (List ℕ) → Type 0
Rows count side lines = (count ≤ length lines) × ((k : ℕ) → k < count → (length (slice_index_or lines k []) ≡ side) × Row (slice_index_or lines k []))

-- the first lines write these numbers, one in each
abbrev pub Numbers : List ℕ → List (List ℕ) → Type 0
Numbers ns lines = (length ns ≤ length lines) × ((k : ℕ) → k < length ns → Only (words_of (slice_index_or lines k [])) (slice_index ns k))

-- a `scan` line of these words, with the lines behind it, says a grid that means the scan, and is
-- long enough for the sides in force; the sides after it, and the lines that are left
abbrev pub SaysScan : Option (Axis → ℕ) → List (List ℕ) → List (List ℕ) → List ℕ → Option (Axis → ℕ) → List (List ℕ) → Type 0
SaysScan s words lines v s' lines' =
    (words ≡ codes "scan" ∷ [])
    × ((t : Axis → ℕ)
    × (s ≡ Some t)
    × Rows (t X * t Y) (t Z) lines
    × (packed t v ≡ scanned t (flat_map row_cells (take (t X * t Y) lines)))
    × (length v ≡ words_needed t)
    × (lines' ≡ drop (t X * t Y) lines))
    × (s' ≡ s)

-- a `grid` line says the words that the lines behind it write
abbrev pub SaysGrid : Option (Axis → ℕ) → List (List ℕ) → List (List ℕ) → List ℕ → Option (Axis → ℕ) → List (List ℕ) → Type 0
SaysGrid s words lines v s' lines' =
    ((a : List (List ℕ)) × (words ≡ codes "grid" ∷ a) × Only a (length v) × (length v ≤ 16777216))
    × (is_some s ≡ true) × Numbers v lines × (s' ≡ s) × (lines' ≡ drop (length v) lines)

-- three numbers and no more
abbrev pub Three : List (List ℕ) → ℕ → ℕ → ℕ → Type 0
Three words x y z = (a : List (List ℕ)) × (b : List (List ℕ)) × Then words x a × Then a y b × Only b z

-- just the word of an axis order
abbrev pub Order : List (List ℕ) → AxisOrder → Type 0
Order words o = words ≡ order_word o ∷ []

-- the words behind a command say a call
abbrev pub SaysAlone : Command → List (List ℕ) → Call → Type 0
SaysAlone commands.Frame words c = (x : ℕ) × (y : ℕ) × (z : ℕ) × Three words x y z × (c ≡ Make (makes.Frame x y z))
SaysAlone commands.Table words c = (t : Table) × (n : ℕ) × (a : List (List ℕ)) × (words ≡ table_word t ∷ a) × Only a n × (n ≤ 1000000) × (c ≡ SetTable t n)
SaysAlone commands.Count words c = (words ≡ []) × (c ≡ OnBlock blocks.Count)
SaysAlone commands.Corners words c = (words ≡ []) × (c ≡ OnBlock blocks.Corners)
SaysAlone commands.Inspect words c = (o : AxisOrder) × Order words o × (c ≡ OnBlock (blocks.Inspect o))
SaysAlone commands.Cut words c = (o : AxisOrder) × Order words o × (c ≡ Cut o)
SaysAlone commands.Volume words c = (words ≡ []) × (c ≡ OnCut cuts.Volume)
SaysAlone commands.Find words c = (x : ℕ) × (y : ℕ) × (z : ℕ) × Three words x y z × (c ≡ OnCut (cuts.Find x y z))
SaysAlone commands.Neighbour words c =
    (u : ℕ) × (s : Sense) × (m : ℕ) × (a : List (List ℕ)) × Then words u (sense_word s ∷ a) × Only a m × (c ≡ OnCut (cuts.Neighbour u s m))
SaysAlone commands.Reopen words c = (words ≡ []) × (c ≡ OnCut cuts.Reopen)

-- the sides in force after a call
abbrev pub frame_after : Option (Axis → ℕ) → Call → Option (Axis → ℕ)
frame_after s (Make (makes.Frame x y z)) = new_frame x y z
frame_after s (Make (makes.Grid words)) = s
frame_after s (SetTable t n) = s
frame_after s (OnBlock c) = s
frame_after s (Cut o) = s
frame_after s (OnCut c) = s

-- a line of these words says a call by itself
abbrev pub SaysLine : Option (Axis → ℕ) → List (List ℕ) → List (List ℕ) → Call → Option (Axis → ℕ) → List (List ℕ) → Type 0
SaysLine s words lines c s' lines' =
    (k : Command) × (a : List (List ℕ)) × (words ≡ command_word k ∷ a) × SaysAlone k a c × (s' ≡ frame_after s c) × (lines' ≡ lines)

-- a line of these words, with the lines behind it, says a call; the sides in force before and after,
-- and the lines that are left
abbrev pub Says : Option (Axis → ℕ) → List (List ℕ) → List (List ℕ) → Call → Option (Axis → ℕ) → List (List ℕ) → Type 0
Says s words lines c s' lines' =
    SaysLine s words lines c s' lines' ⊎ ((v : Vec ℕ Global) × (c ≡ Make (makes.Grid v)) × (SaysScan s words lines (vec_items v) s' lines' ⊎ SaysGrid s words lines (vec_items v) s' lines'))

-- lines say calls, one after another; blank lines say nothing
pub data Reads : Option (Axis → ℕ) → List (List ℕ) → List Call → Type 0 where
  ended : {s : Option (Axis → ℕ)} → Reads s [] []
  skipped : {s : Option (Axis → ℕ)} {line : List ℕ} {lines : List (List ℕ)} {calls : List Call} → words_of line ≡ [] → Reads s lines calls → Reads s (line ∷ lines) calls
  said : {s s' : Option (Axis → ℕ)} {line : List ℕ} {lines lines' : List (List ℕ)} {call : Call} {calls : List Call} → Says s (words_of line) lines call s' lines' → Reads s' lines' calls → Reads s (line ∷ lines) (call ∷ calls)

-- calls so far, when lines are left: with what those say they are what all lines say
abbrev pub SoFar : Option (Axis → ℕ) → List (List ℕ) → List Call → Option (Axis → ℕ) → List (List ℕ) → Type 0
SoFar s lines done s' lines' = (more : List Call) → Reads s' lines' more → Reads s lines (done ++ more)
