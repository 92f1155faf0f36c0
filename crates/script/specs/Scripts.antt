-- What a script of calls does and answers.
use Rattle.std.specs.Prelude.{ℕ, ◌+◌, ◌-◌, min, Bool, true, false, cond, List, [], ◌∷◌, ◌++◌, map, length, take, replicate, is_some, Some, None, Ok, Err, vec_items, Option, Result, nat_le}
use Rattle.std.specs.Option.{option_map}
use Rattle.geometry.specs.Cuboids.{in_box}
use Rattle.geometry.specs.Frames.{sides, sides_given, sides_ok}
use Rattle.geometry.specs.declared.axis.Axis.{Axis}
use Rattle.geometry.specs.declared.axis.Axis.TheVariants.{X, Y, Z}
use Rattle.geometry.specs.declared.axis.AxisOrder.{AxisOrder}
use Rattle.geometry.specs.declared.frame.Point.{Point}
use Rattle.geometry.specs.declared.refusal.Refusal.{Refusal}
use Rattle.geometry.specs.declared.refusal.Refusal.TheVariants.{FrameSide, GridWords, CornersFull}
use Rattle.tables.specs.Tables.{capacity}
use Rattle.body.specs.Solids.{Solid, one, solid_cells}
use Rattle.body.specs.Grids.{packed, words_needed}
use Rattle.body.specs.Corners.{corner_list, point}
use Rattle.body.specs.declared.grid.PackedGrid.{PackedGrid}
use Rattle.boxes.specs.Measures.{found}
use Rattle.cut.specs.Asks.{front, neighbour_answer, volume_answer, within_table}
use Rattle.cut.specs.Inspections.{inspected}
use Rattle.boxes.specs.Records.{cut_list, cut_outcome}
use Rattle.cut.specs.declared.inspect.Inspection.{Inspection}
use Rattle.boxes.specs.declared.record.BoxRecord.{BoxRecord}
use Rattle.script.specs.declared.call.Call.{Call}
use Rattle.script.specs.declared.call.Call.TheVariants.{Make, SetTable, OnBlock, Cut, OnCut}
use Rattle.script.specs.declared.call.MakeCall.{MakeCall}
use Rattle.script.specs.declared.call.MakeCall.TheVariants as makes
use Rattle.script.specs.declared.call.Table.{Table}
use Rattle.script.specs.declared.call.Table.TheVariants as tables
use Rattle.script.specs.declared.call.BlockCall.{BlockCall}
use Rattle.script.specs.declared.call.BlockCall.TheVariants.{Count, Corners, Inspect}
use Rattle.script.specs.declared.call.CutCall.{CutCall}
use Rattle.script.specs.declared.call.CutCall.TheVariants.{Volume, Find, Neighbour, Reopen}
use Rattle.script.specs.declared.call.CallName.{CallName}
use Rattle.script.specs.declared.call.CallName.TheVariants as names
use Rattle.script.specs.declared.call.Answer.{Answer}
use Rattle.script.specs.declared.call.Answer.TheVariants as answers
use Rattle.script.specs.declared.context.Context.{Context}
use Rattle.script.specs.declared.session.BlockSize.{BlockSize}
use Rattle.script.specs.declared.session.Session.{Session}

-- what a call replies
pub data Reply : Type 0 where
  counted : ℕ → Reply
  listed : List Point → Reply
  inspection : AxisOrder → Inspection → Reply
  boxed : AxisOrder → List BoxRecord → Reply
  overfull : AxisOrder → Refusal → List BoxRecord → Reply
  measured : ℕ → Reply
  held_by : Option ℕ → Reply
  next : Option ℕ → Reply
  reopened : Reply
  refused : CallName → Refusal → Reply
  not_taken : CallName → Reply

-- the frame in force, if one was made, by its sides, and how many blocks were read
pub record Home : Type 0 where
  pub frame : Option (Axis → ℕ)
  pub blocks : ℕ

-- the length of the corner table, the box table, and the replies so far
pub record State : Type 0 where
  pub corners : ℕ
  pub boxes : List BoxRecord
  pub replies : List Reply

-- there is no block, or one that no cut holds, or one that a cut of so many boxes holds
pub data Held : Type 0 where
  nothing : Held
  free : Solid → Held
  standing : Solid → AxisOrder → ℕ → Held

-- all that calls are made on
pub record World : Type 0 where
  pub home : Home
  pub held : Held
  pub state : State

abbrev pub world : Home → Held → State → World
world h b s = record { home = h; held = b; state = s }

-- what stands in a box table before anything is written there: a box of one cell
abbrev pub blank : BoxRecord
blank = record { cuboid = record { low = point 0 0 0; high = point 1 1 1 }; piece = 0 }

unfoldable pub blanks : ℕ → List BoxRecord
blanks n = replicate n blank

-- at the start both tables have 65,536 entries
abbrev pub begun : State
begun = record { corners = 65536; boxes = blanks 65536; replies = [] }

-- at the start there is no frame and no block
abbrev pub start : World
start = world (record { frame = None; blocks = 0 }) nothing begun

-- a reply more, and one more if there is one
abbrev pub told : State → Reply → State
told s r = record { corners = s.corners; boxes = s.boxes; replies = s.replies ++ r ∷ [] }

abbrev pub told_if : State → Option Reply → State
told_if s None = s
told_if s (Some r) = told s r

-- another box table
abbrev pub with_boxes : State → List BoxRecord → State
with_boxes s l = record { corners = s.corners; boxes = l; replies = s.replies }

-- another length of a table: boxes that stay keep their content
abbrev pub resized : State → Table → ℕ → State
resized s tables.Corners n = record { corners = n; boxes = s.boxes; replies = s.replies }
resized s tables.Boxes n = with_boxes s (take n s.boxes ++ blanks (n - length s.boxes))

-- the frame with these sides, if they are allowed
abbrev pub new_frame : ℕ → ℕ → ℕ → Option (Axis → ℕ)
new_frame x y z = cond (sides_ok x y z) (Some (sides_given x y z)) None

-- the block of a grid: none without a frame, or where there are too few words
abbrev pub new_grid : Option (Axis → ℕ) → List ℕ → Option Solid
new_grid None words = None
new_grid (Some s) words = cond (nat_le (words_needed s) (length words)) (Some (packed s words)) None

abbrev pub block_held : Option Solid → Held
block_held None = nothing
block_held (Some m) = free m

abbrev pub frame_reply : ℕ → ℕ → ℕ → Option Reply
frame_reply x y z = cond (sides_ok x y z) None (Some (refused names.Frame FrameSide))

abbrev pub grid_reply : Option (Axis → ℕ) → List ℕ → Option Reply
grid_reply None words = Some (not_taken names.Grid)
grid_reply (Some s) words = cond (nat_le (words_needed s) (length words)) None (Some (refused names.Grid GridWords))

-- a new frame forgets the block, and a grid replaces it; a grid that is granted is a block read
abbrev pub made_home : Home → MakeCall → Home
made_home h (makes.Frame x y z) = record { frame = new_frame x y z; blocks = h.blocks }
made_home h (makes.Grid words) = record { frame = h.frame; blocks = h.blocks + one (is_some (new_grid h.frame (vec_items words))) }

abbrev pub made_held : Home → MakeCall → Held
made_held h (makes.Frame x y z) = nothing
made_held h (makes.Grid words) = block_held (new_grid h.frame (vec_items words))

abbrev pub made_reply : Home → MakeCall → Option Reply
made_reply h (makes.Frame x y z) = frame_reply x y z
made_reply h (makes.Grid words) = grid_reply h.frame (vec_items words)

-- an answer, or the refusal of the call
abbrev pub answered : {T : Type 0} → CallName → (T → Reply) → Result T Refusal → Reply
answered name f (Ok v) = f v
answered name f (Err e) = refused name e

-- the corner list, where the capacity of a table of n entries takes it
abbrev pub corners_reply : ℕ → Solid → Reply
corners_reply n m = cond (nat_le (length (corner_list m)) (min n 65536)) (listed (corner_list m)) (refused (names.Block Corners) CornersFull)

-- a call on a block that no cut holds: an inspection leaves in the box table what its cut wrote
abbrev pub on_block : Solid → State → BlockCall → State
on_block m s Count = told s (counted (solid_cells m))
on_block m s Corners = told s (corners_reply s.corners m)
on_block m s (Inspect o) = told (with_boxes s (cut_outcome m o s.boxes).table) (answered (names.Block (Inspect o)) (inspection o) (inspected m o s.boxes))

-- a cut: it stands when its boxes fit; the reply has the boxes, or the first ones
abbrev pub cut_held : Solid → AxisOrder → Result ℕ Refusal → Held
cut_held m o (Ok n) = standing m o n
cut_held m o (Err e) = free m

abbrev pub cut_reply : Solid → AxisOrder → List BoxRecord → Result ℕ Refusal → Reply
cut_reply m o l (Ok n) = boxed o (cut_list m o)
cut_reply m o l (Err e) = overfull o e (take (capacity l) (cut_list m o))

abbrev pub cut_state : Solid → AxisOrder → State → State
cut_state m o s = told (with_boxes s (cut_outcome m o s.boxes).table) (cut_reply m o s.boxes (cut_outcome m o s.boxes).answer)

-- the least number of a box that holds the cell (x, y, z), whatever the numbers
unfoldable pub find_at : List BoxRecord → ℕ → ℕ → ℕ → ℕ → Result (Option ℕ) Refusal
find_at l n x y z = within_table l n (Ok (found (λ r. in_box r.cuboid x y z) 0 (front n l)))

-- what a cut of n boxes answers for a box table
abbrev pub question_reply : List BoxRecord → AxisOrder → ℕ → CutCall → Reply
question_reply l o n Volume = answered (names.Question Volume) measured (volume_answer l n)
question_reply l o n (Find x y z) = answered (names.Question (Find x y z)) held_by (find_at l n x y z)
question_reply l o n (Neighbour u s m) = answered (names.Question (Neighbour u s m)) next (neighbour_answer l n o u s m)
question_reply l o n Reopen = reopened

-- a cut stands after each call on it but the one that reopens it
abbrev pub reopens : CutCall → Bool
reopens Volume = false
reopens (Find x y z) = false
reopens (Neighbour u s m) = false
reopens Reopen = true

-- calls on what is held
abbrev pub block_step : Home → Held → State → BlockCall → World
block_step h nothing s c = world h nothing (told s (not_taken (names.Block c)))
block_step h (free m) s c = world h (free m) (on_block m s c)
block_step h (standing m o n) s c = world h (standing m o n) (told s (not_taken (names.Block c)))

abbrev pub cut_step : Home → Held → State → AxisOrder → World
cut_step h nothing s o = world h nothing (told s (not_taken (names.Cut o)))
cut_step h (free m) s o = world h (cut_held m o (cut_outcome m o s.boxes).answer) (cut_state m o s)
cut_step h (standing m p n) s o = world h (standing m p n) (told s (not_taken (names.Cut o)))

abbrev pub question_step : Home → Held → State → CutCall → World
question_step h nothing s c = world h nothing (told s (not_taken (names.Question c)))
question_step h (free m) s c = world h (free m) (told s (not_taken (names.Question c)))
question_step h (standing m o n) s c = world h (cond (reopens c) (free m) (standing m o n)) (told s (question_reply s.boxes o n c))

-- what a call leaves
abbrev pub step : World → Call → World
step w (Make c) = world (made_home w.home c) (made_held w.home c) (told_if w.state (made_reply w.home c))
step w (SetTable t n) = world w.home w.held (resized w.state t n)
step w (OnBlock c) = block_step w.home w.held w.state c
step w (Cut o) = cut_step w.home w.held w.state o
step w (OnCut c) = question_step w.home w.held w.state c

-- the block that is held, by a cut or not
abbrev pub block_of : Held → Option Solid
block_of nothing = None
block_of (free m) = Some m
block_of (standing m o n) = Some m

-- what a script leaves: at its end a cut that stands is reopened
unfoldable pub runs : World → List Call → World
runs w [] = world w.home (block_held (block_of w.held)) w.state
runs w (c ∷ cs) = runs (step w c) cs

-- a whole script
abbrev pub ran : List Call → World
ran calls = runs start calls

-- the reply that an answer is
abbrev pub reply_of : Answer → Reply
reply_of (answers.Counted n) = counted n
reply_of (answers.Listed v) = listed (vec_items v)
reply_of (answers.Inspected o i) = inspection o i
reply_of (answers.Boxed o v) = boxed o (vec_items v)
reply_of (answers.Overfull o e v) = overfull o e (vec_items v)
reply_of (answers.Measured n) = measured n
reply_of (answers.Found o) = held_by o
reply_of (answers.Next o) = next o
reply_of answers.Reopened = reopened
reply_of (answers.Refused name e) = refused name e
reply_of (answers.NotTaken name) = not_taken name

-- the state that a context stands for
abbrev pub state_of : Context → State
state_of c = record { corners = c.corner_table; boxes = vec_items c.boxes; replies = map reply_of (vec_items c.answers) }

-- what a session stands for: its frame, how many blocks were read, and its block
abbrev pub grid_of : PackedGrid → Solid
grid_of g = packed (sides g.frame) g.words.now

abbrev pub home_of : Session → Home
home_of s = record { frame = option_map sides s.frame; blocks = s.blocks }

abbrev pub held_of : Session → Held
held_of s = block_held (option_map grid_of s.block)

-- the sides of a block, and its number of solid cells
abbrev pub size_of : Solid → BlockSize
size_of m = record { x = m.side X; y = m.side Y; z = m.side Z; solid = solid_cells m }
