-- Plain scripts: frames, grids, the length of the corner table, counts and corner lists, and nothing of
-- boxes or cuts. What they do and reply is said here by itself, a call at a time.
use Rattle.std.specs.Prelude.{ℕ, ◌+◌, min, cond, List, [], ◌∷◌, ◌++◌, length, is_some, Some, None, vec_items, Option, Vec, nat_le}
use Rattle.std.specs.Option.{option_to_list}
use Rattle.std.specs.declared.alloc.Global.{Global}
use Rattle.geometry.specs.declared.axis.Axis.{Axis}
use Rattle.geometry.specs.declared.refusal.Refusal.TheVariants.{CornersFull}
use Rattle.body.specs.Solids.{Solid, one, solid_cells}
use Rattle.body.specs.Corners.{corner_list}
use Rattle.script.specs.Scripts.{Reply, counted, frame_reply, grid_reply, listed, new_frame, new_grid, not_taken, refused}
use Rattle.script.specs.declared.call.Call.{Call}
use Rattle.script.specs.declared.call.Call.TheVariants.{Make, SetTable, OnBlock}
use Rattle.script.specs.declared.call.MakeCall.TheVariants as makes
use Rattle.script.specs.declared.call.Table.TheVariants as tables
use Rattle.script.specs.declared.call.BlockCall.TheVariants as blocks
use Rattle.script.specs.declared.call.CallName.TheVariants as names

-- a call of a plain script
pub data PlainCall : Type 0 where
  -- makes a frame with these sides
  frame : ℕ → ℕ → ℕ → PlainCall
  -- sets the length of the corner table
  corner_table : ℕ → PlainCall
  -- makes the block a packed grid of these words
  grid : Vec ℕ Global → PlainCall
  -- counts the solid cells of the block
  count : PlainCall
  -- lists the corners of the block
  corners : PlainCall

-- the call of a script that it is
abbrev pub call_of : PlainCall → Call
call_of (frame x y z) = Make (makes.Frame x y z)
call_of (corner_table n) = SetTable tables.Corners n
call_of (grid words) = Make (makes.Grid words)
call_of count = OnBlock blocks.Count
call_of corners = OnBlock blocks.Corners

-- what calls are made on: the sides of the frame, if one was made, the block, if there is one, and
-- the length of the corner table
pub record State : Type 0 where
  pub frame : Option (Axis → ℕ)
  pub block : Option Solid
  pub table : ℕ

-- at the start there is no frame, and the corner table has 65,536 entries
abbrev pub start : State
start = record { frame = None; block = None; table = 65536 }

-- the state after a call: a new frame forgets the block, and a grid replaces it
abbrev pub step : State → PlainCall → State
step s (frame x y z) = record { frame = new_frame x y z; block = None; table = s.table }
step s (corner_table n) = record { frame = s.frame; block = s.block; table = n }
step s (grid words) = record { frame = s.frame; block = new_grid s.frame (vec_items words); table = s.table }
step s count = s
step s corners = s

abbrev pub count_reply : Option Solid → Reply
count_reply None = not_taken (names.Block blocks.Count)
count_reply (Some m) = counted (solid_cells m)

-- the corner list, where the capacity of a table of n entries takes it
abbrev pub corners_reply : ℕ → Option Solid → Reply
corners_reply n None = not_taken (names.Block blocks.Corners)
corners_reply n (Some m) = cond (nat_le (length (corner_list m)) (min n 65536)) (listed (corner_list m)) (refused (names.Block blocks.Corners) CornersFull)

-- the reply to a call, where it has one
abbrev pub reply : State → PlainCall → Option Reply
reply s (frame x y z) = frame_reply x y z
reply s (corner_table n) = None
reply s (grid words) = grid_reply s.frame (vec_items words)
reply s count = Some (count_reply s.block)
reply s corners = Some (corners_reply s.table s.block)

-- the replies to a script, each made on what the calls before it left
abbrev pub replies : State → List PlainCall → List Reply
replies s [] = []
replies s (c ∷ cs) = option_to_list (reply s c) ++ replies (step s c) cs

-- the state after a script
abbrev pub steps : State → List PlainCall → State
steps s [] = s
steps s (c ∷ cs) = steps (step s c) cs

-- how many blocks a call reads: a grid that is granted is one
abbrev pub block_read : State → PlainCall → ℕ
block_read s (frame x y z) = 0
block_read s (corner_table n) = 0
block_read s (grid words) = one (is_some (new_grid s.frame (vec_items words)))
block_read s count = 0
block_read s corners = 0

-- how many blocks a script reads
abbrev pub blocks_read : State → List PlainCall → ℕ
blocks_read s [] = 0
blocks_read s (c ∷ cs) = block_read s c + blocks_read (step s c) cs
