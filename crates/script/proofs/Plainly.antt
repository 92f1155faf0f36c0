-- What a plain script does and replies by itself is what it does and replies as a script.
use Rattle.std.proofs.Common.{◌≡◌, ℕ, ◌+◌, List, [], ◌∷◌, ◌++◌, map, Some, None, vec_items, Option, refl, ap, ap₂, ◌∙◌, add-zero, zero-add, add_assoc}
use Rattle.std.proofs.lemmas.List.{append_assoc, append-nil}
use Rattle.std.specs.Option.{option_to_list}
use Rattle.body.specs.Solids.{Solid}
use Rattle.boxes.specs.declared.record.BoxRecord.{BoxRecord}
use Rattle.script.specs.Scripts as scripts
use Rattle.script.specs.Scripts.{Reply, World, block_held, block_of, blanks, frame_reply, grid_reply, new_frame, new_grid, ran, runs, told_if, world}
use Rattle.script.specs.Plain.{PlainCall, State, block_read, blocks_read, call_of, corner_table, corners, count, frame, grid, replies, reply, start, step, steps}

-- what a plain state is among other states, with blocks read, boxes and replies
abbrev worldly : State → ℕ → List BoxRecord → List Reply → World
worldly s b l rs = world (record { frame = s.frame; blocks = b }) (block_held s.block) (record { corners = s.table; boxes = l; replies = rs })

told_is : (n : ℕ) (l : List BoxRecord) (rs : List Reply) (r : Option Reply) → told_if (record { corners = n; boxes = l; replies = rs }) r ≡ record { corners = n; boxes = l; replies = rs ++ option_to_list r }
told_is n l rs None = simp append-nil
told_is n l rs (Some r) = refl

held_again : (o : Option Solid) → block_held (block_of (block_held o)) ≡ block_held o
held_again None = refl
held_again (Some m) = refl

module _ (l : List BoxRecord) where
  one_call : (s : State) (b : ℕ) (rs : List Reply) (c : PlainCall) → scripts.step (worldly s b l rs) (call_of c) ≡ worldly (step s c) (b + block_read s c) l (rs ++ option_to_list (reply s c))
  one_call s b rs (frame x y z) = simp add-zero (ap (world (record { frame = new_frame x y z; blocks = b }) (block_held None)) (told_is s.table l rs (frame_reply x y z)))
  one_call s b rs (corner_table n) = simp (add-zero, append-nil)
  one_call s b rs (grid words) =
      ap (world (record { frame = s.frame; blocks = b + block_read s (grid words) }) (block_held (new_grid s.frame (vec_items words)))) (told_is s.table l rs (grid_reply s.frame (vec_items words)))
  one_call s b rs count = asked s.block
    where
      asked : (o : Option Solid) → scripts.step (worldly (record { frame = s.frame; block = o; table = s.table }) b l rs) (call_of count) ≡ worldly (record { frame = s.frame; block = o; table = s.table }) (b + 0) l (rs ++ option_to_list (reply (record { frame = s.frame; block = o; table = s.table }) count))
      asked None = simp add-zero
      asked (Some m) = simp add-zero
  one_call s b rs corners = asked s.block
    where
      asked : (o : Option Solid) → scripts.step (worldly (record { frame = s.frame; block = o; table = s.table }) b l rs) (call_of corners) ≡ worldly (record { frame = s.frame; block = o; table = s.table }) (b + 0) l (rs ++ option_to_list (reply (record { frame = s.frame; block = o; table = s.table }) corners))
      asked None = simp add-zero
      asked (Some m) = simp add-zero

  all_calls : (s : State) (b : ℕ) (rs : List Reply) (cs : List PlainCall) → runs (worldly s b l rs) (map call_of cs) ≡ worldly (steps s cs) (b + blocks_read s cs) l (rs ++ replies s cs)
  unfolding runs
  all_calls s b rs [] = simp (add-zero, append-nil) (ap (λ h. world (record { frame = s.frame; blocks = b }) h (record { corners = s.table; boxes = l; replies = rs })) (held_again s.block))
  all_calls s b rs (c ∷ cs) =
      ap (λ w. runs w (map call_of cs)) (one_call s b rs c)
      ∙ all_calls (step s c) (b + block_read s c) (rs ++ option_to_list (reply s c)) cs
      ∙ ap₂ (λ (k : ℕ) (x : List Reply). worldly (steps (step s c) cs) k l x) (add_assoc b (block_read s c) (blocks_read (step s c) cs)) (append_assoc rs (option_to_list (reply s c)) (replies (step s c) cs))

-- a whole plain script
ran_plainly : (cs : List PlainCall) → ran (map call_of cs) ≡ worldly (steps start cs) (0 + blocks_read start cs) (blanks 65536) (replies start cs)
ran_plainly cs = all_calls (blanks 65536) start 0 [] cs

pub plain_replies : (cs : List PlainCall) → (ran (map call_of cs)).state.replies ≡ replies start cs
plain_replies cs = ap (λ w. w.state.replies) (ran_plainly cs)

pub plain_blocks : (cs : List PlainCall) → (ran (map call_of cs)).home.blocks ≡ blocks_read start cs
plain_blocks cs = ap (λ w. w.home.blocks) (ran_plainly cs) ∙ zero-add (blocks_read start cs)

pub plain_last : (cs : List PlainCall) → block_of (ran (map call_of cs)).held ≡ (steps start cs).block
plain_last cs = ap (λ w. block_of w.held) (ran_plainly cs) ∙ of_held (steps start cs).block
  where
    of_held : (o : Option Solid) → block_of (block_held o) ≡ o
    of_held None = refl
    of_held (Some m) = refl
