-- How calls are named.
use Rattle.std.specs.Prelude.{ℕ, List, ◌++◌, codes}
use Rattle.geometry.specs.Words.{order_word}
use Rattle.script.specs.declared.call.BlockCall.TheVariants.{Count, Corners, Inspect}
use Rattle.script.specs.declared.call.CallName.{CallName}
use Rattle.script.specs.declared.call.CallName.TheVariants as names
use Rattle.script.specs.declared.call.CutCall.TheVariants.{Volume, Find, Neighbour, Reopen}

-- the word that a call has in a job, with its axis order
abbrev pub word_of_call : CallName → List ℕ
word_of_call names.Frame = codes "frame"
word_of_call names.Grid = codes "grid"
word_of_call (names.Block Count) = codes "count"
word_of_call (names.Block Corners) = codes "corners"
word_of_call (names.Block (Inspect o)) = codes "inspect " ++ order_word o
word_of_call (names.Cut o) = codes "cut " ++ order_word o
word_of_call (names.Question Volume) = codes "volume"
word_of_call (names.Question (Find x y z)) = codes "find"
word_of_call (names.Question (Neighbour u s m)) = codes "neighbour"
word_of_call (names.Question Reopen) = codes "reopen"
