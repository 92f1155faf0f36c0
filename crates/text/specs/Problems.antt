-- What can be wrong with a job.
use Rattle.std.specs.Prelude.{◌≡◌, ℕ, List, codes}
use Rattle.text.specs.declared.problem.Problem.{Problem}
use Rattle.text.specs.declared.problem.Problem.TheVariants.{UnknownCommand, UnknownTable, UnknownOrder, UnknownSense, WordCount, NotANumber, TooLarge, NoFrame, RowLength, RowCharacter, MissingLine, OutOfMemory}

-- a problem other than that there is no memory
abbrev pub Fault : Problem → Type 0
Fault e = e ≡ OutOfMemory → ⊥

-- the words that tell of a problem
abbrev pub message : Problem → List ℕ
message UnknownCommand = codes "unknown command"
message UnknownTable = codes "unknown table"
message UnknownOrder = codes "unknown order of axes"
message UnknownSense = codes "unknown sense"
message WordCount = codes "wrong number of words"
message NotANumber = codes "not a number of 64 bits"
message TooLarge = codes "number too large"
message NoFrame = codes "no frame"
message RowLength = codes "row of the wrong length"
message RowCharacter = codes "row with another character than . and #"
message MissingLine = codes "missing line"
message OutOfMemory = codes "out of memory"
