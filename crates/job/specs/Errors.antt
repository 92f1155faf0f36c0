-- Errors of jobs.
use Rattle.std.specs.Prelude.{ℕ, ◌++◌, List, codes, decimal}
use Rattle.text.specs.Problems.{message}
use Rattle.job.specs.declared.reader.JobError.{JobError}

-- the words that tell of an error: the line, and what is wrong there
abbrev pub error_message : JobError → List ℕ
error_message e = codes "line " ++ (decimal e.line ++ (codes ": " ++ message e.problem))
