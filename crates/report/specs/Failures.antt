-- What is said where a job was not carried out.
use Rattle.std.specs.Prelude.{ℕ, List, codes}
use Rattle.job.specs.Errors.{error_message}
use Rattle.report.specs.declared.carry.Failure.{Failure}
use Rattle.report.specs.declared.carry.Failure.TheVariants.{Malformed, OutOfMemory}

abbrev pub failure_message : Failure → List ℕ
failure_message (Malformed e) = error_message e
failure_message OutOfMemory = codes "out of memory"
