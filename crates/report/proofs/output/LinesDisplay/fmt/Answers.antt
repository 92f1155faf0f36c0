use Rattle.std.proofs.Common.{ap, sym}
use Rattle.std.proofs.Output.{has_written_of_eq}
use Rattle.report.specs.Outputs.{reply_text}
use Rattle.script.specs.Scripts.{reply_of}
use Rattle.report.proofs.output.LinesDisplay.fmt.Goals as goal

pub returns-in-Inspected-clause-writes : goal.returns-in-Inspected-clause-writes
returns-in-Inspected-clause-writes g c = λ plain ok.
    has_written_of_eq _ _ _ _ _ (sym (ap (λ a. reply_text (reply_of a)) c.in-Inspected.is)) (c.writeln-in-Inspected.ensures.writes plain ok)
