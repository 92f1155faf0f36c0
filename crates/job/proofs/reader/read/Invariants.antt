use Rattle.std.proofs.Common.{◌≡◌, ◌+◌, length, None, vec_items}
use Rattle.job.specs.Jobs.{SoFar, force, left}
use Rattle.job.specs.Lines.{Readable}
use Rattle.text.specs.Texts.{lines_of}
use Rattle.job.proofs.reader.read.Given as goal

abbrev pub invariant-loop-line : goal.invariant-loop-line
invariant-loop-line l =
    SoFar None (lines_of l.text) (vec_items l.calls) (force l.reader) (left l.reader.text)
    × (Readable None (lines_of l.text) → Readable (force l.reader) (left l.reader.text))
    × (l.reader.text.taken + length (left l.reader.text) ≡ length (lines_of l.text))

abbrev pub decreases-loop-line : goal.decreases-loop-line
decreases-loop-line l = length (left l.reader.text)
