-- What jobs of plain calls print, said by itself.
use Rattle.std.specs.Prelude.{◌≡◌, ℕ, List, None}
use Rattle.std.specs.Option.{option_map}
use Rattle.script.specs.Plain.{PlainCall, blocks_read, replies, start, steps}
use Rattle.script.specs.Scripts.{size_of}
use Rattle.job.specs.Plain.{Reads}
use Rattle.text.specs.Texts.{lines_of}
use Rattle.report.specs.Outputs.{printed}

-- the text that a plain script prints
abbrev pub plain_output : List PlainCall → List ℕ
plain_output cs = printed (replies start cs) (blocks_read start cs) (option_map size_of (steps start cs).block)

-- what a job of plain calls prints
abbrev pub PrintsPlainly : List ℕ → List ℕ → Type 0
PrintsPlainly text out = (cs : List PlainCall) × Reads None (lines_of text) cs × (out ≡ plain_output cs)
