use Rattle.std.proofs.Common.{◌≡◌, drop, Some}
use Rattle.text.specs.Texts.{number_on}
use Rattle.text.proofs.text.number.Given as goal

abbrev pub invariant-loop-byte : goal.invariant-loop-byte
invariant-loop-byte l = number_on (Some l.number) (drop l.byte-index l.word) ≡ number_on (Some 0) l.word
