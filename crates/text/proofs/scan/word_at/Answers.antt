use Rattle.std.proofs.Common.{◌≡◌, ◌≤◌, length, sym, ap, ◌∙◌, arith}
use Rattle.geometry.specs.Frames.{sides}
use Rattle.geometry.specs.declared.axis.Axis.TheVariants.{Z}
use Rattle.body.specs.Grids.{row_words}
use Rattle.text.specs.Scans.{packed_word}
use Rattle.text.proofs.Packing.{packed_word_from}
use Rattle.text.proofs.Scanning.{length_part}
use Rattle.text.proofs.scan.word_at.Goals as goal

pub word_of-requires : goal.word_of-requires
word_of-requires c = let short : length c.part.result.now ≤ c.min.result = length_part _ _ _ c.part.ensures in omega (arith, c.min.ensures)

pub returns : goal.returns
returns c =
    let cells = c.args.cells.now in
    let side : c.from-side.result ≡ sides c.args.frame Z = c.from-side.ensures ∙ c.side.ensures in
    let width = c.row_words-in_row.ensures.value ∙ ap row_words (sym side) in
    c.word_of.ensures ∙ packed_word_from c.from-side.result cells c.args.n _ _ _ width c.min.ensures c.part.ensures ∙ ap (λ s. packed_word s cells c.args.n) side
