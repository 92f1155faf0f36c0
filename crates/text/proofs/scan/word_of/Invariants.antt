use Rattle.std.proofs.Common.{◌≡◌, ◌++◌, length, drop}
use Rattle.std.specs.Slice.Iter.{iter_rest}
use Rattle.text.specs.Scans.{word_of}
use Rattle.text.proofs.scan.word_of.Given as goal

abbrev pub invariant-loop-cell : goal.invariant-loop-cell
invariant-loop-cell l =
    let ahead = iter_rest l.cell-iterator.iter in
    (ahead ++ drop (length ahead) l.cells ≡ l.cells) × (l.word ≡ word_of (drop (length ahead) l.cells))
