use Rattle.std.proofs.Common.{◌∙◌}
use Rattle.block.proofs.Bitmaps.{lines_read}
use Rattle.block.proofs.lines.are_even.Goals as goal

pub returns : goal.returns
returns c = c.none_set.ensures ∙ lines_read c.args.axis c.args.points.now _ 17425 c.requires c.toggle_lines.ensures
