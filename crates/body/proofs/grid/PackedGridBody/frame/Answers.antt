use Rattle.std.proofs.Common.{sym}
use Rattle.body.proofs.GridMeaning.{packed_inside, packed_side}
use Rattle.body.proofs.grid.PackedGridBody.frame.Goals as goal

pub returns : goal.returns
returns c = record { frame = sym (packed_side _ _); inside = packed_inside _ _ }
