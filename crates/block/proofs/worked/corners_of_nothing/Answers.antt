use Rattle.std.proofs.Common.{[], length, sym, refl, ap}
use Rattle.geometry.specs.Frames.{sides}
use Rattle.block.proofs.Exact.{exact}
use Rattle.block.proofs.worked.corners_of_nothing.Goals as goal

pub returns : goal.returns
returns c = sym (ap length (exact (sides c.args.frame) [] (record { inside = tt; rises = tt; even = λ a u v. refl })))
