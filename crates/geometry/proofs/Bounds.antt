-- Every frame has sides of 1 to 1,024.
use Rattle.std.proofs.Common.{◌≤◌, arith}
use Rattle.geometry.specs.Frames.{sides}
use Rattle.geometry.specs.declared.axis.Axis.{Axis}
use Rattle.geometry.specs.declared.axis.Axis.TheVariants.{X, Y, Z}
use Rattle.geometry.specs.declared.frame.Frame.{Frame}

pub sides_bound : (f : Frame) (a : Axis) → (1 ≤ sides f a) × (sides f a ≤ 1024)
sides_bound f X = (omega arith, omega arith)
sides_bound f Y = (omega arith, omega arith)
sides_bound f Z = (omega arith, omega arith)
