use Rattle.std.proofs.lemmas.Bool.{and_from}
use Rattle.geometry.proofs.ByAxis.{by_axis}
use Rattle.geometry.proofs.Readings.{lower_reads, upper_reads}
use Rattle.geometry.proofs.cuboid.Cuboid.new.Goals as goal

pub returns : goal.returns
returns c =
    let x = c.in_ok-x.ensures in
    let y = c.in_ok-y.ensures in
    let z = c.in_ok-z.ensures in (
      and_from _ _ x.0 (and_from _ _ y.0 z.0),
      (
        by_axis _ _ (lower_reads _ _ _ _ x) (lower_reads _ _ _ _ y) (lower_reads _ _ _ _ z),
        by_axis _ _ (upper_reads _ _ _ _ x) (upper_reads _ _ _ _ y) (upper_reads _ _ _ _ z),
      ),
    )
