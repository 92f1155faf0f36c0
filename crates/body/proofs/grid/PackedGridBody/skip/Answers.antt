use Rattle.std.proofs.Common.{refl, ap, ◌∙◌, arith}
use Rattle.geometry.specs.Frames.{sides}
use Rattle.body.specs.Grids.{packed}
use Rattle.body.proofs.GridMeaning.{packed_inside, packed_skip_past, packed_skip_next, packed_skip_rows}
use Rattle.body.proofs.GridSkips.{skip_lawful}
use Rattle.body.proofs.grid.PackedGridBody.skip.Goals as goal

pub returns-then-side-plane : goal.returns-then-side-plane
returns-then-side-plane c =
    let s = sides c.args.self.now.frame in
    let words = c.args.self.now.words.now in
    let value = packed_skip_past s words c.args.axis c.args.plane c.side-side.result c.side-side.ensures c.if-side-plane.true in
    record { value = value; lawful = skip_lawful (packed s words) (packed_inside s words) _ _ _ value }

pub next_change-requires : goal.next_change-requires
next_change-requires c =
    let side = c.side-side.ensures ∙ ap (sides c.args.self.now.frame) c.in-Z.is in
    (omega arith, (omega arith, omega (arith, side)))

pub returns-in-X : goal.returns-in-X
returns-in-X c =
    let s = sides c.args.self.now.frame in
    let words = c.args.self.now.words.now in
    let value = packed_skip_next s words c.args.axis c.args.plane c.side-side.result c.in-X.is c.side-side.ensures c.if-side-plane.false in
    record { value = value; lawful = skip_lawful (packed s words) (packed_inside s words) _ _ _ value }

pub returns-in-Z : goal.returns-in-Z
returns-in-Z c =
    let s = sides c.args.self.now.frame in
    let words = c.args.self.now.words.now in
    let value = packed_skip_rows s words c.args.axis c.args.plane c.side-side.result _ _ c.next_change.result c.in-Z.is c.side-side.ensures refl refl c.if-side-plane.false c.next_change.ensures in
    record { value = value; lawful = skip_lawful (packed s words) (packed_inside s words) _ _ _ value }
