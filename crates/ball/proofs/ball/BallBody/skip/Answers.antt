use Rattle.std.proofs.Common.{◌<◌, sym, ◌∙◌, subst, arith}
use Rattle.geometry.specs.Frames.{sides}
use Rattle.body.specs.Solids.{Skips}
use Rattle.ball.specs.Balls.{ball_solid, distance}
use Rattle.ball.proofs.Rolling.{ball_lawful, skip_before, skip_behind}
use Rattle.ball.proofs.ball.BallBody.skip.Goals as goal

pub returns-then-plane-centre : goal.returns-then-plane-centre
returns-then-plane-centre c =
    let b = c.args.self.now in
    let s = sides b.frame in
    let a = c.args.axis in
    let p = c.args.plane in
    let far : b.radius < distance p c.pick-centre.result = omega (arith, c.abs_diff.ensures) in
    let value = c.min.ensures ∙ skip_before s b.centre b.radius a p c.side-side.result c.pick-centre.result c.side-side.ensures c.pick-centre.ensures (omega arith) far (omega arith) in
    record { value = value; lawful = subst (Skips (ball_solid s b.centre b.radius) a p) (sym value) (ball_lawful s b.centre b.radius a p) }

pub returns-else-plane-centre : goal.returns-else-plane-centre
returns-else-plane-centre c =
    let b = c.args.self.now in
    let s = sides b.frame in
    let a = c.args.axis in
    let p = c.args.plane in
    let far : b.radius < distance p c.pick-centre.result = omega (arith, c.abs_diff.ensures) in
    let value = skip_behind s b.centre b.radius a p c.side-side.result c.pick-centre.result c.side-side.ensures c.pick-centre.ensures (omega arith) far (omega arith) in
    record { value = value; lawful = subst (Skips (ball_solid s b.centre b.radius) a p) (sym value) (ball_lawful s b.centre b.radius a p) }
