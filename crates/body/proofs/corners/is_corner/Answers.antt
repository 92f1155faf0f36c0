use Rattle.std.proofs.Common.{◌≡◌, sym, ◌∙◌, rules}
use Rattle.body.specs.Corners.{changes}
use Rattle.body.proofs.Parity.{corner_changes}
use Rattle.body.proofs.corners.is_corner.Goals as goal

pub returns : goal.returns
returns g c =
    let h = (g.B.Body.meaning c.args.body.now).holds in
    let e : c.changes.result ≡ changes (λ k. changes (λ j. changes (λ i. h i j k) c.args.x) c.args.y) c.args.z = search rules in
    e ∙ sym (corner_changes h _ _ _)
