use Rattle.std.proofs.Common.{◌≡◌, ◌<◌, false, sym, ◌∙◌, arith}
use Rattle.boxes.proofs.Reaching.{stretch_covered, stretch_past}
use Rattle.boxes.proofs.line.is_stretch.Goals as goal
use Rattle.boxes.proofs.line.is_stretch.Goals.{else-high-size-via-then-high-size+else-at, else-high-size-via-else-high-size}

pub returns-then-at : goal.returns-then-at
returns-then-at g c =
    let m = g.L.Line in
    let line = c.args.line.now in
    sym (stretch_past (m.holds line) (m.extent line) _ _ c.requires.0 c.requires.1 (sym c.begins.ensures ∙ c.if-not-begins.false) (omega (arith, c.size.ensures)) (sym c.at.ensures ∙ c.if-at.true))

pub returns : goal.returns
returns g c =
    let m = g.L.Line in
    let line = c.args.line.now in
    let stops : c.args.high < m.extent line → m.holds line c.args.high ≡ false =
    elim c.else-high-size.branch [
      | else-high-size-via-then-high-size+else-at w ↦ λ _. sym w.at.ensures ∙ w.if-at.false
      | else-high-size-via-else-high-size w ↦ λ l. absurd (omega (arith, w.if-high-size.false, c.size.ensures))
    ] in
    c.covers.ensures ∙ stretch_covered (m.holds line) (m.extent line) _ _ c.requires.0 c.requires.1 (sym c.begins.ensures ∙ c.if-not-begins.false) stops
