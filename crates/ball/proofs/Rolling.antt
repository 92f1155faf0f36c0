-- The skips of a ball are lawful.
use Rattle.std.proofs.Common.{◌≡◌, ℕ, ◌+◌, ◌-◌, ◌*◌, ◌<◌, ◌≤◌, min, false, cond, leb, sym, refl, ap, ◌∙◌, ap₂, add-mul, mul-le-mul, mul-add, arith}
use Rattle.std.proofs.lemmas.Bool.{cond_both, cond-false, cond-true, le-ltb, lt-leb, lt-ltb, leb-false, ltb-true, ltb-false, leb-true}
use Rattle.geometry.specs.declared.axis.Axis.{Axis}
use Rattle.geometry.specs.declared.axis.Axis.TheVariants.{X, Y, Z}
use Rattle.geometry.specs.declared.frame.Cell.{Cell}
use Rattle.body.specs.Solids.{Skips, section}
use Rattle.layers.proofs.Framing.{framed_skips}
use Rattle.ball.specs.Balls.{ball_skip, ball_solid, centre_along, distance, in_ball}

square_less : (r d : ℕ) → r < d → r * r < d * d
square_less r d h =
    let more : r + 1 ≤ d = omega arith in
    omega (arith, mul-le-mul more more, add-mul r 1 (r + 1), mul-add r r 1)

-- a plane farther from the centre than the radius has no cell of the ball
far_section : (c : Cell) (r : ℕ) (a : Axis) (n u v : ℕ) → r < distance n (centre_along c a) → section a (in_ball c r) n u v ≡ false
far_section c r X n u v h = lt-leb _ _ (omega (arith, square_less r (distance n c.x) h))
far_section c r Y n u v h = lt-leb _ _ (omega (arith, square_less r (distance n c.y) h))
far_section c r Z n u v h = lt-leb _ _ (omega (arith, square_less r (distance n c.z) h))

module _ (s : Axis → ℕ) (c : Cell) (r : ℕ) (a : Axis) (p : ℕ) where
  -- planes that are all too far are equal
  far_skips : (q : ℕ) → p < q → q ≤ s a → ((n : ℕ) → p ≤ n → n < q → r < distance n (centre_along c a)) → Skips (ball_solid s c r) a p q
  far_skips q later within far =
      framed_skips s (in_ball c r) a p q (λ _. (later, within)) (λ h. absurd (omega arith))
      (λ _ n u v l m. far_section c r a n u v (far n l m) ∙ sym (far_section c r a p u v (far p (omega arith) later)))

  pub ball_lawful : Skips (ball_solid s c r) a p (ball_skip s c r a p)
  ball_lawful =
      let at = centre_along c a in
      cond_both _ _ _ (Skips (ball_solid s c r) a p)
      (λ e.
      let past = leb-true (s a) p e in
      framed_skips s (in_ball c r) a p (s a) (λ h. absurd (omega arith)) (λ _. refl) (λ h. absurd (omega arith)))
      (λ e.
      let below = leb-false (s a) p e in
      cond_both _ _ _ (Skips (ball_solid s c r) a p)
      (λ _.
      framed_skips s (in_ball c r) a p (p + 1) (λ _. (omega arith, omega arith)) (λ h. absurd (omega arith))
      (λ _ n u v l m. ap (λ (k : ℕ). section a (in_ball c r) k u v) (omega arith)))
      (λ f.
      let far = leb-false (distance p at) r f in
      cond_both _ _ _ (Skips (ball_solid s c r) a p)
      (λ g. let before = ltb-true p at g in far_skips (min (s a) (at - r)) (omega arith) (omega arith) (λ n l m. omega arith))
      (λ g. let behind = ltb-false p at g in far_skips (s a) below (omega arith) (λ n l m. omega arith))))

  -- the skips before the ball and behind it
  module _ (side at : ℕ) (side-is : side ≡ s a) (at-is : at ≡ centre_along c a) (below : p < side) (far : r < distance p at) where
    outside : (x y : ℕ) → cond (leb (s a) p) (s a) (cond (leb (distance p (centre_along c a)) r) x y) ≡ y
    outside x y =
        let within : p < s a = omega arith in
        let off : r < distance p (centre_along c a) = omega arith in
        cond-false _ _ _ (lt-leb (s a) p within) ∙ cond-false _ _ _ (lt-leb (distance p (centre_along c a)) r off)

    pub skip_before : p < at → min side (at - r) ≡ ball_skip s c r a p
    skip_before h =
        let before : p < centre_along c a = omega arith in
        ap₂ (λ (x y : ℕ). min x (y - r)) side-is at-is ∙ sym (outside _ _ ∙ cond-true _ _ _ (lt-ltb p (centre_along c a) before))

    pub skip_behind : at ≤ p → side ≡ ball_skip s c r a p
    skip_behind h =
        let behind : centre_along c a ≤ p = omega arith in
        side-is ∙ sym (outside _ _ ∙ cond-false _ _ _ (le-ltb p (centre_along c a) behind))
