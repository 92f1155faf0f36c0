-- Longest stretches in words, and by the test: each true number lies in just one.
use Rattle.std.proofs.Common.{◌≡◌, ℕ, zero, suc, ◌<◌, ◌≤◌, Bool, true, false, not, eqb, sym, refl, ap, ◌∙◌, subst, ⊎_elim, arith}
use Rattle.std.proofs.lemmas.Bool.{and_from, and_parts, both_ways, cases_lt, cases_order, eq-eqb, eqb-true, not-true, not_from_false}
use Rattle.boxes.specs.Stretches.{Longest, opens, reach, stretch}
use Rattle.boxes.proofs.Reaching.{reaches, reach_is}

module _ (Q : ℕ → Bool) (n : ℕ) where
  opens_true : (i : ℕ) → opens Q i ≡ true → Q i ≡ true
  opens_true zero e = e
  opens_true (suc i) e = (and_parts (Q (suc i)) (not (Q i)) e).0

  opens_before : (lo : ℕ) → opens Q lo ≡ true → (i : ℕ) → suc i ≡ lo → Q i ≡ false
  opens_before lo e i at = not-true (Q i) (and_parts (Q (suc i)) (not (Q i)) (ap (opens Q) at ∙ e)).1

  opens_is : (lo : ℕ) → Q lo ≡ true → ((i : ℕ) → suc i ≡ lo → Q i ≡ false) → opens Q lo ≡ true
  opens_is zero here before = here
  opens_is (suc i) here before = and_from (Q (suc i)) (not (Q i)) here (not_from_false (Q i) (before i refl))

  -- where a stretch begins, it goes as far as a walk from there
  pub longest_from : (lo : ℕ) → lo < n → opens Q lo ≡ true → Longest Q n lo (reach Q n lo)
  longest_from lo l e =
      let r = reaches Q n lo (omega arith) in
      let past : lo < reach Q n lo =
      ⊎_elim (λ (h : lo < reach Q n lo). h)
      (λ (h : reach Q n lo ≤ lo). let same : reach Q n lo ≡ lo = omega (arith, r.from) in absurd (both_ways (Q lo) (ap Q (sym same) ∙ r.stop (omega arith)) (opens_true lo e)))
      (cases_lt lo (reach Q n lo))
      in
      record { some = past; within = r.to; all = r.all; before = opens_before lo e; after = r.stop }

  pub stretch_longest : (lo hi : ℕ) → lo < n → stretch Q n lo hi ≡ true → Longest Q n lo hi
  stretch_longest lo hi l e =
      let p = and_parts (opens Q lo) (eqb (reach Q n lo) hi) e in
      subst (Longest Q n lo) (eqb-true (reach Q n lo) hi p.1) (longest_from lo l p.0)

  module _ {lo hi : ℕ} (w : Longest Q n lo hi) where
    pub longest_opens : opens Q lo ≡ true
    longest_opens = opens_is lo (w.all lo (omega arith) w.some) w.before

    pub longest_reach : reach Q n lo ≡ hi
    longest_reach = sym (reach_is Q n lo hi (omega (arith, w.some, w.within)) (record { from = omega (arith, w.some); to = w.within; all = w.all; stop = w.after }))

    pub longest_stretch : stretch Q n lo hi ≡ true
    longest_stretch = and_from (opens Q lo) (eqb (reach Q n lo) hi) longest_opens (eq-eqb (reach Q n lo) hi longest_reach)

  -- two that hold the same number are the same
  pub longest_once : {lo hi lo' hi' : ℕ} (p : ℕ) → Longest Q n lo hi → Longest Q n lo' hi' → lo ≤ p → p < hi → lo' ≤ p → p < hi' → (lo ≡ lo') × (hi ≡ hi')
  longest_once {lo} {hi} {lo'} {hi'} p v w a b a' b' =
      let same : lo ≡ lo' =
      ⊎_elim (λ (e : lo ≡ lo'). e)
      (⊎_elim (λ (l : lo < lo'). absurd (earlier lo hi lo' hi' v w l (omega arith))) (λ (l : lo' < lo). absurd (earlier lo' hi' lo hi w v l (omega arith))))
      (cases_order lo lo')
      in
      (same, sym (longest_reach v) ∙ ap (reach Q n) same ∙ longest_reach w)
    where
      earlier : (lo hi lo' hi' : ℕ) → Longest Q n lo hi → Longest Q n lo' hi' → lo < lo' → lo' < hi → ⊥
      earlier lo hi zero hi' v w l h = omega arith
      earlier lo hi (suc m) hi' v w l h = both_ways (Q m) (w.before m refl) (v.all m (omega arith) (omega arith))

  -- the longest stretch that holds p
  pub record Holding (p : ℕ) : Type 0 where
    pub lo : ℕ
    pub hi : ℕ
    pub longest : Longest Q n lo hi
    pub from : lo ≤ p
    pub to : p < hi

  pub holding : (p : ℕ) → p < n → Q p ≡ true → Holding p
  holding zero l e = record { lo = zero; hi = reach Q n zero; longest = longest_from zero l e; from = omega arith; to = (longest_from zero l e).some }
  holding (suc p) l e = go (Q p) refl (λ h. holding p (omega arith) h)
    where
      go : (b : Bool) → Q p ≡ b → (Q p ≡ true → Holding p) → Holding (suc p)
      go true here rest =
          let r = rest here in
          let w = r.longest in
          let on : suc p < r.hi =
          ⊎_elim (λ (h : suc p < r.hi). h)
          (λ (h : r.hi ≤ suc p). let same : r.hi ≡ suc p = omega (arith, r.to) in absurd (both_ways (Q (suc p)) (ap Q (sym same) ∙ w.after (omega arith)) e))
          (cases_lt (suc p) r.hi)
          in
          record { lo = r.lo; hi = r.hi; longest = w; from = omega (arith, r.from); to = on }
      go false here rest =
          let w = longest_from (suc p) l (and_from (Q (suc p)) (not (Q p)) e (not_from_false (Q p) here)) in
          record { lo = suc p; hi = reach Q n (suc p); longest = w; from = omega arith; to = w.some }
