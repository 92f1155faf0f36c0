-- Where stretches begin: a walk goes from the end of one over a gap to the next.
use Rattle.std.proofs.Common.{◌≡◌, ℕ, zero, suc, ◌<◌, ◌≤◌, Bool, true, false, not, ◌&&◌, sym, refl, ap, ◌∙◌, subst, ⊎_elim, arith}
use mathlib.Core.Bool.{and-false}
use Rattle.std.proofs.lemmas.Bool.{and_from, and_left, both_ways, cases_lt, not-false, not-true}
use Rattle.boxes.specs.Stretches.{opens, reach}
use Rattle.boxes.proofs.Boxing.{reach_past}
use Rattle.boxes.proofs.Reaching.{Reaches, opens_here, reaches}

module _ (Q : ℕ → Bool) where
  opens_not : (k : ℕ) → Q k ≡ false → opens Q k ≡ false
  opens_not zero e = e
  opens_not (suc k) e = and_left (Q (suc k)) _ e

  opens_within : (k : ℕ) → 0 < k → ((j : ℕ) → suc j ≡ k → Q j ≡ true) → opens Q k ≡ false
  opens_within zero h before = absurd (omega arith)
  opens_within (suc k) h before = ap (λ b. Q (suc k) && not b) (before k refl) ∙ and-false (Q (suc k))

  opens_after : (k : ℕ) → Q k ≡ true → ((j : ℕ) → suc j ≡ k → Q j ≡ false) → opens Q k ≡ true
  opens_after zero e before = e
  opens_after (suc k) e before = and_from (Q (suc k)) _ e (ap not (before k refl))

  module _ (n : ℕ) where
    -- j is the first number from i on at which a stretch begins, or n
    pub record Starts (i j : ℕ) : Type 0 where
      pub to : j ≤ n
      pub none : (k : ℕ) → i ≤ k → k < j → opens Q k ≡ false
      pub here : j < n → opens Q j ≡ true

    abbrev gap : ℕ → ℕ
    gap i = reach (λ k. not (Q k)) n i

    pub starts_first : Starts 0 (gap 0)
    starts_first =
        let w = reaches (λ k. not (Q k)) n 0 (omega arith) in
        record {
          to = w.to;
          none = λ k a b. opens_not k (not-true (Q k) (w.all k a b));
          here = λ l. opens_after (gap 0) (not-false (Q (gap 0)) (w.stop l)) (λ j (e : suc j ≡ gap 0). not-true (Q j) (w.all j (omega arith) (omega arith)));
        }

    -- from where a stretch begins over its end and the gap behind it
    pub starts_next : (i e j : ℕ) → i < n → opens Q i ≡ true → e ≡ reach Q n i → j ≡ gap e → (i < j) × Starts (suc i) j
    starts_next i e j i<n opened e-is j-is =
        let here = opens_here Q i opened in
        let past = reach_past Q n i here i<n in
        let i<e : i < e = omega (arith, past.0, e-is) in
        let e≤n : e ≤ n = omega (arith, past.1, e-is) in
        let run : Reaches Q n i e = subst (λ r. Reaches Q n i r) (sym e-is) (reaches Q n i (omega arith)) in
        let after : Reaches (λ k. not (Q k)) n e j = subst (λ r. Reaches (λ k. not (Q k)) n e r) (sym j-is) (reaches (λ k. not (Q k)) n e e≤n) in
        let further : j < n → e < j =
        λ (l : j < n). ⊎_elim (λ (h : e < j). h) (λ (h : j ≤ e). let same : j ≡ e = omega (arith, after.from) in absurd (both_ways (Q j) (ap Q same ∙ run.stop (omega arith)) (not-false (Q j) (after.stop l)))) (cases_lt e j) in (
          omega (arith, after.from),
          record {
            to = after.to;
            none = λ k (a : suc i ≤ k) (b : k < j).
                ⊎_elim
                (λ (h : k < e). opens_within k (omega arith) (λ t (s : suc t ≡ k). run.all t (omega arith) (omega arith)))
                (λ (h : e ≤ k). opens_not k (not-true (Q k) (after.all k h b)))
                (cases_lt k e);
            here = λ (l : j < n). opens_after j (not-false (Q j) (after.stop l)) (λ t (s : suc t ≡ j). not-true (Q t) (after.all t (omega (arith, further l)) (omega arith)));
          },
        )
