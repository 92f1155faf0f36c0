-- Longest stretches: what a walk along a line has to show of them.
use Rattle.std.proofs.Common.{◌≡◌, ℕ, zero, suc, ◌+◌, ◌-◌, ◌<◌, ◌≤◌, Bool, true, false, not, ◌&&◌, eqb, sym, refl, ap, ◌∙◌, ⊎_elim, arith}
use mathlib.Core.Bool.{and-false}
use Rattle.std.proofs.lemmas.Bool.{and_from, and_left, and_parts, both_ways, cases_lt, eq-eqb, ne_eqb, not-true, not-false, not_from_false, not_from_true}
use Rattle.body.proofs.GridSearch.{found_first, search_found}
use Rattle.boxes.specs.Stretches.{all_true, opens, reach, stretch}

-- where a stretch begins the test is true
pub opens_here : (Q : ℕ → Bool) (i : ℕ) → opens Q i ≡ true → Q i ≡ true
opens_here Q zero e = e
opens_here Q (suc i) e = (and_parts (Q (suc i)) (not (Q i)) e).0

module _ (Q : ℕ → Bool) (n : ℕ) where
  -- true from i up to r, and then not, or at the end
  pub record Reaches (i r : ℕ) : Type 0 where
    pub from : i ≤ r
    pub to : r ≤ n
    pub all : (k : ℕ) → i ≤ k → k < r → Q k ≡ true
    pub stop : r < n → Q r ≡ false

  pub reaches : (i : ℕ) → i ≤ n → Reaches i (reach Q n i)
  reaches i h =
      let f = search_found (λ j. not (Q j)) i n h in
      record {
        from = f.from;
        to = f.to;
        all = λ k a b. not-false (Q k) (f.none k a b);
        stop = λ l. not-true (Q (reach Q n i)) (f.here l);
      }

  pub reach_is : (i r : ℕ) → i ≤ n → Reaches i r → r ≡ reach Q n i
  reach_is i r h w =
      found_first (λ j. not (Q j)) i n r h
      (record { from = w.from; to = w.to; none = λ k a b. not_from_true (Q k) (w.all k a b); here = λ l. not_from_false (Q r) (w.stop l) })

  -- a step of a walk: true up to i, as at i up to j, and true at i
  pub all_further : (lo i j : ℕ) → ((k : ℕ) → lo ≤ k → k < i → Q k ≡ true) → ((k : ℕ) → i ≤ k → k < j → Q k ≡ Q i) → Q i ≡ true → (k : ℕ) → lo ≤ k → k < j → Q k ≡ true
  all_further lo i j before same here k a b =
      ⊎_elim (λ (l : k < i). before k a l) (λ (l : i ≤ k). same k l b ∙ here) (cases_lt k i)

  pub all_true_is : (k i : ℕ) → ((j : ℕ) → i ≤ j → j < i + k → Q j ≡ true) → all_true Q k i ≡ true
  all_true_is zero i all = refl
  all_true_is (suc k) i all = and_from (Q i) _ (all i (omega arith) (omega arith)) (all_true_is k (suc i) (λ j a b. all j (omega arith) (omega arith)))

  pub all_true_not : (k i j : ℕ) → i ≤ j → j < i + k → Q j ≡ false → all_true Q k i ≡ false
  all_true_not zero i j a b e = absurd (omega arith)
  all_true_not (suc k) i j a b e =
      ⊎_elim
      (λ (l : i < j). ap (λ t. Q i && t) (all_true_not k (suc i) j l (omega arith) e) ∙ and-false (Q i))
      (λ (l : j ≤ i). and_left (Q i) _ (ap Q (omega arith) ∙ e))
      (cases_lt i j)

  pub all_true_each : (k i : ℕ) → all_true Q k i ≡ true → (j : ℕ) → i ≤ j → j < i + k → Q j ≡ true
  all_true_each zero i e j a b = absurd (omega arith)
  all_true_each (suc k) i e j a b =
      let p = and_parts (Q i) _ e in
      ⊎_elim (λ (l : i < j). all_true_each k (suc i) p.1 j l (omega arith)) (λ (l : j ≤ i). ap Q (omega arith) ∙ p.0) (cases_lt i j)

  -- a stretch that begins at lo: it is the one up to hi exactly when all is true up to hi, and not at
  -- hi, unless that is the end
  module _ (lo hi : ℕ) (some : lo < hi) (within : hi ≤ n) (begins : opens Q lo ≡ true) where
    begun : stretch Q n lo hi ≡ eqb (reach Q n lo) hi
    begun = ap (λ t. t && eqb (reach Q n lo) hi) begins

    pub stretch_past : hi < n → Q hi ≡ true → stretch Q n lo hi ≡ false
    stretch_past l e =
        let r = reaches lo (omega arith) in
        begun ∙ ne_eqb (reach Q n lo) hi (λ same. both_ways (Q hi) (ap Q (sym same) ∙ r.stop (omega (arith, same))) e)

    pub stretch_covered : (hi < n → Q hi ≡ false) → all_true Q (hi - lo) lo ≡ stretch Q n lo hi
    stretch_covered stops = go (all_true Q (hi - lo) lo) refl
      where
        go : (b : Bool) → all_true Q (hi - lo) lo ≡ b → all_true Q (hi - lo) lo ≡ stretch Q n lo hi
        go true e =
            let each = all_true_each (hi - lo) lo e in
            e ∙ sym (begun ∙ eq-eqb (reach Q n lo) hi (sym (reach_is lo hi (omega arith) (record { from = omega arith; to = within; all = λ k a b. each k a (omega arith); stop = stops }))))
        go false e =
            let r = reaches lo (omega arith) in
            e ∙ sym (begun ∙ ne_eqb (reach Q n lo) hi (λ same. both_ways (all_true Q (hi - lo) lo) e (all_true_is (hi - lo) lo (λ j a b. r.all j a (omega (arith, same))))))
