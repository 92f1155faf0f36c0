-- Parities over ranges of numbers, and of lists that come in parts.
use Rattle.std.proofs.Common.{◌≡◌, ℕ, zero, suc, ◌+◌, ◌<◌, ◌≤◌, Bool, true, false, cond, ◌&&◌, leb, List, [], ◌∷◌, ◌++◌, sym, refl, ap, ◌∙◌, ap₂, ⊎_elim, add-zero, zero-add, arith}
use mathlib.Core.Bool.{and-false, and-true}
use Rattle.std.proofs.lemmas.Bool.{cases_lt, le-leb, lt-leb}
use Rattle.tables.specs.Tables.{listed}
use Rattle.body.specs.Solids.{differ}
use Rattle.body.specs.Corners.{changes, parity}
use Rattle.body.proofs.Parity.{differ_false, differ_back, differ_assoc, differ_swap, and_differ}

-- an odd number of f 0, .., f (n - 1) are true
abbrev pub odd_below : (ℕ → Bool) → ℕ → Bool
odd_below f zero = false
odd_below f (suc n) = differ (odd_below f n) (f n)

-- only what is below n counts
pub odd_below_same : (f g : ℕ → Bool) (n : ℕ) → ((i : ℕ) → i < n → f i ≡ g i) → odd_below f n ≡ odd_below g n
odd_below_same f g zero same = refl
odd_below_same f g (suc n) same = ap₂ differ (odd_below_same f g n (λ i h. same i (omega arith))) (same n (omega arith))

pub odd_below_and : (f : ℕ → Bool) (t : Bool) (n : ℕ) → odd_below (λ i. f i && t) n ≡ (odd_below f n && t)
odd_below_and f t zero = refl
odd_below_and f t (suc n) = ap (λ b. differ b (f n && t)) (odd_below_and f t n) ∙ sym (and_differ (odd_below f n) (f n) t)

-- the changes up to k, of those up to n, add up to the value at k, where nothing is true from n on
pub changes_add_up : (g : ℕ → Bool) (n k : ℕ) → ((i : ℕ) → n ≤ i → g i ≡ false) → odd_below (λ i. changes g i && leb i k) (suc n) ≡ g k
changes_add_up g n k past =
    ⊎_elim
    (λ (h : k < n). above n (omega arith))
    (λ (h : n ≤ k). upto n h ∙ past n (omega arith) ∙ sym (past k h))
    (cases_lt k n)
  where
    upto : (n : ℕ) → n ≤ k → odd_below (λ i. changes g i && leb i k) (suc n) ≡ g n
    upto zero h = ap (λ b. changes g zero && b) (le-leb 0 k h) ∙ and-true (g zero)
    upto (suc n) h =
        ap₂ differ (upto n (omega arith)) (ap (λ b. changes g (suc n) && b) (le-leb (suc n) k h) ∙ and-true (changes g (suc n)))
        ∙ differ_back (g n) (g (suc n))

    above : (n : ℕ) → k ≤ n → odd_below (λ i. changes g i && leb i k) (suc n) ≡ g k
    above zero h = upto zero (omega arith) ∙ ap g (omega arith)
    above (suc n) h =
        ⊎_elim
        (λ (l : k < suc n). ap₂ differ (above n (omega arith)) (ap (λ b. changes g (suc n) && b) (lt-leb (suc n) k (omega arith)) ∙ and-false (changes g (suc n))) ∙ differ_false (g k))
        (λ (l : suc n ≤ k). upto (suc n) l ∙ ap g (omega arith))
        (cases_lt k (suc n))

module _ {A : Type 0} (Q : A → Bool) where
  pub parity_append : (l m : List A) → parity Q (l ++ m) ≡ differ (parity Q l) (parity Q m)
  parity_append [] m = refl
  parity_append (p ∷ l) m = ap (differ (Q p)) (parity_append l m) ∙ sym (differ_assoc (Q p) (parity Q l) (parity Q m))

  parity_listed_from : (f : ℕ → List A) (k i : ℕ) → odd_below (λ n. parity Q (f n)) (i + k) ≡ differ (odd_below (λ n. parity Q (f n)) i) (parity Q (listed f k i))
  unfolding listed
  parity_listed_from f zero i = ap (odd_below (λ n. parity Q (f n))) (add-zero i) ∙ sym (differ_false _)
  parity_listed_from f (suc k) i =
      let e : i + suc k ≡ suc i + k = omega arith in
      ap (odd_below (λ n. parity Q (f n))) e
      ∙ parity_listed_from f k (suc i)
      ∙ differ_assoc (odd_below (λ n. parity Q (f n)) i) (parity Q (f i)) (parity Q (listed f k (suc i)))
      ∙ ap (differ (odd_below (λ n. parity Q (f n)) i)) (sym (parity_append (f i) (listed f k (suc i))))

  pub parity_listed : (f : ℕ → List A) (k : ℕ) → parity Q (listed f k 0) ≡ odd_below (λ n. parity Q (f n)) k
  parity_listed f k = sym (ap (odd_below (λ n. parity Q (f n))) (sym (zero-add k)) ∙ parity_listed_from f k 0)

  -- one entry, or none
  pub parity_if : (b : Bool) (p : A) → parity Q (cond b (p ∷ []) []) ≡ (b && Q p)
  parity_if true p = differ_false (Q p)
  parity_if false p = refl

-- tests that change along a number
pub parity_changes : {A : Type 0} (Q : ℕ → A → Bool) (u : ℕ) (l : List A) → parity (λ p. changes (λ t. Q t p) u) l ≡ changes (λ t. parity (Q t) l) u
parity_changes Q zero l = refl
parity_changes Q (suc u) [] = refl
parity_changes Q (suc u) (p ∷ l) = ap (differ (differ (Q (suc u) p) (Q u p))) (parity_changes Q (suc u) l) ∙ differ_swap (Q (suc u) p) (Q u p) (parity (Q (suc u)) l) (parity (Q u) l)
