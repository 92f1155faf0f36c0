-- Finding the first number of which a test holds, and tests of some number below another.
use Rattle.std.proofs.Common.{◌≡◌, ℕ, zero, suc, ◌+◌, ◌-◌, ◌*◌, ◌<◌, ◌≤◌, Bool, true, false, cond, ◌||◌, sym, refl, ap, ◌∙◌, subst, ap₂, ⊎_elim, add-zero, add-suc, suc-mul, zero-mul, arith}
use Rattle.std.proofs.lemmas.Bool.{both_ways, cases_lt, or_left, or_right, or_from, or_parts}
use Rattle.body.specs.Grids.{first, some}

-- what is found: none before it passes, and it does unless it is the end
pub record Found (Q : ℕ → Bool) (i e r : ℕ) : Type 0 where
  pub from : i ≤ r
  pub to : r ≤ e
  pub none : (n : ℕ) → i ≤ n → n < r → Q n ≡ false
  pub here : r < e → Q r ≡ true

pub first_found : (Q : ℕ → Bool) (k i : ℕ) → Found Q i (i + k) (first Q k i)
first_found Q zero i = record { from = omega arith; to = omega arith; none = λ n a b. absurd (omega arith); here = λ h. absurd (omega arith) }
first_found Q (suc k) i = go (Q i) refl (first_found Q k (suc i))
  where
    go : (b : Bool) → Q i ≡ b → Found Q (suc i) (suc i + k) (first Q k (suc i)) → Found Q i (i + suc k) (cond b i (first Q k (suc i)))
    go true e rest = record { from = omega arith; to = omega arith; none = λ n a b. absurd (omega arith); here = λ _. e }
    go false e rest =
        record {
          from = omega (arith, rest.from);
          to = omega (arith, rest.to);
          none = λ n a b. ⊎_elim (λ (s : i < n). rest.none n s b) (λ (s : n ≤ i). ap Q (omega arith) ∙ e) (cases_lt i n);
          here = λ h. rest.here (omega arith);
        }

-- and nothing else is
pub found_once : (Q : ℕ → Bool) (i e r s : ℕ) → Found Q i e r → Found Q i e s → r ≡ s
found_once Q i e r s f g =
    ⊎_elim (λ (h : r < s). absurd (both_ways (Q r) (g.none r f.from h) (f.here (omega (arith, g.to)))))
    (λ (h : s ≤ r). ⊎_elim (λ (l : s < r). absurd (both_ways (Q s) (f.none s g.from l) (g.here (omega (arith, f.to))))) (λ (l : r ≤ s). omega arith) (cases_lt s r))
    (cases_lt r s)

-- the search up to e
pub search_found : (Q : ℕ → Bool) (i e : ℕ) → i ≤ e → Found Q i e (first Q (e - i) i)
search_found Q i e h = subst (λ (n : ℕ). Found Q i n (first Q (e - i) i)) (omega arith) (first_found Q (e - i) i)

pub found_first : (Q : ℕ → Bool) (i e r : ℕ) → i ≤ e → Found Q i e r → r ≡ first Q (e - i) i
found_first Q i e r h f = found_once Q i e r _ f (search_found Q i e h)

-- what is found behind numbers that all fail
pub first_later : (Q : ℕ → Bool) (i j e r : ℕ) → i ≤ j → j ≤ e → ((n : ℕ) → i ≤ n → n < j → Q n ≡ false) → r ≡ first Q (e - j) j → r ≡ first Q (e - i) i
first_later Q i j e r a b none is =
    let f = subst (Found Q j e) (sym is) (search_found Q j e b) in
    found_first Q i e r (omega arith) (record {
      from = omega (arith, f.from);
      to = f.to;
      none = λ n l h. ⊎_elim (λ (s : n < j). none n l s) (λ (s : j ≤ n). f.none n s h) (cases_lt n j);
      here = f.here;
    })

-- tests that agree on the way find the same
pub first_same : (Q R : ℕ → Bool) (i e : ℕ) → i ≤ e → ((n : ℕ) → i ≤ n → n < e → Q n ≡ R n) → first Q (e - i) i ≡ first R (e - i) i
first_same Q R i e h same =
    let f = search_found Q i e h in
    found_first R i e _ h (record { from = f.from; to = f.to; none = λ n a b. sym (same n a (omega (arith, f.to))) ∙ f.none n a b; here = λ l. sym (same _ f.from l) ∙ f.here l })

-- a test that never passes finds the end
pub first_never : (Q : ℕ → Bool) (i e : ℕ) → i ≤ e → ((n : ℕ) → Q n ≡ false) → e ≡ first Q (e - i) i
first_never Q i e h never = found_first Q i e e h (record { from = h; to = omega arith; none = λ n a b. never n; here = λ l. absurd (omega arith) })

-- one test up to where another one stopped
pub first_either : (P Q : ℕ → Bool) (i e q r : ℕ) → i ≤ e → q ≡ first Q (e - i) i → r ≡ first P (q - i) i → r ≡ first (λ n. Q n || P n) (e - i) i
first_either P Q i e q r h isq isr =
    let f = subst (Found Q i e) (sym isq) (search_found Q i e h) in
    let g = subst (Found P i q) (sym isr) (search_found P i q f.from) in
    found_first _ i e r h (record {
      from = g.from;
      to = omega (arith, g.to, f.to);
      none = λ n a b. or_from _ _ (f.none n a (omega (arith, g.to))) (g.none n a b);
      here = λ l. ⊎_elim (λ (s : r < q). or_right _ _ (g.here s)) (λ (s : q ≤ r). let e : r ≡ q = omega (arith, g.to) in or_left _ _ (ap Q e ∙ f.here (omega arith))) (cases_lt r q);
    })

-- a test that passes at the start stays there when it is widened
pub first_stays : (Q R : ℕ → Bool) (i e : ℕ) → i ≤ e → ((n : ℕ) → Q n ≡ true → R n ≡ true) → first Q (e - i) i ≡ i → i ≡ first R (e - i) i
first_stays Q R i e h wide at =
    let f = subst (Found Q i e) at (search_found Q i e h) in
    found_first R i e i h (record { from = omega arith; to = h; none = λ n a b. absurd (omega arith); here = λ l. wide i (f.here l) })

-- some number below n
pub some_same : (Q R : ℕ → Bool) (n : ℕ) → ((i : ℕ) → i < n → Q i ≡ R i) → some Q n ≡ some R n
some_same Q R zero same = refl
some_same Q R (suc n) same = ap₂ ◌||◌ (some_same Q R n (λ i h. same i (omega arith))) (same n (omega arith))

pub some_none : (Q : ℕ → Bool) (n : ℕ) → some Q n ≡ false → (i : ℕ) → i < n → Q i ≡ false
some_none Q zero e i h = absurd (omega arith)
some_none Q (suc n) e i h =
    let p = or_parts (some Q n) (Q n) e in
    ⊎_elim (λ (l : i < n). some_none Q n p.0 i l) (λ (l : n ≤ i). ap Q (omega arith) ∙ p.1) (cases_lt i n)

pub some_more : (Q : ℕ → Bool) (n k : ℕ) → some Q n ≡ true → some Q (n + k) ≡ true
some_more Q n zero e = ap (some Q) (add-zero n) ∙ e
some_more Q n (suc k) e = ap (some Q) (add-suc n k) ∙ or_left _ _ (some_more Q n k e)

or_assoc : (a b c : Bool) → (a || (b || c)) ≡ ((a || b) || c)
or_assoc true b c = refl
or_assoc false b c = refl

or_none : (a : Bool) → a ≡ (a || false)
or_none true = refl
or_none false = refl

some_split : (Q : ℕ → Bool) (m k : ℕ) → some Q (m + k) ≡ (some Q m || some (λ j. Q (m + j)) k)
some_split Q m zero = ap (some Q) (add-zero m) ∙ or_none (some Q m)
some_split Q m (suc k) = ap (some Q) (add-suc m k) ∙ ap (λ b. b || Q (m + k)) (some_split Q m k) ∙ sym (or_assoc (some Q m) (some (λ j. Q (m + j)) k) (Q (m + k)))

-- rows by one number, or by two
pub some_grid : (Q : ℕ → Bool) (a b : ℕ) → some Q (a * b) ≡ some (λ i. some (λ j. Q (i * b + j)) b) a
some_grid Q zero b = ap (some Q) (zero-mul b)
some_grid Q (suc a) b = ap (some Q) (suc-mul a b) ∙ some_split Q (a * b) b ∙ ap (λ t. t || some (λ j. Q (a * b + j)) b) (some_grid Q a b)
