-- Lists that come in parts: what holds of all entries, and sums over them.
use Rattle.std.proofs.Common.{◌≡◌, ℕ, zero, suc, ◌+◌, ◌<◌, ◌≤◌, Bool, true, false, cond, List, [], ◌∷◌, ◌++◌, length, get_or, sum_by, refl, ap, ◌∙◌, subst, ap₂, ⊎_elim, arith}
use Rattle.std.proofs.lemmas.List.Sums.{sum_by-append, sum_by-cons}
use Rattle.std.proofs.lemmas.Bool.{cases_eq}
use Rattle.tables.specs.Tables.{listed}
use Rattle.body.specs.Corners.{All}

module _ {A : Type 0} where
  pub all_append : (P : A → Type 0) (l m : List A) → All P l → All P m → All P (l ++ m)
  all_append P [] m pl pm = pm
  all_append P (x ∷ l) m pl pm = (pl.0, all_append P l m pl.1 pm)

  all_left : (P : A → Type 0) (l m : List A) → All P (l ++ m) → All P l
  all_left P [] m all = tt
  all_left P (x ∷ l) m all = (all.0, all_left P l m all.1)

  all_right : (P : A → Type 0) (l m : List A) → All P (l ++ m) → All P m
  all_right P [] m all = all
  all_right P (x ∷ l) m all = all_right P l m all.1

  pub all_weaker : (P R : A → Type 0) (l : List A) → ((x : A) → P x → R x) → All P l → All R l
  all_weaker P R [] each pl = tt
  all_weaker P R (x ∷ l) each pl = (each x pl.0, all_weaker P R l each pl.1)

  pub all_at : (P : A → Type 0) (l : List A) (i : ℕ) (d : A) → i < length l → All P l → P (get_or l i d)
  all_at P [] i d h pl = absurd (omega arith)
  all_at P (x ∷ l) zero d h pl = pl.0
  all_at P (x ∷ l) (suc i) d h pl = all_at P l i d (omega arith) pl.1

  -- of each entry beside each
  pub all_pairs : (P : A → Type 0) (R : A → A → Type 0) (l : List A) → ((x y : A) → P x → P y → R x y) → All P l → All (λ x. All (R x) l) l
  all_pairs P R l each pl = all_weaker P (λ x. All (R x) l) l (λ x px. all_weaker P (R x) l (λ y py. each x y px py) pl) pl

  pub all_if : (P : A → Type 0) (b : Bool) (l : List A) → (b ≡ true → All P l) → All P (cond b l [])
  all_if P true l pl = pl refl
  all_if P false l pl = tt

  pub all_listed : (P : A → Type 0) (g : ℕ → List A) (k i : ℕ) → ((m : ℕ) → i ≤ m → m < i + k → All P (g m)) → All P (listed g k i)
  unfolding listed
  all_listed P g zero i each = tt
  all_listed P g (suc k) i each =
      all_append P (g i) (listed g k (suc i)) (each i (omega arith) (omega arith)) (all_listed P g k (suc i) (λ m a b. each m (omega arith) (omega arith)))

  pub all_listed_part : (P : A → Type 0) (g : ℕ → List A) (m k i : ℕ) → i ≤ m → m < i + k → All P (listed g k i) → All P (g m)
  unfolding listed
  all_listed_part P g m zero i a b all = absurd (omega arith)
  all_listed_part P g m (suc k) i a b all =
      ⊎_elim
      (λ (e : i ≡ m). subst (λ p. All P (g p)) e (all_left P (g i) (listed g k (suc i)) all))
      (λ (ne : i ≡ m → ⊥). let l : suc i ≤ m = omega arith in
      all_listed_part P g m k (suc i) l (omega arith) (all_right P (g i) (listed g k (suc i)) all))
      (cases_eq i m)

  module _ (w : A → ℕ) where
    pub sum_none : (l : List A) → All (λ x. w x ≡ 0) l → sum_by w l ≡ 0
    sum_none [] none = refl
    sum_none (x ∷ l) none = sum_by-cons w x l ∙ ap₂ (λ (m n : ℕ). m + n) none.0 (sum_none l none.1)

    sum_listed_none : (g : ℕ → List A) (k i : ℕ) → ((p : ℕ) → i ≤ p → p < i + k → sum_by w (g p) ≡ 0) → sum_by w (listed g k i) ≡ 0
    unfolding listed
    sum_listed_none g zero i none = refl
    sum_listed_none g (suc k) i none =
        sum_by-append w (g i) (listed g k (suc i))
        ∙ ap₂ (λ (m n : ℕ). m + n) (none i (omega arith) (omega arith)) (sum_listed_none g k (suc i) (λ p a b. none p (omega arith) (omega arith)))

    -- all parts but one give nothing
    pub sum_listed_only : (g : ℕ → List A) (m k i : ℕ) → i ≤ m → m < i + k → ((p : ℕ) → i ≤ p → p < i + k → (p ≡ m → ⊥) → sum_by w (g p) ≡ 0) → sum_by w (listed g k i) ≡ sum_by w (g m)
    unfolding listed
    sum_listed_only g m zero i a b none = absurd (omega arith)
    sum_listed_only g m (suc k) i a b none =
        sum_by-append w (g i) (listed g k (suc i))
        ∙ ⊎_elim
        (λ (e : i ≡ m). omega (arith, ap (λ p. sum_by w (g p)) e, sum_listed_none g k (suc i) (λ p s t. none p (omega arith) (omega arith) (λ same. omega arith))))
        (λ (ne : i ≡ m → ⊥). let l : suc i ≤ m = omega arith in
        omega (arith, none i (omega arith) (omega arith) ne, sum_listed_only g m k (suc i) l (omega arith) (λ p s t. none p (omega arith) (omega arith))))
        (cases_eq i m)
