-- Lists that come in parts: parts that are empty can be passed over.
use Rattle.std.proofs.Common.{◌≡◌, ℕ, zero, suc, ◌+◌, ◌-◌, ◌<◌, ◌≤◌, List, [], ◌++◌, map, sym, refl, ap, ◌∙◌, add-zero, suc-add, arith}
use Rattle.std.proofs.lemmas.List.{map-append}
use Rattle.tables.specs.Tables.{listed}

module _ {A : Type 0} (f : ℕ → List A) where
  pub listed_none : (i : ℕ) → listed f zero i ≡ []
  unfolding listed
  listed_none i = refl

  pub listed_first : (k i : ℕ) → listed f (suc k) i ≡ f i ++ listed f k (suc i)
  unfolding listed
  listed_first k i = refl

  -- d empty parts at the front
  pub listed_past : (d k i : ℕ) → ((n : ℕ) → i ≤ n → n < i + d → f n ≡ []) → listed f (d + k) i ≡ listed f k (i + d)
  unfolding listed
  listed_past zero k i none = rw (add-zero i) (ap (λ m. listed f m i) (omega arith))
  listed_past (suc d) k i none =
      let here : f i ≡ [] = none i (omega arith) (omega arith) in
      let rest = listed_past d k (suc i) (λ n a b. none n (omega arith) (omega arith)) in
      ap (λ m. listed f m i) (suc-add d k) ∙ ap (λ l. l ++ listed f (d + k) (suc i)) here ∙ rest ∙ ap (listed f k) (omega arith)

  -- from plane i to plane j, where the parts strictly between are empty
  pub listed_jump : (n i j : ℕ) → i < j → j ≤ n → ((m : ℕ) → i < m → m < j → f m ≡ []) → listed f (n - i) i ≡ f i ++ listed f (n - j) j
  listed_jump n i j i<j j≤n none =
      ap (λ m. listed f m i) (omega arith) ∙ listed_first (n - suc i) i ∙ ap (λ l. f i ++ l) (ap (λ m. listed f m (suc i)) (omega arith) ∙ listed_past (j - suc i) (n - j) (suc i) (λ m a b. none m a (omega arith)) ∙ ap (listed f (n - j)) (omega arith))

  -- parts that are all empty
  pub listed_empty : (k i : ℕ) → ((n : ℕ) → f n ≡ []) → listed f k i ≡ []
  unfolding listed
  listed_empty zero i none = refl
  listed_empty (suc k) i none = ap (λ l. l ++ listed f k (suc i)) (none i) ∙ listed_empty k (suc i) none

-- a function of the entries
pub listed_map : {A B : Type 0} (r : A → B) (f : ℕ → List A) (k i : ℕ) → listed (λ n. map r (f n)) k i ≡ map r (listed f k i)
unfolding listed
listed_map r f zero i = refl
listed_map r f (suc k) i = ap (λ l. map r (f i) ++ l) (listed_map r f k (suc i)) ∙ sym (map-append r (f i) (listed f k (suc i)))
