-- What holds of all entries of a list, as a test and as a fact.
use Rattle.std.proofs.Common.{◌≡◌, ℕ, zero, suc, ◌<◌, Bool, true, ◌&&◌, List, [], ◌∷◌, length, get_or, refl, ap₂, arith}
use Rattle.std.proofs.lemmas.Bool.{and_from, and_parts}
use Rattle.body.specs.Corners.{All}
use Rattle.std.specs.List.{list_all}

module _ {A : Type 0} where
  pub every_all : (Q : A → Bool) (l : List A) → list_all Q l ≡ true → All (λ p. Q p ≡ true) l
  every_all Q [] h = tt
  every_all Q (p ∷ l) h = let e = and_parts (Q p) (list_all Q l) h in (e.0, every_all Q l e.1)

  pub all_every : (Q : A → Bool) (l : List A) → All (λ p. Q p ≡ true) l → list_all Q l ≡ true
  all_every Q [] h = refl
  all_every Q (p ∷ l) h = and_from (Q p) (list_all Q l) h.0 (all_every Q l h.1)

  pub every_same : (P Q : A → Bool) (l : List A) → All (λ p. P p ≡ Q p) l → list_all P l ≡ list_all Q l
  every_same P Q [] same = refl
  every_same P Q (p ∷ l) same = ap₂ ◌&&◌ same.0 (every_same P Q l same.1)

  pub all_at : (P : A → Type 0) (l : List A) → All P l → (i : ℕ) (d : A) → i < length l → P (get_or l i d)
  all_at P [] h i d below = absurd (omega arith)
  all_at P (p ∷ l) h zero d below = h.0
  all_at P (p ∷ l) h (suc i) d below = all_at P l h.1 i d (omega arith)
