-- Two rising lists with the same points are equal.
use Rattle.std.proofs.Common.{◌≡◌, ℕ, ◌<◌, Bool, true, false, eqb, ◌⊎◌, List, [], ◌∷◌, sym, refl, ap, ◌∙◌, ap₂, inl, inr, ⊎_elim, arith}
use Rattle.std.proofs.lemmas.Bool.{and_from, and_left, and_right, both_ways, cases_order, eq-eqb, ne_eqb}
use Rattle.geometry.specs.declared.frame.Point.{Point}
use Rattle.body.specs.Solids.{differ}
use Rattle.body.specs.Corners.{All, Before, Rising, parity, point}
use Rattle.block.specs.Lists.{is_at}

pub same_point : (p q : Point) → p.x ≡ q.x → p.y ≡ q.y → p.z ≡ q.z → p ≡ q
same_point p q ex ey ez = ap₂ (λ (x y : ℕ). point x y p.z) ex ey ∙ ap (λ (z : ℕ). point q.x q.y z) ez

pub at_itself : (p : Point) → is_at p.x p.y p.z p ≡ true
at_itself p = and_from _ _ (eq-eqb p.z p.z refl) (and_from _ _ (eq-eqb p.y p.y refl) (eq-eqb p.x p.x refl))

-- not at an earlier point
pub not_at : (p q : Point) → Before p q → is_at p.x p.y p.z q ≡ false
not_at p q (inl h) = and_right (eqb q.z p.z) _ (and_right (eqb q.y p.y) _ (ne_eqb q.x p.x (λ e. omega arith)))
not_at p q (inr (e, inl h)) = and_right (eqb q.z p.z) _ (and_left (eqb q.y p.y) _ (ne_eqb q.y p.y (λ e. omega arith)))
not_at p q (inr (e, inr (f, h))) = and_left (eqb q.z p.z) _ (ne_eqb q.z p.z (λ e. omega arith))

pub before_before : (p q r : Point) → Before p q → Before q r → Before p r
before_before p q r (inl h) (inl k) = inl (omega arith)
before_before p q r (inl h) (inr (e, k)) = inl (omega arith)
before_before p q r (inr (d, h)) (inl k) = inl (omega arith)
before_before p q r (inr (d, inl h)) (inr (e, inl k)) = inr (d ∙ e, inl (omega arith))
before_before p q r (inr (d, inl h)) (inr (e, inr (f, k))) = inr (d ∙ e, inl (omega arith))
before_before p q r (inr (d, inr (g, h))) (inr (e, inl k)) = inr (d ∙ e, inl (omega arith))
before_before p q r (inr (d, inr (g, h))) (inr (e, inr (f, k))) = inr (d ∙ e, inr (g ∙ f, omega arith))

pub before_all : (p q : Point) (l : List Point) → Before p q → All (Before q) l → All (Before p) l
before_all p q [] h rest = tt
before_all p q (r ∷ l) h rest = (before_before p q r h rest.0, before_all p q l h rest.1)

-- two points: one comes before the other, or they are equal
pub in_order : (p q : Point) → Before p q ⊎ (Before q p ⊎ (p ≡ q))
in_order p q =
    ⊎_elim
    (λ (ex : p.x ≡ q.x).
    ⊎_elim
    (λ (ey : p.y ≡ q.y).
    ⊎_elim
    (λ (ez : p.z ≡ q.z). inr (inr (same_point p q ex ey ez)))
    (λ h. ⊎_elim (λ (l : p.z < q.z). inl (inr (ex, inr (ey, l)))) (λ (l : q.z < p.z). inr (inl (inr (sym ex, inr (sym ey, l))))) h)
    (cases_order p.z q.z))
    (λ h. ⊎_elim (λ (l : p.y < q.y). inl (inr (ex, inl l))) (λ (l : q.y < p.y). inr (inl (inr (sym ex, inl l)))) h)
    (cases_order p.y q.y))
    (λ h. ⊎_elim (λ (l : p.x < q.x). inl (inl l)) (λ (l : q.x < p.x). inr (inl (inl l))) h)
    (cases_order p.x q.x)

-- what comes after a point does not stand there; what begins with it does so once
pub none_after : (p : Point) (l : List Point) → All (Before p) l → parity (is_at p.x p.y p.z) l ≡ false
none_after p [] later = refl
none_after p (q ∷ l) later = ap₂ differ (not_at p q later.0) (none_after p l later.1)

pub once_first : (p : Point) (l : List Point) → All (Before p) l → parity (is_at p.x p.y p.z) (p ∷ l) ≡ true
once_first p l later = ap₂ differ (at_itself p) (none_after p l later)

differ_cancel : (a b c : Bool) → differ a b ≡ differ a c → b ≡ c
differ_cancel true true true e = refl
differ_cancel true true false e = sym e
differ_cancel true false true e = sym e
differ_cancel true false false e = refl
differ_cancel false b c e = e

-- points of the same parities everywhere
abbrev pub Alike : List Point → List Point → Type 0
Alike l m = (x y z : ℕ) → parity (is_at x y z) l ≡ parity (is_at x y z) m

-- a rising list has no point before its first
first_apart : (p : Point) (l m : List Point) → All (Before p) l → All (Before p) m → Alike (p ∷ l) m → ⊥
first_apart p l m later apart alike = both_ways _ (alike p.x p.y p.z ∙ none_after p m apart) (once_first p l later)

pub rising_alike : (l m : List Point) → Rising l → Rising m → Alike l m → l ≡ m
rising_alike [] [] rl rm alike = refl
rising_alike [] (q ∷ m) rl rm alike = absurd (first_apart q m [] rm.0 tt (λ x y z. sym (alike x y z)))
rising_alike (p ∷ l) [] rl rm alike = absurd (first_apart p l [] rl.0 tt alike)
rising_alike (p ∷ l) (q ∷ m) rl rm alike = go (in_order p q) (rising_alike l m rl.1 rm.1)
  where
    go : Before p q ⊎ (Before q p ⊎ (p ≡ q)) → (Alike l m → l ≡ m) → ◌≡◌ {A = List Point} (p ∷ l) (q ∷ m)
    go (inl h) rest = absurd (first_apart p l (q ∷ m) rl.0 (h, before_all p q m h rm.0) alike)
    go (inr (inl h)) rest = absurd (first_apart q m (p ∷ l) rm.0 (h, before_all q p l h rl.0) (λ x y z. sym (alike x y z)))
    go (inr (inr e)) rest =
        ap₂ {C = List Point} (λ r k. r ∷ k) e (rest (λ x y z. differ_cancel (is_at x y z p) _ _ (alike x y z ∙ ap (λ r. differ (is_at x y z r) (parity (is_at x y z) m)) (sym e))))
