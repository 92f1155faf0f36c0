-- Box lists: no box begins or ends where a skip passes.
use Rattle.std.proofs.Common.{◌≡◌, ℕ, zero, suc, ◌+◌, ◌-◌, ◌<◌, ◌≤◌, min, Bool, true, false, cond, ◌&&◌, ◌||◌, ltb, ◌⊎◌, List, [], ◌∷◌, length, get_or, drop, sym, refl, ap, ◌∙◌, subst, ap₂, inl, inr, ⊎_elim, arith}
use Rattle.std.proofs.lemmas.List.{drop_all, drop_more}
use Rattle.std.proofs.lemmas.Bool.{cases_lt, cond_both, cond-false, cond-true, eq-eqb, ne_eqb, or_from, or_left, or_right, le-leb, lt-leb, le-ltb, lt-ltb, ltb-true, ltb-false}
use Rattle.geometry.specs.Cuboids.{in_box, lowers, uppers, within}
use Rattle.geometry.specs.declared.axis.Axis.{Axis}
use Rattle.geometry.specs.declared.axis.Axis.TheVariants.{X, Y, Z}
use Rattle.geometry.specs.declared.cuboid.Cuboid.{Cuboid}
use Rattle.body.specs.Grids.{first}
use Rattle.body.specs.Solids.{Skips, section}
use Rattle.layers.specs.Boxes.{bounds_at, boxed, boxed_skip, nearer, next_bound, some_box}
use Rattle.layers.proofs.Framing.{Good, framed_skips}

-- the nearer plane is past p where `far` is, at most `far`, and does not pass n
nearer_later : (p far n : ℕ) → p < far → p < nearer p far n
nearer_later p far n h = cond_both (ltb p n) (min far n) far (λ x. p < x) (λ e. omega (arith, ltb-true p n e)) (λ _. h)

nearer_within : (p far n : ℕ) → nearer p far n ≤ far
nearer_within p far n = cond_both (ltb p n) (min far n) far (λ x. x ≤ far) (λ _. omega arith) (λ _. omega arith)

nearer_before : (p far n : ℕ) → (n ≤ p) ⊎ (nearer p far n ≤ n)
nearer_before p far n = cond_both (ltb p n) (min far n) far (λ x. (n ≤ p) ⊎ (x ≤ n)) (λ _. inr (omega arith)) (λ e. inl (ltb-false p n e))

nearer_past : (p far n : ℕ) → far ≤ p → nearer p far n ≡ far
nearer_past p far n h = cond_both (ltb p n) (min far n) far (λ x. x ≡ far) (λ e. omega (arith, ltb-true p n e)) (λ _. refl)

module _ (a : Axis) (p : ℕ) where
  bound_later : (l : List Cuboid) (far : ℕ) → p < far → p < next_bound a p l far
  bound_later [] far h = h
  bound_later (b ∷ l) far h = bound_later l _ (nearer_later p _ (uppers b a) (nearer_later p far (lowers b a) h))

  bound_within : (l : List Cuboid) (far : ℕ) → next_bound a p l far ≤ far
  bound_within [] far = omega arith
  bound_within (b ∷ l) far = omega (arith, bound_within l (nearer p (nearer p far (lowers b a)) (uppers b a)), nearer_within p (nearer p far (lowers b a)) (uppers b a), nearer_within p far (lowers b a))

  bound_past : (l : List Cuboid) (far : ℕ) → far ≤ p → next_bound a p l far ≡ far
  bound_past [] far h = refl
  bound_past (b ∷ l) far h =
      let e = nearer_past p far (lowers b a) h in
      let f = nearer_past p (nearer p far (lowers b a)) (uppers b a) (omega arith) ∙ e in
      bound_past l _ (omega arith) ∙ f

  -- a box that neither begins nor ends past p and up to n holds n where it holds p
  same_within : (b : Cuboid) (n : ℕ) → p ≤ n → (lowers b a ≤ p) ⊎ (n < lowers b a) → (uppers b a ≤ p) ⊎ (n < uppers b a) → within b a n ≡ within b a p
  same_within b n h low high =
      ap₂ ◌&&◌
      (⊎_elim (λ l. le-leb _ n (omega arith) ∙ sym (le-leb _ p l)) (λ l. lt-leb _ n l ∙ sym (lt-leb _ p (omega arith))) low)
      (⊎_elim (λ l. le-ltb n _ (omega arith) ∙ sym (le-ltb p _ l)) (λ l. lt-ltb n _ l ∙ sym (lt-ltb p _ (omega arith))) high)

box_section : (b : Cuboid) (a : Axis) (n p u v : ℕ) → within b a n ≡ within b a p → section a (in_box b) n u v ≡ section a (in_box b) p u v
box_section b X n p u v e = ap (λ t. (t && within b Y u) && within b Z v) e
box_section b Y n p u v e = ap (λ t. (within b X v && t) && within b Z u) e
box_section b Z n p u v e = ap (λ t. (within b X u && within b Y v) && t) e

section_cons : (b : Cuboid) (l : List Cuboid) (a : Axis) (n u v : ℕ) → section a (some_box (b ∷ l)) n u v ≡ (section a (in_box b) n u v || section a (some_box l) n u v)
section_cons b l X n u v = refl
section_cons b l Y n u v = refl
section_cons b l Z n u v = refl

section_nil : (a : Axis) (n u v : ℕ) → section a (some_box []) n u v ≡ false
section_nil X n u v = refl
section_nil Y n u v = refl
section_nil Z n u v = refl

-- the sections of the boxes are equal up to the next bound
bound_section : (a : Axis) (p : ℕ) (l : List Cuboid) (far n u v : ℕ) → p ≤ n → n < next_bound a p l far → section a (some_box l) n u v ≡ section a (some_box l) p u v
bound_section a p [] far n u v h k = section_nil a n u v ∙ sym (section_nil a p u v)
bound_section a p (b ∷ l) far n u v h k =
    let near = nearer p far (lowers b a) in
    let both = nearer p near (uppers b a) in
    let below : n < both = omega (arith, bound_within a p l both) in
    let below-near : n < near = omega (arith, nearer_within p near (uppers b a)) in
    let low : (lowers b a ≤ p) ⊎ (n < lowers b a) = ⊎_elim inl (λ x. inr (omega arith)) (nearer_before p far (lowers b a)) in
    let high : (uppers b a ≤ p) ⊎ (n < uppers b a) = ⊎_elim inl (λ x. inr (omega arith)) (nearer_before p near (uppers b a)) in
    section_cons b l a n u v
    ∙ ap₂ ◌||◌ (box_section b a n p u v (same_within a p b n h low high)) (bound_section a p l both n u v h k)
    ∙ sym (section_cons b l a p u v)

bound_lawful : (s : Axis → ℕ) (boxes : List Cuboid) (a : Axis) (p : ℕ) → Skips (boxed s boxes) a p (next_bound a p boxes (s a))
bound_lawful s boxes a p =
    framed_skips s (some_box boxes) a p (next_bound a p boxes (s a))
    (λ h. (bound_later a p boxes (s a) h, bound_within a p boxes (s a)))
    (bound_past a p boxes (s a))
    (λ _ n u v l r. bound_section a p boxes (s a) n u v l r)

-- The pass over the boxes finds the first plane at which one begins or ends.
first_is : (Q : ℕ → Bool) (k i q : ℕ) → i ≤ q → q ≤ i + k → ((n : ℕ) → i ≤ n → n < q → Q n ≡ false) → (q ≡ i + k) ⊎ (Q q ≡ true) → first Q k i ≡ q
first_is Q zero i q from to none end = omega arith
first_is Q (suc k) i q from to none end =
    ⊎_elim
    (λ (h : i < q). cond-false _ _ _ (none i (omega arith) h) ∙ first_is Q k (suc i) q (omega arith) (omega arith) (λ n l r. none n (omega arith) r) (⊎_elim (λ (e : q ≡ i + suc k). inl (omega arith)) inr end))
    (λ (h : q ≤ i).
    let here : q ≡ i = omega arith in
    ⊎_elim (λ (e : q ≡ i + suc k). absurd (omega arith)) (λ e. cond-true _ _ _ (ap Q (sym here) ∙ e) ∙ sym here) end)
    (cases_lt i q)

nearer_is : (p far n : ℕ) → (nearer p far n ≡ far) ⊎ (nearer p far n ≡ n)
nearer_is p far n =
    cond_both (ltb p n) (min far n) far (λ x. (x ≡ far) ⊎ (x ≡ n))
    (λ _. ⊎_elim (λ (h : far < n). inl (omega arith)) (λ (h : n ≤ far). inr (omega arith)) (cases_lt far n))
    (λ _. inl refl)

module _ (a : Axis) (p : ℕ) where
  none_between : (l : List Cuboid) (far n : ℕ) → p < n → n < next_bound a p l far → bounds_at a l n ≡ false
  none_between [] far n h k = refl
  none_between (b ∷ l) far n h k =
      let near = nearer p far (lowers b a) in
      let both = nearer p near (uppers b a) in
      let below : n < both = omega (arith, bound_within a p l both) in
      let below-near : n < near = omega (arith, nearer_within p near (uppers b a)) in
      or_from _ _
      (or_from _ _
      (ne_eqb n (lowers b a) (λ (e : n ≡ lowers b a). ⊎_elim (λ x. omega arith) (λ x. omega arith) (nearer_before p far (lowers b a))))
      (ne_eqb n (uppers b a) (λ (e : n ≡ uppers b a). ⊎_elim (λ x. omega arith) (λ x. omega arith) (nearer_before p near (uppers b a)))))
      (none_between l both n h k)

  far_or_bound : (l : List Cuboid) (far : ℕ) → (next_bound a p l far ≡ far) ⊎ (bounds_at a l (next_bound a p l far) ≡ true)
  far_or_bound [] far = inl refl
  far_or_bound (b ∷ l) far =
      let near = nearer p far (lowers b a) in
      let both = nearer p near (uppers b a) in
      let q = next_bound a p l both in
      ⊎_elim
      (λ (e : q ≡ both).
      ⊎_elim
      (λ (f : both ≡ near).
      ⊎_elim (λ (g : near ≡ far). inl (e ∙ f ∙ g)) (λ (g : near ≡ lowers b a). inr (or_left _ _ (or_left _ _ (eq-eqb q (lowers b a) (e ∙ f ∙ g))))) (nearer_is p far (lowers b a)))
      (λ (f : both ≡ uppers b a). inr (or_left _ _ (or_right _ _ (eq-eqb q (uppers b a) (e ∙ f)))))
      (nearer_is p near (uppers b a)))
      (λ e. inr (or_right _ _ e))
      (far_or_bound l both)

  first_bound : (boxes : List Cuboid) (side : ℕ) → next_bound a p boxes side ≡ cond (ltb p side) (first (bounds_at a boxes) (side - (p + 1)) (p + 1)) side
  first_bound boxes side =
      ⊎_elim
      (λ (h : p < side).
      let later = bound_later a p boxes side h in
      let within = bound_within a p boxes side in
      sym (cond-true _ _ _ (lt-ltb p side h)
      ∙ first_is (bounds_at a boxes) (side - (p + 1)) (p + 1) (next_bound a p boxes side) (omega arith) (omega arith)
      (λ n l r. none_between boxes side n (omega arith) r)
      (⊎_elim (λ (e : next_bound a p boxes side ≡ side). inl (omega arith)) inr (far_or_bound boxes side))))
      (λ (h : side ≤ p). bound_past a p boxes side h ∙ sym (cond-false _ _ _ (le-ltb p side h)))
      (cases_lt p side)

pub boxed_good : (s : Axis → ℕ) (boxes : List Cuboid) (a : Axis) (p side q : ℕ) → side ≡ s a → q ≡ next_bound a p boxes side → Good (boxed s boxes) (boxed_skip s boxes) a p q
boxed_good s boxes a p side q same is =
    let found = is ∙ ap (next_bound a p boxes) same in
    record { value = found ∙ first_bound a p boxes (s a); lawful = subst (Skips (boxed s boxes) a p) (sym found) (bound_lawful s boxes a p) }

-- The boxes from place i on, at a turn of a loop and at its end.
module _ (boxes : List Cuboid) (i : ℕ) where
  pub bound_more : (a : Axis) (p far e near next : ℕ) (d : Cuboid) (r : ℕ × ℕ) → i < length boxes → r ≡ (lowers (get_or boxes i d) a, uppers (get_or boxes i d) a)
      → near ≡ nearer p far r.0 → next ≡ nearer p near r.1 → next_bound a p (drop i boxes) far ≡ e → next_bound a p (drop (i + 1) boxes) next ≡ e
  bound_more a p far e near next d r h bounds low high is =
      ap (next_bound a p (drop (i + 1) boxes)) (high ∙ ap (λ (n : ℕ). nearer p n r.1) low ∙ ap (λ (t : ℕ × ℕ). nearer p (nearer p far t.0) t.1) bounds)
      ∙ sym (ap (λ l. next_bound a p l far) (drop_more boxes i d h))
      ∙ is

  pub bound_all : (a : Axis) (p far e : ℕ) → length boxes ≤ i → next_bound a p (drop i boxes) far ≡ e → far ≡ e
  bound_all a p far e h is = sym (ap (λ l. next_bound a p l far) (drop_all i boxes h)) ∙ is
