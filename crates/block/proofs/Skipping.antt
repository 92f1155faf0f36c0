-- The skips of a corner list are lawful.
use Rattle.std.proofs.Common.{◌≡◌, ℕ, ◌<◌, ◌≤◌, min, Bool, true, cond, ◌&&◌, ltb, leb, ◌⊎◌, List, [], ◌∷◌, sym, refl, ap, ◌∙◌, inl, inr, ⊎_elim, arith}
use mathlib.Core.Bool.{and-true}
use Rattle.std.proofs.lemmas.Bool.{cases_lt, cond-false, cond-true, le-leb, le-ltb, lt-leb, lt-ltb}
use Rattle.geometry.specs.declared.axis.Axis.{Axis}
use Rattle.geometry.specs.declared.axis.Axis.TheVariants.{X, Y, Z}
use Rattle.geometry.specs.declared.frame.Point.{Point}
use Rattle.body.specs.Solids.{Skips, section}
use Rattle.body.proofs.Order.{all_map}
use Rattle.body.specs.Corners.{All, at_or_below, parity}
use Rattle.block.specs.Lists.{cells_of}
use Rattle.block.specs.Skips.{along, list_skip, next_plane}
use Rattle.block.proofs.Exact.{parity_same}

module _ (a : Axis) (p : ℕ) where
  -- a point lies in no plane strictly between p and q
  Clear : ℕ → Point → Type 0
  Clear q r = (along a r ≤ p) ⊎ (q ≤ along a r)

  step : Point → ℕ → ℕ
  step r side = cond (ltb p (along a r)) (min side (along a r)) side

  stepped : (r : Point) (side : ℕ) → (step r side ≤ side) × (p < side → p < step r side) × Clear (step r side) r
  unfolding Clear step
  stepped r side =
      ⊎_elim
      (λ (h : p < along a r).
      let e = cond-true (ltb p (along a r)) (min side (along a r)) side (lt-ltb p (along a r) h) in
      (omega (arith, e), (λ b. omega (arith, e)), inr (omega (arith, e))))
      (λ (h : along a r ≤ p).
      let e = cond-false (ltb p (along a r)) (min side (along a r)) side (le-ltb p (along a r) h) in
      (omega (arith, e), (λ b. omega (arith, e)), inl h))
      (cases_lt p (along a r))

  next_le : (l : List Point) (side : ℕ) → next_plane a p l side ≤ side
  unfolding step
  next_le [] side = omega arith
  next_le (r ∷ l) side = omega (arith, next_le l (step r side), (stepped r side).0)

  next_past : (l : List Point) (side : ℕ) → p < side → p < next_plane a p l side
  unfolding step
  next_past [] side h = h
  next_past (r ∷ l) side h = next_past l (step r side) ((stepped r side).1 h)

  clear_less : (q s : ℕ) (r : Point) → q ≤ s → Clear s r → Clear q r
  unfolding Clear
  clear_less q s r h (inl k) = inl k
  clear_less q s r h (inr k) = inr (omega arith)

  next_clear : (l : List Point) (side : ℕ) → All (Clear (next_plane a p l side)) l
  unfolding step
  next_clear [] side = tt
  next_clear (r ∷ l) side = (clear_less _ (step r side) r (next_le l (step r side)) (stepped r side).2, next_clear l (step r side))

  -- so all planes from p up to the next are alike to its points
  same_leb : (q n : ℕ) (r : Point) → p ≤ n → n < q → Clear q r → leb (along a r) n ≡ leb (along a r) p
  unfolding Clear
  same_leb q n r h k (inl c) = le-leb (along a r) n (omega arith) ∙ sym (le-leb (along a r) p c)
  same_leb q n r h k (inr c) = lt-leb (along a r) n (omega arith) ∙ sym (lt-leb (along a r) p (omega arith))

  -- the parity of the points at or below a cell, by its plane and the other two coordinates
  same_at : (q n u v : ℕ) (r : Point) → p ≤ n → n < q → Clear q r → section a (λ i j k. at_or_below i j k r) n u v ≡ section a (λ i j k. at_or_below i j k r) p u v
  same_at q n u v r h k c = go a (same_leb q n r h k c)
    where
      go : (b : Axis) → leb (along b r) n ≡ leb (along b r) p → section b (λ i j k. at_or_below i j k r) n u v ≡ section b (λ i j k. at_or_below i j k r) p u v
      go X e = ap (λ t. leb r.z v && (leb r.y u && t)) e
      go Y e = ap (λ t. leb r.z u && (t && leb r.x v)) e
      go Z e = ap (λ t. t && (leb r.y v && leb r.x u)) e

-- the section of a list's cells: in the frame along its axis and the others, and of odd parity
within : (Axis → ℕ) → Axis → ℕ → ℕ → Bool
within s X u v = ltb u (s Y) && ltb v (s Z)
within s Y u v = ltb v (s X) && ltb u (s Z)
within s Z u v = ltb u (s X) && ltb v (s Y)

section_is : (s : Axis → ℕ) (l : List Point) (a : Axis) (n u v : ℕ) → ltb n (s a) ≡ true → section a (cells_of s l).holds n u v ≡ (within s a u v && parity (λ r. section a (λ i j k. at_or_below i j k r) n u v) l)
unfolding cells_of within
section_is s l X n u v h = ap (λ b. (b && (ltb u (s Y) && ltb v (s Z))) && parity (at_or_below n u v) l) h
section_is s l Y n u v h = ap (λ b. (ltb v (s X) && (b && ltb u (s Z))) && parity (at_or_below v n u) l) h
section_is s l Z n u v h = ap (λ b. (ltb u (s X) && b) && parity (at_or_below u v n) l) (ap (λ b. ltb v (s Y) && b) h ∙ and-true (ltb v (s Y)))

module _ (s : Axis → ℕ) (l : List Point) (a : Axis) (p : ℕ) where
  pub skip_within : p < s a → list_skip s l a p ≡ next_plane a p l (s a)
  unfolding list_skip
  skip_within h = cond-true (ltb p (s a)) _ _ (lt-ltb p (s a) h)

  pub skip_past : s a ≤ p → list_skip s l a p ≡ s a
  unfolding list_skip
  skip_past h = cond-false (ltb p (s a)) _ _ (le-ltb p (s a) h)

  same_section : p < s a → (n u v : ℕ) → p ≤ n → n < next_plane a p l (s a) → section a (cells_of s l).holds n u v ≡ section a (cells_of s l).holds p u v
  same_section h n u v k b =
      let below : n < s a = omega (arith, next_le a p l (s a)) in
      section_is s l a n u v (lt-ltb n (s a) below)
      ∙ ap (λ t. within s a u v && t) (parity_same _ _ l (all_map _ _ l (λ r. same_at a p (next_plane a p l (s a)) n u v r k b) (next_clear a p l (s a))))
      ∙ sym (section_is s l a p u v (lt-ltb p (s a) h))

  sides_are : (cells_of s l).side a ≡ s a
  unfolding cells_of
  sides_are = refl

  pub skip_lawful : (q : ℕ) → q ≡ list_skip s l a p → Skips (cells_of s l) a p q
  skip_lawful q is =
      record {
        inside = λ h. let e = is ∙ skip_within (omega (arith, sides_are)) in (omega (arith, e, next_past a p l (s a) (omega (arith, sides_are))), omega (arith, e, sides_are, next_le a p l (s a)));
        past = λ h. is ∙ skip_past (omega (arith, sides_are)) ∙ sym sides_are;
        equal = λ n u v k b. equal n u v k b (cases_lt p (s a));
      }
    where
      equal : (n u v : ℕ) → p ≤ n → n < q → (p < s a) ⊎ (s a ≤ p) → section a (cells_of s l).holds n u v ≡ section a (cells_of s l).holds p u v
      equal n u v k b (inl h) = same_section h n u v k (omega (arith, is ∙ skip_within h))
      equal n u v k b (inr h) = absurd (omega (arith, is ∙ skip_past h))
