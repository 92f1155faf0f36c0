-- Solids within a frame, and the skips of layers that keep the coordinates of cells.
use Rattle.std.proofs.Common.{◌≡◌, ℕ, ◌<◌, ◌≤◌, min, Bool, false, not, ◌&&◌, ltb, sym, refl, ap, ◌∙◌, subst, ap₂, ⊎_elim, arith}
use Rattle.std.proofs.lemmas.Bool.{and_left, and_right, cases_lt, cond-false, cond-true, le-ltb, lt-ltb}
use Rattle.geometry.specs.declared.axis.Axis.{Axis}
use Rattle.geometry.specs.declared.axis.Axis.TheVariants.{X, Y, Z}
use Rattle.body.specs.Solids.{Inside, Skips, Solid, section}
use Rattle.layers.specs.declared.join.Join.{Join}
use Rattle.layers.specs.Layers.{complement, framed, join_of, joined, joined_skip}

-- within the side, the sections of a framed solid are equal where those of g are
framed_section : (s : Axis → ℕ) (g : ℕ → ℕ → ℕ → Bool) (a : Axis) (n p u v : ℕ) → n < s a → p < s a
    → section a g n u v ≡ section a g p u v → section a (framed s g).holds n u v ≡ section a (framed s g).holds p u v
framed_section s g X n p u v hn hp e = ap₂ ◌&&◌ (ap (λ b. b && (ltb u (s Y) && ltb v (s Z))) (lt-ltb n (s X) hn ∙ sym (lt-ltb p (s X) hp))) e
framed_section s g Y n p u v hn hp e = ap₂ ◌&&◌ (ap (λ b. ltb v (s X) && (b && ltb u (s Z))) (lt-ltb n (s Y) hn ∙ sym (lt-ltb p (s Y) hp))) e
framed_section s g Z n p u v hn hp e = ap₂ ◌&&◌ (ap (λ b. ltb u (s X) && (ltb v (s Y) && b)) (lt-ltb n (s Z) hn ∙ sym (lt-ltb p (s Z) hp))) e

-- a skip of a framed solid is lawful where it keeps to the side and g does not change on the way
pub framed_skips : (s : Axis → ℕ) (g : ℕ → ℕ → ℕ → Bool) (a : Axis) (p q : ℕ)
    → (p < s a → (p < q) × (q ≤ s a)) → (s a ≤ p → q ≡ s a)
    → (p < s a → (n u v : ℕ) → p ≤ n → n < q → section a g n u v ≡ section a g p u v)
    → Skips (framed s g) a p q
framed_skips s g a p q inside past equal =
    record {
      inside = inside;
      past = past;
      equal = λ n u v p≤n n<q.
          ⊎_elim
          (λ (h : p < s a). framed_section s g a n p u v (omega (arith, (inside h).1)) h (equal h n u v p≤n n<q))
          (λ (h : s a ≤ p). absurd (omega (arith, past h)))
          (cases_lt p (s a));
    }

-- past the side there is nothing
pub section_outside : (m : Solid) → Inside m → (a : Axis) (n u v : ℕ) → m.side a ≤ n → section a m.holds n u v ≡ false
section_outside m inside X n u v h = inside n u v (and_left _ _ (le-ltb n (m.side X) h))
section_outside m inside Y n u v h = inside v n u (and_right _ _ (and_left _ _ (le-ltb n (m.side Y) h)))
section_outside m inside Z n u v h = inside u v n (and_right (ltb u (m.side X)) _ (and_right (ltb v (m.side Y)) _ (le-ltb n (m.side Z) h)))

section_not : (h : ℕ → ℕ → ℕ → Bool) (a : Axis) (n u v : ℕ) → section a (λ i j k. not (h i j k)) n u v ≡ not (section a h n u v)
section_not h X n u v = refl
section_not h Y n u v = refl
section_not h Z n u v = refl

-- q is the skip that f gives from plane p, and it is lawful
pub record Good (m : Solid) (f : Axis → ℕ → ℕ) (a : Axis) (p q : ℕ) : Type 0 where
  pub value : q ≡ f a p
  pub lawful : Skips m a p q

pub complement_good : (m : Solid) (f : Axis → ℕ → ℕ) (a : Axis) (p q : ℕ) → Good m f a p q → Good (complement m) f a p q
complement_good m f a p q good =
    let s = good.lawful in
    record {
      value = good.value;
      lawful =
          framed_skips m.side (λ i j k. not (m.holds i j k)) a p q s.inside s.past
          (λ _ n u v l r. section_not m.holds a n u v ∙ ap not (s.equal n u v l r) ∙ sym (section_not m.holds a p u v));
    }

section_join : (o : Join) (h k : ℕ → ℕ → ℕ → Bool) (a : Axis) (n u v : ℕ) → section a (λ x y z. join_of o (h x y z) (k x y z)) n u v ≡ join_of o (section a h n u v) (section a k n u v)
section_join o h k X n u v = refl
section_join o h k Y n u v = refl
section_join o h k Z n u v = refl

module _ (o : Join) (m n : Solid) (a : Axis) (p : ℕ) where
  join_section : (i u v : ℕ) → section a m.holds i u v ≡ section a m.holds p u v → section a n.holds i u v ≡ section a n.holds p u v
      → section a (λ x y z. join_of o (m.holds x y z) (n.holds x y z)) i u v ≡ section a (λ x y z. join_of o (m.holds x y z) (n.holds x y z)) p u v
  join_section i u v e f = section_join o m.holds n.holds a i u v ∙ ap₂ (join_of o) e f ∙ sym (section_join o m.holds n.holds a p u v)

  joined_near : (q r : ℕ) → p < n.side a → Skips m a p q → Skips n a p r → Skips (joined o m n) a p (min q r)
  joined_near q r h s t =
      let later = t.inside h in
      framed_skips m.side _ a p (min q r)
      (λ l. (omega (arith, (s.inside l).0, later.0), omega (arith, (s.inside l).1)))
      (λ l. omega (arith, s.past l, later.0))
      (λ _ i u v l b. join_section i u v (s.equal i u v l (omega arith)) (t.equal i u v l (omega arith)))

  joined_far : (q : ℕ) → Inside n → n.side a ≤ p → Skips m a p q → Skips (joined o m n) a p q
  joined_far q inside h s =
      framed_skips m.side _ a p q s.inside s.past
      (λ _ i u v l b. join_section i u v (s.equal i u v l b) (section_outside n inside a i u v (omega arith) ∙ sym (section_outside n inside a p u v h)))

  -- the nearer of two skips serves both, and where the second has ended, the first alone does
  module _ (f g : Axis → ℕ → ℕ) (side : ℕ) (same : side ≡ n.side a) where
    pub joined_both : (q r t : ℕ) → p < side → Good m f a p q → Good n g a p r → t ≡ min q r → Good (joined o m n) (λ b i. joined_skip (n.side b) i (f b i) (g b i)) a p t
    joined_both q r t h first second is =
        let below : p < n.side a = omega arith in
        record {
          value = is ∙ ap₂ min first.value second.value ∙ sym (cond-true _ _ _ (lt-ltb p (n.side a) below));
          lawful = subst (Skips (joined o m n) a p) (sym is) (joined_near q r below first.lawful second.lawful);
        }

    pub joined_first : (q : ℕ) → side ≤ p → Inside n → Good m f a p q → Good (joined o m n) (λ b i. joined_skip (n.side b) i (f b i) (g b i)) a p q
    joined_first q h inside first =
        let past : n.side a ≤ p = omega arith in
        record { value = first.value ∙ sym (cond-false _ _ _ (le-ltb p (n.side a) past)); lawful = joined_far q inside past first.lawful }
