-- Lawful skips: what they leave to later planes, and tables of them.
use Rattle.std.proofs.Common.{◌≡◌, ℕ, ◌+◌, ◌<◌, ◌≤◌, List, length, get_or, set, sym, ◌∙◌, subst, ⊎_elim, arith, get_or-set_other, get_or-set_same}
use Rattle.std.proofs.lemmas.Bool.{cases_eq}
use Rattle.geometry.specs.declared.axis.Axis.{Axis}
use Rattle.body.specs.Solids.{Solid, Skips}
use Rattle.body.specs.Indexes.{IndexedTo}

module _ (m : Solid) (a : Axis) where
  -- a skip serves every plane that it passes over
  pub skips_later : (p n q : ℕ) → p ≤ n → n < q → p < m.side a → Skips m a p q → Skips m a n q
  skips_later p n q p≤n n<q below s =
      record {
        inside = λ _. (n<q, (s.inside below).1);
        past = λ h. omega (arith, (s.inside below).1);
        equal = λ k u v n≤k k<q. s.equal k u v (omega arith) k<q ∙ sym (s.equal n u v p≤n n<q);
      }

  -- one more entry of a table of skips
  pub indexed_more : (n q : ℕ) (next : List ℕ) → n < length next → IndexedTo m a n next → Skips m a n q → IndexedTo m a (n + 1) (set next n q)
  indexed_more n q next room before here p p<n =
      ⊎_elim
      (λ (e : p ≡ n). subst (λ k. Skips m a k (get_or (set next n q) k 0)) (sym e) (subst (λ r. Skips m a n r) (sym (get_or-set_same next n q 0 room)) here))
      (λ (ne : p ≡ n → ⊥). subst (λ r. Skips m a p r) (sym (get_or-set_other next n p q 0 ne)) (before p (omega (arith, ne))))
      (cases_eq p n)
