-- The skips of a grid are lawful.
use Rattle.std.proofs.Common.{◌≡◌, ℕ, zero, suc, ◌+◌, ◌-◌, ◌<◌, ◌≤◌, Bool, true, false, sym, refl, ap, ◌∙◌, subst, ⊎_elim, add-zero, arith}
use Rattle.std.proofs.lemmas.Bool.{lt-ltb, le-ltb, cond-true, cond-false, cases_lt, and_left, and_right}
use Rattle.geometry.specs.Frames.{in_frame}
use Rattle.geometry.specs.declared.axis.Axis.{Axis}
use Rattle.geometry.specs.declared.axis.Axis.TheVariants.{X, Y, Z}
use Rattle.body.specs.Solids.{Solid, Inside, Skips, section, differ}
use Rattle.body.specs.Grids.{first, row_changes, grid_skip}
use Rattle.body.proofs.GridSearch.{search_found, some_none}

-- from a plane past the side, and from one below it along each axis
pub skip_past : (m : Solid) (a : Axis) (p : ℕ) → m.side a ≤ p → grid_skip m a p ≡ m.side a
unfolding grid_skip
skip_past m X p h = cond-false _ _ _ (le-ltb p (m.side X) h)
skip_past m Y p h = cond-false _ _ _ (le-ltb p (m.side Y) h)
skip_past m Z p h = cond-false _ _ _ (le-ltb p (m.side Z) h)

pub skip_x : (m : Solid) (p : ℕ) → p < m.side X → grid_skip m X p ≡ p + 1
unfolding grid_skip
skip_x m p h = cond-true _ _ _ (lt-ltb p (m.side X) h)

pub skip_y : (m : Solid) (p : ℕ) → p < m.side Y → grid_skip m Y p ≡ p + 1
unfolding grid_skip
skip_y m p h = cond-true _ _ _ (lt-ltb p (m.side Y) h)

pub skip_z : (m : Solid) (p : ℕ) → p < m.side Z → grid_skip m Z p ≡ first (row_changes m) (m.side Z - (p + 1)) (p + 1)
unfolding grid_skip
skip_z m p h = cond-true _ _ _ (lt-ltb p (m.side Z) h)

past_lawful : (m : Solid) (a : Axis) (p : ℕ) → m.side a ≤ p → Skips m a p (m.side a)
past_lawful m a p h = record { inside = λ l. absurd (omega arith); past = λ _. refl; equal = λ n u v x y. absurd (omega arith) }

next_lawful : (m : Solid) (a : Axis) (p : ℕ) → p < m.side a → Skips m a p (p + 1)
next_lawful m a p h = record {
  inside = λ _. (omega arith, omega arith);
  past = λ l. absurd (omega arith);
  equal = λ n u v x y. ap (λ (q : ℕ). section a m.holds q u v) (omega arith);
}

same_if : (x y : Bool) → differ x y ≡ false → x ≡ y
same_if true true e = refl
same_if true false e = e
same_if false y e = sym e

-- where no row changes, the two sections are equal
unchanged : (m : Solid) → Inside m → (n u v : ℕ) → row_changes m n ≡ false → m.holds u v n ≡ m.holds u v (n - 1)
unchanged m inside n u v e =
    let outside : ((k : ℕ) → in_frame m.side u v k ≡ false) → m.holds u v n ≡ m.holds u v (n - 1) = λ o. inside u v n (o n) ∙ sym (inside u v (n - 1) (o (n - 1))) in
    ⊎_elim
    (λ (h : u < m.side X).
    ⊎_elim
    (λ (l : v < m.side Y). same_if _ _ (some_none _ (m.side Y) (some_none _ (m.side X) e u h) v l))
    (λ (l : m.side Y ≤ v). outside (λ k. and_right _ _ (and_left _ _ (le-ltb v (m.side Y) l))))
    (cases_lt v (m.side Y)))
    (λ (h : m.side X ≤ u). outside (λ k. and_left _ _ (le-ltb u (m.side X) h)))
    (cases_lt u (m.side X))

-- and so are all sections with no change on the way
steady : (m : Solid) → Inside m → (p u v d : ℕ) → ((n : ℕ) → p < n → n < p + suc d → row_changes m n ≡ false) → m.holds u v (p + d) ≡ m.holds u v p
steady m inside p u v zero none = ap (m.holds u v) (add-zero p)
steady m inside p u v (suc d) none =
    let back : p + suc d - 1 ≡ p + d = omega arith in
    unchanged m inside (p + suc d) u v (none (p + suc d) (omega arith) (omega arith)) ∙ ap (m.holds u v) back ∙ steady m inside p u v d (λ n a b. none n a (omega arith))

z_lawful : (m : Solid) → Inside m → (p : ℕ) → p < m.side Z → Skips m Z p (first (row_changes m) (m.side Z - (p + 1)) (p + 1))
z_lawful m inside p h =
    let f = search_found (row_changes m) (p + 1) (m.side Z) (omega arith) in
    record {
      inside = λ _. (omega (arith, f.from), f.to);
      past = λ l. absurd (omega arith);
      equal = λ n u v x y.
          let place : p + (n - p) ≡ n = omega arith in
          ap (m.holds u v) (sym place) ∙ steady m inside p u v (n - p) (λ k a b. f.none k (omega arith) (omega arith));
    }

pub skip_lawful : (m : Solid) → Inside m → (a : Axis) (p q : ℕ) → q ≡ grid_skip m a p → Skips m a p q
skip_lawful m inside a p q is = subst (Skips m a p) (sym is) (⊎_elim (below a) (λ h. subst (Skips m a p) (sym (skip_past m a p h)) (past_lawful m a p h)) (cases_lt p (m.side a)))
  where
    below : (a : Axis) → p < m.side a → Skips m a p (grid_skip m a p)
    below X h = subst (Skips m X p) (sym (skip_x m p h)) (next_lawful m X p h)
    below Y h = subst (Skips m Y p) (sym (skip_y m p h)) (next_lawful m Y p h)
    below Z h = subst (Skips m Z p) (sym (skip_z m p h)) (z_lawful m inside p h)
