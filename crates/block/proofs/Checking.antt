-- A list gets no refusal exactly when it is lawful.
use Rattle.std.proofs.Common.{◌≡◌, ℕ, ◌≤◌, Bool, true, false, cond, not, ◌&&◌, eqb, ltb, leb, List, [], ◌∷◌, take, drop, Some, None, Option, sym, refl, ap, ◌∙◌, ap₂, inl, inr, ⊎_elim, arith}
use Rattle.std.proofs.lemmas.Bool.{and_from, and_parts, both_ways, cases_Bool, eq-eqb, eqb-true, le-leb, leb-true, lt-ltb, ltb-true, not_from_false, not-true, or_cases, or_left, or_right}
use Rattle.geometry.specs.declared.axis.Axis.{Axis}
use Rattle.geometry.specs.declared.axis.Axis.TheVariants.{X, Y, Z}
use Rattle.geometry.specs.declared.frame.Point.{Point}
use Rattle.geometry.specs.declared.refusal.Refusal.{Refusal}
use Rattle.geometry.specs.declared.refusal.Refusal.TheVariants.{CountOver, PointOutside, NotRising, OddLine}
use Rattle.tables.specs.Tables.{capacity}
use Rattle.body.specs.Solids.{differ}
use Rattle.body.specs.Corners.{All, Before, EvenLines, Rising, on_line, parity}
use Rattle.body.proofs.Order.{all_map}
use Rattle.block.specs.Checks.{Checked, before, even_lines, list_refusal, points_refusal, rising}
use Rattle.block.specs.Lines.{Near, even_along, first_across, odd_through, second_across}
use Rattle.std.specs.List.{list_all, zip}
use Rattle.block.specs.Lists.{Lawful, reached}
use Rattle.block.proofs.Every.{all_every, every_all}
use Rattle.block.proofs.Exact.{reached_within}
use Rattle.block.proofs.Unique.{before_all}

before_is : (p q : Point) → before p q ≡ true → Before p q
before_is p q h =
    ⊎_elim
    (λ k. inl (ltb-true p.x q.x k))
    (λ k.
    let e = and_parts (eqb p.x q.x) _ k in
    inr (
      eqb-true p.x q.x e.0,
      ⊎_elim
          (λ k. inl (ltb-true p.y q.y k))
          (λ k. let f = and_parts (eqb p.y q.y) _ k in inr (eqb-true p.y q.y f.0, ltb-true p.z q.z f.1))
          (or_cases (ltb p.y q.y) _ e.1),
    ))
    (or_cases (ltb p.x q.x) _ h)

is_before : (p q : Point) → Before p q → before p q ≡ true
is_before p q (inl h) = or_left (ltb p.x q.x) _ (lt-ltb p.x q.x h)
is_before p q (inr (e, inl h)) =
    or_right (ltb p.x q.x) _ (and_from (eqb p.x q.x) _ (eq-eqb p.x q.x e) (or_left (ltb p.y q.y) _ (lt-ltb p.y q.y h)))
is_before p q (inr (e, inr (f, h))) =
    or_right (ltb p.x q.x) _
    (and_from (eqb p.x q.x) _ (eq-eqb p.x q.x e) (or_right (ltb p.y q.y) _ (and_from (eqb p.y q.y) _ (eq-eqb p.y q.y f) (lt-ltb p.z q.z h))))

rising_is : (l : List Point) → rising l ≡ true → Rising l
rising_is [] h = tt
rising_is (p ∷ []) h = (tt, tt)
rising_is (p ∷ (q ∷ l)) h =
    let e = and_parts (before p q) (rising (q ∷ l)) h in
    let rest = rising_is (q ∷ l) e.1 in
    let first = before_is p q e.0 in
    ((first, before_all p q l first rest.0), rest)

is_rising : (l : List Point) → Rising l → rising l ≡ true
is_rising [] h = refl
is_rising (p ∷ []) h = refl
is_rising (p ∷ (q ∷ l)) h = and_from (before p q) (rising (q ∷ l)) (is_before p q h.0.0) (is_rising (q ∷ l) h.1)

-- none on the line
none_even : {A : Type 0} (Q : A → Bool) (l : List A) → All (λ p. Q p ≡ false) l → parity Q l ≡ false
none_even Q [] h = refl
none_even Q (p ∷ l) h = ap₂ differ h.0 (none_even Q l h.1)

-- a line with a point of the list is the line through that point
line_through : (a : Axis) (u v : ℕ) (p : Point) → on_line a u v p ≡ true → (first_across a p ≡ u) × (second_across a p ≡ v)
line_through X u v p h = let e = and_parts (eqb p.y u) (eqb p.z v) h in (eqb-true p.y u e.0, eqb-true p.z v e.1)
line_through Y u v p h = let e = and_parts (eqb p.z u) (eqb p.x v) h in (eqb-true p.z u e.0, eqb-true p.x v e.1)
line_through Z u v p h = let e = and_parts (eqb p.x u) (eqb p.y v) h in (eqb-true p.x u e.0, eqb-true p.y v e.1)

even_is : (a : Axis) (l : List Point) → even_along a l ≡ true → (u v : ℕ) → parity (on_line a u v) l ≡ false
even_is a l h u v =
    ⊎_elim
    (λ (odd : parity (on_line a u v) l ≡ true). none_even (on_line a u v) l (all_map _ _ l (λ p. off odd p) (every_all (λ p. not (odd_through a l p)) l h)))
    (λ even. even)
    (cases_Bool (parity (on_line a u v) l))
  where
    off : parity (on_line a u v) l ≡ true → (p : Point) → not (odd_through a l p) ≡ true → on_line a u v p ≡ false
    off odd p even =
        ⊎_elim
        (λ on.
        let e = line_through a u v p on in
        absurd (both_ways (parity (on_line a u v) l) (sym (ap₂ (λ (s t : ℕ). parity (on_line a s t) l) e.0 e.1) ∙ not-true (odd_through a l p) even) odd))
        (λ out. out)
        (cases_Bool (on_line a u v p))

is_even : (a : Axis) (l : List Point) → ((u v : ℕ) → parity (on_line a u v) l ≡ false) → even_along a l ≡ true
is_even a l even = all_every (λ p. not (odd_through a l p)) l (go l)
  where
    go : (m : List Point) → All (λ p. not (odd_through a l p) ≡ true) m
    go [] = tt
    go (p ∷ m) = (not_from_false (odd_through a l p) (even (first_across a p) (second_across a p)), go m)

lines_is : (l : List Point) → even_lines l ≡ true → EvenLines l
lines_is l h X = even_is X l (and_parts (even_along X l) (even_along Y l && even_along Z l) h).0
lines_is l h Y = even_is Y l (and_parts (even_along Y l) (even_along Z l) (and_parts (even_along X l) (even_along Y l && even_along Z l) h).1).0
lines_is l h Z = even_is Z l (and_parts (even_along Y l) (even_along Z l) (and_parts (even_along X l) (even_along Y l && even_along Z l) h).1).1

is_lines : (l : List Point) → EvenLines l → even_lines l ≡ true
is_lines l even =
    and_from (even_along X l) (even_along Y l && even_along Z l) (is_even X l (even X)) (and_from (even_along Y l) (even_along Z l) (is_even Y l (even Y)) (is_even Z l (even Z)))

-- a refusal is not none
refused : (r : Refusal) → ◌≡◌ {A = Option Refusal} (Some r) None → ⊥
refused r e = let z : ◌≡◌ {A = ℕ} 0 1 = cc in omega arith

-- none of three tests in a row fails
passed : (a b c : Bool) (x y z : Refusal) → ◌≡◌ {A = Option Refusal} (cond a (cond b (cond c None (Some x)) (Some y)) (Some z)) None → (a ≡ true) × (b ≡ true) × (c ≡ true)
passed true true true x y z e = (refl, refl, refl)
passed true true false x y z e = absurd (refused x e)
passed true false c x y z e = absurd (refused y e)
passed false b c x y z e = absurd (refused z e)

pub points_passed : (s : Axis → ℕ) (l : List Point) → points_refusal s l ≡ None → Lawful s l
unfolding points_refusal
points_passed s l e =
    let t = passed (list_all (reached s) l) (rising l) (even_lines l) OddLine NotRising PointOutside e in
    record { inside = every_all (reached s) l t.0; rises = rising_is l t.1; even = lines_is l t.2 }

pub points_taken : (s : Axis → ℕ) (l : List Point) → Lawful s l → points_refusal s l ≡ None
unfolding points_refusal
points_taken s l lawful =
    ap₂ (λ (a b : Bool). cond a (cond b (cond (even_lines l) None (Some OddLine)) (Some NotRising)) (Some PointOutside)) (all_every (reached s) l lawful.inside) (is_rising l lawful.rises)
    ∙ ap (λ (c : Bool). cond c None (Some OddLine)) (is_lines l lawful.even)

module _ (s : Axis → ℕ) (table : List Point) (count : ℕ) where
  pub refusal_within : count ≤ capacity table → list_refusal s table count ≡ points_refusal s (take count table)
  unfolding list_refusal
  refusal_within h = ap (λ b. cond b (points_refusal s (take count table)) (Some CountOver)) (le-leb count (capacity table) h)

  counted : (b : Bool) → leb count (capacity table) ≡ b → cond b (points_refusal s (take count table)) (Some CountOver) ≡ None → (count ≤ capacity table) × Lawful s (take count table)
  counted true h e = (leb-true count (capacity table) h, points_passed s (take count table) e)
  counted false h e = absurd (refused CountOver e)

  pub checked : Checked s table count
  unfolding list_refusal
  checked =
      record {
        passes = counted (leb count (capacity table)) refl;
        takes = λ h lawful. refusal_within h ∙ points_taken s (take count table) lawful;
      }

-- a frame has no point over 1,024
pub reached_near : (s : Axis → ℕ) (l : List Point) → ((a : Axis) → s a ≤ 1024) → list_all (reached s) l ≡ true → Near l
reached_near s l small h =
    all_map _ _ l (λ p r. let w = reached_within s p r in (omega (arith, w.0, small X), omega (arith, w.1, small Y), omega (arith, w.2, small Z))) (every_all (reached s) l h)

-- the list rises where each entry comes before that at the same place of the rest
pub rising_pairs : (l : List Point) → list_all (λ r. before r.0 r.1) (zip l (drop 1 l)) ≡ rising l
rising_pairs [] = refl
rising_pairs (p ∷ []) = refl
rising_pairs (p ∷ (q ∷ l)) = ap (λ b. before p q && b) (rising_pairs (q ∷ l))
