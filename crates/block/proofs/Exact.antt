-- A lawful list is the corner list of its cells.
use Rattle.std.proofs.Common.{◌≡◌, ℕ, zero, suc, ◌≤◌, Bool, true, false, ◌&&◌, ltb, leb, List, [], ◌∷◌, sym, refl, ap, ◌∙◌, ap₂, ⊎_elim, arith}
use mathlib.Core.Path.{fun_ext}
use mathlib.Core.Bool.{and_comm, and-true}
use Rattle.std.proofs.lemmas.Bool.{and_cases, and_left, and_parts, le-leb, leb-true, ltb-false}
use Rattle.geometry.specs.Frames.{in_frame}
use Rattle.geometry.specs.declared.axis.Axis.{Axis}
use Rattle.geometry.specs.declared.axis.Axis.TheVariants.{X, Y, Z}
use Rattle.geometry.specs.declared.frame.Point.{Point}
use Rattle.body.specs.Solids.{Inside, Solid, differ}
use Rattle.body.specs.Corners.{All, EvenLines, Rising, at_or_below, changes, corner, corner_list, parity}
use Rattle.body.proofs.CornerLaws.{and_changes, changes_both, corners_determine, corners_even, eqb_changes, parity_on_line, upto}
use Rattle.body.proofs.Order.{all_map, corners_reach, corners_rise}
use Rattle.body.proofs.Parity.{corner_changes, differ_false}
use Rattle.body.proofs.Sums.{parity_changes}
use Rattle.block.specs.Laws.{ListsStand, SolidsListed}
use Rattle.block.specs.Lists.{Lawful, cells_of, is_at, reached}
use Rattle.block.proofs.Unique.{rising_alike}

-- what changes nowhere is false everywhere
pub still : (f : ℕ → Bool) → ((n : ℕ) → changes f n ≡ false) → (n : ℕ) → f n ≡ false
still f none zero = none zero
still f none (suc n) = sym (differ_false (f (suc n))) ∙ ap (differ (f (suc n))) (sym (still f none n)) ∙ none (suc n)

-- where lines are even, so is what lies all along an axis, up to a number along each of the other two
pub upto_even : (l : List Point) → EvenLines l → (a : Axis) (s t : ℕ) → parity (upto a s t) l ≡ false
upto_even l even a s t =
    still (λ t. parity (upto a s t) l) (λ v. still (λ s. changes (λ t. parity (upto a s t) l) v) (λ u. sym (parity_on_line a u v l) ∙ even a u v) s) t

-- tests that agree on the points of a list
pub parity_same : {A : Type 0} (P Q : A → Bool) (l : List A) → All (λ p. P p ≡ Q p) l → parity P l ≡ parity Q l
parity_same P Q [] same = refl
parity_same P Q (p ∷ l) same = ap₂ differ same.0 (parity_same P Q l same.1)

module _ (s : Axis → ℕ) where
  pub reached_within : (p : Point) → reached s p ≡ true → (p.x ≤ s X) × (p.y ≤ s Y) × (p.z ≤ s Z)
  reached_within p h =
      let x = and_parts (leb p.x (s X)) (leb p.y (s Y) && leb p.z (s Z)) h in
      let yz = and_parts (leb p.y (s Y)) (leb p.z (s Z)) x.1 in
      (leb-true p.x (s X) x.0, leb-true p.y (s Y) yz.0, leb-true p.z (s Z) yz.1)

  -- every point is at or below a cell along an axis along which that is outside the frame
  past_x : (i j k : ℕ) → s X ≤ i → (p : Point) → reached s p ≡ true → at_or_below i j k p ≡ upto X j k p
  past_x i j k h p r =
      ap (λ b. leb p.z k && (leb p.y j && b)) (le-leb p.x i (omega (arith, (reached_within p r).0)))
      ∙ ap (λ b. leb p.z k && b) (and-true (leb p.y j))
      ∙ and_comm (leb p.z k) (leb p.y j)

  past_y : (i j k : ℕ) → s Y ≤ j → (p : Point) → reached s p ≡ true → at_or_below i j k p ≡ upto Y k i p
  past_y i j k h p r = ap (λ b. leb p.z k && (b && leb p.x i)) (le-leb p.y j (omega (arith, (reached_within p r).1)))

  past_z : (i j k : ℕ) → s Z ≤ k → (p : Point) → reached s p ≡ true → at_or_below i j k p ≡ upto Z i j p
  past_z i j k h p r =
      ap (λ b. b && (leb p.y j && leb p.x i)) (le-leb p.z k (omega (arith, (reached_within p r).2)))
      ∙ and_comm (leb p.y j) (leb p.x i)

  module _ (l : List Point) (lawful : Lawful s l) where
    along : (a : Axis) (u v i j k : ℕ) → ((p : Point) → reached s p ≡ true → at_or_below i j k p ≡ upto a u v p) → parity (at_or_below i j k) l ≡ false
    along a u v i j k same =
        parity_same (at_or_below i j k) (upto a u v) l (all_map _ _ l same lawful.inside) ∙ upto_even l lawful.even a u v

    -- outside the frame the parity is even
    pub outside_even : (i j k : ℕ) → in_frame s i j k ≡ false → parity (at_or_below i j k) l ≡ false
    outside_even i j k out =
        ⊎_elim
        (λ h. along X j k i j k (past_x i j k (ltb-false i (s X) h)))
        (λ h.
        ⊎_elim
        (λ h. along Y k i i j k (past_y i j k (ltb-false j (s Y) h)))
        (λ h. along Z i j i j k (past_z i j k (ltb-false k (s Z) h)))
        (and_cases (ltb j (s Y)) (ltb k (s Z)) h))
        (and_cases (ltb i (s X)) (ltb j (s Y) && ltb k (s Z)) out)

-- a test that narrows another where it fails anyway
narrowed : (a b c : Bool) → (a ≡ true → b ≡ c) → (a ≡ false → c ≡ false) → (a && b) ≡ c
narrowed true b c yes_way no_way = yes_way refl
narrowed false b c yes_way no_way = sym (no_way refl)

-- the cells of a lawful list are those of odd parity, anywhere
pub cells_parity : (s : Axis → ℕ) (l : List Point) → Lawful s l → (i j k : ℕ) → (cells_of s l).holds i j k ≡ parity (at_or_below i j k) l
unfolding cells_of
cells_parity s l lawful i j k = narrowed (in_frame s i j k) _ _ (λ _. refl) (outside_even s l lawful i j k)

-- the cells of any list lie in the frame
pub cells_inside : (s : Axis → ℕ) (l : List Point) → Inside (cells_of s l)
unfolding cells_of
cells_inside s l i j k out = and_left (in_frame s i j k) _ out

changes_under : (f : ℕ → Bool) (t : Bool) (u : ℕ) → (t && changes f u) ≡ changes (λ n. t && f n) u
changes_under f t u = and_comm t (changes f u) ∙ and_changes f t u ∙ ap (λ g. changes g u) (fun_ext λ n. and_comm (f n) t)

-- an orthant has one corner
orthant : (x y z : ℕ) (p : Point) → is_at x y z p ≡ changes (λ k. changes (λ j. changes (λ i. at_or_below i j k p) x) y) z
orthant x y z p =
    ap₂ ◌&&◌ (eqb_changes p.z z) (ap₂ ◌&&◌ (eqb_changes p.y y) (eqb_changes p.x x) ∙ changes_both (leb p.y) (leb p.x) y x)
    ∙ changes_both (leb p.z) (λ j. changes (λ i. leb p.y j && leb p.x i) x) z y
    ∙ ap (λ f. changes f z) (fun_ext λ k. ap (λ f. changes f y) (fun_ext λ j. changes_under (λ i. leb p.y j && leb p.x i) (leb p.z k) x))

-- the corners of the parities of a list are the points that stand in it an odd number of times
pub corner_parity : (l : List Point) (x y z : ℕ) → corner (λ i j k. parity (at_or_below i j k) l) x y z ≡ parity (is_at x y z) l
corner_parity l x y z =
    corner_changes (λ i j k. parity (at_or_below i j k) l) x y z
    ∙ ap (λ f. changes f z) (fun_ext λ k.
    ap (λ f. changes f y) (fun_ext λ j. sym (parity_changes (λ i. at_or_below i j k) x l))
    ∙ sym (parity_changes (λ j p. changes (λ i. at_or_below i j k p) x) y l))
    ∙ sym (parity_changes (λ k p. changes (λ j. changes (λ i. at_or_below i j k p) x) y) z l)
    ∙ ap (λ Q. parity Q l) (fun_ext λ p. sym (orthant x y z p))

-- a rising list whose parities are the cells of a solid is its corner list
pub corner_list_is : (m : Solid) (l : List Point) → Inside m → Rising l → ((i j k : ℕ) → m.holds i j k ≡ parity (at_or_below i j k) l) → corner_list m ≡ l
corner_list_is m l inside rises cells =
    rising_alike (corner_list m) l (corners_rise m) rises
    (λ x y z.
    sym (corner_parity (corner_list m) x y z)
    ∙ ap (λ h. corner h x y z) (fun_ext λ i. fun_ext λ j. fun_ext λ k. corners_determine m inside i j k ∙ cells i j k)
    ∙ corner_parity l x y z)

pub exact : (s : Axis → ℕ) (l : List Point) → Lawful s l → corner_list (cells_of s l) ≡ l
exact s l lawful = corner_list_is (cells_of s l) l (cells_inside s l) lawful.rises (cells_parity s l lawful)

pub lists_stand : ListsStand
lists_stand s l lawful =
    record {
      exact = exact s l lawful;
      alone = λ m other same. sym (exact s m other) ∙ ap corner_list same ∙ exact s l lawful;
      outside = outside_even s l lawful;
    }

-- the cells of the corner list of a solid are the solid's
pub listed_cells : (m : Solid) → Inside m → cells_of m.side (corner_list m) ≡ m
unfolding cells_of
listed_cells m inside =
    ap {B = Solid} (λ h. record { side = m.side; holds = h }) (fun_ext λ i. fun_ext λ j. fun_ext λ k. narrowed (in_frame m.side i j k) _ _ (λ _. corners_determine m inside i j k) (inside i j k))

pub solids_listed : SolidsListed
solids_listed m inside =
    (record { inside = corners_reach m; rises = corners_rise m; even = corners_even m inside }, listed_cells m inside)
