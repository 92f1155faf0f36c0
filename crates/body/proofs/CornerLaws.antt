-- Laws of corner lists: they determine the cells, and every line along an axis carries an even number.
use Rattle.std.proofs.Common.{◌≡◌, ℕ, zero, suc, ◌+◌, ◌<◌, ◌≤◌, Bool, true, false, ◌&&◌, eqb, ltb, leb, List, sym, refl, ap, ◌∙◌, ap₂, ⊎_elim, add-one, arith}
use mathlib.Core.Path.{fun_ext}
use mathlib.Core.Bool.{and_assoc, and_comm, and-true}
use Rattle.std.proofs.lemmas.Bool.{and_left, and_right, le-leb, lt-leb, le-ltb, eq-eqb, ne_eqb, cases_lt}
use Rattle.geometry.specs.declared.axis.Axis.{Axis}
use Rattle.geometry.specs.declared.axis.Axis.TheVariants.{X, Y, Z}
use Rattle.geometry.specs.declared.frame.Point.{Point}
use Rattle.body.specs.Solids.{Inside, Solid, differ}
use Rattle.body.specs.Corners.{Determines, EvenLines, changes, corner, corner_at, corner_list, on_line, parity, plane_corners, point, row_corners}
use Rattle.body.proofs.Parity.{and_differ, changes_none, corner_changes}
use Rattle.body.proofs.Sums.{odd_below, odd_below_and, odd_below_same, changes_add_up, parity_changes, parity_if, parity_listed}

-- equal to u: at most u, and not at most the number before
pub eqb_changes : (n u : ℕ) → eqb n u ≡ changes (λ t. leb n t) u
eqb_changes n zero =
    ⊎_elim
    (λ (h : n < 1). eq-eqb n 0 (omega arith) ∙ sym (le-leb n 0 (omega arith)))
    (λ (h : 1 ≤ n). ne_eqb n 0 (λ e. omega arith) ∙ sym (lt-leb n 0 (omega arith)))
    (cases_lt n 1)
eqb_changes n (suc u) =
    ⊎_elim
    (λ (h : n < suc u). ne_eqb n (suc u) (λ e. omega arith) ∙ sym (ap₂ differ (le-leb n (suc u) (omega arith)) (le-leb n u (omega arith))))
    (λ (h : suc u ≤ n).
    ⊎_elim
    (λ (k : suc u < n). ne_eqb n (suc u) (λ e. omega arith) ∙ sym (ap₂ differ (lt-leb n (suc u) (omega arith)) (lt-leb n u (omega arith))))
    (λ (k : n ≤ suc u). eq-eqb n (suc u) (omega arith) ∙ sym (ap₂ differ (le-leb n (suc u) k) (lt-leb n u (omega arith))))
    (cases_lt (suc u) n))
    (cases_lt n (suc u))

pub and_changes : (f : ℕ → Bool) (t : Bool) (u : ℕ) → (changes f u && t) ≡ changes (λ s. f s && t) u
and_changes f t zero = refl
and_changes f t (suc u) = and_differ (f (suc u)) (f u) t

pub changes_both : (f g : ℕ → Bool) (u v : ℕ) → (changes f u && changes g v) ≡ changes (λ s. changes (λ t. f s && g t) v) u
changes_both f g u v =
    and_changes f (changes g v) u
    ∙ ap (λ h. changes h u) (fun_ext λ s. and_comm (f s) (changes g v) ∙ and_changes g (f s) v ∙ ap (λ h. changes h v) (fun_ext λ t. and_comm (g t) (f s)))

-- the points all along an axis, up to a number along each of the other two, in cyclic order
abbrev pub upto : Axis → ℕ → ℕ → Point → Bool
upto X s t p = leb p.y s && leb p.z t
upto Y s t p = leb p.z s && leb p.x t
upto Z s t p = leb p.x s && leb p.y t

line_changes : (a : Axis) (u v : ℕ) (p : Point) → on_line a u v p ≡ changes (λ s. changes (λ t. upto a s t p) v) u
line_changes X u v p = ap₂ ◌&&◌ (eqb_changes p.y u) (eqb_changes p.z v) ∙ changes_both (λ s. leb p.y s) (λ t. leb p.z t) u v
line_changes Y u v p = ap₂ ◌&&◌ (eqb_changes p.z u) (eqb_changes p.x v) ∙ changes_both (λ s. leb p.z s) (λ t. leb p.x t) u v
line_changes Z u v p = ap₂ ◌&&◌ (eqb_changes p.x u) (eqb_changes p.y v) ∙ changes_both (λ s. leb p.x s) (λ t. leb p.y t) u v

-- the points on a line, by those up to a number along each of the other two axes
pub parity_on_line : (a : Axis) (u v : ℕ) (l : List Point) → parity (on_line a u v) l ≡ changes (λ s. changes (λ t. parity (upto a s t) l) v) u
parity_on_line a u v l =
    ap (λ Q. parity Q l) (fun_ext λ p. line_changes a u v p)
    ∙ parity_changes (λ s p. changes (λ t. upto a s t p) v) u l
    ∙ ap (λ f. changes f u) (fun_ext λ s. parity_changes (λ t. upto a s t) v l)

module _ (m : Solid) where
  -- the points whose coordinates pass a test each
  abbrev pub passing : (ℕ → Bool) → (ℕ → Bool) → (ℕ → Bool) → Point → Bool
  passing a b c p = c p.z && (b p.y && a p.x)

  -- their parity in the corner list, as a parity over the three coordinates
  abbrev pub odd_corners : (ℕ → Bool) → (ℕ → Bool) → (ℕ → Bool) → Bool
  odd_corners a b c =
      odd_below (λ x. odd_below (λ y. odd_below (λ z. corner m.holds x y z && c z) (suc (m.side Z)) && b y) (suc (m.side Y)) && a x) (suc (m.side X))

  pub parity_corners : (a b c : ℕ → Bool) → parity (passing a b c) (corner_list m) ≡ odd_corners a b c
  parity_corners a b c =
      let Q = passing a b c in
      parity_listed Q (plane_corners m) (m.side X + 1)
      ∙ ap (odd_below (λ x. parity Q (plane_corners m x))) (add-one (m.side X))
      ∙ ap (λ f. odd_below f (suc (m.side X))) (fun_ext λ x. plane x)
    where
      row : (x y : ℕ) → parity (passing a b c) (row_corners m x y) ≡ ((odd_below (λ z. corner m.holds x y z && c z) (suc (m.side Z)) && b y) && a x)
      row x y =
          parity_listed (passing a b c) (corner_at m x y) (m.side Z + 1)
          ∙ ap (odd_below (λ z. parity (passing a b c) (corner_at m x y z))) (add-one (m.side Z))
          ∙ ap (λ f. odd_below f (suc (m.side Z))) (fun_ext λ z. parity_if (passing a b c) (corner m.holds x y z) (point x y z) ∙ sym (and_assoc (corner m.holds x y z) (c z) (b y && a x)))
          ∙ odd_below_and (λ z. corner m.holds x y z && c z) (b y && a x) (suc (m.side Z))
          ∙ sym (and_assoc (odd_below (λ z. corner m.holds x y z && c z) (suc (m.side Z))) (b y) (a x))

      plane : (x : ℕ) → parity (passing a b c) (plane_corners m x) ≡ (odd_below (λ y. odd_below (λ z. corner m.holds x y z && c z) (suc (m.side Z)) && b y) (suc (m.side Y)) && a x)
      plane x =
          parity_listed (passing a b c) (row_corners m x) (m.side Y + 1)
          ∙ ap (odd_below (λ y. parity (passing a b c) (row_corners m x y))) (add-one (m.side Y))
          ∙ ap (λ f. odd_below f (suc (m.side Y))) (fun_ext λ y. row x y)
          ∙ odd_below_and (λ y. odd_below (λ z. corner m.holds x y z && c z) (suc (m.side Z)) && b y) (a x) (suc (m.side Y))

  -- the tests matter only at the planes of the frame
  pub odd_corners_same : (a b c a' b' c' : ℕ → Bool) → ((n : ℕ) → n < suc (m.side X) → a n ≡ a' n) → ((n : ℕ) → n < suc (m.side Y) → b n ≡ b' n) → ((n : ℕ) → n < suc (m.side Z) → c n ≡ c' n) → odd_corners a b c ≡ odd_corners a' b' c'
  odd_corners_same a b c a' b' c' ea eb ec =
      odd_below_same _ _ (suc (m.side X)) (λ x hx. ap₂ ◌&&◌ (odd_below_same _ _ (suc (m.side Y)) (λ y hy. ap₂ ◌&&◌ (odd_below_same _ _ (suc (m.side Z)) (λ z hz. ap (λ t. corner m.holds x y z && t) (ec z hz))) (eb y hy))) (ea x hx))

  module _ (inside : Inside m) where
    outside_x : (i j k : ℕ) → m.side X ≤ i → m.holds i j k ≡ false
    outside_x i j k h = inside i j k (and_left (ltb i (m.side X)) _ (le-ltb i (m.side X) h))

    outside_y : (i j k : ℕ) → m.side Y ≤ j → m.holds i j k ≡ false
    outside_y i j k h = inside i j k (and_right (ltb i (m.side X)) _ (and_left (ltb j (m.side Y)) _ (le-ltb j (m.side Y) h)))

    outside_z : (i j k : ℕ) → m.side Z ≤ k → m.holds i j k ≡ false
    outside_z i j k h = inside i j k (and_right (ltb i (m.side X)) _ (and_right (ltb j (m.side Y)) _ (le-ltb k (m.side Z) h)))

    -- the corners up to a cell, in all three coordinates, say whether it is solid
    pub odd_corners_upto : (i j k : ℕ) → odd_corners (λ x. leb x i) (λ y. leb y j) (λ z. leb z k) ≡ m.holds i j k
    odd_corners_upto i j k =
        ap (λ f. odd_below f (suc (m.side X))) (fun_ext λ x. ap (λ t. t && leb x i) (plane x))
        ∙ changes_add_up (λ i. m.holds i j k) (m.side X) i (λ n h. outside_x n j k h)
      where
        row : (x y : ℕ) → odd_below (λ z. corner m.holds x y z && leb z k) (suc (m.side Z)) ≡ changes (λ j. changes (λ i. m.holds i j k) x) y
        row x y =
            ap (λ f. odd_below f (suc (m.side Z))) (fun_ext λ z. ap (λ t. t && leb z k) (corner_changes m.holds x y z))
            ∙ changes_add_up (λ k. changes (λ j. changes (λ i. m.holds i j k) x) y) (m.side Z) k (λ n h. changes_none _ y (λ j. changes_none _ x (λ i. outside_z i j n h)))

        plane : (x : ℕ) → odd_below (λ y. odd_below (λ z. corner m.holds x y z && leb z k) (suc (m.side Z)) && leb y j) (suc (m.side Y)) ≡ changes (λ i. m.holds i j k) x
        plane x =
            ap (λ f. odd_below f (suc (m.side Y))) (fun_ext λ y. ap (λ t. t && leb y j) (row x y))
            ∙ changes_add_up (λ j. changes (λ i. m.holds i j k) x) (m.side Y) j (λ n h. changes_none _ x (λ i. outside_y i n k h))

    pub corners_determine : Determines (corner_list m) m.holds
    corners_determine i j k = parity_corners (λ x. leb x i) (λ y. leb y j) (λ z. leb z k) ∙ odd_corners_upto i j k

    -- tests that agree with "up to i, j, k" in the frame, where that cell is empty
    passing_even : (a b c : ℕ → Bool) (i j k : ℕ) → ((n : ℕ) → n < suc (m.side X) → a n ≡ leb n i) → ((n : ℕ) → n < suc (m.side Y) → b n ≡ leb n j) → ((n : ℕ) → n < suc (m.side Z) → c n ≡ leb n k) → m.holds i j k ≡ false → parity (passing a b c) (corner_list m) ≡ false
    passing_even a b c i j k ea eb ec empty =
        parity_corners a b c ∙ odd_corners_same a b c (λ x. leb x i) (λ y. leb y j) (λ z. leb z k) ea eb ec ∙ odd_corners_upto i j k ∙ empty

    whole : (n v : ℕ) → v < suc n → true ≡ leb v n
    whole n v h = sym (le-leb v n (omega arith))

    -- all along one axis, and up to a number along each of the other two
    upto_even : (a : Axis) (s t : ℕ) → parity (upto a s t) (corner_list m) ≡ false
    upto_even X s t =
        ap (λ Q. parity Q (corner_list m)) (fun_ext λ p. and_comm (leb p.y s) (leb p.z t) ∙ ap (λ b. leb p.z t && b) (sym (and-true (leb p.y s))))
        ∙ passing_even (λ _. true) (λ y. leb y s) (λ z. leb z t) (m.side X) s t (whole (m.side X)) (λ n h. refl) (λ n h. refl) (outside_x (m.side X) s t (omega arith))
    upto_even Y s t =
        passing_even (λ x. leb x t) (λ _. true) (λ z. leb z s) t (m.side Y) s (λ n h. refl) (whole (m.side Y)) (λ n h. refl) (outside_y t (m.side Y) s (omega arith))
    upto_even Z s t =
        ap (λ Q. parity Q (corner_list m)) (fun_ext λ p. and_comm (leb p.x s) (leb p.y t))
        ∙ passing_even (λ x. leb x s) (λ y. leb y t) (λ _. true) s t (m.side Z) (λ n h. refl) (λ n h. refl) (whole (m.side Z)) (outside_z s t (m.side Z) (omega arith))

    -- a line is what changes between such sets
    pub corners_even : EvenLines (corner_list m)
    corners_even a u v = parity_on_line a u v (corner_list m) ∙ changes_none _ u (λ s. changes_none _ v (λ t. upto_even a s t))
