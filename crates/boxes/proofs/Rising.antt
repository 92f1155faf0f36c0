-- The boxes of a cut rise by their lowest cell's a, then b, then c.
use Rattle.std.proofs.Common.{ℕ, zero, suc, ◌+◌, ◌<◌, ◌≤◌, Bool, true, false, cond, List, [], ◌∷◌, ◌++◌, length, get_or, sym, ◌∙◌, inl, inr, arith}
use Rattle.tables.specs.Tables.{listed}
use Rattle.body.specs.Corners.{All}
use Rattle.boxes.specs.Stretches.{opens}
use Rattle.boxes.specs.Cuts.{Bounds, box_at, box_end, box_of_plate, box_of_run, boxes, plane_boxes, plate, plate_end, row_boxes, run, run_end}
use Rattle.boxes.specs.Covers.{Before, LowestApart, Rising}
use Rattle.boxes.proofs.Covering.{Begins, box_begins, plane_begins, row_begins}
use Rattle.boxes.proofs.Parts.{all_append, all_at, all_listed, all_weaker}

rising_append : (l m : List Bounds) → Rising l → Rising m → All (λ x. All (Before x) m) l → Rising (l ++ m)
rising_append [] m rl rm below = rm
rising_append (x ∷ l) m rl rm below = (all_append (Before x) l m rl.0 below.0, rising_append l m rl.1 rm below.1)

rising_if : (b : Bool) (l : List Bounds) → Rising l → Rising (cond b l [])
rising_if true l r = r
rising_if false l r = tt

-- parts that rise, each of boxes known by its number, where a lower number means before
rising_listed : (g : ℕ → List Bounds) (K : ℕ → Bounds → Type 0) → ((m n : ℕ) (x y : Bounds) → m < n → K m x → K n y → Before x y) → (k i : ℕ) → ((m : ℕ) → i ≤ m → m < i + k → All (K m) (g m) × Rising (g m)) → Rising (listed g k i)
unfolding listed
rising_listed g K apart zero i each = tt
rising_listed g K apart (suc k) i each =
    let here = each i (omega arith) (omega arith) in
    let later : (m : ℕ) → suc i ≤ m → m < suc i + k → All (K m) (g m) × Rising (g m) = λ m a b. each m (omega arith) (omega arith) in
    rising_append (g i) (listed g k (suc i)) here.1 (rising_listed g K apart k (suc i) later)
    (all_weaker (K i) _ (g i) (λ x kx. all_listed (Before x) g k (suc i) (λ m a b. all_weaker (K m) (Before x) (g m) (λ y ky. apart i m x y (omega arith) kx ky) (later m a b).0)) here.0)

rising_at : (l : List Bounds) (p q : ℕ) (d : Bounds) → Rising l → p < q → q < length l → Before (get_or l p d) (get_or l q d)
rising_at [] p q d r h s = absurd (omega arith)
rising_at (x ∷ l) zero zero d r h s = absurd (omega arith)
rising_at (x ∷ l) zero (suc q) d r h s = all_at (Before x) l q d (omega arith) r.0
rising_at (x ∷ l) (suc p) zero d r h s = absurd (omega arith)
rising_at (x ∷ l) (suc p) (suc q) d r h s = rising_at l p q d r.1 (omega arith) (omega arith)

pub rising_apart : (l : List Bounds) → Rising l → LowestApart l
rising_apart l r p q d h s same = let b = rising_at l p q d r h s in omega (arith, b, same)

module _ (f : ℕ → ℕ → ℕ → Bool) (na nb nc : ℕ) where
  box_rises : (a b c : ℕ) → Rising (box_at f na nb nc a b c)
  unfolding box_at
  box_rises a b c =
      let c' = run_end f na nb nc a b c in
      let b' = plate_end f na nb nc a b c c' in
      let x : Bounds = record { a = a; a' = box_end f na nb nc a b b' c c'; b = b; b' = b'; c = c; c' = c' } in
      rising_if (opens (f a b) c) (box_of_run f na nb nc a b c c')
      (rising_if (opens (λ j. run f na nb nc a j c c') b) (box_of_plate f na nb nc a b b' c c')
      (rising_if (opens (λ i. plate f na nb nc i b b' c c') a) (x ∷ []) (tt, tt)))

  row_rises : (a b : ℕ) → a < na → b < nb → Rising (row_boxes f na nb nc a b)
  row_rises a b la lb =
      rising_listed (box_at f na nb nc a b) (Begins f na nb nc a b)
      (λ m n x y l u v. inr (u.at_a ∙ sym v.at_a, inr (u.at_b ∙ sym v.at_b, omega (arith, u.at_c, v.at_c)))) nc 0
      (λ c _ l. (box_begins f na nb nc a b c la lb (omega arith), box_rises a b c))

  plane_rises : (a : ℕ) → a < na → Rising (plane_boxes f na nb nc a)
  plane_rises a la =
      rising_listed (row_boxes f na nb nc a) _
      (λ m n x y l u v. inr (u.1 ∙ sym v.1, inl (omega (arith, u.2, v.2)))) nb 0
      (λ b _ l. (row_begins f na nb nc a b la (omega arith), row_rises a b la (omega arith)))

  pub boxes_rise : Rising (boxes f na nb nc)
  boxes_rise =
      rising_listed (plane_boxes f na nb nc) _
      (λ m n x y l u v. inl (omega (arith, u.1, v.1))) na 0
      (λ a _ l. (plane_begins f na nb nc a (omega arith), plane_rises a (omega arith)))

  pub lowest_apart : LowestApart (boxes f na nb nc)
  lowest_apart = rising_apart (boxes f na nb nc) boxes_rise
