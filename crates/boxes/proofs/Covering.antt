-- The boxes of a cut: each is longest along c, then b, then a, and each solid cell is in just one.
use Rattle.std.proofs.Common.{◌≡◌, ℕ, ◌+◌, ◌<◌, ◌≤◌, Bool, true, false, ltb, leb, List, [], ◌∷◌, sum_by, sym, refl, ap, ◌∙◌, subst, ⊎_elim, arith}
use Rattle.std.proofs.lemmas.Bool.{and_from, and_parts, both_ways, cases_Bool, cases_lt, cond-true, le-leb, leb-true, lt-ltb, ltb-true}
use Rattle.body.specs.Corners.{All}
use Rattle.body.specs.Solids.{one}
use Rattle.boxes.specs.Stretches.{Longest, opens}
use Rattle.boxes.specs.Cuts.{Bounds, box_at, box_end, box_of_plate, box_of_run, boxes, plane_boxes, plate, plate_end, row_boxes, run, run_end}
use Rattle.boxes.specs.Covers.{ApartAlongC, CoveredEverywhere, CoveredOnce, CoversAt, EachLongest, EveryLongest, Inside, LongestBox, TouchAlongC, between, holds_cell}
use Rattle.boxes.proofs.Parts.{all_if, all_listed, all_listed_part, all_pairs, all_weaker, sum_listed_only, sum_none}
use Rattle.boxes.proofs.Stretching.{holding, longest_from, longest_once, longest_opens, longest_reach, longest_stretch, stretch_longest}

pub between_parts : (lo hi p : ℕ) → between lo hi p ≡ true → (lo ≤ p) × (p < hi)
between_parts lo hi p e =
    let parts = and_parts (leb lo p) (ltb p hi) e in
    (leb-true lo p parts.0, ltb-true p hi parts.1)

pub between_is : (lo hi p : ℕ) → lo ≤ p → p < hi → between lo hi p ≡ true
between_is lo hi p a b = and_from (leb lo p) (ltb p hi) (le-leb lo p a) (lt-ltb p hi b)

-- the cell (i, j, k) is in the box, by its bounds
record Held (x : Bounds) (i j k : ℕ) : Type 0 where
  from_a : x.a ≤ i
  to_a : i < x.a'
  from_b : x.b ≤ j
  to_b : j < x.b'
  from_c : x.c ≤ k
  to_c : k < x.c'

held : (x : Bounds) (i j k : ℕ) → holds_cell x i j k ≡ true → Held x i j k
held x i j k e =
    let p = and_parts (between x.a x.a' i) _ e in
    let q = and_parts (between x.b x.b' j) _ p.1 in
    let u = between_parts x.a x.a' i p.0 in
    let v = between_parts x.b x.b' j q.0 in
    let w = between_parts x.c x.c' k q.1 in
    record { from_a = u.0; to_a = u.1; from_b = v.0; to_b = v.1; from_c = w.0; to_c = w.1 }

held_is : (x : Bounds) (i j k : ℕ) → Held x i j k → holds_cell x i j k ≡ true
held_is x i j k h =
    and_from (between x.a x.a' i) _ (between_is x.a x.a' i h.from_a h.to_a)
    (and_from (between x.b x.b' j) _ (between_is x.b x.b' j h.from_b h.to_b) (between_is x.c x.c' k h.from_c h.to_c))

module _ (f : ℕ → ℕ → ℕ → Bool) (na nb nc : ℕ) where
  -- a longest stretch of planes that all have the plate has the rest
  longest_box : (a a' b b' c c' : ℕ) → b < nb → c < nc → Longest (λ i. plate f na nb nc i b b' c c') na a a' → LongestBox f na nb nc (record { a = a; a' = a'; b = b; b' = b'; c = c; c' = c' })
  longest_box a a' b b' c c' lb lc planes =
      let plates : (i : ℕ) → a ≤ i → i < a' → Longest (λ j. run f na nb nc i j c c') nb b b' =
      λ i s t. stretch_longest (λ j. run f na nb nc i j c c') nb b b' lb (planes.all i s t)
      in
      record { runs = λ i j s t u v. stretch_longest (f i j) nc c c' lc ((plates i s t).all j u v); plates = plates; planes = planes }

  -- the box of a place is longest, and begins there
  pub record Begins (a b c : ℕ) (x : Bounds) : Type 0 where
    pub longest : LongestBox f na nb nc x
    pub at_a : x.a ≡ a
    pub at_b : x.b ≡ b
    pub at_c : x.c ≡ c

  pub box_begins : (a b c : ℕ) → a < na → b < nb → c < nc → All (Begins a b c) (box_at f na nb nc a b c)
  unfolding box_at
  box_begins a b c la lb lc =
      let c' = run_end f na nb nc a b c in
      let b' = plate_end f na nb nc a b c c' in
      all_if (Begins a b c) (opens (f a b) c) (box_of_run f na nb nc a b c c') (λ _.
      all_if (Begins a b c) (opens (λ j. run f na nb nc a j c c') b) (box_of_plate f na nb nc a b b' c c') (λ _.
      all_if (Begins a b c) (opens (λ i. plate f na nb nc i b b' c c') a) _ (λ begins. (
        record {
          longest = longest_box a (box_end f na nb nc a b b' c c') b b' c c' lb lc (longest_from (λ i. plate f na nb nc i b b' c c') na a la begins);
          at_a = refl;
          at_b = refl;
          at_c = refl;
        },
        tt,
      ))))

  -- the plate and the run of a longest box at its lowest cell
  module _ (x : Bounds) (w : LongestBox f na nb nc x) where
    pub lowest_plate : Longest (λ j. run f na nb nc x.a j x.c x.c') nb x.b x.b'
    lowest_plate = w.plates x.a (omega arith) w.planes.some

    pub lowest_run : Longest (f x.a x.b) nc x.c x.c'
    lowest_run = w.runs x.a x.b (omega arith) w.planes.some (omega arith) lowest_plate.some

  -- the box of the place at which a longest box begins is that box
  pub box_is : (x : Bounds) → LongestBox f na nb nc x → box_at f na nb nc x.a x.b x.c ≡ x ∷ []
  unfolding box_at
  box_is x w =
      let a = x.a in let b = x.b in let c = x.c in let b' = x.b' in let c' = x.c' in
      let planes = w.planes in
      let plates = lowest_plate x w in
      let runs = lowest_run x w in
      cond-true (opens (f a b) c) _ [] (longest_opens (f a b) nc runs)
      ∙ ap (box_of_run f na nb nc a b c) (longest_reach (f a b) nc runs)
      ∙ cond-true (opens (λ j. run f na nb nc a j c c') b) _ [] (longest_opens (λ j. run f na nb nc a j c c') nb plates)
      ∙ ap (λ t. box_of_plate f na nb nc a b t c c') (longest_reach (λ j. run f na nb nc a j c c') nb plates)
      ∙ cond-true (opens (λ i. plate f na nb nc i b b' c c') a) _ [] (longest_opens (λ i. plate f na nb nc i b b' c c') na planes)
      ∙ ap {B = List Bounds} (λ t. record { a = a; a' = t; b = b; b' = b'; c = c; c' = c' } ∷ []) (longest_reach (λ i. plate f na nb nc i b b' c c') na planes)

  pub row_begins : (a b : ℕ) → a < na → b < nb → All (λ x. LongestBox f na nb nc x × (x.a ≡ a) × (x.b ≡ b)) (row_boxes f na nb nc a b)
  row_begins a b la lb =
      all_listed _ (box_at f na nb nc a b) nc 0 (λ c _ l.
      all_weaker (Begins a b c) _ (box_at f na nb nc a b c) (λ x w. (w.longest, w.at_a, w.at_b)) (box_begins a b c la lb (omega arith)))

  pub plane_begins : (a : ℕ) → a < na → All (λ x. LongestBox f na nb nc x × (x.a ≡ a)) (plane_boxes f na nb nc a)
  plane_begins a la =
      all_listed _ (row_boxes f na nb nc a) nb 0 (λ b _ l. all_weaker _ _ (row_boxes f na nb nc a b) (λ x w. (w.0, w.1)) (row_begins a b la (omega arith)))

  pub each_longest : EachLongest f na nb nc
  each_longest =
      all_listed _ (plane_boxes f na nb nc) na 0 (λ a _ l. all_weaker _ _ (plane_boxes f na nb nc a) (λ x w. w.0) (plane_begins a (omega arith)))

  pub every_longest : EveryLongest f na nb nc
  every_longest P each x w =
      let p = w.planes in
      let q = lowest_plate x w in
      let r = lowest_run x w in
      let plane = all_listed_part P (plane_boxes f na nb nc) x.a na 0 (omega arith) (omega (arith, p.some, p.within)) each in
      let row = all_listed_part P (row_boxes f na nb nc x.a) x.b nb 0 (omega arith) (omega (arith, q.some, q.within)) plane in
      let here = all_listed_part P (box_at f na nb nc x.a x.b) x.c nc 0 (omega arith) (omega (arith, r.some, r.within)) row in
      (subst (All P) (box_is x w) here).0

  -- two longest boxes that hold the same cell begin at the same place
  same_place : (x y : Bounds) (i j k : ℕ) → LongestBox f na nb nc x → LongestBox f na nb nc y → Held x i j k → Held y i j k → (x.a ≡ y.a) × (x.b ≡ y.b) × (x.c ≡ y.c)
  same_place x y i j k v w s t =
      let ec = longest_once (f i j) nc k (v.runs i j s.from_a s.to_a s.from_b s.to_b) (w.runs i j t.from_a t.to_a t.from_b t.to_b) s.from_c s.to_c t.from_c t.to_c in
      let vb : Longest (λ j. run f na nb nc i j y.c y.c') nb x.b x.b' = rw (ec.0, ec.1) at (v.plates i s.from_a s.to_a) in
      let eb = longest_once _ nb j vb (w.plates i t.from_a t.to_a) s.from_b s.to_b t.from_b t.to_b in
      let va : Longest (λ i. plate f na nb nc i y.b y.b' y.c y.c') na x.a x.a' = rw (ec.0, ec.1, eb.0, eb.1) at v.planes in
      let ea = longest_once _ na i va w.planes s.from_a s.to_a t.from_a t.to_a in
      (ea.0, eb.0, ec.0)

  -- a box that holds the cell
  record Around (i j k : ℕ) : Type 0 where
    box : Bounds
    longest : LongestBox f na nb nc box
    holds : Held box i j k

  around : (i j k : ℕ) → i < na → j < nb → k < nc → f i j k ≡ true → Around i j k
  around i j k li lj lk e =
      let r = holding (f i j) nc k lk e in
      let s = holding (λ j. run f na nb nc i j r.lo r.hi) nb j lj (longest_stretch (f i j) nc r.longest) in
      let t = holding (λ i. plate f na nb nc i s.lo s.hi r.lo r.hi) na i li (longest_stretch (λ j. run f na nb nc i j r.lo r.hi) nb s.longest) in
      record {
        box = record { a = t.lo; a' = t.hi; b = s.lo; b' = s.hi; c = r.lo; c' = r.hi };
        longest = longest_box t.lo t.hi s.lo s.hi r.lo r.hi (omega (arith, s.from)) (omega (arith, r.from)) t.longest;
        holds = record { from_a = t.from; to_a = t.to; from_b = s.from; to_b = s.to; from_c = r.from; to_c = r.to };
      }

  module _ (i j k : ℕ) where
    -- an entry counts 0 where it cannot hold the cell
    counts_none : (x : Bounds) → (Held x i j k → ⊥) → one (holds_cell x i j k) ≡ 0
    counts_none x never = ⊎_elim (λ e. absurd (never (held x i j k e))) (ap one) (cases_Bool (holds_cell x i j k))

    covered_never : f i j k ≡ false → CoversAt f na nb nc (boxes f na nb nc) i j k
    covered_never e =
        sum_none (λ x. one (holds_cell x i j k)) (boxes f na nb nc)
        (all_weaker (LongestBox f na nb nc) _ (boxes f na nb nc)
        (λ x w. counts_none x (λ h. both_ways (f i j k) e ((w.runs i j h.from_a h.to_a h.from_b h.to_b).all k h.from_c h.to_c))) each_longest)
        ∙ ap one (sym e)

    covered_just_once : i < na → j < nb → k < nc → f i j k ≡ true → CoversAt f na nb nc (boxes f na nb nc) i j k
    covered_just_once li lj lk e =
        let o = around i j k li lj lk e in
        let y = o.box in
        let w = o.longest in
        let h = o.holds in
        let q = w.planes in
        let p = lowest_plate y w in
        let r = lowest_run y w in
        let count : Bounds → ℕ = λ x. one (holds_cell x i j k) in
        let same = λ (x : Bounds) (v : LongestBox f na nb nc x) (s : Held x i j k). same_place x y i j k v w s h in
        sum_listed_only count (plane_boxes f na nb nc) y.a na 0 (omega arith) (omega (arith, q.some, q.within)) (λ a _ la ne.
        sum_none count (plane_boxes f na nb nc a) (all_weaker _ _ (plane_boxes f na nb nc a) (λ x v. counts_none x (λ s. ne (sym v.1 ∙ (same x v.0 s).0))) (plane_begins a (omega arith))))
        ∙ sum_listed_only count (row_boxes f na nb nc y.a) y.b nb 0 (omega arith) (omega (arith, p.some, p.within)) (λ b _ lb ne.
        sum_none count (row_boxes f na nb nc y.a b) (all_weaker _ _ (row_boxes f na nb nc y.a b) (λ x v. counts_none x (λ s. ne (sym v.2 ∙ (same x v.0 s).1))) (row_begins y.a b (omega (arith, q.some, q.within)) (omega arith))))
        ∙ sum_listed_only count (box_at f na nb nc y.a y.b) y.c nc 0 (omega arith) (omega (arith, r.some, r.within)) (λ c _ lc ne.
        sum_none count (box_at f na nb nc y.a y.b c) (all_weaker _ _ (box_at f na nb nc y.a y.b c) (λ x v. counts_none x (λ s. ne (sym v.at_c ∙ (same x v.longest s).2))) (box_begins y.a y.b c (omega (arith, q.some, q.within)) (omega (arith, p.some, p.within)) (omega arith))))
        ∙ ap (sum_by count) (box_is y w)
        ∙ ap {B = ℕ} (λ t. 0 + one t) (held_is y i j k h)
        ∙ ap one (sym e)

  pub covered_once : CoveredOnce f na nb nc
  covered_once i j k li lj lk = ⊎_elim (covered_just_once i j k li lj lk) (covered_never i j k) (cases_Bool (f i j k))

  pub covered_everywhere : Inside f na nb nc → CoveredEverywhere f na nb nc
  covered_everywhere inside i j k =
      ⊎_elim
      (λ (li : i < na). ⊎_elim
      (λ (lj : j < nb). ⊎_elim
      (λ (lk : k < nc). covered_once i j k li lj lk)
      (λ (h : nc ≤ k). covered_never i j k (inside.c i j k h))
      (cases_lt k nc))
      (λ (h : nb ≤ j). covered_never i j k (inside.b i j k h))
      (cases_lt j nb))
      (λ (h : na ≤ i). covered_never i j k (inside.a i j k h))
      (cases_lt i na)

  -- at a line that meets both, the run of x ends where the run of y begins
  pub apart_along_c : ApartAlongC (boxes f na nb nc)
  apart_along_c =
      all_pairs (LongestBox f na nb nc) (λ x y. TouchAlongC x y → ⊥) (boxes f na nb nc) (λ x y v w t.
      let r = v.runs t.i t.j t.a_in_x.0 t.a_in_x.1 t.b_in_x.0 t.b_in_x.1 in
      let s = w.runs t.i t.j t.a_in_y.0 t.a_in_y.1 t.b_in_y.0 t.b_in_y.1 in
      both_ways (f t.i t.j y.c) (ap (f t.i t.j) (sym t.meet) ∙ r.after (omega (arith, t.meet, s.some, s.within))) (s.all y.c (omega arith) s.some)) each_longest
