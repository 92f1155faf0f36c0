-- The laws of layers.
use Rattle.std.proofs.Common.{◌≡◌, ℕ, zero, suc, ◌+◌, ◌-◌, ◌<◌, ◌≤◌, Bool, true, false, not, ◌&&◌, ◌||◌, leb, ◌⊎◌, ℤ, pos, negsuc, neg_ℤ, Some, sym, refl, ap, ◌∙◌, ap₂, ⊎_elim, arith}
use mathlib.Core.Path.{fun_ext}
use Rattle.std.proofs.lemmas.Bool.{and_from, and_parts, both_ways, cases_Bool, cond-true, le-leb, lt-ltb, cases_lt, lt-leb, eqb-true, not-true, not_from_false, or_cases, or_left, or_right}
use Rattle.geometry.proofs.ByAxis.{by_axis}
use Rattle.geometry.specs.Frames.{in_frame}
use Rattle.geometry.specs.declared.axis.Axis.{Axis}
use Rattle.geometry.specs.declared.axis.Axis.TheVariants.{X, Y, Z}
use Rattle.body.specs.Solids.{Inside, Solid, differ, one, solid_cells, total}
use Rattle.layers.specs.declared.join.Join.TheVariants.{Union, Intersection}
use Rattle.layers.specs.Layers.{cell_less, joined, less}
use Rattle.layers.specs.Laws.{Iff, LawfulLayers, opposite, same_sides, volumes_of}

-- One cell: b says whether it lies in the frame, x and y whether the solids have it.
twice_cell : (b x : Bool) → (b ≡ false → x ≡ false) → (b && not (b && not x)) ≡ x
twice_cell true true o = refl
twice_cell true false o = refl
twice_cell false x o = sym (o refl)

-- what is solid lies in the frame
in_it : (b x : Bool) → (b ≡ false → x ≡ false) → x ≡ true → b ≡ true
in_it b x o e = ⊎_elim (λ t. t) (λ f. absurd (both_ways x (o f) e)) (cases_Bool b)

union_cell : (b x y : Bool) → b ≡ true → Iff ((b && (x || y)) ≡ true) ((x ≡ true) ⊎ (y ≡ true))
union_cell b x y e = ((λ h. or_cases x y (and_parts b (x || y) h).1), ⊎_elim (λ h. and_from b _ e (or_left x y h)) (λ h. and_from b _ e (or_right x y h)))

intersection_cell : (b x y : Bool) → (b ≡ false → x ≡ false) → Iff ((b && (x && y)) ≡ true) ((x ≡ true) × (y ≡ true))
intersection_cell b x y o = ((λ h. and_parts x y (and_parts b (x && y) h).1), (λ h. and_from b _ (in_it b x o h.0) (and_from x y h.0 h.1)))

difference_cell : (b x y : Bool) → (b ≡ false → x ≡ false) → Iff ((b && (x && not y)) ≡ true) ((x ≡ true) × (y ≡ true → ⊥))
difference_cell b x y o = (
  (λ h. let p = and_parts x (not y) (and_parts b (x && not y) h).1 in (p.0, both_ways y (not-true y p.1))),
  (λ h. and_from b _ (in_it b x o h.0) (and_from x _ h.0 (⊎_elim (λ t. absurd (h.1 t)) (λ f. not_from_false y f) (cases_Bool y)))),
)

itself_cell : (b x : Bool) → (b && differ x x) ≡ false
itself_cell true true = refl
itself_cell true false = refl
itself_cell false x = refl

volume_cell : (b x y : Bool) → b ≡ true → one (b && (x || y)) + one (b && (x && y)) ≡ one x + one y
volume_cell b x y e = ap (λ (t : Bool). one (t && (x || y)) + one (t && (x && y))) e ∙ within x y
  where
    within : (x y : Bool) → one (x || y) + one (x && y) ≡ one x + one y
    within true true = refl
    within true false = refl
    within false true = refl
    within false false = refl

-- There and back along one axis: n less a step is x.
abbrev Lands : ℤ → ℕ → ℕ → Type 0
Lands (pos d) n x = (d ≤ n) × (x ≡ n - d)
Lands (negsuc d) n x = x ≡ n + suc d

less_at : (e : ℤ) (n : ℕ) (f g : ℕ → Bool) → ((x : ℕ) → Lands e n x → f x ≡ g x) → less e f n ≡ less e g n
less_at (pos d) n f g same =
    ⊎_elim
    (λ (h : n < d). ap (λ b. b && f (n - d)) (lt-leb d n h) ∙ sym (ap (λ b. b && g (n - d)) (lt-leb d n h)))
    (λ (h : d ≤ n). ap (λ b. leb d n && b) (same (n - d) (h, refl)))
    (cases_lt n d)
less_at (negsuc d) n f g same = same (n + suc d) refl

lands_back : (e : ℤ) (n x : ℕ) (g : ℕ → Bool) → Lands (neg_ℤ e) n x → less e g x ≡ g n
lands_back (pos zero) n x g l =
    let zero-le : zero ≤ x = omega arith in
    let is : x - zero ≡ n = omega (arith, l.1) in
    ap₂ ◌&&◌ (le-leb zero x zero-le) (ap g is)
lands_back (pos (suc d)) n x g l =
    let above : suc d ≤ x = omega arith in
    let is : x - suc d ≡ n = omega arith in
    ap₂ ◌&&◌ (le-leb (suc d) x above) (ap g is)
lands_back (negsuc d) n x g l =
    let is : x + suc d ≡ n = omega (arith, l.0, l.1) in
    ap g is

less_and : (e : ℤ) (f : ℕ → Bool) (t : Bool) (n : ℕ) → less e (λ x. f x && t) n ≡ (less e f n && t)
less_and (pos d) f t n = and_assoc (leb d n) (f (n - d)) t
  where
    and_assoc : (a b c : Bool) → (a && (b && c)) ≡ ((a && b) && c)
    and_assoc true b c = refl
    and_assoc false b c = refl
less_and (negsuc d) f t n = refl

module _ (d : Axis → ℤ) (s : Axis → ℕ) (h : ℕ → ℕ → ℕ → Bool) (i j k : ℕ) where
  back_cell : cell_less (opposite d) (λ x y z. in_frame s x y z && cell_less d h x y z) i j k ≡ (cell_less (opposite d) (in_frame s) i j k && h i j k)
  back_cell =
      less_at (opposite d X) i _ _ (λ x lx. less_at (opposite d Y) j _ _ (λ y ly. less_at (opposite d Z) k _ (λ z. in_frame s x y z && h i j k) (λ z lz.
      ap (λ b. in_frame s x y z && b)
      (lands_back (d X) i x (λ u. less (d Y) (λ v. less (d Z) (h u v) z) y) lx ∙ lands_back (d Y) j y (λ v. less (d Z) (h i v) z) ly ∙ lands_back (d Z) k z (h i j) lz))))
      ∙ ap (λ (f : ℕ → Bool). less (opposite d X) f i)
      (fun_ext (λ x. ap (λ (f : ℕ → Bool). less (opposite d Y) f j) (fun_ext (λ y. less_and (opposite d Z) (in_frame s x y) (h i j k) k))
      ∙ less_and (opposite d Y) (λ y. less (opposite d Z) (in_frame s x y) k) (h i j k) j))
      ∙ less_and (opposite d X) (λ x. less (opposite d Y) (λ y. less (opposite d Z) (in_frame s x y) k) j) (h i j k) i

stayed : (b x t r : Bool) → (b ≡ false → x ≡ false) → r ≡ (t && x) → Iff ((b && r) ≡ true) ((x ≡ true) × (t ≡ true))
stayed b x t r o e = (
  (λ h. let p = and_parts t x (sym e ∙ (and_parts b r h).1) in (p.1, p.0)),
  (λ h. and_from b r (in_it b x o h.0) (e ∙ and_from t x h.1 h.0)),
)

-- Sums that balance term by term.
balance : (u v w t : ℕ → ℕ) (n : ℕ) → ((i : ℕ) → i < n → u i + v i ≡ w i + t i) → total u n + total v n ≡ total w n + total t n
balance u v w t zero h = refl
balance u v w t (suc n) h = omega (arith, balance u v w t n (λ i l. h i (omega arith)), h n (omega arith))

cells_in : (Axis → ℕ) → (ℕ → ℕ → ℕ → Bool) → ℕ
cells_in s h = total (λ i. total (λ j. total (λ k. one (h i j k)) (s Z)) (s Y)) (s X)

cells_is : (m : Solid) → solid_cells m ≡ cells_in m.side m.holds
unfolding solid_cells cells_in
cells_is m = refl

joined_sums : (m n : Solid) → cells_in m.side (joined Union m n).holds + cells_in m.side (joined Intersection m n).holds ≡ cells_in m.side m.holds + cells_in m.side n.holds
unfolding cells_in
joined_sums m n =
    balance _ _ _ _ (m.side X) (λ i hi. balance _ _ _ _ (m.side Y) (λ j hj. balance _ _ _ _ (m.side Z) (λ k hk.
    volume_cell (in_frame m.side i j k) (m.holds i j k) (n.holds i j k)
    (and_from _ _ (lt-ltb i (m.side X) hi) (and_from _ _ (lt-ltb j (m.side Y) hj) (lt-ltb k (m.side Z) hk))))))

volume_law : (m n : Solid) → m.side ≡ n.side → solid_cells (joined Union m n) + solid_cells (joined Intersection m n) ≡ solid_cells m + solid_cells n
volume_law m n same =
    ap₂ ◌+◌ (cells_is (joined Union m n)) (cells_is (joined Intersection m n))
    ∙ joined_sums m n
    ∙ sym (ap₂ ◌+◌ (cells_is m) (cells_is n ∙ ap (λ s. cells_in s n.holds) (sym same)))

pub lawful_layers : (m n : Solid) → Inside m → LawfulLayers m n
lawful_layers m n inside =
    let frame = in_frame m.side in
    record {
      twice = ap (λ (h : ℕ → ℕ → ℕ → Bool). record { side = m.side; holds = h }) (fun_ext (λ i. fun_ext (λ j. fun_ext (λ k. twice_cell (frame i j k) (m.holds i j k) (inside i j k)))));
      union = λ i j k e. union_cell (frame i j k) (m.holds i j k) (n.holds i j k) e;
      intersection = λ i j k. intersection_cell (frame i j k) (m.holds i j k) (n.holds i j k) (inside i j k);
      difference = λ i j k. difference_cell (frame i j k) (m.holds i j k) (n.holds i j k) (inside i j k);
      itself = λ i j k. itself_cell (frame i j k) (m.holds i j k);
      back = λ d i j k. stayed (frame i j k) (m.holds i j k) _ _ (inside i j k) (back_cell d m.side m.holds i j k);
      volumes = volume_law m n;
    }

-- frames with equal sides along each axis
pub sides_same : (s t : Axis → ℕ) → same_sides s t ≡ true → s ≡ t
sides_same s t e =
    let p = and_parts _ _ e in
    let q = and_parts _ _ p.1 in
    by_axis s t (eqb-true (s X) (t X) p.0) (eqb-true (s Y) (t Y) q.0) (eqb-true (s Z) (t Z) q.1)

-- The volumes of two solids, counted.
module _ (m n : Solid) (first second both : ℕ) (is-first : first ≡ solid_cells m) (is-second : second ≡ solid_cells n) (is-both : both ≡ solid_cells (joined Intersection m n))
    (same : same_sides m.side n.side ≡ true) where
  sum : solid_cells (joined Union m n) + both ≡ first + second
  sum = ap (λ (x : ℕ). solid_cells (joined Union m n) + x) is-both ∙ volume_law m n (sides_same m.side n.side same) ∙ sym (ap₂ ◌+◌ is-first is-second)

  pub both_within : both ≤ first + second
  both_within = omega (arith, sum)

  pub measured : Some (record { first = first; second = second; union = first + second - both; intersection = both }) ≡ volumes_of m n
  measured =
      let union : first + second - both ≡ solid_cells (joined Union m n) = omega (arith, sum) in
      ap₂ (λ (x y : ℕ). Some (record { first = x; second = y; union = first + second - both; intersection = both })) is-first is-second
      ∙ ap₂ (λ (u x : ℕ). Some (record { first = solid_cells m; second = solid_cells n; union = u; intersection = x })) union is-both
      ∙ sym (cond-true _ _ _ same)
