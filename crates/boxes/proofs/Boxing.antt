-- From a cell to its run, and from a run to its plate.
use Rattle.std.proofs.Common.{◌≡◌, ℕ, ◌<◌, ◌≤◌, Bool, true, false, cond, ltb, List, [], map, sym, refl, ap, ◌∙◌, subst, ⊎_elim, arith}
use Rattle.std.proofs.lemmas.Bool.{and_from, and_parts, both_ways, cases_Bool, cases_lt, eq-eqb, ltb-true}
use Rattle.geometry.specs.Frames.{in_frame}
use Rattle.geometry.specs.declared.axis.Axis.TheVariants.{X, Y, Z}
use Rattle.geometry.specs.declared.axis.AxisOrder.{AxisOrder}
use Rattle.geometry.specs.declared.axis.AxisOrder.TheVariants.{Xyz, Xzy, Yxz, Yzx, Zxy, Zyx}
use Rattle.body.specs.Solids.{Inside, Solid}
use Rattle.boxes.specs.Cuts.{box_at, box_of_plate, box_of_run}
use Rattle.boxes.specs.Orders.{cells, is_run, side_a, side_b, side_c}
use Rattle.boxes.specs.Records.{PlateAt, RunAt, plate_records, record_of, records_at, run_records}
use Rattle.boxes.specs.Stretches.{opens, reach, stretch}
use Rattle.boxes.specs.declared.record.BoxRecord.{BoxRecord}
use Rattle.boxes.proofs.Reaching.{opens_here, reaches}

-- a stretch that begins somewhere is the one up to where it reaches, which is further
pub stretch_own : (Q : ℕ → Bool) (n i : ℕ) → opens Q i ≡ true → stretch Q n i (reach Q n i) ≡ true
stretch_own Q n i e = and_from (opens Q i) _ e (eq-eqb (reach Q n i) (reach Q n i) refl)

pub reach_past : (Q : ℕ → Bool) (n i : ℕ) → Q i ≡ true → i < n → (i < reach Q n i) × (reach Q n i ≤ n)
reach_past Q n i e h =
    let r = reaches Q n i (omega arith) in
    (⊎_elim (λ (l : i < reach Q n i). l) (λ (l : reach Q n i ≤ i). let same : reach Q n i ≡ i = omega (arith, r.from) in absurd (both_ways (Q i) (ap Q (sym same) ∙ r.stop (omega (arith, same))) e)) (cases_lt i (reach Q n i)), r.to)

module _ (m : Solid) (inside : Inside m) where
  solid_inside : (x y z : ℕ) → m.holds x y z ≡ true → (x < m.side X) × (y < m.side Y) × (z < m.side Z)
  solid_inside x y z e =
      ⊎_elim
      (λ (t : in_frame m.side x y z ≡ true).
      let p = and_parts (ltb x (m.side X)) _ t in
      let q = and_parts (ltb y (m.side Y)) (ltb z (m.side Z)) p.1 in
      (ltb-true _ _ p.0, ltb-true _ _ q.0, ltb-true _ _ q.1))
      (λ (t : in_frame m.side x y z ≡ false). absurd (both_ways (m.holds x y z) (inside x y z t) e))
      (cases_Bool (in_frame m.side x y z))

  pub cells_inside : (o : AxisOrder) (a b c : ℕ) → cells m o a b c ≡ true → (a < side_a m o) × (b < side_b m o) × (c < side_c m o)
  cells_inside Xyz a b c e = let p = solid_inside a b c e in (p.0, p.1, p.2)
  cells_inside Xzy a b c e = let p = solid_inside a c b e in (p.0, p.2, p.1)
  cells_inside Yxz a b c e = let p = solid_inside b a c e in (p.1, p.0, p.2)
  cells_inside Yzx a b c e = let p = solid_inside c a b e in (p.1, p.2, p.0)
  cells_inside Zxy a b c e = let p = solid_inside b c a e in (p.2, p.0, p.1)
  cells_inside Zyx a b c e = let p = solid_inside c b a e in (p.2, p.1, p.0)

  pub run_begun : (o : AxisOrder) (a b c : ℕ) → opens (cells m o a b) c ≡ true → RunAt m o a b c (reach (cells m o a b) (side_c m o) c)
  run_begun o a b c e =
      let here = opens_here (cells m o a b) c e in
      let p = cells_inside o a b c here in
      let r = reach_past (cells m o a b) (side_c m o) c here p.2 in
      record { a_below = p.0; b_below = p.1; c_some = r.0; c_within = r.1; runs = stretch_own (cells m o a b) (side_c m o) c e }

-- a run that begins a plate
pub plate_begun : (m : Solid) (o : AxisOrder) (a b c c' : ℕ) → RunAt m o a b c c' → opens (is_run m o a c c') b ≡ true → PlateAt m o a b (reach (is_run m o a c c') (side_b m o) b) c c'
plate_begun m o a b c c' run e =
    let r = reach_past (is_run m o a c c') (side_b m o) b run.runs run.b_below in
    record { a_below = run.a_below; b_some = r.0; b_within = r.1; c_some = run.c_some; c_within = run.c_within; plates = stretch_own (is_run m o a c c') (side_b m o) b e }

-- the records that follow
pub run_records_begun : (m : Solid) (o : AxisOrder) (a b c c' : ℕ) → opens (is_run m o a c c') b ≡ true → run_records m o a b c c' ≡ plate_records m o a b (reach (is_run m o a c c') (side_b m o) b) c c'
run_records_begun m o a b c c' e =
    ap (λ t. map (record_of o) (cond t (box_of_plate (cells m o) (side_a m o) (side_b m o) (side_c m o) a b (reach (is_run m o a c c') (side_b m o) b) c c') [])) e

pub records_begun : (m : Solid) (o : AxisOrder) (a b c : ℕ) → opens (cells m o a b) c ≡ true → records_at m o a b c ≡ run_records m o a b c (reach (cells m o a b) (side_c m o) c)
unfolding box_at
records_begun m o a b c e =
    ap (λ t. map (record_of o) (cond t (box_of_run (cells m o) (side_a m o) (side_b m o) (side_c m o) a b c (reach (cells m o a b) (side_c m o) c)) [])) e

pub records_none : (m : Solid) (o : AxisOrder) (a b c : ℕ) → opens (cells m o a b) c ≡ false → records_at m o a b c ≡ []
unfolding box_at
records_none m o a b c e =
    ap (λ t. map (record_of o) (cond t (box_of_run (cells m o) (side_a m o) (side_b m o) (side_c m o) a b c (reach (cells m o a b) (side_c m o) c)) [])) e

-- what is found of the run that begins at a cell is what begins there
pub run_found : (m : Solid) → Inside m → (o : AxisOrder) (a b c c' : ℕ) (l : List BoxRecord) → opens (cells m o a b) c ≡ true → c' ≡ reach (cells m o a b) (side_c m o) c → (RunAt m o a b c c' → l ≡ run_records m o a b c c') → l ≡ records_at m o a b c
run_found m inside o a b c c' l opened is found =
    found (subst (λ e. RunAt m o a b c e) (sym is) (run_begun m inside o a b c opened)) ∙ ap (λ e. run_records m o a b c e) is ∙ sym (records_begun m o a b c opened)
