-- The boxes of a cut have as many cells as the frame has solid ones.
use Rattle.std.proofs.Common.{◌≡◌, ℕ, zero, suc, ◌+◌, ◌-◌, ◌*◌, ◌<◌, ◌≤◌, min, Bool, true, false, ◌&&◌, leb, List, [], ◌∷◌, sum_by, sym, refl, ap, ◌∙◌, ap₂, ⊎_elim, mul_assoc, add-mul, one-mul, mul-zero, zero-mul, mul-add, arith}
use Rattle.std.proofs.lemmas.List.Sums.{sum_by-cons}
use Rattle.std.proofs.lemmas.Bool.{and_left, and_right, cases_lt, le-ltb, lt-leb}
use Rattle.body.specs.Corners.{All}
use Rattle.body.specs.Solids.{one, total}
use Rattle.boxes.specs.Cuts.{Bounds, boxes}
use Rattle.boxes.specs.Covers.{LongestBox, SameVolume, between, holds_cell, volume}
use Rattle.boxes.proofs.Covering.{between_is, covered_once, each_longest, lowest_plate, lowest_run}
use Rattle.boxes.proofs.Parts.{all_weaker}

total_same : (u v : ℕ → ℕ) (n : ℕ) → ((i : ℕ) → i < n → u i ≡ v i) → total u n ≡ total v n
total_same u v zero same = refl
total_same u v (suc n) same = ap₂ (λ (x y : ℕ). x + y) (total_same u v n (λ i h. same i (omega arith))) (same n (omega arith))

total_zero : (n : ℕ) → total (λ _. 0) n ≡ 0
total_zero zero = refl
total_zero (suc n) = omega (arith, total_zero n)

total_add : (u v : ℕ → ℕ) (n : ℕ) → total (λ i. u i + v i) n ≡ total u n + total v n
total_add u v zero = refl
total_add u v (suc n) = omega (arith, total_add u v n)

total_times : (u : ℕ → ℕ) (m n : ℕ) → total (λ i. u i * m) n ≡ total u n * m
total_times u m zero = sym (zero-mul m)
total_times u m (suc n) = ap (λ (t : ℕ). t + u n * m) (total_times u m n) ∙ sym (add-mul (total u n) (u n) m)

times_total : (m : ℕ) (u : ℕ → ℕ) (n : ℕ) → total (λ i. m * u i) n ≡ m * total u n
times_total m u zero = sym (mul-zero m)
times_total m u (suc n) = ap (λ (t : ℕ). t + m * u n) (times_total m u n) ∙ sym (mul-add m (total u n) (u n))

one_and : (s t : Bool) → one (s && t) ≡ one s * one t
one_and true t = sym (one-mul (one t))
one_and false t = sym (zero-mul (one t))

-- as many numbers as there are from lo up to hi
total_between : (lo hi n : ℕ) → lo ≤ hi → hi ≤ n → total (λ p. one (between lo hi p)) n ≡ hi - lo
total_between lo hi n a b = upto n ∙ omega arith
  where
    upto : (m : ℕ) → total (λ p. one (between lo hi p)) m ≡ min m hi - lo
    upto zero = omega arith
    upto (suc m) =
        let next : (t : Bool) → between lo hi m ≡ t → total (λ p. one (between lo hi p)) (suc m) ≡ min m hi - lo + one t =
        λ t e. ap₂ (λ (r s : ℕ). r + s) (upto m) (ap one e)
        in
        ⊎_elim (λ (l : m < lo). next false (and_left (leb lo m) _ (lt-leb lo m l)) ∙ omega arith)
        (λ (l : lo ≤ m). ⊎_elim
        (λ (h : m < hi). next true (between_is lo hi m l h) ∙ omega arith)
        (λ (h : hi ≤ m). next false (and_right (leb lo m) _ (le-ltb m hi h)) ∙ omega arith)
        (cases_lt m hi))
        (cases_lt m lo)

module _ {A : Type 0} where
  sum_same : (u v : A → ℕ) (l : List A) → All (λ x. u x ≡ v x) l → sum_by u l ≡ sum_by v l
  sum_same u v [] same = refl
  sum_same u v (x ∷ l) same = sum_by-cons u x l ∙ ap₂ (λ (s t : ℕ). s + t) same.0 (sum_same u v l same.1) ∙ sym (sum_by-cons v x l)

  sum_total : (w : A → ℕ → ℕ) (n : ℕ) (l : List A) → sum_by (λ x. total (w x) n) l ≡ total (λ i. sum_by (λ x. w x i) l) n
  sum_total w n [] = sym (total_zero n)
  sum_total w n (x ∷ l) =
      sum_by-cons (λ x. total (w x) n) x l
      ∙ ap (λ (t : ℕ). total (w x) n + t) (sum_total w n l)
      ∙ sym (total_add (w x) (λ i. sum_by (λ x. w x i) l) n)
      ∙ total_same _ _ n (λ i _. sym (sum_by-cons (λ x. w x i) x l))

-- the cells of tests along each axis
total_product : (s t u : ℕ → Bool) (na nb nc : ℕ) → total (λ i. total (λ j. total (λ k. one (s i && (t j && u k))) nc) nb) na ≡ total (λ i. one (s i)) na * total (λ j. one (t j)) nb * total (λ k. one (u k)) nc
total_product s t u na nb nc =
    let w : ℕ = total (λ k. one (u k)) nc in
    total_same _ _ na (λ i _. total_same _ _ nb (λ j _.
    total_same _ _ nc (λ k _. one_and (s i) (t j && u k) ∙ ap (λ (m : ℕ). one (s i) * m) (one_and (t j) (u k)) ∙ sym (mul_assoc (one (s i)) (one (t j)) (one (u k))))
    ∙ times_total (one (s i) * one (t j)) (λ k. one (u k)) nc)
    ∙ total_times (λ j. one (s i) * one (t j)) w nb
    ∙ ap (λ (m : ℕ). m * w) (times_total (one (s i)) (λ j. one (t j)) nb))
    ∙ total_times (λ i. one (s i) * total (λ j. one (t j)) nb) w na
    ∙ ap (λ (m : ℕ). m * w) (total_times (λ i. one (s i)) (total (λ j. one (t j)) nb) na)

module _ (f : ℕ → ℕ → ℕ → Bool) (na nb nc : ℕ) where
  -- all cells of a longest box are in the frame
  volume_is : (x : Bounds) → LongestBox f na nb nc x → volume x ≡ total (λ i. total (λ j. total (λ k. one (holds_cell x i j k)) nc) nb) na
  volume_is x w =
      let p = w.planes in
      let q = lowest_plate f na nb nc x w in
      let r = lowest_run f na nb nc x w in
      let ea = total_between x.a x.a' na (omega (arith, p.some)) p.within in
      let eb = total_between x.b x.b' nb (omega (arith, q.some)) q.within in
      let ec = total_between x.c x.c' nc (omega (arith, r.some)) r.within in
      sym (total_product (between x.a x.a') (between x.b x.b') (between x.c x.c') na nb nc
      ∙ ap₂ (λ (m n : ℕ). m * n) (ap₂ (λ (m n : ℕ). m * n) ea eb) ec)

  pub same_volume : SameVolume f na nb nc
  same_volume =
      let l = boxes f na nb nc in
      sum_same volume _ l (all_weaker (LongestBox f na nb nc) _ l volume_is (each_longest f na nb nc))
      ∙ sum_total (λ x i. total (λ j. total (λ k. one (holds_cell x i j k)) nc) nb) na l
      ∙ total_same _ _ na (λ i li.
      sum_total (λ x j. total (λ k. one (holds_cell x i j k)) nc) nb l
      ∙ total_same _ _ nb (λ j lj.
      sum_total (λ x k. one (holds_cell x i j k)) nc l
      ∙ total_same _ _ nc (λ k lk. covered_once f na nb nc i j k li lj lk)))
