-- The packing of a scan means what the scan means.
use Rattle.std.proofs.Common.{◌≡◌, ℕ, ◌+◌, ◌-◌, ◌*◌, ◌/◌, ◌%◌, ◌<◌, ◌≤◌, min, Bool, true, false, ◌&&◌, List, get_or, take, drop, map, sym, refl, ap, ◌∙◌, arith}
use mathlib.Core.Path.{fun_ext}
use Rattle.std.proofs.lemmas.Nat.{div-mul-add, mod-mul-add, mul-add-lt, mul-le}
use Rattle.std.proofs.lemmas.List.{get_or-take, get_or-drop}
use Rattle.std.proofs.lemmas.List.FromFn.{get_or-map-range_with_len}
use Rattle.std.specs.List.{range_with_len}
use Rattle.std.proofs.lemmas.Bool.{and_parts, ltb-true}
use Rattle.geometry.specs.Frames.{in_frame}
use Rattle.geometry.specs.declared.axis.Axis.{Axis}
use Rattle.geometry.specs.declared.axis.Axis.TheVariants.{X, Y, Z}
use Rattle.body.specs.Grids.{bit, packed, row_words, word_index, words_needed}
use Rattle.text.specs.Scans.{packed_word, scanned, word_of}
use Rattle.text.proofs.Scanning.{bit_word}

and_same : (b x y : Bool) → (b ≡ true → x ≡ y) → (b && x) ≡ (b && y)
and_same true x y h = h refl
and_same false x y h = refl

-- word n, by its row and its place in the row
pub packed_word_at : (side : ℕ) (cells : List Bool) (n row place : ℕ) → n / row_words side ≡ row → n % row_words side ≡ place → packed_word side cells n ≡ word_of (take (min (side - place * 64) 64) (drop (row * side + place * 64) cells))
unfolding packed_word
packed_word_at side cells n row place d m =
    ap (λ p. word_of (take (min (side - p * 64) 64) (drop (n / row_words side * side + p * 64) cells))) m
    ∙ ap (λ r. word_of (take (min (side - place * 64) 64) (drop (r * side + place * 64) cells))) d

-- the same as it is worked out
pub packed_word_from : (side : ℕ) (cells : List Bool) (n w count : ℕ) (part : List Bool) → w ≡ row_words side → count ≡ min (side - n % w * 64) 64 → part ≡ take count (drop (n / w * side + n % w * 64) cells) → word_of part ≡ packed_word side cells n
packed_word_from side cells n w count part v m p =
    ap word_of p
    ∙ ap (λ k. word_of (take k (drop (n / w * side + n % w * 64) cells))) m
    ∙ sym (packed_word_at side cells n (n / w) (n % w) (ap (λ u. n / u) (sym v)) (ap (λ u. n % u) (sym v)))

-- a frame takes few words
pub words_few : (s : Axis → ℕ) → s X ≤ 1024 → s Y ≤ 1024 → s Z ≤ 1024 → words_needed s ≤ 16777216
words_few s hx hy hz = omega (arith, mul-le (s X * s Y) (row_words (s Z)) (1024 * 1024) 16 (mul-le (s X) (s Y) 1024 1024 hx hy) (omega arith))

-- cell k of a row is a bit of the word at k / 64 in the row
pub packed_bit : (side : ℕ) (cells : List Bool) (row k : ℕ) → k < side → bit (packed_word side cells (row * row_words side + k / 64)) (k % 64) ≡ get_or cells (row * side + k) false
packed_bit side cells row k h =
    let w = row_words side in
    let in_row : k / 64 < w = omega arith in
    let first = k / 64 * 64 in
    ap (λ v. bit v (k % 64)) (packed_word_at side cells (row * w + k / 64) row (k / 64) (div-mul-add row w (k / 64) in_row) (mod-mul-add row w (k / 64) in_row))
    ∙ bit_word _ (k % 64)
    ∙ get_or-take (min (side - first) 64) (drop (row * side + first) cells) (k % 64) false (omega arith)
    ∙ get_or-drop (row * side + first) cells (k % 64) false
    ∙ ap (λ n. get_or cells n false) (omega arith)

module _ (s : Axis → ℕ) (cells : List Bool) (words : List ℕ) (each : (n : ℕ) → n < words_needed s → get_or words n 0 ≡ packed_word (s Z) cells n) where
  cell_same : (i j k : ℕ) → in_frame s i j k ≡ true → bit (get_or words (word_index s i j k) 0) (k % 64) ≡ get_or cells ((i * s Y + j) * s Z + k) false
  cell_same i j k inside =
      let x = and_parts _ _ inside in
      let y = and_parts _ _ x.1 in
      let i< : i < s X = ltb-true i (s X) x.0 in
      let j< : j < s Y = ltb-true j (s Y) y.0 in
      let k< : k < s Z = ltb-true k (s Z) y.1 in
      let w = row_words (s Z) in
      let in_row : k / 64 < w = omega arith in
      let row = i * s Y + j in
      let row< : row < s X * s Y = omega (arith, mul-add-lt i (s Y) j (s X) i< j<) in
      ap (λ v. bit v (k % 64)) (each (row * w + k / 64) (omega (arith, mul-add-lt row w (k / 64) (s X * s Y) row< in_row)))
      ∙ packed_bit (s Z) cells row k k<

  -- words that are the packing of a scan mean the scan
  pub packed_scan : packed s words ≡ scanned s cells
  unfolding packed scanned
  packed_scan = ap (λ h. record { side = s; holds = h }) (fun_ext (λ i. fun_ext (λ j. fun_ext (λ k. and_same (in_frame s i j k) _ _ (cell_same i j k)))))

-- and so do words that are worked out one by one
pub packed_map : (s : Axis → ℕ) (cells : List Bool) (words : List ℕ) (side count : ℕ) → side ≡ s Z → count ≡ words_needed s → words ≡ map (λ n. packed_word side cells n) (range_with_len 0 count) → packed s words ≡ scanned s cells
packed_map s cells words side count is all w =
    packed_scan s cells words (λ n h. ap (λ v. get_or v n 0) w ∙ get_or-map-range_with_len _ 0 count n n 0 (omega arith) (omega arith) ∙ ap (λ z. packed_word z cells n) is)
