-- The words of a row: its cells, and where they change.
use Rattle.std.proofs.Common.{◌≡◌, ℕ, zero, suc, ◌+◌, ◌-◌, ◌*◌, ◌/◌, ◌%◌, ◌^◌, ◌<◌, ◌≤◌, true, false, eqb, List, get_or, sym, refl, ap, ◌∙◌, subst, ap₂, ⊎_elim, add-one, arith}
use lib.Bits.{bit_or, bit_xor}
use lib.Count.{count_trailing_zeros}
use Rattle.body.specs.Grids.{bit, first, row_bit, row_differs, rows_differ}
use Rattle.body.specs.Solids.{differ}
use Rattle.std.proofs.lemmas.Bool.{both_ways, cases_lt}
use Rattle.body.proofs.Bits.{bit_high, bit_shr, bit-bit_xor, shifted_in_first, shifted_in_next, trailing_at, trailing_below}
use Rattle.body.proofs.GridSearch.{first_either, first_never, first_stays, some_more}

pub row_bit_at : (words : List ℕ) (base w b : ℕ) → b < 64 → row_bit words base (64 * w + b) ≡ bit (get_or words (base + w) 0) b
row_bit_at words base w b h =
    let q : (64 * w + b) / 64 ≡ w = omega arith in
    let r : (64 * w + b) % 64 ≡ b = omega arith in
    ap₂ (λ (m n : ℕ). bit (get_or words (base + m) 0) n) q r

-- a word against itself, shifted by one place and with the top bit of the word before carried in
pub changes_at : (words : List ℕ) (base w c b : ℕ) → b < 64 → 0 < 64 * w + b → c < 2 → (0 < w → (k : ℕ) → k ≡ 63 → eqb c 1 ≡ bit (get_or words (base + (w - 1)) 0) k)
    → bit (bit_xor (get_or words (base + w) 0) (bit_or ((get_or words (base + w) 0 * 2) % 2 ^ 64) c)) b ≡ row_differs words base (64 * w + b)
changes_at words base w c zero h pos small carry =
    let word = get_or words (base + w) 0 in
    let here = row_bit_at words base w 0 h in
    let back : 64 * w + 0 - 1 ≡ 64 * (w - 1) + 63 = omega arith in
    let before : row_bit words base (64 * w + 0 - 1) ≡ eqb c 1 =
    ap (row_bit words base) back ∙ row_bit_at words base (w - 1) 63 (omega arith) ∙ sym (carry (omega arith) 63 refl)
    in
    bit-bit_xor word _ 0 ∙ ap₂ differ (sym here) (shifted_in_first word c small ∙ sym before)
changes_at words base w c (suc b) h pos small carry =
    let word = get_or words (base + w) 0 in
    let here = row_bit_at words base w (suc b) h in
    let back : 64 * w + suc b - 1 ≡ 64 * w + b = omega arith in
    let before : row_bit words base (64 * w + suc b - 1) ≡ bit word b = ap (row_bit words base) back ∙ row_bit_at words base w b (omega arith) in
    bit-bit_xor word _ (suc b) ∙ ap₂ differ (sym here) (shifted_in_next word c b small (omega arith) ∙ sym before)

-- the zeros below the lowest of the changes of a word from a place on
abbrev pub zeros_from : ℕ → ℕ → ℕ
zeros_from r at = count_trailing_zeros 64 (r / 2 ^ (at % 64))

-- from the first place of a word on, all of its zeros
pub zeros_whole : (r w : ℕ) → zeros_from r (64 * w) ≡ count_trailing_zeros 64 r
zeros_whole r w =
    let low : (64 * w) % 64 ≡ 0 = omega arith in
    let all : r / 2 ^ 0 ≡ r = omega arith in
    ap (λ (k : ℕ). count_trailing_zeros 64 (r / 2 ^ k)) low ∙ ap (count_trailing_zeros 64) all

-- with r the changes of the word of a place, no cell from there on changes until past those zeros
module _ (words : List ℕ) (base at r : ℕ) (positive : 0 < at)
    (is : (b : ℕ) → b < 64 → 0 < 64 * (at / 64) + b → bit r b ≡ row_differs words base (64 * (at / 64) + b)) where
  differs_at : (d : ℕ) → at % 64 + d < 64 → row_differs words base (at + d) ≡ bit (r / 2 ^ (at % 64)) d
  differs_at d h =
      let place : 64 * (at / 64) + (at % 64 + d) ≡ at + d = omega arith in
      ap (row_differs words base) (sym place) ∙ sym (is (at % 64 + d) h (omega arith)) ∙ sym (bit_shr r (at % 64) d)

  pub unchanged_below : (n : ℕ) → at ≤ n → n < at + zeros_from r at → n < (at / 64 + 1) * 64 → row_differs words base n ≡ false
  unchanged_below n a b l =
      let place : at + (n - at) ≡ n = omega arith in
      ap (row_differs words base) (sym place) ∙ differs_at (n - at) (omega arith) ∙ trailing_below 64 (r / 2 ^ (at % 64)) (n - at) (omega arith)

  pub changes_past : r < 2 ^ 64 → zeros_from r at < 64 → (at + zeros_from r at < (at / 64 + 1) * 64) × (row_differs words base (at + zeros_from r at) ≡ true)
  changes_past fits small =
      let z = zeros_from r at in
      let set : bit (r / 2 ^ (at % 64)) z ≡ true = trailing_at 64 (r / 2 ^ (at % 64)) small in
      let within : at % 64 + z < 64 =
      ⊎_elim (λ (h : at % 64 + z < 64). h) (λ (h : 64 ≤ at % 64 + z). absurd (both_ways _ (bit_high r 64 (at % 64 + z) fits h) (sym (bit_shr r (at % 64) z) ∙ set)))
      (cases_lt (at % 64 + z) 64)
      in
      (omega arith, differs_at z within ∙ set)

-- the first change in one row more, in no row, and in all of them once there can be none before
module _ (words : List ℕ) (width from limit : ℕ) (within : from ≤ limit) where
  pub rows_none : limit ≡ first (rows_differ words width 0) (limit - from) from
  rows_none = first_never _ from limit within (λ n. refl)

  pub rows_more : (row best r : ℕ) → best ≡ first (rows_differ words width row) (limit - from) from → r ≡ first (row_differs words (row * width)) (best - from) from
      → r ≡ first (rows_differ words width (row + 1)) (limit - from) from
  rows_more row best r so_far next =
      subst (λ (k : ℕ). r ≡ first (rows_differ words width k) (limit - from) from) (sym (add-one row))
      (first_either (row_differs words (row * width)) (rows_differ words width row) from limit best r within so_far next)

  pub rows_rest : (row rows : ℕ) → row ≤ rows → from ≡ first (rows_differ words width row) (limit - from) from → from ≡ first (rows_differ words width rows) (limit - from) from
  rows_rest row rows h found =
      let all : row + (rows - row) ≡ rows = omega arith in
      first_stays (rows_differ words width row) (rows_differ words width rows) from limit within
      (λ n e. subst (λ (k : ℕ). rows_differ words width k n ≡ true) all (some_more (λ i. row_differs words (i * width) n) row (rows - row) e))
      (sym found)
