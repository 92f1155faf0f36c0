-- Sums over rows and words, and the solid cells of a grid.
use Rattle.std.proofs.Common.{◌≡◌, ℕ, zero, suc, ◌+◌, ◌-◌, ◌*◌, ◌/◌, ◌%◌, ◌^◌, ◌<◌, ◌≤◌, Bool, true, false, List, get_or, sym, refl, ap, ◌∙◌, ap₂, add-zero, add-suc, mod-eq_of_lt, suc-mul, zero-mul, arith}
use lib.Bits.{bit_and}
use lib.Count.{ones}
use Rattle.std.proofs.lemmas.Nat.{and_mask, one_shl, mod_below}
use Rattle.geometry.specs.declared.axis.Axis.{Axis}
use Rattle.geometry.specs.declared.axis.Axis.TheVariants.{X, Y, Z}
use Rattle.body.specs.Grids.{packed, row_bit, row_words}
use Rattle.body.specs.Solids.{one, solid_cells, total}
use Rattle.body.proofs.Bits.{ones_low}
use Rattle.body.proofs.GridMeaning.{in_frame_from, packed_within}
use Rattle.body.proofs.GridRows.{row_bit_at}

total_same : (f g : ℕ → ℕ) (n : ℕ) → ((i : ℕ) → i < n → f i ≡ g i) → total f n ≡ total g n
total_same f g zero same = refl
total_same f g (suc n) same = ap₂ (λ (x y : ℕ). x + y) (total_same f g n (λ i h. same i (omega arith))) (same n (omega arith))

pub total_le : (f : ℕ → ℕ) (b : ℕ) → ((i : ℕ) → f i ≤ b) → (n : ℕ) → total f n ≤ n * b
total_le f b each zero = omega arith
total_le f b each (suc n) = omega (arith, suc-mul n b, total_le f b each n, each n)

total_split : (f : ℕ → ℕ) (m k : ℕ) → total f (m + k) ≡ total f m + total (λ j. f (m + j)) k
total_split f m zero = ap (total f) (add-zero m) ∙ sym (add-zero (total f m))
total_split f m (suc k) = ap (total f) (add-suc m k) ∙ omega (arith, total_split f m k)

-- rows by one number, or by two
total_grid : (f : ℕ → ℕ) (a b : ℕ) → total f (a * b) ≡ total (λ i. total (λ j. f (i * b + j)) b) a
total_grid f zero b = ap (total f) (zero-mul b)
total_grid f (suc a) b = ap (total f) (suc-mul a b) ∙ total_split f (a * b) b ∙ ap (λ (n : ℕ). n + total (λ j. f (a * b + j)) b) (total_grid f a b)

-- the solid cells of a row
abbrev pub row_total : List ℕ → ℕ → ℕ → ℕ
row_total words base side = total (λ k. one (row_bit words base k)) side

one_le : (b : Bool) → one b ≤ 1
one_le true = omega arith
one_le false = omega arith

pub row_total_le : (words : List ℕ) (base side : ℕ) → row_total words base side ≤ side
row_total_le words base side = omega (arith, total_le (λ k. one (row_bit words base k)) 1 (λ k. one_le (row_bit words base k)) side)

module _ (words : List ℕ) (base w : ℕ) where
  row_total_more : (k : ℕ) → k ≤ 64 → row_total words base (64 * w + k) ≡ row_total words base (64 * w) + ones (get_or words (base + w) 0 % 2 ^ k)
  row_total_more k h =
      let word = get_or words (base + w) 0 in
      let cells : total (λ j. one (row_bit words base (64 * w + j))) k ≡ ones (word % 2 ^ k) =
      total_same _ _ k (λ j l. ap one (row_bit_at words base w j (omega arith))) ∙ sym (ones_low word k)
      in
      total_split (λ j. one (row_bit words base j)) (64 * w) k ∙ ap (λ (n : ℕ). row_total words base (64 * w) + n) cells

  -- one word more, and the rest of the row
  module _ (count : ℕ) (so_far : count ≡ row_total words base (64 * w)) (word : ℕ) where
    pub row_total_word : word ≡ get_or words (base + w) 0 → word < 2 ^ 64 → count + ones word ≡ row_total words base (64 * (w + 1))
    row_total_word is fits =
        let next : 64 * w + 64 ≡ 64 * (w + 1) = omega arith in
        ap₂ (λ (m n : ℕ). m + ones n) so_far (sym (mod-eq_of_lt fits) ∙ ap (λ (n : ℕ). n % 2 ^ 64) is)
        ∙ sym (row_total_more 64 (omega arith)) ∙ ap (row_total words base) next

    pub row_total_last : (side : ℕ) → w ≡ side / 64 → word ≡ get_or words (base + side / 64) 0
        → count + ones (bit_and word ((1 * 2 ^ (side % 64)) % 2 ^ 64 - 1)) ≡ row_total words base side
    row_total_last side at is =
        let k = side % 64 in
        let small : k < 64 = mod_below side 64 (omega arith) in
        let all : 64 * w + k ≡ side = omega arith in
        let here : word ≡ get_or words (base + w) 0 = is ∙ ap (λ (n : ℕ). get_or words (base + n) 0) (sym at) in
        let low : bit_and word ((1 * 2 ^ k) % 2 ^ 64 - 1) ≡ get_or words (base + w) 0 % 2 ^ k =
        ap (λ (n : ℕ). bit_and word (n - 1)) (one_shl k 64 small) ∙ and_mask word k ∙ ap (λ (n : ℕ). n % 2 ^ k) here
        in
        ap₂ (λ (m n : ℕ). m + ones n) so_far low ∙ sym (row_total_more k (omega arith)) ∙ ap (row_total words base) all

-- the solid cells of some rows, of `width` words each
abbrev pub rows_total : List ℕ → ℕ → ℕ → ℕ → ℕ
rows_total words width side rows = total (λ row. row_total words (row * width) side) rows

pub rows_total_le : (words : List ℕ) (width side rows : ℕ) → side ≤ 1024 → rows_total words width side rows ≤ rows * 1024
rows_total_le words width side rows h =
    total_le (λ row. row_total words (row * width) side) 1024 (λ row. omega (arith, row_total_le words (row * width) side)) rows

-- all rows hold the solid cells of the grid
pub solid_by_rows : (s : Axis → ℕ) (words : List ℕ) (width side rows count : ℕ) → width ≡ row_words (s Z) → side ≡ s Z → rows ≡ s X * s Y
    → count ≡ rows_total words width side rows → count ≡ solid_cells (packed s words)
unfolding packed solid_cells
solid_by_rows s words width side rows count width_is side-is rows_is is =
    is
    ∙ ap₂ (λ (w k : ℕ). rows_total words w k rows) width_is side-is
    ∙ ap (rows_total words (row_words (s Z)) (s Z)) rows_is
    ∙ total_grid (λ row. row_total words (row * row_words (s Z)) (s Z)) (s X) (s Y)
    ∙ total_same _ _ (s X) (λ i a. total_same _ _ (s Y) (λ j b. total_same _ _ (s Z) (λ k c.
    ap one (sym (packed_within s words i j k (in_frame_from s words i j k a b c))))))
