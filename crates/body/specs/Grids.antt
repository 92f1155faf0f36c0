-- Packed grids: cells as the bits of 64-bit words.
use Rattle.std.specs.Prelude.{ℕ, zero, suc, ◌+◌, ◌-◌, ◌*◌, ◌/◌, ◌%◌, Bool, false, cond, ◌&&◌, ◌||◌, List, ◌==◌, nat_lt, slice_index}
use Rattle.geometry.specs.Frames.{in_frame}
use Rattle.geometry.specs.declared.axis.Axis.{Axis}
use Rattle.geometry.specs.declared.axis.Axis.TheVariants.{X, Y, Z}
use Rattle.body.specs.Solids.{Solid, differ}

-- bit k of a word, bit 0 the lowest
abbrev pub bit : ℕ → ℕ → Bool
bit w zero = w % 2 == 1
bit w (suc k) = bit (w / 2) k

-- how many words a row of cells along z takes: its side over 64, rounded up
abbrev pub row_words : ℕ → ℕ
row_words side = (side + 63) / 64

-- how many words a grid takes
abbrev pub words_needed : (Axis → ℕ) → ℕ
words_needed s = s X * s Y * row_words (s Z)

-- the word that holds cell (i, j, k)
abbrev pub word_index : (Axis → ℕ) → ℕ → ℕ → ℕ → ℕ
word_index s i j k = (i * s Y + j) * row_words (s Z) + k / 64

-- what a grid means: a cell of the frame is solid when its bit is one; a word that is missing reads as 0
unfoldable pub packed : (Axis → ℕ) → List ℕ → Solid
packed s words = record { side = s; holds = λ i j k. in_frame s i j k && bit (slice_index words (word_index s i j k)) (k % 64) }

-- Q holds of some number below n
abbrev pub some : (ℕ → Bool) → ℕ → Bool
some Q zero = false
some Q (suc n) = some Q n || Q n

-- the first of the k numbers from i on of which Q holds, or i + k
abbrev pub first : (ℕ → Bool) → ℕ → ℕ → ℕ
first Q zero i = i
first Q (suc k) i = cond (Q i) i (first Q k (suc i))

-- some row of cells along z changes between planes n - 1 and n
abbrev pub row_changes : Solid → ℕ → Bool
row_changes m n = some (λ i. some (λ j. differ (m.holds i j n) (m.holds i j (n - 1))) (m.side Y)) (m.side X)

-- the skips of a grid: along z to the next plane at which some row changes, or to the side; along x
-- and y to the next plane
unfoldable pub grid_skip : Solid → Axis → ℕ → ℕ
grid_skip m X p = cond (nat_lt p (m.side X)) (p + 1) (m.side X)
grid_skip m Y p = cond (nat_lt p (m.side Y)) (p + 1) (m.side Y)
grid_skip m Z p = cond (nat_lt p (m.side Z)) (first (row_changes m) (m.side Z - (p + 1)) (p + 1)) (m.side Z)

-- The same by rows of words, for the functions that walk them.

-- cell k of a row along z whose words begin at `base`
abbrev pub row_bit : List ℕ → ℕ → ℕ → Bool
row_bit words base k = bit (slice_index words (base + k / 64)) (k % 64)

-- cells n - 1 and n of such a row differ
abbrev pub row_differs : List ℕ → ℕ → ℕ → Bool
row_differs words base n = differ (row_bit words base n) (row_bit words base (n - 1))

-- one of the first rows, of `width` words each, changes between cells n - 1 and n
abbrev pub rows_differ : List ℕ → ℕ → ℕ → ℕ → Bool
rows_differ words width rows n = some (λ row. row_differs words (row * width) n) rows
