-- Scans: the cells of a frame one by one, and their packing into words.
use Rattle.std.specs.Prelude.{◌≡◌, ℕ, ◌+◌, ◌-◌, ◌*◌, ◌/◌, ◌%◌, ◌<◌, min, Bool, true, false, ◌&&◌, ◌||◌, List, [], ◌∷◌, map, length, take, drop, ◌==◌, slice_index, slice_index_or}
use Rattle.geometry.specs.Frames.{in_frame}
use Rattle.geometry.specs.declared.axis.Axis.{Axis}
use Rattle.geometry.specs.declared.axis.Axis.TheVariants.{Y, Z}
use Rattle.body.specs.Grids.{row_words}
use Rattle.body.specs.Solids.{Solid, one}

-- what a scan means: its cells come by x, then y, then z, and a cell that is missing is empty
unfoldable pub scanned : (Axis → ℕ) → List Bool → Solid
scanned s cells = record { side = s; holds = λ i j k. in_frame s i j k && slice_index_or cells ((i * s Y + j) * s Z + k) false }

-- the word whose bits are these, the first the lowest
abbrev pub word_of : List Bool → ℕ
word_of [] = 0
word_of (b ∷ bs) = word_of bs * 2 + one b

-- word n of the packing of rows of `side` cells: every row begins with a word of its own
unfoldable pub packed_word : ℕ → List Bool → ℕ → ℕ
packed_word side cells n =
    let first = n % row_words side * 64 in
    word_of (take (min (side - first) 64) (drop (n / row_words side * side + first) cells))

-- the bytes of a row: a point is an empty cell, a hash a solid one
abbrev pub solid_byte : ℕ → Bool
solid_byte b = b == 35

abbrev pub cell_byte : ℕ → Bool
cell_byte b = b == 46 || solid_byte b

-- the bytes are those of a row
abbrev pub Row : List ℕ → Type 0
Row bytes = (k : ℕ) → k < length bytes → cell_byte (slice_index bytes k) ≡ true

abbrev pub row_cells : List ℕ → List Bool
row_cells bytes = map solid_byte bytes
