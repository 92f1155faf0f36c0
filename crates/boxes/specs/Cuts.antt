-- Runs, plates and boxes of a set of cells, by coordinates a, b and c.
use Rattle.std.specs.Prelude.{ℕ, Bool, cond, List, [], ◌∷◌}
use Rattle.tables.specs.Tables.{listed}
use Rattle.boxes.specs.Stretches.{opens, reach, stretch}

-- a box by its bounds along a, b and c
pub record Bounds : Type 0 where
  pub a : ℕ
  pub a' : ℕ
  pub b : ℕ
  pub b' : ℕ
  pub c : ℕ
  pub c' : ℕ

-- the cells f of a frame with these sides
module _ (f : ℕ → ℕ → ℕ → Bool) (na nb nc : ℕ) where
  -- the cells from c up to c' are a run of the row (a, b): a longest stretch of solid ones
  abbrev pub run : ℕ → ℕ → ℕ → ℕ → Bool
  run a b c c' = stretch (f a b) nc c c'

  -- that run is a plate from b up to b': a longest stretch of rows in which it is a run
  abbrev pub plate : ℕ → ℕ → ℕ → ℕ → ℕ → Bool
  plate a b b' c c' = stretch (λ j. run a j c c') nb b b'

  -- where the run that begins at (a, b, c) ends, where its plate does, and where the plate's box does
  abbrev pub run_end : ℕ → ℕ → ℕ → ℕ
  run_end a b c = reach (f a b) nc c

  abbrev pub plate_end : ℕ → ℕ → ℕ → ℕ → ℕ
  plate_end a b c c' = reach (λ j. run a j c c') nb b

  abbrev pub box_end : ℕ → ℕ → ℕ → ℕ → ℕ → ℕ
  box_end a b b' c c' = reach (λ i. plate i b b' c c') na a

  -- the box whose lowest cell is (a, b, c), if there is one: a run begins there, its plate does, and
  -- the plate's box does
  abbrev pub box_of_plate : ℕ → ℕ → ℕ → ℕ → ℕ → List Bounds
  box_of_plate a b b' c c' =
      cond (opens (λ i. plate i b b' c c') a) (record { a = a; a' = box_end a b b' c c'; b = b; b' = b'; c = c; c' = c' } ∷ []) []

  abbrev pub box_of_run : ℕ → ℕ → ℕ → ℕ → List Bounds
  box_of_run a b c c' = cond (opens (λ j. run a j c c') b) (box_of_plate a b (plate_end a b c c') c c') []

  unfoldable pub box_at : ℕ → ℕ → ℕ → List Bounds
  box_at a b c = cond (opens (f a b) c) (box_of_run a b c (run_end a b c)) []

  -- the boxes by their lowest cell's a, then b, then c
  abbrev pub row_boxes : ℕ → ℕ → List Bounds
  row_boxes a b = listed (box_at a b) nc 0

  abbrev pub plane_boxes : ℕ → List Bounds
  plane_boxes a = listed (row_boxes a) nb 0

  abbrev pub boxes : List Bounds
  boxes = listed plane_boxes na 0
