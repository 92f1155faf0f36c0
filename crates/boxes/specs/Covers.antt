-- What the boxes of a cut are: they hold each solid cell once and no other cell, and each is longest
-- along c, then b, then a.
use Rattle.std.specs.Prelude.{◌≡◌, ℕ, ◌-◌, ◌*◌, ◌<◌, ◌≤◌, Bool, false, ◌&&◌, ◌⊎◌, List, [], ◌∷◌, length, sum_by, count_by, nat_le, nat_lt, slice_index_or}
use Rattle.body.specs.Corners.{All}
use Rattle.body.specs.Solids.{one, total}
use Rattle.boxes.specs.Stretches.{Longest}
use Rattle.boxes.specs.Cuts.{Bounds, boxes, plate, run}

-- p is one of the numbers from lo up to hi
abbrev pub between : ℕ → ℕ → ℕ → Bool
between lo hi p = nat_le lo p && nat_lt p hi

-- the cell (i, j, k) is in the box
abbrev pub holds_cell : Bounds → ℕ → ℕ → ℕ → Bool
holds_cell x i j k = between x.a x.a' i && (between x.b x.b' j && between x.c x.c' k)

-- how many of the boxes pass the test
abbrev pub how_often : (Bounds → Bool) → List Bounds → ℕ
how_often Q l = count_by Q l

-- the number of cells of a box
abbrev pub volume : Bounds → ℕ
volume x = (x.a' - x.a) * (x.b' - x.b) * (x.c' - x.c)

-- the lowest cell of x comes before that of y: by a, then b, then c
abbrev pub Before : Bounds → Bounds → Type 0
Before x y = (x.a < y.a) ⊎ ((x.a ≡ y.a) × ((x.b < y.b) ⊎ ((x.b ≡ y.b) × (x.c < y.c))))

-- each box comes before all that follow it
abbrev pub Rising : List Bounds → Type 0
Rising [] = Unit {0}
Rising (x ∷ l) = All (Before x) l × Rising l

-- no two entries have the same lowest cell
abbrev pub LowestApart : List Bounds → Type 0
LowestApart l = (p q : ℕ) (d : Bounds) → p < q → q < length l → ((slice_index_or l p d).a ≡ (slice_index_or l q d).a) × ((slice_index_or l p d).b ≡ (slice_index_or l q d).b) × ((slice_index_or l p d).c ≡ (slice_index_or l q d).c) → ⊥

-- x ends along c where y begins, and some line along c meets both
pub record TouchAlongC (x y : Bounds) : Type 0 where
  pub i : ℕ
  pub j : ℕ
  pub a_in_x : (x.a ≤ i) × (i < x.a')
  pub a_in_y : (y.a ≤ i) × (i < y.a')
  pub b_in_x : (x.b ≤ j) × (j < x.b')
  pub b_in_y : (y.b ≤ j) × (j < y.b')
  pub meet : x.c' ≡ y.c

-- no two boxes of a list touch along c
abbrev pub ApartAlongC : List Bounds → Type 0
ApartAlongC l = All (λ x. All (λ y. TouchAlongC x y → ⊥) l) l

-- the cells f of a frame with these sides
module _ (f : ℕ → ℕ → ℕ → Bool) (na nb nc : ℕ) where
  -- no cell outside the frame is solid
  pub record Inside : Type 0 where
    pub a : (i j k : ℕ) → na ≤ i → f i j k ≡ false
    pub b : (i j k : ℕ) → nb ≤ j → f i j k ≡ false
    pub c : (i j k : ℕ) → nc ≤ k → f i j k ≡ false

  -- a box is a longest run in each of its rows, a longest plate in each of its planes, and a longest
  -- stretch of planes in which it is a plate
  pub record LongestBox (x : Bounds) : Type 0 where
    pub runs : (i j : ℕ) → x.a ≤ i → i < x.a' → x.b ≤ j → j < x.b' → Longest (f i j) nc x.c x.c'
    pub plates : (i : ℕ) → x.a ≤ i → i < x.a' → Longest (λ j. run f na nb nc i j x.c x.c') nb x.b x.b'
    pub planes : Longest (λ i. plate f na nb nc i x.b x.b' x.c x.c') na x.a x.a'

  -- a list of boxes holds a solid cell once, and an empty one never
  abbrev pub CoversAt : List Bounds → ℕ → ℕ → ℕ → Type 0
  CoversAt l i j k = how_often (λ x. holds_cell x i j k) l ≡ one (f i j k)

  -- the same of all cells of the frame; of all cells
  abbrev pub CoveredOnce : Type 0
  CoveredOnce = (i j k : ℕ) → i < na → j < nb → k < nc → CoversAt (boxes f na nb nc) i j k

  abbrev pub CoveredEverywhere : Type 0
  CoveredEverywhere = (i j k : ℕ) → CoversAt (boxes f na nb nc) i j k

  -- the boxes have as many cells as the frame has solid ones
  abbrev pub SameVolume : Type 0
  SameVolume = sum_by volume (boxes f na nb nc) ≡ total (λ i. total (λ j. total (λ k. one (f i j k)) nc) nb) na

  -- all boxes are longest, and all longest boxes are among them: what holds of each holds of such a box
  abbrev pub EachLongest : Type 0
  EachLongest = All LongestBox (boxes f na nb nc)

  abbrev pub EveryLongest : Type 1
  EveryLongest = (P : Bounds → Type 0) → All P (boxes f na nb nc) → (x : Bounds) → LongestBox x → P x
