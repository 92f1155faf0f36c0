-- What a pile means: the solids at its bottom, and the layers over them.
use Rattle.std.specs.Prelude.{ℕ, suc, ◌+◌}
use Rattle.geometry.specs.Frames.{sides}
use Rattle.geometry.specs.Shifts.{steps}
use Rattle.geometry.specs.declared.axis.Axis.{Axis}
use Rattle.body.specs.Grids.{grid_skip, packed}
use Rattle.body.specs.Solids.{Solid}
use Rattle.layers.specs.Boxes.{boxed, boxed_skip}
use Rattle.layers.specs.Layers.{complement, joined, joined_skip, translated, translated_skip}
use Rattle.piles.specs.declared.pile.Pile.{Pile}
use Rattle.piles.specs.declared.pile.Pile.TheVariants.{Grid, Boxes, Translated', Complement', Joined'}

-- p and q stand for the places of the boxed piles in memory, which mean nothing
abbrev pub piled : Pile → Solid
piled (Grid g) = packed (sides g.frame) g.words.now
piled (Boxes l) = boxed (sides l.frame) l.boxes.now
piled (Translated' s p below) = translated (steps s) (piled below)
piled (Complement' p below) = complement (piled below)
piled (Joined' o p first q second) = joined o (piled first) (piled second)

-- the skips of a pile, from those beneath each layer
abbrev pub piled_skip : Pile → Axis → ℕ → ℕ
piled_skip (Grid g) = grid_skip (packed (sides g.frame) g.words.now)
piled_skip (Boxes l) = boxed_skip (sides l.frame) l.boxes.now
piled_skip (Translated' s p below) = λ a. translated_skip (steps s a) ((piled below).side a) (piled_skip below a)
piled_skip (Complement' p below) = piled_skip below
piled_skip (Joined' o p first q second) = λ a n. joined_skip ((piled second).side a) n (piled_skip first a n) (piled_skip second a n)

-- the number of layers and of solids beneath them
abbrev pub pile_size : Pile → ℕ
pile_size (Grid g) = 1
pile_size (Boxes l) = 1
pile_size (Translated' s p below) = suc (pile_size below)
pile_size (Complement' p below) = suc (pile_size below)
pile_size (Joined' o p first q second) = suc (pile_size first + pile_size second)
