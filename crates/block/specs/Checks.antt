-- The check of a corner list: the first refusal that it gets, if any.
use Rattle.std.specs.Prelude.{◌≡◌, ℕ, ◌≤◌, Bool, true, cond, ◌&&◌, ◌||◌, List, [], ◌∷◌, take, Some, None, Ok, Err, Option, Result, ◌==◌, nat_le, nat_lt}
use Rattle.geometry.specs.declared.axis.Axis.{Axis}
use Rattle.geometry.specs.declared.axis.Axis.TheVariants.{X, Y, Z}
use Rattle.geometry.specs.declared.frame.Point.{Point}
use Rattle.geometry.specs.declared.refusal.Refusal.{Refusal}
use Rattle.geometry.specs.declared.refusal.Refusal.TheVariants.{CountOver, PointOutside, NotRising, OddLine}
use Rattle.tables.specs.Tables.{capacity}
use Rattle.block.specs.Lines.{even_along}
use Rattle.std.specs.List.{list_all}
use Rattle.block.specs.Lists.{Lawful, reached}

-- p comes before q: by x, then y, then z
abbrev pub before : Point → Point → Bool
before p q = nat_lt p.x q.x || (p.x == q.x && (nat_lt p.y q.y || (p.y == q.y && nat_lt p.z q.z)))

-- p comes before the first point of a list, if there is one
abbrev pub before_first : Point → List Point → Bool
before_first p [] = true
before_first p (q ∷ l) = before p q

-- each point comes before the next
abbrev pub rising : List Point → Bool
rising [] = true
rising (p ∷ l) = before_first p l && rising l

-- every line along an axis carries an even number of the points
abbrev pub even_lines : List Point → Bool
even_lines l = even_along X l && (even_along Y l && even_along Z l)

-- the refusal of a list of points: each rule is tested of the whole list before the next
unfoldable pub points_refusal : (Axis → ℕ) → List Point → Option Refusal
points_refusal s l =
    cond (list_all (reached s) l) (cond (rising l) (cond (even_lines l) None (Some OddLine)) (Some NotRising)) (Some PointOutside)

-- the refusal of the first `count` points of a table
unfoldable pub list_refusal : (Axis → ℕ) → List Point → ℕ → Option Refusal
list_refusal s table count = cond (nat_le count (capacity table)) (points_refusal s (take count table)) (Some CountOver)

-- there is none exactly when the capacity takes the count and the list is lawful
pub record Checked (s : Axis → ℕ) (table : List Point) (count : ℕ) : Type 0 where
  pub passes : list_refusal s table count ≡ None → (count ≤ capacity table) × Lawful s (take count table)
  pub takes : count ≤ capacity table → Lawful s (take count table) → list_refusal s table count ≡ None

-- what a call gives whose refusal is known: its value, or the refusal
abbrev pub granted : {A : Type 0} → Option Refusal → A → Result A Refusal
granted None v = Ok v
granted (Some e) v = Err e
