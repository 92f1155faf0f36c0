-- The cells of a list of records, the search through one, and neighbours.
use Rattle.std.proofs.Common.{◌≡◌, ℕ, ◌+◌, ◌-◌, ◌*◌, ◌≤◌, Bool, false, List, [], ◌∷◌, position, option_map, drop, refl, arith}
use Rattle.std.proofs.lemmas.Nat.{mul-le}
use Rattle.std.proofs.lemmas.Bool.{and_left, ne_eqb}
use Rattle.geometry.specs.Cuboids.{lowers, uppers}
use Rattle.geometry.specs.declared.axis.Axis.{Axis}
use Rattle.geometry.specs.declared.axis.Axis.TheVariants.{X, Y, Z}
use Rattle.geometry.specs.declared.axis.AxisOrder.{AxisOrder}
use Rattle.geometry.specs.declared.frame.Point.{Point}
use Rattle.boxes.specs.Measures.{cells_of, found, high, least_from, low}
use Rattle.cut.specs.Asks.{next_to, touches}
use Rattle.cut.specs.declared.asks.Sense.{Sense}
use Rattle.cut.specs.declared.asks.Sense.TheVariants.{AForward, ABackward, BForward, BBackward}
use Rattle.boxes.specs.declared.record.BoxRecord.{BoxRecord}

-- a lower and an upper point that a record's box reads as
pub record Reads (r : BoxRecord) (low high : Point) : Type 0 where
  pub lower : (low.x ≡ lowers r.cuboid X) × (low.y ≡ lowers r.cuboid Y) × (low.z ≡ lowers r.cuboid Z)
  pub upper : (high.x ≡ uppers r.cuboid X) × (high.y ≡ uppers r.cuboid Y) × (high.z ≡ uppers r.cuboid Z)

module _ (r : BoxRecord) (low high : Point) (reads : Reads r low high) where
  pub cells_from : (high.x - low.x) * (high.y - low.y) * (high.z - low.z) ≡ cells_of r
  unfolding cells_of
  cells_from = cc

  pub face_bound : (high.x - low.x) * (high.y - low.y) ≤ 1048576
  face_bound = mul-le (high.x - low.x) (high.y - low.y) 1024 1024 (omega arith) (omega arith)

  pub cells_bound : (high.x - low.x) * (high.y - low.y) * (high.z - low.z) ≤ 1073741824
  cells_bound = mul-le ((high.x - low.x) * (high.y - low.y)) (high.z - low.z) 1048576 1024 face_bound (omega arith)

-- the search through a list is the library's, among the records past the first m
least_position : (q : BoxRecord → Bool) (n : ℕ) (l : List BoxRecord) → least_from q n l ≡ option_map (λ i. n + i) (position q l)
least_position q n [] = refl
least_position q n (r ∷ l) = let e = least_position q (n + 1) l in grind arith

pub found_position : (q : BoxRecord → Bool) (m : ℕ) (l : List BoxRecord) → found q m l ≡ option_map (λ i. m + i + 1) (position q (drop m l))
unfolding found
found_position q m l = let e = least_position q (m + 1) (drop m l) in grind arith

-- a box has a cell along each axis, so that it does not end where it begins
ends_later : (r : BoxRecord) (a : Axis) → high r a ≡ low r a → ⊥
ends_later r X e = omega arith
ends_later r Y e = omega arith
ends_later r Z e = omega arith

touches_self : (a b c : Axis) (r : BoxRecord) → touches a b c r r ≡ false
unfolding touches
touches_self a b c r = and_left _ _ (and_left _ _ (ne_eqb _ _ (ends_later r a)))

-- no box is its own neighbour
pub next_to_self : (o : AxisOrder) (s : Sense) (r : BoxRecord) → next_to o s r r ≡ false
unfolding next_to
next_to_self o AForward r = touches_self _ _ _ r
next_to_self o ABackward r = touches_self _ _ _ r
next_to_self o BForward r = touches_self _ _ _ r
next_to_self o BBackward r = touches_self _ _ _ r
