-- Cells that are too far out for any box.
use Rattle.std.proofs.Common.{◌≡◌, ℕ, ◌≤◌, min, Bool, ◌&&◌, List, Ok, sym, ap, ◌∙◌, ap₂, inl, inr, arith}
use Rattle.std.proofs.lemmas.Bool.{cases_lt, le-leb, le-ltb}
use Rattle.geometry.specs.Cuboids.{in_box, lowers, uppers, within}
use Rattle.geometry.specs.declared.axis.Axis.{Axis}
use Rattle.geometry.specs.declared.axis.Axis.TheVariants.{X, Y, Z}
use Rattle.geometry.specs.declared.cuboid.Cuboid.{Cuboid}
use Rattle.boxes.specs.Measures.{found}
use Rattle.cut.specs.Asks.{find_answer, front, within_table}
use Rattle.boxes.specs.declared.record.BoxRecord.{BoxRecord}
use Rattle.script.specs.Scripts.{find_at}

bounds : (b : Cuboid) (a : Axis) → (lowers b a ≤ 1023) × (uppers b a ≤ 1024)
bounds b X = (omega arith, omega arith)
bounds b Y = (omega arith, omega arith)
bounds b Z = (omega arith, omega arith)

far_within : (b : Cuboid) (a : Axis) (n : ℕ) → within b a (min n 65535) ≡ within b a n
far_within b a n = elim (cases_lt n 65535) [ inl h ↦ ap (within b a) (omega arith) | inr h ↦ far h ]
  where
    far : 65535 ≤ n → within b a (min n 65535) ≡ within b a n
    far h =
        let low = (bounds b a).0 in
        let high = (bounds b a).1 in
        ap₂ ◌&&◌ (le-leb (lowers b a) (min n 65535) (omega arith) ∙ sym (le-leb (lowers b a) n (omega arith))) (le-ltb (min n 65535) (uppers b a) (omega arith) ∙ sym (le-ltb n (uppers b a) (omega arith)))

far_box : (b : Cuboid) (x y z : ℕ) → in_box b (min x 65535) (min y 65535) (min z 65535) ≡ in_box b x y z
far_box b x y z = ap₂ ◌&&◌ (ap₂ ◌&&◌ (far_within b X x) (far_within b Y y)) (far_within b Z z)

-- a search for a cell may as well look no farther than 65,535
pub find_far : (l : List BoxRecord) (n x y z : ℕ) → find_answer l n (record { x = min x 65535; y = min y 65535; z = min z 65535 }) ≡ find_at l n x y z
unfolding find_at
find_far l n x y z = ap {A = BoxRecord → Bool} (λ q. within_table l n (Ok (found q 0 (front n l)))) (λ i r. far_box r.cuboid x y z i)
