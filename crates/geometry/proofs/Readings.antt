-- What a constructor takes reads back as it was given.
use Rattle.std.proofs.Common.{◌≡◌, ℕ, true, ltb, leb, ℤ, arith, w16, w64, SFits, to_z, of_z, rules}
use Rattle.std.proofs.lemmas.Bool.{and_parts, ltb-true, leb-true}
use Rattle.std.proofs.lemmas.Int.{ints, to_z-of_z}
use Rattle.geometry.specs.Cuboids.{range_ok, lower_of, upper_of}
use Rattle.geometry.specs.Shifts.{step_ok, step_of}

pub lower_reads : (low high n m : ℕ) → (range_ok low high ≡ true) × ((n ≡ low) × (m ≡ high)) → lower_of n ≡ low
lower_reads low high n m e =
    let p = and_parts (ltb low high) (leb high 1024) e.0 in
    omega (arith, ltb-true low high p.0, leb-true high 1024 p.1, e.1.0)

pub upper_reads : (low high n m : ℕ) → (range_ok low high ≡ true) × ((n ≡ low) × (m ≡ high)) → upper_of n m ≡ high
upper_reads low high n m e =
    let p = and_parts (ltb low high) (leb high 1024) e.0 in
    omega (arith, ltb-true low high p.0, leb-true high 1024 p.1, e.1.0, e.1.1)

pub step_reads : (n : ℤ) → step_ok n ≡ true → step_of n ≡ n
step_reads n e = grind (arith, ints)

-- the same for a step that went through 64 and 16 bits on its way into a field
pub step_taken : (n : ℤ) → SFits w64 n → step_ok (to_z w64 (of_z w64 n)) ≡ true → step_ok n ≡ true
step_taken n fits e = simp to_z-of_z at e

pub step_stored : (n s : ℤ) → SFits w64 n → (step_ok (to_z w64 (of_z w64 n)) ≡ true) × (s ≡ to_z w64 (of_z w64 n)) → step_of (to_z w16 (of_z w16 s)) ≡ n
step_stored n s fits e =
    let ok = step_taken n fits e.0 in
    let small : SFits w16 n = search rules in
    rw e.1 (simp to_z-of_z (step_reads n ok))
