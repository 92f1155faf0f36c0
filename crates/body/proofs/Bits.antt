-- The bits of a word: shifts, masks, trailing zeros and counts.
use Rattle.std.proofs.Common.{◌≡◌, ℕ, zero, suc, ◌+◌, ◌*◌, ◌/◌, ◌%◌, ◌^◌, ◌<◌, ◌≤◌, true, false, eqb, sym, refl, ap, ◌∙◌, ap₂, mod-lt, mod-eq_of_lt, div-one, add-one, one-add, arith, pow_pos, pow_mono}
use native.Mathlib.Nat.{div-eq_of_lt, mod-one, mul-mod_left}
use lib.Bits.{bit_and, bit_or, bit_xor}
use lib.Count.{ones, ones_cat, count_trailing_zeros, under}
use Rattle.std.proofs.lemmas.Nat.{shr-shr, mod-pow-add, shr_high, mod_low, shl-shr, xor_shr, xor_mod, or_shifted, shr_below, mod_below, and_mask}
use Rattle.body.specs.Grids.{bit}
use Rattle.body.specs.Solids.{differ, one, total}

pub bit_is : (w k : ℕ) → bit w k ≡ eqb (w / 2 ^ k % 2) 1
bit_is w zero = ap (λ (n : ℕ). eqb (n % 2) 1) (sym (div-one w))
bit_is w (suc k) = bit_is (w / 2) k ∙ ap (λ (n : ℕ). eqb (n % 2) 1) (shr-shr w 1 k ∙ ap (λ (n : ℕ). w / 2 ^ n) (one-add k))

-- as it is tested
pub bit_test : (w k : ℕ) → eqb (bit_and (w / 2 ^ k) 1) 1 ≡ bit w k
bit_test w k = ap (λ (n : ℕ). eqb n 1) (and_mask (w / 2 ^ k) 1) ∙ sym (bit_is w k)

-- a word shifted right
pub bit_shr : (w s k : ℕ) → bit (w / 2 ^ s) k ≡ bit w (s + k)
bit_shr w s k = bit_is (w / 2 ^ s) k ∙ ap (λ (n : ℕ). eqb (n % 2) 1) (shr-shr w s k) ∙ sym (bit_is w (s + k))

-- past a word's end
pub bit_high : (w m k : ℕ) → w < 2 ^ m → m ≤ k → bit w k ≡ false
bit_high w m k h l =
    let small : w < 2 ^ k = omega (arith, pow_mono l) in
    bit_is w k ∙ ap (λ (n : ℕ). eqb (n % 2) 1) (div-eq_of_lt small)

low_bit : (w m : ℕ) → w % 2 ^ suc m % 2 ≡ w % 2
low_bit w m = ap (λ (n : ℕ). w % 2 ^ n % 2) (sym (add-one m)) ∙ ap (λ (n : ℕ). n % 2) (mod-pow-add w m 1) ∙ mod_low (w / 2 % 2 ^ m) 1 (w % 2) (mod-lt w (omega arith))

high_bits : (w m : ℕ) → w % 2 ^ suc m / 2 ≡ w / 2 % 2 ^ m
high_bits w m = ap (λ (n : ℕ). w % 2 ^ n / 2) (sym (add-one m)) ∙ ap (λ (n : ℕ). n / 2) (mod-pow-add w m 1) ∙ shr_high (w / 2 % 2 ^ m) 1 (w % 2) (mod-lt w (omega arith))

-- the low bits alone
pub bit_mod : (w m k : ℕ) → k < m → bit (w % 2 ^ m) k ≡ bit w k
bit_mod w zero k h = absurd (omega arith)
bit_mod w (suc m) zero h = ap (λ (n : ℕ). eqb n 1) (low_bit w m)
bit_mod w (suc m) (suc k) h = ap (λ (n : ℕ). bit n k) (high_bits w m) ∙ bit_mod (w / 2) m k (omega arith)

digit_xor : (x y : ℕ) → x < 2 → y < 2 → eqb (bit_xor x y) 1 ≡ differ (eqb x 1) (eqb y 1)
digit_xor zero zero p q = refl
digit_xor zero (suc zero) p q = refl
digit_xor zero (suc (suc y)) p q = absurd (omega arith)
digit_xor (suc zero) zero p q = refl
digit_xor (suc zero) (suc zero) p q = refl
digit_xor (suc zero) (suc (suc y)) p q = absurd (omega arith)
digit_xor (suc (suc x)) y p q = absurd (omega arith)

pub bit-bit_xor : (v w k : ℕ) → bit (bit_xor v w) k ≡ differ (bit v k) (bit w k)
bit-bit_xor v w zero = ap (λ (n : ℕ). eqb n 1) (xor_mod v w 1) ∙ digit_xor (v % 2) (w % 2) (mod-lt v (omega arith)) (mod-lt w (omega arith))
bit-bit_xor v w (suc k) = ap (λ (n : ℕ). bit n k) (xor_shr v w 1) ∙ bit-bit_xor (v / 2) (w / 2) k

-- a word shifted left by one, with a carry below
shifted_in : (w c : ℕ) → c < 2 → bit_or ((w * 2) % 2 ^ 64) c ≡ w % 2 ^ 63 * 2 + c
shifted_in w c h =
    let even : (w * 2) % 2 ^ 64 ≡ w % 2 ^ 63 * 2 =
    mod-pow-add (w * 2) 63 1 ∙ ap₂ (λ (x y : ℕ). x % 2 ^ 63 * 2 + y) (shl-shr w 1) (mul-mod_left w 2) ∙ omega arith
    in
    ap (λ (n : ℕ). bit_or n c) even ∙ or_shifted (w % 2 ^ 63) 1 c h

pub shifted_in_first : (w c : ℕ) → c < 2 → bit (bit_or ((w * 2) % 2 ^ 64) c) 0 ≡ eqb c 1
shifted_in_first w c h = ap (λ (n : ℕ). eqb (n % 2) 1) (shifted_in w c h) ∙ ap (λ (n : ℕ). eqb n 1) (mod_low (w % 2 ^ 63) 1 c h)

pub shifted_in_next : (w c k : ℕ) → c < 2 → k < 63 → bit (bit_or ((w * 2) % 2 ^ 64) c) (suc k) ≡ bit w k
shifted_in_next w c k h l = ap (λ (n : ℕ). bit (n / 2) k) (shifted_in w c h) ∙ ap (λ (n : ℕ). bit n k) (shr_high (w % 2 ^ 63) 1 c h) ∙ bit_mod w 63 k l

-- the top bit of a word, shifted down to the lowest place
pub top_small : (w : ℕ) → w < 2 ^ 64 → w / 2 ^ 63 < 2
top_small w h = shr_below w 1 63 h

pub top_is : (w k : ℕ) → w < 2 ^ 64 → k ≡ 63 → eqb (w / 2 ^ 63) 1 ≡ bit w k
top_is w k h e =
    ap (λ (n : ℕ). eqb n 1) (sym (mod-eq_of_lt (top_small w h))) ∙ ap (λ (n : ℕ). eqb (w / 2 ^ n % 2) 1) (sym e) ∙ sym (bit_is w k)

-- below the trailing zeros no bit is set, and the bit there is
under_below : (d t b : ℕ) → d < 2 → b < under d t → (eqb d 1 ≡ false) × (b < suc t)
under_below zero t b p q = (refl, q)
under_below (suc d) t b p q = absurd (omega arith)

pub trailing_below : (m w b : ℕ) → b < count_trailing_zeros m w → bit w b ≡ false
unfolding count_trailing_zeros
trailing_below zero w b h = absurd (omega arith)
trailing_below (suc m) w zero h = (under_below (w % 2) (count_trailing_zeros m (w / 2)) 0 (mod-lt w (omega arith)) h).0
trailing_below (suc m) w (suc b) h =
    let l = (under_below (w % 2) (count_trailing_zeros m (w / 2)) (suc b) (mod-lt w (omega arith)) h).1 in
    trailing_below m (w / 2) b (omega arith)

pub trailing_at : (m w : ℕ) → count_trailing_zeros m w < m → bit w (count_trailing_zeros m w) ≡ true
unfolding count_trailing_zeros
trailing_at zero w h = absurd (omega arith)
trailing_at (suc m) w h = go (w % 2) refl h (trailing_at m (w / 2))
  where
    go : (d : ℕ) → w % 2 ≡ d → under d (count_trailing_zeros m (w / 2)) < suc m → (count_trailing_zeros m (w / 2) < m → bit (w / 2) (count_trailing_zeros m (w / 2)) ≡ true)
        → bit w (under d (count_trailing_zeros m (w / 2))) ≡ true
    go zero e l rest = rest (omega arith)
    go (suc zero) e l rest = ap (λ (n : ℕ). eqb n 1) e
    go (suc (suc d)) e l rest = absurd (omega (arith, mod_below w 2 (omega arith)))

-- the ones among the k low bits
digit_ones : (d : ℕ) → d < 2 → ones d ≡ one (eqb d 1)
unfolding ones
digit_ones zero h = refl
digit_ones (suc zero) h = refl
digit_ones (suc (suc d)) h = absurd (omega arith)

pub ones_low : (w k : ℕ) → ones (w % 2 ^ k) ≡ total (λ b. one (bit w b)) k
unfolding ones
ones_low w zero = ap ones (mod-one w)
ones_low w (suc k) =
    let split : w % 2 ^ suc k ≡ w / 2 ^ k % 2 * 2 ^ k + w % 2 ^ k = ap (λ (n : ℕ). w % 2 ^ n) (sym (one-add k)) ∙ mod-pow-add w 1 k in
    let digit : ones (w / 2 ^ k % 2) ≡ one (bit w k) = digit_ones _ (mod-lt (w / 2 ^ k) (omega arith)) ∙ ap one (sym (bit_is w k)) in
    ap ones split ∙ ones_cat k (w / 2 ^ k % 2) (w % 2 ^ k) (mod-lt w (pow_pos k)) ∙ omega (arith, digit, ones_low w k)
