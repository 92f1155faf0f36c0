-- Bitmaps: the bit of a place, and what a toggle leaves.
use Rattle.std.proofs.Common.{◌≡◌, ℕ, zero, suc, ◌+◌, ◌*◌, ◌/◌, ◌%◌, ◌^◌, ◌<◌, ◌≤◌, false, not, ◌&&◌, eqb, List, length, get_or, drop, set, replicate, sym, refl, ap, ◌∙◌, ap₂, ⊎_elim, arith}
use lib.Bits.{bit_xor, shifted_even, shifted_half}
use Rattle.std.proofs.lemmas.Nat.{div-add-mod', div_below, mod_below, shl_whole}
use Rattle.std.proofs.lemmas.List.{get_or_past, get_or-replicate, get_or-set_other, get_or-set_same, length-replicate}
use Rattle.std.proofs.lemmas.Bool.{and_from, and_left, and_right, cases_eq, cases_lt, eq-eqb, ne_eqb}
use Rattle.geometry.specs.declared.axis.Axis.{Axis}
use Rattle.geometry.specs.declared.axis.Axis.TheVariants.{X, Y, Z}
use Rattle.geometry.specs.declared.frame.Point.{Point}
use Rattle.body.specs.Solids.{differ}
use Rattle.body.specs.Corners.{on_line, parity}
use Rattle.body.specs.Grids.{bit}
use Rattle.body.proofs.Bits.{bit_high, bit-bit_xor}
use Rattle.body.proofs.Order.{all_map}
use Rattle.body.proofs.Parity.{differ_false}
use Rattle.block.specs.Lines.{Near, bit_at, even_along, first_across, line_place, odd_through, place, second_across}
use Rattle.std.specs.List.{list_all}
use Rattle.block.proofs.Every.{all_at, every_same}
use Rattle.block.proofs.Folds.{parity_end, parity_on}

pub bit_none : (k : ℕ) → bit 0 k ≡ false
bit_none k = bit_high 0 0 k (omega arith) (omega arith)

-- a word with one bit
pub bit_one : (k j : ℕ) → bit (1 * 2 ^ k) j ≡ eqb j k
bit_one zero zero = refl
bit_one zero (suc j) = bit_none j ∙ sym (ne_eqb (suc j) 0 (λ e. omega arith))
bit_one (suc k) zero = ap (λ (n : ℕ). eqb n 1) (shifted_even 1 k) ∙ sym (ne_eqb 0 (suc k) (λ e. omega arith))
bit_one (suc k) (suc j) = ap (λ (n : ℕ). bit n j) (shifted_half 1 k) ∙ bit_one k j ∙ same_suc
  where
    same_suc : eqb j k ≡ eqb (suc j) (suc k)
    same_suc = ⊎_elim (λ e. eq-eqb j k e ∙ sym (eq-eqb (suc j) (suc k) (ap suc e))) (λ ne. ne_eqb j k ne ∙ sym (ne_eqb (suc j) (suc k) (λ e. ne (omega arith)))) (cases_eq j k)

pub blank : (k n : ℕ) → bit_at (replicate k 0) n ≡ false
blank k n =
    ap (λ (w : ℕ). bit w (n % 64))
    (⊎_elim (λ h. get_or-replicate k (n / 64) 0 0 h) (λ h. get_or_past (replicate k 0) (n / 64) 0 (omega (arith, length-replicate {A = ℕ} k 0))) (cases_lt (n / 64) k))
    ∙ bit_none (n % 64)

-- places in one word
place_in : (n at : ℕ) → n / 64 ≡ at / 64 → eqb (n % 64) (at % 64) ≡ eqb n at
place_in n at e =
    ⊎_elim
    (λ (same : n ≡ at). eq-eqb (n % 64) (at % 64) (ap (λ (t : ℕ). t % 64) same) ∙ sym (eq-eqb n at same))
    (λ (ne : n ≡ at → ⊥). ne_eqb (n % 64) (at % 64) (λ f. ne (omega (arith, f, e, div-add-mod' n 64, div-add-mod' at 64))) ∙ sym (ne_eqb n at ne))
    (cases_eq n at)

-- one bit toggled
pub toggled : (words : List ℕ) (at n : ℕ) → at / 64 < length words → bit_at (set words (at / 64) (bit_xor (get_or words (at / 64) 0) ((1 * 2 ^ (at % 64)) % 2 ^ 64))) n ≡ differ (bit_at words n) (eqb n at)
toggled words at n below =
    ⊎_elim
    (λ (e : n / 64 ≡ at / 64).
    ap (λ (w : ℕ). bit w (n % 64)) (ap (λ (i : ℕ). get_or (set words (at / 64) word) i 0) e ∙ get_or-set_same words (at / 64) word 0 below)
    ∙ bit-bit_xor (get_or words (at / 64) 0) _ (n % 64)
    ∙ ap₂ differ (ap (λ (i : ℕ). bit (get_or words i 0) (n % 64)) (sym e)) (ap (λ (w : ℕ). bit w (n % 64)) (shl_whole 1 1 (at % 64) 64 (omega arith) (omega (arith, mod_below at 64 (omega arith)))) ∙ bit_one (at % 64) (n % 64) ∙ place_in n at e))
    (λ (ne : n / 64 ≡ at / 64 → ⊥).
    ap (λ (w : ℕ). bit w (n % 64)) (get_or-set_other words (at / 64) (n / 64) word 0 ne)
    ∙ sym (differ_false (bit_at words n))
    ∙ ap (differ (bit_at words n)) (sym (ne_eqb n at (λ e. ne (ap (λ (t : ℕ). t / 64) e)))))
    (cases_eq (n / 64) (at / 64))
  where
    word : ℕ
    word = bit_xor (get_or words (at / 64) 0) ((1 * 2 ^ (at % 64)) % 2 ^ 64)

-- the places of two lines
pub place_same : (u v s t : ℕ) → v < 1088 → t < 1088 → eqb (place u v) (place s t) ≡ (eqb s u && eqb t v)
place_same u v s t hv ht =
    ⊎_elim
    (λ (e : s ≡ u).
    ⊎_elim
    (λ (f : t ≡ v). eq-eqb (place u v) (place s t) (omega arith) ∙ sym (and_from (eqb s u) (eqb t v) (eq-eqb s u e) (eq-eqb t v f)))
    (λ (ne : t ≡ v → ⊥). ne_eqb (place u v) (place s t) (λ k. ne (omega (arith, k))) ∙ sym (and_right (eqb s u) (eqb t v) (ne_eqb t v ne)))
    (cases_eq t v))
    (λ (ne : s ≡ u → ⊥). ne_eqb (place u v) (place s t) (λ k. ne (omega (arith, k))) ∙ sym (and_left (eqb s u) (eqb t v) (ne_eqb s u ne)))
    (cases_eq s u)

pub on_line_is : (a : Axis) (u v : ℕ) (p : Point) → on_line a u v p ≡ (eqb (first_across a p) u && eqb (second_across a p) v)
on_line_is X u v p = refl
on_line_is Y u v p = refl
on_line_is Z u v p = refl

near_across : (a : Axis) (p : Point) → (p.x ≤ 1024) × (p.y ≤ 1024) × (p.z ≤ 1024) → (first_across a p ≤ 1024) × (second_across a p ≤ 1024)
near_across X p h = (h.1, h.2)
near_across Y p h = (h.2, h.0)
near_across Z p h = (h.0, h.1)

-- the place of a line's point is that of the line
pub place_on : (a : Axis) (u v : ℕ) (p : Point) → (p.x ≤ 1024) × (p.y ≤ 1024) × (p.z ≤ 1024) → v < 1088 → eqb (place u v) (line_place a p) ≡ on_line a u v p
place_on a u v p near hv =
    place_same u v (first_across a p) (second_across a p) hv (omega (arith, (near_across a p near).1)) ∙ sym (on_line_is a u v p)

-- the word of a near point's line
pub place_below : (a : Axis) (p : Point) → (p.x ≤ 1024) × (p.y ≤ 1024) × (p.z ≤ 1024) → line_place a p / 64 < 17425
place_below a p near = div_below (line_place a p) 64 17425 (omega arith) (omega (arith, (near_across a p near).0, (near_across a p near).1))

-- the loop: with what is left, the bit of each line is its parity in the whole
module _ (a : Axis) (l : List Point) (i : ℕ) where
  abbrev pub Toggling : List ℕ → List ℕ → Type 0
  Toggling start map = (u v : ℕ) → v < 1088 → differ (bit_at map (place u v)) (parity (on_line a u v) (drop i l)) ≡ differ (bit_at start (place u v)) (parity (on_line a u v) l)

pub toggling_on : (a : Axis) (l : List Point) (i : ℕ) (d : Point) (start map next : List ℕ) → i < length l → Near l → Toggling a l i start map → ((n : ℕ) → bit_at next n ≡ differ (bit_at map n) (eqb n (line_place a (get_or l i d)))) → Toggling a l (i + 1) start next
toggling_on a l i d start map next below near inv is u v hv =
    parity_on (on_line a u v) l i d (bit_at map (place u v)) _ _ below (inv u v hv) (is (place u v) ∙ ap (differ (bit_at map (place u v))) (place_on a u v (get_or l i d) (all_at _ l near i d below) hv))

pub toggling_end : (a : Axis) (l : List Point) (i : ℕ) (start map : List ℕ) → length l ≤ i → Toggling a l i start map → (u v : ℕ) → v < 1088 → bit_at map (place u v) ≡ differ (bit_at start (place u v)) (parity (on_line a u v) l)
toggling_end a l i start map past inv u v hv = parity_end (on_line a u v) l i (bit_at map (place u v)) _ past (inv u v hv)

-- from a blank bitmap on: the bits of the lines through the points say which are odd
pub lines_read : (a : Axis) (l : List Point) (map : List ℕ) (k : ℕ) → Near l → ((u v : ℕ) → v < 1088 → bit_at map (place u v) ≡ differ (bit_at (replicate k 0) (place u v)) (parity (on_line a u v) l)) → list_all (λ p. not (bit_at map (line_place a p))) l ≡ even_along a l
lines_read a l map k near bits =
    every_same _ _ l
    (all_map _ _ l (λ p h. ap not (bits (first_across a p) (second_across a p) (omega (arith, (near_across a p h).1)) ∙ ap (λ b. differ b (odd_through a l p)) (blank k (line_place a p)))) near)
