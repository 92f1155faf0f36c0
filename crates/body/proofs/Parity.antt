-- Parities: exclusive or, changes along an axis, and odd counts.
use Rattle.std.proofs.Common.{◌≡◌, ℕ, zero, suc, ◌+◌, Bool, true, false, not, ◌&&◌, sym, refl, ap, ◌∙◌, ap₂, suc-add, zero-add}
use mathlib.Core.Path.{fun_ext}
use Rattle.body.specs.Solids.{differ, one}
use Rattle.body.specs.Corners.{around, changes, corner, odd}

pub differ_false : (a : Bool) → differ a false ≡ a
differ_false true = refl
differ_false false = refl

pub differ_self : (a : Bool) → differ a a ≡ false
differ_self true = refl
differ_self false = refl

-- what was taken away and put back
pub differ_back : (a b : Bool) → differ a (differ b a) ≡ b
differ_back true true = refl
differ_back true false = refl
differ_back false true = refl
differ_back false false = refl

pub differ_not : (a b : Bool) → differ (not a) b ≡ not (differ a b)
differ_not true true = refl
differ_not true false = refl
differ_not false true = refl
differ_not false false = refl

pub differ_assoc : (a b c : Bool) → differ (differ a b) c ≡ differ a (differ b c)
differ_assoc true true true = refl
differ_assoc true true false = refl
differ_assoc true false true = refl
differ_assoc true false false = refl
differ_assoc false b c = refl

-- (a + b) + (c + d) = (a + c) + (b + d)
pub differ_swap : (a b c d : Bool) → differ (differ a b) (differ c d) ≡ differ (differ a c) (differ b d)
differ_swap true true true true = refl
differ_swap true true true false = refl
differ_swap true true false true = refl
differ_swap true true false false = refl
differ_swap true false true true = refl
differ_swap true false true false = refl
differ_swap true false false true = refl
differ_swap true false false false = refl
differ_swap false true true true = refl
differ_swap false true true false = refl
differ_swap false true false true = refl
differ_swap false true false false = refl
differ_swap false false true true = refl
differ_swap false false true false = refl
differ_swap false false false true = refl
differ_swap false false false false = refl

pub and_differ : (a b t : Bool) → (differ a b && t) ≡ differ (a && t) (b && t)
and_differ true true true = refl
and_differ true true false = refl
and_differ true false true = refl
and_differ true false false = refl
and_differ false true true = refl
and_differ false true false = refl
and_differ false false true = refl
and_differ false false false = refl

pub odd_add : (a b : ℕ) → odd (a + b) ≡ differ (odd a) (odd b)
odd_add zero b = ap odd (zero-add b)
odd_add (suc a) b = ap odd (suc-add a b) ∙ ap not (odd_add a b) ∙ sym (differ_not (odd a) (odd b))

pub odd_one : (b : Bool) → odd (one b) ≡ b
odd_one true = refl
odd_one false = refl

pub odd_around : (f : ℕ → ℕ) (n : ℕ) → odd (around f n) ≡ changes (λ i. odd (f i)) n
odd_around f zero = refl
odd_around f (suc n) = odd_add (f (suc n)) (f n)

-- a corner, by changes along the three axes
pub corner_changes : (h : ℕ → ℕ → ℕ → Bool) (x y z : ℕ) → corner h x y z ≡ changes (λ k. changes (λ j. changes (λ i. h i j k) x) y) z
unfolding corner
corner_changes h x y z =
    odd_around (λ k. around (λ j. around (λ i. one (h i j k)) x) y) z
    ∙ ap (λ f. changes f z) (fun_ext λ k. odd_around (λ j. around (λ i. one (h i j k)) x) y
    ∙ ap (λ f. changes f y) (fun_ext λ j. odd_around (λ i. one (h i j k)) x
    ∙ ap (λ f. changes f x) (fun_ext λ i. odd_one (h i j k))))

-- nothing changes where all is false, or the same as before
pub changes_none : (f : ℕ → Bool) (n : ℕ) → ((i : ℕ) → f i ≡ false) → changes f n ≡ false
changes_none f zero none = none zero
changes_none f (suc n) none = ap₂ differ (none (suc n)) (none n)

pub changes_same : (f : ℕ → Bool) (n : ℕ) → f (suc n) ≡ f n → changes f (suc n) ≡ false
changes_same f n e = ap (λ b. differ b (f n)) e ∙ differ_self (f n)
