-- Longest stretches of numbers at which a test is true.
use Rattle.std.specs.Prelude.{◌≡◌, ℕ, zero, suc, ◌-◌, ◌<◌, ◌≤◌, Bool, true, false, not, ◌&&◌, ◌==◌}
use Rattle.body.specs.Grids.{first}

-- Q is true at i, and not at the number before; before 0 it is not
abbrev pub opens : (ℕ → Bool) → ℕ → Bool
opens Q zero = Q zero
opens Q (suc i) = Q (suc i) && not (Q i)

-- where a stretch that holds i ends: at the first number from i on at which Q is false, or at n
abbrev pub reach : (ℕ → Bool) → ℕ → ℕ → ℕ
reach Q n i = first (λ j. not (Q j)) (n - i) i

-- Q is true at the k numbers from i on
abbrev pub all_true : (ℕ → Bool) → ℕ → ℕ → Bool
all_true Q zero i = true
all_true Q (suc k) i = Q i && all_true Q k (suc i)

-- the numbers from lo up to hi are a longest stretch below n at which Q is true
abbrev pub stretch : (ℕ → Bool) → ℕ → ℕ → ℕ → Bool
stretch Q n lo hi = opens Q lo && reach Q n lo == hi

-- the same in words: Q is true from lo up to hi, which is past lo, and neither just before nor at hi,
-- unless that is n
pub record Longest (Q : ℕ → Bool) (n lo hi : ℕ) : Type 0 where
  pub some : lo < hi
  pub within : hi ≤ n
  pub all : (i : ℕ) → lo ≤ i → i < hi → Q i ≡ true
  pub before : (i : ℕ) → suc i ≡ lo → Q i ≡ false
  pub after : hi < n → Q hi ≡ false
