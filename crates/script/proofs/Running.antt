-- One call more of a script, and the end of one.
use Rattle.std.proofs.Common.{◌≡◌, ℕ, ◌+◌, ◌<◌, ◌≤◌, Bool, true, false, List, [], ◌∷◌, length, get_or, drop, Some, None, Option, sym, refl, ap, ◌∙◌, inl, inr, arith}
use Rattle.std.proofs.lemmas.List.{drop_more, drop_all}
use Rattle.std.proofs.lemmas.Bool.{both_ways, cases_lt}
use Rattle.geometry.specs.declared.axis.AxisOrder.{AxisOrder}
use Rattle.body.specs.Solids.{Solid}
use Rattle.script.specs.Scripts.{Home, State, World, block_held, block_of, free, runs, standing, step, world}
use Rattle.script.specs.declared.call.Call.{Call}
use Rattle.script.specs.declared.call.MakeCall.{MakeCall}
use Rattle.script.specs.declared.call.Call.TheVariants.{Make, SetTable, OnBlock, Cut, OnCut}

-- the next call makes a frame or a block, or there is none
abbrev pub ends : List Call → Bool
ends [] = true
ends (Make c ∷ cs) = true
ends (SetTable t n ∷ cs) = false
ends (OnBlock c ∷ cs) = false
ends (Cut o ∷ cs) = false
ends (OnCut c ∷ cs) = false

-- the calls from a place on, where there is one
module _ (calls : List Call) (i : ℕ) (c : Call) (within : i < length calls) (is : c ≡ get_or calls i c) where
  pub calls_from : drop i calls ≡ c ∷ drop (i + 1) calls
  calls_from = drop_more calls i c within ∙ ap (λ x. x ∷ drop (i + 1) calls) (sym is)

  pub runs_more : (w v : World) → step w c ≡ v → runs w (drop i calls) ≡ runs v (drop (i + 1) calls)
  unfolding runs
  runs_more w v stepped = ap (runs w) calls_from ∙ ap (λ u. runs u (drop (i + 1) calls)) stepped

  -- the first of them says whether they begin with one that makes something
  pub ends_first : ends (drop i calls) ≡ ends (c ∷ [])
  ends_first = ap ends calls_from ∙ first c
    where
      first : (d : Call) → ends (d ∷ drop (i + 1) calls) ≡ ends (d ∷ [])
      first (Make m) = refl
      first (SetTable t n) = refl
      first (OnBlock b) = refl
      first (Cut o) = refl
      first (OnCut q) = refl

pub ends_none : (calls : List Call) (i : ℕ) → length calls ≤ i → ends (drop i calls) ≡ true
ends_none calls i h = ap ends (drop_all i calls h)

pub ends_unmade : (c : Call) → ((m : MakeCall) → c ≡ Make m → ⊥) → ends (c ∷ []) ≡ false
ends_unmade (Make m) not = absurd (not m refl)
ends_unmade (SetTable t n) not = refl
ends_unmade (OnBlock b) not = refl
ends_unmade (Cut o) not = refl
ends_unmade (OnCut q) not = refl

pub within_calls : (calls : List Call) (i : ℕ) → ends (drop i calls) ≡ false → i < length calls
within_calls calls i e = elim (cases_lt i (length calls)) [ inl h ↦ h | inr h ↦ absurd (both_ways _ e (ends_none calls i h)) ]

-- at the end of a script, and where a frame or a block is made, a cut is as good as reopened
pub runs_reopened : (h : Home) (m : Solid) (o : AxisOrder) (n : ℕ) (s : State) (l : List Call) → ends l ≡ true → runs (world h (standing m o n) s) l ≡ runs (world h (free m) s) l
unfolding runs
runs_reopened h m o n s [] e = refl
runs_reopened h m o n s (Make c ∷ l) e = refl
runs_reopened h m o n s (SetTable t k ∷ l) e = absurd (both_ways true (sym e) refl)
runs_reopened h m o n s (OnBlock c ∷ l) e = absurd (both_ways true (sym e) refl)
runs_reopened h m o n s (Cut p ∷ l) e = absurd (both_ways true (sym e) refl)
runs_reopened h m o n s (OnCut c ∷ l) e = absurd (both_ways true (sym e) refl)

-- from a call that makes nothing, the next one that makes something is farther on
pub farther : (calls : List Call) (i j : ℕ) → i ≤ j → ends (drop i calls) ≡ false → ends (drop j calls) ≡ true → i < j
farther calls i j h on end =
    elim (cases_lt i j) [ inl l ↦ l | inr l ↦ absurd (both_ways _ on (ap (λ k. ends (drop k calls)) (omega arith) ∙ end)) ]

-- the end of a script
pub runs_over : (w : World) (calls : List Call) (i : ℕ) → length calls ≤ i → runs w (drop i calls) ≡ world w.home (block_held (block_of w.held)) w.state
unfolding runs
runs_over w calls i h = ap (runs w) (drop_all i calls h)

pub block_again : (o : Option Solid) → block_of (block_held (block_of (block_held o))) ≡ o
block_again None = refl
block_again (Some m) = refl
