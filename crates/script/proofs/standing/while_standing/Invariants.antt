use Rattle.std.proofs.Common.{◌≡◌, ◌≤◌, length}
use Rattle.body.specs.Solids.{Solid}
use Rattle.script.specs.Scripts.{Home, runs, standing, state_of, world}
use Rattle.script.proofs.standing.while_standing.Given as goal

-- the calls that are left do what all of them did from the beginning
abbrev pub invariant-loop-call : goal.invariant-loop-call
invariant-loop-call g l = record {
  fewer : length l.left ≤ length l.calls;
  went : (m : Solid) (h : Home) → runs (world h (standing m l.standing.order l.standing.count) (state_of l.initial.context)) l.calls ≡ runs (world h (standing m l.standing.order l.standing.count) (state_of l.context)) l.left;
}

abbrev pub decreases-loop-call : goal.decreases-loop-call
decreases-loop-call g l = length l.left
