use Rattle.std.proofs.Common.{◌≡◌, ◌+◌, ◌≤◌, length}
use Rattle.script.specs.Scripts.{held_of, home_of, ran, runs, state_of, world}
use Rattle.script.proofs.session.run.Given as goal

-- the calls that are left do what the whole script does
abbrev pub invariant-loop-call : goal.invariant-loop-call
invariant-loop-call l = record {
  read : l.session.blocks + length l.left ≤ length l.calls;
  went : ran l.calls ≡ runs (world (home_of l.session) (held_of l.session) (state_of l.context)) l.left;
}

abbrev pub decreases-loop-call : goal.decreases-loop-call
decreases-loop-call l = length l.left
