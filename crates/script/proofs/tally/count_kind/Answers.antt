use Rattle.std.proofs.Common.{sym, ◌∙◌, rules}
use Rattle.std.proofs.iter.runs.Made.{chains}
use Rattle.script.proofs.Tallying.{how_many_counts}
use Rattle.script.proofs.tally.count_kind.Goals as goal

pub returns : goal.returns
returns c = search (rules, chains) ∙ sym (how_many_counts c.args.sought c.args.answers.now)
