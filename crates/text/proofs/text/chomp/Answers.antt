use Rattle.std.proofs.Common.{ap, ◌∙◌}
use Rattle.text.proofs.Reading.{chomped_stripped}
use Rattle.text.proofs.text.chomp.Goals as goal

pub returns : goal.returns
returns c = ap (λ b. b.now) c.unwrap_or.ensures ∙ chomped_stripped c.args.line c.strip_suffix.result c.strip_suffix.ensures.cases
