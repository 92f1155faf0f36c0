use Rattle.std.proofs.Common.{◌∙◌, rules, tests}
use Rattle.std.proofs.lemmas.Iterator.{YieldsList-from_slice, YieldsList-from_zip}
use Rattle.std.proofs.lemmas.Iterator.Adapters.{YieldsList-from_skip}
use Rattle.std.proofs.lemmas.Iterator.Search.{all_from_yields_List}
use Rattle.block.specs.Checks.{before}
use Rattle.block.proofs.Checking.{rising_pairs}
use Rattle.block.proofs.check.are_rising.Goals as goal

pub returns : goal.returns
returns c =
    let l = c.args.points.now in
    let pairs = YieldsList-from_zip {s = c.zip.result} (YieldsList-from_slice l (cc)) (YieldsList-from_skip 1 (YieldsList-from_slice l (cc)) (cc)) in
    all_from_yields_List (λ r. before r.0 r.1) c.all.new.self _ c.all.result c.all.ensures.ran pairs (λ x b q k. search (rules, tests)) ∙ rising_pairs l
