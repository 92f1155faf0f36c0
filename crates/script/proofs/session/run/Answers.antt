use Rattle.std.proofs.Common.{◌≡◌, ap, ◌∙◌, arith}
use Rattle.std.proofs.lemmas.Grind.{common_steps}
use Rattle.boxes.proofs.Summing.{lawful_cut}
use Rattle.script.specs.Plain.{blocks_read, replies, start, steps}
use Rattle.script.specs.Scripts.{block_of, ran, runs}
use Rattle.script.proofs.Plainly.{plain_blocks, plain_last, plain_replies}
use Rattle.script.proofs.session.run.Goals as goal

pub returns-in_err-context-clause-lawful : goal.returns-in_err-context-clause-lawful
returns-in_err-context-clause-lawful c = lawful_cut

pub returns-in_err-left-clause-lawful : goal.returns-in_err-left-clause-lawful
returns-in_err-left-clause-lawful c = lawful_cut

pub returns-clause-lawful : goal.returns-clause-lawful
returns-clause-lawful c = lawful_cut

pub returns-clause-plain_answers : goal.returns-clause-plain_answers
unfolding runs
returns-clause-plain_answers c = λ cs e.
    let plain : (ran c.args.calls.now).state.replies ≡ replies start cs = ap (λ l. (ran l).state.replies) e ∙ plain_replies cs in
    grind (arith, common_steps)

pub returns-clause-plain_blocks : goal.returns-clause-plain_blocks
unfolding runs
returns-clause-plain_blocks c = λ cs e.
    let plain : (ran c.args.calls.now).home.blocks ≡ blocks_read start cs = ap (λ l. (ran l).home.blocks) e ∙ plain_blocks cs in
    grind (arith, common_steps)

pub returns-clause-plain_last : goal.returns-clause-plain_last
unfolding runs
returns-clause-plain_last c = λ cs e.
    let plain : block_of (ran c.args.calls.now).held ≡ (steps start cs).block = ap (λ l. block_of (ran l).held) e ∙ plain_last cs in
    grind (arith, common_steps)
