use Rattle.std.proofs.Common.{◌≡◌, string_bytes, vec_items, ap, ◌∙◌}
use Rattle.std.specs.Option.{option_map}
use Rattle.script.specs.Scripts.{block_of, ran, size_of}
use Rattle.report.specs.Outputs.{output}
use Rattle.report.proofs.Printing.{prints_plainly, report_prints}
use Rattle.report.proofs.carry.carry_out.Goals as goal

pub returns : goal.returns
returns c =
    let calls = vec_items c.in_ok-calls.calls in
    let same = c.as_slice.ensures.value in
    let went = c.in_ok-report.ensures in
    let printed : string_bytes c.in_ok-output.output ≡ output calls =
    c.in_ok-output.ensures
    ∙ report_prints c.in_ok-report.report calls (went.answers ∙ ap (λ l. (ran l).state.replies) same) (went.blocks ∙ ap (λ l. (ran l).home.blocks) same) (went.last ∙ ap (λ l. option_map size_of (block_of (ran l).held)) same) in
    record {
      prints = (calls, c.in_ok-calls.ensures.reads, printed);
      plainly = λ cs reads.
          let only = c.in_ok-calls.ensures.plain_only cs reads in
          (only.0, c.in_ok-calls.ensures.plain_reads only.0 only.1, printed ∙ ap output only.1 ∙ prints_plainly only.0);
    }
