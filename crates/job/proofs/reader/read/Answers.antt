use Rattle.std.proofs.Common.{List, None, map, subst, rules}
use Rattle.script.specs.Plain.{call_of}
use Rattle.script.specs.declared.call.Call.{Call}
use Rattle.text.specs.Texts.{lines_of}
use Rattle.job.specs.Jobs.{Reads}
use Rattle.text.specs.Problems.{Fault}
use Rattle.job.specs.Lines.{Readable}
use Rattle.job.proofs.Plainly.{plain_only, plain_reads, reads_plainly}
use Rattle.job.proofs.Saying.{all_read}
use Rattle.job.proofs.reader.read.Goals as goal

pub returns : goal.returns
returns c =
    let all = all_read _ _ _ _ _ c.in_default.ensures.lines.0 c.loop-line.invariant.0 in
    record {
      reads = all;
      line = tt;
      malformed = tt;
      plain_reads = plain_reads _ _ _ all;
      plain_only = plain_only _ _ _ all;
      plain_malformed = tt;
    }

pub returns-in-Err : goal.returns-in-Err
returns-in-Err c =
    let none : Fault c.fault.result.problem → (calls : List Call) → Reads None (lines_of c.args.text.now) calls → ⊥ = λ fault calls reads. c.in-Err.ensures.none (subst Fault c.fault.ensures.problem fault) (subst (Readable _) c.in-Some.ensures.lines (c.loop-line.invariant.1 (calls, reads))) in
    record {
      reads = tt;
      line = search rules;
      malformed = none;
      plain_reads = tt;
      plain_only = tt;
      plain_malformed = λ fault cs reads. none fault (map call_of cs) (reads_plainly _ _ cs reads);
    }
