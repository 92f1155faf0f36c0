use Rattle.std.proofs.Common.{rules}
use Rattle.job.specs.Jobs.{force, left}
use Rattle.job.proofs.Refusing.{on_said, on_skipped}
use Rattle.job.proofs.Saying.{said_more, skipped_more}
use Rattle.job.proofs.reader.Reader.read_line.Goals as goal

pub returns-in_ok-push : goal.returns-in_ok-push
returns-in_ok-push c =
    let said = c.in_ok-call.ensures in
    record {
      later = said.later;
      reads = λ s lines. said_more s lines _ _ c.args.line.now c.args.self.now c.read_call.new.self _ _ said.says c.in-Some.is c.in_ok-push.ensures.items;
      on = on_said (force c.args.self.now) c.args.line.now (left c.args.self.now.text) c.in-Some.call (force c.read_call.new.self) (left c.read_call.new.self.text) (search rules);
      none = tt;
    }

pub returns-in_default : goal.returns-in_default
returns-in_default c =
    let said = c.in_ok-call.ensures in
    record {
      later = said.later;
      reads = λ s lines. skipped_more s lines _ c.args.line.now c.args.self.now c.read_call.new.self _ said.blank c.in_default.is;
      on = on_skipped c.args.line.now c.args.self.now c.read_call.new.self _ said.blank c.in_default.is;
      none = tt;
    }
