use Rattle.script.proofs.session.Session.cut.Goals as goal

pub returns-in-Some-clause-went : goal.returns-in-Some-clause-went
returns-in-Some-clause-went c = rw c.in-Some.is c.cut_block.ensures.went
