use Rattle.std.proofs.Common.{ap, ◌∙◌}
use Rattle.std.specs.Option.{option_map}
use Rattle.geometry.specs.Frames.{sides}
use Rattle.script.proofs.Making.{made_part}
use Rattle.script.proofs.session.Session.make_frame.Goals as goal

pub returns-clause-frame : goal.returns-clause-frame
returns-clause-frame c = ap (option_map sides) c.ok-self.ensures.value ∙ made_part c.new-made.result _ sides _ _ c.new-made.ensures
