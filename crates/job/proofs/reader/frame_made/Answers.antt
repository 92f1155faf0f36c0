use Rattle.std.proofs.Common.{sym, ap, ◌∙◌}
use Rattle.std.specs.Option.{option_map}
use Rattle.geometry.specs.Frames.{sides}
use Rattle.script.specs.declared.call.Call.TheVariants.{Make}
use Rattle.job.specs.Jobs.{frame_after}
use Rattle.job.proofs.Saying.{framed_by}
use Rattle.job.proofs.reader.frame_made.Goals as goal

pub returns-in-Frame : goal.returns-in-Frame
returns-in-Frame c =
    framed_by _ c.in-Frame.x c.in-Frame.y c.in-Frame.z _ c.new.ensures c.ok.ensures.value
    ∙ ap (λ m. frame_after (option_map sides c.args.frame) (Make m)) (sym c.in-Frame.is)
