use Rattle.std.proofs.Common.{map, replicate, ap, ◌∙◌, ap₂}
use Rattle.script.specs.Scripts.{State, blanks, reply_of}
use Rattle.script.proofs.context.Context.new.Goals as goal

pub returns : goal.returns
unfolding blanks
returns c =
    ap₂ {C = State} (λ b l. record { corners = 65536; boxes = b; replies = map reply_of l }) (c.in_ok-boxes.ensures.items_if_clones_equal (λ y e. e) ∙ ap (replicate 65536) c.blank_record.ensures) c.new.ensures.items
