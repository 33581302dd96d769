use Rattle.rl_source_gather.proofs.Shaped.{child_dropped}
use Rattle.std.proofs.Common.{ap, append-nil, sym, ◌++◌, ◌∙◌}
use Rattle.rl_source_gather.proofs.jsx.push_child_shape.Goals as goal

pub returns-then-is_nothing : goal.returns-then-is_nothing
returns-then-is_nothing c =
    sym (append-nil c.args.texts.now)
    ∙ ap (λ shape. c.args.texts.now ++ shape)
    (sym (c.in_ok-item.ensures.shape ∙ child_dropped _ (sym c.is_nothing.ensures ∙ c.if-is_nothing.true)))
