use Rattle.std.proofs.Common.{ap, ◌∙◌}
use Rattle.rl_model.specs.Orderly.{right_of}
use Rattle.rl_names.specs.Seen.{seen}
use Rattle.rl_orderly.specs.Repeats.{is_none}
use Rattle.rl_orderly.proofs.Repeating.{tried}
use Rattle.rl_syntax.specs.Syntax.{syntax}
use Rattle.rl_orderly.proofs.pattern.has_none_right.Goals as goal

pub returns : goal.returns
returns c opens =
    c.is_none.ensures ∙ ap is_none (c.in_ok-right.ensures ∙ ap right_of c.in_ok-items.ensures)
    ∙ tried (seen c.args.variables.now.names) opens (syntax c.args.pattern.now)
