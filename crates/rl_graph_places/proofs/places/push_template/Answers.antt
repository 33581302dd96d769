use Rattle.std.proofs.Common.{◌++◌, ap, sym, ◌∙◌}
use Rattle.rl_hir.specs.Pieces.{gathered, value_pieces}
use Rattle.rl_graph_places.specs.Places.{named}
use Rattle.rl_graph_places.proofs.Naming.{named_template}
use Rattle.rl_graph_places.proofs.places.push_template.Goals as goal

pub returns : goal.returns
returns c =
    c.in_ok-push_places.ensures
    ∙ ap (λ items. c.args.out.now.items ++ named (gathered value_pieces items)) c.as_slice-values.ensures
    ∙ ap (λ ids. c.args.out.now.items ++ ids) (sym (named_template c.args.template.now))
