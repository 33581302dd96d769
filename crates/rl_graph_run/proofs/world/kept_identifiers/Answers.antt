use Rattle.std.proofs.Common.{◌++◌, filter, ap, ◌∙◌}
use Rattle.rl_code.specs.Flags.{flag_at}
use Rattle.rl_model.specs.Code.{contains}
use Rattle.rl_model.specs.Worlds.{marked_identifiers}
use Rattle.rl_graph_run.proofs.Kept.{same_kept}
use Rattle.rl_graph_run.proofs.world.kept_identifiers.Goals as goal

pub returns : goal.returns
returns c =
    c.in_ok-found.ensures
    ∙ ap (λ flags. filter (flag_at flags) c.as_slice.result.now) c.as_slice-2.ensures.value
    ∙ ap (filter (flag_at c.in_ok-flags.flags.items)) (c.as_slice.ensures.value
    ∙ c.in_ok-push_function.ensures
    ∙ ap (λ ids. ids ++ marked_identifiers c.args.graph.now) c.new-marked.ensures.items)
    ∙ same_kept (flag_at c.in_ok-flags.flags.items) (contains c.in_ok-shared.shared.items) c.in_ok-flags.ensures
    (marked_identifiers c.args.graph.now)
    ∙ ap (λ ids. filter (contains ids) (marked_identifiers c.args.graph.now)) c.in_ok-shared.ensures
