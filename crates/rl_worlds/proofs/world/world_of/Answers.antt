use Rattle.std.proofs.Common.{length, filter, ap, ◌∙◌}
use Rattle.std.specs.List.{list_any}
use Rattle.rl_worlds.specs.Worlds.{is_shared, others_among}
use Rattle.rl_model.specs.Code.{assigned_in, below, contains}
use Rattle.rl_names.specs.Seen.{seen}
use Rattle.rl_syntax.specs.Syntax.{syntax}
use Rattle.rl_worlds.proofs.world.world_of.Goals as goal

pub returns-clause-opens : goal.returns-clause-opens
returns-clause-opens c marked all s =
    c.in_ok-opens.ensures s
    ∙ ap (λ fs. list_any (λ other. contains (assigned_in (seen c.args.names.now) other) s) (others_among fs
    (syntax c.args.function.now))) all

pub returns-clause-keeps : goal.returns-clause-keeps
returns-clause-keeps c marked all =
    c.in_ok-keeps.ensures
    ∙ ap (λ fs. filter (is_shared (seen c.args.names.now) fs (syntax c.args.function.now)) (below
    (length c.args.names.now.resolver.now.semantic.now.bindings.symbols))) all
