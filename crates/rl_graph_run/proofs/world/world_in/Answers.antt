use Rattle.std.proofs.Common.{ap, ◌∙◌}
use Rattle.rl_hir.specs.Pairs.{identifier_of}
use Rattle.rl_graph_run.specs.Symbols.{identifier_at}
use Rattle.rl_graph_run.proofs.world.world_in.Goals as goal

pub returns-clause-numbers : goal.returns-clause-numbers
returns-clause-numbers c n = c.in_ok-numbers.ensures n ∙ ap (λ ps. identifier_of ps n) c.as_slice.ensures

pub returns-clause-opens : goal.returns-clause-opens
returns-clause-opens c =
    c.in_ok-opens.ensures (λ n. ap (λ t. identifier_at t n) c.as_slice-2.ensures.value ∙ c.in_ok-numbers.ensures n
    ∙ ap (λ ps. identifier_of ps n) c.as_slice.ensures)

pub returns-clause-keeps : goal.returns-clause-keeps
returns-clause-keeps c =
    c.in_ok-keeps.ensures (λ n. ap (λ t. identifier_at t n) c.as_slice-3.ensures.value ∙ c.in_ok-numbers.ensures n
    ∙ ap (λ ps. identifier_of ps n) c.as_slice.ensures)
