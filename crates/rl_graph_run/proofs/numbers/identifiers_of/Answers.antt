use Rattle.std.proofs.Common.{sym, ap, ◌∙◌}
use Rattle.rl_graph_run.specs.Symbols.{identifier_at}
use Rattle.rl_graph_run.proofs.Tables.{identifier_or, or_last, or_none, or_over}
use Rattle.rl_graph_run.proofs.numbers.identifiers_of.Goals as goal

pub pairs-init : goal.pairs-init
pairs-init c n =
    ap (λ items. identifier_or c.args.pairs.now n (identifier_at items n)) c.new-table.ensures.items ∙ or_none c.args.pairs.now n

pub pairs-preserved : goal.pairs-preserved
pairs-preserved c n =
    ap (identifier_or c.in-Some.rest.now n) (c.in_ok-put_pair.ensures n)
    ∙ sym (or_last c.in-Some.rest.now c.in-Some.pair.now n (identifier_at c.pairs.table.items n))
    ∙ ap (λ ps. identifier_or ps n (identifier_at c.pairs.table.items n)) (sym c.in-Some.ensures.cases.0)
    ∙ c.pairs.invariant n

pub returns : goal.returns
returns c n = sym (or_over c.pairs.left.now n (identifier_at c.pairs.table.items n) c.in_default.ensures.cases) ∙ c.pairs.invariant n
