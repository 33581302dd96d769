use Rattle.std.proofs.Common.{arith}
use Rattle.rl_trace_text.proofs.Nodes.{nothing_none, nothing_shown}
use Rattle.rl_trace_text.proofs.from_tree.UnitFromRow.from_row.Goals as goal

pub returns-then-not-is_empty-clause-none : goal.returns-then-not-is_empty-clause-none
returns-then-not-is_empty-clause-none c = nothing_none c.args.parts.now (grind (arith, c.is_empty.ensures, c.if-not-is_empty.true))

pub returns-clause-found : goal.returns-clause-found
returns-clause-found c = nothing_shown c.args.parts.now (grind (arith, c.is_empty.ensures, c.if-not-is_empty.false))
