use Rattle.std.proofs.Common.{◌||◌, nat_eq, ap, ◌∙◌}
use Rattle.rl_hir.proofs.Symbols.{members_added}
use Rattle.rl_hir.specs.Symbols.{has}
use Rattle.rl_hir.proofs.symbol_set.SymbolSet.insert.Goals as goal

pub returns-clause-members : goal.returns-clause-members
returns-clause-members c other = ap (λ symbols. has symbols other) c.in_ok-insert.ensures.keys ∙ members_added _ c.args.symbol other ∙ ap (λ symbols. has symbols other || nat_eq other.0 c.args.symbol.0) c.self.view_is
