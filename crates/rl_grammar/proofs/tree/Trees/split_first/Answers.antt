use Rattle.rl_grammar.proofs.Viewing.{first_fits}
use Rattle.rl_grammar.proofs.tree.Trees.split_first.Goals as goal

pub new-requires : goal.new-requires
new-requires g c = first_fits _ _ _ _ c.in_ok-first.ensures c.args.self.fit
