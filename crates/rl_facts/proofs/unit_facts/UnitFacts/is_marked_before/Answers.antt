use Rattle.rl_syntax.specs.Syntax.{syntax}
use Rattle.rl_facts.proofs.unit_facts.UnitFacts.is_marked_before.Goals as goal

pub returns : goal.returns
returns c = let f = c.args.self.now in c.is_marked_before.ensures (syntax f.marked.now) f.markers_are
