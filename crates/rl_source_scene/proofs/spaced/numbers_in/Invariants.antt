use Rattle.std.proofs.Common.{◌≡◌, ◌++◌, drop}
use Rattle.rl_source_stack.specs.Texts.{numbers_of}
use Rattle.rl_source_scene.proofs.spaced.numbers_in.Given as goal

abbrev pub invariant-nodes : goal.invariant-nodes
invariant-nodes l = l.numbers.items ++ numbers_of (drop l.node-index l.nodes) ≡ numbers_of l.nodes
