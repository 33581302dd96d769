-- The tree that the view of a unit shows.
use Rattle.std.specs.Prelude.{map}
use Rattle.rl_syntax.specs.Syntax.{Syntax, Node, Listed, End, Then, pieces_of, syntax}
use Rattle.rl_ast.specs.declared.unit.UnitNode.{UnitNode}
use Rattle.rl_syntax.specs.declared.word.Word.TheVariants as word

abbrev pub seen_unit : UnitNode → Syntax
seen_unit v = Node v.at word.Unit (Then (Listed (pieces_of (map syntax v.entities.trees.now))) (Then (syntax v.program.tree.now) End))
