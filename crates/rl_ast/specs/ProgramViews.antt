-- The trees that views show, one level each. Written by tools/syntax.py from tools/grammar.txt.
use Rattle.std.specs.Prelude.{map}
use Rattle.rl_syntax.specs.Syntax.{Syntax, Count, End, Listed, Node, Said, Then, pieces_of, syntax}
use Rattle.rl_ast.specs.declared.program.Entity.{Entity}
use Rattle.rl_ast.specs.declared.program.Program.{Program}
use Rattle.rl_syntax.specs.declared.word.Word.TheVariants as word

abbrev pub seen_entity : Entity → Syntax
seen_entity v = Node v.at word.Entity (Then (Said v.name.now) (Then (Count v.value) End))

abbrev pub seen_program : Program → Syntax
seen_program v = Node v.at word.Program (Then (Listed (pieces_of (map syntax v.body.trees.now))) End)
