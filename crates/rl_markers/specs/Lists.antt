-- Lists of statements, as the program holds them.
use Rattle.std.specs.Prelude.{map}
use Rattle.rl_markers.specs.declared.lists.StatementList.{StatementList as Held}
use Rattle.rl_model.specs.Hoisting.{StatementList}
use Rattle.rl_syntax.specs.Syntax.{pieces_of, syntax}

abbrev pub seen : Held → StatementList
seen l = record { scope = l.scope.0; statements = pieces_of (map syntax l.statements.now) }
