-- The lowered functions and the names of a unit that keeps the binding rules.
use Rattle.std.proofs.Common.{◌≡◌, None, [], ap, sym, ◌∙◌, unwrap_or}
use Rattle.rl_ast.specs.Marked.{first, marked_functions}
use Rattle.rl_model.specs.Code.{lowered_functions}
use Rattle.rl_model.specs.Marked.{marked}
use Rattle.rl_model.specs.Source.{functions_of}
use Rattle.rl_model.specs.Units.{names_of}
use Rattle.rl_names.proofs.Marks.{keeps_marked, one_marked}
use Rattle.rl_names.proofs.SeenNames.{AreTablesOf, shown_names}
use Rattle.rl_names.specs.Names.{at_of}
use Rattle.rl_names.specs.Seen.{shown}
use Rattle.rl_semantic.specs.Items.{of_item}
use Rattle.rl_semantic.specs.Rules.{least_broken}
use Rattle.rl_semantic.specs.declared.semantic.Semantic.{Semantic}
use Rattle.rl_syntax.specs.Syntax.{Syntax, Absent}
use Rattle.rl_worlds.specs.Units.{IsSemanticOf}

-- The functions that `lowered_functions` of rl_code gives are those of the unit.
pub functions_are : (u : Syntax) → least_broken u ≡ None → of_item [] lowered_functions (first (marked_functions u)) ≡ functions_of u
functions_are u rules =
    let one = one_marked u (keeps_marked u rules) in
    ap (λ l. of_item [] lowered_functions (first l)) one.1 ∙ ap (λ l. lowered_functions (unwrap_or (first l) Absent)) (sym one.1)

-- The names by the tables, in the lowering of the marked function, are those of the unit.
pub names_are : (s : Semantic) (u : Syntax) → IsSemanticOf s u → shown s (at_of (marked u)) ≡ names_of u
names_are s u is =
    let tables : AreTablesOf s u = record {
      names = is.names;
      scopes = is.scopes;
      symbols = is.symbols;
      declarations = is.declarations;
      references = is.references;
      imports = is.imports;
      nodes = is.nodes;
    } in
    shown_names s u (marked u) tables
