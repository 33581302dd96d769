use Rattle.std.proofs.Common.{sym}
use Rattle.rl_ast.specs.FunctionNodes.{seen_function_node}
use Rattle.rl_lower.proofs.Answering.{ok_so}
use Rattle.rl_names.proofs.SeenNames.{AreTablesOf, shown_names}
use Rattle.rl_syntax.specs.Syntax.{Syntax, syntax}
use Rattle.rl_unit.proofs.Results.{may_lower, may_span, unit_result}
use Rattle.rl_unit.proofs.unit.lower_tree.Goals as goal

pub lower_in-requires : goal.lower_in-requires
lower_in-requires c =
    let u : Syntax = syntax c.args.unit.now.tree in
    let semantic = c.in_ok-semantic.ensures in
    let tables : AreTablesOf c.in_ok-semantic.semantic u = record {
      names = semantic.names;
      scopes = semantic.scopes;
      symbols = semantic.symbols;
      declarations = semantic.declarations;
      references = semantic.references;
      imports = semantic.imports;
      nodes = semantic.nodes;
    } in
    record {
      may = may_lower u c.function_of-function.result _ c.requires.read semantic.kept c.function_of-function.ensures
          (sym c.in_default.ensures.first)
          (shown_names c.in_ok-semantic.semantic u (seen_function_node c.function_of-function.result) tables);
      spans = may_span u c.function_of-function.result _ c.requires.read semantic.kept c.function_of-function.ensures
          (sym c.in_default.ensures.first)
          (shown_names c.in_ok-semantic.semantic u (seen_function_node c.function_of-function.result) tables) _ semantic.symbols;
    }

pub returns-clause-lowered : goal.returns-clause-lowered
returns-clause-lowered c =
    let u : Syntax = syntax c.args.unit.now.tree in
    let semantic = c.in_ok-semantic.ensures in
    let tables : AreTablesOf c.in_ok-semantic.semantic u = record {
      names = semantic.names;
      scopes = semantic.scopes;
      symbols = semantic.symbols;
      declarations = semantic.declarations;
      references = semantic.references;
      imports = semantic.imports;
      nodes = semantic.nodes;
    } in
    ok_so c.lower_in.result c.lower_in.ensures.lowered
    (λ l result. unit_result u (seen_function_node c.function_of-function.result) _ l c.requires.read semantic.kept
    c.function_of-function.ensures (sym c.in_default.ensures.first)
    (shown_names c.in_ok-semantic.semantic u (seen_function_node c.function_of-function.result) tables) result)
