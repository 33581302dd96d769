use Rattle.std.proofs.Common.{Bor, List, Some, map, option_map, ap, sym, ◌∙◌}
use Rattle.rl_base.specs.declared.ids.NodeId.{NodeId}
use Rattle.rl_model.specs.Functions.{run_function}
use Rattle.rl_model.specs.Scenes.{written_scene}
use Rattle.rl_source_run.proofs.UnitRuns.{marked_function}
use Rattle.rl_source_scene.proofs.FunctionFits.{found_fit}
use Rattle.rl_syntax.specs.Syntax.{Syntax, syntax}
use Rattle.rl_syntax.specs.declared.numbered.Numbered.{Numbered}
use Rattle.rl_worlds.proofs.UnitTables.{functions_are}
use Rattle.rl_source_run.proofs.unit.run_source.Goals as goal

abbrev trees : List (Bor Numbered) → List Syntax
trees items = map (λ t. syntax t.now) items

pub returns-in-None-clause-no_function : goal.returns-in-None-clause-no_function
returns-in-None-clause-no_function c error =
    let u : Syntax = syntax c.args.unit.now.tree in
    sym (c.in-None.ensures u (ap trees c.as_slice.ensures.value ∙ c.in_ok-functions.ensures ∙ functions_are u c.requires.tables.rules))

pub run_function_in-requires-clause-functions : goal.run_function_in-requires-clause-functions
run_function_in-requires-clause-functions c =
    ap trees c.as_slice-in-Some.ensures.value ∙ c.in_ok-functions.ensures ∙ functions_are (syntax c.args.unit.now.tree) c.requires.tables.rules

pub run_function_in-requires-clause-fits : goal.run_function_in-requires-clause-fits
run_function_in-requires-clause-fits c =
    let u : Syntax = syntax c.args.unit.now.tree in
    found_fit u (syntax c.in-Some.found.now) (option_map (λ (n : NodeId). n.0) c.args.function)
    (marked_function u c.requires.tables.rules c.args.unit.now.fit)
    (c.in-Some.ensures u (ap trees c.as_slice.ensures.value ∙ c.in_ok-functions.ensures ∙ functions_are u c.requires.tables.rules))

pub returns-clause-trace : goal.returns-clause-trace
returns-clause-trace c =
    let u : Syntax = syntax c.args.unit.now.tree in
    sym (ap Some c.in_ok-trace-in-Some.ensures
    ∙ ap (option_map (λ (f : Syntax). run_function (written_scene u f) f c.args.start.now c.args.arguments.now c.args.answers.now))
    (c.in-Some.ensures u (ap trees c.as_slice.ensures.value ∙ c.in_ok-functions.ensures ∙ functions_are u c.requires.tables.rules)))
