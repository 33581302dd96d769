use Rattle.std.proofs.Common.{◌≡◌, IfOk, length, ap, subst, ◌∙◌}
use Rattle.rl_ast.specs.FunctionNodes.{seen_function_node}
use Rattle.rl_bindings.specs.Tables.{symbols_in}
use Rattle.rl_code.specs.Flags.{flag_at}
use Rattle.rl_model.specs.Functions.{run_function}
use Rattle.rl_model.specs.Marked.{marked}
use Rattle.rl_model.specs.Scenes.{written_scene}
use Rattle.rl_model.specs.Units.{names_of}
use Rattle.rl_names.specs.Seen.{seen, shown}
use Rattle.rl_resolver.specs.declared.resolver.ScopeResolver.{ScopeResolver}
use Rattle.rl_semantic.specs.declared.semantic.Semantic.{Semantic}
use Rattle.rl_source_run.proofs.UnitRuns.{world_made}
use Rattle.rl_source_stack.proofs.WrittenScenes.{scene_written}
use Rattle.rl_syntax.specs.Syntax.{Syntax, syntax}
use Rattle.rl_worlds.proofs.UnitTables.{names_are}
use Rattle.rl_source_run.proofs.unit.run_function_in.Goals as goal

pub names_in-names-requires : goal.names_in-names-requires
names_in-names-requires c = record { rules = c.requires.tables.rules }

pub returns : goal.returns
returns c =
    let u : Syntax = syntax c.args.unit.now.tree in
    let f : Syntax = syntax c.args.function.now in
    let names_same : seen c.names_in-names.result ≡ names_of u =
    ap (λ (r : ScopeResolver). shown r.semantic.now c.names_in-names.result.function) c.names_in-names.ensures.resolver
    ∙ ap (λ (s : Semantic). shown s c.names_in-names.result.function) c.in_ok-resolver.ensures
    ∙ ap (shown c.args.semantic.now) c.names_in-names.ensures.function
    ∙ names_are c.args.semantic.now u c.requires.tables in
    let count_same : length c.names_in-names.result.resolver.now.semantic.now.bindings.symbols ≡ length (symbols_in u) =
    ap (λ (r : ScopeResolver). length r.semantic.now.bindings.symbols) c.names_in-names.ensures.resolver
    ∙ ap (λ (s : Semantic). length s.bindings.symbols) c.in_ok-resolver.ensures
    ∙ ap length c.requires.tables.symbols in
    subst (λ q. IfOk c.run_in.result (λ t. t ≡ q))
    (ap (λ scene. run_function scene (seen_function_node c.function_view.result) c.args.inputs.start.now c.args.inputs.arguments.now
    c.args.inputs.answers.now)
    (scene_written u f c.names_in-names.result
    (record { entities = record { ref_ptr = c.args.unit.ref_ptr; now = c.in_ok-entities.entities }; spaced = c.as_slice-2.result }) _ names_same
    (world_made (seen c.names_in-names.result) (names_of u) _ _ (marked u) f c.in_ok-world.world.opens.items c.as_slice-3.result.now
    c.in_ok-world.world.keeps.items c.as_slice.result.now c.in_ok-kept.kept.items c.as_slice-4.result.now names_same count_same
    (c.in_ok-world.ensures.opens (marked u) c.requires.functions) (c.in_ok-world.ensures.keeps (marked u) c.requires.functions)
    c.in_ok-kept.ensures c.as_slice.ensures.value c.as_slice-3.ensures.value c.as_slice-4.ensures.value)
    c.in_ok-entities.ensures (λ node. ap (λ flags. flag_at flags node) c.as_slice-2.ensures.value ∙ c.in_ok-spaced.ensures node))
    ∙ ap (λ g. run_function (written_scene u f) g c.args.inputs.start.now c.args.inputs.arguments.now c.args.inputs.answers.now)
    c.function_view.ensures) c.run_in.ensures
