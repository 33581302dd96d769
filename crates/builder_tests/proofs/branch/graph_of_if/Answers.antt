use Rattle.std.proofs.Common.{◌≡◌, ◌<◌, All, [], length, ap, subst, sym, ◌∙◌}
use Rattle.builder_tests.proofs.Graphs.{begun, fresh, listed, made_is, whole}
use Rattle.rl_base.specs.declared.ids.InstructionId.{InstructionId}
use Rattle.rl_builder.proofs.Kept.{ok_same}
use Rattle.rl_builder.specs.Build.{graph_of}
use Rattle.rl_builder.specs.Builder.{State, state_of}
use Rattle.rl_builder.specs.Started.{Given, started}
use Rattle.rl_hir.specs.Blocks.{Pair}
use Rattle.rl_hir.specs.declared.environment.Environment.{Environment}
use Rattle.rl_hir.specs.declared.function.BlockKind.TheVariants as kinds
use Rattle.rl_order.specs.Walk.{IsWhole}
use Rattle.builder_tests.proofs.branch.graph_of_if.Goals as goal

pub build-requires-clause-whole : goal.build-requires-clause-whole
build-requires-clause-whole g c =
    let tables = g.U.ReadsUnit.tables c.args.unit in
    let given : Given = record { semantic = tables.semantic; sites = tables.sites; function_scope = c.args.scope; component_scope = c.args.scope; context_identifiers = c.new-3.result.keys; bindings = []; context = []; used_names = [] } in
    let first : state_of g.U.ReadsUnit.tables c.in_ok-builder.builder ≡ begun given = c.in_ok-builder.ensures.state ∙ ap (λ (e : Environment). started e given kinds.Block) (ok_same _ (record fresh { entities = c.new.result }) c.in_ok-env.ensures ∙ ap (λ t. record fresh { entities = t }) c.new.ensures) in
    let made = made_is given _ _ _ _ _ _ first c.in_ok-test.ensures.state c.in_ok-test.ensures.place c.in_ok-push.ensures.state c.in_ok-build_empty_if.ensures.state c.in_ok-terminate.ensures.state in
    subst (λ (s : State). IsWhole (graph_of s) s.entry) (sym made) (whole given)

pub build-requires-clause-listed : goal.build-requires-clause-listed
build-requires-clause-listed g c =
    let tables = g.U.ReadsUnit.tables c.args.unit in
    let given : Given = record { semantic = tables.semantic; sites = tables.sites; function_scope = c.args.scope; component_scope = c.args.scope; context_identifiers = c.new-3.result.keys; bindings = []; context = []; used_names = [] } in
    let first : state_of g.U.ReadsUnit.tables c.in_ok-builder.builder ≡ begun given = c.in_ok-builder.ensures.state ∙ ap (λ (e : Environment). started e given kinds.Block) (ok_same _ (record fresh { entities = c.new.result }) c.in_ok-env.ensures ∙ ap (λ t. record fresh { entities = t }) c.new.ensures) in
    let made = made_is given _ _ _ _ _ _ first c.in_ok-test.ensures.state c.in_ok-test.ensures.place c.in_ok-push.ensures.state c.in_ok-build_empty_if.ensures.state c.in_ok-terminate.ensures.state in
    subst (λ (s : State). All (λ (p : Pair). All (λ (id : InstructionId). id.0 < length s.table) p.1.instructions) (graph_of s)) (sym made) (listed given)
