use Rattle.std.proofs.Common.{◌≡◌}
use Rattle.builder_tests.proofs.CapturingGraphs.{made_is, listed_at, room_at, whole_at}
use Rattle.rl_builder.specs.Builder.{state_of}
use Rattle.rl_builder.specs.Started.{Given, started}
use Rattle.rl_hir.specs.declared.function.BlockKind.TheVariants as kinds
use Rattle.builder_tests.proofs.captures.build_capturing.Goals as goal

pub build-requires-clause-whole : goal.build-requires-clause-whole
build-requires-clause-whole g c =
    let tables = g.U.ReadsUnit.tables c.args.unit in
    let given : Given = record { semantic = tables.semantic; sites = tables.sites; function_scope = c.args.scope; component_scope = c.args.component; context_identifiers = c.new.result.keys; bindings = c.args.bindings; context = c.args.context.entries; used_names = c.args.used_names } in
    let first : state_of g.U.ReadsUnit.tables c.in_ok-builder.builder ≡ started c.args.env.now given kinds.Sequence = c.in_ok-builder.ensures.state in
    whole_at c.args.env.now given _ _ _ (made_is c.args.env.now given _ _ _ _ _ first c.in_ok-terminate.ensures.state c.in_ok-resolve_binding.ensures.resolves.state)

pub build-requires-clause-listed : goal.build-requires-clause-listed
build-requires-clause-listed g c =
    let tables = g.U.ReadsUnit.tables c.args.unit in
    let given : Given = record { semantic = tables.semantic; sites = tables.sites; function_scope = c.args.scope; component_scope = c.args.component; context_identifiers = c.new.result.keys; bindings = c.args.bindings; context = c.args.context.entries; used_names = c.args.used_names } in
    let first : state_of g.U.ReadsUnit.tables c.in_ok-builder.builder ≡ started c.args.env.now given kinds.Sequence = c.in_ok-builder.ensures.state in
    listed_at c.args.env.now given _ _ _ (made_is c.args.env.now given _ _ _ _ _ first c.in_ok-terminate.ensures.state c.in_ok-resolve_binding.ensures.resolves.state)

pub build-requires-clause-room : goal.build-requires-clause-room
build-requires-clause-room g c =
    let tables = g.U.ReadsUnit.tables c.args.unit in
    let given : Given = record { semantic = tables.semantic; sites = tables.sites; function_scope = c.args.scope; component_scope = c.args.component; context_identifiers = c.new.result.keys; bindings = c.args.bindings; context = c.args.context.entries; used_names = c.args.used_names } in
    let first : state_of g.U.ReadsUnit.tables c.in_ok-builder.builder ≡ started c.args.env.now given kinds.Sequence = c.in_ok-builder.ensures.state in
    room_at c.args.env.now given _ _ _ (made_is c.args.env.now given _ _ _ _ _ first c.in_ok-terminate.ensures.state c.in_ok-resolve_binding.ensures.resolves.state)
