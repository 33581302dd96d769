use Rattle.std.proofs.Common.{rules, ◌≡◌, ◌+◌, ap, arith, subst, ◌∙◌}
use Rattle.builder_tests.proofs.Inners.{is_inner, made_is, room_behind, whole_at}
use Rattle.builder_tests.specs.Inner.{begun, undefined}
use Rattle.rl_builder.specs.Build.{IsBuilt}
use Rattle.rl_hir.specs.declared.environment.Environment.{Environment}
use Rattle.rl_builder.specs.Builder.{State, pushed, state_of, with_temporary}
use Rattle.rl_builder.specs.Started.{Given}
use Rattle.std.specs.Prelude.{None}
use Rattle.builder_tests.proofs.inner.build_inner.Goals as goal

pub push-requires-clause-blocks : goal.push-requires-clause-blocks
push-requires-clause-blocks g c =
    let tables = g.U.ReadsUnit.tables c.args.unit in
    let given : Given = record { semantic = tables.semantic; sites = tables.sites; function_scope = c.args.scope; component_scope = c.args.component; context_identifiers = c.args.context_identifiers.keys; bindings = c.args.bindings; context = c.args.context.entries; used_names = c.args.used_names } in
    let first : state_of g.U.ReadsUnit.tables c.in_ok-builder.builder ≡ begun c.args.env.now given = c.in_ok-builder.ensures.state in
    let same : c.create_temporary_place.new.self.env.now.next_block ≡ c.args.env.now.next_block + 1 = ap (λ (s : State). s.env.next_block) (c.in_ok-test.ensures.state ∙ ap (λ (s : State). with_temporary s None) first) in
    omega (arith, same, c.requires.blocks)

pub terminate-requires : goal.terminate-requires
terminate-requires g c =
    let tables = g.U.ReadsUnit.tables c.args.unit in
    let given : Given = record { semantic = tables.semantic; sites = tables.sites; function_scope = c.args.scope; component_scope = c.args.component; context_identifiers = c.args.context_identifiers.keys; bindings = c.args.bindings; context = c.args.context.entries; used_names = c.args.used_names } in
    let first : state_of g.U.ReadsUnit.tables c.in_ok-builder.builder ≡ begun c.args.env.now given = c.in_ok-builder.ensures.state in
    let same : c.push.new.self.env.now.next_block ≡ c.args.env.now.next_block + 1 =
    ap (λ (s : State). s.env.next_block) (c.in_ok-push.ensures.state ∙ ap (λ (s : State). pushed s (undefined c.in_ok-test.test)) (c.in_ok-test.ensures.state ∙ ap (λ (s : State). with_temporary s None) first)) in
    omega (arith, same, c.requires.blocks)

pub build-requires-clause-whole : goal.build-requires-clause-whole
build-requires-clause-whole g c =
    let tables = g.U.ReadsUnit.tables c.args.unit in
    let given : Given = record { semantic = tables.semantic; sites = tables.sites; function_scope = c.args.scope; component_scope = c.args.component; context_identifiers = c.args.context_identifiers.keys; bindings = c.args.bindings; context = c.args.context.entries; used_names = c.args.used_names } in
    let first : state_of g.U.ReadsUnit.tables c.in_ok-builder.builder ≡ begun c.args.env.now given = c.in_ok-builder.ensures.state in
    let is = made_is c.args.env.now given _ _ _ _ c.in_ok-test.test first c.in_ok-test.ensures.state c.in_ok-test.ensures.place c.in_ok-push.ensures.state c.in_ok-terminate.ensures.state in
    whole_at c.args.env.now given _ is

pub create_temporary_place-requires-2-clause-identifiers : goal.create_temporary_place-requires-2-clause-identifiers
create_temporary_place-requires-2-clause-identifiers g c =
    let tables = g.U.ReadsUnit.tables c.args.unit in
    let given : Given = record { semantic = tables.semantic; sites = tables.sites; function_scope = c.args.scope; component_scope = c.args.component; context_identifiers = c.args.context_identifiers.keys; bindings = c.args.bindings; context = c.args.context.entries; used_names = c.args.used_names } in
    let first : state_of g.U.ReadsUnit.tables c.in_ok-builder.builder ≡ begun c.args.env.now given = c.in_ok-builder.ensures.state in
    let is = made_is c.args.env.now given _ _ _ _ c.in_ok-test.test first c.in_ok-test.ensures.state c.in_ok-test.ensures.place c.in_ok-push.ensures.state c.in_ok-terminate.ensures.state in
    let left : c.build.new.self.0 ≡ c.env-2-1.given.0 = search rules in
    room_behind c.args.env.now given _ _ _ is (subst (λ (e : Environment). IsBuilt (state_of g.U.ReadsUnit.tables c.terminate.new.self) (record { blocks = c.in_ok-built.built.hir.blocks; table = c.in_ok-built.built.instructions; entry = c.in_ok-built.built.hir.entry }) e) left c.in_ok-built.ensures.built) c.requires.identifiers

pub returns-clause-made : goal.returns-clause-made
returns-clause-made g c =
    let tables = g.U.ReadsUnit.tables c.args.unit in
    let given : Given = record { semantic = tables.semantic; sites = tables.sites; function_scope = c.args.scope; component_scope = c.args.component; context_identifiers = c.args.context_identifiers.keys; bindings = c.args.bindings; context = c.args.context.entries; used_names = c.args.used_names } in
    let first : state_of g.U.ReadsUnit.tables c.in_ok-builder.builder ≡ begun c.args.env.now given = c.in_ok-builder.ensures.state in
    let is = made_is c.args.env.now given _ _ _ _ c.in_ok-test.test first c.in_ok-test.ensures.state c.in_ok-test.ensures.place c.in_ok-push.ensures.state c.in_ok-terminate.ensures.state in
    let left : c.build.new.self.0 ≡ c.env-2-1.given.0 = search rules in
    is_inner c.args.env.now given _ _ _ _ is (subst (λ (e : Environment). IsBuilt (state_of g.U.ReadsUnit.tables c.terminate.new.self) (record { blocks = c.in_ok-built.built.hir.blocks; table = c.in_ok-built.built.instructions; entry = c.in_ok-built.built.hir.entry }) e) left c.in_ok-built.ensures.built) c.in_ok-returns.ensures.ok
