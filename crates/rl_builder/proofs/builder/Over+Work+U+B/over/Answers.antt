use Rattle.std.proofs.Common.{ℕ, ap, ◌∙◌}
use Rattle.rl_hir.specs.declared.function.BlockKind.{BlockKind}
use Rattle.rl_names.specs.Names.{scope_at}
use Rattle.rl_semantic.specs.declared.semantic.Semantic.{Semantic}
use Rattle.rl_builder.specs.Builder.{new_block}
use Rattle.rl_builder.proofs.builder.Over+Work+U+B.over.Goals as goal

pub returns-clause-state : goal.returns-clause-state
returns-clause-state g c =
    let tables = g.U.ReadsUnit.tables c.args.unit in
    let entry = c.next_block_id-entry.ensures in
    let function = c.in_scope.ensures.function ∙ ap (λ (m : Semantic). scope_at m.nodes.now m.bindings.scopes c.args.component_scope.0) c.resolver-scope.ensures in
    let current = c.new_block.ensures ∙ ap (λ (n : ℕ). new_block n c.unwrap_or-kind.result) entry.id ∙ ap (λ (k : BlockKind). new_block c.args.env.now.next_block k) c.unwrap_or-kind.ensures in
    λ i. record {
      env = entry.rest i;
      completed = c.new.ensures.items i;
      current = current i;
      entry = record { 0 = entry.id i };
      table = c.new-2.ensures.items i;
      handlers = c.new-3.ensures.items i;
      scopes = c.new-4.ensures.items i;
      bindings = c.in_ok-bindings.ensures i;
      used_names = c.in_ok-used_names.ensures i;
      context = c.context_or_none.ensures i;
      context_identifiers = c.args.context_identifiers.keys;
      semantic = tables.semantic;
      function = function i;
      sites = tables.sites;
      function_scope = c.args.function_scope;
      component_scope = c.args.component_scope;
      fbt_depth = 0;
    }
