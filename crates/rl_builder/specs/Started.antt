-- The first state of a builder.
use Rattle.std.specs.Prelude.{List, []}
use Rattle.rl_base.specs.declared.ids.ScopeId.{ScopeId}
use Rattle.rl_base.specs.declared.ids.SymbolId.{SymbolId}
use Rattle.rl_base.specs.declared.span.Span.{Span}
use Rattle.rl_builder.specs.Builder.{State, new_block, one_block_more}
use Rattle.rl_used_names.specs.UsedName.{UsedName}
use Rattle.rl_context.specs.declared.site.Site.{Site}
use Rattle.rl_hir.specs.declared.environment.Environment.{Environment}
use Rattle.rl_hir.specs.declared.function.BlockKind.{BlockKind}
use Rattle.rl_hir.specs.declared.function.Pair.{Pair}
use Rattle.rl_names.specs.Names.{scope_at}
use Rattle.rl_semantic.specs.declared.semantic.Semantic.{Semantic}

-- The parts that a builder is given: the unit's semantic tables, the index of the marked function, the scopes of the function that is
-- built and of the marked one, the context identifiers, and the names and captures of the function around it.
pub record Given : Type 0 where
  pub semantic : Semantic
  pub sites : List Site
  pub function_scope : ScopeId
  pub component_scope : ScopeId
  pub context_identifiers : List SymbolId
  pub bindings : List Pair
  pub context : List (SymbolId × Span)
  pub used_names : List UsedName

-- The first state: the current block is the entry, of a fresh id, and nothing was completed or opened.
abbrev pub started : Environment → Given → BlockKind → State
started env given kind = record {
  env = one_block_more env;
  completed = [];
  current = new_block env.next_block kind;
  entry = record { 0 = env.next_block };
  table = [];
  handlers = [];
  scopes = [];
  bindings = given.bindings;
  used_names = given.used_names;
  context = given.context;
  context_identifiers = given.context_identifiers;
  semantic = given.semantic;
  function = scope_at given.semantic.nodes.now given.semantic.bindings.scopes given.component_scope.0;
  sites = given.sites;
  function_scope = given.function_scope;
  component_scope = given.component_scope;
  fbt_depth = 0;
}
