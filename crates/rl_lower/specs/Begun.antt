-- The builder of a function before anything of it is lowered.
use Rattle.std.specs.Prelude.{List, []}
use Rattle.rl_base.specs.declared.ids.ScopeId.{ScopeId}
use Rattle.rl_builder.specs.Builder.{State}
use Rattle.rl_builder.specs.Started.{Given, started}
use Rattle.rl_context.specs.declared.site.Site.{Site}
use Rattle.rl_hir.specs.declared.environment.Environment.{Environment}
use Rattle.rl_hir.specs.declared.function.BlockKind.TheVariants as kinds
use Rattle.rl_names.specs.declared.names.FunctionNames.{FunctionNames}
use Rattle.rl_semantic.specs.declared.semantic.Semantic.{Semantic}

-- The tables by which the marked function is lowered: those of its unit, its scope, and its index.
pub record FunctionTables : Type 0 where
  pub semantic : Semantic
  pub scope : ScopeId
  pub sites : List Site

-- The tables that `names` reads, with the scope and the index.
abbrev pub function_tables : FunctionNames → (scope : ScopeId) → (sites : List Site) → FunctionTables
function_tables names scope sites = record { semantic = names.resolver.now.semantic.now; scope = scope; sites = sites }

-- The parts that the builder of the marked function is given. No function around it has names or captures.
abbrev pub given_by : FunctionTables → Given
given_by t = record {
  semantic = t.semantic;
  sites = t.sites;
  function_scope = t.scope;
  component_scope = t.scope;
  context_identifiers = [];
  bindings = [];
  context = [];
  used_names = [];
}

-- The first state of that builder.
abbrev pub begun_by : Environment → FunctionTables → State
begun_by env t = started env (given_by t) kinds.Block
