-- Functions that return the value of a formula, and what their graphs have to meet to be built.
use Rattle.std.specs.Prelude.{◌<◌, ◌^◌, false, None, List, [], All, length}
use Rattle.frame_tests.specs.declared.formula.Formula.{Formula}
use Rattle.frame_tests.specs.Lowering.{Made, lowered}
use Rattle.rl_base.specs.declared.ids.ScopeId.{ScopeId}
use Rattle.rl_base.specs.declared.ids.SymbolId.{SymbolId}
use Rattle.rl_builder.specs.Build.{graph_of}
use Rattle.rl_builder.specs.Builder.{State, terminated}
use Rattle.rl_builder.specs.Started.{Given, started}
use Rattle.rl_builder.specs.Tables.{Tables}
use Rattle.rl_hir.specs.declared.environment.Environment.{Environment}
use Rattle.rl_hir.specs.declared.function.BlockKind.TheVariants as kinds
use Rattle.rl_hir.specs.declared.function.ReactFunctionType.TheVariants as types
use Rattle.rl_hir.specs.declared.instruction.Place.{Place}
use Rattle.rl_hir.specs.declared.terminal.ReturnVariant.TheVariants as returns
use Rattle.rl_hir.specs.declared.terminal.Terminal.{Terminal}
use Rattle.rl_hir.specs.declared.terminal.TerminalKind.TheVariants as ends
use Rattle.rl_order.specs.Numbering.{orders_of}
use Rattle.rl_order.specs.Walk.{IsWhole}

-- The parts of a builder of one function alone, over these tables.
abbrev pub given_over : Tables → (scope : ScopeId) → (context_identifiers : List SymbolId) → Given
given_over tables scope context_identifiers = record {
  semantic = tables.semantic;
  sites = tables.sites;
  function_scope = scope;
  component_scope = scope;
  context_identifiers = context_identifiers;
  bindings = [];
  context = [];
  used_names = [];
}

-- An environment of nothing.
abbrev pub fresh : Environment
fresh = record {
  fn_type = types.Other;
  next_block = 0;
  next_type = 0;
  identifiers = [];
  functions = [];
  pairs = [];
  diagnostics = [];
  entities = [];
  hoisted = [];
  renames = [];
  skip = false;
}

abbrev pub returned : Place → Terminal
returned place = record { order = record { 0 = 0 }; span = None; kind = ends.Return returns.Explicit place }

-- The builder behind the lowering of a formula, whose value is returned.
abbrev pub whole_of : Formula → Given → State
whole_of f given =
    let m : Made = lowered f (started fresh given kinds.Block) in terminated m.state (returned m.place) None

-- The conditions of `build`.
pub record CanBuild (s : State) : Type 0 where
  pub whole : IsWhole (graph_of s) s.entry
  pub listed : All (λ p. All (λ id. id.0 < length s.table) p.1.instructions) (graph_of s)
  pub room : orders_of (graph_of s) < 2 ^ 32
