-- An inner function that returns undefined, built by a builder over the environment of another one.
use Rattle.std.specs.Prelude.{◌≡◌, None, [], ◌∷◌, ◌++◌}
use Rattle.rl_base.specs.declared.ids.NodeId.{NodeId}
use Rattle.rl_base.specs.declared.ids.ScopeId.{ScopeId}
use Rattle.rl_builder.specs.Build.{IsBuilt}
use Rattle.rl_builder.specs.Builder.{State, one_identifier_more, pushed, terminated, with_temporary}
use Rattle.rl_builder.specs.Started.{Given, started}
use Rattle.rl_builder.specs.Temporaries.{temporary, unordered}
use Rattle.rl_hir.specs.declared.environment.Environment.{Environment}
use Rattle.rl_hir.specs.declared.function.InnerFunction.{InnerFunction}
use Rattle.rl_hir.specs.declared.function.BlockKind.TheVariants as kinds
use Rattle.rl_hir.specs.declared.instruction.Instruction.{Instruction}
use Rattle.rl_hir.specs.declared.instruction.InstructionValue.TheVariants as values
use Rattle.rl_hir.specs.declared.instruction.Place.{Place}
use Rattle.rl_hir.specs.declared.instruction.PrimitiveValue.TheVariants as primitives
use Rattle.rl_hir.specs.declared.terminal.ReturnVariant.TheVariants as returns
use Rattle.rl_hir.specs.declared.terminal.Terminal.{Terminal}
use Rattle.rl_hir.specs.declared.terminal.TerminalKind.TheVariants as ends
use Rattle.rl_machine.specs.Machine.{Graph}
use Rattle.rl_used_names.specs.Merged.{merged_bindings, merged_names}

abbrev pub undefined : Place → Instruction
undefined place = unordered place (values.Primitive primitives.Undefined) None

abbrev pub returned : Place → Terminal
returned place = record { order = record { 0 = 0 }; span = None; kind = ends.Return returns.Explicit place }

-- The parts that the builder of the inner function, whose scope is `scope`, is given by the builder around it, which has the
-- state `s`.
abbrev pub given_by : State → (scope : ScopeId) → Given
given_by s scope = record {
  semantic = s.semantic;
  sites = s.sites;
  function_scope = scope;
  component_scope = s.component_scope;
  context_identifiers = s.context_identifiers;
  bindings = s.bindings;
  context = s.context;
  used_names = s.used_names;
}

abbrev pub begun : Environment → Given → State
begun env given = started env given kinds.Block

-- The state of the inner function's builder behind its moves: undefined is put into an identifier, and returned.
abbrev pub made : Environment → Given → State
made env given =
    let test = temporary (begun env given) None in
    terminated (pushed (with_temporary (begun env given) None) (undefined test)) (returned test) None

-- The inner function's builder, which began over the environment `old`, made the graph `graph` and left the environment
-- `new`: that of `build`, and one identifier more, for the function's value.
pub record IsInner (old : Environment) (given : Given) (graph : Graph) (new : Environment) : Type 0 where
  pub behind : Environment
  pub built : IsBuilt (made old given) graph behind
  pub value : new ≡ one_identifier_more behind None

-- The state `s` with an inner function more, over the environment `env` that its builder left. The names and identifiers of
-- that builder, whose last state is `child`, are merged.
abbrev pub with_inner : State → Environment → InnerFunction → (child : State) → State
with_inner s env inner child = record s {
  env = record env { functions = env.functions ++ inner ∷ [] };
  used_names = merged_names s.used_names child.used_names;
  bindings = merged_bindings s.bindings child.bindings;
}

-- The graph of an inner function, with its instruction table.
abbrev pub graph_of : InnerFunction → Graph
graph_of inner = record { blocks = inner.function.body.blocks; table = inner.function.instructions; entry = inner.function.body.entry }

-- A builder went from the state `old` to `new` by an inner function of the node `node` and the scope `scope`.
pub record HasInner (old new : State) (node : NodeId) (scope : ScopeId) : Type 0 where
  pub env : Environment
  pub inner : InnerFunction
  pub node_is : inner.node ≡ node
  pub made_is : IsInner old.env (given_by old scope) (graph_of inner) env
  pub state : new ≡ with_inner old env inner (made old.env (given_by old scope))
