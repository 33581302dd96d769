-- The end of a body, and the graph of a function.
use Rattle.std.specs.Prelude.{◌≡◌, ◌<◌, ◌^◌, None, List}
use Rattle.rl_builder.specs.Build.{IsBuilt}
use Rattle.rl_builder.specs.Builder.{State, completed_by, placeholder}
use Rattle.rl_builder.specs.Temporaries.{temporary, with_value}
use Rattle.rl_builder.specs.declared.graph.Built.{Built}
use Rattle.rl_hir.specs.Blocks.{Pair as BlockPair}
use Rattle.rl_hir.specs.declared.environment.Environment.{Environment}
use Rattle.rl_hir.specs.declared.function.Hir.{Hir}
use Rattle.rl_hir.specs.declared.function.Param.{Param}
use Rattle.rl_hir.specs.declared.instruction.InstructionValue.TheVariants as values
use Rattle.rl_hir.specs.declared.instruction.PrimitiveValue.TheVariants as primitives
use Rattle.rl_hir.specs.declared.terminal.ReturnVariant.TheVariants as returns
use Rattle.rl_lower.specs.Begun.{FunctionTables, begun_by}
use Rattle.rl_lowered.specs.Named.{TellDeclarations}
use Rattle.rl_lowered.specs.Promised.{LowersBody, LowersParams}
use Rattle.rl_machine.specs.Machine.{Graph}
use Rattle.rl_names.specs.Names.{Names}
use Rattle.rl_runs.specs.Moves.{return_of}
use Rattle.rl_syntax.specs.Syntax.{Syntax, Pieces}

-- Undefined in a fresh temporary.
abbrev pub with_undefined : State → State
with_undefined s = with_value s (values.Primitive primitives.Undefined) None

-- The end of a body: a return of Undefined, behind which no block goes on.
abbrev pub closed_off : State → State
closed_off s = completed_by (with_undefined s) (return_of None returns.Void (temporary s None)) placeholder

-- The entry and the blocks of a graph.
abbrev pub hir_of : Graph → Hir (List BlockPair)
hir_of g = record { entry = g.entry; blocks = g.blocks }

-- The graph that was built, with its instruction table.
abbrev pub graph_of : Built (List BlockPair) → Graph
graph_of built = record { blocks = built.hir.blocks; table = built.instructions; entry = built.hir.entry }

-- `built` is the graph of a builder that lowered the parameters of a `params` node and the body, and was closed off. `old` and `new` are
-- the environment before and after it; blocks have numbers below 2^32.
pub record IsGraphOf (names : Names) (tables : FunctionTables) (parameters : Pieces) (rest body : Syntax)
    (old new : Environment) (params : List Param) (built : Graph) : Type 0 where
  pub given : State
  pub state : State
  pub declared : TellDeclarations names tables.semantic
  pub lowers_params : LowersParams names parameters rest (begun_by old tables) given params
  pub lowers : LowersBody names body given state
  pub graph : IsBuilt (closed_off state) built new
  pub after : new ≡ (closed_off state).env
  pub few : new.next_block < 2 ^ 32
