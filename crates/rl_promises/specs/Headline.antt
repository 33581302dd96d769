-- The promises of a result: of each graph, and of the result as a whole.
use Rattle.std.specs.Prelude.{◌≡◌, ℕ, ◌*◌, ◌≤◌, true, None, List, [], length}
use Rattle.rl_promises.specs.Spans.{IsSpanned}
use Rattle.rl_syntax.specs.Syntax.{Syntax, nodes}
use Rattle.rl_hir.specs.Listing.{lowered}
use Rattle.rl_hir.specs.Numbered.{IsNumbered}
use Rattle.rl_hir.specs.declared.function.Lowered.{Lowered}
use Rattle.rl_hir.specs.declared.function.Pair.{Pair}
use Rattle.rl_text.specs.Notation.{IsWritable}
use Rattle.rl_machine.specs.Closed.{IsClosed}
use Rattle.rl_promises.specs.Covered.{pending}
use Rattle.rl_promises.specs.Fields.{HasFieldsOf, HasIdentifiersOf, HaveSymbolsOf}
use Rattle.rl_promises.specs.Held.{HoldsOnce}
use Rattle.rl_model.specs.Runs.{function_trace, trace_by}
use Rattle.rl_promises.specs.Rows.{IsSupported}
use Rattle.rl_promises.specs.Size.{lowered_size}
use Rattle.rl_model.specs.Functions.{run_function}
use Rattle.rl_model.specs.Marked.{marked}
use Rattle.rl_model.specs.PortedScenes.{ported_scene}
use Rattle.rl_model.specs.Scene.{Scene}
use Rattle.rl_model.specs.Scenes.{written_scene}
use Rattle.rl_model.specs.Source.{is_orderly}
use Rattle.rl_model.specs.Worlds.{Function, graphs, world_in}
use Rattle.rl_machine.specs.Traces.{World}
use Rattle.rl_model.specs.Units.{IsUnit, names_of}
use Rattle.rl_model.specs.WellFormed.{IsWellFormed}
use Rattle.rl_machine.specs.declared.trace.Answer.{Answer}
use Rattle.rl_machine.specs.declared.trace.Assignment.{Assignment}
use Rattle.rl_machine.specs.declared.trace.Trace.{Trace}
use Rattle.rl_machine.specs.declared.trace.Value.{Value}

-- The graph has the trace of its function in a scene, for every start store, arguments and answers.
abbrev pub SameRuns : Scene → (function : Syntax) → World → Function → List Pair → Type 0
SameRuns scene function world f pairs = (start : List Assignment) (arguments : List Value) (answers : List Answer)
    → function_trace world f pairs start arguments answers ≡ run_function scene function start arguments answers

-- A run ends because it returns, throws, or finds no answer left: whatever trace a run had that ends for another cause, the
-- runs are the same.
abbrev pub NeverStuck : World → Function → List Pair → Type 0
NeverStuck world f pairs = (stuck : Trace) (start : List Assignment) (arguments : List Value) (answers : List Answer)
    → trace_by stuck world f pairs start arguments answers ≡ function_trace world f pairs start arguments answers

-- The graph of one function of a result, `others` being the other functions of the result.
pub record IsGraph (scene : Scene) (function : Syntax) (l : Lowered) (others : List Function) (f : Function) : Type 0 where
  pub closed : IsClosed f.body
  pub same_runs : SameRuns scene function (world_in l f others) f l.pairs
  pub never_stuck : NeverStuck (world_in l f others) f l.pairs
  pub held : HoldsOnce function f
  pub fields : HasFieldsOf function f
  pub numbered : IsNumbered f.instructions f.body.blocks
  pub well_formed : IsWellFormed (length l.identifiers) f

-- The result of lowering a unit whose marked function the lowering covers, and no row applies to. Its graph has the port's run, and the
-- run of its source where the function is orderly. No covered function has a function declaration, so it is no matter to which symbol
-- that would store.
pub record IsLowered (u : Syntax) (l : Lowered) : Type 0 where
  pub covered : pending u ≡ None
  pub supported : IsSupported (names_of u) (marked u)
  pub main : IsGraph (ported_scene u (names_of u).declared (marked u)) (marked u) l (graphs l.inner) l.function
  pub orderly : is_orderly u None ≡ true
      → SameRuns (written_scene u (marked u)) (marked u) (world_in l l.function (graphs l.inner)) l.function l.pairs
  pub inner : l.inner ≡ []
  pub identifiers : HasIdentifiersOf (names_of u) (marked u) l
  pub symbols : HaveSymbolsOf u l.pairs
  pub bounded : lowered_size l ≤ 64 * nodes u
  pub writable : IsWritable (lowered l)
  pub spanned : IsSpanned (marked u) l.function l.identifiers

-- The bytes spell a unit, and this is its result.
abbrev pub LowersTo : List ℕ → Lowered → Type 0
LowersTo bytes l = (u : Syntax) × IsUnit bytes u × IsLowered u l
