-- The command `trace`: its words, its lines, and its statuses.
use Rattle.std.specs.Prelude.{◌≡◌, ◌≢◌, ◌⊎◌, ℕ, true, List, [], ◌∷◌, ◌++◌, Option, Some, None, slice_get, codes}
use Rattle.std.specs.Option.{option_map}
use Rattle.rl_base.specs.declared.ids.FunctionId.{FunctionId}
use Rattle.rl_unit.specs.Lines.{no_function, trace_line}
use Rattle.rl_hir.specs.declared.function.InnerFunction.{InnerFunction}
use Rattle.rl_hir.specs.declared.function.Lowered.{Lowered}
use Rattle.rl_machine.specs.declared.trace.Trace.{Trace}
use Rattle.rl_promises.specs.Headline.{IsLowered}
use Rattle.rl_model.specs.Source.{is_orderly, source_trace_of}
use Rattle.rl_model.specs.Worlds.{function_in, graph_trace_of}
use Rattle.rl_semantic.specs.Rules.{least_broken}
use Rattle.rl_syntax.specs.Syntax.{Syntax}
use Rattle.rl_trace_text.specs.RunWords.{SpellArguments}
use Rattle.rl_trace_text.specs.declared.words.Arguments.{Arguments}
use Rattle.rl_unit.specs.Answers.{IsAnswer, IsReportOf}
use Rattle.rl_unit.specs.declared.run.Status.{Status}
use Rattle.rl_unit.specs.declared.run.Status.TheVariants.{Done, Reported}

-- The words `trace F START ARGS ANSWERS`, which spell the arguments.
abbrev pub AreWords : List (List ℕ) → Arguments → Type 0
AreWords (command ∷ function ∷ start ∷ args ∷ answers ∷ []) a = (command ≡ codes "trace") × SpellArguments function start args answers a
AreWords words a = ⊥

-- The words of a command: `lower`, `lint`, or those of `trace`.
abbrev pub IsCommand : List (List ℕ) → Type 0
IsCommand words = (words ≡ codes "lower" ∷ []) ⊎ ((words ≡ codes "lint" ∷ []) ⊎ ((a : Arguments) × AreWords words a))

-- The lines of two traces, and a line that says whether they are equal.
abbrev pub IsCompared : (source graph : Trace) → List ℕ → Type 0
IsCompared source graph text =
    ((source ≡ graph) × (text ≡ trace_line source ++ trace_line graph ++ codes "same\n"))
    ⊎ ((source ≢ graph) × (text ≡ trace_line source ++ trace_line graph ++ codes "differ\n"))

-- The id of a function, by its number.
abbrev pub id_of : Option ℕ → Option FunctionId
id_of function = option_map (λ number. record { 0 = number }) function

-- The node of a function of a result; none of the marked function.
abbrev pub node_of : Lowered → Option ℕ → Option ℕ
node_of l None = None
node_of l (Some number) = option_map (λ (i : InnerFunction). i.node.0) (slice_get l.inner number)

-- The three lines for a function of a unit that was lowered: its trace by the source, its trace by its graph, and whether they are equal.
pub record IsTraced (u : Syntax) (l : Lowered) (a : Arguments) (text : List ℕ) : Type 0 where
  pub source : Trace
  pub graph : Trace
  pub runs_source : source_trace_of u (node_of l a.function) a.start a.args a.answers ≡ Some source
  pub runs_graph : graph_trace_of l (id_of a.function) a.start a.args a.answers ≡ Some graph
  pub compared : IsCompared source graph text
  -- An orderly function has the same trace by both.
  pub same : is_orderly u (node_of l a.function) ≡ true → source ≡ graph

-- The lines of a unit that was lowered.
pub record HasTraces (u : Syntax) (a : Arguments) (text : List ℕ) : Type 0 where
  pub rules : least_broken u ≡ None
  pub result : Lowered
  pub is_lowered : IsLowered u result
  pub traced : IsTraced u result a text

-- The unit was lowered, and the number names no function of its result.
pub record NamesNone (u : Syntax) (a : Arguments) : Type 0 where
  pub rules : least_broken u ≡ None
  pub result : Lowered
  pub is_lowered : IsLowered u result
  pub none : function_in result (id_of a.function) ≡ None

-- The text is the output of a status for a unit: of Done the three lines, of Reported the report of `lower`, or that the number names no
-- function.
abbrev pub IsTraceOutput : Arguments → Status → Syntax → List ℕ → Type 0
IsTraceOutput a Done u text = HasTraces u a text
IsTraceOutput a Reported u text = IsReportOf u text ⊎ (NamesNone u a × (text ≡ no_function))
IsTraceOutput a _ u text = ⊥

-- The status of a unit: that which `lower` has, but for a number that names no function.
abbrev pub IsTraceAnswer : Arguments → Syntax → Status → Type 0
IsTraceAnswer a u Reported = IsAnswer u Reported ⊎ NamesNone u a
IsTraceAnswer a u status = IsAnswer u status
