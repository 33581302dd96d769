-- The traces of runs, by control and state.
use Rattle.std.specs.Prelude.{true, false, None, List, [], ◌∷◌}
use Rattle.rl_machine.specs.Traces.{Cont, returned, set_open, stepped, tested, threw, waiting}
use Rattle.rl_machine.specs.declared.trace.Event.{Event}
use Rattle.rl_machine.specs.declared.trace.Trace.{Trace}
use Rattle.rl_machine.specs.declared.trace.Value.{Value}
use Rattle.rl_model.specs.Actions.{Action, ◌>>◌, answer_to}
use Rattle.rl_model.specs.Expressions.{assign_to, callee, delete_property, eval}
use Rattle.rl_model.specs.Patterns.{bind}
use Rattle.rl_model.specs.Scene.{Scene, kept_values}
use Rattle.rl_model.specs.Statements.{exec, exec_all, exec_cases, exec_default, take_head, try_cases}
use Rattle.rl_syntax.specs.Syntax.{syntax}
use Rattle.rl_source_stack.specs.Konts.{Konts}
use Rattle.rl_source_stack.specs.Loops.{body_and_rest, turns_left}
use Rattle.rl_source_stack.specs.Parts.{among, binding_syntax, gathering, label_of, target_syntax}
use Rattle.rl_source_stack.specs.Properties.{linked}
use Rattle.rl_source_stack.specs.States.{State}
use Rattle.rl_trace.specs.Progress.{after}
use Rattle.rl_trace.specs.Values.{shown}
use Rattle.rl_source_stack.specs.declared.control.Control.{Control}
use Rattle.rl_source_stack.specs.declared.control.Control.TheVariants as control
use Rattle.rl_source_stack.specs.declared.gather.Gather.TheVariants as gather

-- A callee that lends its object has given it, and the function.
abbrev pub paired : Konts → List Value → Cont
paired k (object ∷ f ∷ []) = k.pair object f
paired k _ = λ store answers. waiting

-- The continuation of a control.
abbrev pub goes : Control → Scene → Konts → Cont
goes (control.Evaluate tree) scene k = eval scene (syntax tree.tree.now) k.ways k.value
goes (control.Element tree) scene k = eval scene (syntax tree.tree.now) k.ways k.value
goes (control.Fragment tree) scene k = eval scene (syntax tree.tree.now) k.ways k.value
goes (control.Callee tree) scene k = callee scene (syntax tree.tree.now) k.ways (paired k)
goes (control.Delete tree) scene k = delete_property scene (syntax tree.tree.now) k.ways k.value
goes (control.Link property then_use object) scene k = linked scene property then_use (shown object) k
goes (control.Call function arguments) scene k =
    gathering scene (gather.Call false arguments) (among arguments.trees.now) (shown function ∷ []) k.ways k.value
goes (control.CallOf object function arguments) scene k =
    gathering scene (gather.Call true arguments) (among arguments.trees.now) (shown object ∷ shown function ∷ []) k.ways k.value
goes (control.Execute label tree) scene k = exec scene (label_of label) (syntax tree.tree.now) k.ways (λ u. k.normal)
goes (control.Block tree) scene k = exec scene None (syntax tree.tree.now) k.ways (λ u. k.normal)
goes (control.Variables tree) scene k = exec scene None (syntax tree.tree.now) k.ways (λ u. k.normal)
goes (control.Turn turns) scene k = turns_left scene turns k.ways (λ u. k.normal)
goes (control.Body turns) scene k = body_and_rest scene turns k.ways (λ u. k.normal)
goes (control.Bind everywhere pattern v) scene k = bind scene everywhere (binding_syntax pattern) (shown v) k.ways (λ u. k.normal)
goes (control.AssignTo target v) scene k = assign_to scene (target_syntax target) (shown v) k.ways (λ u. k.normal)
goes (control.TakeHead head v) scene k = take_head scene (syntax head.tree.now) (shown v) k.ways (λ u. k.normal)
goes (control.Cases v left all) scene k =
    try_cases scene (among left.trees.now) (shown v) [] (exec_default scene (among all.trees.now)) k.ways (λ u. k.normal)
goes (control.Case statements cases) scene k =
    (do exec_all scene (among statements.trees.now); exec_cases scene (among cases.trees.now)) k.ways (λ u. k.normal)
goes (control.Default cases) scene k = exec_default scene (among cases.trees.now) k.ways (λ u. k.normal)
goes (control.Value v) scene k = k.value (shown v)
goes (control.Pair object function) scene k = k.pair (shown object) (shown function)
goes (control.Pieces vs) scene k = k.pieces vs.now
goes control.Normal scene k = k.normal
goes (control.Throw v) scene k = k.ways.throws (shown v)
goes (control.Break label) scene k = k.ways.breaks (label_of label)
goes (control.Continue label) scene k = k.ways.continues (label_of label)
goes control.Short scene k = k.ways.short
goes (control.Returned variant v) scene k = λ store answers. returned (kept_values scene store) variant (shown v)
goes (control.Threw v) scene k = λ store answers. threw (shown v)
goes control.Waiting scene k = λ store answers. waiting

-- The trace of a run that does this next.
abbrev pub trace_of : Control → State → Trace
trace_of c s = after s.events (goes c s.scene s.konts s.store s.answers)

-- The trace of a run that goes on like this.
abbrev pub runs : Cont → State → Trace
runs cont s = after s.events (cont s.store s.answers)

-- The trace of a run that does an action next, whose value it goes on with.
abbrev pub from : Action Value → State → Trace
from action s = after s.events (action s.konts.ways s.konts.value s.store s.answers)

-- As `from`, for an action that gives nothing, behind which the run completes normally.
abbrev pub from_normal : Action (Unit {0}) → State → Trace
from_normal action s = after s.events (action s.konts.ways (λ u. s.konts.normal) s.store s.answers)

-- A test is asked, by which the run goes on.
abbrev pub tested_in : Event → (if_yes if_no : Control) → State → Trace
tested_in event if_yes if_no s =
    after s.events
    (tested (set_open s.scene.world.opens) event s.store s.answers (goes if_yes s.scene s.konts) (goes if_no s.scene s.konts))

-- A loop asks for its next value: with none it completes normally.
abbrev pub stepped_in : Event → State → Trace
stepped_in event s =
    after s.events (stepped (set_open s.scene.world.opens) event s.store s.answers s.konts.value s.konts.normal s.konts.ways.throws)

-- An event is asked, whose answer is another control's.
abbrev pub asked_then : Event → Control → State → Trace
asked_then event next s = after s.events (answer_to s.scene event s.konts.ways (λ a. goes next s.scene s.konts) s.store s.answers)

-- A value is taken apart.
abbrev pub apart_in : Event → State → Trace
apart_in event s = after s.events (answer_to s.scene event s.konts.ways (λ a. s.konts.pieces a.pieces) s.store s.answers)
