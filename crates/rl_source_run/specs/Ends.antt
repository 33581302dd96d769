-- The beginnings and the ends of runs.
use Rattle.std.specs.Prelude.{[]}
use Rattle.rl_machine.specs.Traces.{unset}
use Rattle.rl_machine.specs.declared.trace.Ending.{Ending}
use Rattle.rl_machine.specs.declared.trace.Ending.TheVariants as ending
use Rattle.rl_model.specs.Functions.{set_all}
use Rattle.rl_source_stack.specs.Konts.{outermost}
use Rattle.rl_source_stack.specs.Scenes.{scene_of}
use Rattle.rl_source_stack.specs.States.{State}
use Rattle.rl_source_stack.specs.declared.control.Control.{Control}
use Rattle.rl_source_stack.specs.declared.control.Control.TheVariants as control
use Rattle.rl_trace.specs.Progress.{Seen, kept_in}
use Rattle.rl_trace.specs.Shared.{world_of}
use Rattle.rl_trace.specs.Values.{shown}
use Rattle.rl_source_run.specs.declared.drive.Ended.{Ended}
use Rattle.rl_source_run.specs.declared.drive.Ended.TheVariants as ended
use Rattle.rl_source_run.specs.declared.source.Inputs.{Inputs}
use Rattle.rl_source_run.specs.declared.source.Surroundings.{Surroundings}

-- The last step of a run.
abbrev pub last_of : Ended → Control
last_of (ended.Returned variant v) = control.Returned variant v
last_of (ended.Threw v) = control.Threw v
last_of ended.Waiting = control.Waiting

-- The ending of a run that has come so far.
abbrev pub ending_in : Seen → Ended → Ending
ending_in s (ended.Returned variant v) = ending.Returned variant (shown v) (kept_in s)
ending_in s (ended.Threw v) = ending.Threw (shown v)
ending_in s ended.Waiting = ending.Waiting

-- A run that begins: the start store, no event so far, and nothing that waits.
abbrev pub begun : Surroundings → Inputs → State
begun around inputs = record {
  scene = scene_of around.names around.texts (world_of around.shared);
  store = set_all inputs.start.now unset;
  answers = inputs.answers.now;
  events = [];
  konts = outermost;
}
