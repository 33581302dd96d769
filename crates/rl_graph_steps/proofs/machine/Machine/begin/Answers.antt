use Rattle.std.proofs.Common.{map}
use Rattle.rl_trace.specs.Progress.{seen}
use Rattle.rl_graph_steps.specs.Graphs.{parameter}
use Rattle.rl_graph_steps.specs.Notes.{notes_of}
use Rattle.rl_graph_steps.specs.States.{state_of}
use Rattle.rl_graph_steps.proofs.Functions.{begins_from}
use Rattle.rl_graph_steps.proofs.machine.Machine.begin.Goals as goal

pub returns : goal.returns
returns c =
    begins_from c.args.self.now.blocks.now c.args.self.now.table.now c.args.shared (map parameter c.args.params.now) c.args.start.now c.args.arguments.now
    c.in_ok-take_arguments.field-0.now c.args.answers.now (notes_of c.new-notes.result) (seen c.in_ok-progress.progress)
    (seen c.begin.new.self) (state_of c.args.self.now c.take_arguments.new.run) c.new-notes.ensures c.in_ok-progress.ensures
    c.in_ok-begin.ensures c.in_ok-take_arguments.ensures
