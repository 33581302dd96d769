use Rattle.std.proofs.Common.{refl}
use Rattle.rl_source_stack.proofs.Asks.{run_asked}
use Rattle.rl_source_stack.proofs.run.Run.ask.Goals as goal
use Rattle.rl_trace.specs.Progress.{seen}
use Rattle.rl_trace.specs.declared.shared.Numbers.TheVariants as numbers

pub returns : goal.returns
returns c =
    run_asked c.args.self.now.names c.args.self.now.texts c.args.self.now.stack.items c.args.event
    (seen (record c.args.self.now.progress { shared = record c.args.self.now.progress.shared { numbers = numbers.Own } }))
    (seen c.ask.new.self) c.ask.result refl c.ask.ensures
