use Rattle.std.proofs.Common.{◌<◌, length, drop, ap, ◌∙◌, arith}
use Rattle.rl_bindings.specs.Machines.{undo}
use Rattle.rl_bindings.proofs.Links.{undone_one, taken_one}
use Rattle.rl_bindings.proofs.resolve.leave.Goals as goal

pub saved-preserved-in-Some : goal.saved-preserved-in-Some
saved-preserved-in-Some c =
    let before = c.saved.saved in
    let within : c.args.start < length before.items = omega (arith, c.saved-test.true, c.len.ensures, before.ok.0) in
    record {
      env = ap (undo (drop c.args.start c.pop.new.self.items)) c.write.ensures ∙ undone_one c.args.start c.saved.env before.items c.pop.new.self.items c.in-Some.entry c.in-Some.ensures.items within ∙ c.saved.invariant.env;
      saved = taken_one c.args.start before.items c.pop.new.self.items c.in-Some.entry c.in-Some.ensures.items within ∙ c.saved.invariant.saved;
    }
