use Rattle.std.proofs.Common.{arith}
use Rattle.rl_bindings.proofs.Links.{linked_step, all_linked}
use Rattle.rl_bindings.proofs.resolve.links_of.Goals as goal

pub symbols-preserved : goal.symbols-preserved
symbols-preserved c =
    linked_step c.args.symbols.now c.symbols.last.items c.deref.result.now c.deref_mut.result.now c.write.new.list c.symbols.earlier.items c.push.new.self.items c.symbols.number c.symbols.last.len _ c.look.result c.symbols.invariant
    c.symbols-test.true c.symbols.last.ok.0 c.look.ensures c.deref.ensures.value c.write.ensures c.deref_mut.ensures.value c.in_ok-push.ensures.items

pub returns : goal.returns
returns c =
    let all = c.symbols-test.false in
    let within = c.symbols.auto.number-end in
    all_linked c.args.symbols.now c.symbols.last.items c.symbols.earlier.items c.symbols.number (omega (arith, all, within)) c.symbols.invariant
