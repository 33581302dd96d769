use Rattle.std.proofs.Common.{rules, ◌≡◌, Err}
use Rattle.rl_base.specs.declared.stop.Stop.TheVariants as stops
use Rattle.rl_builder.proofs.Kept.{handler_at, handler_open, handler_same, is_at, kept_under}
use Rattle.rl_builder.specs.Closures.{Called, Unopened}
use Rattle.rl_builder.proofs.closures.Over+Work+U+B.try_enter_try_catch.Goals as goal

pub close_handler-requires : goal.close_handler-requires
close_handler-requires g c =
    let opened = is_at g.U.ReadsUnit.tables _ _ _ c.in_ok-open_handler.ensures.same_reference c.in_ok-open_handler.ensures.state in
    handler_open g.U.ReadsUnit.tables c.args.self.now c.open_handler.new.self c.call_with-result.new.x c.args.handler c.call_with-result.result opened (c.requires.keeps _ _ _ opened c.call_with-result.ensures)

pub returns-clause-kept : goal.returns-clause-kept
returns-clause-kept g c =
    let opened = is_at g.U.ReadsUnit.tables _ _ _ c.in_ok-open_handler.ensures.same_reference c.in_ok-open_handler.ensures.state in
    let kept = c.requires.keeps _ _ _ opened c.call_with-result.ensures in
    kept_under g.U.ReadsUnit.tables _ _ _ _ _ _ c.call_with-result.result opened kept c.close_handler.ensures.same_reference c.close_handler.ensures.state.1

pub returns-clause-outcome : goal.returns-clause-outcome
returns-clause-outcome g c =
    let opened = is_at g.U.ReadsUnit.tables _ _ _ c.in_ok-open_handler.ensures.same_reference c.in_ok-open_handler.ensures.state in
    let closed = c.close_handler.ensures in
    let same = handler_same g.U.ReadsUnit.tables c.args.self.now c.open_handler.new.self c.call_with-result.new.x c.close_handler.new.self _ _ c.call_with-result.result opened (c.requires.keeps _ _ _ opened c.call_with-result.ensures) closed.state.1 in
    Called (record { given = _; left = _; opened = opened; met = c.call_with-result.ensures; closed = handler_at g.U.ReadsUnit.tables _ _ _ _ closed.same_reference closed.state.1 same.1 })

pub returns-in_err-open_handler-clause-outcome : goal.returns-in_err-open_handler-clause-outcome
returns-in_err-open_handler-clause-outcome g c =
    let stopped : c.from_residual.result ≡ Err stops.OutOfMemory = search rules in
    Unopened stopped (is_at g.U.ReadsUnit.tables _ _ _ c.in_err-open_handler.ensures.same_reference c.in_err-open_handler.ensures.unchanged)
