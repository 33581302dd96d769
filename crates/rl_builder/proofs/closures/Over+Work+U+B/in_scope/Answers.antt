use Rattle.std.proofs.Common.{rules, ◌≡◌, Err, refl}
use Rattle.rl_base.specs.declared.stop.Stop.TheVariants as stops
use Rattle.rl_builder.proofs.Kept.{closed_at, closed_same, is_at, kept_when_closed, kept_when_stopped, scope_open}
use Rattle.rl_builder.specs.Closures.{Called, Unopened}
use Rattle.rl_builder.proofs.closures.Over+Work+U+B.in_scope.Goals as goal

pub close_scope-requires : goal.close_scope-requires
close_scope-requires g c =
    let opened = is_at g.U.ReadsUnit.tables _ _ _ c.in_ok-open_scope.ensures.same_reference c.in_ok-open_scope.ensures.state in
    scope_open g.U.ReadsUnit.tables c.args.self.now c.open_scope.new.self c.call_with.new.x c.args.scope c.in-Ok.value opened (c.requires.keeps _ _ _ opened c.in-Ok.ensures)

pub returns-in-Ok-clause-outcome : goal.returns-in-Ok-clause-outcome
returns-in-Ok-clause-outcome g c =
    let opened = is_at g.U.ReadsUnit.tables _ _ _ c.in_ok-open_scope.ensures.same_reference c.in_ok-open_scope.ensures.state in
    let closed = c.close_scope.ensures in
    let same = closed_same g.U.ReadsUnit.tables c.args.self.now c.open_scope.new.self c.call_with.new.x c.close_scope.new.self _ _ c.in-Ok.value opened (c.requires.keeps _ _ _ opened c.in-Ok.ensures) closed.state.1 in
    Called (record { given = _; left = _; opened = opened; met = c.in-Ok.ensures; closed = closed_at g.U.ReadsUnit.tables _ _ _ _ closed.same_reference closed.state.1 same.1 })

pub returns-in-Err-clause-outcome : goal.returns-in-Err-clause-outcome
returns-in-Err-clause-outcome g c =
    Called (record { given = _; left = _; opened = is_at g.U.ReadsUnit.tables _ _ _ c.in_ok-open_scope.ensures.same_reference c.in_ok-open_scope.ensures.state; met = c.in-Err.ensures; closed = refl })

pub returns-in-Ok-clause-kept : goal.returns-in-Ok-clause-kept
returns-in-Ok-clause-kept g c =
    let opened = is_at g.U.ReadsUnit.tables _ _ _ c.in_ok-open_scope.ensures.same_reference c.in_ok-open_scope.ensures.state in
    let kept = c.requires.keeps _ _ _ opened c.in-Ok.ensures in
    kept_when_closed g.U.ReadsUnit.tables _ _ _ _ _ _ c.in-Ok.value opened kept c.close_scope.ensures.same_reference c.close_scope.ensures.state.1

pub returns-in-Err-clause-kept : goal.returns-in-Err-clause-kept
returns-in-Err-clause-kept g c =
    let opened = is_at g.U.ReadsUnit.tables _ _ _ c.in_ok-open_scope.ensures.same_reference c.in_ok-open_scope.ensures.state in
    kept_when_stopped g.U.ReadsUnit.tables _ _ _ _ c.in-Err.stop opened (c.requires.keeps _ _ _ opened c.in-Err.ensures)

pub returns-in_err-open_scope-clause-outcome : goal.returns-in_err-open_scope-clause-outcome
returns-in_err-open_scope-clause-outcome g c =
    let stopped : c.from_residual.result ≡ Err stops.OutOfMemory = search rules in
    Unopened stopped (is_at g.U.ReadsUnit.tables _ _ _ c.in_err-open_scope.ensures.same_reference c.in_err-open_scope.ensures.unchanged)
