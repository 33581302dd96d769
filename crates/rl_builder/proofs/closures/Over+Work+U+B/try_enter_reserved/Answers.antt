use Rattle.std.proofs.Common.{rules, ◌≡◌, Err, refl, ap, ◌∙◌}
use Rattle.std.proofs.lemmas.Result.{err_from_is_err_and}
use Rattle.rl_builder.proofs.Kept.{is_at, kept_stopped, kept_through, kept_until}
use Rattle.rl_base.specs.declared.stop.Stop.TheVariants as stops
use Rattle.rl_builder.specs.Builder.{completed_by, entered, state_of}
use Rattle.rl_builder.specs.Closures.{Completed, Lost}
use Rattle.rl_builder.proofs.closures.Over+Work+U+B.try_enter_reserved.Goals as goal

pub returns-in_ok-leave-in-Ok-clause-outcome : goal.returns-in_ok-leave-in-Ok-clause-outcome
returns-in_ok-leave-in-Ok-clause-outcome g c =
    let left = c.in_ok-leave-in-Ok.ensures in
    record {
      given = _;
      left = c.call_with.new.x;
      answer = _;
      entered = is_at g.U.ReadsUnit.tables _ _ _ c.enter-outer.ensures.same_reference c.enter-outer.ensures.state;
      met = c.in-Ok.ensures;
      closed = Completed refl (is_at g.U.ReadsUnit.tables _ _ _ left.same_reference (left.state ∙ ap (completed_by (state_of g.U.ReadsUnit.tables c.call_with.new.x) c.in-Ok.terminal) c.enter-outer.ensures.outer));
    }

pub returns-in_err-leave-in-Ok-clause-outcome : goal.returns-in_err-leave-in-Ok-clause-outcome
returns-in_err-leave-in-Ok-clause-outcome g c =
    let left = c.in_err-leave-in-Ok.ensures in
    let stopped : c.from_residual.result ≡ Err stops.OutOfMemory = search rules in
    record {
      given = _;
      left = c.call_with.new.x;
      answer = _;
      entered = is_at g.U.ReadsUnit.tables _ _ _ c.enter-outer.ensures.same_reference c.enter-outer.ensures.state;
      met = c.in-Ok.ensures;
      closed = Lost stopped (is_at g.U.ReadsUnit.tables _ _ _ left.same_reference (left.lost ∙ ap (entered (state_of g.U.ReadsUnit.tables c.call_with.new.x)) c.enter-outer.ensures.outer));
    }

pub returns-in-Err-clause-outcome : goal.returns-in-Err-clause-outcome
returns-in-Err-clause-outcome g c =
    record {
      given = _;
      left = _;
      answer = _;
      entered = is_at g.U.ReadsUnit.tables _ _ _ c.enter-outer.ensures.same_reference c.enter-outer.ensures.state;
      met = c.in-Err.ensures;
      closed = (refl, refl);
    }

pub returns-in_ok-leave-in-Ok-clause-kept : goal.returns-in_ok-leave-in-Ok-clause-kept
returns-in_ok-leave-in-Ok-clause-kept g c =
    let entered = is_at g.U.ReadsUnit.tables c.args.self.now c.enter-outer.new.self _ c.enter-outer.ensures.same_reference c.enter-outer.ensures.state in
    kept_through g.U.ReadsUnit.tables _ _ _ _ entered refl refl _ c.in-Ok.terminal _ _ (c.requires.keeps _ _ _ entered c.in-Ok.ensures) c.in_ok-leave-in-Ok.ensures.kept

pub returns-in_err-leave-in-Ok-clause-kept : goal.returns-in_err-leave-in-Ok-clause-kept
returns-in_err-leave-in-Ok-clause-kept g c =
    let entered = is_at g.U.ReadsUnit.tables c.args.self.now c.enter-outer.new.self _ c.enter-outer.ensures.same_reference c.enter-outer.ensures.state in
    let p = err_from_is_err_and c.from_residual.result c.from_residual.ensures.1 in
    rw p.1 (kept_until g.U.ReadsUnit.tables _ _ _ _ entered refl refl _ c.in-Ok.terminal _ _ (c.requires.keeps _ _ _ entered c.in-Ok.ensures) c.in_err-leave-in-Ok.ensures.kept)

pub returns-in-Err-clause-kept : goal.returns-in-Err-clause-kept
returns-in-Err-clause-kept g c =
    let entered = is_at g.U.ReadsUnit.tables c.args.self.now c.enter-outer.new.self _ c.enter-outer.ensures.same_reference c.enter-outer.ensures.state in
    kept_stopped g.U.ReadsUnit.tables _ _ _ _ entered refl refl c.in-Err.stop (c.requires.keeps _ _ _ entered c.in-Err.ensures)
