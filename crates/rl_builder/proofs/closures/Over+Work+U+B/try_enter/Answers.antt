use Rattle.std.proofs.Common.{rules, ◌≡◌, Ok, Err, refl, sym, subst, ap, ◌∙◌}
use Rattle.std.proofs.lemmas.Result.{err_from_is_err_and}
use Rattle.rl_builder.proofs.Kept.{fresh_at, is_at, kept_stopped, kept_through, kept_until, ok_same}
use Rattle.rl_base.specs.declared.stop.Stop.TheVariants as stops
use Rattle.rl_builder.specs.Builder.{completed_by, entered, state_of}
use Rattle.rl_builder.specs.Closures.{ReturnsWith, TakesWith, Completed, Lost}
use Rattle.rl_builder.proofs.closures.Over+Work+U+B.try_enter.Goals as goal

pub call_with_value-requires : goal.call_with_value-requires
call_with_value-requires g c =
    let reserved = c.in_ok-block.ensures in
    let same = ok_same _ _ reserved.block in
    let entered = fresh_at g.U.ReadsUnit.tables c.args.self.now c.reserve.new.self c.enter-outer.new.self _ _ reserved.same_reference reserved.state c.enter-outer.ensures.same_reference c.enter-outer.ensures.state same in
    subst (λ id. TakesWith g.F.FnOnce c.args.f c.enter-outer.new.self id) (sym (ap (λ block. block.id) same)) (c.requires.callable _ entered)

pub returns-in_ok-leave-in-Ok-clause-outcome : goal.returns-in_ok-leave-in-Ok-clause-outcome
returns-in_ok-leave-in-Ok-clause-outcome g c =
    let reserved = c.in_ok-block.ensures in
    let same = ok_same _ _ reserved.block in
    let entered = fresh_at g.U.ReadsUnit.tables c.args.self.now c.reserve.new.self c.enter-outer.new.self _ _ reserved.same_reference reserved.state c.enter-outer.ensures.same_reference c.enter-outer.ensures.state same in
    let left = c.in_ok-leave-in-Ok.ensures in
    record {
      given = c.enter-outer.new.self;
      left = c.call_with_value.new.x;
      answer = Ok c.in-Ok.terminal;
      entered = entered;
      met = subst (λ id. ReturnsWith g.F.FnOnce c.args.f c.enter-outer.new.self id (Ok c.in-Ok.terminal) c.call_with_value.new.x) (ap (λ block. block.id) same) c.in-Ok.ensures;
      closed = Completed (ap (λ block. Ok block.id) same) (is_at g.U.ReadsUnit.tables _ _ _ left.same_reference (left.state ∙ ap (completed_by (state_of g.U.ReadsUnit.tables c.call_with_value.new.x) c.in-Ok.terminal) (c.enter-outer.ensures.outer ∙ ap (λ s. s.current) reserved.state)));
    }

pub returns-in_err-leave-in-Ok-clause-outcome : goal.returns-in_err-leave-in-Ok-clause-outcome
returns-in_err-leave-in-Ok-clause-outcome g c =
    let reserved = c.in_ok-block.ensures in
    let same = ok_same _ _ reserved.block in
    let entered_at = fresh_at g.U.ReadsUnit.tables c.args.self.now c.reserve.new.self c.enter-outer.new.self _ _ reserved.same_reference reserved.state c.enter-outer.ensures.same_reference c.enter-outer.ensures.state same in
    let left = c.in_err-leave-in-Ok.ensures in
    let stopped : c.from_residual-in_err-leave-in-Ok.result ≡ Err stops.OutOfMemory = search rules in
    record {
      given = c.enter-outer.new.self;
      left = c.call_with_value.new.x;
      answer = Ok c.in-Ok.terminal;
      entered = entered_at;
      met = subst (λ id. ReturnsWith g.F.FnOnce c.args.f c.enter-outer.new.self id (Ok c.in-Ok.terminal) c.call_with_value.new.x) (ap (λ block. block.id) same) c.in-Ok.ensures;
      closed = Lost stopped (is_at g.U.ReadsUnit.tables _ _ _ left.same_reference (left.lost ∙ ap (entered (state_of g.U.ReadsUnit.tables c.call_with_value.new.x)) (c.enter-outer.ensures.outer ∙ ap (λ s. s.current) reserved.state)));
    }

pub returns-in-Err-clause-outcome : goal.returns-in-Err-clause-outcome
returns-in-Err-clause-outcome g c =
    let reserved = c.in_ok-block.ensures in
    let same = ok_same _ _ reserved.block in
    let entered = fresh_at g.U.ReadsUnit.tables c.args.self.now c.reserve.new.self c.enter-outer.new.self _ _ reserved.same_reference reserved.state c.enter-outer.ensures.same_reference c.enter-outer.ensures.state same in
    record {
      given = c.enter-outer.new.self;
      left = c.call_with_value.new.x;
      answer = Err c.in-Err.stop;
      entered = entered;
      met = subst (λ id. ReturnsWith g.F.FnOnce c.args.f c.enter-outer.new.self id (Err c.in-Err.stop) c.call_with_value.new.x) (ap (λ block. block.id) same) c.in-Err.ensures;
      closed = (refl, refl);
    }

pub returns-in_ok-leave-in-Ok-clause-kept : goal.returns-in_ok-leave-in-Ok-clause-kept
returns-in_ok-leave-in-Ok-clause-kept g c =
    let reserved = c.in_ok-block.ensures in
    let same = ok_same _ _ reserved.block in
    let entered = fresh_at g.U.ReadsUnit.tables c.args.self.now c.reserve.new.self c.enter-outer.new.self _ _ reserved.same_reference reserved.state c.enter-outer.ensures.same_reference c.enter-outer.ensures.state same in
    let met = subst (λ id. ReturnsWith g.F.FnOnce c.args.f c.enter-outer.new.self id (Ok c.in-Ok.terminal) c.call_with_value.new.x) (ap (λ block. block.id) same) c.in-Ok.ensures in
    kept_through g.U.ReadsUnit.tables _ _ _ _ entered refl refl _ c.in-Ok.terminal _ _ (c.requires.keeps _ _ _ entered met) c.in_ok-leave-in-Ok.ensures.kept

pub returns-in_err-leave-in-Ok-clause-kept : goal.returns-in_err-leave-in-Ok-clause-kept
returns-in_err-leave-in-Ok-clause-kept g c =
    let reserved = c.in_ok-block.ensures in
    let same = ok_same _ _ reserved.block in
    let entered = fresh_at g.U.ReadsUnit.tables c.args.self.now c.reserve.new.self c.enter-outer.new.self _ _ reserved.same_reference reserved.state c.enter-outer.ensures.same_reference c.enter-outer.ensures.state same in
    let met = subst (λ id. ReturnsWith g.F.FnOnce c.args.f c.enter-outer.new.self id (Ok c.in-Ok.terminal) c.call_with_value.new.x) (ap (λ block. block.id) same) c.in-Ok.ensures in
    let p = err_from_is_err_and c.from_residual-in_err-leave-in-Ok.result c.from_residual-in_err-leave-in-Ok.ensures.1 in
    rw p.1 (kept_until g.U.ReadsUnit.tables _ _ _ _ entered refl refl _ c.in-Ok.terminal _ _ (c.requires.keeps _ _ _ entered met) c.in_err-leave-in-Ok.ensures.kept)

pub returns-in-Err-clause-kept : goal.returns-in-Err-clause-kept
returns-in-Err-clause-kept g c =
    let reserved = c.in_ok-block.ensures in
    let same = ok_same _ _ reserved.block in
    let entered = fresh_at g.U.ReadsUnit.tables c.args.self.now c.reserve.new.self c.enter-outer.new.self _ _ reserved.same_reference reserved.state c.enter-outer.ensures.same_reference c.enter-outer.ensures.state same in
    let met = subst (λ id. ReturnsWith g.F.FnOnce c.args.f c.enter-outer.new.self id (Err c.in-Err.stop) c.call_with_value.new.x) (ap (λ block. block.id) same) c.in-Err.ensures in
    kept_stopped g.U.ReadsUnit.tables _ _ _ _ entered refl refl c.in-Err.stop (c.requires.keeps _ _ _ entered met)
