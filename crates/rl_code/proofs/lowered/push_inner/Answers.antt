use Rattle.std.proofs.Common.{map}
use Rattle.rl_code.proofs.Lowering.{inner_some}
use Rattle.rl_syntax.specs.Syntax.{syntax}
use Rattle.rl_code.proofs.lowered.push_inner.Goals as goal

pub returns-in_ok-push_lowered-in-Some-2 : goal.returns-in_ok-push_lowered-in-Some-2
returns-in_ok-push_lowered-in-Some-2 c =
    inner_some (syntax c.args.function.now) (syntax c.in-Some.params.now) (syntax c.in-Some.body.now) (map (λ t. syntax t.now) c.args.out.now.items)
    (map (λ t. syntax t.now) c.push_lowered.new.out.items) (map (λ t. syntax t.now) c.push_lowered-in-Some.new.out.items) c.in-Some.ensures
    c.in_ok-push_lowered-in-Some.ensures c.in_ok-push_lowered-in-Some-2.ensures
