use Rattle.std.proofs.Common.{◌≡◌, IfOk, ap, append-nil, subst, sym, ◌∙◌}
use Rattle.rl_source_stack.specs.Controls.{from, trace_of}
use Rattle.rl_source_stack.specs.Parts.{gathered, gathering}
use Rattle.rl_source_stack.specs.States.{state_of}
use Rattle.rl_source_gather.proofs.gather.gather_properties.Goals as goal

pub returns-in-None : goal.returns-in-None
returns-in-None c =
    subst (λ t. IfOk c.finish.result (λ d. trace_of d (state_of c.finish.new.run) ≡ t))
    (ap (λ g. from (gathered (state_of c.args.run.now).scene c.args.what g) (state_of c.args.run.now))
    (sym (append-nil c.args.given))
    ∙ sym (ap (λ ps. from (gathering (state_of c.args.run.now).scene c.args.what ps c.args.given) (state_of c.args.run.now))
    c.in-None.ensures))
    c.finish.ensures

pub returns-in-Some : goal.returns-in-Some
returns-in-Some c =
    subst (λ t. IfOk c.gather_property.result (λ d. trace_of d (state_of c.gather_property.new.run) ≡ t))
    (sym (ap (λ ps. from (gathering (state_of c.args.run.now).scene c.args.what ps c.args.given) (state_of c.args.run.now))
    c.in-Some.ensures))
    c.gather_property.ensures
