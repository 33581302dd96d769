use Rattle.std.proofs.Common.{◌≡◌, IfOk, ap, sym, subst, ◌∙◌}
use Rattle.rl_model.specs.Actions.{ask}
use Rattle.rl_model.specs.Events as events
use Rattle.rl_model.specs.Expressions.{eval}
use Rattle.rl_source_stack.specs.Controls.{from, trace_of}
use Rattle.rl_source_stack.specs.Parts.{parts_among}
use Rattle.rl_source_stack.specs.States.{state_of}
use Rattle.rl_syntax.specs.Syntax.{syntax}
use Rattle.rl_source_gather.proofs.Pairing.{key_computed, key_known, key_unknown, text_known, text_unknown}
use Rattle.rl_source_gather.specs.Pairs.{pair_then}
use Rattle.rl_source_gather.proofs.gather.gather_method.Goals as goal

pub returns-then-is_computed : goal.returns-then-is_computed
returns-then-is_computed c =
    subst (λ t. IfOk c.give_key.result (λ d. trace_of d (state_of c.give_key.new.run) ≡ t))
    (ap (λ keys. from (pair_then (state_of c.args.run.now).scene c.args.what keys
    (ask (state_of c.args.run.now).scene (events.method c.args.node.0)) (parts_among c.args.left) c.args.given)
    (state_of c.args.run.now))
    (sym (key_computed c.args.computed (syntax c.args.key.tree.now)
    (eval (state_of c.args.run.now).scene (syntax c.args.key.tree.now)) (sym c.is_computed.ensures ∙ c.if-is_computed.true))))
    c.give_key.ensures

pub returns-in-Some : goal.returns-in-Some
returns-in-Some c =
    subst (λ t. IfOk c.give_method.result (λ d. trace_of d (state_of c.give_method.new.run) ≡ t))
    (ap (λ keys. from (pair_then (state_of c.args.run.now).scene c.args.what keys
    (ask (state_of c.args.run.now).scene (events.method c.args.node.0)) (parts_among c.args.left) c.args.given)
    (state_of c.args.run.now))
    (sym (key_known c.args.computed (syntax c.args.key.tree.now)
    (eval (state_of c.args.run.now).scene (syntax c.args.key.tree.now)) (sym c.is_computed.ensures ∙ c.if-is_computed.false)
    (text_known c.key_text.result _ _ _ c.key_text.ensures c.in-Some.is))))
    c.give_method.ensures

pub returns-in-None : goal.returns-in-None
returns-in-None c =
    ap (λ keys. from (pair_then (state_of c.args.run.now).scene c.args.what keys
    (ask (state_of c.args.run.now).scene (events.method c.args.node.0)) (parts_among c.args.left) c.args.given)
    (state_of c.args.run.now))
    (sym (key_unknown c.args.computed (syntax c.args.key.tree.now)
    (eval (state_of c.args.run.now).scene (syntax c.args.key.tree.now)) (sym c.is_computed.ensures ∙ c.if-is_computed.false)
    (text_unknown c.key_text.result _ _ c.key_text.ensures c.in-None.is)))
