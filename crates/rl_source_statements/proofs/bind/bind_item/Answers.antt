use Rattle.std.proofs.Common.{ap, sym, ◌∙◌}
use Rattle.rl_grammar.specs.Fields.{maybe}
use Rattle.rl_model.specs.Actions.{◌>>◌}
use Rattle.rl_model.specs.Expressions.{first_piece}
use Rattle.rl_model.specs.Patterns.{bind}
use Rattle.rl_source_stack.specs.Controls.{from_normal, trace_of}
use Rattle.rl_source_stack.specs.Frames.{bind_rest}
use Rattle.rl_source_stack.specs.Parts.{among}
use Rattle.rl_source_stack.specs.States.{State, state_of}
use Rattle.rl_source_stack.specs.declared.apart.Binding.TheVariants as binding
use Rattle.rl_source_stack.specs.declared.control.Control.TheVariants as control
use Rattle.rl_source_statements.proofs.Patterns.{pattern_there, rest_hole, rest_part}
use Rattle.rl_syntax.specs.Syntax.{Syntax, Then, syntax}
use Rattle.rl_source_statements.proofs.bind.bind_item.Goals as goal

pub returns-in-None : goal.returns-in-None
returns-in-None c =
    let old : State = state_of c.args.run.now in
    c.bind_the_rest.ensures
    ∙ ap (λ v. from_normal (bind old.scene c.args.everywhere (maybe c.args.rest (λ t. syntax t.tree.now)) v) old) c.first_piece.ensures
    ∙ sym (ap (λ ps. from_normal
    (bind_rest old.scene c.args.everywhere ps c.args.pieces.now (maybe c.args.rest (λ t. syntax t.tree.now))) old)
    c.in-None.ensures)

pub returns-in_ok-push-in-Hole : goal.returns-in_ok-push-in-Hole
returns-in_ok-push-in-Hole c =
    let old : State = state_of c.args.run.now in
    ap (trace_of control.Normal) c.in_ok-push-in-Hole.ensures
    ∙ sym (ap (λ action. from_normal action old)
    (rest_hole _ _ _ _ c.args.everywhere _ (among c.in-Some.left.trees.now) _ _ c.args.pieces.now
    (maybe c.args.rest (λ t. syntax t.tree.now)) c.in-Some.ensures c.in-Hole.ensures))

pub returns-in_ok-push-in-Pattern : goal.returns-in_ok-push-in-Pattern
returns-in_ok-push-in-Pattern c =
    let old : State = state_of c.args.run.now in
    let rest : Syntax = maybe c.args.rest (λ t. syntax t.tree.now) in
    ap (trace_of (control.Bind c.args.everywhere (binding.MaybeDefault c.in-Pattern.pattern) c.first_piece-in-Pattern.result))
    c.in_ok-push-in-Pattern.ensures
    ∙ ap (λ v. from_normal (do
      bind old.scene c.args.everywhere (syntax c.in-Pattern.pattern.tree.now) v
      bind_rest old.scene c.args.everywhere (among c.in-Some.left.trees.now) c.later_pieces.result.now rest) old)
    c.first_piece-in-Pattern.ensures
    ∙ ap (λ vs. from_normal (do
      bind old.scene c.args.everywhere (syntax c.in-Pattern.pattern.tree.now) (first_piece c.args.pieces.now)
      bind_rest old.scene c.args.everywhere (among c.in-Some.left.trees.now) vs rest) old) c.later_pieces.ensures
    ∙ sym (ap (λ action. from_normal action old)
    (rest_part _ _ _ _ c.args.everywhere _ (among c.in-Some.left.trees.now) (syntax c.in-Pattern.pattern.tree.now) c.args.pieces.now rest
    (c.in-Some.ensures ∙ ap (λ t. Then t (among c.in-Some.left.trees.now)) (sym c.in-Pattern.ensures))
    (pattern_there (syntax c.in-Pattern.pattern.tree.now) c.in-Pattern.pattern.fit)))
