use Rattle.std.proofs.Common.{ap, sym, ◌∙◌}
use Rattle.rl_grammar.specs.Fields.{maybe}
use Rattle.rl_model.specs.Actions.{◌>>◌}
use Rattle.rl_model.specs.Expressions.{first_piece}
use Rattle.rl_model.specs.Patterns.{bind}
use Rattle.rl_source_stack.specs.Controls.{from_normal, trace_of}
use Rattle.rl_source_stack.specs.Frames.{bind_rest}
use Rattle.rl_source_stack.specs.Parts.{among}
use Rattle.rl_source_stack.specs.States.{State, state_of}
use Rattle.rl_source_stack.specs.declared.apart.Binding.TheVariants as binding
use Rattle.rl_source_stack.specs.declared.control.Control.TheVariants as control
use Rattle.rl_source_statements.proofs.Patterns.{property_there, rest_part}
use Rattle.rl_syntax.specs.Syntax.{Syntax, syntax}
use Rattle.rl_source_statements.proofs.bind.bind_property.Goals as goal

pub returns-in-None : goal.returns-in-None
returns-in-None c =
    let old : State = state_of c.args.run.now in
    c.bind_the_rest.ensures
    ∙ ap (λ v. from_normal (bind old.scene c.args.everywhere (maybe c.args.rest (λ t. syntax t.tree.now)) v) old) c.first_piece.ensures
    ∙ sym (ap (λ ps. from_normal
    (bind_rest old.scene c.args.everywhere ps c.args.pieces.now (maybe c.args.rest (λ t. syntax t.tree.now))) old)
    c.in-None.ensures)

pub returns-in_ok-push-in-Some : goal.returns-in_ok-push-in-Some
returns-in_ok-push-in-Some c =
    let old : State = state_of c.args.run.now in
    let rest : Syntax = maybe c.args.rest (λ t. syntax t.tree.now) in
    ap (trace_of (control.Bind c.args.everywhere (binding.Property c.in-Some.first) c.first_piece-in-Some.result))
    c.in_ok-push-in-Some.ensures
    ∙ ap (λ v. from_normal (do
      bind old.scene c.args.everywhere (syntax c.in-Some.first.tree.now) v
      bind_rest old.scene c.args.everywhere (among c.in-Some.left.trees.now) c.later_pieces.result.now rest) old)
    c.first_piece-in-Some.ensures
    ∙ ap (λ vs. from_normal (do
      bind old.scene c.args.everywhere (syntax c.in-Some.first.tree.now) (first_piece c.args.pieces.now)
      bind_rest old.scene c.args.everywhere (among c.in-Some.left.trees.now) vs rest) old) c.later_pieces.ensures
    ∙ sym (ap (λ action. from_normal action old)
    (rest_part _ _ _ _ c.args.everywhere _ (among c.in-Some.left.trees.now) (syntax c.in-Some.first.tree.now) c.args.pieces.now rest
    c.in-Some.ensures (property_there (syntax c.in-Some.first.tree.now) c.in-Some.first.fit)))
