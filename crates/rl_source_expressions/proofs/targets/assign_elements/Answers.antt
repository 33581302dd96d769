use Rattle.std.proofs.Common.{ap, sym, ◌∙◌}
use Rattle.rl_grammar.specs.Fields.{maybe}
use Rattle.rl_source_expressions.proofs.Targeted.{item_taken, target_there, left_to}
use Rattle.rl_source_stack.specs.Controls.{trace_of}
use Rattle.rl_source_stack.specs.Parts.{among}
use Rattle.rl_source_stack.specs.States.{state_of}
use Rattle.rl_source_stack.specs.declared.apart.Target.TheVariants as target
use Rattle.rl_source_stack.specs.declared.control.Control.TheVariants as control
use Rattle.rl_syntax.specs.Syntax.{Then, syntax}
use Rattle.rl_trace.specs.Values.{shown}
use Rattle.rl_source_expressions.proofs.targets.assign_elements.Goals as goal

pub items-preserved : goal.items-preserved
items-preserved c =
    ap (λ t. left_to (state_of c.items.run) c.args.pieces.now (maybe c.args.rest (λ t. syntax t.tree.now))
    (Then t (among c.in-Some.behind.trees.now))) c.in-Hole.ensures
    ∙ sym (ap (left_to (state_of c.items.run) c.args.pieces.now (maybe c.args.rest (λ t. syntax t.tree.now))) c.in-Some.ensures)
    ∙ c.items.invariant

pub returns-in-Target : goal.returns-in-Target
returns-in-Target c =
    ap (trace_of (control.AssignTo (target.MaybeDefault c.in-Target.target) c.first_piece-piece.result)) c.in_ok-push-in-Target.ensures
    ∙ item_taken (state_of c.items.run) (syntax c.in-Target.target.tree.now) (among c.in-Some.behind.trees.now)
    (maybe c.args.rest (λ t. syntax t.tree.now)) c.args.pieces.now
    (shown c.first_piece-piece.result) c.later_pieces.result.now (target_there (syntax c.in-Target.target.tree.now) c.in-Target.target.fit)
    c.first_piece-piece.ensures c.later_pieces.ensures
    ∙ ap (λ t. left_to (state_of c.items.run) c.args.pieces.now (maybe c.args.rest (λ t. syntax t.tree.now))
    (Then t (among c.in-Some.behind.trees.now))) c.in-Target.ensures
    ∙ sym (ap (left_to (state_of c.items.run) c.args.pieces.now (maybe c.args.rest (λ t. syntax t.tree.now))) c.in-Some.ensures)
    ∙ c.items.invariant

pub returns : goal.returns
returns c =
    c.assign_last.ensures
    ∙ sym (ap (left_to (state_of c.items.run) c.args.pieces.now (maybe c.args.rest (λ t. syntax t.tree.now))) c.in_default.ensures)
    ∙ c.items.invariant
