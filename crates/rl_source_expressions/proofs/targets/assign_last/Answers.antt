use Rattle.std.proofs.Common.{ap, sym, ◌∙◌}
use Rattle.rl_grammar.specs.Fields.{maybe}
use Rattle.rl_model.specs.Expressions.{assign_to}
use Rattle.rl_source_stack.specs.Controls.{from_normal}
use Rattle.rl_source_stack.specs.Frames.{assign_rest}
use Rattle.rl_source_stack.specs.States.{state_of}
use Rattle.rl_syntax.specs.Syntax.{End, syntax}
use Rattle.rl_source_expressions.proofs.targets.assign_last.Goals as goal

pub returns-in-None : goal.returns-in-None
returns-in-None c =
    ap (λ r. from_normal (assign_rest (state_of c.args.run.now).scene End c.args.pieces.now (maybe r (λ t. syntax t.tree.now)))
    (state_of c.args.run.now)) (sym c.in-None.is)

pub returns-in-Some : goal.returns-in-Some
returns-in-Some c =
    ap (λ v. from_normal (assign_to (state_of c.args.run.now).scene (syntax c.in-Some.rest.tree.now) v) (state_of c.args.run.now))
    c.first_piece.ensures
    ∙ ap (λ r. from_normal (assign_rest (state_of c.args.run.now).scene End c.args.pieces.now (maybe r (λ t. syntax t.tree.now)))
    (state_of c.args.run.now)) (sym c.in-Some.is)
