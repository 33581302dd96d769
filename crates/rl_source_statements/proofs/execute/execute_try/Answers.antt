use Rattle.std.proofs.Common.{ap, sym, ◌∙◌}
use Rattle.rl_grammar.specs.Fields.{maybe}
use Rattle.rl_source_stack.specs.Controls.{from_normal, trace_of}
use Rattle.rl_source_stack.specs.States.{State, state_of}
use Rattle.rl_source_stack.specs.declared.control.Control.TheVariants as control
use Rattle.rl_source_statements.specs.Starts.{trying}
use Rattle.rl_syntax.specs.Syntax.{Absent, syntax}
use Rattle.rl_source_statements.proofs.execute.execute_try.Goals as goal

pub returns-in_ok-push-in-None-finalizer : goal.returns-in_ok-push-in-None-finalizer
returns-in_ok-push-in-None-finalizer c =
    let old : State = state_of c.args.run.now in
    ap (trace_of (control.Block c.args.block)) c.in_ok-push-in-None-finalizer.ensures
    ∙ ap (λ h. from_normal (trying old.scene (syntax c.args.block.tree.now) h Absent) old) c.catch_clause_view-handler.ensures
    ∙ ap (λ f. from_normal
    (trying old.scene (syntax c.args.block.tree.now) (syntax c.in-Some.handler.tree.now) (maybe f (λ t. syntax t.tree.now))) old)
    (sym c.in-None-finalizer.is)
    ∙ ap (λ h. from_normal
    (trying old.scene (syntax c.args.block.tree.now) (maybe h (λ t. syntax t.tree.now))
    (maybe c.args.finalizer (λ t. syntax t.tree.now))) old)
    (sym c.in-Some.is)
