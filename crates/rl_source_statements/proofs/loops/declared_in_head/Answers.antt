use Rattle.std.proofs.Common.{sym, ◌∙◌}
use Rattle.rl_source_statements.proofs.Heads.{head_more, head_using}
use Rattle.rl_source_stack.specs.Parts.{among}
use Rattle.rl_syntax.specs.Syntax.{syntax}
use Rattle.rl_source_statements.proofs.loops.declared_in_head.Goals as goal

pub returns-in-Some : goal.returns-in-Some
returns-in-Some c =
    head_more c.variable_declaration_view-declaration.result (syntax c.args.tree.tree.now) (syntax c.in_ok-first.first.tree.now)
    (syntax c.in-Some.field-0.0.tree.now) (among c.in_ok-first.rest.trees.now) (among c.in-Some.field-0.1.trees.now)
    c.variable_declaration_view-declaration.ensures c.in_ok-first.ensures c.in-Some.ensures

pub returns-then-is_using : goal.returns-then-is_using
returns-then-is_using c =
    head_using c.variable_declaration_view-declaration.result (syntax c.args.tree.tree.now) (syntax c.in_ok-first.first.tree.now)
    (among c.in_ok-first.rest.trees.now) c.variable_declaration_view-declaration.ensures c.in_ok-first.ensures c.in-None.ensures
    (sym c.is_using.ensures ∙ c.if-is_using.true)
