use Rattle.std.proofs.Common.{◌≡◌, Ok, Result, map, ap, sym, ◌∙◌}
use Rattle.rl_ast.specs.FunctionViews.{seen_arrow_body}
use Rattle.rl_builder.specs.Builder.{state_of}
use Rattle.rl_names.specs.Seen.{seen}
use Rattle.rl_syntax.specs.Syntax.{Pieces, pieces_of, syntax}
use Rattle.rl_lower.proofs.BodyDerivations.{body_may, reserved_named, statements_body_ok, value_body}
use Rattle.rl_lower.proofs.function.lower_body.Goals as goal

same_ok : {X E : Type 0} (x y : X) → ◌≡◌ {A = Result X E} (Ok x) (Ok y) → x ≡ y
same_ok x y is = cc

pub lower_expression-requires-clause-names : goal.lower_expression-requires-clause-names
lower_expression-requires-clause-names g c = reserved_named _ _ c.reserve.ensures.state c.requires.names

pub returns-in_ok-terminate_with_continuation-in-Expression-clause-lowered
    : goal.returns-in_ok-terminate_with_continuation-in-Expression-clause-lowered
returns-in_ok-terminate_with_continuation-in-Expression-clause-lowered g c =
    value_body _ _ (ap seen_arrow_body (sym c.in-Expression.is)) c.reserve.ensures.state
    (same_ok _ _ c.in_ok-fallthrough-in-Expression.ensures.block) c.in_ok-value-in-Expression.ensures.lowered
    c.in_ok-terminate_with_continuation-in-Expression.ensures.state

pub lower_statements-requires-clause-may : goal.lower_statements-requires-clause-may
lower_statements-requires-clause-may g c =
    body_may (seen c.args.names.now) (state_of g.U.ReadsUnit.tables c.args.builder.now)
    (c.function_body_view-body.ensures ∙ ap seen_arrow_body (sym c.in-Body.is))
    c.requires.outermost c.requires.may

pub returns-in-Body-clause-lowered : goal.returns-in-Body-clause-lowered
returns-in-Body-clause-lowered g c =
    let directives : Pieces = pieces_of (map syntax c.function_body_view-body.result.directives.trees.now) in
    let statements : Pieces = pieces_of (map syntax c.function_body_view-body.result.statements.trees.now) in
    statements_body_ok (seen c.args.names.now) _ _ c.lower_statements.result directives statements
    (c.function_body_view-body.ensures ∙ ap seen_arrow_body (sym c.in-Body.is)) c.function_body_view-body.result.directives.fit
    c.lower_statements.ensures.lowered
