use Rattle.rl_ast.specs.ExpressionViews.{seen_expression}
use Rattle.rl_base.specs.declared.span.Span.{Span}
use Rattle.rl_builder.specs.Builder.{State, state_of}
use Rattle.rl_frames.specs.Frames.{logical_of, sequence_of, ternary_of}
use Rattle.rl_lower_expressions.proofs.ChainDerivations.{chain_ok}
use Rattle.rl_lower_expressions.proofs.Derivations.{asked_ok}
use Rattle.rl_lower_expressions.proofs.Derivations.{index_told, literal_ok, member_told, next}
use Rattle.rl_lower_expressions.proofs.Derivations.{nothing, object_ok}
use Rattle.rl_lower_expressions.proofs.Derivations.{refused_before_ok, regexp_form, same_ok, sequence_some}
use Rattle.rl_lower_parts.proofs.Derivations.{refused_ok}
use Rattle.rl_lower_expressions.proofs.Derivations.{string_literal}
use Rattle.rl_lower_expressions.proofs.FrameDerivations.{conditional_ok, logical_begun_named, logical_begun_room, logical_ok}
use Rattle.rl_lower_expressions.proofs.FrameDerivations.{logical_righted_named, logical_righted_room, logical_second_room}
use Rattle.rl_lower_expressions.proofs.FrameDerivations.{logical_third_room, sequence_begun_named, sequence_begun_room, sequence_ok}
use Rattle.rl_lower_expressions.proofs.FrameDerivations.{ternary_alternated_named, ternary_alternated_room, ternary_begun_named}
use Rattle.rl_lower_expressions.proofs.FrameDerivations.{ternary_begun_room, ternary_consequent_named, ternary_consequent_room}
use Rattle.rl_lower_expressions.proofs.FrameDerivations.{ternary_second_room, ternary_third_room}
use Rattle.rl_lower_expressions.proofs.MemberDerivations.{loaded_ok}
use Rattle.rl_lower_expressions.proofs.OperatorDerivations.{cast_told}
use Rattle.rl_lower_parts.specs.declared.target_items.TargetPart.TheVariants as part
use Rattle.rl_lowered.proofs.Names.{names_recorded}
use Rattle.rl_lowered.specs.Named.{IsNamed}
use Rattle.rl_lowered.specs.Promised.{HasRoom, share}
use Rattle.rl_names.specs.Seen.{seen}
use Rattle.rl_promises.specs.Lowerable.{IsLowerable}
use Rattle.rl_runs.specs.Blocks.{size_of}
use Rattle.rl_syntax.specs.Syntax.{nodes, nodes_of, pieces_of, span_of, syntax}
use Rattle.std.proofs.Common.{rules, ◌≡◌, ℕ, ◌+◌, ◌≤◌, Some, map, unwrap_or, refl, ap, sym, ◌∙◌, subst, arith}
use Rattle.rl_ast.specs.declared.expression.Expression.TheVariants as expression
use Rattle.rl_lowered.specs.Forms as forms
use Rattle.rl_lower_expressions.proofs.+expressions.Goals as goal

pub expression::lower_access-returns-in_ok-arguments-in-New-clause-lowered
    : goal.expression::lower_access-returns-in_ok-arguments-in-New-clause-lowered
expression::lower_access-returns-in_ok-arguments-in-New-clause-lowered g t c =
    asked_ok c.lower_value_to_temporary.result _ c.in-New.ensures (forms.New refl)
    (next c.in_ok-callee-in-New.ensures.lowered c.in_ok-arguments-in-New.ensures.lowered.by)
    c.lower_value_to_temporary.ensures.state c.lower_value_to_temporary.ensures.place

pub expression::lower_access-returns-in_ok-value-in-Member-clause-lowered
    : goal.expression::lower_access-returns-in_ok-value-in-Member-clause-lowered
expression::lower_access-returns-in_ok-value-in-Member-clause-lowered g t c =
    loaded_ok c.in_ok-member-in-Member.member c.lower_value_to_temporary-in-Member.result _
    (member_told (seen c.args.names.now) c.in-Member.optional c.in-Member.ensures c.requires.may) c.in_ok-value-in-Member.ensures
    c.in_ok-member-in-Member.ensures.lowered
    c.lower_value_to_temporary-in-Member.ensures.state c.lower_value_to_temporary-in-Member.ensures.place

pub expression::lower_access-returns-in_ok-value-in-Index-clause-lowered
    : goal.expression::lower_access-returns-in_ok-value-in-Index-clause-lowered
expression::lower_access-returns-in_ok-value-in-Index-clause-lowered g t c =
    loaded_ok c.in_ok-member-in-Index.member c.lower_value_to_temporary-in-Index.result _
    (index_told (seen c.args.names.now) c.in-Index.optional c.in-Index.ensures c.requires.may) c.in_ok-value-in-Index.ensures
    c.in_ok-member-in-Index.ensures.lowered
    c.lower_value_to_temporary-in-Index.ensures.state c.lower_value_to_temporary-in-Index.ensures.place

pub expression::lower_composite-returns-in_ok-items-in-Array-clause-lowered
    : goal.expression::lower_composite-returns-in_ok-items-in-Array-clause-lowered
expression::lower_composite-returns-in_ok-items-in-Array-clause-lowered g t c =
    asked_ok c.lower_value_to_temporary.result _ c.in-Array.ensures (forms.Array refl) c.in_ok-items-in-Array.ensures.lowered.by
    c.lower_value_to_temporary.ensures.state c.lower_value_to_temporary.ensures.place

pub expression::lower_composite-returns-in_ok-properties-in-Object-clause-lowered
    : goal.expression::lower_composite-returns-in_ok-properties-in-Object-clause-lowered
expression::lower_composite-returns-in_ok-properties-in-Object-clause-lowered g t c =
    object_ok c.in_ok-properties-in-Object.properties c.lower_value_to_temporary-in-Object.result _ c.in-Object.ensures
    c.in_ok-properties-in-Object.ensures.lowered
    c.lower_value_to_temporary-in-Object.ensures.state c.lower_value_to_temporary-in-Object.ensures.place

pub expression::lower_composite-returns-in_ok-literal-in-RegExp-clause-lowered
    : goal.expression::lower_composite-returns-in_ok-literal-in-RegExp-clause-lowered
expression::lower_composite-returns-in_ok-literal-in-RegExp-clause-lowered g t c =
    asked_ok {names = seen c.args.names.now} c.lower_value_to_temporary-in-RegExp.result _ c.in-RegExp.ensures
    (regexp_form _ _ _ c.in_ok-literal-in-RegExp.ensures c.in_ok-pattern-in-RegExp.ensures c.in_ok-flags-in-RegExp.ensures) nothing
    c.lower_value_to_temporary-in-RegExp.ensures.state c.lower_value_to_temporary-in-RegExp.ensures.place

pub expression::lower_composite-returns-in-ImportMeta-clause-lowered : goal.expression::lower_composite-returns-in-ImportMeta-clause-lowered
expression::lower_composite-returns-in-ImportMeta-clause-lowered g t c =
    asked_ok {names = seen c.args.names.now} c.lower_value_to_temporary-in-ImportMeta.result _ c.in-ImportMeta.ensures forms.ImportMeta
    nothing
    c.lower_value_to_temporary-in-ImportMeta.ensures.state c.lower_value_to_temporary-in-ImportMeta.ensures.place

pub expression::lower_conditional-alternate-requires : goal.expression::lower_conditional-alternate-requires
expression::lower_conditional-alternate-requires g t c =
    let test : ℕ = nodes (syntax c.args.test.tree.now) in
    let alternate : ℕ = nodes (syntax c.args.alternate.tree.now) in
    let s : State = state_of g.U.ReadsUnit.tables c.args.builder.now in
    let b : State = state_of g.U.ReadsUnit.tables c.begin.new.b in
    let s2 : State = state_of g.U.ReadsUnit.tables c.lower_expression.new.builder in
    let second : HasRoom s2 (share alternate + (share test + 59)) =
    ternary_second_room test (nodes (syntax c.args.consequent.tree.now)) alternate s b s2 c.args.at.span c.in_ok-frame.ensures.state
    c.in_ok-value.ensures.lowered.size c.requires.room in
    let b2 : State = state_of g.U.ReadsUnit.tables c.consequent.new.b in
    let s3 : State = state_of g.U.ReadsUnit.tables c.lower_expression-2.new.builder in
    let third : HasRoom s3 (share test + 54) =
    ternary_third_room test alternate (ternary_of c.in_ok-frame.frame) s2 b2 s3 c.in_ok-value.value c.span_of.result
    c.in_ok-consequent.ensures.state c.in_ok-value-2.ensures.lowered.size second in
    record {
      «open» = search rules;
      instructions = omega (arith, third);
      blocks = omega (arith, third);
      identifiers = omega (arith, third);
      types = omega (arith, third);
    }

pub expression::lower_conditional-returns-clause-lowered : goal.expression::lower_conditional-returns-clause-lowered
expression::lower_conditional-returns-clause-lowered g t c =
    conditional_ok (ternary_of c.alternate.new.self) _ _ c.span_of.ensures c.span_of-2.ensures c.in_ok-frame.ensures.frame
    c.in_ok-frame.ensures.state
    c.in_ok-value.ensures.lowered c.in_ok-consequent.ensures.state c.in_ok-consequent.ensures.frame c.in_ok-value-2.ensures.lowered
    c.in_ok-alternate.ensures.state c.in_ok-alternate.ensures.frame c.in_ok-value-3.ensures.lowered
    c.in_ok-finish.ensures.state c.in_ok-finish.ensures.place

pub expression::lower_conditional-lower_expression-requires : goal.expression::lower_conditional-lower_expression-requires
expression::lower_conditional-lower_expression-requires g t c =
    let consequent : ℕ = nodes (syntax c.args.consequent.tree.now) in
    let s : State = state_of g.U.ReadsUnit.tables c.args.builder.now in
    let b : State = state_of g.U.ReadsUnit.tables c.begin.new.b in
    let named = ternary_begun_named s b c.args.at.span c.in_ok-frame.ensures.state c.requires.names in
    let roomy = ternary_begun_room s b c.args.at.span (share consequent) (share ((nodes (syntax c.args.test.tree.now)) + (consequent +
    ((nodes (syntax c.args.alternate.tree.now)) + 0)) + 1)) c.in_ok-frame.ensures.state (omega arith) c.requires.room in
    λ lifetimes outlives. (search rules, (search rules, (named, (c.requires.may.1.1.0, roomy))))

pub expression::lower_conditional-lower_expression-requires-2 : goal.expression::lower_conditional-lower_expression-requires-2
expression::lower_conditional-lower_expression-requires-2 g t c =
    let test : ℕ = nodes (syntax c.args.test.tree.now) in
    let alternate : ℕ = nodes (syntax c.args.alternate.tree.now) in
    let s : State = state_of g.U.ReadsUnit.tables c.args.builder.now in
    let b : State = state_of g.U.ReadsUnit.tables c.begin.new.b in
    let s2 : State = state_of g.U.ReadsUnit.tables c.lower_expression.new.builder in
    let second : HasRoom s2 (share alternate + (share test + 59)) =
    ternary_second_room test (nodes (syntax c.args.consequent.tree.now)) alternate s b s2 c.args.at.span c.in_ok-frame.ensures.state
    c.in_ok-value.ensures.lowered.size c.requires.room in
    let b2 : State = state_of g.U.ReadsUnit.tables c.consequent.new.b in
    let named = ternary_consequent_named (ternary_of c.in_ok-frame.frame) s2 b2 c.in_ok-value.value c.span_of.result
    c.in_ok-consequent.ensures.state (c.in_ok-value.ensures.lowered.named (ternary_begun_named s b c.args.at.span
    c.in_ok-frame.ensures.state c.requires.names)) in
    let roomy = ternary_consequent_room (ternary_of c.in_ok-frame.frame) s2 b2 c.in_ok-value.value c.span_of.result (share alternate)
    (share alternate + (share test + 59)) c.in_ok-consequent.ensures.state (omega arith) second in
    λ lifetimes outlives. (search rules, (search rules, (named, (c.requires.may.1.1.1.0, roomy))))

pub expression::lower_conditional-lower_expression-requires-3 : goal.expression::lower_conditional-lower_expression-requires-3
expression::lower_conditional-lower_expression-requires-3 g t c =
    let test : ℕ = nodes (syntax c.args.test.tree.now) in
    let alternate : ℕ = nodes (syntax c.args.alternate.tree.now) in
    let s : State = state_of g.U.ReadsUnit.tables c.args.builder.now in
    let b : State = state_of g.U.ReadsUnit.tables c.begin.new.b in
    let s2 : State = state_of g.U.ReadsUnit.tables c.lower_expression.new.builder in
    let second : HasRoom s2 (share alternate + (share test + 59)) =
    ternary_second_room test (nodes (syntax c.args.consequent.tree.now)) alternate s b s2 c.args.at.span c.in_ok-frame.ensures.state
    c.in_ok-value.ensures.lowered.size c.requires.room in
    let b2 : State = state_of g.U.ReadsUnit.tables c.consequent.new.b in
    let s3 : State = state_of g.U.ReadsUnit.tables c.lower_expression-2.new.builder in
    let third : HasRoom s3 (share test + 54) =
    ternary_third_room test alternate (ternary_of c.in_ok-frame.frame) s2 b2 s3 c.in_ok-value.value c.span_of.result
    c.in_ok-consequent.ensures.state c.in_ok-value-2.ensures.lowered.size second in
    let b3 : State = state_of g.U.ReadsUnit.tables c.alternate.new.b in
    let named = ternary_alternated_named (ternary_of c.consequent.new.self) s3 b3 c.in_ok-value-2.value c.span_of-2.result
    c.in_ok-alternate.ensures.state (c.in_ok-value-2.ensures.lowered.named (ternary_consequent_named (ternary_of c.in_ok-frame.frame)
    s2 b2 c.in_ok-value.value c.span_of.result c.in_ok-consequent.ensures.state (c.in_ok-value.ensures.lowered.named
    (ternary_begun_named s b c.args.at.span c.in_ok-frame.ensures.state c.requires.names)))) in
    let roomy = ternary_alternated_room (ternary_of c.consequent.new.self) s3 b3 c.in_ok-value-2.value c.span_of-2.result (share test)
    (share test + 54) c.in_ok-alternate.ensures.state (omega arith) third in
    λ lifetimes outlives. (search rules, (search rules, (named, (c.requires.may.1.0, roomy))))

pub expression::lower_expression-returns-in-Null-clause-lowered : goal.expression::lower_expression-returns-in-Null-clause-lowered
expression::lower_expression-returns-in-Null-clause-lowered g t c =
    literal_ok (seen c.args.names.now) c.lower_value_to_temporary.result _ _ c.in-Null.ensures forms.Null
    c.lower_value_to_temporary.ensures.state c.lower_value_to_temporary.ensures.place

pub expression::lower_expression-returns-in-Boolean-clause-lowered : goal.expression::lower_expression-returns-in-Boolean-clause-lowered
expression::lower_expression-returns-in-Boolean-clause-lowered g t c =
    literal_ok (seen c.args.names.now) c.lower_value_to_temporary-in-Boolean.result _ _ c.in-Boolean.ensures forms.Boolean
    c.lower_value_to_temporary-in-Boolean.ensures.state c.lower_value_to_temporary-in-Boolean.ensures.place

pub expression::lower_expression-returns-in_ok-copy-in-String-clause-lowered
    : goal.expression::lower_expression-returns-in_ok-copy-in-String-clause-lowered
expression::lower_expression-returns-in_ok-copy-in-String-clause-lowered g t c =
    literal_ok (seen c.args.names.now) c.lower_value_to_temporary-in-String.result _ _ c.in-String.ensures
    (string_literal _ c.in_ok-copy-in-String.ensures)
    c.lower_value_to_temporary-in-String.ensures.state c.lower_value_to_temporary-in-String.ensures.place

pub expression::lower_expression-returns-in-Parenthesized-clause-lowered
    : goal.expression::lower_expression-returns-in-Parenthesized-clause-lowered
expression::lower_expression-returns-in-Parenthesized-clause-lowered g t c =
    same_ok (seen c.args.names.now) _ _ c.lower_expression.result c.in-Parenthesized.ensures forms.Parenthesized
    c.lower_expression.ensures.lowered

pub expression::lower_expression-returns-in-NonNull-clause-lowered : goal.expression::lower_expression-returns-in-NonNull-clause-lowered
expression::lower_expression-returns-in-NonNull-clause-lowered g t c =
    same_ok (seen c.args.names.now) _ _ c.lower_expression-in-NonNull.result c.in-NonNull.ensures forms.NonNull
    c.lower_expression-in-NonNull.ensures.lowered

pub expression::lower_expression-returns-in-Instantiate-clause-lowered
    : goal.expression::lower_expression-returns-in-Instantiate-clause-lowered
expression::lower_expression-returns-in-Instantiate-clause-lowered g t c =
    same_ok (seen c.args.names.now) _ _ c.lower_expression-in-Instantiate.result c.in-Instantiate.ensures
    (forms.Instantiated c.in-Instantiate.names.fit) c.lower_expression-in-Instantiate.ensures.lowered

pub expression::lower_import-returns-in_ok-lower_expression-in-Some-clause-lowered
    : goal.expression::lower_import-returns-in_ok-lower_expression-in-Some-clause-lowered
expression::lower_import-returns-in_ok-lower_expression-in-Some-clause-lowered g t c =
    refused_before_ok {names = seen c.args.names.now} {at = c.args.at} (state_of g.U.ReadsUnit.tables c.args.builder.now)
    c.lower_undefined.result (state_of g.U.ReadsUnit.tables c.lower_undefined.new.builder)
    (ap (λ options. seen_expression (expression.ImportCall c.args.at c.args.source options)) (sym c.in-Some.is)) forms.ImportCallWith
    c.in_ok-refuse.ensures.state
    (next c.in_ok-lower_expression.ensures.lowered (next c.in_ok-lower_expression-in-Some.ensures.lowered nothing))
    c.lower_undefined.ensures.state c.lower_undefined.ensures.place

pub expression::lower_import-returns-in-None-clause-lowered : goal.expression::lower_import-returns-in-None-clause-lowered
expression::lower_import-returns-in-None-clause-lowered g t c =
    refused_before_ok {names = seen c.args.names.now} {at = c.args.at} (state_of g.U.ReadsUnit.tables c.args.builder.now)
    c.lower_undefined-in-None.result (state_of g.U.ReadsUnit.tables c.lower_undefined-in-None.new.builder)
    (ap (λ options. seen_expression (expression.ImportCall c.args.at c.args.source options)) (sym c.in-None.is)) forms.ImportCall
    c.in_ok-refuse.ensures.state (next c.in_ok-lower_expression.ensures.lowered nothing)
    c.lower_undefined-in-None.ensures.state c.lower_undefined-in-None.ensures.place

pub expression::lower_import-lower_expression-requires-in-Some : goal.expression::lower_import-lower_expression-requires-in-Some
expression::lower_import-lower_expression-requires-in-Some g t c =
    λ lifetimes outlives. (
      search rules,
      (
        search rules,
        (
          (let s : State = state_of g.U.ReadsUnit.tables c.args.builder.now in
              c.in_ok-lower_expression.ensures.lowered.named (subst (IsNamed (seen c.args.names.now)) (sym c.in_ok-refuse.ensures.state)
              ((names_recorded s _).named c.requires.names))),
          (
            ((subst (λ options. IsLowerable (seen c.args.names.now) (seen_expression
                (expression.ImportCall c.args.at c.args.source options))) c.in-Some.is c.requires.may).1.1.0),
            (let s : State = state_of g.U.ReadsUnit.tables c.args.builder.now in
                let s1 : State = state_of g.U.ReadsUnit.tables c.refuse.new.builder in
                let s2 : State = state_of g.U.ReadsUnit.tables c.lower_expression.new.builder in
                let source : ℕ = nodes (syntax c.args.source.tree.now) in
                let same : size_of s1 ≡ size_of s = ap size_of c.in_ok-refuse.ensures.state in
                let first : size_of s2 ≤ size_of s1 + share source = c.in_ok-lower_expression.ensures.lowered.size in
                let all : HasRoom s (share (source + (nodes (syntax c.in-Some.options.tree.now) + 0) + 1)) =
                subst (λ options. HasRoom s (share (nodes (seen_expression (expression.ImportCall c.args.at c.args.source options)))))
                c.in-Some.is c.requires.room in
                omega (arith, same, first, all)),
          ),
        ),
      ),
    )

pub expression::lower_logical-right-requires : goal.expression::lower_logical-right-requires
expression::lower_logical-right-requires g t c =
    let left : ℕ = nodes (syntax c.args.left.tree.now) in
    let s : State = state_of g.U.ReadsUnit.tables c.args.builder.now in
    let b : State = state_of g.U.ReadsUnit.tables c.begin.new.b in
    let s2 : State = state_of g.U.ReadsUnit.tables c.lower_expression.new.builder in
    let second : HasRoom s2 (share left + 52) =
    logical_second_room left (nodes (syntax c.args.right.tree.now)) s b s2 c.args.at.span c.span_of.result c.in_ok-frame.ensures.state
    c.in_ok-value.ensures.lowered.size c.requires.room in
    record {
      «open» = search rules;
      instructions = omega (arith, second);
      blocks = omega (arith, second);
      identifiers = omega (arith, second);
      types = omega (arith, second);
    }

pub expression::lower_logical-finish-requires : goal.expression::lower_logical-finish-requires
expression::lower_logical-finish-requires g t c =
    let left : ℕ = nodes (syntax c.args.left.tree.now) in
    let s : State = state_of g.U.ReadsUnit.tables c.args.builder.now in
    let b : State = state_of g.U.ReadsUnit.tables c.begin.new.b in
    let s2 : State = state_of g.U.ReadsUnit.tables c.lower_expression.new.builder in
    let second : HasRoom s2 (share left + 52) =
    logical_second_room left (nodes (syntax c.args.right.tree.now)) s b s2 c.args.at.span c.span_of.result c.in_ok-frame.ensures.state
    c.in_ok-value.ensures.lowered.size c.requires.room in
    let b2 : State = state_of g.U.ReadsUnit.tables c.right.new.b in
    let s3 : State = state_of g.U.ReadsUnit.tables c.lower_expression-2.new.builder in
    let third : HasRoom s3 48 =
    logical_third_room left (logical_of c.in_ok-frame.frame) s2 b2 s3 c.in_ok-value.value c.unwrap_or-part.result
    c.in_ok-right.ensures.state c.in_ok-value-2.ensures.lowered.size second in
    record {
      instructions = omega (arith, third);
      blocks = omega (arith, third);
    }

pub expression::lower_logical-returns-clause-lowered : goal.expression::lower_logical-returns-clause-lowered
expression::lower_logical-returns-clause-lowered g t c =
    logical_ok (logical_of c.right.new.self) _ _ c.span_of.ensures
    (c.unwrap_or-part.ensures ∙ ap (λ (o : Span). unwrap_or c.in_ok-value.value.span o) c.span_of-2.ensures) c.in_ok-frame.ensures.frame
    c.in_ok-frame.ensures.state
    c.in_ok-value.ensures.lowered c.in_ok-right.ensures.state c.in_ok-right.ensures.frame c.in_ok-value-2.ensures.lowered
    c.in_ok-finish.ensures.state c.in_ok-finish.ensures.place

pub expression::lower_logical-lower_expression-requires : goal.expression::lower_logical-lower_expression-requires
expression::lower_logical-lower_expression-requires g t c =
    let right : ℕ = nodes (syntax c.args.right.tree.now) in
    let s : State = state_of g.U.ReadsUnit.tables c.args.builder.now in
    let b : State = state_of g.U.ReadsUnit.tables c.begin.new.b in
    let named = logical_begun_named s b c.args.at.span c.span_of.result c.in_ok-frame.ensures.state c.requires.names in
    let roomy = logical_begun_room s b c.args.at.span c.span_of.result (share right) (share (0 + ((nodes (syntax c.args.left.tree.now))
    + (right + 0)) + 1)) c.in_ok-frame.ensures.state (omega arith) c.requires.room in
    λ lifetimes outlives. (search rules, (search rules, (named, (c.requires.may.1.1.1.0, roomy))))

pub expression::lower_logical-lower_expression-requires-2 : goal.expression::lower_logical-lower_expression-requires-2
expression::lower_logical-lower_expression-requires-2 g t c =
    let left : ℕ = nodes (syntax c.args.left.tree.now) in
    let s : State = state_of g.U.ReadsUnit.tables c.args.builder.now in
    let b : State = state_of g.U.ReadsUnit.tables c.begin.new.b in
    let s2 : State = state_of g.U.ReadsUnit.tables c.lower_expression.new.builder in
    let second : HasRoom s2 (share left + 52) =
    logical_second_room left (nodes (syntax c.args.right.tree.now)) s b s2 c.args.at.span c.span_of.result c.in_ok-frame.ensures.state
    c.in_ok-value.ensures.lowered.size c.requires.room in
    let b2 : State = state_of g.U.ReadsUnit.tables c.right.new.b in
    let named = logical_righted_named (logical_of c.in_ok-frame.frame) s2 b2 c.in_ok-value.value c.unwrap_or-part.result
    c.in_ok-right.ensures.state (c.in_ok-value.ensures.lowered.named (logical_begun_named s b c.args.at.span c.span_of.result
    c.in_ok-frame.ensures.state c.requires.names)) in
    let roomy = logical_righted_room (logical_of c.in_ok-frame.frame) s2 b2 c.in_ok-value.value c.unwrap_or-part.result (share left)
    (share left + 52) c.in_ok-right.ensures.state (omega arith) second in
    λ lifetimes outlives. (search rules, (search rules, (named, (c.requires.may.1.1.0, roomy))))

pub expression::lower_operation-returns-in_ok-right-in-Binary-clause-lowered
    : goal.expression::lower_operation-returns-in_ok-right-in-Binary-clause-lowered
expression::lower_operation-returns-in_ok-right-in-Binary-clause-lowered g t c =
    asked_ok c.lower_value_to_temporary.result _ c.in-Binary.ensures forms.Binary
    (next c.in_ok-left-in-Binary.ensures.lowered (next c.in_ok-right-in-Binary.ensures.lowered nothing))
    c.lower_value_to_temporary.ensures.state c.lower_value_to_temporary.ensures.place

pub expression::lower_operation-returns-in_ok-value-in-Await-clause-lowered
    : goal.expression::lower_operation-returns-in_ok-value-in-Await-clause-lowered
expression::lower_operation-returns-in_ok-value-in-Await-clause-lowered g t c =
    asked_ok c.lower_value_to_temporary-in-Await.result _ c.in-Await.ensures forms.Await
    (next c.in_ok-value-in-Await.ensures.lowered nothing)
    c.lower_value_to_temporary-in-Await.ensures.state c.lower_value_to_temporary-in-Await.ensures.place

pub expression::lower_operation-returns-in-Chain-clause-lowered : goal.expression::lower_operation-returns-in-Chain-clause-lowered
expression::lower_operation-returns-in-Chain-clause-lowered g t c =
    chain_ok (seen c.args.names.now) (state_of g.U.ReadsUnit.tables c.args.builder.now)
    (state_of g.U.ReadsUnit.tables c.lower_spine.new.builder) c.lower_spine.result c.in-Chain.ensures c.lower_spine.ensures.lowered

pub expression::lower_operation-lower_spine-requires : goal.expression::lower_operation-lower_spine-requires
expression::lower_operation-lower_spine-requires g t c =
    let may = subst (IsLowerable (seen c.args.names.now)) (sym c.in-Chain.ensures) c.requires.may in
    λ lifetimes outlives. (search rules, (search rules, (search rules, (may.0, (may.1, search rules)))))

pub expression::lower_operation-returns-in-As-clause-lowered : goal.expression::lower_operation-returns-in-As-clause-lowered
expression::lower_operation-returns-in-As-clause-lowered g t c =
    cast_told (seen c.args.names.now) (state_of g.U.ReadsUnit.tables c.args.builder.now)
    (state_of g.U.ReadsUnit.tables c.lower_cast.new.builder) c.lower_cast.result c.in-As.ensures forms.As
    c.lower_cast.ensures.lowered

pub expression::lower_operation-returns-in-Satisfies-clause-lowered : goal.expression::lower_operation-returns-in-Satisfies-clause-lowered
expression::lower_operation-returns-in-Satisfies-clause-lowered g t c =
    cast_told (seen c.args.names.now) (state_of g.U.ReadsUnit.tables c.args.builder.now)
    (state_of g.U.ReadsUnit.tables c.lower_cast-in-Satisfies.new.builder) c.lower_cast-in-Satisfies.result c.in-Satisfies.ensures
    forms.Satisfies
    c.lower_cast-in-Satisfies.ensures.lowered

pub expression::lower_operation-returns-in-Assert-clause-lowered : goal.expression::lower_operation-returns-in-Assert-clause-lowered
expression::lower_operation-returns-in-Assert-clause-lowered g t c =
    cast_told (seen c.args.names.now) (state_of g.U.ReadsUnit.tables c.args.builder.now)
    (state_of g.U.ReadsUnit.tables c.lower_cast-in-Assert.new.builder) c.lower_cast-in-Assert.result c.in-Assert.ensures forms.Assert
    c.lower_cast-in-Assert.ensures.lowered

pub expression::lower_refused-returns-in-BigInt-clause-lowered : goal.expression::lower_refused-returns-in-BigInt-clause-lowered
expression::lower_refused-returns-in-BigInt-clause-lowered g t c =
    refused_ok {names = seen c.args.names.now} c.refuse_as_undefined.result _ _ c.in-BigInt.ensures forms.BigInt
    c.refuse_as_undefined.ensures.state c.refuse_as_undefined.ensures.place

pub expression::lower_refused-returns-in-NewTarget-clause-lowered : goal.expression::lower_refused-returns-in-NewTarget-clause-lowered
expression::lower_refused-returns-in-NewTarget-clause-lowered g t c =
    refused_ok {names = seen c.args.names.now} c.refuse_as_undefined-in-NewTarget.result _ _ c.in-NewTarget.ensures forms.NewTarget
    c.refuse_as_undefined-in-NewTarget.ensures.state c.refuse_as_undefined-in-NewTarget.ensures.place

pub expression::lower_refused-returns-in-Super-clause-lowered : goal.expression::lower_refused-returns-in-Super-clause-lowered
expression::lower_refused-returns-in-Super-clause-lowered g t c =
    refused_ok {names = seen c.args.names.now} c.refuse_as_undefined-in-Super.result _ _ c.in-Super.ensures forms.Super
    c.refuse_as_undefined-in-Super.ensures.state c.refuse_as_undefined-in-Super.ensures.place

pub expression::lower_refused-returns-in-This-clause-lowered : goal.expression::lower_refused-returns-in-This-clause-lowered
expression::lower_refused-returns-in-This-clause-lowered g t c =
    refused_ok {names = seen c.args.names.now} c.refuse_as_undefined-in-This.result _ _ c.in-This.ensures forms.This
    c.refuse_as_undefined-in-This.ensures.state c.refuse_as_undefined-in-This.ensures.place

pub expression::lower_refused-returns-in-Yield-clause-lowered : goal.expression::lower_refused-returns-in-Yield-clause-lowered
expression::lower_refused-returns-in-Yield-clause-lowered g t c =
    refused_ok {names = seen c.args.names.now} c.refuse_as_undefined-in-Yield.result _ _ c.in-Yield.ensures forms.Yield
    c.refuse_as_undefined-in-Yield.ensures.state c.refuse_as_undefined-in-Yield.ensures.place

pub expression::lower_refused-returns-in_ok-lower_expression-in-PrivateIn-clause-lowered
    : goal.expression::lower_refused-returns-in_ok-lower_expression-in-PrivateIn-clause-lowered
expression::lower_refused-returns-in_ok-lower_expression-in-PrivateIn-clause-lowered g t c =
    refused_before_ok _ c.lower_undefined.result _ c.in-PrivateIn.ensures forms.PrivateIn c.in_ok-refuse-in-PrivateIn.ensures.state
    (next c.in_ok-lower_expression-in-PrivateIn.ensures.lowered nothing) c.lower_undefined.ensures.state c.lower_undefined.ensures.place

pub expression::lower_sequence-returns-clause-lowered : goal.expression::lower_sequence-returns-clause-lowered
expression::lower_sequence-returns-clause-lowered g t c =
    sequence_ok (sequence_of c.in_ok-frame.frame) _ _ c.in_ok-frame.ensures.frame c.in_ok-frame.ensures.state
    c.in_ok-value.ensures.lowered c.in_ok-finish.ensures.state c.in_ok-finish.ensures.place

pub expression::lower_sequence-lower_last-requires : goal.expression::lower_sequence-lower_last-requires
expression::lower_sequence-lower_last-requires g t c =
    let expressions : ℕ = nodes_of (pieces_of (map syntax c.args.expressions.trees.now)) in
    let s : State = state_of g.U.ReadsUnit.tables c.args.builder.now in
    let b : State = state_of g.U.ReadsUnit.tables c.begin.new.b in
    let named = sequence_begun_named s b c.args.at.span c.in_ok-frame.ensures.state c.requires.names in
    let free = sequence_some (pieces_of (map syntax c.args.expressions.trees.now)) c.requires.may.0 in
    let roomy = sequence_begun_room s b c.args.at.span (share expressions) (share (expressions + 0 + 1)) c.in_ok-frame.ensures.state
    (omega arith) c.requires.room in
    λ lifetimes outlives. (search rules, (search rules, (named, (free, (c.requires.may.1.0, roomy)))))
