mod Access
mod Assignment
mod Chain
mod Expression
mod Operator
mod Parts
mod Target
use Rattle.rl_lower_expressions.proofs.+expressions.Answers.Access as access_answers
use Rattle.rl_lower_expressions.proofs.+expressions.Answers.Assignment as assignment_answers
use Rattle.rl_lower_expressions.proofs.+expressions.Answers.Chain as chain_answers
use Rattle.rl_lower_expressions.proofs.+expressions.Answers.Expression as expression_answers
use Rattle.rl_lower_expressions.proofs.+expressions.Answers.Operator as operator_answers
use Rattle.rl_lower_expressions.proofs.+expressions.Answers.Parts as parts_answers
use Rattle.rl_lower_expressions.proofs.+expressions.Answers.Target as target_answers
use Rattle.rl_lower_expressions.proofs.+expressions.Goals as goal

pub access::lower_call-returns-then-not-is_property-clause-lowered : goal.access::lower_call-returns-then-not-is_property-clause-lowered
access::lower_call-returns-then-not-is_property-clause-lowered = access_answers.access::lower_call-returns-then-not-is_property-clause-lowered

pub access::lower_computed-returns-clause-lowered : goal.access::lower_computed-returns-clause-lowered
access::lower_computed-returns-clause-lowered = access_answers.access::lower_computed-returns-clause-lowered

pub access::lower_key-returns-in-Some-clause-lowered : goal.access::lower_key-returns-in-Some-clause-lowered
access::lower_key-returns-in-Some-clause-lowered = access_answers.access::lower_key-returns-in-Some-clause-lowered

pub access::lower_key-returns-in_ok-place-in-None-clause-lowered : goal.access::lower_key-returns-in_ok-place-in-None-clause-lowered
access::lower_key-returns-in_ok-place-in-None-clause-lowered = access_answers.access::lower_key-returns-in_ok-place-in-None-clause-lowered

pub access::lower_method-lower_value_to_temporary-requires-2 : goal.access::lower_method-lower_value_to_temporary-requires-2
access::lower_method-lower_value_to_temporary-requires-2 = access_answers.access::lower_method-lower_value_to_temporary-requires-2

pub access::lower_method-returns-clause-lowered : goal.access::lower_method-returns-clause-lowered
access::lower_method-returns-clause-lowered = access_answers.access::lower_method-returns-clause-lowered

pub access::lower_method-lower_arguments-requires : goal.access::lower_method-lower_arguments-requires
access::lower_method-lower_arguments-requires = access_answers.access::lower_method-lower_arguments-requires

pub access::lower_static-returns-clause-lowered : goal.access::lower_static-returns-clause-lowered
access::lower_static-returns-clause-lowered = access_answers.access::lower_static-returns-clause-lowered

pub access::lower_tagged-returns-then-not-are_raw-clause-lowered : goal.access::lower_tagged-returns-then-not-are_raw-clause-lowered
access::lower_tagged-returns-then-not-are_raw-clause-lowered = access_answers.access::lower_tagged-returns-then-not-are_raw-clause-lowered

pub access::lower_tagged-returns-clause-lowered : goal.access::lower_tagged-returns-clause-lowered
access::lower_tagged-returns-clause-lowered = access_answers.access::lower_tagged-returns-clause-lowered

pub access::lower_tagged-lower_expression-requires : goal.access::lower_tagged-lower_expression-requires
access::lower_tagged-lower_expression-requires = access_answers.access::lower_tagged-lower_expression-requires

pub access::lower_tagged-lower_expressions-requires : goal.access::lower_tagged-lower_expressions-requires
access::lower_tagged-lower_expressions-requires = access_answers.access::lower_tagged-lower_expressions-requires

pub access::lower_template-returns-clause-lowered : goal.access::lower_template-returns-clause-lowered
access::lower_template-returns-clause-lowered = access_answers.access::lower_template-returns-clause-lowered

pub assignment::lower_assigned-returns-in-Identifier-clause-lowered : goal.assignment::lower_assigned-returns-in-Identifier-clause-lowered
assignment::lower_assigned-returns-in-Identifier-clause-lowered = assignment_answers.assignment::lower_assigned-returns-in-Identifier-clause-lowered

pub assignment::lower_assigned-returns-in_ok-member-in-Member-clause-lowered
    : goal.assignment::lower_assigned-returns-in_ok-member-in-Member-clause-lowered
assignment::lower_assigned-returns-in_ok-member-in-Member-clause-lowered = assignment_answers.assignment::lower_assigned-returns-in_ok-member-in-Member-clause-lowered

pub assignment::lower_assigned-returns-in_ok-member-in-Index-clause-lowered
    : goal.assignment::lower_assigned-returns-in_ok-member-in-Index-clause-lowered
assignment::lower_assigned-returns-in_ok-member-in-Index-clause-lowered = assignment_answers.assignment::lower_assigned-returns-in_ok-member-in-Index-clause-lowered

pub assignment::lower_assigned-returns-in_ok-lower_expression-in-PrivateMember-clause-lowered
    : goal.assignment::lower_assigned-returns-in_ok-lower_expression-in-PrivateMember-clause-lowered
assignment::lower_assigned-returns-in_ok-lower_expression-in-PrivateMember-clause-lowered = assignment_answers.assignment::lower_assigned-returns-in_ok-lower_expression-in-PrivateMember-clause-lowered

pub assignment::lower_assigned-returns-in-Array-clause-lowered : goal.assignment::lower_assigned-returns-in-Array-clause-lowered
assignment::lower_assigned-returns-in-Array-clause-lowered = assignment_answers.assignment::lower_assigned-returns-in-Array-clause-lowered

pub assignment::lower_assigned-returns-in-Object-clause-lowered : goal.assignment::lower_assigned-returns-in-Object-clause-lowered
assignment::lower_assigned-returns-in-Object-clause-lowered = assignment_answers.assignment::lower_assigned-returns-in-Object-clause-lowered

pub assignment::lower_assigned-assign_name-requires : goal.assignment::lower_assigned-assign_name-requires
assignment::lower_assigned-assign_name-requires = assignment_answers.assignment::lower_assigned-assign_name-requires

pub assignment::lower_assigned-lower_static-requires : goal.assignment::lower_assigned-lower_static-requires
assignment::lower_assigned-lower_static-requires = assignment_answers.assignment::lower_assigned-lower_static-requires

pub assignment::lower_assigned-lower_computed-requires : goal.assignment::lower_assigned-lower_computed-requires
assignment::lower_assigned-lower_computed-requires = assignment_answers.assignment::lower_assigned-lower_computed-requires

pub assignment::lower_assigned-lower_expression-requires-in-PrivateMember
    : goal.assignment::lower_assigned-lower_expression-requires-in-PrivateMember
assignment::lower_assigned-lower_expression-requires-in-PrivateMember = assignment_answers.assignment::lower_assigned-lower_expression-requires-in-PrivateMember

pub assignment::lower_assigned-lower_target-requires : goal.assignment::lower_assigned-lower_target-requires
assignment::lower_assigned-lower_target-requires = assignment_answers.assignment::lower_assigned-lower_target-requires

pub assignment::lower_assigned-lower_target-requires-in-Object : goal.assignment::lower_assigned-lower_target-requires-in-Object
assignment::lower_assigned-lower_target-requires-in-Object = assignment_answers.assignment::lower_assigned-lower_target-requires-in-Object

pub assignment::lower_compound-compound_name-requires : goal.assignment::lower_compound-compound_name-requires
assignment::lower_compound-compound_name-requires = assignment_answers.assignment::lower_compound-compound_name-requires

pub assignment::lower_compound-lower_static-requires : goal.assignment::lower_compound-lower_static-requires
assignment::lower_compound-lower_static-requires = assignment_answers.assignment::lower_compound-lower_static-requires

pub assignment::lower_compound-update_member_by-requires : goal.assignment::lower_compound-update_member_by-requires
assignment::lower_compound-update_member_by-requires = assignment_answers.assignment::lower_compound-update_member_by-requires

pub assignment::lower_compound-lower_computed-requires : goal.assignment::lower_compound-lower_computed-requires
assignment::lower_compound-lower_computed-requires = assignment_answers.assignment::lower_compound-lower_computed-requires

pub assignment::lower_compound-update_member_by-requires-in-Index : goal.assignment::lower_compound-update_member_by-requires-in-Index
assignment::lower_compound-update_member_by-requires-in-Index = assignment_answers.assignment::lower_compound-update_member_by-requires-in-Index

pub assignment::lower_compound-compound_private-requires : goal.assignment::lower_compound-compound_private-requires
assignment::lower_compound-compound_private-requires = assignment_answers.assignment::lower_compound-compound_private-requires

pub assignment::lower_compound-returns-in-Array-clause-lowered : goal.assignment::lower_compound-returns-in-Array-clause-lowered
assignment::lower_compound-returns-in-Array-clause-lowered = assignment_answers.assignment::lower_compound-returns-in-Array-clause-lowered

pub assignment::lower_compound-returns-in-Object-clause-lowered : goal.assignment::lower_compound-returns-in-Object-clause-lowered
assignment::lower_compound-returns-in-Object-clause-lowered = assignment_answers.assignment::lower_compound-returns-in-Object-clause-lowered

pub assignment::lower_compound-returns-in-Identifier-clause-lowered : goal.assignment::lower_compound-returns-in-Identifier-clause-lowered
assignment::lower_compound-returns-in-Identifier-clause-lowered = assignment_answers.assignment::lower_compound-returns-in-Identifier-clause-lowered

pub assignment::compound_name-returns-clause-lowered : goal.assignment::compound_name-returns-clause-lowered
assignment::compound_name-returns-clause-lowered = assignment_answers.assignment::compound_name-returns-clause-lowered

pub assignment::lower_compound-returns-in_ok-member-in-Member-clause-lowered
    : goal.assignment::lower_compound-returns-in_ok-member-in-Member-clause-lowered
assignment::lower_compound-returns-in_ok-member-in-Member-clause-lowered = assignment_answers.assignment::lower_compound-returns-in_ok-member-in-Member-clause-lowered

pub assignment::lower_compound-returns-in_ok-member-in-Index-clause-lowered
    : goal.assignment::lower_compound-returns-in_ok-member-in-Index-clause-lowered
assignment::lower_compound-returns-in_ok-member-in-Index-clause-lowered = assignment_answers.assignment::lower_compound-returns-in_ok-member-in-Index-clause-lowered

pub assignment::lower_compound-returns-in-PrivateMember-clause-lowered
    : goal.assignment::lower_compound-returns-in-PrivateMember-clause-lowered
assignment::lower_compound-returns-in-PrivateMember-clause-lowered = assignment_answers.assignment::lower_compound-returns-in-PrivateMember-clause-lowered

pub assignment::compound_private-returns-clause-lowered : goal.assignment::compound_private-returns-clause-lowered
assignment::compound_private-returns-clause-lowered = assignment_answers.assignment::compound_private-returns-clause-lowered

pub assignment::compound_private-lower_expression-requires : goal.assignment::compound_private-lower_expression-requires
assignment::compound_private-lower_expression-requires = assignment_answers.assignment::compound_private-lower_expression-requires

pub assignment::compound_private-lower_undefined-requires : goal.assignment::compound_private-lower_undefined-requires
assignment::compound_private-lower_undefined-requires = assignment_answers.assignment::compound_private-lower_undefined-requires

pub assignment::lower_assignment-returns-in-Assign-clause-lowered : goal.assignment::lower_assignment-returns-in-Assign-clause-lowered
assignment::lower_assignment-returns-in-Assign-clause-lowered = assignment_answers.assignment::lower_assignment-returns-in-Assign-clause-lowered

pub assignment::lower_assignment-returns-in-Some-clause-lowered : goal.assignment::lower_assignment-returns-in-Some-clause-lowered
assignment::lower_assignment-returns-in-Some-clause-lowered = assignment_answers.assignment::lower_assignment-returns-in-Some-clause-lowered

pub assignment::lower_assignment-returns-in-None-clause-lowered : goal.assignment::lower_assignment-returns-in-None-clause-lowered
assignment::lower_assignment-returns-in-None-clause-lowered = assignment_answers.assignment::lower_assignment-returns-in-None-clause-lowered

pub assignment::lower_assignment-lower_assigned-requires : goal.assignment::lower_assignment-lower_assigned-requires
assignment::lower_assignment-lower_assigned-requires = assignment_answers.assignment::lower_assignment-lower_assigned-requires

pub assignment::lower_assignment-lower_compound-requires : goal.assignment::lower_assignment-lower_compound-requires
assignment::lower_assignment-lower_compound-requires = assignment_answers.assignment::lower_assignment-lower_compound-requires

pub assignment::update_member_by-lower_expression-requires : goal.assignment::update_member_by-lower_expression-requires
assignment::update_member_by-lower_expression-requires = assignment_answers.assignment::update_member_by-lower_expression-requires

pub assignment::update_member_by-lower_value_to_temporary-requires-2 : goal.assignment::update_member_by-lower_value_to_temporary-requires-2
assignment::update_member_by-lower_value_to_temporary-requires-2 = assignment_answers.assignment::update_member_by-lower_value_to_temporary-requires-2

pub assignment::update_member_by-store_member-requires : goal.assignment::update_member_by-store_member-requires
assignment::update_member_by-store_member-requires = assignment_answers.assignment::update_member_by-store_member-requires

pub assignment::update_member_by-returns-clause-lowered : goal.assignment::update_member_by-returns-clause-lowered
assignment::update_member_by-returns-clause-lowered = assignment_answers.assignment::update_member_by-returns-clause-lowered

pub chain::lower_called_link-returns-clause-lowered : goal.chain::lower_called_link-returns-clause-lowered
chain::lower_called_link-returns-clause-lowered = chain_answers.chain::lower_called_link-returns-clause-lowered

pub chain::lower_called_link-close_link-requires : goal.chain::lower_called_link-close_link-requires
chain::lower_called_link-close_link-requires = chain_answers.chain::lower_called_link-close_link-requires

pub chain::lower_computed_link-returns-clause-lowered : goal.chain::lower_computed_link-returns-clause-lowered
chain::lower_computed_link-returns-clause-lowered = chain_answers.chain::lower_computed_link-returns-clause-lowered

pub chain::lower_front-returns-then-lends-clause-lowered : goal.chain::lower_front-returns-then-lends-clause-lowered
chain::lower_front-returns-then-lends-clause-lowered = chain_answers.chain::lower_front-returns-then-lends-clause-lowered

pub chain::lower_front-returns-clause-lowered : goal.chain::lower_front-returns-clause-lowered
chain::lower_front-returns-clause-lowered = chain_answers.chain::lower_front-returns-clause-lowered

pub chain::lower_front-lower_lent-requires : goal.chain::lower_front-lower_lent-requires
chain::lower_front-lower_lent-requires = chain_answers.chain::lower_front-lower_lent-requires

pub chain::lower_front-lower_expression-requires : goal.chain::lower_front-lower_expression-requires
chain::lower_front-lower_expression-requires = chain_answers.chain::lower_front-lower_expression-requires

pub chain::lower_inner-returns-then-is_assertion-clause-lowered : goal.chain::lower_inner-returns-then-is_assertion-clause-lowered
chain::lower_inner-returns-then-is_assertion-clause-lowered = chain_answers.chain::lower_inner-returns-then-is_assertion-clause-lowered

pub chain::lower_inner-returns-clause-lowered : goal.chain::lower_inner-returns-clause-lowered
chain::lower_inner-returns-clause-lowered = chain_answers.chain::lower_inner-returns-clause-lowered

pub chain::lower_lent-returns-in_ok-member-in-Member-clause-lowered : goal.chain::lower_lent-returns-in_ok-member-in-Member-clause-lowered
chain::lower_lent-returns-in_ok-member-in-Member-clause-lowered = chain_answers.chain::lower_lent-returns-in_ok-member-in-Member-clause-lowered

pub chain::lower_lent-returns-in_ok-member-in-Index-clause-lowered : goal.chain::lower_lent-returns-in_ok-member-in-Index-clause-lowered
chain::lower_lent-returns-in_ok-member-in-Index-clause-lowered = chain_answers.chain::lower_lent-returns-in_ok-member-in-Index-clause-lowered

pub chain::lower_private_link-returns-clause-lowered : goal.chain::lower_private_link-returns-clause-lowered
chain::lower_private_link-returns-clause-lowered = chain_answers.chain::lower_private_link-returns-clause-lowered

pub chain::lower_private_link-close_link-requires : goal.chain::lower_private_link-close_link-requires
chain::lower_private_link-close_link-requires = chain_answers.chain::lower_private_link-close_link-requires

pub chain::lower_spine-returns-then-not-is_assertion-clause-lowered : goal.chain::lower_spine-returns-then-not-is_assertion-clause-lowered
chain::lower_spine-returns-then-not-is_assertion-clause-lowered = chain_answers.chain::lower_spine-returns-then-not-is_assertion-clause-lowered

pub chain::lower_spine-returns-clause-lowered : goal.chain::lower_spine-returns-clause-lowered
chain::lower_spine-returns-clause-lowered = chain_answers.chain::lower_spine-returns-clause-lowered

pub chain::lower_static_link-returns-clause-lowered : goal.chain::lower_static_link-returns-clause-lowered
chain::lower_static_link-returns-clause-lowered = chain_answers.chain::lower_static_link-returns-clause-lowered

pub chain::open_link-returns-clause-lowered : goal.chain::open_link-returns-clause-lowered
chain::open_link-returns-clause-lowered = chain_answers.chain::open_link-returns-clause-lowered

pub chain::open_link-lower_front-requires : goal.chain::open_link-lower_front-requires
chain::open_link-lower_front-requires = chain_answers.chain::open_link-lower_front-requires

pub expression::lower_access-returns-in_ok-arguments-in-New-clause-lowered
    : goal.expression::lower_access-returns-in_ok-arguments-in-New-clause-lowered
expression::lower_access-returns-in_ok-arguments-in-New-clause-lowered = expression_answers.expression::lower_access-returns-in_ok-arguments-in-New-clause-lowered

pub expression::lower_access-returns-in_ok-value-in-Member-clause-lowered
    : goal.expression::lower_access-returns-in_ok-value-in-Member-clause-lowered
expression::lower_access-returns-in_ok-value-in-Member-clause-lowered = expression_answers.expression::lower_access-returns-in_ok-value-in-Member-clause-lowered

pub expression::lower_access-returns-in_ok-value-in-Index-clause-lowered
    : goal.expression::lower_access-returns-in_ok-value-in-Index-clause-lowered
expression::lower_access-returns-in_ok-value-in-Index-clause-lowered = expression_answers.expression::lower_access-returns-in_ok-value-in-Index-clause-lowered

pub expression::lower_composite-returns-in_ok-items-in-Array-clause-lowered
    : goal.expression::lower_composite-returns-in_ok-items-in-Array-clause-lowered
expression::lower_composite-returns-in_ok-items-in-Array-clause-lowered = expression_answers.expression::lower_composite-returns-in_ok-items-in-Array-clause-lowered

pub expression::lower_composite-returns-in_ok-properties-in-Object-clause-lowered
    : goal.expression::lower_composite-returns-in_ok-properties-in-Object-clause-lowered
expression::lower_composite-returns-in_ok-properties-in-Object-clause-lowered = expression_answers.expression::lower_composite-returns-in_ok-properties-in-Object-clause-lowered

pub expression::lower_composite-returns-in_ok-literal-in-RegExp-clause-lowered
    : goal.expression::lower_composite-returns-in_ok-literal-in-RegExp-clause-lowered
expression::lower_composite-returns-in_ok-literal-in-RegExp-clause-lowered = expression_answers.expression::lower_composite-returns-in_ok-literal-in-RegExp-clause-lowered

pub expression::lower_composite-returns-in-ImportMeta-clause-lowered : goal.expression::lower_composite-returns-in-ImportMeta-clause-lowered
expression::lower_composite-returns-in-ImportMeta-clause-lowered = expression_answers.expression::lower_composite-returns-in-ImportMeta-clause-lowered

pub expression::lower_conditional-alternate-requires : goal.expression::lower_conditional-alternate-requires
expression::lower_conditional-alternate-requires = expression_answers.expression::lower_conditional-alternate-requires

pub expression::lower_conditional-returns-clause-lowered : goal.expression::lower_conditional-returns-clause-lowered
expression::lower_conditional-returns-clause-lowered = expression_answers.expression::lower_conditional-returns-clause-lowered

pub expression::lower_conditional-lower_expression-requires : goal.expression::lower_conditional-lower_expression-requires
expression::lower_conditional-lower_expression-requires = expression_answers.expression::lower_conditional-lower_expression-requires

pub expression::lower_conditional-lower_expression-requires-2 : goal.expression::lower_conditional-lower_expression-requires-2
expression::lower_conditional-lower_expression-requires-2 = expression_answers.expression::lower_conditional-lower_expression-requires-2

pub expression::lower_conditional-lower_expression-requires-3 : goal.expression::lower_conditional-lower_expression-requires-3
expression::lower_conditional-lower_expression-requires-3 = expression_answers.expression::lower_conditional-lower_expression-requires-3

pub expression::lower_expression-returns-in-Null-clause-lowered : goal.expression::lower_expression-returns-in-Null-clause-lowered
expression::lower_expression-returns-in-Null-clause-lowered = expression_answers.expression::lower_expression-returns-in-Null-clause-lowered

pub expression::lower_expression-returns-in-Boolean-clause-lowered : goal.expression::lower_expression-returns-in-Boolean-clause-lowered
expression::lower_expression-returns-in-Boolean-clause-lowered = expression_answers.expression::lower_expression-returns-in-Boolean-clause-lowered

pub expression::lower_expression-returns-in_ok-copy-in-String-clause-lowered
    : goal.expression::lower_expression-returns-in_ok-copy-in-String-clause-lowered
expression::lower_expression-returns-in_ok-copy-in-String-clause-lowered = expression_answers.expression::lower_expression-returns-in_ok-copy-in-String-clause-lowered

pub expression::lower_expression-returns-in-Parenthesized-clause-lowered
    : goal.expression::lower_expression-returns-in-Parenthesized-clause-lowered
expression::lower_expression-returns-in-Parenthesized-clause-lowered = expression_answers.expression::lower_expression-returns-in-Parenthesized-clause-lowered

pub expression::lower_expression-returns-in-NonNull-clause-lowered : goal.expression::lower_expression-returns-in-NonNull-clause-lowered
expression::lower_expression-returns-in-NonNull-clause-lowered = expression_answers.expression::lower_expression-returns-in-NonNull-clause-lowered

pub expression::lower_expression-returns-in-Instantiate-clause-lowered
    : goal.expression::lower_expression-returns-in-Instantiate-clause-lowered
expression::lower_expression-returns-in-Instantiate-clause-lowered = expression_answers.expression::lower_expression-returns-in-Instantiate-clause-lowered

pub expression::lower_import-returns-in_ok-lower_expression-in-Some-clause-lowered
    : goal.expression::lower_import-returns-in_ok-lower_expression-in-Some-clause-lowered
expression::lower_import-returns-in_ok-lower_expression-in-Some-clause-lowered = expression_answers.expression::lower_import-returns-in_ok-lower_expression-in-Some-clause-lowered

pub expression::lower_import-returns-in-None-clause-lowered : goal.expression::lower_import-returns-in-None-clause-lowered
expression::lower_import-returns-in-None-clause-lowered = expression_answers.expression::lower_import-returns-in-None-clause-lowered

pub expression::lower_import-lower_expression-requires-in-Some : goal.expression::lower_import-lower_expression-requires-in-Some
expression::lower_import-lower_expression-requires-in-Some = expression_answers.expression::lower_import-lower_expression-requires-in-Some

pub expression::lower_logical-right-requires : goal.expression::lower_logical-right-requires
expression::lower_logical-right-requires = expression_answers.expression::lower_logical-right-requires

pub expression::lower_logical-finish-requires : goal.expression::lower_logical-finish-requires
expression::lower_logical-finish-requires = expression_answers.expression::lower_logical-finish-requires

pub expression::lower_logical-returns-clause-lowered : goal.expression::lower_logical-returns-clause-lowered
expression::lower_logical-returns-clause-lowered = expression_answers.expression::lower_logical-returns-clause-lowered

pub expression::lower_logical-lower_expression-requires : goal.expression::lower_logical-lower_expression-requires
expression::lower_logical-lower_expression-requires = expression_answers.expression::lower_logical-lower_expression-requires

pub expression::lower_logical-lower_expression-requires-2 : goal.expression::lower_logical-lower_expression-requires-2
expression::lower_logical-lower_expression-requires-2 = expression_answers.expression::lower_logical-lower_expression-requires-2

pub expression::lower_operation-returns-in_ok-right-in-Binary-clause-lowered
    : goal.expression::lower_operation-returns-in_ok-right-in-Binary-clause-lowered
expression::lower_operation-returns-in_ok-right-in-Binary-clause-lowered = expression_answers.expression::lower_operation-returns-in_ok-right-in-Binary-clause-lowered

pub expression::lower_operation-returns-in_ok-value-in-Await-clause-lowered
    : goal.expression::lower_operation-returns-in_ok-value-in-Await-clause-lowered
expression::lower_operation-returns-in_ok-value-in-Await-clause-lowered = expression_answers.expression::lower_operation-returns-in_ok-value-in-Await-clause-lowered

pub expression::lower_operation-returns-in-Chain-clause-lowered : goal.expression::lower_operation-returns-in-Chain-clause-lowered
expression::lower_operation-returns-in-Chain-clause-lowered = expression_answers.expression::lower_operation-returns-in-Chain-clause-lowered

pub expression::lower_operation-lower_spine-requires : goal.expression::lower_operation-lower_spine-requires
expression::lower_operation-lower_spine-requires = expression_answers.expression::lower_operation-lower_spine-requires

pub expression::lower_operation-returns-in-As-clause-lowered : goal.expression::lower_operation-returns-in-As-clause-lowered
expression::lower_operation-returns-in-As-clause-lowered = expression_answers.expression::lower_operation-returns-in-As-clause-lowered

pub expression::lower_operation-returns-in-Satisfies-clause-lowered : goal.expression::lower_operation-returns-in-Satisfies-clause-lowered
expression::lower_operation-returns-in-Satisfies-clause-lowered = expression_answers.expression::lower_operation-returns-in-Satisfies-clause-lowered

pub expression::lower_operation-returns-in-Assert-clause-lowered : goal.expression::lower_operation-returns-in-Assert-clause-lowered
expression::lower_operation-returns-in-Assert-clause-lowered = expression_answers.expression::lower_operation-returns-in-Assert-clause-lowered

pub expression::lower_refused-returns-in-BigInt-clause-lowered : goal.expression::lower_refused-returns-in-BigInt-clause-lowered
expression::lower_refused-returns-in-BigInt-clause-lowered = expression_answers.expression::lower_refused-returns-in-BigInt-clause-lowered

pub expression::lower_refused-returns-in-NewTarget-clause-lowered : goal.expression::lower_refused-returns-in-NewTarget-clause-lowered
expression::lower_refused-returns-in-NewTarget-clause-lowered = expression_answers.expression::lower_refused-returns-in-NewTarget-clause-lowered

pub expression::lower_refused-returns-in-Super-clause-lowered : goal.expression::lower_refused-returns-in-Super-clause-lowered
expression::lower_refused-returns-in-Super-clause-lowered = expression_answers.expression::lower_refused-returns-in-Super-clause-lowered

pub expression::lower_refused-returns-in-This-clause-lowered : goal.expression::lower_refused-returns-in-This-clause-lowered
expression::lower_refused-returns-in-This-clause-lowered = expression_answers.expression::lower_refused-returns-in-This-clause-lowered

pub expression::lower_refused-returns-in-Yield-clause-lowered : goal.expression::lower_refused-returns-in-Yield-clause-lowered
expression::lower_refused-returns-in-Yield-clause-lowered = expression_answers.expression::lower_refused-returns-in-Yield-clause-lowered

pub expression::lower_refused-returns-in_ok-lower_expression-in-PrivateIn-clause-lowered
    : goal.expression::lower_refused-returns-in_ok-lower_expression-in-PrivateIn-clause-lowered
expression::lower_refused-returns-in_ok-lower_expression-in-PrivateIn-clause-lowered = expression_answers.expression::lower_refused-returns-in_ok-lower_expression-in-PrivateIn-clause-lowered

pub expression::lower_sequence-returns-clause-lowered : goal.expression::lower_sequence-returns-clause-lowered
expression::lower_sequence-returns-clause-lowered = expression_answers.expression::lower_sequence-returns-clause-lowered

pub expression::lower_sequence-lower_last-requires : goal.expression::lower_sequence-lower_last-requires
expression::lower_sequence-lower_last-requires = expression_answers.expression::lower_sequence-lower_last-requires

pub operator::lower_cast-returns-clause-lowered : goal.operator::lower_cast-returns-clause-lowered
operator::lower_cast-returns-clause-lowered = operator_answers.operator::lower_cast-returns-clause-lowered

pub operator::lower_delete-returns-then-not-is_link-clause-lowered : goal.operator::lower_delete-returns-then-not-is_link-clause-lowered
operator::lower_delete-returns-then-not-is_link-clause-lowered = operator_answers.operator::lower_delete-returns-then-not-is_link-clause-lowered

pub operator::lower_delete-returns-in_ok-value-in-Member-clause-lowered
    : goal.operator::lower_delete-returns-in_ok-value-in-Member-clause-lowered
operator::lower_delete-returns-in_ok-value-in-Member-clause-lowered = operator_answers.operator::lower_delete-returns-in_ok-value-in-Member-clause-lowered

pub operator::lower_delete-returns-in_ok-value-in-Index-clause-lowered
    : goal.operator::lower_delete-returns-in_ok-value-in-Index-clause-lowered
operator::lower_delete-returns-in_ok-value-in-Index-clause-lowered = operator_answers.operator::lower_delete-returns-in_ok-value-in-Index-clause-lowered

pub operator::lower_delete-returns-in-PrivateMember-clause-lowered : goal.operator::lower_delete-returns-in-PrivateMember-clause-lowered
operator::lower_delete-returns-in-PrivateMember-clause-lowered = operator_answers.operator::lower_delete-returns-in-PrivateMember-clause-lowered

pub operator::lower_delete-lower_static-requires : goal.operator::lower_delete-lower_static-requires
operator::lower_delete-lower_static-requires = operator_answers.operator::lower_delete-lower_static-requires

pub operator::lower_delete-lower_computed-requires : goal.operator::lower_delete-lower_computed-requires
operator::lower_delete-lower_computed-requires = operator_answers.operator::lower_delete-lower_computed-requires

pub operator::lower_delete-lower_private-requires : goal.operator::lower_delete-lower_private-requires
operator::lower_delete-lower_private-requires = operator_answers.operator::lower_delete-lower_private-requires

pub operator::lower_private-returns-clause-lowered : goal.operator::lower_private-returns-clause-lowered
operator::lower_private-returns-clause-lowered = operator_answers.operator::lower_private-returns-clause-lowered

pub operator::lower_unary-returns-clause-lowered : goal.operator::lower_unary-returns-clause-lowered
operator::lower_unary-returns-clause-lowered = operator_answers.operator::lower_unary-returns-clause-lowered

pub operator::lower_update-returns-in_ok-member-in-Member-clause-lowered
    : goal.operator::lower_update-returns-in_ok-member-in-Member-clause-lowered
operator::lower_update-returns-in_ok-member-in-Member-clause-lowered = operator_answers.operator::lower_update-returns-in_ok-member-in-Member-clause-lowered

pub operator::lower_update-returns-in_ok-member-in-Index-clause-lowered
    : goal.operator::lower_update-returns-in_ok-member-in-Index-clause-lowered
operator::lower_update-returns-in_ok-member-in-Index-clause-lowered = operator_answers.operator::lower_update-returns-in_ok-member-in-Index-clause-lowered

pub operator::lower_update-returns-in-PrivateMember-clause-lowered : goal.operator::lower_update-returns-in-PrivateMember-clause-lowered
operator::lower_update-returns-in-PrivateMember-clause-lowered = operator_answers.operator::lower_update-returns-in-PrivateMember-clause-lowered

pub operator::lower_update-unreachable-requires : goal.operator::lower_update-unreachable-requires
operator::lower_update-unreachable-requires = operator_answers.operator::lower_update-unreachable-requires

pub operator::lower_update-unreachable-requires-in-Object : goal.operator::lower_update-unreachable-requires-in-Object
operator::lower_update-unreachable-requires-in-Object = operator_answers.operator::lower_update-unreachable-requires-in-Object

pub operator::lower_update-returns-in-As-clause-lowered : goal.operator::lower_update-returns-in-As-clause-lowered
operator::lower_update-returns-in-As-clause-lowered = operator_answers.operator::lower_update-returns-in-As-clause-lowered

pub operator::lower_update-returns-in-Satisfies-clause-lowered : goal.operator::lower_update-returns-in-Satisfies-clause-lowered
operator::lower_update-returns-in-Satisfies-clause-lowered = operator_answers.operator::lower_update-returns-in-Satisfies-clause-lowered

pub operator::lower_update-returns-in-Assert-clause-lowered : goal.operator::lower_update-returns-in-Assert-clause-lowered
operator::lower_update-returns-in-Assert-clause-lowered = operator_answers.operator::lower_update-returns-in-Assert-clause-lowered

pub operator::lower_update-returns-in-NonNull-clause-lowered : goal.operator::lower_update-returns-in-NonNull-clause-lowered
operator::lower_update-returns-in-NonNull-clause-lowered = operator_answers.operator::lower_update-returns-in-NonNull-clause-lowered

pub parts::lower_argument-returns-in_ok-place-in-Expression-clause-lowered
    : goal.parts::lower_argument-returns-in_ok-place-in-Expression-clause-lowered
parts::lower_argument-returns-in_ok-place-in-Expression-clause-lowered = parts_answers.parts::lower_argument-returns-in_ok-place-in-Expression-clause-lowered

pub parts::lower_argument-returns-in_ok-place-in-Spread-clause-lowered
    : goal.parts::lower_argument-returns-in_ok-place-in-Spread-clause-lowered
parts::lower_argument-returns-in_ok-place-in-Spread-clause-lowered = parts_answers.parts::lower_argument-returns-in_ok-place-in-Spread-clause-lowered

pub parts::lower_arguments-arguments-preserved : goal.parts::lower_arguments-arguments-preserved
parts::lower_arguments-arguments-preserved = parts_answers.parts::lower_arguments-arguments-preserved

pub parts::lower_arguments-returns-clause-lowered : goal.parts::lower_arguments-returns-clause-lowered
parts::lower_arguments-returns-clause-lowered = parts_answers.parts::lower_arguments-returns-clause-lowered

pub parts::lower_element-returns-in_ok-place-in-Expression-clause-lowered
    : goal.parts::lower_element-returns-in_ok-place-in-Expression-clause-lowered
parts::lower_element-returns-in_ok-place-in-Expression-clause-lowered = parts_answers.parts::lower_element-returns-in_ok-place-in-Expression-clause-lowered

pub parts::lower_element-returns-in_ok-place-in-Spread-clause-lowered
    : goal.parts::lower_element-returns-in_ok-place-in-Spread-clause-lowered
parts::lower_element-returns-in_ok-place-in-Spread-clause-lowered = parts_answers.parts::lower_element-returns-in_ok-place-in-Spread-clause-lowered

pub parts::lower_element-returns-in-Hole-clause-lowered : goal.parts::lower_element-returns-in-Hole-clause-lowered
parts::lower_element-returns-in-Hole-clause-lowered = parts_answers.parts::lower_element-returns-in-Hole-clause-lowered

pub parts::lower_elements-elements-preserved : goal.parts::lower_elements-elements-preserved
parts::lower_elements-elements-preserved = parts_answers.parts::lower_elements-elements-preserved

pub parts::lower_elements-returns-clause-lowered : goal.parts::lower_elements-returns-clause-lowered
parts::lower_elements-returns-clause-lowered = parts_answers.parts::lower_elements-returns-clause-lowered

pub parts::lower_expressions-expressions-preserved : goal.parts::lower_expressions-expressions-preserved
parts::lower_expressions-expressions-preserved = parts_answers.parts::lower_expressions-expressions-preserved

pub parts::lower_expressions-returns-clause-lowered : goal.parts::lower_expressions-returns-clause-lowered
parts::lower_expressions-returns-clause-lowered = parts_answers.parts::lower_expressions-returns-clause-lowered

pub parts::lower_keyed-returns-in_ok-place-in-Fixed-clause-lowered : goal.parts::lower_keyed-returns-in_ok-place-in-Fixed-clause-lowered
parts::lower_keyed-returns-in_ok-place-in-Fixed-clause-lowered = parts_answers.parts::lower_keyed-returns-in_ok-place-in-Fixed-clause-lowered

pub parts::lower_keyed-returns-in_ok-place-in-Computed-clause-lowered
    : goal.parts::lower_keyed-returns-in_ok-place-in-Computed-clause-lowered
parts::lower_keyed-returns-in_ok-place-in-Computed-clause-lowered = parts_answers.parts::lower_keyed-returns-in_ok-place-in-Computed-clause-lowered

pub parts::lower_keyed-returns-in_ok-lower_expression-in-Fraction-clause-lowered
    : goal.parts::lower_keyed-returns-in_ok-lower_expression-in-Fraction-clause-lowered
parts::lower_keyed-returns-in_ok-lower_expression-in-Fraction-clause-lowered = parts_answers.parts::lower_keyed-returns-in_ok-lower_expression-in-Fraction-clause-lowered

pub parts::lower_last-expressions-preserved : goal.parts::lower_last-expressions-preserved
parts::lower_last-expressions-preserved = parts_answers.parts::lower_last-expressions-preserved

pub parts::lower_last-returns-clause-lowered : goal.parts::lower_last-returns-clause-lowered
parts::lower_last-returns-clause-lowered = parts_answers.parts::lower_last-returns-clause-lowered

pub parts::lower_properties-properties-preserved : goal.parts::lower_properties-properties-preserved
parts::lower_properties-properties-preserved = parts_answers.parts::lower_properties-properties-preserved

pub parts::lower_properties-returns-clause-lowered : goal.parts::lower_properties-returns-clause-lowered
parts::lower_properties-returns-clause-lowered = parts_answers.parts::lower_properties-returns-clause-lowered

pub parts::lower_property-returns-then-not-is_known_key-clause-lowered
    : goal.parts::lower_property-returns-then-not-is_known_key-clause-lowered
parts::lower_property-returns-then-not-is_known_key-clause-lowered = parts_answers.parts::lower_property-returns-then-not-is_known_key-clause-lowered

pub parts::lower_property-returns-in_ok-place-in-Spread-clause-lowered
    : goal.parts::lower_property-returns-in_ok-place-in-Spread-clause-lowered
parts::lower_property-returns-in_ok-place-in-Spread-clause-lowered = parts_answers.parts::lower_property-returns-in_ok-place-in-Spread-clause-lowered

pub target::lower_default-returns-clause-defaulted : goal.target::lower_default-returns-clause-defaulted
target::lower_default-returns-clause-defaulted = target_answers.target::lower_default-returns-clause-defaulted

pub target::lower_default-lower_expression-requires : goal.target::lower_default-lower_expression-requires
target::lower_default-lower_expression-requires = target_answers.target::lower_default-lower_expression-requires

pub target::lower_default-finish-requires : goal.target::lower_default-finish-requires
target::lower_default-finish-requires = target_answers.target::lower_default-finish-requires

pub target::lower_array_target-returns-clause-lowered : goal.target::lower_array_target-returns-clause-lowered
target::lower_array_target-returns-clause-lowered = target_answers.target::lower_array_target-returns-clause-lowered

pub target::lower_array_target-look_at_elements-requires : goal.target::lower_array_target-look_at_elements-requires
target::lower_array_target-look_at_elements-requires = target_answers.target::lower_array_target-look_at_elements-requires

pub target::lower_array_target-take_elements-requires : goal.target::lower_array_target-take_elements-requires
target::lower_array_target-take_elements-requires = target_answers.target::lower_array_target-take_elements-requires

pub target::lower_array_target-take_apart-requires : goal.target::lower_array_target-take_apart-requires
target::lower_array_target-take_apart-requires = target_answers.target::lower_array_target-take_apart-requires

pub target::lower_array_target-lower_left-requires : goal.target::lower_array_target-lower_left-requires
target::lower_array_target-lower_left-requires = target_answers.target::lower_array_target-lower_left-requires

pub target::lower_object_target-returns-clause-lowered : goal.target::lower_object_target-returns-clause-lowered
target::lower_object_target-returns-clause-lowered = target_answers.target::lower_object_target-returns-clause-lowered

pub target::lower_object_target-look_at_properties-requires : goal.target::lower_object_target-look_at_properties-requires
target::lower_object_target-look_at_properties-requires = target_answers.target::lower_object_target-look_at_properties-requires

pub target::lower_object_target-take_properties-requires : goal.target::lower_object_target-take_properties-requires
target::lower_object_target-take_properties-requires = target_answers.target::lower_object_target-take_properties-requires

pub target::lower_object_target-take_apart-requires : goal.target::lower_object_target-take_apart-requires
target::lower_object_target-take_apart-requires = target_answers.target::lower_object_target-take_apart-requires

pub target::lower_object_target-lower_left-requires : goal.target::lower_object_target-lower_left-requires
target::lower_object_target-lower_left-requires = target_answers.target::lower_object_target-lower_left-requires

pub target::lower_target-returns-in-Identifier-clause-lowered : goal.target::lower_target-returns-in-Identifier-clause-lowered
target::lower_target-returns-in-Identifier-clause-lowered = target_answers.target::lower_target-returns-in-Identifier-clause-lowered

pub target::lower_target-returns-in_ok-member-in-Member-clause-lowered
    : goal.target::lower_target-returns-in_ok-member-in-Member-clause-lowered
target::lower_target-returns-in_ok-member-in-Member-clause-lowered = target_answers.target::lower_target-returns-in_ok-member-in-Member-clause-lowered

pub target::lower_target-lower_static-requires : goal.target::lower_target-lower_static-requires
target::lower_target-lower_static-requires = target_answers.target::lower_target-lower_static-requires

pub target::lower_target-returns-in_ok-member-in-Index-clause-lowered
    : goal.target::lower_target-returns-in_ok-member-in-Index-clause-lowered
target::lower_target-returns-in_ok-member-in-Index-clause-lowered = target_answers.target::lower_target-returns-in_ok-member-in-Index-clause-lowered

pub target::lower_target-lower_computed-requires : goal.target::lower_target-lower_computed-requires
target::lower_target-lower_computed-requires = target_answers.target::lower_target-lower_computed-requires

pub target::lower_target-returns-in-PrivateMember-clause-lowered : goal.target::lower_target-returns-in-PrivateMember-clause-lowered
target::lower_target-returns-in-PrivateMember-clause-lowered = target_answers.target::lower_target-returns-in-PrivateMember-clause-lowered

pub target::lower_target-returns-in-Array-clause-lowered : goal.target::lower_target-returns-in-Array-clause-lowered
target::lower_target-returns-in-Array-clause-lowered = target_answers.target::lower_target-returns-in-Array-clause-lowered

pub target::lower_target-lower_array_target-requires : goal.target::lower_target-lower_array_target-requires
target::lower_target-lower_array_target-requires = target_answers.target::lower_target-lower_array_target-requires

pub target::lower_target-returns-in-Object-clause-lowered : goal.target::lower_target-returns-in-Object-clause-lowered
target::lower_target-returns-in-Object-clause-lowered = target_answers.target::lower_target-returns-in-Object-clause-lowered

pub target::lower_target-lower_object_target-requires : goal.target::lower_target-lower_object_target-requires
target::lower_target-lower_object_target-requires = target_answers.target::lower_target-lower_object_target-requires

pub target::lower_target-returns-in-As-clause-lowered : goal.target::lower_target-returns-in-As-clause-lowered
target::lower_target-returns-in-As-clause-lowered = target_answers.target::lower_target-returns-in-As-clause-lowered

pub target::lower_target-returns-in-Satisfies-clause-lowered : goal.target::lower_target-returns-in-Satisfies-clause-lowered
target::lower_target-returns-in-Satisfies-clause-lowered = target_answers.target::lower_target-returns-in-Satisfies-clause-lowered

pub target::lower_target-returns-in-Assert-clause-lowered : goal.target::lower_target-returns-in-Assert-clause-lowered
target::lower_target-returns-in-Assert-clause-lowered = target_answers.target::lower_target-returns-in-Assert-clause-lowered

pub target::lower_target-returns-in-NonNull-clause-lowered : goal.target::lower_target-returns-in-NonNull-clause-lowered
target::lower_target-returns-in-NonNull-clause-lowered = target_answers.target::lower_target-returns-in-NonNull-clause-lowered

pub target::lower_maybe_default-returns-in-Target-clause-lowered : goal.target::lower_maybe_default-returns-in-Target-clause-lowered
target::lower_maybe_default-returns-in-Target-clause-lowered = target_answers.target::lower_maybe_default-returns-in-Target-clause-lowered

pub target::lower_maybe_default-lower_target-requires : goal.target::lower_maybe_default-lower_target-requires
target::lower_maybe_default-lower_target-requires = target_answers.target::lower_maybe_default-lower_target-requires

pub target::lower_maybe_default-returns-in_ok-value-in-Default-clause-lowered
    : goal.target::lower_maybe_default-returns-in_ok-value-in-Default-clause-lowered
target::lower_maybe_default-returns-in_ok-value-in-Default-clause-lowered = target_answers.target::lower_maybe_default-returns-in_ok-value-in-Default-clause-lowered

pub target::lower_maybe_default-lower_default-requires : goal.target::lower_maybe_default-lower_default-requires
target::lower_maybe_default-lower_default-requires = target_answers.target::lower_maybe_default-lower_default-requires

pub target::lower_maybe_default-lower_target-requires-in-Default : goal.target::lower_maybe_default-lower_target-requires-in-Default
target::lower_maybe_default-lower_target-requires-in-Default = target_answers.target::lower_maybe_default-lower_target-requires-in-Default

pub target::lower_left_part-returns-in-MaybeDefault-clause-lowered : goal.target::lower_left_part-returns-in-MaybeDefault-clause-lowered
target::lower_left_part-returns-in-MaybeDefault-clause-lowered = target_answers.target::lower_left_part-returns-in-MaybeDefault-clause-lowered

pub target::lower_left_part-lower_maybe_default-requires : goal.target::lower_left_part-lower_maybe_default-requires
target::lower_left_part-lower_maybe_default-requires = target_answers.target::lower_left_part-lower_maybe_default-requires

pub target::lower_left_part-returns-in-Target-clause-lowered : goal.target::lower_left_part-returns-in-Target-clause-lowered
target::lower_left_part-returns-in-Target-clause-lowered = target_answers.target::lower_left_part-returns-in-Target-clause-lowered

pub target::lower_left_part-lower_target-requires : goal.target::lower_left_part-lower_target-requires
target::lower_left_part-lower_target-requires = target_answers.target::lower_left_part-lower_target-requires

pub target::lower_left_part-returns-in-Name-clause-lowered : goal.target::lower_left_part-returns-in-Name-clause-lowered
target::lower_left_part-returns-in-Name-clause-lowered = target_answers.target::lower_left_part-returns-in-Name-clause-lowered

pub target::lower_left_part-store_name-requires : goal.target::lower_left_part-store_name-requires
target::lower_left_part-store_name-requires = target_answers.target::lower_left_part-store_name-requires

pub target::lower_left_part-returns-in_ok-value-in-Short-clause-lowered
    : goal.target::lower_left_part-returns-in_ok-value-in-Short-clause-lowered
target::lower_left_part-returns-in_ok-value-in-Short-clause-lowered = target_answers.target::lower_left_part-returns-in_ok-value-in-Short-clause-lowered

pub target::lower_left_part-lower_default-requires : goal.target::lower_left_part-lower_default-requires
target::lower_left_part-lower_default-requires = target_answers.target::lower_left_part-lower_default-requires

pub target::lower_left_part-store_name-requires-in-Short : goal.target::lower_left_part-store_name-requires-in-Short
target::lower_left_part-store_name-requires-in-Short = target_answers.target::lower_left_part-store_name-requires-in-Short

pub target::lower_left-returns-clause-lowered : goal.target::lower_left-returns-clause-lowered
target::lower_left-returns-clause-lowered = target_answers.target::lower_left-returns-clause-lowered

pub target::lower_left-parts-preserved : goal.target::lower_left-parts-preserved
target::lower_left-parts-preserved = target_answers.target::lower_left-parts-preserved

pub target::lower_left-lower_left_part-requires : goal.target::lower_left-lower_left_part-requires
target::lower_left-lower_left_part-requires = target_answers.target::lower_left-lower_left_part-requires
