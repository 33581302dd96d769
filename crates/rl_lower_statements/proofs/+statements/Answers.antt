mod ForIn
mod ForLoop
mod ForOf
mod Loops
mod Statement
mod Switch
mod TryStatement
use Rattle.rl_lower_statements.proofs.+statements.Answers.ForIn as for_in_answers
use Rattle.rl_lower_statements.proofs.+statements.Answers.ForLoop as for_loop_answers
use Rattle.rl_lower_statements.proofs.+statements.Answers.ForOf as for_of_answers
use Rattle.rl_lower_statements.proofs.+statements.Answers.Loops as loops_answers
use Rattle.rl_lower_statements.proofs.+statements.Answers.Statement as statement_answers
use Rattle.rl_lower_statements.proofs.+statements.Answers.Switch as switch_answers
use Rattle.rl_lower_statements.proofs.+statements.Answers.TryStatement as try_statement_answers
use Rattle.rl_lower_statements.proofs.+statements.Goals as goal

pub loops::lower_for_in-lower_statement-requires : goal.loops::lower_for_in-lower_statement-requires
loops::lower_for_in-lower_statement-requires = for_in_answers.loops::lower_for_in-lower_statement-requires

pub loops::lower_for_in-body-requires-clause-open : goal.loops::lower_for_in-body-requires-clause-open
loops::lower_for_in-body-requires-clause-open = for_in_answers.loops::lower_for_in-body-requires-clause-open

pub loops::lower_for_in-body-requires-clause-scope : goal.loops::lower_for_in-body-requires-clause-scope
loops::lower_for_in-body-requires-clause-scope = for_in_answers.loops::lower_for_in-body-requires-clause-scope

pub loops::lower_for_in-lower_expression-requires-clause-names : goal.loops::lower_for_in-lower_expression-requires-clause-names
loops::lower_for_in-lower_expression-requires-clause-names = for_in_answers.loops::lower_for_in-lower_expression-requires-clause-names

pub loops::lower_for_in-lower_expression-requires-clause-room : goal.loops::lower_for_in-lower_expression-requires-clause-room
loops::lower_for_in-lower_expression-requires-clause-room = for_in_answers.loops::lower_for_in-lower_expression-requires-clause-room

pub loops::lower_for_in-right-requires-clause-open : goal.loops::lower_for_in-right-requires-clause-open
loops::lower_for_in-right-requires-clause-open = for_in_answers.loops::lower_for_in-right-requires-clause-open

pub loops::lower_for_in-right-requires-clause-room : goal.loops::lower_for_in-right-requires-clause-room
loops::lower_for_in-right-requires-clause-room = for_in_answers.loops::lower_for_in-right-requires-clause-room

pub loops::lower_for_in-lower_loop_head-requires-clause-names : goal.loops::lower_for_in-lower_loop_head-requires-clause-names
loops::lower_for_in-lower_loop_head-requires-clause-names = for_in_answers.loops::lower_for_in-lower_loop_head-requires-clause-names

pub loops::lower_for_in-lower_loop_head-requires-clause-room : goal.loops::lower_for_in-lower_loop_head-requires-clause-room
loops::lower_for_in-lower_loop_head-requires-clause-room = for_in_answers.loops::lower_for_in-lower_loop_head-requires-clause-room

pub loops::lower_for_in-returns-clause-lowered : goal.loops::lower_for_in-returns-clause-lowered
loops::lower_for_in-returns-clause-lowered = for_in_answers.loops::lower_for_in-returns-clause-lowered

pub loops::lower_for_updated-lower_init-requires-clause-names : goal.loops::lower_for_updated-lower_init-requires-clause-names
loops::lower_for_updated-lower_init-requires-clause-names = for_loop_answers.loops::lower_for_updated-lower_init-requires-clause-names

pub loops::lower_for_updated-lower_init-requires-clause-room : goal.loops::lower_for_updated-lower_init-requires-clause-room
loops::lower_for_updated-lower_init-requires-clause-room = for_loop_answers.loops::lower_for_updated-lower_init-requires-clause-room

pub loops::lower_for_updated-init-requires : goal.loops::lower_for_updated-init-requires
loops::lower_for_updated-init-requires = for_loop_answers.loops::lower_for_updated-init-requires

pub loops::lower_for_updated-lower_expression-requires-clause-names : goal.loops::lower_for_updated-lower_expression-requires-clause-names
loops::lower_for_updated-lower_expression-requires-clause-names = for_loop_answers.loops::lower_for_updated-lower_expression-requires-clause-names

pub loops::lower_for_updated-lower_expression-requires-clause-room : goal.loops::lower_for_updated-lower_expression-requires-clause-room
loops::lower_for_updated-lower_expression-requires-clause-room = for_loop_answers.loops::lower_for_updated-lower_expression-requires-clause-room

pub loops::lower_for_updated-update-requires : goal.loops::lower_for_updated-update-requires
loops::lower_for_updated-update-requires = for_loop_answers.loops::lower_for_updated-update-requires

pub loops::lower_for_updated-lower_statement-requires : goal.loops::lower_for_updated-lower_statement-requires
loops::lower_for_updated-lower_statement-requires = for_loop_answers.loops::lower_for_updated-lower_statement-requires

pub loops::lower_for_updated-body-requires-clause-scope : goal.loops::lower_for_updated-body-requires-clause-scope
loops::lower_for_updated-body-requires-clause-scope = for_loop_answers.loops::lower_for_updated-body-requires-clause-scope

pub loops::lower_for_updated-lower_test-requires-clause-names : goal.loops::lower_for_updated-lower_test-requires-clause-names
loops::lower_for_updated-lower_test-requires-clause-names = for_loop_answers.loops::lower_for_updated-lower_test-requires-clause-names

pub loops::lower_for_updated-lower_test-requires-clause-room : goal.loops::lower_for_updated-lower_test-requires-clause-room
loops::lower_for_updated-lower_test-requires-clause-room = for_loop_answers.loops::lower_for_updated-lower_test-requires-clause-room

pub loops::lower_for_updated-returns-clause-lowered : goal.loops::lower_for_updated-returns-clause-lowered
loops::lower_for_updated-returns-clause-lowered = for_loop_answers.loops::lower_for_updated-returns-clause-lowered

pub loops::lower_for_plain-lower_init-requires-clause-names : goal.loops::lower_for_plain-lower_init-requires-clause-names
loops::lower_for_plain-lower_init-requires-clause-names = for_loop_answers.loops::lower_for_plain-lower_init-requires-clause-names

pub loops::lower_for_plain-lower_init-requires-clause-room : goal.loops::lower_for_plain-lower_init-requires-clause-room
loops::lower_for_plain-lower_init-requires-clause-room = for_loop_answers.loops::lower_for_plain-lower_init-requires-clause-room

pub loops::lower_for_plain-init-requires : goal.loops::lower_for_plain-init-requires
loops::lower_for_plain-init-requires = for_loop_answers.loops::lower_for_plain-init-requires

pub loops::lower_for_plain-lower_statement-requires : goal.loops::lower_for_plain-lower_statement-requires
loops::lower_for_plain-lower_statement-requires = for_loop_answers.loops::lower_for_plain-lower_statement-requires

pub loops::lower_for_plain-body-requires-clause-scope : goal.loops::lower_for_plain-body-requires-clause-scope
loops::lower_for_plain-body-requires-clause-scope = for_loop_answers.loops::lower_for_plain-body-requires-clause-scope

pub loops::lower_for_plain-lower_test-requires-clause-names : goal.loops::lower_for_plain-lower_test-requires-clause-names
loops::lower_for_plain-lower_test-requires-clause-names = for_loop_answers.loops::lower_for_plain-lower_test-requires-clause-names

pub loops::lower_for_plain-lower_test-requires-clause-room : goal.loops::lower_for_plain-lower_test-requires-clause-room
loops::lower_for_plain-lower_test-requires-clause-room = for_loop_answers.loops::lower_for_plain-lower_test-requires-clause-room

pub loops::lower_for_plain-returns-clause-lowered : goal.loops::lower_for_plain-returns-clause-lowered
loops::lower_for_plain-returns-clause-lowered = for_loop_answers.loops::lower_for_plain-returns-clause-lowered

pub loops::lower_for_of_plain-lower_statement-requires : goal.loops::lower_for_of_plain-lower_statement-requires
loops::lower_for_of_plain-lower_statement-requires = for_of_answers.loops::lower_for_of_plain-lower_statement-requires

pub loops::lower_for_of_plain-body-requires-clause-open : goal.loops::lower_for_of_plain-body-requires-clause-open
loops::lower_for_of_plain-body-requires-clause-open = for_of_answers.loops::lower_for_of_plain-body-requires-clause-open

pub loops::lower_for_of_plain-body-requires-clause-scope : goal.loops::lower_for_of_plain-body-requires-clause-scope
loops::lower_for_of_plain-body-requires-clause-scope = for_of_answers.loops::lower_for_of_plain-body-requires-clause-scope

pub loops::lower_for_of_plain-lower_expression-requires-clause-names : goal.loops::lower_for_of_plain-lower_expression-requires-clause-names
loops::lower_for_of_plain-lower_expression-requires-clause-names = for_of_answers.loops::lower_for_of_plain-lower_expression-requires-clause-names

pub loops::lower_for_of_plain-lower_expression-requires-clause-room : goal.loops::lower_for_of_plain-lower_expression-requires-clause-room
loops::lower_for_of_plain-lower_expression-requires-clause-room = for_of_answers.loops::lower_for_of_plain-lower_expression-requires-clause-room

pub loops::lower_for_of_plain-right-requires-clause-open : goal.loops::lower_for_of_plain-right-requires-clause-open
loops::lower_for_of_plain-right-requires-clause-open = for_of_answers.loops::lower_for_of_plain-right-requires-clause-open

pub loops::lower_for_of_plain-right-requires-clause-tests : goal.loops::lower_for_of_plain-right-requires-clause-tests
loops::lower_for_of_plain-right-requires-clause-tests = for_of_answers.loops::lower_for_of_plain-right-requires-clause-tests

pub loops::lower_for_of_plain-right-requires-clause-room : goal.loops::lower_for_of_plain-right-requires-clause-room
loops::lower_for_of_plain-right-requires-clause-room = for_of_answers.loops::lower_for_of_plain-right-requires-clause-room

pub loops::lower_for_of_plain-lower_loop_head-requires-clause-names : goal.loops::lower_for_of_plain-lower_loop_head-requires-clause-names
loops::lower_for_of_plain-lower_loop_head-requires-clause-names = for_of_answers.loops::lower_for_of_plain-lower_loop_head-requires-clause-names

pub loops::lower_for_of_plain-lower_loop_head-requires-clause-room : goal.loops::lower_for_of_plain-lower_loop_head-requires-clause-room
loops::lower_for_of_plain-lower_loop_head-requires-clause-room = for_of_answers.loops::lower_for_of_plain-lower_loop_head-requires-clause-room

pub loops::lower_for_of_plain-returns-clause-lowered : goal.loops::lower_for_of_plain-returns-clause-lowered
loops::lower_for_of_plain-returns-clause-lowered = for_of_answers.loops::lower_for_of_plain-returns-clause-lowered

pub loops::lower_for_of-returns-then-is_await-clause-lowered : goal.loops::lower_for_of-returns-then-is_await-clause-lowered
loops::lower_for_of-returns-then-is_await-clause-lowered = for_of_answers.loops::lower_for_of-returns-then-is_await-clause-lowered

pub loops::lower_for_of-lower_for_of_plain-requires : goal.loops::lower_for_of-lower_for_of_plain-requires
loops::lower_for_of-lower_for_of_plain-requires = for_of_answers.loops::lower_for_of-lower_for_of_plain-requires

pub loops::lower_for_of-returns-clause-lowered : goal.loops::lower_for_of-returns-clause-lowered
loops::lower_for_of-returns-clause-lowered = for_of_answers.loops::lower_for_of-returns-clause-lowered

pub loops::lower_while-lower_statement-requires : goal.loops::lower_while-lower_statement-requires
loops::lower_while-lower_statement-requires = loops_answers.loops::lower_while-lower_statement-requires

pub loops::lower_while-body-requires-clause-scope : goal.loops::lower_while-body-requires-clause-scope
loops::lower_while-body-requires-clause-scope = loops_answers.loops::lower_while-body-requires-clause-scope

pub loops::lower_while-lower_expression-requires-clause-names : goal.loops::lower_while-lower_expression-requires-clause-names
loops::lower_while-lower_expression-requires-clause-names = loops_answers.loops::lower_while-lower_expression-requires-clause-names

pub loops::lower_while-lower_expression-requires-clause-room : goal.loops::lower_while-lower_expression-requires-clause-room
loops::lower_while-lower_expression-requires-clause-room = loops_answers.loops::lower_while-lower_expression-requires-clause-room

pub loops::lower_while-returns-clause-lowered : goal.loops::lower_while-returns-clause-lowered
loops::lower_while-returns-clause-lowered = loops_answers.loops::lower_while-returns-clause-lowered

pub loops::lower_do_while-lower_statement-requires : goal.loops::lower_do_while-lower_statement-requires
loops::lower_do_while-lower_statement-requires = loops_answers.loops::lower_do_while-lower_statement-requires

pub loops::lower_do_while-body-requires-clause-scope : goal.loops::lower_do_while-body-requires-clause-scope
loops::lower_do_while-body-requires-clause-scope = loops_answers.loops::lower_do_while-body-requires-clause-scope

pub loops::lower_do_while-lower_expression-requires-clause-names : goal.loops::lower_do_while-lower_expression-requires-clause-names
loops::lower_do_while-lower_expression-requires-clause-names = loops_answers.loops::lower_do_while-lower_expression-requires-clause-names

pub loops::lower_do_while-lower_expression-requires-clause-room : goal.loops::lower_do_while-lower_expression-requires-clause-room
loops::lower_do_while-lower_expression-requires-clause-room = loops_answers.loops::lower_do_while-lower_expression-requires-clause-room

pub loops::lower_do_while-returns-clause-lowered : goal.loops::lower_do_while-returns-clause-lowered
loops::lower_do_while-returns-clause-lowered = loops_answers.loops::lower_do_while-returns-clause-lowered

pub loops::lower_labeled-lower_loop-requires : goal.loops::lower_labeled-lower_loop-requires
loops::lower_labeled-lower_loop-requires = loops_answers.loops::lower_labeled-lower_loop-requires

pub loops::lower_labeled-returns-then-is_loop-clause-lowered : goal.loops::lower_labeled-returns-then-is_loop-clause-lowered
loops::lower_labeled-returns-then-is_loop-clause-lowered = loops_answers.loops::lower_labeled-returns-then-is_loop-clause-lowered

pub loops::lower_labeled-lower_statement-requires : goal.loops::lower_labeled-lower_statement-requires
loops::lower_labeled-lower_statement-requires = loops_answers.loops::lower_labeled-lower_statement-requires

pub loops::lower_labeled-finish-requires : goal.loops::lower_labeled-finish-requires
loops::lower_labeled-finish-requires = loops_answers.loops::lower_labeled-finish-requires

pub loops::lower_labeled-returns-clause-lowered : goal.loops::lower_labeled-returns-clause-lowered
loops::lower_labeled-returns-clause-lowered = loops_answers.loops::lower_labeled-returns-clause-lowered

pub statement::lower_statement-returns-in-Empty-clause-lowered : goal.statement::lower_statement-returns-in-Empty-clause-lowered
statement::lower_statement-returns-in-Empty-clause-lowered = statement_answers.statement::lower_statement-returns-in-Empty-clause-lowered

pub statement::lower_statement-returns-in_ok-lower_value_to_temporary-in-Debugger-clause-lowered
    : goal.statement::lower_statement-returns-in_ok-lower_value_to_temporary-in-Debugger-clause-lowered
statement::lower_statement-returns-in_ok-lower_value_to_temporary-in-Debugger-clause-lowered = statement_answers.statement::lower_statement-returns-in_ok-lower_value_to_temporary-in-Debugger-clause-lowered

pub statement::lower_statement-returns-in_ok-lower_expression-in-Expression-clause-lowered
    : goal.statement::lower_statement-returns-in_ok-lower_expression-in-Expression-clause-lowered
statement::lower_statement-returns-in_ok-lower_expression-in-Expression-clause-lowered = statement_answers.statement::lower_statement-returns-in_ok-lower_expression-in-Expression-clause-lowered

pub statement::lower_block-returns-clause-lowered : goal.statement::lower_block-returns-clause-lowered
statement::lower_block-returns-clause-lowered = statement_answers.statement::lower_block-returns-clause-lowered

pub statement::lower_statement-returns-in_ok-refuse-in-With-clause-lowered
    : goal.statement::lower_statement-returns-in_ok-refuse-in-With-clause-lowered
statement::lower_statement-returns-in_ok-refuse-in-With-clause-lowered = statement_answers.statement::lower_statement-returns-in_ok-refuse-in-With-clause-lowered

pub statement::lower_statement-lower_break-requires-clause-may : goal.statement::lower_statement-lower_break-requires-clause-may
statement::lower_statement-lower_break-requires-clause-may = statement_answers.statement::lower_statement-lower_break-requires-clause-may

pub statement::lower_statement-lower_continue-requires-clause-may : goal.statement::lower_statement-lower_continue-requires-clause-may
statement::lower_statement-lower_continue-requires-clause-may = statement_answers.statement::lower_statement-lower_continue-requires-clause-may

pub statement::lower_statement-returns-in-Break-clause-lowered : goal.statement::lower_statement-returns-in-Break-clause-lowered
statement::lower_statement-returns-in-Break-clause-lowered = statement_answers.statement::lower_statement-returns-in-Break-clause-lowered

pub statement::lower_statement-returns-in-Continue-clause-lowered : goal.statement::lower_statement-returns-in-Continue-clause-lowered
statement::lower_statement-returns-in-Continue-clause-lowered = statement_answers.statement::lower_statement-returns-in-Continue-clause-lowered

pub statement::lower_statement-unreachable-requires : goal.statement::lower_statement-unreachable-requires
statement::lower_statement-unreachable-requires = statement_answers.statement::lower_statement-unreachable-requires

pub statement::lower_statement-returns-in-While-clause-lowered : goal.statement::lower_statement-returns-in-While-clause-lowered
statement::lower_statement-returns-in-While-clause-lowered = statement_answers.statement::lower_statement-returns-in-While-clause-lowered

pub statement::lower_statement-returns-in-DoWhile-clause-lowered : goal.statement::lower_statement-returns-in-DoWhile-clause-lowered
statement::lower_statement-returns-in-DoWhile-clause-lowered = statement_answers.statement::lower_statement-returns-in-DoWhile-clause-lowered

pub statement::lower_statement-returns-in-For-clause-lowered : goal.statement::lower_statement-returns-in-For-clause-lowered
statement::lower_statement-returns-in-For-clause-lowered = statement_answers.statement::lower_statement-returns-in-For-clause-lowered

pub statement::lower_statement-returns-in-ForIn-clause-lowered : goal.statement::lower_statement-returns-in-ForIn-clause-lowered
statement::lower_statement-returns-in-ForIn-clause-lowered = statement_answers.statement::lower_statement-returns-in-ForIn-clause-lowered

pub statement::lower_statement-returns-in-ForOf-clause-lowered : goal.statement::lower_statement-returns-in-ForOf-clause-lowered
statement::lower_statement-returns-in-ForOf-clause-lowered = statement_answers.statement::lower_statement-returns-in-ForOf-clause-lowered

pub statement::lower_statements-statements-preserved : goal.statement::lower_statements-statements-preserved
statement::lower_statements-statements-preserved = statement_answers.statement::lower_statements-statements-preserved

pub statement::lower_statements-returns-clause-lowered : goal.statement::lower_statements-returns-clause-lowered
statement::lower_statements-returns-clause-lowered = statement_answers.statement::lower_statements-returns-clause-lowered

pub statement::lower_if_then-lower_statement-requires : goal.statement::lower_if_then-lower_statement-requires
statement::lower_if_then-lower_statement-requires = statement_answers.statement::lower_if_then-lower_statement-requires

pub statement::lower_if_then-lower_expression-requires-clause-names : goal.statement::lower_if_then-lower_expression-requires-clause-names
statement::lower_if_then-lower_expression-requires-clause-names = statement_answers.statement::lower_if_then-lower_expression-requires-clause-names

pub statement::lower_if_then-lower_expression-requires-clause-room : goal.statement::lower_if_then-lower_expression-requires-clause-room
statement::lower_if_then-lower_expression-requires-clause-room = statement_answers.statement::lower_if_then-lower_expression-requires-clause-room

pub statement::lower_if_then-returns-clause-lowered : goal.statement::lower_if_then-returns-clause-lowered
statement::lower_if_then-returns-clause-lowered = statement_answers.statement::lower_if_then-returns-clause-lowered

pub statement::lower_if_else-lower_statement-requires : goal.statement::lower_if_else-lower_statement-requires
statement::lower_if_else-lower_statement-requires = statement_answers.statement::lower_if_else-lower_statement-requires

pub statement::lower_if_else-lower_statement-requires-2 : goal.statement::lower_if_else-lower_statement-requires-2
statement::lower_if_else-lower_statement-requires-2 = statement_answers.statement::lower_if_else-lower_statement-requires-2

pub statement::lower_if_else-lower_expression-requires-clause-names : goal.statement::lower_if_else-lower_expression-requires-clause-names
statement::lower_if_else-lower_expression-requires-clause-names = statement_answers.statement::lower_if_else-lower_expression-requires-clause-names

pub statement::lower_if_else-lower_expression-requires-clause-room : goal.statement::lower_if_else-lower_expression-requires-clause-room
statement::lower_if_else-lower_expression-requires-clause-room = statement_answers.statement::lower_if_else-lower_expression-requires-clause-room

pub statement::lower_if_else-returns-clause-lowered : goal.statement::lower_if_else-returns-clause-lowered
statement::lower_if_else-returns-clause-lowered = statement_answers.statement::lower_if_else-returns-clause-lowered

pub switch::lower_case-leave-requires-clause-scope : goal.switch::lower_case-leave-requires-clause-scope
switch::lower_case-leave-requires-clause-scope = switch_answers.switch::lower_case-leave-requires-clause-scope

pub switch::lower_case-lower_case_test-requires-clause-names : goal.switch::lower_case-lower_case_test-requires-clause-names
switch::lower_case-lower_case_test-requires-clause-names = switch_answers.switch::lower_case-lower_case_test-requires-clause-names

pub switch::lower_case-returns-clause-lowered : goal.switch::lower_case-returns-clause-lowered
switch::lower_case-returns-clause-lowered = switch_answers.switch::lower_case-returns-clause-lowered

pub switch::lower_cases-cases-init : goal.switch::lower_cases-cases-init
switch::lower_cases-cases-init = switch_answers.switch::lower_cases-cases-init

pub switch::lower_cases-lower_case-requires : goal.switch::lower_cases-lower_case-requires
switch::lower_cases-lower_case-requires = switch_answers.switch::lower_cases-lower_case-requires

pub switch::lower_cases-cases-preserved : goal.switch::lower_cases-cases-preserved
switch::lower_cases-cases-preserved = switch_answers.switch::lower_cases-cases-preserved

pub switch::lower_cases-returns-clause-lowered : goal.switch::lower_cases-returns-clause-lowered
switch::lower_cases-returns-clause-lowered = switch_answers.switch::lower_cases-returns-clause-lowered

pub switch::lower_switch-lower_expression-requires-clause-names : goal.switch::lower_switch-lower_expression-requires-clause-names
switch::lower_switch-lower_expression-requires-clause-names = switch_answers.switch::lower_switch-lower_expression-requires-clause-names

pub switch::lower_switch-lower_expression-requires-clause-room : goal.switch::lower_switch-lower_expression-requires-clause-room
switch::lower_switch-lower_expression-requires-clause-room = switch_answers.switch::lower_switch-lower_expression-requires-clause-room

pub switch::lower_switch-returns-clause-lowered : goal.switch::lower_switch-returns-clause-lowered
switch::lower_switch-returns-clause-lowered = switch_answers.switch::lower_switch-returns-clause-lowered

pub try_statement::lower_try_plain-lower_block-requires-2 : goal.try_statement::lower_try_plain-lower_block-requires-2
try_statement::lower_try_plain-lower_block-requires-2 = try_statement_answers.try_statement::lower_try_plain-lower_block-requires-2

pub try_statement::lower_try_plain-finish-requires : goal.try_statement::lower_try_plain-finish-requires
try_statement::lower_try_plain-finish-requires = try_statement_answers.try_statement::lower_try_plain-finish-requires

pub try_statement::lower_try_plain-returns-clause-lowered : goal.try_statement::lower_try_plain-returns-clause-lowered
try_statement::lower_try_plain-returns-clause-lowered = try_statement_answers.try_statement::lower_try_plain-returns-clause-lowered

pub try_statement::lower_try_bound-store_caught-requires-clause-names
    : goal.try_statement::lower_try_bound-store_caught-requires-clause-names
try_statement::lower_try_bound-store_caught-requires-clause-names = try_statement_answers.try_statement::lower_try_bound-store_caught-requires-clause-names

pub try_statement::lower_try_bound-store_caught-requires-clause-room : goal.try_statement::lower_try_bound-store_caught-requires-clause-room
try_statement::lower_try_bound-store_caught-requires-clause-room = try_statement_answers.try_statement::lower_try_bound-store_caught-requires-clause-room

pub try_statement::lower_try_bound-lower_block-requires : goal.try_statement::lower_try_bound-lower_block-requires
try_statement::lower_try_bound-lower_block-requires = try_statement_answers.try_statement::lower_try_bound-lower_block-requires

pub try_statement::lower_try_bound-catch-requires : goal.try_statement::lower_try_bound-catch-requires
try_statement::lower_try_bound-catch-requires = try_statement_answers.try_statement::lower_try_bound-catch-requires

pub try_statement::lower_try_bound-lower_block-requires-2 : goal.try_statement::lower_try_bound-lower_block-requires-2
try_statement::lower_try_bound-lower_block-requires-2 = try_statement_answers.try_statement::lower_try_bound-lower_block-requires-2

pub try_statement::lower_try_bound-finish-requires : goal.try_statement::lower_try_bound-finish-requires
try_statement::lower_try_bound-finish-requires = try_statement_answers.try_statement::lower_try_bound-finish-requires

pub try_statement::lower_try_bound-returns-clause-lowered : goal.try_statement::lower_try_bound-returns-clause-lowered
try_statement::lower_try_bound-returns-clause-lowered = try_statement_answers.try_statement::lower_try_bound-returns-clause-lowered

pub try_statement::lower_caught-lower_try_bound-requires : goal.try_statement::lower_caught-lower_try_bound-requires
try_statement::lower_caught-lower_try_bound-requires = try_statement_answers.try_statement::lower_caught-lower_try_bound-requires

pub try_statement::lower_caught-returns-in-Identifier-clause-lowered : goal.try_statement::lower_caught-returns-in-Identifier-clause-lowered
try_statement::lower_caught-returns-in-Identifier-clause-lowered = try_statement_answers.try_statement::lower_caught-returns-in-Identifier-clause-lowered

pub try_statement::lower_caught-unreachable-requires : goal.try_statement::lower_caught-unreachable-requires
try_statement::lower_caught-unreachable-requires = try_statement_answers.try_statement::lower_caught-unreachable-requires

pub try_statement::lower_caught-unreachable-requires-in-Object : goal.try_statement::lower_caught-unreachable-requires-in-Object
try_statement::lower_caught-unreachable-requires-in-Object = try_statement_answers.try_statement::lower_caught-unreachable-requires-in-Object

pub try_statement::lower_caught-lower_try_plain-requires : goal.try_statement::lower_caught-lower_try_plain-requires
try_statement::lower_caught-lower_try_plain-requires = try_statement_answers.try_statement::lower_caught-lower_try_plain-requires

pub try_statement::lower_caught-returns-in-None-clause-lowered : goal.try_statement::lower_caught-returns-in-None-clause-lowered
try_statement::lower_caught-returns-in-None-clause-lowered = try_statement_answers.try_statement::lower_caught-returns-in-None-clause-lowered

pub try_statement::lower_try-lower_caught-requires : goal.try_statement::lower_try-lower_caught-requires
try_statement::lower_try-lower_caught-requires = try_statement_answers.try_statement::lower_try-lower_caught-requires

pub try_statement::lower_try-returns-in_ok-note_finalizer-in-Some-clause-lowered
    : goal.try_statement::lower_try-returns-in_ok-note_finalizer-in-Some-clause-lowered
try_statement::lower_try-returns-in_ok-note_finalizer-in-Some-clause-lowered = try_statement_answers.try_statement::lower_try-returns-in_ok-note_finalizer-in-Some-clause-lowered

pub try_statement::lower_try-returns-in_ok-refuse-in-None-clause-lowered
    : goal.try_statement::lower_try-returns-in_ok-refuse-in-None-clause-lowered
try_statement::lower_try-returns-in_ok-refuse-in-None-clause-lowered = try_statement_answers.try_statement::lower_try-returns-in_ok-refuse-in-None-clause-lowered
