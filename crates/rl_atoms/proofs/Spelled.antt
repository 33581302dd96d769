-- Values that have a spelling.
use Rattle.std.proofs.Common.{ℕ, ◌≤◌, Bool, List, refl}
use Rattle.std.specs.Str.{IsUtf8}
use Rattle.rl_base.proofs.ClosedTexts.{text_utf8}
use Rattle.rl_base.specs.FoundOperators.{operators_found, logical_operators_found, unary_operators_found, update_operators_found, assignment_operators_found}
use Rattle.rl_base.specs.Operators.{operator_text, logical_text, unary_text, update_text, assignment_text, operators, logical_operators, unary_operators, update_operators, assignment_operators}
use Rattle.rl_base.specs.declared.operator.AssignmentOperator.{AssignmentOperator}
use Rattle.rl_base.specs.declared.operator.BinaryOperator.{BinaryOperator}
use Rattle.rl_base.specs.declared.operator.LogicalOperator.{LogicalOperator}
use Rattle.rl_base.specs.declared.operator.UnaryOperator.{UnaryOperator}
use Rattle.rl_base.specs.declared.operator.UpdateOperator.{UpdateOperator}
use Rattle.rl_text.proofs.Atoms.{tree_spelled}
use Rattle.rl_text.specs.Atoms.{HasSpelling, SpelledAs, text_tree}
use Rattle.rl_text.specs.Notation.{Said, Count, Flag}
use Rattle.rl_text.specs.Number.{largest}

pub text_spelled : (text : List ℕ) → IsUtf8 text → HasSpelling (SpelledAs Said) text
text_spelled text h = tree_spelled Said text h

pub number_spelled : (number : ℕ) → number ≤ largest → HasSpelling (SpelledAs Count) number
number_spelled number h = tree_spelled Count number h

pub flag_spelled : (flag : Bool) → HasSpelling (SpelledAs Flag) flag
flag_spelled flag = tree_spelled Flag flag tt

pub operator_spelled : (operator : BinaryOperator) → HasSpelling (SpelledAs (text_tree operator_text)) operator
operator_spelled operator = tree_spelled (text_tree operator_text) operator (text_utf8 operator_text operators operators_found refl operator)

pub logical_spelled : (operator : LogicalOperator) → HasSpelling (SpelledAs (text_tree logical_text)) operator
logical_spelled operator = tree_spelled (text_tree logical_text) operator (text_utf8 logical_text logical_operators logical_operators_found refl operator)

pub unary_spelled : (operator : UnaryOperator) → HasSpelling (SpelledAs (text_tree unary_text)) operator
unary_spelled operator = tree_spelled (text_tree unary_text) operator (text_utf8 unary_text unary_operators unary_operators_found refl operator)

pub update_spelled : (operator : UpdateOperator) → HasSpelling (SpelledAs (text_tree update_text)) operator
update_spelled operator = tree_spelled (text_tree update_text) operator (text_utf8 update_text update_operators update_operators_found refl operator)

pub assignment_spelled : (operator : AssignmentOperator) → HasSpelling (SpelledAs (text_tree assignment_text)) operator
assignment_spelled operator = tree_spelled (text_tree assignment_text) operator (text_utf8 assignment_text assignment_operators assignment_operators_found refl operator)
