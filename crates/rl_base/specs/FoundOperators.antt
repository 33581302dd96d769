-- Each operator is found by its text among all of its kind.
use Rattle.std.specs.Prelude.{refl}
use Rattle.rl_base.specs.FoundTexts.{AreFound}
use Rattle.rl_base.specs.Operators.{operator_text, logical_text, unary_text, update_text, assignment_text, operators, logical_operators, unary_operators, update_operators, assignment_operators}
use Rattle.rl_base.specs.declared.operator.BinaryOperator.TheVariants as operator
use Rattle.rl_base.specs.declared.operator.LogicalOperator.TheVariants as logical
use Rattle.rl_base.specs.declared.operator.UnaryOperator.TheVariants as unary
use Rattle.rl_base.specs.declared.operator.UpdateOperator.TheVariants as update
use Rattle.rl_base.specs.declared.operator.AssignmentOperator.TheVariants as assignment

-- Binary operators.
pub operators_found : AreFound operator_text operators
operators_found operator.Equality = refl
operators_found operator.Inequality = refl
operators_found operator.StrictEquality = refl
operators_found operator.StrictInequality = refl
operators_found operator.LessThan = refl
operators_found operator.LessEqualThan = refl
operators_found operator.GreaterThan = refl
operators_found operator.GreaterEqualThan = refl
operators_found operator.Addition = refl
operators_found operator.Subtraction = refl
operators_found operator.Multiplication = refl
operators_found operator.Division = refl
operators_found operator.Remainder = refl
operators_found operator.Exponential = refl
operators_found operator.ShiftLeft = refl
operators_found operator.ShiftRight = refl
operators_found operator.ShiftRightZeroFill = refl
operators_found operator.BitwiseOR = refl
operators_found operator.BitwiseXOR = refl
operators_found operator.BitwiseAnd = refl
operators_found operator.In = refl
operators_found operator.Instanceof = refl

-- Logical operators.
pub logical_operators_found : AreFound logical_text logical_operators
logical_operators_found logical.Or = refl
logical_operators_found logical.And = refl
logical_operators_found logical.Coalesce = refl

-- Unary operators.
pub unary_operators_found : AreFound unary_text unary_operators
unary_operators_found unary.UnaryNegation = refl
unary_operators_found unary.UnaryPlus = refl
unary_operators_found unary.LogicalNot = refl
unary_operators_found unary.BitwiseNot = refl
unary_operators_found unary.Typeof = refl
unary_operators_found unary.Void = refl
unary_operators_found unary.Delete = refl

-- Update operators.
pub update_operators_found : AreFound update_text update_operators
update_operators_found update.Increment = refl
update_operators_found update.Decrement = refl

-- Assignment operators.
pub assignment_operators_found : AreFound assignment_text assignment_operators
assignment_operators_found assignment.Assign = refl
assignment_operators_found assignment.Addition = refl
assignment_operators_found assignment.Subtraction = refl
assignment_operators_found assignment.Multiplication = refl
assignment_operators_found assignment.Division = refl
assignment_operators_found assignment.Remainder = refl
assignment_operators_found assignment.Exponential = refl
assignment_operators_found assignment.ShiftLeft = refl
assignment_operators_found assignment.ShiftRight = refl
assignment_operators_found assignment.ShiftRightZeroFill = refl
assignment_operators_found assignment.BitwiseOR = refl
assignment_operators_found assignment.BitwiseXOR = refl
assignment_operators_found assignment.BitwiseAnd = refl
assignment_operators_found assignment.LogicalOr = refl
assignment_operators_found assignment.LogicalAnd = refl
assignment_operators_found assignment.LogicalNullish = refl
