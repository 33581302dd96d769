-- Operators, and the text that writes each.
use Rattle.std.specs.Prelude.{ℕ, Bool, List, [], ◌∷◌, codes}
use Rattle.rl_base.specs.ClosedTexts.{is_written}
use Rattle.rl_base.specs.declared.operator.BinaryOperator.{BinaryOperator}
use Rattle.rl_base.specs.declared.operator.LogicalOperator.{LogicalOperator}
use Rattle.rl_base.specs.declared.operator.UnaryOperator.{UnaryOperator}
use Rattle.rl_base.specs.declared.operator.UpdateOperator.{UpdateOperator}
use Rattle.rl_base.specs.declared.operator.AssignmentOperator.{AssignmentOperator}
use Rattle.rl_base.specs.declared.operator.BinaryOperator.TheVariants as operator
use Rattle.rl_base.specs.declared.operator.LogicalOperator.TheVariants as logical
use Rattle.rl_base.specs.declared.operator.UnaryOperator.TheVariants as unary
use Rattle.rl_base.specs.declared.operator.UpdateOperator.TheVariants as update
use Rattle.rl_base.specs.declared.operator.AssignmentOperator.TheVariants as assignment

-- Binary operators.
abbrev pub operator_text : BinaryOperator → List ℕ
operator_text operator.Equality = codes "=="
operator_text operator.Inequality = codes "!="
operator_text operator.StrictEquality = codes "==="
operator_text operator.StrictInequality = codes "!=="
operator_text operator.LessThan = codes "<"
operator_text operator.LessEqualThan = codes "<="
operator_text operator.GreaterThan = codes ">"
operator_text operator.GreaterEqualThan = codes ">="
operator_text operator.Addition = codes "+"
operator_text operator.Subtraction = codes "-"
operator_text operator.Multiplication = codes "*"
operator_text operator.Division = codes "/"
operator_text operator.Remainder = codes "%"
operator_text operator.Exponential = codes "**"
operator_text operator.ShiftLeft = codes "<<"
operator_text operator.ShiftRight = codes ">>"
operator_text operator.ShiftRightZeroFill = codes ">>>"
operator_text operator.BitwiseOR = codes "|"
operator_text operator.BitwiseXOR = codes "^"
operator_text operator.BitwiseAnd = codes "&"
operator_text operator.In = codes "in"
operator_text operator.Instanceof = codes "instanceof"

-- Every `BinaryOperator`, in the order of the declaration.
abbrev pub operators : List BinaryOperator
operators =
    operator.Equality ∷ operator.Inequality ∷ operator.StrictEquality ∷ operator.StrictInequality ∷
    operator.LessThan ∷ operator.LessEqualThan ∷ operator.GreaterThan ∷ operator.GreaterEqualThan ∷
    operator.Addition ∷ operator.Subtraction ∷ operator.Multiplication ∷ operator.Division ∷
    operator.Remainder ∷ operator.Exponential ∷ operator.ShiftLeft ∷ operator.ShiftRight ∷
    operator.ShiftRightZeroFill ∷ operator.BitwiseOR ∷ operator.BitwiseXOR ∷ operator.BitwiseAnd ∷ operator.In ∷
    operator.Instanceof ∷ []

-- True if `text` writes a `BinaryOperator`.
abbrev pub is_operator : (text : List ℕ) → Bool
is_operator text = is_written operator_text operators text

-- Logical operators.
abbrev pub logical_text : LogicalOperator → List ℕ
logical_text logical.Or = codes "||"
logical_text logical.And = codes "&&"
logical_text logical.Coalesce = codes "??"

-- Every `LogicalOperator`, in the order of the declaration.
abbrev pub logical_operators : List LogicalOperator
logical_operators =
    logical.Or ∷ logical.And ∷ logical.Coalesce ∷ []

-- True if `text` writes a `LogicalOperator`.
abbrev pub is_logical : (text : List ℕ) → Bool
is_logical text = is_written logical_text logical_operators text

-- Unary operators.
abbrev pub unary_text : UnaryOperator → List ℕ
unary_text unary.UnaryNegation = codes "-"
unary_text unary.UnaryPlus = codes "+"
unary_text unary.LogicalNot = codes "!"
unary_text unary.BitwiseNot = codes "~"
unary_text unary.Typeof = codes "typeof"
unary_text unary.Void = codes "void"
unary_text unary.Delete = codes "delete"

-- Every `UnaryOperator`, in the order of the declaration.
abbrev pub unary_operators : List UnaryOperator
unary_operators =
    unary.UnaryNegation ∷ unary.UnaryPlus ∷ unary.LogicalNot ∷ unary.BitwiseNot ∷ unary.Typeof ∷ unary.Void ∷
    unary.Delete ∷ []

-- True if `text` writes a `UnaryOperator`.
abbrev pub is_unary : (text : List ℕ) → Bool
is_unary text = is_written unary_text unary_operators text

-- Update operators.
abbrev pub update_text : UpdateOperator → List ℕ
update_text update.Increment = codes "++"
update_text update.Decrement = codes "--"

-- Every `UpdateOperator`, in the order of the declaration.
abbrev pub update_operators : List UpdateOperator
update_operators =
    update.Increment ∷ update.Decrement ∷ []

-- True if `text` writes a `UpdateOperator`.
abbrev pub is_update : (text : List ℕ) → Bool
is_update text = is_written update_text update_operators text

-- Assignment operators.
abbrev pub assignment_text : AssignmentOperator → List ℕ
assignment_text assignment.Assign = codes "="
assignment_text assignment.Addition = codes "+="
assignment_text assignment.Subtraction = codes "-="
assignment_text assignment.Multiplication = codes "*="
assignment_text assignment.Division = codes "/="
assignment_text assignment.Remainder = codes "%="
assignment_text assignment.Exponential = codes "**="
assignment_text assignment.ShiftLeft = codes "<<="
assignment_text assignment.ShiftRight = codes ">>="
assignment_text assignment.ShiftRightZeroFill = codes ">>>="
assignment_text assignment.BitwiseOR = codes "|="
assignment_text assignment.BitwiseXOR = codes "^="
assignment_text assignment.BitwiseAnd = codes "&="
assignment_text assignment.LogicalOr = codes "||="
assignment_text assignment.LogicalAnd = codes "&&="
assignment_text assignment.LogicalNullish = codes "??="

-- Every `AssignmentOperator`, in the order of the declaration.
abbrev pub assignment_operators : List AssignmentOperator
assignment_operators =
    assignment.Assign ∷ assignment.Addition ∷ assignment.Subtraction ∷ assignment.Multiplication ∷
    assignment.Division ∷ assignment.Remainder ∷ assignment.Exponential ∷ assignment.ShiftLeft ∷
    assignment.ShiftRight ∷ assignment.ShiftRightZeroFill ∷ assignment.BitwiseOR ∷ assignment.BitwiseXOR ∷
    assignment.BitwiseAnd ∷ assignment.LogicalOr ∷ assignment.LogicalAnd ∷ assignment.LogicalNullish ∷ []

-- True if `text` writes a `AssignmentOperator`.
abbrev pub is_assignment : (text : List ℕ) → Bool
is_assignment text = is_written assignment_text assignment_operators text
