-- Operators are found by their texts.
use Rattle.std.proofs.Common.{◌≡◌, ℕ, true, false, List}
use Rattle.rl_base.specs.FoundOperators.{operators_found}
use Rattle.rl_base.specs.Operators.{operator_text, operators, is_operator}
use Rattle.rl_base.proofs.ClosedTexts.{is_written_text, is_written_none, value_of, value_back}
use Rattle.rl_base.specs.declared.operator.BinaryOperator.{BinaryOperator}
use Rattle.rl_base.specs.declared.operator.BinaryOperator.TheVariants as operator

-- The binary operator that `text` writes; `Equality` if it writes none.
pub operator_of : (text : List ℕ) → BinaryOperator
operator_of text = value_of operator.Equality operator_text operators text

pub operator-back : (o : BinaryOperator) → operator_of (operator_text o) ≡ o
unfolding operator_of
operator-back o = value_back operator.Equality operator_text operators operators_found o

-- The text of each binary operator passes the test.
pub is_operator-text : (o : BinaryOperator) → is_operator (operator_text o) ≡ true
is_operator-text o = is_written_text operator_text operators operators_found o

-- The text of no binary operator fails the test.
pub operator-unknown : (text : List ℕ) → ((o : BinaryOperator) → operator_text o ≡ text → ⊥) → is_operator text ≡ false
operator-unknown text differ = is_written_none operator_text operators text differ
