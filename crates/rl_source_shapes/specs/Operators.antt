-- The change that an assignment makes, by its operator.
use Rattle.std.specs.Prelude.{◌≡◌, ℕ, true, false, List, codes}
use Rattle.std.specs.Str.{bytes_eq}
use Rattle.rl_base.specs.Operators.{operator_text}
use Rattle.rl_model.specs.Shapes.{is_logical, operator_in}
use Rattle.rl_source_shapes.specs.declared.operators.Change.{Change}
use Rattle.rl_source_shapes.specs.declared.operators.Change.TheVariants as change

-- The text of a compound operator that is not logical.
pub record IsCompound (by text : List ℕ) : Type 0 where
  pub plain : bytes_eq text (codes "=") ≡ false
  pub logical : is_logical text ≡ false
  pub operator : operator_in text ≡ by

-- The text of a logical assignment.
pub record IsLogical (text : List ℕ) : Type 0 where
  pub plain : bytes_eq text (codes "=") ≡ false
  pub logical : is_logical text ≡ true

abbrev pub IsChange : Change → (text : List ℕ) → Type 0
IsChange change.Plain text = bytes_eq text (codes "=") ≡ true
IsChange change.Logical text = IsLogical text
IsChange (change.Compound operator) text = IsCompound (operator_text operator) text
