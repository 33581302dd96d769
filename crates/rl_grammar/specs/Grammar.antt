-- Trees that fit the grammar: the table of rules, applied to every node.
use Rattle.std.specs.Prelude.{ℕ, Bool, true, false, ◌&&◌, Option, Some, List, [], ◌∷◌}
use Rattle.rl_base.specs.ClosedTexts.{is_written}
use Rattle.rl_base.specs.Operators.{is_operator, is_logical, is_unary, is_update, is_assignment}
use Rattle.rl_base.specs.Scalars.{is_scalar_value}
use Rattle.rl_base.specs.TypeKinds.{type_text, type_kinds}
use Rattle.rl_base.specs.VariableKinds.{variable_text, variable_kinds}
use Rattle.rl_grammar.specs.Rules.{rule}
use Rattle.rl_syntax.specs.Syntax.{Syntax, Node, Listed, Said, Count, Flag, Absent, Pieces, End, Then, is_item}
use Rattle.rl_grammar.specs.declared.kind.Field.{Field}
use Rattle.rl_grammar.specs.declared.kind.Field.TheVariants as field
use Rattle.rl_grammar.specs.declared.kind.Kind.{Kind}
use Rattle.rl_grammar.specs.declared.kind.Kind.TheVariants as kind

-- The texts of a kind: any, or those that write an operator or a kind of declaration or of type.
abbrev pub text_fits : Kind → List ℕ → Bool
text_fits kind.Text text = true
text_fits kind.VariableKind text = is_written variable_text variable_kinds text
text_fits kind.TypeKind text = is_written type_text type_kinds text
text_fits kind.UnaryOperator text = is_unary text
text_fits kind.UpdateOperator text = is_update text
text_fits kind.BinaryOperator text = is_operator text
text_fits kind.LogicalOperator text = is_logical text
text_fits kind.AssignmentOperator text = is_assignment text
text_fits _ text = false

-- True of the kind of flags.
abbrev pub takes_flags : Kind → Bool
takes_flags kind.Flag = true
takes_flags _ = false

-- The numbers of a kind.
abbrev pub number_fits : Kind → ℕ → Bool
number_fits kind.ScalarValue number = is_scalar_value number
number_fits _ number = false

abbrev mutual
  -- True of a tree that may stand in the field.
  pub fits : Field → Syntax → Bool
  fits (field.One k) (Node at w parts) = each (rule k w) parts
  fits (field.One k) (Said text) = text_fits k text
  fits (field.One k) (Flag flag) = takes_flags k
  fits (field.One k) (Count number) = number_fits k number
  fits (field.One k) _ = false
  fits (field.Maybe k) (Node at w parts) = each (rule k w) parts
  fits (field.Maybe k) (Said text) = text_fits k text
  fits (field.Maybe k) (Flag flag) = takes_flags k
  fits (field.Maybe k) (Count number) = number_fits k number
  fits (field.Maybe k) Absent = true
  fits (field.Maybe k) _ = false
  fits (field.Many k) (Listed parts) = every k parts
  fits (field.Many k) _ = false

  -- True of parts that may stand in the fields, one in each.
  pub each : Option (List Field) → Pieces → Bool
  each (Some []) End = true
  each (Some (f ∷ fields)) (Then part parts) = fits f part && each (Some fields) parts
  each _ _ = false

  -- True of items of a kind. Lists hold nodes and texts alone.
  pub every : Kind → Pieces → Bool
  every k End = true
  every k (Then part parts) = is_item part && fits (field.One k) part && every k parts
