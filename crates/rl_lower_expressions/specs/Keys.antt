-- Keys of object literals, and properties that some of them have.
use Rattle.std.specs.Prelude.{◌≡◌, ℕ, Bool, true, false, Option, Some, None, List, [], ◌∷◌}
use Rattle.rl_hir.specs.Pieces.{Piece, property_pieces}
use Rattle.rl_hir.specs.declared.instruction.ObjectProperty.{ObjectProperty}
use Rattle.rl_lower_expressions.specs.declared.parts.Key.{Key}
use Rattle.rl_lower_expressions.specs.declared.parts.Key.TheVariants as keys
use Rattle.rl_model.specs.Shapes.{is_computed, key_text, said}
use Rattle.rl_syntax.specs.Syntax.{Syntax, Node, Said, End, Then, syntax}
use Rattle.rl_syntax.specs.declared.numbered.At.{At}
use Rattle.rl_syntax.specs.declared.word.Word.TheVariants as word
use Rattle.rl_text.specs.Numeral.{is_numeral}

-- The pieces of a property, if there is one.
abbrev pub where_pieces : Option ObjectProperty → List Piece
where_pieces (Some p) = property_pieces p
where_pieces None = []

-- The property, if there is one, as a list.
abbrev pub found_list : Option ObjectProperty → List ObjectProperty
found_list (Some p) = p ∷ []
found_list None = []

-- The tree is a number that is no numeral, with the ids.
pub record IsFraction (tree : Syntax) (at : At) : Type 0 where
  pub text : List ℕ
  pub is : Node at word.Num (Then (Said text) End) ≡ tree
  pub plain : is_numeral text ≡ false

-- The key of a property `computed: key` of an object literal: the text that it is, the expression whose value it is, or the ids of a
-- number that is no numeral.
abbrev pub IsKeyOf : (computed : Bool) → Syntax → Key → Type 0
IsKeyOf computed tree (keys.Fixed text) = key_text computed tree ≡ Some (said text.now)
IsKeyOf computed tree (keys.Computed expression) = (is_computed computed tree ≡ true) × (syntax expression.tree.now ≡ tree)
IsKeyOf computed tree (keys.Fraction at) = (is_computed computed tree ≡ false) × IsFraction tree at
