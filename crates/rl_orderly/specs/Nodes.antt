-- Orderly nodes, by their words.
use Rattle.std.specs.Prelude.{ℕ, Bool, true, false, ◌&&◌, ◌||◌, not, codes, Option, Some, None, List}
use Rattle.std.specs.Str.{bytes_eq}
use Rattle.rl_code.specs.Parts.{first, second}
use Rattle.rl_model.specs.Orderly.{is_link_inside, is_steady, is_steady_target}
use Rattle.rl_model.specs.Shapes.{is_absent, is_link}
use Rattle.rl_names.specs.Names.{Names}
use Rattle.rl_semantic.specs.Items.{of_item}
use Rattle.rl_syntax.specs.Syntax.{Syntax, Said, Pieces, End, Then}
use Rattle.rl_syntax.specs.declared.word.Word.{Word}
use Rattle.rl_syntax.specs.declared.word.Word.TheVariants as word

-- Object and key of a property by a key that is evaluated.
abbrev pub object_and_key : Pieces → Option (Syntax × Syntax)
object_and_key (Then optional (Then object (Then property End))) = Some (object, property)
object_and_key _ = None

-- The object of a property by a fixed key.
abbrev pub object_of : Word → Pieces → Option Syntax
object_of word.Member parts = second parts
object_of word.Privatemember parts = second parts
object_of _ parts = None

abbrev pub index_parts : Word → Pieces → Option (Syntax × Syntax)
index_parts word.Index parts = object_and_key parts
index_parts _ parts = None

-- In an assignment to a property, object and key are steady.
abbrev pub target_as : Names → (assigned : List ℕ) → Word → Pieces → Bool
target_as names assigned w parts =
    of_item true (is_steady names assigned) (object_of w parts)
    && of_item true (λ p. is_steady names assigned p.0 && is_steady names assigned p.1) (index_parts w parts)

-- Operator, target and right side of an assignment.
abbrev pub assignment : Pieces → Option (List ℕ × (Syntax × Syntax))
assignment (Then (Said operator) (Then target (Then right End))) = Some (operator, (target, right))
assignment _ = None

abbrev pub is_orderly_assignment : Names → (assigned : List ℕ) → (operator : List ℕ) → (target right : Syntax) → Bool
is_orderly_assignment names assigned operator target right =
    not (bytes_eq operator (codes "=")) || is_steady names assigned right || is_steady_target names assigned target

abbrev pub is_orderly_case : Names → (assigned : List ℕ) → (condition : Syntax) → Bool
is_orderly_case names assigned condition = is_absent condition || is_steady names assigned condition

abbrev pub is_orderly_callee : Syntax → Bool
is_orderly_callee callee = is_link callee || not (is_link_inside callee)

-- (a), (b) and (c), by the word of a node.
abbrev pub orderly_as : Names → (assigned : List ℕ) → Word → Pieces → Bool
orderly_as names assigned word.Assign parts = of_item true (λ p. is_orderly_assignment names assigned p.0 p.1.0 p.1.1) (assignment parts)
orderly_as names assigned word.Case parts = of_item true (is_orderly_case names assigned) (first parts)
orderly_as names assigned word.Call parts = of_item true is_orderly_callee (second parts)
orderly_as names assigned word.Tagged parts = of_item true (λ tag. not (is_link_inside tag)) (first parts)
orderly_as names assigned _ parts = true

-- The words of properties.
abbrev pub is_link_word : Word → Bool
is_link_word word.Member = true
is_link_word word.Index = true
is_link_word word.Privatemember = true
is_link_word _ = false
