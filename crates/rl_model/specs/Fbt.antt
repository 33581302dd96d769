-- Row F26: in an `fbt` or `fbs` element a tag as `fbt:enum` stands once.
use Rattle.std.specs.Prelude.{ℕ, nat_le, Bool, true, ◌&&◌, if◌then◌else◌, List, [], ◌∷◌, ◌++◌, codes, filter, length}
use Rattle.std.specs.Str.{bytes_eq}
use Rattle.rl_model.specs.JsxText.{is_fbt}
use Rattle.rl_syntax.specs.Syntax.{Syntax, Node, Listed, Said, Pieces, End, Then}
use Rattle.rl_syntax.specs.declared.word.Word.TheVariants as word

-- The name behind the colon of a tag in the namespace.
abbrev pub named_in : (namespace : List ℕ) → (tag : Syntax) → List (List ℕ)
named_in namespace (Node at word.Tagns (Then (Said first) (Then (Said name) End))) = if bytes_eq first namespace then name ∷ [] else []
named_in namespace tag = []

abbrev mutual
  -- The tags of the namespace that are found in a child or an expression: through elements and fragments, containers, attributes, both
  -- branches of a choice, parentheses, arguments, and arrow functions.
  pub found_in : (namespace : List ℕ) → Syntax → List (List ℕ)
  found_in namespace (Node at word.Element (Then (Node there word.Opening (Then tag (Then attributes End))) (Then children closing))) =
      named_in namespace tag ++ found_in namespace children ++ found_in namespace attributes
  found_in namespace (Node at word.Fragment (Then children End)) = found_in namespace children
  found_in namespace (Node at word.Container (Then expression End)) = found_in namespace expression
  found_in namespace (Node at word.Attr (Then name (Then (Node there word.Fragment parts) End))) = []
  found_in namespace (Node at word.Attr (Then name (Then expression End))) = found_in namespace expression
  found_in namespace (Node at word.Cond (Then condition (Then consequent (Then alternate End)))) =
      found_in namespace consequent ++ found_in namespace alternate
  found_in namespace (Node at word.Logical (Then operator (Then left (Then right End)))) =
      found_in namespace left ++ found_in namespace right
  found_in namespace (Node at word.Paren (Then expression End)) = found_in namespace expression
  found_in namespace (Node at word.Call (Then optional (Then callee (Then arguments End)))) = found_in namespace arguments
  found_in namespace
      (Node at word.Arrow (Then marked
      (Then is_async (Then params (Then (Node there word.Body (Then directives (Then (Listed statements) End))) End))))) =
      found_in_statements namespace statements
  found_in namespace (Node at word.Arrow (Then marked (Then is_async (Then params (Then body End))))) = found_in namespace body
  found_in namespace (Listed parts) = found_among namespace parts
  found_in namespace _ = []

  pub found_among : (namespace : List ℕ) → Pieces → List (List ℕ)
  found_among namespace End = []
  found_among namespace (Then part parts) = found_in namespace part ++ found_among namespace parts

  -- Of statements, those that return and those that are an expression are looked at.
  pub found_in_statements : (namespace : List ℕ) → Pieces → List (List ℕ)
  found_in_statements namespace End = []
  found_in_statements namespace (Then (Node at word.Return (Then expression End)) statements) =
      found_in namespace expression ++ found_in_statements namespace statements
  found_in_statements namespace (Then (Node at word.Expr (Then expression End)) statements) =
      found_in namespace expression ++ found_in_statements namespace statements
  found_in_statements namespace (Then statement statements) = found_in_statements namespace statements

abbrev pub is_single : (name : List ℕ) → List (List ℕ) → Bool
is_single name found = nat_le (length (filter (bytes_eq name) found)) 1

abbrev pub are_single : (found : List (List ℕ)) → Bool
are_single found = is_single (codes "enum") found && is_single (codes "plural") found && is_single (codes "pronoun") found

-- True of a node to which row F26 does not apply. The attributes of the element itself are not looked at.
abbrev pub keeps_fbt : Syntax → Bool
keeps_fbt (Node at word.Element
    (Then (Node there word.Opening (Then (Node tag word.Tag (Then (Said name) End)) attributes)) (Then children closing))) =
    if is_fbt name then are_single (found_in name children) else true
keeps_fbt (Node at word.Element
    (Then (Node there word.Opening (Then (Node tag word.Id (Then (Said name) End)) attributes)) (Then children closing))) =
    if is_fbt name then are_single (found_in name children) else true
keeps_fbt _ = true
