-- Tags of a namespace, by the parts in which they are looked for.
use Rattle.std.specs.Prelude.{ℕ, Bool, true, false, if◌then◌else◌, Option, Some, None, List, [], ◌∷◌, ◌++◌}
use Rattle.std.specs.Str.{bytes_eq}
use Rattle.rl_code.specs.Parts.{both, first, only, said_only}
use Rattle.rl_code.specs.Roles.{part_at}
use Rattle.rl_code.specs.declared.role.Part.TheVariants as part
use Rattle.rl_model.specs.Fbt.{are_single, found_in}
use Rattle.rl_model.specs.JsxText.{is_fbt}
use Rattle.rl_row_forms.specs.Shaped.{fourth, node_in, said_in}
use Rattle.rl_rows.specs.declared.tags.Look.{Look}
use Rattle.rl_rows.specs.declared.tags.Look.TheVariants as look
use Rattle.rl_semantic.specs.Items.{of_item}
use Rattle.rl_syntax.specs.Syntax.{Syntax, Node, Listed, Said, Pieces, End, Then}
use Rattle.rl_syntax.specs.declared.word.Word.{Word}
use Rattle.rl_syntax.specs.declared.word.Word.TheVariants as word

-- The parts in which tags are looked for, by the word of the node.
abbrev pub look_of : Word → Look
look_of word.Element = look.Element
look_of word.Fragment = look.Part part.Only
look_of word.Container = look.Part part.Only
look_of word.Paren = look.Part part.Only
look_of word.Attr = look.Attribute
look_of word.Cond = look.Branches
look_of word.Logical = look.Branches
look_of word.Call = look.Part part.Last
look_of word.Arrow = look.Arrow
look_of _ = look.Nothing

-- The tag and the attributes of an opening.
abbrev pub opening_of : Word → Pieces → Option (Syntax × Syntax)
opening_of word.Opening parts = both parts
opening_of _ parts = None

abbrev pub opening_in : Syntax → Option (Syntax × Syntax)
opening_in opening = of_item None (λ n. opening_of n.1.0 n.1.1) (node_in opening)

abbrev pub two_said : (first : List ℕ) → (second : Syntax) → Option (List ℕ × List ℕ)
two_said first second = of_item None (λ text. Some (first, text)) (said_in second)

-- Two parts that are texts.
abbrev pub said_both : Pieces → Option (List ℕ × List ℕ)
said_both (Then (Said first) (Then (Said second) End)) = Some (first, second)
said_both _ = None

-- The namespace and the name of a tag.
abbrev pub spaced_of : Word → Pieces → Option (List ℕ × List ℕ)
spaced_of word.Tagns parts = said_both parts
spaced_of _ parts = None

abbrev pub spaced_in : Syntax → Option (List ℕ × List ℕ)
spaced_in tag = of_item None (λ n. spaced_of n.1.0 n.1.1) (node_in tag)

abbrev pub same_named : (namespace first name : List ℕ) → List (List ℕ)
same_named namespace first name = if bytes_eq first namespace then name ∷ [] else []

-- As `named_in`.
abbrev pub named : (namespace : List ℕ) → (tag : Syntax) → List (List ℕ)
named namespace tag = of_item [] (λ p. same_named namespace p.0 p.1) (spaced_in tag)

-- The tags of an element, by its opening and its children.
abbrev pub found_in_opening : (namespace : List ℕ) → (children : Syntax) → (opening : Syntax × Syntax) → List (List ℕ)
found_in_opening namespace children opening =
    named namespace opening.0 ++ found_in namespace children ++ found_in namespace opening.1

abbrev pub found_in_element : (namespace : List ℕ) → (opening children : Syntax) → List (List ℕ)
found_in_element namespace opening children = of_item [] (found_in_opening namespace children) (opening_in opening)

-- The tags of an element, by its parts.
abbrev pub found_in_parts : (namespace : List ℕ) → Pieces → List (List ℕ)
found_in_parts namespace (Then (Node there word.Opening (Then tag (Then attributes End))) (Then children closing)) =
    named namespace tag ++ found_in namespace children ++ found_in namespace attributes
found_in_parts namespace _ = []

-- True of the word of a fragment.
abbrev pub is_fragment_word : Word → Bool
is_fragment_word word.Fragment = true
is_fragment_word _ = false

abbrev pub is_fragment : Syntax → Bool
is_fragment value = of_item false (λ n. is_fragment_word n.1.0) (node_in value)

-- The value of an attribute; a fragment is not looked into.
abbrev pub found_in_value : (namespace : List ℕ) → (value : Syntax) → List (List ℕ)
found_in_value namespace value = if is_fragment value then [] else found_in namespace value

-- The expression that a statement returns or is.
abbrev pub returned_of : Word → Pieces → Option Syntax
returned_of word.Return parts = only parts
returned_of word.Expr parts = only parts
returned_of _ parts = None

abbrev pub returned_in : Syntax → Option Syntax
returned_in statement = of_item None (λ n. returned_of n.1.0 n.1.1) (node_in statement)

abbrev pub found_returned : (namespace : List ℕ) → Syntax → List (List ℕ)
found_returned namespace statement = of_item [] (found_in namespace) (returned_in statement)

-- As `found_in_statements`.
abbrev pub found_among_statements : (namespace : List ℕ) → Pieces → List (List ℕ)
found_among_statements namespace End = []
found_among_statements namespace (Then statement statements) =
    found_returned namespace statement ++ found_among_statements namespace statements

-- The items of the second of two parts.
abbrev pub second_items : Pieces → Option Pieces
second_items (Then first (Then (Listed items) End)) = Some items
second_items _ = None

-- The statements of a body.
abbrev pub statements_of : Word → Pieces → Option Pieces
statements_of word.Body parts = second_items parts
statements_of _ parts = None

abbrev pub statements_in : Syntax → Option Pieces
statements_in body = of_item None (λ n. statements_of n.1.0 n.1.1) (node_in body)

-- The body of an arrow function.
abbrev pub found_in_body : (namespace : List ℕ) → (body : Syntax) → List (List ℕ)
found_in_body namespace body = of_item (found_in namespace body) (found_among_statements namespace) (statements_in body)

abbrev pub found_in_two : (namespace : List ℕ) → (first second : Syntax) → List (List ℕ)
found_in_two namespace first second = found_in namespace first ++ found_in namespace second

-- The second and the third of three parts.
abbrev pub last_two : Pieces → Option (Syntax × Syntax)
last_two (Then first (Then second (Then third End))) = Some (second, third)
last_two _ = None

-- The tags in a node, by the parts in which they are looked for.
abbrev pub found_by : (namespace : List ℕ) → Look → Pieces → List (List ℕ)
found_by namespace look.Element parts = found_in_parts namespace parts
found_by namespace (look.Part p) parts = of_item [] (found_in namespace) (part_at p parts)
found_by namespace look.Attribute parts = of_item [] (λ p. found_in_value namespace p.1) (both parts)
found_by namespace look.Branches parts = of_item [] (λ p. found_in_two namespace p.0 p.1) (last_two parts)
found_by namespace look.Arrow parts = of_item [] (found_in_body namespace) (fourth parts)
found_by namespace look.Nothing parts = []

-- True of names among which `name` stands at most once, or not at all, if it has stood once before them.
abbrev pub is_single_yet : (once : Bool) → (name : List ℕ) → List (List ℕ) → Bool
is_single_yet once name [] = true
is_single_yet once name (text ∷ texts) =
    if bytes_eq name text then (if once then false else is_single_yet true name texts) else is_single_yet once name texts

-- The name of the tag of an element.
abbrev pub tag_name_of : Word → Pieces → Option (List ℕ)
tag_name_of word.Tag parts = said_only parts
tag_name_of word.Id parts = said_only parts
tag_name_of _ parts = None

abbrev pub tag_name_in : Syntax → Option (List ℕ)
tag_name_in tag = of_item None (λ n. tag_name_of n.1.0 n.1.1) (node_in tag)

-- The name of the tag of an opening.
abbrev pub opening_name_of : Word → Pieces → Option (List ℕ)
opening_name_of word.Opening parts = of_item None tag_name_in (first parts)
opening_name_of _ parts = None

abbrev pub opening_name_in : Syntax → Option (List ℕ)
opening_name_in opening = of_item None (λ n. opening_name_of n.1.0 n.1.1) (node_in opening)

-- The name of an element and its children, by its opening.
abbrev pub element_of : (opening children : Syntax) → Option (List ℕ × Syntax)
element_of opening children = of_item None (λ name. Some (name, children)) (opening_name_in opening)

-- The name of an element and its children, by its parts.
abbrev pub element_in : Pieces → Option (List ℕ × Syntax)
element_in (Then (Node there word.Opening (Then (Node at word.Tag (Then (Said name) End)) attributes)) (Then children closing)) =
    Some (name, children)
element_in (Then (Node there word.Opening (Then (Node at word.Id (Then (Said name) End)) attributes)) (Then children closing)) =
    Some (name, children)
element_in _ = None

abbrev pub named_element_of : Word → Pieces → Option (List ℕ × Syntax)
named_element_of word.Element parts = element_in parts
named_element_of _ parts = None

-- The name of an element and its children.
abbrev pub named_element : Syntax → Option (List ℕ × Syntax)
named_element node = of_item None (λ n. named_element_of n.1.0 n.1.1) (node_in node)

-- The children of an element, by its name.
abbrev pub clear_children : (name : List ℕ) → (children : Syntax) → Bool
clear_children name children = if is_fbt name then are_single (found_in name children) else true

-- A node.
abbrev pub clear_fbt : Syntax → Bool
clear_fbt node = of_item true (λ e. clear_children e.0 e.1) (named_element node)
