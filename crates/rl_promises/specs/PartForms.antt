-- Forms of parts that the walks for stops and skips ask for.
use Rattle.std.specs.Prelude.{ℕ, Bool, true, false, Option, Some, None, List}
use Rattle.rl_model.specs.Actions.{Label}
use Rattle.rl_model.specs.Applied.{deletes}
use Rattle.rl_model.specs.Statements.{is_using}
use Rattle.rl_syntax.specs.Syntax.{Syntax, Node, Listed, Said, Flag, Absent, Pieces, End, Then}
use Rattle.rl_syntax.specs.declared.word.Word.{Word}
use Rattle.rl_syntax.specs.declared.word.Word.TheVariants as word

-- True of one part, a text.
abbrev pub is_text_alone : Pieces → Bool
is_text_alone (Then (Said text) End) = true
is_text_alone _ = false

-- True of parts that begin with a text.
abbrev pub is_text_ahead : Pieces → Bool
is_text_ahead (Then (Said text) parts) = true
is_text_ahead _ = false

-- True of two parts of which the first is a text.
abbrev pub is_text_and_tree : Pieces → Bool
is_text_and_tree (Then (Said text) (Then tree End)) = true
is_text_and_tree _ = false

-- True of three parts of which the first is a flag.
abbrev pub is_flag_and_trees : Pieces → Bool
is_flag_and_trees (Then (Flag flag) (Then tree (Then another End))) = true
is_flag_and_trees _ = false

-- True of four parts of which the first is a flag.
abbrev pub is_flag_and_three : Pieces → Bool
is_flag_and_three (Then (Flag flag) (Then tree (Then another (Then third End)))) = true
is_flag_and_three _ = false

-- The two lists that are the parts.
abbrev pub two_lists : Pieces → Option (Pieces × Pieces)
two_lists (Then (Listed items) (Then (Listed others) End)) = Some (items, others)
two_lists _ = None

-- The quasis and the expressions of a template, by its word and parts.
abbrev pub template_parts : Word → Pieces → Option (Pieces × Pieces)
template_parts word.Template parts = two_lists parts
template_parts _ parts = None

-- As `template_parts`, of a tree.
abbrev pub template_lists : Syntax → Option (Pieces × Pieces)
template_lists (Node at w parts) = template_parts w parts
template_lists _ = None

-- The list that is the only part.
abbrev pub list_alone : Pieces → Option Pieces
list_alone (Then (Listed items) End) = Some items
list_alone _ = None

-- The label that a jump says in its part, which is a text or absent.
abbrev pub label_in : Syntax → Option Label
label_in (Said label) = Some (Some label)
label_in Absent = Some None
label_in _ = None

-- The label of a jump by its parts.
abbrev pub jump_label : Pieces → Option Label
jump_label (Then label End) = label_in label
jump_label _ = None

-- The list that is the second of two parts.
abbrev pub second_list : Pieces → Option Pieces
second_list (Then first (Then (Listed items) End)) = Some items
second_list _ = None

-- The statements of a body, by its word and parts.
abbrev pub body_parts : Word → Pieces → Option Pieces
body_parts word.Body parts = second_list parts
body_parts _ parts = None

-- As `body_parts`, of a tree.
abbrev pub body_statements : Syntax → Option Pieces
body_statements (Node at w parts) = body_parts w parts
body_statements _ = None

-- A tree, and the list behind it, that are the parts.
abbrev pub tree_and_list : Pieces → Option (Syntax × Pieces)
tree_and_list (Then tree (Then (Listed items) End)) = Some (tree, items)
tree_and_list _ = None

-- The test and the statements of a case, by its word and parts.
abbrev pub case_parts : Word → Pieces → Option (Syntax × Pieces)
case_parts word.Case parts = tree_and_list parts
case_parts _ parts = None

-- As `case_parts`, of a tree.
abbrev pub case_in : Syntax → Option (Syntax × Pieces)
case_in (Node at w parts) = case_parts w parts
case_in _ = None

-- Two trees that are the parts.
abbrev pub two_trees : Pieces → Option (Syntax × Syntax)
two_trees (Then tree (Then another End)) = Some (tree, another)
two_trees _ = None

-- The parameter and the body of a `catch`, by its word and parts.
abbrev pub catch_parts : Word → Pieces → Option (Syntax × Syntax)
catch_parts word.Catch parts = two_trees parts
catch_parts _ parts = None

-- As `catch_parts`, of a tree.
abbrev pub catch_in : Syntax → Option (Syntax × Syntax)
catch_in (Node at w parts) = catch_parts w parts
catch_in _ = None

-- True of the word of a loop.
abbrev pub loops : Word → Bool
loops word.While = true
loops word.Dowhile = true
loops word.For = true
loops word.Forin = true
loops word.Forof = true
loops _ = false

-- As `deletes` of rl_model, of a node by its word.
abbrev pub node_deletes : Word → Pieces → Bool
node_deletes word.Paren (Then expression End) = deletes expression
node_deletes word.Member parts = true
node_deletes word.Index parts = true
node_deletes word.Privatemember parts = true
node_deletes _ parts = false

-- True of the word of a wrapper.
abbrev pub wraps : Word → Bool
wraps word.As = true
wraps word.Satisfies = true
wraps word.Assert = true
wraps word.Nonnull = true
wraps _ = false

-- True of the word of a target that is left out in the head of a loop.
abbrev pub loses_head : Word → Bool
loses_head word.Privatemember = true
loses_head w = wraps w

-- True of the word of a name, a text or a number.
abbrev pub names_key : Word → Bool
names_key word.Name = true
names_key word.Str = true
names_key word.Num = true
names_key _ = false

-- True of the word of a node that may stand in brackets: an expression.
abbrev pub fits_brackets : Word → Bool
fits_brackets word.Name = false
fits_brackets word.Private = false
fits_brackets _ = true

-- The raw text of a quasi, and the cooked one, by its word and parts.
abbrev pub quasi_parts : Word → Pieces → Option (List ℕ × Syntax)
quasi_parts word.Quasi (Then (Said raw) (Then cooked End)) = Some (raw, cooked)
quasi_parts _ parts = None

-- As `quasi_parts`, of a tree.
abbrev pub quasi_in : Syntax → Option (List ℕ × Syntax)
quasi_in (Node at w parts) = quasi_parts w parts
quasi_in _ = None

-- True of a declaration by `using` or `await using`, by its word and parts.
abbrev pub declares_using : Word → Pieces → Bool
declares_using word.Var (Then (Said kind) declarators) = is_using kind
declares_using _ parts = false

-- The list and the tree that are the parts.
abbrev pub list_and_tree : Pieces → Option (Pieces × Syntax)
list_and_tree (Then (Listed items) (Then tree End)) = Some (items, tree)
list_and_tree _ = None
