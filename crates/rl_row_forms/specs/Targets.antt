-- The rows of expressions, patterns and elements, as tests: true where none applies.
use Rattle.std.specs.Prelude.{ℕ, Bool, true, false, ◌&&◌, ◌||◌, not, List, codes}
use Rattle.std.specs.Str.{bytes_eq}
use Rattle.rl_text.specs.Numeral.{is_numeral}
use Rattle.rl_code.specs.Parts.{first, only, said_only}
use Rattle.rl_model.specs.Applied.{deletes, has_colon, is_plain_name}
use Rattle.rl_model.specs.Shapes.{is_logical}
use Rattle.rl_row_forms.specs.Quasis.{are_raw_among}
use Rattle.rl_row_forms.specs.Shaped.{clear_flag, first_said, items_in, node_in, said_in, said_pair}
use Rattle.rl_row_forms.specs.declared.above.Above.{Above}
use Rattle.rl_row_forms.specs.declared.above.Use.{Use}
use Rattle.rl_row_forms.specs.declared.above.Use.TheVariants as uses
use Rattle.rl_semantic.specs.Items.{of_item}
use Rattle.rl_syntax.specs.Syntax.{Syntax, Node, Listed, Said, Pieces, End, Then}
use Rattle.rl_syntax.specs.declared.word.Word.{Word}
use Rattle.rl_syntax.specs.declared.word.Word.TheVariants as word

abbrev pub is_equals : (operator : List ℕ) → Bool
is_equals operator = bytes_eq operator (codes "=")

-- A node that is assigned, by its word.
abbrev pub clear_assigned_word : (operator : List ℕ) → Word → Bool
clear_assigned_word operator word.Privatemember = not (is_equals operator)
clear_assigned_word operator word.Arraytarget = is_equals operator
clear_assigned_word operator word.Objecttarget = is_equals operator
clear_assigned_word operator _ = true

abbrev pub clear_assigned : (operator : List ℕ) → Syntax → Bool
clear_assigned operator target = of_item true (λ n. clear_assigned_word operator n.1.0) (node_in target)

-- The target of an assignment of three parts.
abbrev pub clear_assigned_in : (operator : List ℕ) → Pieces → Bool
clear_assigned_in operator (Then first (Then (Node there word.Privatemember parts) (Then right End))) = not (is_equals operator)
clear_assigned_in operator (Then first (Then (Node there word.Arraytarget parts) (Then right End))) = is_equals operator
clear_assigned_in operator (Then first (Then (Node there word.Objecttarget parts) (Then right End))) = is_equals operator
clear_assigned_in operator _ = true

abbrev pub clear_operator : (operator : List ℕ) → Pieces → Bool
clear_operator operator parts = not (is_logical operator) && clear_assigned_in operator parts

-- An `assign` node.
abbrev pub clear_assign : Pieces → Bool
clear_assign parts = of_item true (λ operator. clear_operator operator parts) (first_said parts)

abbrev pub clear_rest_target : (rest : Bool) → Syntax → Bool
clear_rest_target rest target = not (rest && not (is_plain_name target))

-- A `rest` node.
abbrev pub clear_rest : (rest : Bool) → Pieces → Bool
clear_rest rest parts = of_item true (clear_rest_target rest) (only parts)

-- The parts of a `unary` node.
abbrev pub clear_argument : (operator : List ℕ) → (argument : Syntax) → Bool
clear_argument operator argument = not (bytes_eq operator (codes "delete") && not (deletes argument))

-- A `unary` node.
abbrev pub clear_unary : Pieces → Bool
clear_unary parts = of_item true (λ p. clear_argument p.0 p.1) (said_pair parts)

abbrev pub clear_quasis : Syntax → Bool
clear_quasis quasis = of_item true are_raw_among (items_in quasis)

-- The template of a `tagged` node, by its word.
abbrev pub clear_template_node : Word → Pieces → Bool
clear_template_node word.Template parts = of_item true clear_quasis (first parts)
clear_template_node _ parts = true

abbrev pub clear_template : Syntax → Bool
clear_template template = of_item true (λ n. clear_template_node n.1.0 n.1.1) (node_in template)

-- A `tagged` node.
abbrev pub clear_tagged : Pieces → Bool
clear_tagged (Then tag (Then (Node there word.Template (Then (Listed quasis) parts)) End)) = are_raw_among quasis
clear_tagged _ = true

-- A `privatemember` node, by its use.
abbrev pub clear_private : Use → Bool
clear_private uses.Equals = true
clear_private _ = false

-- A wrapper, by its use.
abbrev pub clear_wrapped : Use → Bool
clear_wrapped uses.Reads = true
clear_wrapped _ = false

-- The name of an attribute.
abbrev pub clear_attribute : Pieces → Bool
clear_attribute parts = of_item true (λ name. not (has_colon name)) (said_only parts)

abbrev pub clear_spaced : (namespace name : List ℕ) → Bool
clear_spaced namespace name = not (has_colon namespace || has_colon name)

abbrev pub clear_spaced_name : (namespace : List ℕ) → (name : Syntax) → Bool
clear_spaced_name namespace name = of_item true (clear_spaced namespace) (said_in name)

abbrev pub clear_spaced_pair : (namespace name : Syntax) → Bool
clear_spaced_pair namespace name = of_item true (λ s. clear_spaced_name s name) (said_in namespace)

-- A tag with a namespace.
abbrev pub clear_spaced_tag : Pieces → Bool
clear_spaced_tag (Then (Said namespace) (Then (Said name) End)) = clear_spaced namespace name
clear_spaced_tag _ = true

-- A `num` node.
abbrev pub clear_number : Pieces → Bool
clear_number parts = of_item true is_numeral (said_only parts)

-- A node of an expression, a pattern or an element, by its word.
abbrev pub clear_expression : Above → Word → Pieces → Bool
clear_expression a word.Assign parts = clear_assign parts
clear_expression a word.Keyedpat parts = clear_flag parts
clear_expression a word.Keyed parts = clear_flag parts
clear_expression a word.Rest parts = clear_rest a.rest parts
clear_expression a word.Unary parts = clear_unary parts
clear_expression a word.Tagged parts = clear_tagged parts
clear_expression a word.Privatemember parts = clear_private a.used
clear_expression a word.This parts = a.tag
clear_expression a word.As parts = clear_wrapped a.used
clear_expression a word.Satisfies parts = clear_wrapped a.used
clear_expression a word.Assert parts = clear_wrapped a.used
clear_expression a word.Nonnull parts = clear_wrapped a.used
clear_expression a word.Attrname parts = clear_attribute parts
clear_expression a word.Tagns parts = clear_spaced_tag parts
clear_expression a word.Num parts = clear_number parts
clear_expression a _ parts = true
