-- The rows: kinds of diagnostics. An `F` row refuses a node, and lowering goes on; an `S` row ends it at once.
use Rattle.std.specs.Prelude.{ℕ, List, Option, Some, None, codes, if◌then◌else◌}
use Rattle.std.specs.Str.{bytes_eq}
use Rattle.rl_base.specs.declared.row.Category.{Category}
use Rattle.rl_base.specs.declared.row.Category.TheVariants as categories
use Rattle.rl_base.specs.declared.row.Row.{Row}
use Rattle.rl_base.specs.declared.row.Row.TheVariants as rows

-- The category that a line prints.
abbrev pub category_of : Row → Category
category_of rows.F1 = categories.Todo
category_of rows.F2 = categories.UnsupportedSyntax
category_of rows.F3 = categories.Todo
category_of rows.F4 = categories.Todo
category_of rows.F5 = categories.Todo
category_of rows.F6 = categories.Syntax
category_of rows.F7 = categories.Syntax
category_of rows.F8 = categories.Todo
category_of rows.F9 = categories.Todo
category_of rows.F10 = categories.Todo
category_of rows.F11 = categories.Todo
category_of rows.F12 = categories.Syntax
category_of rows.F13 = categories.Todo
category_of rows.F14 = categories.Todo
category_of rows.F15 = categories.Todo
category_of rows.F16 = categories.Todo
category_of rows.F17 = categories.Todo
category_of rows.F18 = categories.Todo
category_of rows.F19 = categories.Todo
category_of rows.F20 = categories.Todo
category_of rows.F21 = categories.Todo
category_of rows.F22 = categories.Todo
category_of rows.F23 = categories.Todo
category_of rows.F24 = categories.Todo
category_of rows.F25 = categories.Todo
category_of rows.F26 = categories.Todo
category_of rows.F27 = categories.Syntax
category_of rows.F28 = categories.Todo
category_of rows.F29 = categories.Todo
category_of rows.F30 = categories.Todo
category_of rows.F31 = categories.Todo
category_of rows.F32 = categories.Todo
category_of rows.F33 = categories.Todo
category_of rows.F34 = categories.Todo
category_of rows.F35 = categories.Todo
category_of rows.F36 = categories.UnsupportedSyntax
category_of rows.F37 = categories.UnsupportedSyntax
category_of rows.F38 = categories.Syntax
category_of rows.F39 = categories.Todo
category_of rows.F40 = categories.Todo
category_of rows.F41 = categories.Todo
category_of rows.F42 = categories.Todo
category_of rows.F43 = categories.Todo
category_of rows.F44 = categories.Todo
category_of rows.F45 = categories.Todo
category_of rows.F46 = categories.Todo
category_of rows.S1 = categories.Syntax
category_of rows.S2 = categories.Syntax
category_of rows.S3 = categories.Todo
category_of rows.S4 = categories.Invariant
category_of rows.S5 = categories.Invariant
category_of rows.S6 = categories.Invariant
category_of rows.S7 = categories.Invariant

-- The name that a line prints.
abbrev pub row_name : Row → List ℕ
row_name rows.F1 = codes "F1"
row_name rows.F2 = codes "F2"
row_name rows.F3 = codes "F3"
row_name rows.F4 = codes "F4"
row_name rows.F5 = codes "F5"
row_name rows.F6 = codes "F6"
row_name rows.F7 = codes "F7"
row_name rows.F8 = codes "F8"
row_name rows.F9 = codes "F9"
row_name rows.F10 = codes "F10"
row_name rows.F11 = codes "F11"
row_name rows.F12 = codes "F12"
row_name rows.F13 = codes "F13"
row_name rows.F14 = codes "F14"
row_name rows.F15 = codes "F15"
row_name rows.F16 = codes "F16"
row_name rows.F17 = codes "F17"
row_name rows.F18 = codes "F18"
row_name rows.F19 = codes "F19"
row_name rows.F20 = codes "F20"
row_name rows.F21 = codes "F21"
row_name rows.F22 = codes "F22"
row_name rows.F23 = codes "F23"
row_name rows.F24 = codes "F24"
row_name rows.F25 = codes "F25"
row_name rows.F26 = codes "F26"
row_name rows.F27 = codes "F27"
row_name rows.F28 = codes "F28"
row_name rows.F29 = codes "F29"
row_name rows.F30 = codes "F30"
row_name rows.F31 = codes "F31"
row_name rows.F32 = codes "F32"
row_name rows.F33 = codes "F33"
row_name rows.F34 = codes "F34"
row_name rows.F35 = codes "F35"
row_name rows.F36 = codes "F36"
row_name rows.F37 = codes "F37"
row_name rows.F38 = codes "F38"
row_name rows.F39 = codes "F39"
row_name rows.F40 = codes "F40"
row_name rows.F41 = codes "F41"
row_name rows.F42 = codes "F42"
row_name rows.F43 = codes "F43"
row_name rows.F44 = codes "F44"
row_name rows.F45 = codes "F45"
row_name rows.F46 = codes "F46"
row_name rows.S1 = codes "S1"
row_name rows.S2 = codes "S2"
row_name rows.S3 = codes "S3"
row_name rows.S4 = codes "S4"
row_name rows.S5 = codes "S5"
row_name rows.S6 = codes "S6"
row_name rows.S7 = codes "S7"

abbrev pub category_name : Category → List ℕ
category_name categories.Todo = codes "Todo"
category_name categories.Syntax = codes "Syntax"
category_name categories.UnsupportedSyntax = codes "UnsupportedSyntax"
category_name categories.Invariant = codes "Invariant"

-- The message of `S7`, which its word chooses.
abbrev pub continue_message : (word : List ℕ) → List ℕ
continue_message word =
    if bytes_eq word (codes "label") then codes "Continue may only refer to a labeled loop"
    else codes "Expected a loop to be in scope for continue"

-- The message, with a `%` in each place of the word.
abbrev pub message_template : Row → (word : List ℕ) → List ℕ
message_template rows.F1 word = codes "Unsupported declaration type for hoisting"
message_template rows.F2 word = codes "The 'eval' function is not supported"
message_template rows.F3 word = codes "(BuildHIR::lowerMemberExpression) Handle private field property"
message_template rows.F4 word = codes "(BuildHIR::lowerExpression) Handle Import expressions"
message_template rows.F5 word = codes "(BuildHIR::lowerExpression) Handle PrivateName expressions"
message_template rows.F6 word = codes "Cannot reassign a `const` variable"
message_template rows.F7 word = codes "Expected `const` declaration not to be reassigned"
message_template rows.F8 word = codes "(BuildHIR::lowerAssignment) Handle computed properties in ObjectPattern"
message_template rows.F9 word = codes "Unsupported key type in ObjectExpression"
message_template rows.F10 word = codes "(BuildHIR::lowerAssignment) Handle % rest element in ObjectPattern"
message_template rows.F11 word = codes "(BuildHIR::lowerAssignment) Handle PrivateName properties in MemberExpression"
message_template rows.F12 word = codes "Only object properties can be deleted"
message_template rows.F13 word = codes "(BuildHIR::lowerExpression) Handle tagged template where cooked value is different from raw value"
message_template rows.F14 word = codes "(BuildHIR::lowerExpression) Handle YieldExpression expressions"
message_template rows.F15 word = codes "(BuildHIR::lowerExpression) Handle MetaProperty expressions other than import.meta"
message_template rows.F16 word = codes "(BuildHIR::lowerExpression) Handle ClassExpression expressions"
message_template rows.F17 word = codes "(BuildHIR::lowerExpression) Handle Super expressions"
message_template rows.F18 word = codes "(BuildHIR::lowerExpression) Handle ThisExpression expressions"
message_template rows.F19 word = codes "(BuildHIR::lowerExpression) Handle UpdateExpression to variables captured within lambdas."
message_template rows.F20 word = codes "UpdateExpression where argument is a global is not yet supported"
message_template rows.F21 word = codes "(BuildHIR::lowerExpression) Support UpdateExpression where argument is a global"
message_template rows.F22 word = codes "UpdateExpression with unsupported argument type"
message_template rows.F23 word = codes "Logical assignment operators (||=, &&=, ??=) are not yet supported"
message_template rows.F24 word = codes "Compound assignment to complex pattern is not yet supported"
message_template rows.F25 word = codes "(BuildHIR::lowerExpression) Unexpected colon in attribute name `%`"
message_template rows.F26 word = codes "Support duplicate fbt tags"
message_template rows.F27 word = codes "Expected JSXNamespacedName to have no colons in the namespace or name"
message_template rows.F28 word = codes "(BuildHIR::lowerExpression) Handle % functions in ObjectExpression"
message_template rows.F29 word = codes "(BuildHIR::node.lowerReorderableExpression) Expression type `%` cannot be safely reordered"
message_template rows.F30 word = codes "(BuildHIR::lowerStatement) Support ThrowStatement inside of try/catch"
message_template rows.F31 word = codes "(BuildHIR::lowerStatement) Handle non-variable initialization in ForStatement"
message_template rows.F32 word = codes "(BuildHIR::lowerStatement) Handle empty test in ForStatement"
message_template rows.F33 word = codes "(BuildHIR::lowerStatement) Handle for-await loops"
message_template rows.F34 word = codes "(BuildHIR::lowerStatement) Handle TryStatement without a catch clause"
message_template rows.F35 word = codes "(BuildHIR::lowerStatement) Handle TryStatement with a finalizer ('finally') clause"
message_template rows.F36 word = codes "JavaScript 'with' syntax is not supported"
message_template rows.F37 word = codes "Inline `class` declarations are not supported"
message_template rows.F38 word = codes "JavaScript `import` and `export` statements may only appear at the top level of a module"
message_template rows.F39 word = codes "(BuildHIR::lowerStatement) Handle var kinds in VariableDeclaration"
message_template rows.F40 word = codes "Support local variables named `fbt`"
message_template rows.F41 word = codes "Support functions with unreachable code that may contain hoisted declarations"
message_template rows.F42 word = codes "(BuildHIR::lowerExpression) Handle BigIntLiteral expressions"
message_template rows.F43 word = codes "Only whole numbers up to 2^53 are supported"
message_template rows.F44 word = codes "Non-null assertion inside an optional chain"
message_template rows.F45 word = codes "Wrapped target in a loop head"
message_template rows.F46 word = codes "JSX spread child"
message_template rows.S1 word = codes "Expected a non-reserved identifier name"
message_template rows.S2 word = codes "Expected a non-reserved identifier name"
message_template rows.S3 word = codes "[FindContextIdentifiers] Cannot handle Object destructuring assignment target %"
message_template rows.S4 word = codes "(BuildHIR::lowerAssignment) Could not find binding for declaration."
message_template rows.S5 word = codes "<%> tags should be module-level imports"
message_template rows.S6 word = codes "Expected a loop or switch to be in scope for break"
message_template rows.S7 word = continue_message word

-- The help text of the rows that have one, with a `%` in each place of the word and a `#` in each place of its tag.
abbrev pub help_template : Row → Option (List ℕ)
help_template rows.F1 = Some (codes "variable \"%\" declared with ClassDeclaration")
help_template rows.F2 = Some (codes "Eval is an anti-pattern in JavaScript, and the code executed cannot be evaluated by React Compiler")
help_template rows.F6 = Some (codes "`%` is declared as const")
help_template rows.F26 = Some (codes "Support `<#>` tags with multiple `<%>` values")
help_template rows.F27 = Some (codes "Got %")
help_template rows.F36 = Some (codes "'with' syntax is considered deprecated and removed from JavaScript standards, consider alternatives")
help_template rows.F37 = Some (codes "Move class declarations outside of components/hooks")
help_template rows.F40 = Some (codes "Local variables named `fbt` may conflict with the fbt plugin and are not yet supported")
help_template rows.S1 = Some (codes "`%` is a reserved word in JavaScript and cannot be used as an identifier name")
help_template rows.S2 = Some (codes "`%` is a reserved word in JavaScript and cannot be used as an identifier name")
help_template _ = None
