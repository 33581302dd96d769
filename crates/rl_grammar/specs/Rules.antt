-- The grammar of units as one table, from the kind of a part and the word of a node to the fields of the node.
-- Written by tools/syntax.py from tools/grammar.txt.
use Rattle.std.specs.Prelude.{Option, Some, None, List, [], ◌∷◌}
use Rattle.rl_grammar.specs.declared.kind.Field.{Field}
use Rattle.rl_grammar.specs.declared.kind.Field.TheVariants as field
use Rattle.rl_grammar.specs.declared.kind.Kind.{Kind}
use Rattle.rl_grammar.specs.declared.kind.Kind.TheVariants as kind
use Rattle.rl_syntax.specs.declared.word.Word.{Word}
use Rattle.rl_syntax.specs.declared.word.Word.TheVariants as word

-- The first of two rules that there is.
abbrev pub first_rule : Option (List Field) → Option (List Field) → Option (List Field)
first_rule (Some fields) other = Some fields
first_rule None other = other

-- The fields of the kind `Unit`, by the word of a node.
abbrev pub unit_rule : Word → Option (List Field)
unit_rule word.Unit = Some (field.Many kind.Entity ∷ field.One kind.Program ∷ [])
unit_rule _ = None

-- The fields of the kind `Entity`, by the word of a node.
abbrev pub entity_rule : Word → Option (List Field)
entity_rule word.Entity = Some (field.One kind.Text ∷ field.One kind.ScalarValue ∷ [])
entity_rule _ = None

-- The fields of the kind `Program`, by the word of a node.
abbrev pub program_rule : Word → Option (List Field)
program_rule word.Program = Some (field.Many kind.Statement ∷ [])
program_rule _ = None

-- The fields of the kind `BlockStatement`, by the word of a node.
abbrev pub block_statement_rule : Word → Option (List Field)
block_statement_rule word.Block = Some (field.Many kind.Statement ∷ [])
block_statement_rule _ = None

-- The fields of the kind `SwitchCase`, by the word of a node.
abbrev pub switch_case_rule : Word → Option (List Field)
switch_case_rule word.Case = Some (field.Maybe kind.Expression ∷ field.Many kind.Statement ∷ [])
switch_case_rule _ = None

-- The fields of the kind `CatchClause`, by the word of a node.
abbrev pub catch_clause_rule : Word → Option (List Field)
catch_clause_rule word.Catch = Some (field.Maybe kind.BindingPattern ∷ field.One kind.BlockStatement ∷ [])
catch_clause_rule _ = None

-- The fields of the kind `VariableDeclaration`, by the word of a node.
abbrev pub variable_declaration_rule : Word → Option (List Field)
variable_declaration_rule word.Var = Some (field.One kind.VariableKind ∷ field.Many kind.VariableDeclarator ∷ [])
variable_declaration_rule _ = None

-- The fields of the kind `VariableDeclarator`, by the word of a node.
abbrev pub variable_declarator_rule : Word → Option (List Field)
variable_declarator_rule word.Declarator = Some (field.One kind.BindingPattern ∷ field.Maybe kind.Expression ∷ [])
variable_declarator_rule _ = None

-- The fields of the kind `ClassElement`, by the word of a node.
abbrev pub class_element_rule : Word → Option (List Field)
class_element_rule word.Method = Some (field.One kind.FunctionExpression ∷ [])
class_element_rule word.Field = Some (field.Maybe kind.Expression ∷ [])
class_element_rule word.Static = Some (field.Many kind.Statement ∷ [])
class_element_rule _ = None

-- The fields of the kind `ImportSpecifier`, by the word of a node.
abbrev pub import_specifier_rule : Word → Option (List Field)
import_specifier_rule word.Default = Some (field.One kind.BindingIdentifier ∷ [])
import_specifier_rule word.Namespace = Some (field.One kind.BindingIdentifier ∷ [])
import_specifier_rule word.Named = Some (field.One kind.Text ∷ field.One kind.BindingIdentifier ∷ [])
import_specifier_rule _ = None

-- The fields of the kind `Arrow`, by the word of a node.
abbrev pub arrow_rule : Word → Option (List Field)
arrow_rule word.Arrow = Some (field.One kind.Flag ∷ field.One kind.Flag ∷ field.One kind.FormalParameters ∷ field.One kind.ArrowBody ∷ [])
arrow_rule _ = None

-- The fields of the kind `FunctionDeclaration`, by the word of a node.
abbrev pub function_declaration_rule : Word → Option (List Field)
function_declaration_rule word.Fundecl = Some (field.One kind.Flag ∷ field.One kind.Flag ∷ field.One kind.Flag ∷ field.Maybe kind.BindingIdentifier ∷ field.One kind.FormalParameters ∷ field.Maybe kind.FunctionBody ∷ [])
function_declaration_rule _ = None

-- The fields of the kind `FunctionExpression`, by the word of a node.
abbrev pub function_expression_rule : Word → Option (List Field)
function_expression_rule word.Funexpr = Some (field.One kind.Flag ∷ field.One kind.Flag ∷ field.One kind.Flag ∷ field.Maybe kind.BindingIdentifier ∷ field.One kind.FormalParameters ∷ field.One kind.FunctionBody ∷ [])
function_expression_rule _ = None

-- The fields of the kind `FormalParameters`, by the word of a node.
abbrev pub formal_parameters_rule : Word → Option (List Field)
formal_parameters_rule word.Params = Some (field.Many kind.FormalParameter ∷ field.Maybe kind.BindingRestElement ∷ [])
formal_parameters_rule _ = None

-- The fields of the kind `FormalParameter`, by the word of a node.
abbrev pub formal_parameter_rule : Word → Option (List Field)
formal_parameter_rule word.Param = Some (field.One kind.BindingPattern ∷ field.Maybe kind.Expression ∷ [])
formal_parameter_rule _ = None

-- The fields of the kind `BindingRestElement`, by the word of a node.
abbrev pub binding_rest_element_rule : Word → Option (List Field)
binding_rest_element_rule word.Rest = Some (field.One kind.BindingPattern ∷ [])
binding_rest_element_rule _ = None

-- The fields of the kind `FunctionBody`, by the word of a node.
abbrev pub function_body_rule : Word → Option (List Field)
function_body_rule word.Body = Some (field.Many kind.Text ∷ field.Many kind.Statement ∷ [])
function_body_rule _ = None

-- The fields of the kind `BindingIdentifier`, by the word of a node.
abbrev pub binding_identifier_rule : Word → Option (List Field)
binding_identifier_rule word.Bind = Some (field.One kind.Text ∷ field.Maybe kind.TypeAnnotation ∷ [])
binding_identifier_rule _ = None

-- The fields of the kind `TypeAnnotation`, by the word of a node.
abbrev pub type_annotation_rule : Word → Option (List Field)
type_annotation_rule word.Type = Some (field.One kind.TypeKind ∷ field.Many kind.IdentifierReference ∷ [])
type_annotation_rule _ = None

-- The fields of the kind `IdentifierReference`, by the word of a node.
abbrev pub identifier_reference_rule : Word → Option (List Field)
identifier_reference_rule word.Id = Some (field.One kind.Text ∷ [])
identifier_reference_rule _ = None

-- The fields of the kind `BindingProperty`, by the word of a node.
abbrev pub binding_property_rule : Word → Option (List Field)
binding_property_rule word.Keyedpat = Some (field.One kind.Flag ∷ field.One kind.PropertyKey ∷ field.One kind.BindingPatternMaybeDefault ∷ [])
binding_property_rule _ = None

-- The fields of the kind `TemplateLiteral`, by the word of a node.
abbrev pub template_literal_rule : Word → Option (List Field)
template_literal_rule word.Template = Some (field.Many kind.TemplateElement ∷ field.Many kind.Expression ∷ [])
template_literal_rule _ = None

-- The fields of the kind `TemplateElement`, by the word of a node.
abbrev pub template_element_rule : Word → Option (List Field)
template_element_rule word.Quasi = Some (field.One kind.Text ∷ field.Maybe kind.Text ∷ [])
template_element_rule _ = None

-- The fields of the kind `ObjectProperty`, by the word of a node.
abbrev pub object_property_rule : Word → Option (List Field)
object_property_rule word.Prop = Some (field.One kind.Flag ∷ field.One kind.PropertyKey ∷ field.One kind.Expression ∷ [])
object_property_rule word.Method = Some (field.One kind.Flag ∷ field.One kind.PropertyKey ∷ field.One kind.FunctionExpression ∷ [])
object_property_rule word.Get = Some (field.One kind.Flag ∷ field.One kind.PropertyKey ∷ field.One kind.FunctionExpression ∷ [])
object_property_rule word.Set = Some (field.One kind.Flag ∷ field.One kind.PropertyKey ∷ field.One kind.FunctionExpression ∷ [])
object_property_rule word.Spread = Some (field.One kind.Expression ∷ [])
object_property_rule _ = None

-- The fields of the kind `AssignmentTargetProperty`, by the word of a node.
abbrev pub assignment_target_property_rule : Word → Option (List Field)
assignment_target_property_rule word.Short = Some (field.One kind.IdentifierReference ∷ field.Maybe kind.Expression ∷ [])
assignment_target_property_rule word.Keyed = Some (field.One kind.Flag ∷ field.One kind.PropertyKey ∷ field.One kind.AssignmentTargetMaybeDefault ∷ [])
assignment_target_property_rule _ = None

-- The fields of the kind `AssignmentTargetRest`, by the word of a node.
abbrev pub assignment_target_rest_rule : Word → Option (List Field)
assignment_target_rest_rule word.Rest = Some (field.One kind.AssignmentTarget ∷ [])
assignment_target_rest_rule _ = None

-- The fields of the kind `JsxElement`, by the word of a node.
abbrev pub jsx_element_rule : Word → Option (List Field)
jsx_element_rule word.Element = Some (field.One kind.JsxOpeningElement ∷ field.Many kind.JsxChild ∷ field.Maybe kind.JsxClosingElement ∷ [])
jsx_element_rule _ = None

-- The fields of the kind `JsxFragment`, by the word of a node.
abbrev pub jsx_fragment_rule : Word → Option (List Field)
jsx_fragment_rule word.Fragment = Some (field.Many kind.JsxChild ∷ [])
jsx_fragment_rule _ = None

-- The fields of the kind `JsxOpeningElement`, by the word of a node.
abbrev pub jsx_opening_element_rule : Word → Option (List Field)
jsx_opening_element_rule word.Opening = Some (field.One kind.JsxElementName ∷ field.Many kind.JsxAttribute ∷ [])
jsx_opening_element_rule _ = None

-- The fields of the kind `JsxClosingElement`, by the word of a node.
abbrev pub jsx_closing_element_rule : Word → Option (List Field)
jsx_closing_element_rule word.Closing = Some []
jsx_closing_element_rule _ = None

-- The fields of the kind `JsxAttribute`, by the word of a node.
abbrev pub jsx_attribute_rule : Word → Option (List Field)
jsx_attribute_rule word.Attr = Some (field.One kind.JsxAttributeName ∷ field.Maybe kind.JsxAttributeValue ∷ [])
jsx_attribute_rule word.Attrspread = Some (field.One kind.Expression ∷ [])
jsx_attribute_rule _ = None

-- The fields of the kind `JsxAttributeName`, by the word of a node.
abbrev pub jsx_attribute_name_rule : Word → Option (List Field)
jsx_attribute_name_rule word.Attrname = Some (field.One kind.Text ∷ [])
jsx_attribute_name_rule word.Attrns = Some (field.One kind.Text ∷ field.One kind.Text ∷ [])
jsx_attribute_name_rule _ = None

-- The fields of the kind `Statement`, by the word of a node.
abbrev pub statement_rule : Word → Option (List Field)
statement_rule word.Empty = Some []
statement_rule word.Debugger = Some []
statement_rule word.Expr = Some (field.One kind.Expression ∷ [])
statement_rule word.Return = Some (field.Maybe kind.Expression ∷ [])
statement_rule word.Throw = Some (field.One kind.Expression ∷ [])
statement_rule word.Block = Some (field.Many kind.Statement ∷ [])
statement_rule word.If = Some (field.One kind.Expression ∷ field.One kind.Statement ∷ field.Maybe kind.Statement ∷ [])
statement_rule word.For = Some (field.Maybe kind.ForInit ∷ field.Maybe kind.Expression ∷ field.Maybe kind.Expression ∷ field.One kind.Statement ∷ [])
statement_rule word.While = Some (field.One kind.Expression ∷ field.One kind.Statement ∷ [])
statement_rule word.Dowhile = Some (field.One kind.Statement ∷ field.One kind.Expression ∷ [])
statement_rule word.Forin = Some (field.One kind.ForHead ∷ field.One kind.Expression ∷ field.One kind.Statement ∷ [])
statement_rule word.Forof = Some (field.One kind.Flag ∷ field.One kind.ForHead ∷ field.One kind.Expression ∷ field.One kind.Statement ∷ [])
statement_rule word.Switch = Some (field.One kind.Expression ∷ field.Many kind.SwitchCase ∷ [])
statement_rule word.Try = Some (field.One kind.BlockStatement ∷ field.Maybe kind.CatchClause ∷ field.Maybe kind.BlockStatement ∷ [])
statement_rule word.Break = Some (field.Maybe kind.Text ∷ [])
statement_rule word.Continue = Some (field.Maybe kind.Text ∷ [])
statement_rule word.Labeled = Some (field.One kind.Text ∷ field.One kind.Statement ∷ [])
statement_rule word.With = Some (field.One kind.Expression ∷ field.One kind.Statement ∷ [])
statement_rule word.Var = Some (field.One kind.VariableKind ∷ field.Many kind.VariableDeclarator ∷ [])
statement_rule word.Fundecl = Some (field.One kind.Flag ∷ field.One kind.Flag ∷ field.One kind.Flag ∷ field.Maybe kind.BindingIdentifier ∷ field.One kind.FormalParameters ∷ field.Maybe kind.FunctionBody ∷ [])
statement_rule word.Classdecl = Some (field.Maybe kind.BindingIdentifier ∷ field.Maybe kind.Expression ∷ field.Many kind.ClassElement ∷ [])
statement_rule word.Typealias = Some (field.One kind.BindingIdentifier ∷ field.One kind.TypeAnnotation ∷ [])
statement_rule word.Interface = Some (field.One kind.BindingIdentifier ∷ [])
statement_rule word.Enum = Some (field.One kind.BindingIdentifier ∷ [])
statement_rule word.Namespace = Some (field.One kind.BindingIdentifier ∷ [])
statement_rule word.Import = Some (field.One kind.Text ∷ field.Many kind.ImportSpecifier ∷ [])
statement_rule word.Export = Some (field.One kind.Statement ∷ [])
statement_rule word.Exportdefault = Some (field.One kind.ExportDefault ∷ [])
statement_rule word.Exportlist = Some (field.Many kind.IdentifierReference ∷ [])
statement_rule word.Exportfrom = Some (field.One kind.Text ∷ [])
statement_rule _ = None

-- The fields of the kind `BindingPattern`, by the word of a node.
abbrev pub binding_pattern_rule : Word → Option (List Field)
binding_pattern_rule word.Bind = Some (field.One kind.Text ∷ field.Maybe kind.TypeAnnotation ∷ [])
binding_pattern_rule word.Arraypat = Some (field.Many kind.BindingPatternElement ∷ field.Maybe kind.BindingRestElement ∷ [])
binding_pattern_rule word.Objectpat = Some (field.Many kind.BindingProperty ∷ field.Maybe kind.BindingRestElement ∷ [])
binding_pattern_rule _ = None

-- The fields of the kind `Expression`, by the word of a node.
abbrev pub expression_rule : Word → Option (List Field)
expression_rule word.Id = Some (field.One kind.Text ∷ [])
expression_rule word.Null = Some []
expression_rule word.Bool = Some (field.One kind.Flag ∷ [])
expression_rule word.Num = Some (field.One kind.Text ∷ [])
expression_rule word.Str = Some (field.One kind.Text ∷ [])
expression_rule word.Bigint = Some (field.One kind.Text ∷ [])
expression_rule word.Regexp = Some (field.One kind.Text ∷ field.One kind.Text ∷ [])
expression_rule word.Template = Some (field.Many kind.TemplateElement ∷ field.Many kind.Expression ∷ [])
expression_rule word.Tagged = Some (field.One kind.Expression ∷ field.One kind.TemplateLiteral ∷ [])
expression_rule word.Array = Some (field.Many kind.ArrayElement ∷ [])
expression_rule word.Object = Some (field.Many kind.ObjectProperty ∷ [])
expression_rule word.Unary = Some (field.One kind.UnaryOperator ∷ field.One kind.Expression ∷ [])
expression_rule word.Update = Some (field.One kind.UpdateOperator ∷ field.One kind.Flag ∷ field.One kind.AssignmentTarget ∷ [])
expression_rule word.Binary = Some (field.One kind.BinaryOperator ∷ field.One kind.Expression ∷ field.One kind.Expression ∷ [])
expression_rule word.Privatein = Some (field.One kind.Text ∷ field.One kind.Expression ∷ [])
expression_rule word.Logical = Some (field.One kind.LogicalOperator ∷ field.One kind.Expression ∷ field.One kind.Expression ∷ [])
expression_rule word.Cond = Some (field.One kind.Expression ∷ field.One kind.Expression ∷ field.One kind.Expression ∷ [])
expression_rule word.Assign = Some (field.One kind.AssignmentOperator ∷ field.One kind.AssignmentTarget ∷ field.One kind.Expression ∷ [])
expression_rule word.Seq = Some (field.Many kind.Expression ∷ [])
expression_rule word.New = Some (field.One kind.Expression ∷ field.Many kind.Argument ∷ [])
expression_rule word.Await = Some (field.One kind.Expression ∷ [])
expression_rule word.Yield = Some (field.One kind.Flag ∷ field.Maybe kind.Expression ∷ [])
expression_rule word.Importmeta = Some []
expression_rule word.Newtarget = Some []
expression_rule word.Super = Some []
expression_rule word.This = Some []
expression_rule word.Importcall = Some (field.One kind.Expression ∷ field.Maybe kind.Expression ∷ [])
expression_rule word.Paren = Some (field.One kind.Expression ∷ [])
expression_rule word.As = Some (field.One kind.Expression ∷ field.One kind.TypeAnnotation ∷ [])
expression_rule word.Satisfies = Some (field.One kind.Expression ∷ field.One kind.TypeAnnotation ∷ [])
expression_rule word.Assert = Some (field.One kind.TypeAnnotation ∷ field.One kind.Expression ∷ [])
expression_rule word.Nonnull = Some (field.One kind.Expression ∷ [])
expression_rule word.Instantiate = Some (field.One kind.Expression ∷ field.Many kind.IdentifierReference ∷ [])
expression_rule word.Arrow = Some (field.One kind.Flag ∷ field.One kind.Flag ∷ field.One kind.FormalParameters ∷ field.One kind.ArrowBody ∷ [])
expression_rule word.Funexpr = Some (field.One kind.Flag ∷ field.One kind.Flag ∷ field.One kind.Flag ∷ field.Maybe kind.BindingIdentifier ∷ field.One kind.FormalParameters ∷ field.One kind.FunctionBody ∷ [])
expression_rule word.Classexpr = Some (field.Maybe kind.BindingIdentifier ∷ field.Maybe kind.Expression ∷ field.Many kind.ClassElement ∷ [])
expression_rule word.Element = Some (field.One kind.JsxOpeningElement ∷ field.Many kind.JsxChild ∷ field.Maybe kind.JsxClosingElement ∷ [])
expression_rule word.Fragment = Some (field.Many kind.JsxChild ∷ [])
expression_rule word.Member = Some (field.One kind.Flag ∷ field.One kind.Expression ∷ field.One kind.Text ∷ [])
expression_rule word.Index = Some (field.One kind.Flag ∷ field.One kind.Expression ∷ field.One kind.Expression ∷ [])
expression_rule word.Privatemember = Some (field.One kind.Flag ∷ field.One kind.Expression ∷ field.One kind.Text ∷ [])
expression_rule word.Call = Some (field.One kind.Flag ∷ field.One kind.Expression ∷ field.Many kind.Argument ∷ [])
expression_rule word.Chain = Some (field.One kind.Expression ∷ [])
expression_rule _ = None

-- The fields of the kind `AssignmentTarget`, by the word of a node.
abbrev pub assignment_target_rule : Word → Option (List Field)
assignment_target_rule word.Id = Some (field.One kind.Text ∷ [])
assignment_target_rule word.Member = Some (field.One kind.Flag ∷ field.One kind.Expression ∷ field.One kind.Text ∷ [])
assignment_target_rule word.Index = Some (field.One kind.Flag ∷ field.One kind.Expression ∷ field.One kind.Expression ∷ [])
assignment_target_rule word.Privatemember = Some (field.One kind.Flag ∷ field.One kind.Expression ∷ field.One kind.Text ∷ [])
assignment_target_rule word.Arraytarget = Some (field.Many kind.AssignmentTargetElement ∷ field.Maybe kind.AssignmentTargetRest ∷ [])
assignment_target_rule word.Objecttarget = Some (field.Many kind.AssignmentTargetProperty ∷ field.Maybe kind.AssignmentTargetRest ∷ [])
assignment_target_rule word.As = Some (field.One kind.Expression ∷ field.One kind.TypeAnnotation ∷ [])
assignment_target_rule word.Satisfies = Some (field.One kind.Expression ∷ field.One kind.TypeAnnotation ∷ [])
assignment_target_rule word.Assert = Some (field.One kind.TypeAnnotation ∷ field.One kind.Expression ∷ [])
assignment_target_rule word.Nonnull = Some (field.One kind.Expression ∷ [])
assignment_target_rule _ = None

-- The fields of the kind `JsxElementName`, by the word of a node.
abbrev pub jsx_element_name_rule : Word → Option (List Field)
jsx_element_name_rule word.Tag = Some (field.One kind.Text ∷ [])
jsx_element_name_rule word.Id = Some (field.One kind.Text ∷ [])
jsx_element_name_rule word.This = Some []
jsx_element_name_rule word.Tagmember = Some (field.One kind.JsxElementName ∷ field.One kind.Text ∷ [])
jsx_element_name_rule word.Tagns = Some (field.One kind.Text ∷ field.One kind.Text ∷ [])
jsx_element_name_rule _ = None

-- The fields of the kind `JsxAttributeValue`, by the word of a node.
abbrev pub jsx_attribute_value_rule : Word → Option (List Field)
jsx_attribute_value_rule word.Str = Some (field.One kind.Text ∷ [])
jsx_attribute_value_rule word.Container = Some (field.Maybe kind.Expression ∷ [])
jsx_attribute_value_rule word.Element = Some (field.One kind.JsxOpeningElement ∷ field.Many kind.JsxChild ∷ field.Maybe kind.JsxClosingElement ∷ [])
jsx_attribute_value_rule word.Fragment = Some (field.Many kind.JsxChild ∷ [])
jsx_attribute_value_rule _ = None

-- The fields of the kind `JsxChild`, by the word of a node.
abbrev pub jsx_child_rule : Word → Option (List Field)
jsx_child_rule word.Text = Some (field.One kind.Text ∷ [])
jsx_child_rule word.Container = Some (field.Maybe kind.Expression ∷ [])
jsx_child_rule word.Element = Some (field.One kind.JsxOpeningElement ∷ field.Many kind.JsxChild ∷ field.Maybe kind.JsxClosingElement ∷ [])
jsx_child_rule word.Fragment = Some (field.Many kind.JsxChild ∷ [])
jsx_child_rule word.Spreadchild = Some (field.One kind.Expression ∷ [])
jsx_child_rule _ = None

-- The fields of the kind `ForInit`, by the word of a node.
abbrev pub for_init_rule : Word → Option (List Field)
for_init_rule word.Var = Some (field.One kind.VariableKind ∷ field.Many kind.VariableDeclarator ∷ [])
for_init_rule w = expression_rule w

-- The fields of the kind `ForHead`, by the word of a node.
abbrev pub for_head_rule : Word → Option (List Field)
for_head_rule word.Var = Some (field.One kind.VariableKind ∷ field.Many kind.VariableDeclarator ∷ [])
for_head_rule w = assignment_target_rule w

-- The fields of the kind `ExportDefault`, by the word of a node.
abbrev pub export_default_rule : Word → Option (List Field)
export_default_rule w = first_rule (statement_rule w) (expression_rule w)

-- The fields of the kind `ArrowBody`, by the word of a node.
abbrev pub arrow_body_rule : Word → Option (List Field)
arrow_body_rule word.Body = Some (field.Many kind.Text ∷ field.Many kind.Statement ∷ [])
arrow_body_rule w = expression_rule w

-- The fields of the kind `BindingPatternMaybeDefault`, by the word of a node.
abbrev pub binding_pattern_maybe_default_rule : Word → Option (List Field)
binding_pattern_maybe_default_rule word.Defaultpat = Some (field.One kind.BindingPattern ∷ field.One kind.Expression ∷ [])
binding_pattern_maybe_default_rule w = binding_pattern_rule w

-- The fields of the kind `PropertyKey`, by the word of a node.
abbrev pub property_key_rule : Word → Option (List Field)
property_key_rule word.Name = Some (field.One kind.Text ∷ [])
property_key_rule word.Private = Some (field.One kind.Text ∷ [])
property_key_rule w = expression_rule w

-- The fields of the kind `ArrayElement`, by the word of a node.
abbrev pub array_element_rule : Word → Option (List Field)
array_element_rule word.Spread = Some (field.One kind.Expression ∷ [])
array_element_rule word.Hole = Some []
array_element_rule w = expression_rule w

-- The fields of the kind `Argument`, by the word of a node.
abbrev pub argument_rule : Word → Option (List Field)
argument_rule word.Spread = Some (field.One kind.Expression ∷ [])
argument_rule w = expression_rule w

-- The fields of the kind `AssignmentTargetMaybeDefault`, by the word of a node.
abbrev pub assignment_target_maybe_default_rule : Word → Option (List Field)
assignment_target_maybe_default_rule word.Default = Some (field.One kind.AssignmentTarget ∷ field.One kind.Expression ∷ [])
assignment_target_maybe_default_rule w = assignment_target_rule w

-- The fields of the kind `BindingPatternElement`, by the word of a node.
abbrev pub binding_pattern_element_rule : Word → Option (List Field)
binding_pattern_element_rule word.Hole = Some []
binding_pattern_element_rule w = binding_pattern_maybe_default_rule w

-- The fields of the kind `AssignmentTargetElement`, by the word of a node.
abbrev pub assignment_target_element_rule : Word → Option (List Field)
assignment_target_element_rule word.Hole = Some []
assignment_target_element_rule w = assignment_target_maybe_default_rule w

-- The fields of a node, by the kind that is asked for and the node's word; `None` if no node of this word is of the kind.
abbrev pub rule : Kind → Word → Option (List Field)
rule kind.Unit w = unit_rule w
rule kind.Entity w = entity_rule w
rule kind.Program w = program_rule w
rule kind.Statement w = statement_rule w
rule kind.BlockStatement w = block_statement_rule w
rule kind.SwitchCase w = switch_case_rule w
rule kind.CatchClause w = catch_clause_rule w
rule kind.VariableDeclaration w = variable_declaration_rule w
rule kind.VariableDeclarator w = variable_declarator_rule w
rule kind.ForInit w = for_init_rule w
rule kind.ForHead w = for_head_rule w
rule kind.ExportDefault w = export_default_rule w
rule kind.ClassElement w = class_element_rule w
rule kind.ImportSpecifier w = import_specifier_rule w
rule kind.Arrow w = arrow_rule w
rule kind.FunctionDeclaration w = function_declaration_rule w
rule kind.FunctionExpression w = function_expression_rule w
rule kind.FormalParameters w = formal_parameters_rule w
rule kind.FormalParameter w = formal_parameter_rule w
rule kind.BindingRestElement w = binding_rest_element_rule w
rule kind.FunctionBody w = function_body_rule w
rule kind.ArrowBody w = arrow_body_rule w
rule kind.BindingIdentifier w = binding_identifier_rule w
rule kind.TypeAnnotation w = type_annotation_rule w
rule kind.IdentifierReference w = identifier_reference_rule w
rule kind.BindingPattern w = binding_pattern_rule w
rule kind.BindingPatternMaybeDefault w = binding_pattern_maybe_default_rule w
rule kind.BindingPatternElement w = binding_pattern_element_rule w
rule kind.BindingProperty w = binding_property_rule w
rule kind.PropertyKey w = property_key_rule w
rule kind.Expression w = expression_rule w
rule kind.TemplateLiteral w = template_literal_rule w
rule kind.TemplateElement w = template_element_rule w
rule kind.ArrayElement w = array_element_rule w
rule kind.Argument w = argument_rule w
rule kind.ObjectProperty w = object_property_rule w
rule kind.AssignmentTarget w = assignment_target_rule w
rule kind.AssignmentTargetMaybeDefault w = assignment_target_maybe_default_rule w
rule kind.AssignmentTargetElement w = assignment_target_element_rule w
rule kind.AssignmentTargetProperty w = assignment_target_property_rule w
rule kind.AssignmentTargetRest w = assignment_target_rest_rule w
rule kind.JsxElement w = jsx_element_rule w
rule kind.JsxFragment w = jsx_fragment_rule w
rule kind.JsxOpeningElement w = jsx_opening_element_rule w
rule kind.JsxClosingElement w = jsx_closing_element_rule w
rule kind.JsxElementName w = jsx_element_name_rule w
rule kind.JsxAttribute w = jsx_attribute_rule w
rule kind.JsxAttributeName w = jsx_attribute_name_rule w
rule kind.JsxAttributeValue w = jsx_attribute_value_rule w
rule kind.JsxChild w = jsx_child_rule w
rule _ w = None
