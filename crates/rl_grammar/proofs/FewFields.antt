-- Every node of the grammar has at most 8 fields: by computation, sort by sort.
-- Written by tools/syntax.py from tools/grammar.txt.
use Rattle.std.proofs.Common.{◌≡◌, Bool, true, nat_le, Option, Some, None, List, length, refl}
use Rattle.rl_grammar.specs.Rules.{rule, unit_rule, entity_rule, program_rule, statement_rule, block_statement_rule, switch_case_rule, catch_clause_rule, variable_declaration_rule, variable_declarator_rule, for_init_rule, for_head_rule, export_default_rule, class_element_rule, import_specifier_rule, arrow_rule, function_declaration_rule, function_expression_rule, formal_parameters_rule, formal_parameter_rule, binding_rest_element_rule, function_body_rule, arrow_body_rule, binding_identifier_rule, type_annotation_rule, identifier_reference_rule, binding_pattern_rule, binding_pattern_maybe_default_rule, binding_pattern_element_rule, binding_property_rule, property_key_rule, expression_rule, template_literal_rule, template_element_rule, array_element_rule, argument_rule, object_property_rule, assignment_target_rule, assignment_target_maybe_default_rule, assignment_target_element_rule, assignment_target_property_rule, assignment_target_rest_rule, jsx_element_rule, jsx_fragment_rule, jsx_opening_element_rule, jsx_closing_element_rule, jsx_element_name_rule, jsx_attribute_rule, jsx_attribute_name_rule, jsx_attribute_value_rule, jsx_child_rule}
use Rattle.rl_grammar.specs.declared.kind.Field.{Field}
use Rattle.rl_grammar.specs.declared.kind.Kind.{Kind}
use Rattle.rl_grammar.specs.declared.kind.Kind.TheVariants as kind
use Rattle.rl_syntax.specs.declared.word.Word.{Word}
use Rattle.rl_syntax.specs.declared.word.Word.TheVariants as word

-- At most 8 fields.
abbrev pub few_fields : Option (List Field) → Bool
few_fields None = true
few_fields (Some fields) = nat_le (length fields) 8

unit_few : (w : Word) → few_fields (unit_rule w) ≡ true
unit_few word.Unit = refl
unit_few _ = refl

entity_few : (w : Word) → few_fields (entity_rule w) ≡ true
entity_few word.Unit = refl
entity_few _ = refl

program_few : (w : Word) → few_fields (program_rule w) ≡ true
program_few word.Unit = refl
program_few _ = refl

statement_few : (w : Word) → few_fields (statement_rule w) ≡ true
statement_few word.Unit = refl
statement_few _ = refl

block_statement_few : (w : Word) → few_fields (block_statement_rule w) ≡ true
block_statement_few word.Unit = refl
block_statement_few _ = refl

switch_case_few : (w : Word) → few_fields (switch_case_rule w) ≡ true
switch_case_few word.Unit = refl
switch_case_few _ = refl

catch_clause_few : (w : Word) → few_fields (catch_clause_rule w) ≡ true
catch_clause_few word.Unit = refl
catch_clause_few _ = refl

variable_declaration_few : (w : Word) → few_fields (variable_declaration_rule w) ≡ true
variable_declaration_few word.Unit = refl
variable_declaration_few _ = refl

variable_declarator_few : (w : Word) → few_fields (variable_declarator_rule w) ≡ true
variable_declarator_few word.Unit = refl
variable_declarator_few _ = refl

for_init_few : (w : Word) → few_fields (for_init_rule w) ≡ true
for_init_few word.Unit = refl
for_init_few _ = refl

for_head_few : (w : Word) → few_fields (for_head_rule w) ≡ true
for_head_few word.Unit = refl
for_head_few _ = refl

export_default_few : (w : Word) → few_fields (export_default_rule w) ≡ true
export_default_few word.Unit = refl
export_default_few _ = refl

class_element_few : (w : Word) → few_fields (class_element_rule w) ≡ true
class_element_few word.Unit = refl
class_element_few _ = refl

import_specifier_few : (w : Word) → few_fields (import_specifier_rule w) ≡ true
import_specifier_few word.Unit = refl
import_specifier_few _ = refl

arrow_few : (w : Word) → few_fields (arrow_rule w) ≡ true
arrow_few word.Unit = refl
arrow_few _ = refl

function_declaration_few : (w : Word) → few_fields (function_declaration_rule w) ≡ true
function_declaration_few word.Unit = refl
function_declaration_few _ = refl

function_expression_few : (w : Word) → few_fields (function_expression_rule w) ≡ true
function_expression_few word.Unit = refl
function_expression_few _ = refl

formal_parameters_few : (w : Word) → few_fields (formal_parameters_rule w) ≡ true
formal_parameters_few word.Unit = refl
formal_parameters_few _ = refl

formal_parameter_few : (w : Word) → few_fields (formal_parameter_rule w) ≡ true
formal_parameter_few word.Unit = refl
formal_parameter_few _ = refl

binding_rest_element_few : (w : Word) → few_fields (binding_rest_element_rule w) ≡ true
binding_rest_element_few word.Unit = refl
binding_rest_element_few _ = refl

function_body_few : (w : Word) → few_fields (function_body_rule w) ≡ true
function_body_few word.Unit = refl
function_body_few _ = refl

arrow_body_few : (w : Word) → few_fields (arrow_body_rule w) ≡ true
arrow_body_few word.Unit = refl
arrow_body_few _ = refl

binding_identifier_few : (w : Word) → few_fields (binding_identifier_rule w) ≡ true
binding_identifier_few word.Unit = refl
binding_identifier_few _ = refl

type_annotation_few : (w : Word) → few_fields (type_annotation_rule w) ≡ true
type_annotation_few word.Unit = refl
type_annotation_few _ = refl

identifier_reference_few : (w : Word) → few_fields (identifier_reference_rule w) ≡ true
identifier_reference_few word.Unit = refl
identifier_reference_few _ = refl

binding_pattern_few : (w : Word) → few_fields (binding_pattern_rule w) ≡ true
binding_pattern_few word.Unit = refl
binding_pattern_few _ = refl

binding_pattern_maybe_default_few : (w : Word) → few_fields (binding_pattern_maybe_default_rule w) ≡ true
binding_pattern_maybe_default_few word.Unit = refl
binding_pattern_maybe_default_few _ = refl

binding_pattern_element_few : (w : Word) → few_fields (binding_pattern_element_rule w) ≡ true
binding_pattern_element_few word.Unit = refl
binding_pattern_element_few _ = refl

binding_property_few : (w : Word) → few_fields (binding_property_rule w) ≡ true
binding_property_few word.Unit = refl
binding_property_few _ = refl

property_key_few : (w : Word) → few_fields (property_key_rule w) ≡ true
property_key_few word.Unit = refl
property_key_few _ = refl

expression_few : (w : Word) → few_fields (expression_rule w) ≡ true
expression_few word.Unit = refl
expression_few _ = refl

template_literal_few : (w : Word) → few_fields (template_literal_rule w) ≡ true
template_literal_few word.Unit = refl
template_literal_few _ = refl

template_element_few : (w : Word) → few_fields (template_element_rule w) ≡ true
template_element_few word.Unit = refl
template_element_few _ = refl

array_element_few : (w : Word) → few_fields (array_element_rule w) ≡ true
array_element_few word.Unit = refl
array_element_few _ = refl

argument_few : (w : Word) → few_fields (argument_rule w) ≡ true
argument_few word.Unit = refl
argument_few _ = refl

object_property_few : (w : Word) → few_fields (object_property_rule w) ≡ true
object_property_few word.Unit = refl
object_property_few _ = refl

assignment_target_few : (w : Word) → few_fields (assignment_target_rule w) ≡ true
assignment_target_few word.Unit = refl
assignment_target_few _ = refl

assignment_target_maybe_default_few : (w : Word) → few_fields (assignment_target_maybe_default_rule w) ≡ true
assignment_target_maybe_default_few word.Unit = refl
assignment_target_maybe_default_few _ = refl

assignment_target_element_few : (w : Word) → few_fields (assignment_target_element_rule w) ≡ true
assignment_target_element_few word.Unit = refl
assignment_target_element_few _ = refl

assignment_target_property_few : (w : Word) → few_fields (assignment_target_property_rule w) ≡ true
assignment_target_property_few word.Unit = refl
assignment_target_property_few _ = refl

assignment_target_rest_few : (w : Word) → few_fields (assignment_target_rest_rule w) ≡ true
assignment_target_rest_few word.Unit = refl
assignment_target_rest_few _ = refl

jsx_element_few : (w : Word) → few_fields (jsx_element_rule w) ≡ true
jsx_element_few word.Unit = refl
jsx_element_few _ = refl

jsx_fragment_few : (w : Word) → few_fields (jsx_fragment_rule w) ≡ true
jsx_fragment_few word.Unit = refl
jsx_fragment_few _ = refl

jsx_opening_element_few : (w : Word) → few_fields (jsx_opening_element_rule w) ≡ true
jsx_opening_element_few word.Unit = refl
jsx_opening_element_few _ = refl

jsx_closing_element_few : (w : Word) → few_fields (jsx_closing_element_rule w) ≡ true
jsx_closing_element_few word.Unit = refl
jsx_closing_element_few _ = refl

jsx_element_name_few : (w : Word) → few_fields (jsx_element_name_rule w) ≡ true
jsx_element_name_few word.Unit = refl
jsx_element_name_few _ = refl

jsx_attribute_few : (w : Word) → few_fields (jsx_attribute_rule w) ≡ true
jsx_attribute_few word.Unit = refl
jsx_attribute_few _ = refl

jsx_attribute_name_few : (w : Word) → few_fields (jsx_attribute_name_rule w) ≡ true
jsx_attribute_name_few word.Unit = refl
jsx_attribute_name_few _ = refl

jsx_attribute_value_few : (w : Word) → few_fields (jsx_attribute_value_rule w) ≡ true
jsx_attribute_value_few word.Unit = refl
jsx_attribute_value_few _ = refl

jsx_child_few : (w : Word) → few_fields (jsx_child_rule w) ≡ true
jsx_child_few word.Unit = refl
jsx_child_few _ = refl

pub rule_few : (k : Kind) (w : Word) → few_fields (rule k w) ≡ true
rule_few kind.Unit w = unit_few w
rule_few kind.Entity w = entity_few w
rule_few kind.Program w = program_few w
rule_few kind.Statement w = statement_few w
rule_few kind.BlockStatement w = block_statement_few w
rule_few kind.SwitchCase w = switch_case_few w
rule_few kind.CatchClause w = catch_clause_few w
rule_few kind.VariableDeclaration w = variable_declaration_few w
rule_few kind.VariableDeclarator w = variable_declarator_few w
rule_few kind.ForInit w = for_init_few w
rule_few kind.ForHead w = for_head_few w
rule_few kind.ExportDefault w = export_default_few w
rule_few kind.ClassElement w = class_element_few w
rule_few kind.ImportSpecifier w = import_specifier_few w
rule_few kind.Arrow w = arrow_few w
rule_few kind.FunctionDeclaration w = function_declaration_few w
rule_few kind.FunctionExpression w = function_expression_few w
rule_few kind.FormalParameters w = formal_parameters_few w
rule_few kind.FormalParameter w = formal_parameter_few w
rule_few kind.BindingRestElement w = binding_rest_element_few w
rule_few kind.FunctionBody w = function_body_few w
rule_few kind.ArrowBody w = arrow_body_few w
rule_few kind.BindingIdentifier w = binding_identifier_few w
rule_few kind.TypeAnnotation w = type_annotation_few w
rule_few kind.IdentifierReference w = identifier_reference_few w
rule_few kind.BindingPattern w = binding_pattern_few w
rule_few kind.BindingPatternMaybeDefault w = binding_pattern_maybe_default_few w
rule_few kind.BindingPatternElement w = binding_pattern_element_few w
rule_few kind.BindingProperty w = binding_property_few w
rule_few kind.PropertyKey w = property_key_few w
rule_few kind.Expression w = expression_few w
rule_few kind.TemplateLiteral w = template_literal_few w
rule_few kind.TemplateElement w = template_element_few w
rule_few kind.ArrayElement w = array_element_few w
rule_few kind.Argument w = argument_few w
rule_few kind.ObjectProperty w = object_property_few w
rule_few kind.AssignmentTarget w = assignment_target_few w
rule_few kind.AssignmentTargetMaybeDefault w = assignment_target_maybe_default_few w
rule_few kind.AssignmentTargetElement w = assignment_target_element_few w
rule_few kind.AssignmentTargetProperty w = assignment_target_property_few w
rule_few kind.AssignmentTargetRest w = assignment_target_rest_few w
rule_few kind.JsxElement w = jsx_element_few w
rule_few kind.JsxFragment w = jsx_fragment_few w
rule_few kind.JsxOpeningElement w = jsx_opening_element_few w
rule_few kind.JsxClosingElement w = jsx_closing_element_few w
rule_few kind.JsxElementName w = jsx_element_name_few w
rule_few kind.JsxAttribute w = jsx_attribute_few w
rule_few kind.JsxAttributeName w = jsx_attribute_name_few w
rule_few kind.JsxAttributeValue w = jsx_attribute_value_few w
rule_few kind.JsxChild w = jsx_child_few w
rule_few _ w = refl
