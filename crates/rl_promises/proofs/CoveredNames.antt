-- The names of covered trees: each `bind` node stands in parameters, in a declarator or in a `catch`, in patterns there too.
use Rattle.std.proofs.Common.{◌≡◌, Bool, true, false, true≢false, ◌&&◌, Option, Some, None, List, [], ◌∷◌, refl, sym}
use Rattle.std.proofs.lemmas.Bool.{and_parts}
use Rattle.rl_syntax.specs.Syntax.{Syntax, Node, Listed, Said, Count, Flag, Absent, Pieces, End, Then}
use Rattle.rl_syntax.specs.declared.word.Word.{Word}
use Rattle.rl_syntax.specs.declared.word.Word.TheVariants as word
use Rattle.rl_grammar.specs.Grammar.{fits, each, every}
use Rattle.rl_grammar.specs.Rules.{rule, argument_rule, array_element_rule, arrow_body_rule, assignment_target_element_rule}
use Rattle.rl_grammar.specs.Rules.{assignment_target_maybe_default_rule, assignment_target_property_rule, assignment_target_rest_rule}
use Rattle.rl_grammar.specs.Rules.{assignment_target_rule, binding_identifier_rule, binding_pattern_element_rule}
use Rattle.rl_grammar.specs.Rules.{binding_pattern_maybe_default_rule, binding_pattern_rule, binding_property_rule}
use Rattle.rl_grammar.specs.Rules.{binding_rest_element_rule, block_statement_rule, catch_clause_rule, expression_rule, for_head_rule}
use Rattle.rl_grammar.specs.Rules.{for_init_rule, formal_parameter_rule, formal_parameters_rule, function_body_rule}
use Rattle.rl_grammar.specs.Rules.{identifier_reference_rule, object_property_rule, property_key_rule, statement_rule, switch_case_rule}
use Rattle.rl_grammar.specs.Rules.{template_element_rule, template_literal_rule, type_annotation_rule, variable_declarator_rule}
use Rattle.rl_grammar.specs.declared.kind.Field.{Field}
use Rattle.rl_grammar.specs.declared.kind.Field.TheVariants as field
use Rattle.rl_grammar.specs.declared.kind.Kind.{Kind}
use Rattle.rl_grammar.specs.declared.kind.Kind.TheVariants as kind
use Rattle.rl_grammar.proofs.Viewing.{first_fits, rest_fit}
use Rattle.rl_promises.specs.Covered.{AreCovered, IsCovered, covers}
use Rattle.rl_promises.proofs.CoveredForms.{none_fits}
use Rattle.rl_promises.proofs.VariableTrees.{HasVariables, HaveVariables, is_named, may_stand}

-- True of the kinds of the trees in a covered function; those of declarators, parameters, patterns and their names stand in declarations
-- alone.
abbrev pub is_inner : (named : Bool) → Kind → Bool
is_inner named kind.VariableDeclarator = named
is_inner named kind.FormalParameter = named
is_inner named kind.BindingPattern = named
is_inner named kind.BindingIdentifier = named
is_inner named kind.BindingRestElement = named
is_inner named kind.BindingPatternMaybeDefault = named
is_inner named kind.BindingPatternElement = named
is_inner named kind.BindingProperty = named
is_inner named kind.Statement = true
is_inner named kind.Expression = true
is_inner named kind.ForInit = true
is_inner named kind.ForHead = true
is_inner named kind.SwitchCase = true
is_inner named kind.BlockStatement = true
is_inner named kind.CatchClause = true
is_inner named kind.Argument = true
is_inner named kind.ArrowBody = true
is_inner named kind.FunctionBody = true
is_inner named kind.FormalParameters = true
is_inner named kind.ArrayElement = true
is_inner named kind.ObjectProperty = true
is_inner named kind.PropertyKey = true
is_inner named kind.TemplateLiteral = true
is_inner named kind.TemplateElement = true
is_inner named kind.AssignmentTarget = true
is_inner named kind.AssignmentTargetMaybeDefault = true
is_inner named kind.AssignmentTargetElement = true
is_inner named kind.AssignmentTargetProperty = true
is_inner named kind.AssignmentTargetRest = true
is_inner named kind.TypeAnnotation = true
is_inner named kind.IdentifierReference = true
is_inner named kind.Text = true
is_inner named kind.Flag = true
is_inner named kind.VariableKind = true
is_inner named kind.TypeKind = true
is_inner named kind.UnaryOperator = true
is_inner named kind.UpdateOperator = true
is_inner named kind.AssignmentOperator = true
is_inner named kind.BinaryOperator = true
is_inner named kind.LogicalOperator = true
is_inner named _ = false

abbrev pub inner_field : (named : Bool) → Field → Bool
inner_field named (field.One k) = is_inner named k
inner_field named (field.Maybe k) = is_inner named k
inner_field named (field.Many k) = is_inner named k

abbrev inner_fields : (named : Bool) → List Field → Bool
inner_fields named [] = true
inner_fields named (f ∷ fs) = inner_field named f && inner_fields named fs

abbrev inner_rule : (named : Bool) → Option (List Field) → Bool
inner_rule named None = true
inner_rule named (Some fs) = inner_fields named fs

-- A word that may stand there, and whose fields are those of a covered function.
record IsInner (named : Bool) (w : Word) (r : Option (List Field)) : Type 0 where
  stands : may_stand named w ≡ true
  fields : inner_rule (is_named named w) r ≡ true

-- A word that is not covered has no such node.
pub never : {X : Type 0} → false ≡ true → X
never is = absurd (true≢false (sym is))

module _ (named : Bool) where
  expression_inner : (w : Word) (ps : Pieces) → covers w ps ≡ true → each (expression_rule w) ps ≡ true
      → IsInner named w (expression_rule w)
  expression_inner word.Bind ps covered h = absurd (none_fits ps h)
  expression_inner word.Funexpr ps covered h = never covered
  expression_inner word.Classexpr ps covered h = never covered
  expression_inner word.Element ps covered h = never covered
  expression_inner word.Fragment ps covered h = never covered
  expression_inner _ ps covered h = record { stands = refl; fields = refl }

  statement_inner : (w : Word) (ps : Pieces) → covers w ps ≡ true → each (statement_rule w) ps ≡ true → IsInner named w (statement_rule w)
  statement_inner word.Bind ps covered h = absurd (none_fits ps h)
  statement_inner word.Fundecl ps covered h = never covered
  statement_inner word.Classdecl ps covered h = never covered
  statement_inner word.Typealias ps covered h = never covered
  statement_inner word.Interface ps covered h = never covered
  statement_inner word.Enum ps covered h = never covered
  statement_inner word.Namespace ps covered h = never covered
  statement_inner word.Import ps covered h = never covered
  statement_inner word.Exportdefault ps covered h = never covered
  statement_inner _ ps covered h = record { stands = refl; fields = refl }

  init_inner : (w : Word) (ps : Pieces) → covers w ps ≡ true → each (for_init_rule w) ps ≡ true → IsInner named w (for_init_rule w)
  init_inner word.Var ps covered h = record { stands = refl; fields = refl }
  init_inner w ps covered h = expression_inner w ps covered h

  target_inner : (w : Word) (ps : Pieces) → covers w ps ≡ true → each (assignment_target_rule w) ps ≡ true
      → IsInner named w (assignment_target_rule w)
  target_inner word.Bind ps covered h = absurd (none_fits ps h)
  target_inner _ ps covered h = record { stands = refl; fields = refl }

  default_target_inner : (w : Word) (ps : Pieces) → covers w ps ≡ true → each (assignment_target_maybe_default_rule w) ps ≡ true
      → IsInner named w (assignment_target_maybe_default_rule w)
  default_target_inner word.Default ps covered h = record { stands = refl; fields = refl }
  default_target_inner w ps covered h = target_inner w ps covered h

  target_element_inner : (w : Word) (ps : Pieces) → covers w ps ≡ true → each (assignment_target_element_rule w) ps ≡ true
      → IsInner named w (assignment_target_element_rule w)
  target_element_inner word.Hole ps covered h = record { stands = refl; fields = refl }
  target_element_inner w ps covered h = default_target_inner w ps covered h

  target_property_inner : (w : Word) (ps : Pieces) → each (assignment_target_property_rule w) ps ≡ true
      → IsInner named w (assignment_target_property_rule w)
  target_property_inner word.Short ps h = record { stands = refl; fields = refl }
  target_property_inner word.Keyed ps h = record { stands = refl; fields = refl }
  target_property_inner _ ps h = absurd (none_fits ps h)

  target_rest_inner : (w : Word) (ps : Pieces) → each (assignment_target_rest_rule w) ps ≡ true
      → IsInner named w (assignment_target_rest_rule w)
  target_rest_inner word.Rest ps h = record { stands = refl; fields = refl }
  target_rest_inner _ ps h = absurd (none_fits ps h)

  head_inner : (w : Word) (ps : Pieces) → covers w ps ≡ true → each (for_head_rule w) ps ≡ true → IsInner named w (for_head_rule w)
  head_inner word.Var ps covered h = record { stands = refl; fields = refl }
  head_inner w ps covered h = target_inner w ps covered h

  property_inner : (w : Word) (ps : Pieces) → covers w ps ≡ true → each (object_property_rule w) ps ≡ true
      → IsInner named w (object_property_rule w)
  property_inner word.Bind ps covered h = absurd (none_fits ps h)
  property_inner word.Method ps covered h = never covered
  property_inner word.Get ps covered h = never covered
  property_inner word.Set ps covered h = never covered
  property_inner _ ps covered h = record { stands = refl; fields = refl }

  key_inner : (w : Word) (ps : Pieces) → covers w ps ≡ true → each (property_key_rule w) ps ≡ true → IsInner named w (property_key_rule w)
  key_inner word.Name ps covered h = record { stands = refl; fields = refl }
  key_inner word.Private ps covered h = record { stands = refl; fields = refl }
  key_inner w ps covered h = expression_inner w ps covered h

  arrow_body_inner : (w : Word) (ps : Pieces) → covers w ps ≡ true → each (arrow_body_rule w) ps ≡ true
      → IsInner named w (arrow_body_rule w)
  arrow_body_inner word.Body ps covered h = record { stands = refl; fields = refl }
  arrow_body_inner w ps covered h = expression_inner w ps covered h

  argument_inner : (w : Word) (ps : Pieces) → covers w ps ≡ true → each (argument_rule w) ps ≡ true → IsInner named w (argument_rule w)
  argument_inner word.Spread ps covered h = record { stands = refl; fields = refl }
  argument_inner w ps covered h = expression_inner w ps covered h

  element_inner : (w : Word) (ps : Pieces) → covers w ps ≡ true → each (array_element_rule w) ps ≡ true
      → IsInner named w (array_element_rule w)
  element_inner word.Spread ps covered h = record { stands = refl; fields = refl }
  element_inner word.Hole ps covered h = record { stands = refl; fields = refl }
  element_inner w ps covered h = expression_inner w ps covered h

  body_inner : (w : Word) (ps : Pieces) → each (function_body_rule w) ps ≡ true → IsInner named w (function_body_rule w)
  body_inner word.Body ps h = record { stands = refl; fields = refl }
  body_inner _ ps h = absurd (none_fits ps h)

  params_inner : (w : Word) (ps : Pieces) → each (formal_parameters_rule w) ps ≡ true → IsInner named w (formal_parameters_rule w)
  params_inner word.Params ps h = record { stands = refl; fields = refl }
  params_inner _ ps h = absurd (none_fits ps h)

  case_inner : (w : Word) (ps : Pieces) → each (switch_case_rule w) ps ≡ true → IsInner named w (switch_case_rule w)
  case_inner word.Case ps h = record { stands = refl; fields = refl }
  case_inner _ ps h = absurd (none_fits ps h)

  block_inner : (w : Word) (ps : Pieces) → each (block_statement_rule w) ps ≡ true → IsInner named w (block_statement_rule w)
  block_inner word.Block ps h = record { stands = refl; fields = refl }
  block_inner _ ps h = absurd (none_fits ps h)

  catch_inner : (w : Word) (ps : Pieces) → each (catch_clause_rule w) ps ≡ true → IsInner named w (catch_clause_rule w)
  catch_inner word.Catch ps h = record { stands = refl; fields = refl }
  catch_inner _ ps h = absurd (none_fits ps h)

  literal_inner : (w : Word) (ps : Pieces) → each (template_literal_rule w) ps ≡ true → IsInner named w (template_literal_rule w)
  literal_inner word.Template ps h = record { stands = refl; fields = refl }
  literal_inner _ ps h = absurd (none_fits ps h)

  quasi_inner : (w : Word) (ps : Pieces) → each (template_element_rule w) ps ≡ true → IsInner named w (template_element_rule w)
  quasi_inner word.Quasi ps h = record { stands = refl; fields = refl }
  quasi_inner _ ps h = absurd (none_fits ps h)

  type_inner : (w : Word) (ps : Pieces) → each (type_annotation_rule w) ps ≡ true → IsInner named w (type_annotation_rule w)
  type_inner word.Type ps h = record { stands = refl; fields = refl }
  type_inner _ ps h = absurd (none_fits ps h)

  reference_inner : (w : Word) (ps : Pieces) → each (identifier_reference_rule w) ps ≡ true → IsInner named w (identifier_reference_rule w)
  reference_inner word.Id ps h = record { stands = refl; fields = refl }
  reference_inner _ ps h = absurd (none_fits ps h)

-- The kinds of declarations.

declarator_inner : (w : Word) (ps : Pieces) → each (variable_declarator_rule w) ps ≡ true → IsInner true w (variable_declarator_rule w)
declarator_inner word.Declarator ps h = record { stands = refl; fields = refl }
declarator_inner _ ps h = absurd (none_fits ps h)

param_inner : (w : Word) (ps : Pieces) → each (formal_parameter_rule w) ps ≡ true → IsInner true w (formal_parameter_rule w)
param_inner word.Param ps h = record { stands = refl; fields = refl }
param_inner _ ps h = absurd (none_fits ps h)

pattern_inner : (w : Word) (ps : Pieces) → each (binding_pattern_rule w) ps ≡ true → IsInner true w (binding_pattern_rule w)
pattern_inner word.Bind ps h = record { stands = refl; fields = refl }
pattern_inner word.Arraypat ps h = record { stands = refl; fields = refl }
pattern_inner word.Objectpat ps h = record { stands = refl; fields = refl }
pattern_inner _ ps h = absurd (none_fits ps h)

default_inner : (w : Word) (ps : Pieces) → each (binding_pattern_maybe_default_rule w) ps ≡ true
    → IsInner true w (binding_pattern_maybe_default_rule w)
default_inner word.Defaultpat ps h = record { stands = refl; fields = refl }
default_inner w ps h = pattern_inner w ps h

item_inner : (w : Word) (ps : Pieces) → each (binding_pattern_element_rule w) ps ≡ true → IsInner true w (binding_pattern_element_rule w)
item_inner word.Hole ps h = record { stands = refl; fields = refl }
item_inner w ps h = default_inner w ps h

binding_inner : (w : Word) (ps : Pieces) → each (binding_property_rule w) ps ≡ true → IsInner true w (binding_property_rule w)
binding_inner word.Keyedpat ps h = record { stands = refl; fields = refl }
binding_inner _ ps h = absurd (none_fits ps h)

rest_inner : (w : Word) (ps : Pieces) → each (binding_rest_element_rule w) ps ≡ true → IsInner true w (binding_rest_element_rule w)
rest_inner word.Rest ps h = record { stands = refl; fields = refl }
rest_inner _ ps h = absurd (none_fits ps h)

name_inner : (w : Word) (ps : Pieces) → each (binding_identifier_rule w) ps ≡ true → IsInner true w (binding_identifier_rule w)
name_inner word.Bind ps h = record { stands = refl; fields = refl }
name_inner _ ps h = absurd (none_fits ps h)

node_inner : (named : Bool) (k : Kind) (w : Word) (ps : Pieces) → is_inner named k ≡ true → covers w ps ≡ true → each (rule k w) ps ≡ true
    → IsInner named w (rule k w)
node_inner true kind.VariableDeclarator w ps inner covered h = declarator_inner w ps h
node_inner false kind.VariableDeclarator w ps inner covered h = never inner
node_inner true kind.FormalParameter w ps inner covered h = param_inner w ps h
node_inner false kind.FormalParameter w ps inner covered h = never inner
node_inner true kind.BindingPattern w ps inner covered h = pattern_inner w ps h
node_inner false kind.BindingPattern w ps inner covered h = never inner
node_inner true kind.BindingIdentifier w ps inner covered h = name_inner w ps h
node_inner false kind.BindingIdentifier w ps inner covered h = never inner
node_inner true kind.BindingRestElement w ps inner covered h = rest_inner w ps h
node_inner false kind.BindingRestElement w ps inner covered h = never inner
node_inner true kind.BindingPatternMaybeDefault w ps inner covered h = default_inner w ps h
node_inner false kind.BindingPatternMaybeDefault w ps inner covered h = never inner
node_inner true kind.BindingPatternElement w ps inner covered h = item_inner w ps h
node_inner false kind.BindingPatternElement w ps inner covered h = never inner
node_inner true kind.BindingProperty w ps inner covered h = binding_inner w ps h
node_inner false kind.BindingProperty w ps inner covered h = never inner
node_inner named kind.Statement w ps inner covered h = statement_inner named w ps covered h
node_inner named kind.Expression w ps inner covered h = expression_inner named w ps covered h
node_inner named kind.ForInit w ps inner covered h = init_inner named w ps covered h
node_inner named kind.ForHead w ps inner covered h = head_inner named w ps covered h
node_inner named kind.SwitchCase w ps inner covered h = case_inner named w ps h
node_inner named kind.BlockStatement w ps inner covered h = block_inner named w ps h
node_inner named kind.CatchClause w ps inner covered h = catch_inner named w ps h
node_inner named kind.Argument w ps inner covered h = argument_inner named w ps covered h
node_inner named kind.ArrowBody w ps inner covered h = arrow_body_inner named w ps covered h
node_inner named kind.FunctionBody w ps inner covered h = body_inner named w ps h
node_inner named kind.FormalParameters w ps inner covered h = params_inner named w ps h
node_inner named kind.ArrayElement w ps inner covered h = element_inner named w ps covered h
node_inner named kind.ObjectProperty w ps inner covered h = property_inner named w ps covered h
node_inner named kind.PropertyKey w ps inner covered h = key_inner named w ps covered h
node_inner named kind.TemplateLiteral w ps inner covered h = literal_inner named w ps h
node_inner named kind.TemplateElement w ps inner covered h = quasi_inner named w ps h
node_inner named kind.AssignmentTarget w ps inner covered h = target_inner named w ps covered h
node_inner named kind.AssignmentTargetMaybeDefault w ps inner covered h = default_target_inner named w ps covered h
node_inner named kind.AssignmentTargetElement w ps inner covered h = target_element_inner named w ps covered h
node_inner named kind.AssignmentTargetProperty w ps inner covered h = target_property_inner named w ps h
node_inner named kind.AssignmentTargetRest w ps inner covered h = target_rest_inner named w ps h
node_inner named kind.TypeAnnotation w ps inner covered h = type_inner named w ps h
node_inner named kind.IdentifierReference w ps inner covered h = reference_inner named w ps h
node_inner named kind.Text w ps inner covered h = absurd (none_fits ps h)
node_inner named kind.Flag w ps inner covered h = absurd (none_fits ps h)
node_inner named kind.VariableKind w ps inner covered h = absurd (none_fits ps h)
node_inner named kind.TypeKind w ps inner covered h = absurd (none_fits ps h)
node_inner named kind.UnaryOperator w ps inner covered h = absurd (none_fits ps h)
node_inner named kind.UpdateOperator w ps inner covered h = absurd (none_fits ps h)
node_inner named kind.BinaryOperator w ps inner covered h = absurd (none_fits ps h)
node_inner named kind.LogicalOperator w ps inner covered h = absurd (none_fits ps h)
node_inner named kind.AssignmentOperator w ps inner covered h = absurd (none_fits ps h)
node_inner named _ w ps inner covered h = never inner

mutual
  -- A covered tree of such a kind that fits the grammar declares variables alone.
  pub covered_variables : (named : Bool) (f : Field) (t : Syntax) → inner_field named f ≡ true → fits f t ≡ true → IsCovered t
      → HasVariables named t
  covered_variables named (field.One k) (Node at w ps) inner h covered =
      let n = node_inner named k w ps inner covered.0 h in (n.stands, parts_variables (is_named named w) (rule k w) ps n.fields h covered.1)
  covered_variables named (field.Maybe k) (Node at w ps) inner h covered =
      let n = node_inner named k w ps inner covered.0 h in (n.stands, parts_variables (is_named named w) (rule k w) ps n.fields h covered.1)
  covered_variables named (field.Many k) (Node at w ps) inner h covered = absurd (cc)
  covered_variables named (field.One k) (Listed ps) inner h covered = absurd (cc)
  covered_variables named (field.Maybe k) (Listed ps) inner h covered = absurd (cc)
  covered_variables named (field.Many k) (Listed ps) inner h covered = items_variables named k ps inner h covered
  covered_variables named f (Said text) inner h covered = tt
  covered_variables named f (Count number) inner h covered = tt
  covered_variables named f (Flag flag) inner h covered = tt
  covered_variables named f Absent inner h covered = tt

  parts_variables : (named : Bool) (r : Option (List Field)) (ps : Pieces) → inner_rule named r ≡ true → each r ps ≡ true
      → AreCovered ps
      → HaveVariables named ps
  parts_variables named None End inner h covered = tt
  parts_variables named (Some fs) End inner h covered = tt
  parts_variables named None (Then p ps) inner h covered = absurd (cc)
  parts_variables named (Some []) (Then p ps) inner h covered = absurd (cc)
  parts_variables named (Some (f ∷ fs)) (Then p ps) inner h covered =
      let kinds = and_parts (inner_field named f) (inner_fields named fs) inner in
      let fit = and_parts (fits f p) (each (Some fs) ps) h in
      (covered_variables named f p kinds.0 fit.0 covered.0, parts_variables named (Some fs) ps kinds.1 fit.1 covered.1)

  items_variables : (named : Bool) (k : Kind) (ps : Pieces) → is_inner named k ≡ true → every k ps ≡ true → AreCovered ps
      → HaveVariables named ps
  items_variables named k End inner h covered = tt
  items_variables named k (Then p ps) inner h covered = (
    covered_variables named (field.One k) p inner (first_fits k (Then p ps) p ps refl h) covered.0,
    items_variables named k ps inner (rest_fit k (Then p ps) p ps refl h) covered.1,
  )
