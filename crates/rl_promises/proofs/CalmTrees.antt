-- Trees that make no scope: covered expressions, which declare nothing, and parameters, whose names all bind in one scope.
use Rattle.std.proofs.Common.{◌≡◌, zero, Bool, true, false, true≢false, ◌&&◌, ◌||◌, ◌⊎◌, inl, inr, Option, Some, None, List, [], ◌∷◌, refl, sym, subst, arith}
use Rattle.std.proofs.lemmas.Bool.{and_parts}
use Rattle.std.specs.List.{AllByRecursion}
use Rattle.rl_bindings.proofs.LookUps.{by_test}
use Rattle.rl_bindings.specs.Roles.{below, outside, role_of}
use Rattle.rl_bindings.specs.declared.names.Name.{Name}
use Rattle.rl_bindings.specs.declared.role.Above.{Above}
use Rattle.rl_grammar.proofs.Viewing.{first_fits, rest_fit}
use Rattle.rl_grammar.specs.Grammar.{fits, each, every}
use Rattle.rl_grammar.specs.Rules.{rule, argument_rule, array_element_rule, assignment_target_element_rule, assignment_target_maybe_default_rule}
use Rattle.rl_grammar.specs.Rules.{assignment_target_property_rule, assignment_target_rest_rule, assignment_target_rule}
use Rattle.rl_grammar.specs.Rules.{binding_pattern_element_rule, binding_pattern_maybe_default_rule, binding_pattern_rule}
use Rattle.rl_grammar.specs.Rules.{binding_property_rule, binding_rest_element_rule, expression_rule, formal_parameter_rule}
use Rattle.rl_grammar.specs.Rules.{identifier_reference_rule, object_property_rule, property_key_rule, template_element_rule}
use Rattle.rl_grammar.specs.Rules.{template_literal_rule, type_annotation_rule}
use Rattle.rl_grammar.specs.declared.kind.Field.{Field}
use Rattle.rl_grammar.specs.declared.kind.Field.TheVariants as field
use Rattle.rl_grammar.specs.declared.kind.Kind.{Kind}
use Rattle.rl_grammar.specs.declared.kind.Kind.TheVariants as kind
use Rattle.rl_names.proofs.Declarations.{declares, declares_among}
use Rattle.rl_names.proofs.Items.{each-append}
use Rattle.rl_names.proofs.PlainTrees.{plain_none, plain_scopes}
use Rattle.rl_names.specs.Plain.{ArePlain, IsPlain, is_plain}
use Rattle.rl_promises.proofs.CoveredForms.{none_fits}
use Rattle.rl_promises.proofs.CoveredNames.{never}
use Rattle.rl_promises.proofs.PlainNames.{IsOfContext}
use Rattle.rl_promises.specs.Covered.{AreCovered, IsCovered, covers}
use Rattle.rl_syntax.specs.Syntax.{Syntax, Node, Listed, Said, Count, Flag, Absent, Pieces, End, Then, one_if, scopes}
use Rattle.rl_syntax.specs.Tallies.{scopes_of}
use Rattle.rl_syntax.specs.Words.{makes_scope}
use Rattle.rl_syntax.specs.declared.numbered.At.{At}
use Rattle.rl_syntax.specs.declared.word.Word.{Word}
use Rattle.rl_syntax.specs.declared.word.Word.TheVariants as word

-- True of the kinds of expressions, and of their parts.
abbrev pub plain_kind : Kind → Bool
plain_kind kind.Expression = true
plain_kind kind.Argument = true
plain_kind kind.ArrayElement = true
plain_kind kind.ObjectProperty = true
plain_kind kind.PropertyKey = true
plain_kind kind.TemplateLiteral = true
plain_kind kind.TemplateElement = true
plain_kind kind.AssignmentTarget = true
plain_kind kind.AssignmentTargetMaybeDefault = true
plain_kind kind.AssignmentTargetElement = true
plain_kind kind.AssignmentTargetProperty = true
plain_kind kind.AssignmentTargetRest = true
plain_kind kind.TypeAnnotation = true
plain_kind kind.IdentifierReference = true
plain_kind kind.Text = true
plain_kind kind.Flag = true
plain_kind kind.TypeKind = true
plain_kind kind.UnaryOperator = true
plain_kind kind.UpdateOperator = true
plain_kind kind.AssignmentOperator = true
plain_kind kind.BinaryOperator = true
plain_kind kind.LogicalOperator = true
plain_kind _ = false

abbrev pub plain_field : Field → Bool
plain_field (field.One k) = plain_kind k
plain_field (field.Maybe k) = plain_kind k
plain_field (field.Many k) = plain_kind k

abbrev plain_fields : List Field → Bool
plain_fields [] = true
plain_fields (f ∷ fs) = plain_field f && plain_fields fs

abbrev plain_rule : Option (List Field) → Bool
plain_rule None = true
plain_rule (Some fs) = plain_fields fs

-- A word that makes no scope and declares no name, and whose fields are those of expressions.
record IsPlainWord (w : Word) (r : Option (List Field)) : Type 0 where
  quiet : is_plain (role_of w) ≡ true
  fields : plain_rule r ≡ true

expression_plain : (w : Word) (ps : Pieces) → covers w ps ≡ true → each (expression_rule w) ps ≡ true → IsPlainWord w (expression_rule w)
expression_plain word.Bind ps covered h = absurd (none_fits ps h)
expression_plain word.Program ps covered h = never covered
expression_plain word.Arrow ps covered h = never covered
expression_plain word.Fundecl ps covered h = never covered
expression_plain word.Funexpr ps covered h = never covered
expression_plain word.Block ps covered h = absurd (none_fits ps h)
expression_plain word.For ps covered h = absurd (none_fits ps h)
expression_plain word.Forin ps covered h = absurd (none_fits ps h)
expression_plain word.Forof ps covered h = absurd (none_fits ps h)
expression_plain word.Switch ps covered h = absurd (none_fits ps h)
expression_plain word.Catch ps covered h = absurd (none_fits ps h)
expression_plain word.Classdecl ps covered h = never covered
expression_plain word.Classexpr ps covered h = never covered
expression_plain word.Static ps covered h = never covered
expression_plain word.Element ps covered h = never covered
expression_plain word.Fragment ps covered h = never covered
expression_plain _ ps covered h = record { quiet = refl; fields = refl }

argument_plain : (w : Word) (ps : Pieces) → covers w ps ≡ true → each (argument_rule w) ps ≡ true → IsPlainWord w (argument_rule w)
argument_plain word.Spread ps covered h = record { quiet = refl; fields = refl }
argument_plain w ps covered h = expression_plain w ps covered h

element_plain : (w : Word) (ps : Pieces) → covers w ps ≡ true → each (array_element_rule w) ps ≡ true
    → IsPlainWord w (array_element_rule w)
element_plain word.Spread ps covered h = record { quiet = refl; fields = refl }
element_plain word.Hole ps covered h = record { quiet = refl; fields = refl }
element_plain w ps covered h = expression_plain w ps covered h

property_plain : (w : Word) (ps : Pieces) → covers w ps ≡ true → each (object_property_rule w) ps ≡ true
    → IsPlainWord w (object_property_rule w)
property_plain word.Prop ps covered h = record { quiet = refl; fields = refl }
property_plain word.Spread ps covered h = record { quiet = refl; fields = refl }
property_plain word.Method ps covered h = never covered
property_plain word.Get ps covered h = never covered
property_plain word.Set ps covered h = never covered
property_plain _ ps covered h = absurd (none_fits ps h)

key_plain : (w : Word) (ps : Pieces) → covers w ps ≡ true → each (property_key_rule w) ps ≡ true → IsPlainWord w (property_key_rule w)
key_plain word.Name ps covered h = record { quiet = refl; fields = refl }
key_plain word.Private ps covered h = record { quiet = refl; fields = refl }
key_plain w ps covered h = expression_plain w ps covered h

literal_plain : (w : Word) (ps : Pieces) → each (template_literal_rule w) ps ≡ true → IsPlainWord w (template_literal_rule w)
literal_plain word.Template ps h = record { quiet = refl; fields = refl }
literal_plain _ ps h = absurd (none_fits ps h)

quasi_plain : (w : Word) (ps : Pieces) → each (template_element_rule w) ps ≡ true → IsPlainWord w (template_element_rule w)
quasi_plain word.Quasi ps h = record { quiet = refl; fields = refl }
quasi_plain _ ps h = absurd (none_fits ps h)

target_plain : (w : Word) (ps : Pieces) → each (assignment_target_rule w) ps ≡ true → IsPlainWord w (assignment_target_rule w)
target_plain word.Id ps h = record { quiet = refl; fields = refl }
target_plain word.Member ps h = record { quiet = refl; fields = refl }
target_plain word.Index ps h = record { quiet = refl; fields = refl }
target_plain word.Privatemember ps h = record { quiet = refl; fields = refl }
target_plain word.Arraytarget ps h = record { quiet = refl; fields = refl }
target_plain word.Objecttarget ps h = record { quiet = refl; fields = refl }
target_plain word.As ps h = record { quiet = refl; fields = refl }
target_plain word.Satisfies ps h = record { quiet = refl; fields = refl }
target_plain word.Assert ps h = record { quiet = refl; fields = refl }
target_plain word.Nonnull ps h = record { quiet = refl; fields = refl }
target_plain _ ps h = absurd (none_fits ps h)

default_target_plain : (w : Word) (ps : Pieces) → each (assignment_target_maybe_default_rule w) ps ≡ true
    → IsPlainWord w (assignment_target_maybe_default_rule w)
default_target_plain word.Default ps h = record { quiet = refl; fields = refl }
default_target_plain w ps h = target_plain w ps h

target_element_plain : (w : Word) (ps : Pieces) → each (assignment_target_element_rule w) ps ≡ true
    → IsPlainWord w (assignment_target_element_rule w)
target_element_plain word.Hole ps h = record { quiet = refl; fields = refl }
target_element_plain w ps h = default_target_plain w ps h

target_property_plain : (w : Word) (ps : Pieces) → each (assignment_target_property_rule w) ps ≡ true
    → IsPlainWord w (assignment_target_property_rule w)
target_property_plain word.Short ps h = record { quiet = refl; fields = refl }
target_property_plain word.Keyed ps h = record { quiet = refl; fields = refl }
target_property_plain _ ps h = absurd (none_fits ps h)

target_rest_plain : (w : Word) (ps : Pieces) → each (assignment_target_rest_rule w) ps ≡ true
    → IsPlainWord w (assignment_target_rest_rule w)
target_rest_plain word.Rest ps h = record { quiet = refl; fields = refl }
target_rest_plain _ ps h = absurd (none_fits ps h)

type_plain : (w : Word) (ps : Pieces) → each (type_annotation_rule w) ps ≡ true → IsPlainWord w (type_annotation_rule w)
type_plain word.Type ps h = record { quiet = refl; fields = refl }
type_plain _ ps h = absurd (none_fits ps h)

reference_plain : (w : Word) (ps : Pieces) → each (identifier_reference_rule w) ps ≡ true → IsPlainWord w (identifier_reference_rule w)
reference_plain word.Id ps h = record { quiet = refl; fields = refl }
reference_plain _ ps h = absurd (none_fits ps h)

node_plain : (k : Kind) (w : Word) (ps : Pieces) → plain_kind k ≡ true → covers w ps ≡ true → each (rule k w) ps ≡ true
    → IsPlainWord w (rule k w)
node_plain kind.Expression w ps plain covered h = expression_plain w ps covered h
node_plain kind.Argument w ps plain covered h = argument_plain w ps covered h
node_plain kind.ArrayElement w ps plain covered h = element_plain w ps covered h
node_plain kind.ObjectProperty w ps plain covered h = property_plain w ps covered h
node_plain kind.PropertyKey w ps plain covered h = key_plain w ps covered h
node_plain kind.TemplateLiteral w ps plain covered h = literal_plain w ps h
node_plain kind.TemplateElement w ps plain covered h = quasi_plain w ps h
node_plain kind.AssignmentTarget w ps plain covered h = target_plain w ps h
node_plain kind.AssignmentTargetMaybeDefault w ps plain covered h = default_target_plain w ps h
node_plain kind.AssignmentTargetElement w ps plain covered h = target_element_plain w ps h
node_plain kind.AssignmentTargetProperty w ps plain covered h = target_property_plain w ps h
node_plain kind.AssignmentTargetRest w ps plain covered h = target_rest_plain w ps h
node_plain kind.TypeAnnotation w ps plain covered h = type_plain w ps h
node_plain kind.IdentifierReference w ps plain covered h = reference_plain w ps h
node_plain kind.Text w ps plain covered h = absurd (none_fits ps h)
node_plain kind.Flag w ps plain covered h = absurd (none_fits ps h)
node_plain kind.TypeKind w ps plain covered h = absurd (none_fits ps h)
node_plain kind.UnaryOperator w ps plain covered h = absurd (none_fits ps h)
node_plain kind.UpdateOperator w ps plain covered h = absurd (none_fits ps h)
node_plain kind.AssignmentOperator w ps plain covered h = absurd (none_fits ps h)
node_plain kind.BinaryOperator w ps plain covered h = absurd (none_fits ps h)
node_plain kind.LogicalOperator w ps plain covered h = absurd (none_fits ps h)
node_plain _ w ps plain covered h = never plain

mutual
  -- A covered tree of such a kind that fits the grammar makes no scope and declares no name.
  pub covered_plain : (f : Field) (t : Syntax) → plain_field f ≡ true → fits f t ≡ true → IsCovered t → IsPlain t
  covered_plain (field.One k) (Node at w ps) plain h covered =
      let n = node_plain k w ps plain covered.0 h in (n.quiet, parts_plain (rule k w) ps n.fields h covered.1)
  covered_plain (field.Maybe k) (Node at w ps) plain h covered =
      let n = node_plain k w ps plain covered.0 h in (n.quiet, parts_plain (rule k w) ps n.fields h covered.1)
  covered_plain (field.Many k) (Node at w ps) plain h covered = absurd (cc)
  covered_plain (field.One k) (Listed ps) plain h covered = absurd (cc)
  covered_plain (field.Maybe k) (Listed ps) plain h covered = absurd (cc)
  covered_plain (field.Many k) (Listed ps) plain h covered = items_plain k ps plain h covered
  covered_plain f (Said text) plain h covered = tt
  covered_plain f (Count number) plain h covered = tt
  covered_plain f (Flag flag) plain h covered = tt
  covered_plain f Absent plain h covered = tt

  parts_plain : (r : Option (List Field)) (ps : Pieces) → plain_rule r ≡ true → each r ps ≡ true → AreCovered ps → ArePlain ps
  parts_plain None End plain h covered = tt
  parts_plain (Some fs) End plain h covered = tt
  parts_plain None (Then p ps) plain h covered = absurd (cc)
  parts_plain (Some []) (Then p ps) plain h covered = absurd (cc)
  parts_plain (Some (f ∷ fs)) (Then p ps) plain h covered =
      let kinds = and_parts (plain_field f) (plain_fields fs) plain in
      let fit = and_parts (fits f p) (each (Some fs) ps) h in
      (covered_plain f p kinds.0 fit.0 covered.0, parts_plain (Some fs) ps kinds.1 fit.1 covered.1)

  items_plain : (k : Kind) (ps : Pieces) → plain_kind k ≡ true → every k ps ≡ true → AreCovered ps → ArePlain ps
  items_plain k End plain h covered = tt
  items_plain k (Then p ps) plain h covered = (
    covered_plain (field.One k) p plain (first_fits k (Then p ps) p ps refl h) covered.0,
    items_plain k ps plain (rest_fit k (Then p ps) p ps refl h) covered.1,
  )

-- True of the words of parameters, patterns and their names.
abbrev pub is_calm_word : Word → Bool
is_calm_word word.Bind = true
is_calm_word word.Param = true
is_calm_word word.Rest = true
is_calm_word word.Arraypat = true
is_calm_word word.Objectpat = true
is_calm_word word.Keyedpat = true
is_calm_word word.Defaultpat = true
is_calm_word word.Hole = true
is_calm_word _ = false

abbrev mutual
  -- The names that the tree declares all bind in the scope that it stands in.
  pub IsCalm : Syntax → Type 0
  IsCalm (Node at w parts) = IsPlain (Node at w parts) ⊎ ((is_calm_word w ≡ true) × AreCalm parts)
  IsCalm (Listed parts) = AreCalm parts
  IsCalm (Said text) = Unit {0}
  IsCalm (Count number) = Unit {0}
  IsCalm (Flag flag) = Unit {0}
  IsCalm Absent = Unit {0}

  -- As `IsCalm`, for parts in a row.
  pub AreCalm : Pieces → Type 0
  AreCalm End = Unit {0}
  AreCalm (Then piece pieces) = IsCalm piece × AreCalm pieces

-- True of the kinds of parameters and patterns.
abbrev pattern_kind : Kind → Bool
pattern_kind kind.FormalParameter = true
pattern_kind kind.BindingPattern = true
pattern_kind kind.BindingPatternMaybeDefault = true
pattern_kind kind.BindingPatternElement = true
pattern_kind kind.BindingProperty = true
pattern_kind kind.BindingRestElement = true
pattern_kind _ = false

abbrev pub calm_kind : Kind → Bool
calm_kind k = pattern_kind k || plain_kind k

abbrev pub calm_field : Field → Bool
calm_field (field.One k) = calm_kind k
calm_field (field.Maybe k) = calm_kind k
calm_field (field.Many k) = calm_kind k

abbrev calm_fields : List Field → Bool
calm_fields [] = true
calm_fields (f ∷ fs) = calm_field f && calm_fields fs

abbrev calm_rule : Option (List Field) → Bool
calm_rule None = true
calm_rule (Some fs) = calm_fields fs

record IsCalmWord (w : Word) (r : Option (List Field)) : Type 0 where
  calm : is_calm_word w ≡ true
  fields : calm_rule r ≡ true

pattern_calm : (w : Word) (ps : Pieces) → each (binding_pattern_rule w) ps ≡ true → IsCalmWord w (binding_pattern_rule w)
pattern_calm word.Bind ps h = record { calm = refl; fields = refl }
pattern_calm word.Arraypat ps h = record { calm = refl; fields = refl }
pattern_calm word.Objectpat ps h = record { calm = refl; fields = refl }
pattern_calm _ ps h = absurd (none_fits ps h)

default_calm : (w : Word) (ps : Pieces) → each (binding_pattern_maybe_default_rule w) ps ≡ true
    → IsCalmWord w (binding_pattern_maybe_default_rule w)
default_calm word.Defaultpat ps h = record { calm = refl; fields = refl }
default_calm w ps h = pattern_calm w ps h

item_calm : (w : Word) (ps : Pieces) → each (binding_pattern_element_rule w) ps ≡ true → IsCalmWord w (binding_pattern_element_rule w)
item_calm word.Hole ps h = record { calm = refl; fields = refl }
item_calm w ps h = default_calm w ps h

binding_calm : (w : Word) (ps : Pieces) → each (binding_property_rule w) ps ≡ true → IsCalmWord w (binding_property_rule w)
binding_calm word.Keyedpat ps h = record { calm = refl; fields = refl }
binding_calm _ ps h = absurd (none_fits ps h)

rest_calm : (w : Word) (ps : Pieces) → each (binding_rest_element_rule w) ps ≡ true → IsCalmWord w (binding_rest_element_rule w)
rest_calm word.Rest ps h = record { calm = refl; fields = refl }
rest_calm _ ps h = absurd (none_fits ps h)

param_calm : (w : Word) (ps : Pieces) → each (formal_parameter_rule w) ps ≡ true → IsCalmWord w (formal_parameter_rule w)
param_calm word.Param ps h = record { calm = refl; fields = refl }
param_calm _ ps h = absurd (none_fits ps h)

node_calm : (k : Kind) (w : Word) (ps : Pieces) → pattern_kind k ≡ true → each (rule k w) ps ≡ true → IsCalmWord w (rule k w)
node_calm kind.FormalParameter w ps calm h = param_calm w ps h
node_calm kind.BindingPattern w ps calm h = pattern_calm w ps h
node_calm kind.BindingPatternMaybeDefault w ps calm h = default_calm w ps h
node_calm kind.BindingPatternElement w ps calm h = item_calm w ps h
node_calm kind.BindingProperty w ps calm h = binding_calm w ps h
node_calm kind.BindingRestElement w ps calm h = rest_calm w ps h
node_calm _ w ps calm h = never calm

plain_else : (calm plain : Bool) → (calm || plain) ≡ true → calm ≡ false → plain ≡ true
plain_else true plain either none = absurd (true≢false none)
plain_else false plain either none = either

-- A node of such a kind: a pattern, or an expression.
calm_or_plain : (k : Kind) (at : At) (w : Word) (ps : Pieces) → calm_kind k ≡ true → each (rule k w) ps ≡ true → IsCovered (Node at w ps)
    → (calm_rule (rule k w) ≡ true → AreCalm ps) → IsCalm (Node at w ps)
calm_or_plain k at w ps calm h covered parts =
    by_test (pattern_kind k) (λ is. let n = node_calm k w ps is h in inr (n.calm, parts n.fields))
    (λ none. inl (covered_plain (field.One k) (Node at w ps) (plain_else (pattern_kind k) (plain_kind k) calm none) h covered))

mutual
  -- A covered tree of such a kind that fits the grammar is calm.
  pub covered_calm : (f : Field) (t : Syntax) → calm_field f ≡ true → fits f t ≡ true → IsCovered t → IsCalm t
  covered_calm (field.One k) (Node at w ps) calm h covered =
      calm_or_plain k at w ps calm h covered (λ fields. parts_calm (rule k w) ps fields h covered.1)
  covered_calm (field.Maybe k) (Node at w ps) calm h covered =
      calm_or_plain k at w ps calm h covered (λ fields. parts_calm (rule k w) ps fields h covered.1)
  covered_calm (field.Many k) (Node at w ps) calm h covered = absurd (cc)
  covered_calm (field.One k) (Listed ps) calm h covered = absurd (cc)
  covered_calm (field.Maybe k) (Listed ps) calm h covered = absurd (cc)
  covered_calm (field.Many k) (Listed ps) calm h covered = items_calm k ps calm h covered
  covered_calm f (Said text) calm h covered = tt
  covered_calm f (Count number) calm h covered = tt
  covered_calm f (Flag flag) calm h covered = tt
  covered_calm f Absent calm h covered = tt

  parts_calm : (r : Option (List Field)) (ps : Pieces) → calm_rule r ≡ true → each r ps ≡ true → AreCovered ps → AreCalm ps
  parts_calm None End calm h covered = tt
  parts_calm (Some fs) End calm h covered = tt
  parts_calm None (Then p ps) calm h covered = absurd (cc)
  parts_calm (Some []) (Then p ps) calm h covered = absurd (cc)
  parts_calm (Some (f ∷ fs)) (Then p ps) calm h covered =
      let kinds = and_parts (calm_field f) (calm_fields fs) calm in
      let fit = and_parts (fits f p) (each (Some fs) ps) h in
      (covered_calm f p kinds.0 fit.0 covered.0, parts_calm (Some fs) ps kinds.1 fit.1 covered.1)

  items_calm : (k : Kind) (ps : Pieces) → calm_kind k ≡ true → every k ps ≡ true → AreCovered ps → AreCalm ps
  items_calm k End calm h covered = tt
  items_calm k (Then p ps) calm h covered = (
    covered_calm (field.One k) p calm (first_fits k (Then p ps) p ps refl h) covered.0,
    items_calm k ps calm (rest_fit k (Then p ps) p ps refl h) covered.1,
  )

module _ (names : List Name) where
  calm_node : (at : At) (w : Word) (ps : Pieces) (a : Above) → is_calm_word w ≡ true
      → ((ahead within : Above) → AllByRecursion (IsOfContext within) (declares_among names zero ahead within ps))
      → AllByRecursion (IsOfContext a) (declares names a (Node at w ps))
  calm_node at word.Bind ps a calm parts = ((refl, refl), parts (outside a word.Bind) (below a at word.Bind ps))
  calm_node at word.Param ps a calm parts = parts (outside a word.Param) (below a at word.Param ps)
  calm_node at word.Rest ps a calm parts = parts (outside a word.Rest) (below a at word.Rest ps)
  calm_node at word.Arraypat ps a calm parts = parts (outside a word.Arraypat) (below a at word.Arraypat ps)
  calm_node at word.Objectpat ps a calm parts = parts (outside a word.Objectpat) (below a at word.Objectpat ps)
  calm_node at word.Keyedpat ps a calm parts = parts (outside a word.Keyedpat) (below a at word.Keyedpat ps)
  calm_node at word.Defaultpat ps a calm parts = parts (outside a word.Defaultpat) (below a at word.Defaultpat ps)
  calm_node at word.Hole ps a calm parts = parts (outside a word.Hole) (below a at word.Hole ps)
  calm_node at _ ps a calm parts = never calm

  mutual
    -- The declarations of a calm tree have the kind and the scope of its context.
    pub calm_context : (t : Syntax) (a : Above) → IsCalm t → AllByRecursion (IsOfContext a) (declares names a t)
    calm_context (Node at w ps) a (inl plain) =
        subst (λ bs. AllByRecursion (IsOfContext a) bs) (sym (plain_none names (Node at w ps) a plain)) tt
    calm_context (Node at w ps) a (inr calm) = calm_node at w ps a calm.0 (λ ahead within. calm_among ps ahead within calm.1)
    calm_context (Listed ps) a calm = calm_among ps a a calm
    calm_context (Said text) a calm = tt
    calm_context (Count number) a calm = tt
    calm_context (Flag flag) a calm = tt
    calm_context Absent a calm = tt

    pub calm_among : (ps : Pieces) (a b : Above) → AreCalm ps → AllByRecursion (IsOfContext b) (declares_among names zero a b ps)
    calm_among End a b calm = tt
    calm_among (Then p ps) a b calm =
        each-append (IsOfContext b) (declares names b p) (declares_among names zero a b ps) (calm_context p b calm.0)
        (calm_among ps a b calm.1)

calm_maker : (w : Word) → is_calm_word w ≡ true → one_if makes_scope w ≡ 0
calm_maker word.Bind calm = refl
calm_maker word.Param calm = refl
calm_maker word.Rest calm = refl
calm_maker word.Arraypat calm = refl
calm_maker word.Objectpat calm = refl
calm_maker word.Keyedpat calm = refl
calm_maker word.Defaultpat calm = refl
calm_maker word.Hole calm = refl
calm_maker _ calm = never calm

mutual
  -- A calm tree makes no scope.
  pub calm_scopes : (t : Syntax) → IsCalm t → scopes t ≡ 0
  calm_scopes (Node at w ps) (inl plain) = plain_scopes (Node at w ps) plain
  calm_scopes (Node at w ps) (inr calm) =
      let one = calm_maker w calm.0 in let more = calm_scopes_of ps calm.1 in omega (arith, one, more)
  calm_scopes (Listed ps) calm = calm_scopes_of ps calm
  calm_scopes (Said text) calm = refl
  calm_scopes (Count number) calm = refl
  calm_scopes (Flag flag) calm = refl
  calm_scopes Absent calm = refl

  pub calm_scopes_of : (ps : Pieces) → AreCalm ps → scopes_of ps ≡ 0
  calm_scopes_of End calm = refl
  calm_scopes_of (Then p ps) calm =
      let one = calm_scopes p calm.0 in let more = calm_scopes_of ps calm.1 in omega (arith, one, more)
