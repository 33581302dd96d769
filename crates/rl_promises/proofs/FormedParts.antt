-- Parts that the port evaluates in another order than the source fit the grammar: tests of cases, targets and values of assignments,
-- binding patterns, targets that are patterns, and their parts.
use Rattle.std.proofs.Common.{◌≡◌, Bool, true, false, true≢false, Option, Some, None, List, [], ◌∷◌, refl}
use Rattle.std.proofs.lemmas.Bool.{and_parts}
use Rattle.rl_grammar.proofs.Viewing.{first_fits, rest_fit}
use Rattle.rl_grammar.specs.Grammar.{fits, each, every}
use Rattle.rl_grammar.specs.Rules.{rule}
use Rattle.rl_grammar.specs.declared.kind.Field.{Field}
use Rattle.rl_grammar.specs.declared.kind.Field.TheVariants as field
use Rattle.rl_grammar.specs.declared.kind.Kind.{Kind}
use Rattle.rl_grammar.specs.declared.kind.Kind.TheVariants as kind
use Rattle.rl_promises.proofs.CoveredForms.{none_fits}
use Rattle.rl_syntax.specs.Syntax.{Syntax, Node, Listed, Said, Count, Flag, Absent, Pieces, End, Then}
use Rattle.rl_syntax.specs.declared.word.Word.{Word}
use Rattle.rl_syntax.specs.declared.word.Word.TheVariants as word

-- The target and the value of an assignment.
abbrev pub AreAssignable : (target right : Syntax) → Type 0
AreAssignable target right = (fits (field.One kind.AssignmentTarget) target ≡ true) × (fits (field.One kind.Expression) right ≡ true)

-- A binding pattern as a whole: a name, or one that takes a value apart.
abbrev pub IsWhole : Syntax → Type 0
IsWhole (Node at word.Bind parts) = Unit {0}
IsWhole (Node at word.Arraypat parts) = Unit {0}
IsWhole (Node at word.Objectpat parts) = Unit {0}
IsWhole Absent = Unit {0}
IsWhole _ = ⊥

-- Not a property of a pattern.
abbrev pub IsUnkeyed : Syntax → Type 0
IsUnkeyed (Node at word.Keyedpat parts) = ⊥
IsUnkeyed (Node at word.Keyed parts) = ⊥
IsUnkeyed _ = Unit {0}

-- Not a part of a target.
abbrev pub IsHead : Syntax → Type 0
IsHead (Node at word.Default parts) = ⊥
IsHead (Node at word.Short parts) = ⊥
IsHead (Node at word.Keyed parts) = ⊥
IsHead (Node at word.Rest parts) = ⊥
IsHead _ = Unit {0}

-- The test of a case is an expression, or absent; an assignment has a target and a value; a declarator, a parameter and a `catch` clause
-- have a binding pattern, which may be absent in the last; properties stand in patterns of objects alone, and a loop has a
-- declaration or a whole target in its head.
abbrev pub HasFormedParts : Word → Pieces → Type 0
HasFormedParts word.Declarator (Then pattern parts) = IsWhole pattern
HasFormedParts word.Param (Then pattern parts) = IsWhole pattern
HasFormedParts word.Catch (Then pattern parts) = IsWhole pattern
HasFormedParts word.Defaultpat (Then pattern parts) = IsUnkeyed pattern
HasFormedParts word.Keyedpat (Then computed (Then key (Then pattern parts))) = IsUnkeyed pattern
HasFormedParts word.Arraypat (Then items (Then rest parts)) = IsUnkeyed rest
HasFormedParts word.Params (Then params (Then rest parts)) = IsUnkeyed rest
HasFormedParts word.Rest (Then part parts) = IsUnkeyed part
HasFormedParts word.Default (Then target parts) = IsUnkeyed target
HasFormedParts word.Short (Then target parts) = IsUnkeyed target
HasFormedParts word.Keyed (Then computed (Then key (Then target parts))) = IsUnkeyed target
HasFormedParts word.Arraytarget (Then items (Then rest parts)) = IsUnkeyed rest
HasFormedParts word.Forin (Then head parts) = IsHead head
HasFormedParts word.Forof (Then is_await (Then head parts)) = IsHead head
HasFormedParts word.Case (Then condition parts) = fits (field.Maybe kind.Expression) condition ≡ true
HasFormedParts word.Assign (Then operator (Then target (Then right parts))) = AreAssignable target right
HasFormedParts _ parts = Unit {0}

abbrev mutual
  -- As `HasFormedParts`, for each node of a tree.
  pub IsFormed : Syntax → Type 0
  IsFormed (Node at w parts) = HasFormedParts w parts × AreFormed parts
  IsFormed (Listed parts) = AreFormed parts
  IsFormed (Said text) = Unit {0}
  IsFormed (Count number) = Unit {0}
  IsFormed (Flag flag) = Unit {0}
  IsFormed Absent = Unit {0}

  -- As `IsFormed`, for parts in a row.
  pub AreFormed : Pieces → Type 0
  AreFormed End = Unit {0}
  AreFormed (Then piece pieces) = IsFormed piece × AreFormed pieces

-- A case is a node of one kind alone.
case_formed : (k : Kind) (condition : Syntax) (rest : Pieces) → each (rule k word.Case) (Then condition rest) ≡ true
    → fits (field.Maybe kind.Expression) condition ≡ true
case_formed kind.SwitchCase condition rest h =
    (and_parts (fits (field.Maybe kind.Expression) condition) (each (Some (field.Many kind.Statement ∷ [])) rest) h).0
case_formed _ condition rest h = absurd (none_fits (Then condition rest) h)

-- A binding pattern is a node of its own kind.

whole_pattern : (pattern : Syntax) → fits (field.One kind.BindingPattern) pattern ≡ true → IsWhole pattern
whole_pattern (Node at word.Bind parts) h = tt
whole_pattern (Node at word.Arraypat parts) h = tt
whole_pattern (Node at word.Objectpat parts) h = tt
whole_pattern (Node at w parts) h = absurd (none_fits parts h)
whole_pattern (Listed parts) h = absurd (cc)
whole_pattern (Said text) h = absurd (cc)
whole_pattern (Count number) h = absurd (cc)
whole_pattern (Flag flag) h = absurd (cc)
whole_pattern Absent h = tt

caught_pattern : (pattern : Syntax) → fits (field.Maybe kind.BindingPattern) pattern ≡ true → IsWhole pattern
caught_pattern (Node at w parts) h = whole_pattern (Node at w parts) h
caught_pattern (Listed parts) h = absurd (cc)
caught_pattern (Said text) h = absurd (cc)
caught_pattern (Count number) h = absurd (cc)
caught_pattern (Flag flag) h = absurd (cc)
caught_pattern Absent h = tt

declarator_formed : (k : Kind) (pattern : Syntax) (rest : Pieces) → each (rule k word.Declarator) (Then pattern rest) ≡ true
    → IsWhole pattern
declarator_formed kind.VariableDeclarator pattern rest h =
    whole_pattern pattern (and_parts (fits (field.One kind.BindingPattern) pattern) _ h).0
declarator_formed _ pattern rest h = absurd (none_fits (Then pattern rest) h)

param_formed : (k : Kind) (pattern : Syntax) (rest : Pieces) → each (rule k word.Param) (Then pattern rest) ≡ true → IsWhole pattern
param_formed kind.FormalParameter pattern rest h =
    whole_pattern pattern (and_parts (fits (field.One kind.BindingPattern) pattern) _ h).0
param_formed _ pattern rest h = absurd (none_fits (Then pattern rest) h)

catch_formed : (k : Kind) (pattern : Syntax) (rest : Pieces) → each (rule k word.Catch) (Then pattern rest) ≡ true → IsWhole pattern
catch_formed kind.CatchClause pattern rest h =
    caught_pattern pattern (and_parts (fits (field.Maybe kind.BindingPattern) pattern) _ h).0
catch_formed _ pattern rest h = absurd (none_fits (Then pattern rest) h)

-- Trees of all kinds but two are no properties of patterns.

abbrev is_property : Kind → Bool
is_property kind.BindingProperty = true
is_property kind.AssignmentTargetProperty = true
is_property _ = false

no_keyedpat : {X : Type 0} (k : Kind) (parts : Pieces) → is_property k ≡ false → each (rule k word.Keyedpat) parts ≡ true → X
no_keyedpat kind.BindingProperty parts plain h = absurd (true≢false plain)
no_keyedpat _ parts plain h = absurd (none_fits parts h)

no_keyed : {X : Type 0} (k : Kind) (parts : Pieces) → is_property k ≡ false → each (rule k word.Keyed) parts ≡ true → X
no_keyed kind.AssignmentTargetProperty parts plain h = absurd (true≢false plain)
no_keyed _ parts plain h = absurd (none_fits parts h)

unkeyed : (k : Kind) (t : Syntax) → is_property k ≡ false → fits (field.One k) t ≡ true → IsUnkeyed t
unkeyed k (Node at word.Keyedpat parts) plain h = no_keyedpat k parts plain h
unkeyed k (Node at word.Keyed parts) plain h = no_keyed k parts plain h
unkeyed k _ plain h = tt

maybe_unkeyed : (k : Kind) (t : Syntax) → is_property k ≡ false → fits (field.Maybe k) t ≡ true → IsUnkeyed t
maybe_unkeyed k (Node at w parts) plain h = unkeyed k (Node at w parts) plain h
maybe_unkeyed k _ plain h = tt

-- The first part of a node, the last one of a property, and the rest of a pattern.

first_unkeyed : (k : Kind) (t : Syntax) (fs : List Field) (rest : Pieces) → is_property k ≡ false
    → each (Some (field.One k ∷ fs)) (Then t rest) ≡ true → IsUnkeyed t
first_unkeyed k t fs rest plain h = unkeyed k t plain (and_parts (fits (field.One k) t) (each (Some fs) rest) h).0

under_key : (k : Kind) (computed key t : Syntax) (rest : Pieces) → is_property k ≡ false
    → each (Some (field.One kind.Flag ∷ field.One kind.PropertyKey ∷ field.One k ∷ [])) (Then computed (Then key (Then t rest))) ≡ true
    → IsUnkeyed t
under_key k computed key t rest plain h =
    let behind = (and_parts (fits (field.One kind.Flag) computed) _ h).1 in
    first_unkeyed k t [] rest plain (and_parts (fits (field.One kind.PropertyKey) key) _ behind).1

rest_unkeyed : (k l : Kind) (items t : Syntax) (rest : Pieces) → is_property l ≡ false
    → each (Some (field.Many k ∷ field.Maybe l ∷ [])) (Then items (Then t rest)) ≡ true → IsUnkeyed t
rest_unkeyed k l items t rest plain h =
    let behind = (and_parts (fits (field.Many k) items) _ h).1 in
    maybe_unkeyed l t plain (and_parts (fits (field.Maybe l) t) (each (Some []) rest) behind).0

defaultpat_formed : (k : Kind) (t : Syntax) (rest : Pieces) → each (rule k word.Defaultpat) (Then t rest) ≡ true → IsUnkeyed t
defaultpat_formed kind.BindingPatternMaybeDefault t rest h =
    first_unkeyed kind.BindingPattern t (field.One kind.Expression ∷ []) rest refl h
defaultpat_formed kind.BindingPatternElement t rest h = first_unkeyed kind.BindingPattern t (field.One kind.Expression ∷ []) rest refl h
defaultpat_formed _ t rest h = absurd (none_fits (Then t rest) h)

default_formed : (k : Kind) (t : Syntax) (rest : Pieces) → each (rule k word.Default) (Then t rest) ≡ true → IsUnkeyed t
default_formed kind.ImportSpecifier t rest h = first_unkeyed kind.BindingIdentifier t [] rest refl h
default_formed kind.AssignmentTargetMaybeDefault t rest h =
    first_unkeyed kind.AssignmentTarget t (field.One kind.Expression ∷ []) rest refl h
default_formed kind.AssignmentTargetElement t rest h = first_unkeyed kind.AssignmentTarget t (field.One kind.Expression ∷ []) rest refl h
default_formed _ t rest h = absurd (none_fits (Then t rest) h)

short_formed : (k : Kind) (t : Syntax) (rest : Pieces) → each (rule k word.Short) (Then t rest) ≡ true → IsUnkeyed t
short_formed kind.AssignmentTargetProperty t rest h =
    first_unkeyed kind.IdentifierReference t (field.Maybe kind.Expression ∷ []) rest refl h
short_formed _ t rest h = absurd (none_fits (Then t rest) h)

rest_formed : (k : Kind) (t : Syntax) (rest : Pieces) → each (rule k word.Rest) (Then t rest) ≡ true → IsUnkeyed t
rest_formed kind.BindingRestElement t rest h = first_unkeyed kind.BindingPattern t [] rest refl h
rest_formed kind.AssignmentTargetRest t rest h = first_unkeyed kind.AssignmentTarget t [] rest refl h
rest_formed _ t rest h = absurd (none_fits (Then t rest) h)

keyedpat_formed : (k : Kind) (computed key t : Syntax) (rest : Pieces)
    → each (rule k word.Keyedpat) (Then computed (Then key (Then t rest))) ≡ true → IsUnkeyed t
keyedpat_formed kind.BindingProperty computed key t rest h = under_key kind.BindingPatternMaybeDefault computed key t rest refl h
keyedpat_formed _ computed key t rest h = absurd (none_fits (Then computed (Then key (Then t rest))) h)

keyed_formed : (k : Kind) (computed key t : Syntax) (rest : Pieces)
    → each (rule k word.Keyed) (Then computed (Then key (Then t rest))) ≡ true → IsUnkeyed t
keyed_formed kind.AssignmentTargetProperty computed key t rest h =
    under_key kind.AssignmentTargetMaybeDefault computed key t rest refl h
keyed_formed _ computed key t rest h = absurd (none_fits (Then computed (Then key (Then t rest))) h)

arraypat_formed : (k : Kind) (items t : Syntax) (rest : Pieces) → each (rule k word.Arraypat) (Then items (Then t rest)) ≡ true
    → IsUnkeyed t
arraypat_formed kind.BindingPattern items t rest h = rest_unkeyed kind.BindingPatternElement kind.BindingRestElement items t rest refl h
arraypat_formed kind.BindingPatternMaybeDefault items t rest h =
    rest_unkeyed kind.BindingPatternElement kind.BindingRestElement items t rest refl h
arraypat_formed kind.BindingPatternElement items t rest h =
    rest_unkeyed kind.BindingPatternElement kind.BindingRestElement items t rest refl h
arraypat_formed _ items t rest h = absurd (none_fits (Then items (Then t rest)) h)

params_formed : (k : Kind) (params t : Syntax) (rest : Pieces) → each (rule k word.Params) (Then params (Then t rest)) ≡ true
    → IsUnkeyed t
params_formed kind.FormalParameters params t rest h = rest_unkeyed kind.FormalParameter kind.BindingRestElement params t rest refl h
params_formed _ params t rest h = absurd (none_fits (Then params (Then t rest)) h)

arraytarget_formed : (k : Kind) (items t : Syntax) (rest : Pieces)
    → each (rule k word.Arraytarget) (Then items (Then t rest)) ≡ true → IsUnkeyed t
arraytarget_formed kind.AssignmentTarget items t rest h =
    rest_unkeyed kind.AssignmentTargetElement kind.AssignmentTargetRest items t rest refl h
arraytarget_formed kind.ForHead items t rest h =
    rest_unkeyed kind.AssignmentTargetElement kind.AssignmentTargetRest items t rest refl h
arraytarget_formed kind.AssignmentTargetMaybeDefault items t rest h =
    rest_unkeyed kind.AssignmentTargetElement kind.AssignmentTargetRest items t rest refl h
arraytarget_formed kind.AssignmentTargetElement items t rest h =
    rest_unkeyed kind.AssignmentTargetElement kind.AssignmentTargetRest items t rest refl h
arraytarget_formed _ items t rest h = absurd (none_fits (Then items (Then t rest)) h)

-- The head of a loop.

whole_head : (head : Syntax) → fits (field.One kind.ForHead) head ≡ true → IsHead head
whole_head (Node at word.Default parts) h = absurd (none_fits parts h)
whole_head (Node at word.Short parts) h = absurd (none_fits parts h)
whole_head (Node at word.Keyed parts) h = absurd (none_fits parts h)
whole_head (Node at word.Rest parts) h = absurd (none_fits parts h)
whole_head _ h = tt

forin_formed : (k : Kind) (head : Syntax) (rest : Pieces) → each (rule k word.Forin) (Then head rest) ≡ true → IsHead head
forin_formed kind.Statement head rest h = whole_head head (and_parts (fits (field.One kind.ForHead) head) _ h).0
forin_formed kind.ExportDefault head rest h = whole_head head (and_parts (fits (field.One kind.ForHead) head) _ h).0
forin_formed _ head rest h = absurd (none_fits (Then head rest) h)

forof_formed : (k : Kind) (is_await head : Syntax) (rest : Pieces) → each (rule k word.Forof) (Then is_await (Then head rest)) ≡ true
    → IsHead head
forof_formed kind.Statement is_await head rest h =
    whole_head head (and_parts (fits (field.One kind.ForHead) head) _ (and_parts (fits (field.One kind.Flag) is_await) _ h).1).0
forof_formed kind.ExportDefault is_await head rest h =
    whole_head head (and_parts (fits (field.One kind.ForHead) head) _ (and_parts (fits (field.One kind.Flag) is_await) _ h).1).0
forof_formed _ is_await head rest h = absurd (none_fits (Then is_await (Then head rest)) h)

-- An assignment is an expression, and so a node of each kind that expressions are of.
by_rule : (operator target right : Syntax) (rest : Pieces)
    → each (Some (field.One kind.AssignmentOperator ∷ field.One kind.AssignmentTarget ∷ field.One kind.Expression ∷ []))
    (Then operator (Then target (Then right rest))) ≡ true
    → AreAssignable target right
by_rule operator target right rest h =
    let behind = (and_parts (fits (field.One kind.AssignmentOperator) operator) _ h).1 in
    let first = and_parts (fits (field.One kind.AssignmentTarget) target) _ behind in
    (first.0, (and_parts (fits (field.One kind.Expression) right) _ first.1).0)

assignment_formed : (k : Kind) (operator target right : Syntax) (rest : Pieces)
    → each (rule k word.Assign) (Then operator (Then target (Then right rest))) ≡ true → AreAssignable target right
assignment_formed kind.Expression operator target right rest h = by_rule operator target right rest h
assignment_formed kind.ForInit operator target right rest h = by_rule operator target right rest h
assignment_formed kind.ExportDefault operator target right rest h = by_rule operator target right rest h
assignment_formed kind.ArrowBody operator target right rest h = by_rule operator target right rest h
assignment_formed kind.PropertyKey operator target right rest h = by_rule operator target right rest h
assignment_formed kind.ArrayElement operator target right rest h = by_rule operator target right rest h
assignment_formed kind.Argument operator target right rest h = by_rule operator target right rest h
assignment_formed _ operator target right rest h = absurd (none_fits (Then operator (Then target (Then right rest))) h)

node_formed : (k : Kind) (w : Word) (parts : Pieces) → each (rule k w) parts ≡ true → HasFormedParts w parts
node_formed k word.Declarator (Then pattern rest) h = declarator_formed k pattern rest h
node_formed k word.Param (Then pattern rest) h = param_formed k pattern rest h
node_formed k word.Catch (Then pattern rest) h = catch_formed k pattern rest h
node_formed k word.Defaultpat (Then t rest) h = defaultpat_formed k t rest h
node_formed k word.Keyedpat (Then computed (Then key (Then t rest))) h = keyedpat_formed k computed key t rest h
node_formed k word.Arraypat (Then items (Then t rest)) h = arraypat_formed k items t rest h
node_formed k word.Params (Then params (Then t rest)) h = params_formed k params t rest h
node_formed k word.Rest (Then t rest) h = rest_formed k t rest h
node_formed k word.Default (Then t rest) h = default_formed k t rest h
node_formed k word.Short (Then t rest) h = short_formed k t rest h
node_formed k word.Keyed (Then computed (Then key (Then t rest))) h = keyed_formed k computed key t rest h
node_formed k word.Arraytarget (Then items (Then t rest)) h = arraytarget_formed k items t rest h
node_formed k word.Forin (Then head rest) h = forin_formed k head rest h
node_formed k word.Forof (Then is_await (Then head rest)) h = forof_formed k is_await head rest h
node_formed k word.Case (Then condition rest) h = case_formed k condition rest h
node_formed k word.Assign (Then operator (Then target (Then right rest))) h = assignment_formed k operator target right rest h
node_formed k _ parts h = tt

mutual
  -- Each tree that fits the grammar.
  pub formed_in : (f : Field) (t : Syntax) → fits f t ≡ true → IsFormed t
  formed_in (field.One k) (Node at w parts) h = (node_formed k w parts h, formed_among (rule k w) parts h)
  formed_in (field.Maybe k) (Node at w parts) h = (node_formed k w parts h, formed_among (rule k w) parts h)
  formed_in (field.Many k) (Node at w parts) h = absurd (cc)
  formed_in (field.One k) (Listed parts) h = absurd (cc)
  formed_in (field.Maybe k) (Listed parts) h = absurd (cc)
  formed_in (field.Many k) (Listed parts) h = items_formed k parts h
  formed_in f (Said text) h = tt
  formed_in f (Count number) h = tt
  formed_in f (Flag flag) h = tt
  formed_in f Absent h = tt

  formed_among : (r : Option (List Field)) (parts : Pieces) → each r parts ≡ true → AreFormed parts
  formed_among None End h = tt
  formed_among (Some fs) End h = tt
  formed_among None (Then p ps) h = absurd (cc)
  formed_among (Some []) (Then p ps) h = absurd (cc)
  formed_among (Some (f ∷ fs)) (Then p ps) h =
      let fit = and_parts (fits f p) (each (Some fs) ps) h in (formed_in f p fit.0, formed_among (Some fs) ps fit.1)

  items_formed : (k : Kind) (parts : Pieces) → every k parts ≡ true → AreFormed parts
  items_formed k End h = tt
  items_formed k (Then p ps) h = (
    formed_in (field.One k) p (first_fits k (Then p ps) p ps refl h),
    items_formed k ps (rest_fit k (Then p ps) p ps refl h),
  )
