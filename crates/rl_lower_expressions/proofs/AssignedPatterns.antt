-- Assignments to patterns, and the parts of assignments that are lowerable.
use Rattle.std.proofs.Common.{◌≡◌, Bool, true, false, not, List, ℕ, Some, Result, Ok, Err, OnOk, IfOk, refl, sym, ap, ◌∙◌, subst}
use Rattle.std.specs.Prelude.{codes}
use Rattle.std.specs.Str.{bytes_eq}
use Rattle.rl_base.specs.Operators.{assignment_text}
use Rattle.rl_base.specs.declared.operator.AssignmentOperator.{AssignmentOperator}
use Rattle.rl_base.specs.declared.operator.AssignmentOperator.TheVariants as assignments
use Rattle.rl_base.specs.declared.operator.BinaryOperator.{BinaryOperator}
use Rattle.rl_base.specs.declared.row.Row.TheVariants as row
use Rattle.rl_base.specs.declared.span.Span.{Span}
use Rattle.rl_base.specs.declared.stop.Stop.{Stop}
use Rattle.rl_builder.specs.Builder.{State, recorded}
use Rattle.rl_builder.specs.Temporaries.{temporary, with_value}
use Rattle.rl_grammar.specs.Grammar.{fits}
use Rattle.rl_grammar.specs.declared.kind.Field.TheVariants as field
use Rattle.rl_grammar.specs.declared.kind.Kind.TheVariants as kind
use Rattle.rl_hir.specs.declared.instruction.InstructionValue.TheVariants as values
use Rattle.rl_hir.specs.declared.instruction.Place.{Place}
use Rattle.rl_hir.specs.declared.instruction.PrimitiveValue.TheVariants as primitives
use Rattle.rl_lower_expressions.proofs.AssignmentDerivations.{assignment, compound}
use Rattle.rl_lower_parts.proofs.Derivations.{derived, refused_ok}
use Rattle.rl_lowered.specs.Forms as forms
use Rattle.rl_lowered.specs.Forms.{applied_by}
use Rattle.rl_lowered.specs.Lowered as lowered
use Rattle.rl_lowered.specs.Lowered.{LoweredTarget}
use Rattle.rl_lowered.specs.Promised.{LowersExpression, LowersTarget}
use Rattle.rl_model.specs.Shapes.{is_logical}
use Rattle.rl_names.specs.Names.{Names}
use Rattle.rl_promises.proofs.CoveredForms.{none_fits}
use Rattle.rl_promises.specs.Lowerable.{IsLowerable, IsLowerableTo, Where}
use Rattle.rl_promises.specs.Patterns.{is_pattern}
use Rattle.rl_promises.specs.Rows.{refusal}
use Rattle.rl_syntax.specs.declared.numbered.At.{At}
use Rattle.rl_syntax.specs.declared.word.Word.{Word}
use Rattle.rl_syntax.specs.declared.word.Word.TheVariants as word
use Rattle.rl_syntax.specs.Syntax.{Syntax, Node, Said, Pieces, End, Then, span_of}

-- Of a target by its view.

pub where_plain : {X : Type 0} {shown target : Syntax} → shown ≡ target → is_pattern shown ≡ false → Where (not (is_pattern target)) X → X
where_plain {X} is plain holds = subst (λ (b : Bool). Where (not b) X) (sym (ap is_pattern is) ∙ plain) holds

pub where_pattern : {X : Type 0} {shown target : Syntax} → shown ≡ target → is_pattern shown ≡ true → Where (is_pattern target) X → X
where_pattern {X} is apart holds = subst (λ (b : Bool). Where b X) (sym (ap is_pattern is) ∙ apart) holds

-- A name is no pattern.
pub name_plain : (name : Syntax) → fits (field.One kind.IdentifierReference) name ≡ true → is_pattern name ≡ false
name_plain (Node at word.Arraytarget parts) fit = absurd (none_fits parts fit)
name_plain (Node at word.Objecttarget parts) fit = absurd (none_fits parts fit)
name_plain _ fit = refl

-- Of a target that is no pattern by its view: it is lowerable, and so is the right part.

pub shown_may : (names : Names) {shown target : Syntax} → shown ≡ target → is_pattern shown ≡ false
    → Where (not (is_pattern target)) (IsLowerable names target) → IsLowerable names shown
shown_may names is plain may = subst (IsLowerable names) (sym is) (where_plain is plain may)

pub shown_both : (names : Names) {shown target : Syntax} (right : Syntax) → shown ≡ target → is_pattern shown ≡ false
    → Where (not (is_pattern target)) (IsLowerable names target × IsLowerable names right)
    → IsLowerable names shown × IsLowerable names right
shown_both names {target = target} right is plain may =
    let both : IsLowerable names target × IsLowerable names right = where_plain is plain may in
    (subst (IsLowerable names) (sym is) both.0, both.1)

-- Parts of an assignment.

plain_parts : (A B : Type 0) (pattern logical : Bool) → logical ≡ false → Where (not pattern) (Where (not logical) (A × B))
    → Where (not pattern) (A × B)
plain_parts A B true logical is holds = tt
plain_parts A B false logical is holds = subst (λ (b : Bool). Where (not b) (A × B)) is holds

taken_parts : (A B : Type 0) (pattern equals : Bool) → equals ≡ true → Where pattern (Where equals (A × B)) → Where pattern (A × B)
taken_parts A B false equals is holds = tt
taken_parts A B true equals is holds = subst (λ (b : Bool). Where b (A × B)) is holds

first_of : (A B : Type 0) (there : Bool) → Where there (A × B) → Where there A
first_of A B true both = both.0
first_of A B false both = tt

second_of : (A B C : Type 0) (pattern : Bool) → Where (not pattern) (A × B) → Where pattern (C × B) → B
second_of A B C true plain taken = taken.1
second_of A B C false plain taken = plain.1

module _ (names : Names) (at : At) (target right : Syntax) where
  -- An assignment by `=`, whose value goes to a name or a property, or to a pattern.

  assigned_plain : IsLowerable names (assignment at target right)
      → Where (not (is_pattern target)) (IsLowerable names target × IsLowerable names right)
  assigned_plain may =
      plain_parts (IsLowerable names target) (IsLowerable names right) (is_pattern target) (is_logical (codes "=")) refl may.1

  assigned_taken : IsLowerable names (assignment at target right)
      → Where (is_pattern target) (IsLowerableTo names target × IsLowerable names right)
  assigned_taken may =
      taken_parts (IsLowerableTo names target) (IsLowerable names right) (is_pattern target) (bytes_eq (codes "=") (codes "=")) refl may.2

  pub assigned_may : IsLowerable names (assignment at target right) → Where (not (is_pattern target)) (IsLowerable names target)
  assigned_may may = first_of (IsLowerable names target) (IsLowerable names right) (not (is_pattern target)) (assigned_plain may)

  pub assigned_may_take : IsLowerable names (assignment at target right) → Where (is_pattern target) (IsLowerableTo names target)
  assigned_may_take may = first_of (IsLowerableTo names target) (IsLowerable names right) (is_pattern target) (assigned_taken may)

  pub assigned_may_value : IsLowerable names (assignment at target right) → IsLowerable names right
  assigned_may_value may = second_of (IsLowerable names target) (IsLowerable names right) (IsLowerableTo names target) (is_pattern target)
      (assigned_plain may) (assigned_taken may)

  pub assigned_by : (operator : AssignmentOperator) → operator ≡ assignments.Assign → IsLowerable names (compound at operator target right)
      → IsLowerable names (assignment at target right)
  assigned_by operator is may = subst (λ (o : AssignmentOperator). IsLowerable names (compound at o target right)) is may

  -- An assignment by another operator.
  pub compound_may : (operator : AssignmentOperator) → is_logical (assignment_text operator) ≡ false
      → IsLowerable names (compound at operator target right)
      → Where (not (is_pattern target)) (IsLowerable names target × IsLowerable names right)
  compound_may operator plain may =
      plain_parts (IsLowerable names target) (IsLowerable names right) (is_pattern target) (is_logical (assignment_text operator)) plain
      may.1

pub applied_plain : (operator : AssignmentOperator) (applied : BinaryOperator) → applied_by operator ≡ Some applied
    → is_logical (assignment_text operator) ≡ false
applied_plain assignments.LogicalOr applied is = absurd (cc)
applied_plain assignments.LogicalAnd applied is = absurd (cc)
applied_plain assignments.LogicalNullish applied is = absurd (cc)
applied_plain _ applied is = refl

-- Derivations.

pub assigned_pattern_ok : {names : Names} {target right : Syntax} {there : At} {w : Word} {fields : Pieces} {s t : State} {p : Place}
    {span : Span} (at : At) (r : Result Place Stop) (new : State) → Node there w fields ≡ target
    → is_pattern (Node there w fields) ≡ true → span ≡ span_of target → LowersExpression names right s t p
    → IfOk r (λ place. LowersTarget names span p target t new place)
    → IfOk r (λ place. LowersExpression names (assignment at target right) s new place)
assigned_pattern_ok {names} {target} {right} {there} {w} {fields} {s} {t} {p} {span} at (Ok place) new is apart spans l taken =
    derived (assignment at target right) (assignment at (Node there w fields) right) s new new place place
    (ap (λ (n : Syntax). assignment at n right) is) refl refl
    (lowered.AssignedPattern at there w fields right s t new p place apart l.by
    (subst (λ (n : Syntax). LoweredTarget names there.span p n t new place) (sym is)
    (subst (λ (a : Span). LoweredTarget names a p target t new place) (spans ∙ sym (ap span_of is)) taken.by)))
assigned_pattern_ok at (Err e) new is apart spans l taken = tt

pub compound_pattern_ok : {shown target : Syntax} (names : Names) (at : At) (applied : BinaryOperator) (right : Syntax) (s : State)
    (r : Result Place Stop) (new : State) → shown ≡ target → is_pattern shown ≡ true
    → OnOk r (new ≡ with_value (recorded s (refusal row.F24 at.span)) (values.Primitive primitives.Undefined) (Some at.span))
    → IfOk r (λ place. place ≡ temporary (recorded s (refusal row.F24 at.span)) (Some at.span))
    → IfOk r (λ place. (operator : AssignmentOperator) → applied_by operator ≡ Some applied
    → LowersExpression names (compound at operator target right) s new place)
compound_pattern_ok names at applied right s (Ok place) new is apart moved placed = λ operator applies.
    refused_ok {names = names} {at = at} {r = row.F24} (Ok place) s new refl
    (forms.PatternAssignment operator applies (sym (ap is_pattern is) ∙ apart)) moved placed
compound_pattern_ok names at applied right s (Err e) new is apart moved placed = tt
