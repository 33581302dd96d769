-- The names of covered functions: types hold no declaration and no scope.
use Rattle.std.proofs.Common.{◌≡◌, true, zero, List, ◌∷◌, refl, sym, subst}
use Rattle.std.specs.List.{AllByRecursion}
use Rattle.rl_bindings.specs.Events.{bound_of}
use Rattle.rl_bindings.specs.Roles.{below, outside, scope_of}
use Rattle.rl_bindings.specs.declared.event.Bound.{Bound}
use Rattle.rl_bindings.specs.declared.names.Name.{Name}
use Rattle.rl_bindings.specs.declared.role.Above.{Above}
use Rattle.rl_grammar.specs.Grammar.{fits, every}
use Rattle.rl_grammar.specs.declared.kind.Field.TheVariants as field
use Rattle.rl_grammar.specs.declared.kind.Kind.TheVariants as kind
use Rattle.rl_grammar.proofs.Viewing.{arity_one, arity_two, first_fits, one_fits, rest_fit, two_fit}
use Rattle.rl_names.proofs.Declarations.{declares}
use Rattle.rl_names.proofs.PlainTrees.{plain_none_among}
use Rattle.rl_names.specs.Plain.{ArePlain, IsPlain}
use Rattle.rl_promises.proofs.CoveredForms.{NameForm, name_form, none_fits, text_form, two_form}
use Rattle.rl_promises.proofs.CoveredNames.{never}
use Rattle.rl_syntax.specs.Shapes.{is_one}
use Rattle.rl_syntax.specs.Syntax.{Syntax, Node, Listed, Said, Absent, Pieces, End, Then}
use Rattle.rl_syntax.specs.declared.numbered.At.{At}
use Rattle.rl_syntax.specs.declared.word.Word.TheVariants as word

-- Types.

one_form : (ps : Pieces) → is_one ps ≡ true → (a : Syntax) × (ps ≡ Then a End)
one_form (Then a End) h = (a, refl)
one_form _ h = never h

kind_plain : (t : Syntax) → fits (field.One kind.TypeKind) t ≡ true → IsPlain t
kind_plain (Said text) h = tt
kind_plain (Node at w ps) h = absurd (none_fits ps h)
kind_plain _ h = never h

reference_plain : (t : Syntax) → fits (field.One kind.IdentifierReference) t ≡ true → IsPlain t
reference_plain (Node at word.Id ps) h =
    let form = one_form ps (arity_one (field.One kind.Text) ps h) in
    let text = text_form form.0 (one_fits ps form.0 form.1 (field.One kind.Text) h) in
    (refl, subst ArePlain (sym form.1) (subst IsPlain (sym text.1) tt, tt))
reference_plain (Node at _ ps) h = absurd (none_fits ps h)
reference_plain _ h = never h

references_plain : (ps : Pieces) → every kind.IdentifierReference ps ≡ true → ArePlain ps
references_plain End h = tt
references_plain (Then p ps) h = (
  reference_plain p (first_fits kind.IdentifierReference (Then p ps) p ps refl h),
  references_plain ps (rest_fit kind.IdentifierReference (Then p ps) p ps refl h),
)

list_plain : (t : Syntax) → fits (field.Many kind.IdentifierReference) t ≡ true → IsPlain t
list_plain (Listed ps) h = references_plain ps h
list_plain _ h = never h

type_plain : (t : Syntax) → fits (field.Maybe kind.TypeAnnotation) t ≡ true → IsPlain t
type_plain Absent h = tt
type_plain (Node at word.Type ps) h =
    let form = two_form ps (arity_two (field.One kind.TypeKind) (field.Many kind.IdentifierReference) ps h) in
    let both = two_fit ps form.0 form.1 form.2 (field.One kind.TypeKind) (field.Many kind.IdentifierReference) h in
    (refl, subst ArePlain (sym form.2) (kind_plain form.0 both.0, (list_plain form.1 both.1, tt)))
type_plain (Node at _ ps) h = absurd (none_fits ps h)
type_plain _ h = never h

-- The name of a function.

-- The declaration has the kind and the scope of its context.
abbrev pub IsOfContext : Above → Bound → Type 0
IsOfContext a b = (b.kind ≡ a.kind) × (b.scope ≡ scope_of a)

bind_declares : (names : List Name) (a : Above) (bind : At) (ps : Pieces) → NameForm bind ps
    → AllByRecursion (IsOfContext a) (declares names a (Node bind word.Bind ps))
bind_declares names a bind ps n =
    let parts = Then (Said n.name) (Then n.type End) in
    subst (λ t. AllByRecursion (IsOfContext a) (declares names a t)) (sym n.is)
    (subst (λ bs. AllByRecursion (IsOfContext a) (bound_of names a bind parts ∷ bs))
    (sym (plain_none_among names parts zero (outside a word.Bind) (below a bind word.Bind parts) (tt, (type_plain n.type n.typed, tt))))
    ((refl, refl), tt))

-- The name of a function declares itself alone.
pub name_declares : (t : Syntax) → fits (field.Maybe kind.BindingIdentifier) t ≡ true → (names : List Name) (a : Above)
    → AllByRecursion (IsOfContext a) (declares names a t)
name_declares Absent h names a = tt
name_declares (Node bind word.Bind ps) h names a = bind_declares names a bind ps (name_form bind ps h)
name_declares (Node bind _ ps) h names a = absurd (none_fits ps h)
name_declares _ h names a = never h
