-- The refusals of nodes that were lowered, from those of their parts.
use Rattle.std.proofs.Common.{◌≡◌, ℕ, ◌&&◌, not, ◌++◌, Bool, true, false, if◌then◌else◌, List, [], ◌∷◌, Option, Some, codes, append-nil}
use Rattle.std.proofs.Common.{refl, sym, ap, ◌∙◌}
use Rattle.std.proofs.lemmas.Slice.Eq.{bytes_eq-Decides}
use Rattle.std.specs.Str.{bytes_eq}
use Rattle.rl_base.specs.Diagnostics.{diagnostic_at}
use Rattle.rl_base.specs.Operators.{assignment_text, unary_text}
use Rattle.rl_base.specs.declared.operator.AssignmentOperator.{AssignmentOperator}
use Rattle.rl_base.specs.declared.operator.AssignmentOperator.TheVariants as assignments
use Rattle.rl_base.specs.declared.operator.BinaryOperator.{BinaryOperator}
use Rattle.rl_base.specs.declared.operator.UnaryOperator.{UnaryOperator}
use Rattle.rl_base.specs.declared.row.Row.{Row}
use Rattle.rl_base.specs.declared.row.Row.TheVariants as row
use Rattle.rl_hir.specs.declared.instruction.NonLocalBinding.{NonLocalBinding}
use Rattle.rl_hir.specs.declared.instruction.PrimitiveValue.{PrimitiveValue}
use Rattle.rl_hir.specs.declared.instruction.TemplateQuasi.{TemplateQuasi}
use Rattle.rl_lowered.proofs.Common.{At, Diagnostic, End, InstructionValue, Names, Node, Piece, Pieces, Place, Said, Span, SymbolId, Syntax}
use Rattle.rl_lowered.proofs.Common.{Then}
use Rattle.rl_lowered.proofs.Keys.{Bracketed, HasText, Name, Number, Word, has_text}
use Rattle.rl_lowered.specs.Forms.{AreQuasis, IsAnnotation, IsCast, IsForm, IsInside, IsLiteral, IsMember, IsPrivate, IsRefused, IsRefusing}
use Rattle.rl_lowered.specs.Forms.{IsWrapper, MemberKey, applied_by}
use Rattle.rl_lowered.specs.Forms as forms
use Rattle.rl_model.specs.Applied.{deletes}
use Rattle.rl_model.specs.Shapes.{is_link, is_logical, key_text}
use Rattle.rl_names.specs.declared.names.Meaning.{Meaning}
use Rattle.rl_names.specs.declared.names.Meaning.TheVariants.{Local, Outer}
use Rattle.rl_promises.proofs.CoveredForms.{none_fits}
use Rattle.rl_promises.specs.Outs.{is_known_key, is_lost_head, is_wrapped}
use Rattle.rl_promises.specs.Patterns.{is_pattern}
use Rattle.rl_promises.specs.Rows.{is_eval, label_of, refusal, refusals, refusals_at_head, refusals_below, refusals_in, refusals_to, row_of_head}
use Rattle.rl_promises.specs.Rows.{said_of_assigned, said_of_local, said_of_name, said_of_stored, said_of_target, said_of_update}
use Rattle.rl_promises.specs.Rows.{said_of_updated}
use Rattle.rl_semantic.specs.Items.{of_item}
use Rattle.rl_syntax.specs.Syntax.{Listed, Flag, Absent, span_of}
use Rattle.rl_syntax.specs.declared.word.Word.{Word as NodeWord}
use Rattle.rl_syntax.specs.declared.word.Word.TheVariants as word
use Rattle.rl_text.specs.Numeral.{is_numeral}

-- Literals and names.

pub literal_refuses : (names : Names) (at : At) {w : NodeWord} {fields : Pieces} {p : PrimitiveValue} → IsLiteral w fields p
    → refusals names (Node at w fields) ≡ []
literal_refuses names at forms.Null = refl
literal_refuses names at forms.Boolean = refl
literal_refuses names at forms.String = refl
literal_refuses names at (forms.Number is) = ap (λ (b : Bool). (if b then [] else refusal row.F43 at.span ∷ []) ++ []) is

pub name_refuses : (names : Names) (at : At) (name : List ℕ) (m : Meaning) → names.meaning at.reference.0 name ≡ m
    → refusals names (Node at word.Id (Then (Said name) End)) ≡ said_of_name names m at.span
name_refuses names at name m is =
    append-nil (said_of_name names (names.meaning at.reference.0 name) at.span) ∙ ap (λ (m : Meaning). said_of_name names m at.span) is

pub outer_refuses : (names : Names) (at : At) (name : List ℕ) (binding : NonLocalBinding) (b : Bool)
    → names.meaning at.reference.0 name ≡ Outer binding → is_eval binding ≡ b
    → refusals names (Node at word.Id (Then (Said name) End)) ≡ (if b then refusal row.F2 at.span ∷ [] else [])
outer_refuses names at name binding b is eval =
    name_refuses names at name (Outer binding) is ∙ ap (λ (b : Bool). if b then refusal row.F2 at.span ∷ [] else []) eval

-- Updates of variables, which are resolved twice, and of constants.

pub update_refuses : (names : Names) (at there : At) (operator prefix : Syntax) (name : List ℕ) (symbol : SymbolId)
    → names.meaning there.reference.0 name ≡ Local symbol → names.is_const symbol.0 ≡ false
    → refusals names (Node at word.Update (Then operator (Then prefix (Then (Node there word.Id (Then (Said name) End)) End))))
    ≡ said_of_local (names.name symbol.0) (label_of names symbol there.span)
    ++ said_of_local (names.name symbol.0) (label_of names symbol there.span)
update_refuses names at there operator prefix name symbol is mutable =
    ap (λ (m : Meaning). said_of_update names at.span there.span m) is
    ∙ ap (λ (b : Bool). said_of_local (names.name symbol.0) (label_of names symbol there.span)
    ++ (if b then diagnostic_at row.F6 (names.name symbol.0) there.span ∷ []
    else said_of_local (names.name symbol.0) (label_of names symbol there.span))) mutable

pub constant_refuses : (names : Names) (at there : At) (operator prefix : Syntax) (name : List ℕ) (symbol : SymbolId)
    → names.meaning there.reference.0 name ≡ Local symbol → names.is_const symbol.0 ≡ true
    → refusals names (Node at word.Update (Then operator (Then prefix (Then (Node there word.Id (Then (Said name) End)) End))))
    ≡ said_of_local (names.name symbol.0) (label_of names symbol there.span) ++ diagnostic_at row.F6 (names.name symbol.0) there.span ∷ []
constant_refuses names at there operator prefix name symbol is constant =
    ap (λ (m : Meaning). said_of_update names at.span there.span m) is
    ∙ ap (λ (b : Bool). said_of_local (names.name symbol.0) (label_of names symbol there.span)
    ++ (if b then diagnostic_at row.F6 (names.name symbol.0) there.span ∷ []
    else said_of_local (names.name symbol.0) (label_of names symbol there.span))) constant

-- Types, texts of templates, and directives have none.

annotation_refuses : (names : Names) (type : Syntax) → IsAnnotation type → refusals names type ≡ []
annotation_refuses names (Node at word.Type parts) fit = refl
annotation_refuses names (Node at w parts) fit = absurd (none_fits parts fit)
annotation_refuses names (Listed parts) fit = absurd (cc)
annotation_refuses names _ fit = refl

quasis_refuse : (names : Names) {texts : Pieces} {quasis : List TemplateQuasi} → AreQuasis texts quasis → refusals_in names texts ≡ []
quasis_refuse names forms.NoQuasi = refl
quasis_refuse names (forms.NextQuasi more) = quasis_refuse names more
quasis_refuse names (forms.NextUncooked more) = quasis_refuse names more

-- A declaration of a variable.
pub bind_refuses : (names : Names) (bind : At) (name : List ℕ) (type : Syntax) (symbol : SymbolId) → IsAnnotation type
    → names.declared bind.id.0 ≡ Some symbol
    → refusals names (Node bind word.Bind (Then (Said name) (Then type End)))
    ≡ said_of_local (names.name symbol.0) (label_of names symbol bind.span)
bind_refuses names bind name type symbol annotated is =
    ap (λ (l : List Diagnostic). of_item [] (λ symbol. said_of_local (names.name symbol.0) (label_of names symbol bind.span))
    (names.declared bind.id.0) ++ (l ++ [])) (annotation_refuses names type annotated)
    ∙ append-nil _
    ∙ ap (λ (o : Option SymbolId). of_item [] (λ symbol. said_of_local (names.name symbol.0) (label_of names symbol bind.span)) o) is

-- Wrappers.

pub wrapper_refuses : (names : Names) (at : At) {w : NodeWord} {fields : Pieces} {e : Syntax} → IsWrapper w fields e
    → refusals names (Node at w fields) ≡ refusals names e
wrapper_refuses names at (forms.Parenthesized {e}) = append-nil (refusals names e)
wrapper_refuses names at (forms.NonNull {e}) = append-nil (refusals names e)
wrapper_refuses names at (forms.Instantiated fit) = refl

pub cast_refuses : (names : Names) (at there : At) {w : NodeWord} {fields parts : Pieces} {e : Syntax}
    → IsCast w fields e (Node there word.Type parts) → refusals names (Node at w fields) ≡ refusals names e
cast_refuses names at there (forms.As {e}) = append-nil (refusals names e)
cast_refuses names at there (forms.Satisfies {e}) = append-nil (refusals names e)
cast_refuses names at there (forms.Assert {e}) = append-nil (refusals names e)

-- Properties, and what is deleted.

pub member_refuses : (names : Names) (at : At) {w : NodeWord} {fields parts : Pieces} {pieces : List Piece} {object : Place}
    {key : MemberKey} → IsMember w fields parts pieces object key → refusals names (Node at w fields) ≡ refusals_in names parts
member_refuses names at forms.Static = refl
member_refuses names at (forms.Indexed other) = refl
member_refuses names at (forms.Numbered {object} {there} {text} is) =
    ap (λ (b : Bool). refusals names object ++ (((if b then [] else refusal row.F43 there.span ∷ []) ++ []) ++ [])) is

inside_refuses : (names : Names) {e inner : Syntax} → IsInside e inner → refusals names e ≡ refusals names inner
inside_refuses names forms.Bare = refl
inside_refuses names (forms.Around {at} {e} more) = append-nil (refusals names e) ∙ inside_refuses names more

inside_deletes : {e inner : Syntax} → IsInside e inner → is_link inner ≡ true → deletes inner ≡ true → deletes e ≡ true
inside_deletes forms.Bare link is = is
inside_deletes (forms.Around more) link is = inside_deletes more link is

pub member_link : (at : At) {w : NodeWord} {fields parts : Pieces} {pieces : List Piece} {object : Place} {key : MemberKey}
    → IsMember w fields parts pieces object key
    → (is_link (Node at w fields) ≡ true) × (deletes (Node at w fields) ≡ true)
member_link at forms.Static = (refl, refl)
member_link at _ = (refl, refl)

delete_refuses : (names : Names) (at : At) (operator : UnaryOperator) (e : Syntax) → bytes_eq (unary_text operator) (codes "delete") ≡ true
    → deletes e ≡ true → refusals names (Node at word.Unary (Then (Said (unary_text operator)) (Then e End))) ≡ refusals names e
delete_refuses names at operator e is held =
    ap (λ (b : Bool). if b && not (deletes e) then refusal row.F12 at.span ∷ [] else refusals names e) is
    ∙ ap (λ (b : Bool). if not b then refusal row.F12 at.span ∷ [] else refusals names e) held

pub private_refuses : (names : Names) (at : At) {w : NodeWord} {fields : Pieces} {e : Syntax} → IsPrivate w fields e
    → refusals names (Node at w fields) ≡ refusals names e
private_refuses names at forms.PrivateUpdate = refl
private_refuses names at (forms.PrivateDelete operator {e} is inside) =
    delete_refuses names at operator e is (inside_deletes inside refl refl) ∙ inside_refuses names inside

pub updated_member_refuses : (names : Names) (at there : At) (operator prefix : Syntax) {w : NodeWord} {fields parts : Pieces}
    {pieces : List Piece} {object : Place} {key : MemberKey} → IsMember w fields parts pieces object key
    → refusals names (Node at word.Update (Then operator (Then prefix (Then (Node there w fields) End)))) ≡ refusals_in names parts
updated_member_refuses names at there operator prefix (forms.Static) = refl
updated_member_refuses names at there operator prefix (forms.Indexed other) = refl
updated_member_refuses names at there operator prefix (forms.Numbered {object} {there = inner} {text} is) =
    ap (λ (b : Bool). refusals names object ++ (((if b then [] else refusal row.F43 inner.span ∷ []) ++ []) ++ [])) is

pub method_refuses : (names : Names) (at there : At) (es : Pieces) {w : NodeWord} {fields parts : Pieces}
    {pieces : List Piece} {object : Place} {key : MemberKey} → IsMember w fields parts pieces object key
    → refusals names (Node at word.Call (Then (Flag false) (Then (Node there w fields) (Then (Listed es) End))))
    ≡ refusals_in names parts ++ refusals_in names es
method_refuses names at there es {parts} is =
    ap (λ (l : List Diagnostic). l ++ (refusals_in names es ++ [])) (member_refuses names there is)
    ∙ ap (λ (l : List Diagnostic). refusals_in names parts ++ l) (append-nil (refusals_in names es))

-- A kind of the table has the refusals of its parts.
pub form_refuses : (names : Names) (at : At) {w : NodeWord} {fields parts : Pieces} {pieces : List Piece} {v : InstructionValue}
    → IsForm w fields parts pieces v → refusals names (Node at w fields) ≡ refusals_in names parts
form_refuses names at (forms.Unary {operator} {e} plain) =
    ap (λ (b : Bool). if b && not (deletes e) then refusal row.F12 at.span ∷ [] else refusals names e) plain
    ∙ sym (append-nil (refusals names e))
form_refuses names at (forms.Load is) = member_refuses names at is
form_refuses names at (forms.Delete operator {e} {there} is inside member) =
    delete_refuses names at operator e is (inside_deletes inside (member_link there member).0 (member_link there member).1)
    ∙ inside_refuses names inside ∙ member_refuses names there member
form_refuses names at (forms.Call {callee} {es} plain given) =
    ap (λ (l : List Diagnostic). refusals names callee ++ l) (append-nil (refusals_in names es))
form_refuses names at (forms.New {callee} {es} given) =
    ap (λ (l : List Diagnostic). refusals names callee ++ l) (append-nil (refusals_in names es))
form_refuses names at (forms.Array {es} given) = append-nil (refusals_in names es)
form_refuses names at (forms.Template {texts} {es} are given) =
    ap (λ (l : List Diagnostic). l ++ (refusals_in names es ++ [])) (quasis_refuse names are) ∙ append-nil (refusals_in names es)
form_refuses names at (forms.Tagged {tag} {es} raw are given) =
    ap (λ (b : Bool). if b then refusals names tag ++ refusals_in names es else refusal row.F13 at.span ∷ []) raw
form_refuses names at _ = refl

-- Assignments: the operator of a compound one is neither `=` nor logical.

pub applied_plain : (operator : AssignmentOperator) (applied : BinaryOperator) → applied_by operator ≡ Some applied
    → (bytes_eq (assignment_text operator) (codes "=") ≡ false) × (is_logical (assignment_text operator) ≡ false)
applied_plain assignments.Assign applied is = absurd (cc)
applied_plain assignments.LogicalOr applied is = absurd (cc)
applied_plain assignments.LogicalAnd applied is = absurd (cc)
applied_plain assignments.LogicalNullish applied is = absurd (cc)
applied_plain _ applied is = (refl, refl)

logical_other : (operator : List ℕ) → is_logical operator ≡ true → bytes_eq operator (codes "=") ≡ false
logical_other operator is = by_test (bytes_eq operator (codes "=")) refl
  where
    by_test : (b : Bool) → bytes_eq operator (codes "=") ≡ b → b ≡ false
    by_test true same =
        let equals : operator ≡ codes "=" = (bytes_eq-Decides operator (codes "=")).0 same in
        absurd (let never : false ≡ true = ap (λ (l : List ℕ). is_logical l) (sym equals) ∙ is in cc)
    by_test false same = refl

-- An assignment by its operator and its target: logical ones, those to patterns, and the others.

abbrev said_of_compound : Names → (at : Span) → (target right : Syntax) → (pattern : Bool) → List Diagnostic
said_of_compound names at target right pattern =
    if pattern then refusal row.F24 at ∷ [] else refusals names target ++ refusals names right ++ said_of_updated names target

assign_refuses : (names : Names) (at : At) (operator : List ℕ) (target right : Syntax) (logical : Bool)
    → bytes_eq operator (codes "=") ≡ false → is_logical operator ≡ logical
    → refusals names (Node at word.Assign (Then (Said operator) (Then target (Then right End))))
    ≡ (if logical then refusal row.F23 at.span ∷ [] else said_of_compound names at.span target right (is_pattern target))
assign_refuses names at operator target right logical other is =
    ap (λ (b : Bool). if b then refusals names right
    ++ (if is_pattern target then refusals_to names target else said_of_assigned names at.span target (refusals_below names target))
    else if is_logical operator then refusal row.F23 at.span ∷ []
    else said_of_compound names at.span target right (is_pattern target)) other
    ∙ ap (λ (b : Bool). if b then refusal row.F23 at.span ∷ []
    else said_of_compound names at.span target right (is_pattern target)) is

pub compound_refuses : (names : Names) (at : At) (target right : Syntax) (operator : AssignmentOperator) (applied : BinaryOperator)
    → applied_by operator ≡ Some applied → is_pattern target ≡ false
    → refusals names (Node at word.Assign (Then (Said (assignment_text operator)) (Then target (Then right End))))
    ≡ refusals names target ++ refusals names right ++ said_of_updated names target
compound_refuses names at target right operator applied applies whole =
    let plain = applied_plain operator applied applies in
    assign_refuses names at (assignment_text operator) target right false plain.0 plain.1
    ∙ ap (λ (b : Bool). said_of_compound names at.span target right b) whole

pattern_refuses : (names : Names) (at : At) (target right : Syntax) (operator : AssignmentOperator) (applied : BinaryOperator)
    → applied_by operator ≡ Some applied → is_pattern target ≡ true
    → refusals names (Node at word.Assign (Then (Said (assignment_text operator)) (Then target (Then right End))))
    ≡ refusal row.F24 at.span ∷ []
pattern_refuses names at target right operator applied applies taken =
    let plain = applied_plain operator applied applies in
    assign_refuses names at (assignment_text operator) target right false plain.0 plain.1
    ∙ ap (λ (b : Bool). said_of_compound names at.span target right b) taken

-- `=` by its target.

abbrev said_of_taken : Names → (at : Span) → (target : Syntax) → (pattern : Bool) → List Diagnostic
said_of_taken names at target pattern =
    if pattern then refusals_to names target else said_of_assigned names at target (refusals_below names target)

pub assigned_refuses : (names : Names) (at : At) (target right : Syntax) → is_pattern target ≡ false
    → refusals names (Node at word.Assign (Then (Said (codes "=")) (Then target (Then right End))))
    ≡ refusals names right ++ said_of_assigned names at.span target (refusals_below names target)
assigned_refuses names at target right whole =
    ap (λ (b : Bool). refusals names right ++ said_of_taken names at.span target b) whole

pub assigned_pattern_refuses : (names : Names) (at : At) (target right : Syntax) → is_pattern target ≡ true
    → refusals names (Node at word.Assign (Then (Said (codes "=")) (Then target (Then right End))))
    ≡ refusals names right ++ refusals_to names target
assigned_pattern_refuses names at target right taken =
    ap (λ (b : Bool). refusals names right ++ said_of_taken names at.span target b) taken

-- A property is no pattern.
pub member_whole : {w : NodeWord} {fields parts : Pieces} {pieces : List Piece} {object : Place} {key : MemberKey}
    → IsMember w fields parts pieces object key → (there : At) → is_pattern (Node there w fields) ≡ false
member_whole forms.Static there = refl
member_whole _ there = refl

pub assigned_member_refuses : (names : Names) (at there : At) (right : Syntax) {w : NodeWord} {fields parts : Pieces}
    {pieces : List Piece} {object : Place} {key : MemberKey} → IsMember w fields parts pieces object key
    → refusals names (Node at word.Assign (Then (Said (codes "=")) (Then (Node there w fields) (Then right End))))
    ≡ refusals names right ++ refusals_in names parts
assigned_member_refuses names at there right forms.Static = refl
assigned_member_refuses names at there right (forms.Indexed other) = refl
assigned_member_refuses names at there right (forms.Numbered {object} {there = inner} {text} is) =
    ap (λ (b : Bool). refusals names right
    ++ (refusals names object ++ (((if b then [] else refusal row.F43 inner.span ∷ []) ++ []) ++ []))) is

member_unsaid : (names : Names) (there : At) {w : NodeWord} {fields parts : Pieces} {pieces : List Piece} {object : Place}
    {key : MemberKey} → IsMember w fields parts pieces object key → said_of_updated names (Node there w fields) ≡ []
member_unsaid names there forms.Static = refl
member_unsaid names there _ = refl

pub compound_member_refuses : (names : Names) (at there : At) (right : Syntax) (operator : AssignmentOperator) (applied : BinaryOperator)
    → applied_by operator ≡ Some applied → {w : NodeWord} {fields parts : Pieces} {pieces : List Piece} {object : Place}
    {key : MemberKey} → IsMember w fields parts pieces object key
    → refusals names (Node at word.Assign (Then (Said (assignment_text operator)) (Then (Node there w fields) (Then right End))))
    ≡ refusals_in names parts ++ refusals names right
compound_member_refuses names at there right operator applied applies {w} {fields} is =
    compound_refuses names at (Node there w fields) right operator applied applies (member_whole is there)
    ∙ ap (λ (l : List Diagnostic). refusals names (Node there w fields) ++ refusals names right ++ l) (member_unsaid names there is)
    ∙ append-nil (refusals names (Node there w fields) ++ refusals names right)
    ∙ ap (λ (l : List Diagnostic). l ++ refusals names right) (member_refuses names there is)

-- Kinds that are refused.

wrapped_said : (names : Names) (at : Span) (target : Syntax) (inside : List Diagnostic) → is_wrapped target ≡ true
    → said_of_target names at target inside ≡ refusal row.F22 at ∷ []
wrapped_said names at (Node there word.As parts) inside is = refl
wrapped_said names at (Node there word.Satisfies parts) inside is = refl
wrapped_said names at (Node there word.Assert parts) inside is = refl
wrapped_said names at (Node there word.Nonnull parts) inside is = refl
wrapped_said names at _ inside is = absurd (cc)

pub refused_refuses : (names : Names) (at : At) {w : NodeWord} {fields : Pieces} {r : Row} → IsRefused names w fields r
    → refusals names (Node at w fields) ≡ refusal r at.span ∷ []
refused_refuses names at (forms.Fraction is) = ap (λ (b : Bool). (if b then [] else refusal row.F43 at.span ∷ []) ++ []) is
refused_refuses names at (forms.Cooked {tag} {quasis} {expressions} is) =
    ap (λ (b : Bool). if b then refusals names tag ++ refusals_in names expressions else refusal row.F13 at.span ∷ []) is
refused_refuses names at (forms.LostDelete operator {e} is) =
    ap (λ (b : Bool). if b then refusal row.F12 at.span ∷ [] else refusals names e) is
refused_refuses names at (forms.WrappedUpdate {target} is) = wrapped_said names at.span target (refusals names target) is
refused_refuses names at (forms.OuterUpdate {there} is) = ap (λ (m : Meaning). said_of_update names at.span there.span m) is
refused_refuses names at (forms.LogicalAssignment {operator} {target} {right} is) =
    assign_refuses names at operator target right true (logical_other operator is) is
refused_refuses names at (forms.PatternAssignment operator {applied} {target} {right} applies taken) =
    pattern_refuses names at target right operator applied applies taken
refused_refuses names at _ = refl

pub refusing_refuses : (names : Names) (at : At) {w : NodeWord} {fields parts : Pieces} {r : Row} → IsRefusing w fields parts r
    → refusals names (Node at w fields) ≡ refusal r at.span ∷ refusals_in names parts
refusing_refuses names at forms.PrivateIn = refl
refusing_refuses names at _ = refl

-- Properties of object literals.

-- A key that has a text is known, and has no refusals.
key_known : (names : Names) {computed : Bool} {key : Syntax} {text : List ℕ} → HasText computed key text
    → (is_known_key computed key ≡ true) × (refusals names key ≡ [])
key_known names (Name at said) = (refl, refl)
key_known names (Word at said) = (refl, refl)
key_known names (Bracketed at said) = (refl, refl)
key_known names (Number at said numeral) = (refl, ap (λ (b : Bool). (if b then [] else refusal row.F43 at.span ∷ []) ++ []) numeral)

pub property_refuses : (names : Names) (at : At) (computed : Bool) (key e : Syntax) (text : List ℕ) → key_text computed key ≡ Some text
    → refusals names (Node at word.Prop (Then (Flag computed) (Then key (Then e End)))) ≡ refusals names e
property_refuses names at computed key e text is =
    let known = key_known names (has_text computed key text is) in
    ap (λ (b : Bool). if b then refusals names key ++ refusals names e else refusal row.F9 (span_of key) ∷ []) known.0
    ∙ ap (λ (l : List Diagnostic). l ++ refusals names e) known.1

pub computed_refuses : (names : Names) (at : At) (key e : Syntax) → is_known_key true key ≡ true
    → refusals names (Node at word.Prop (Then (Flag true) (Then key (Then e End)))) ≡ refusals names key ++ refusals names e
computed_refuses names at key e is =
    ap (λ (b : Bool). if b then refusals names key ++ refusals names e else refusal row.F9 (span_of key) ∷ []) is

pub fraction_refuses : (names : Names) (at there : At) (text : List ℕ) (e : Syntax) → is_numeral text ≡ false
    → refusals names (Node at word.Prop (Then (Flag false) (Then (Node there word.Num (Then (Said text) End)) (Then e End))))
    ≡ refusal row.F43 there.span ∷ refusals names e
fraction_refuses names at there text e is =
    ap (λ (b : Bool). ((if b then [] else refusal row.F43 there.span ∷ []) ++ []) ++ refusals names e) is

pub unknown_refuses : (names : Names) (at : At) (computed : Bool) (key e : Syntax) → is_known_key computed key ≡ false
    → refusals names (Node at word.Prop (Then (Flag computed) (Then key (Then e End)))) ≡ refusal row.F9 (span_of key) ∷ []
unknown_refuses names at computed key e is =
    ap (λ (b : Bool). if b then refusals names key ++ refusals names e else refusal row.F9 (span_of key) ∷ []) is

-- Heads of loops over keys or values.

pub declared_head_refuses : (names : Names) (at there bind : At) (kind name : List ℕ) (type : Syntax) (symbol : SymbolId)
    → IsAnnotation type → names.declared bind.id.0 ≡ Some symbol
    → refusals_at_head names
    (Node at word.Var
    (Then (Said kind)
    (Then (Listed (Then (Node there word.Declarator (Then (Node bind word.Bind (Then (Said name) (Then type End))) (Then Absent End))) End))
    End)))
    ≡ said_of_local (names.name symbol.0) (label_of names symbol bind.span)
declared_head_refuses names at there bind kind name type symbol annotated is =
    let pattern : Syntax = Node bind word.Bind (Then (Said name) (Then type End)) in
    append-nil (refusals names pattern ++ []) ∙ append-nil (refusals names pattern) ∙ bind_refuses names bind name type symbol annotated is

pub stored_head_refuses : (names : Names) (at : At) (name : List ℕ) (symbol : SymbolId) (constant : Bool)
    → names.meaning at.reference.0 name ≡ Local symbol → names.is_const symbol.0 ≡ constant
    → refusals_at_head names (Node at word.Id (Then (Said name) End))
    ≡ said_of_local (names.name symbol.0) (label_of names symbol at.span)
    ++ (if constant then diagnostic_at row.F6 (names.name symbol.0) at.span ∷ [] else [])
stored_head_refuses names at name symbol constant is const =
    ap (λ (m : Meaning). said_of_stored names at.span m) is
    ∙ ap (λ (b : Bool). said_of_local (names.name symbol.0) (label_of names symbol at.span)
    ++ (if b then diagnostic_at row.F6 (names.name symbol.0) at.span ∷ [] else [])) const

pub outer_head_refuses : (names : Names) (at : At) (name : List ℕ) (binding : NonLocalBinding)
    → names.meaning at.reference.0 name ≡ Outer binding → refusals_at_head names (Node at word.Id (Then (Said name) End)) ≡ []
outer_head_refuses names at name binding is = ap (λ (m : Meaning). said_of_stored names at.span m) is

pub member_head_refuses : (names : Names) (at : At) {w : NodeWord} {fields parts : Pieces} {pieces : List Piece} {object : Place}
    {key : MemberKey} → IsMember w fields parts pieces object key → refusals_at_head names (Node at w fields) ≡ refusals_in names parts
member_head_refuses names at forms.Static = refl
member_head_refuses names at (forms.Indexed other) = refl
member_head_refuses names at (forms.Numbered {object} {there} {text} is) =
    ap (λ (b : Bool). refusals names object ++ (((if b then [] else refusal row.F43 there.span ∷ []) ++ []) ++ [])) is

pub lost_head_refuses : (names : Names) (at : At) (w : NodeWord) (fields : Pieces) → is_lost_head (Node at w fields) ≡ true
    → refusals_at_head names (Node at w fields) ≡ refusal (row_of_head w) at.span ∷ []
lost_head_refuses names at word.Privatemember fields is = refl
lost_head_refuses names at word.As fields is = refl
lost_head_refuses names at word.Satisfies fields is = refl
lost_head_refuses names at word.Assert fields is = refl
lost_head_refuses names at word.Nonnull fields is = refl
lost_head_refuses names at _ fields is = let never : false ≡ true = is in absurd (cc)
