-- The meaning of each kind whose value is one instruction over the values of its parts: their values, and then its event.
use Rattle.std.proofs.Common.{◌≡◌, ℕ, ◌++◌, ◌&&◌, not, Bool, true, false, if◌then◌else◌, List, [], ◌∷◌, codes, Some, true≢false, refl, sym, ap, ◌∙◌}
use Rattle.rl_base.specs.declared.row.Row.TheVariants as row
use Rattle.rl_base.specs.declared.operator.AssignmentOperator.{AssignmentOperator}
use Rattle.rl_base.specs.declared.operator.BinaryOperator.{BinaryOperator}
use Rattle.rl_base.specs.Operators.{assignment_text, unary_text}
use Rattle.rl_hir.specs.declared.instruction.InstructionValue.TheVariants as values
use Rattle.rl_hir.specs.declared.instruction.PrimitiveValue.{PrimitiveValue}
use Rattle.rl_hir.specs.Pieces.{gathered, texts, value_pieces}
use Rattle.rl_lowered.proofs.Clean.{compound_clean, private_never, refused_never, refusing_never, row_clean}
use Rattle.rl_lowered.proofs.Common.{At, Diagnostic, End, InstructionValue, Names, Node, Piece, Pieces, Place, Said, State, Syntax, Then}
use Rattle.rl_lowered.proofs.Forms.{event_with, form_event, key_by, quasi_texts}
use Rattle.rl_lowered.proofs.Plain.{all_shapes, first_value, lowered_plain, one_part, two_parts}
use Rattle.rl_lowered.specs.Forms.{IsCast, IsForm, IsInside, IsLiteral, IsMember, IsPrivate, IsWrapper, MemberKey, PrivateUpdate, applied_by}
use Rattle.rl_lowered.specs.Forms.{is_number_key}
use Rattle.rl_lowered.specs.Forms as forms
use Rattle.rl_lowered.specs.Lowered.{Lowered, LoweredAll, NoPart, NextPart}
use Rattle.rl_lowered.specs.Lowered as lowered
use Rattle.rl_machine.specs.declared.trace.Answer.{Answer}
use Rattle.rl_machine.specs.declared.trace.Value.{Value}
use Rattle.rl_machine.specs.declared.trace.Value.TheVariants as value
use Rattle.rl_machine.specs.Traces.{Cont, Store, ValueCont}
use Rattle.rl_model.specs.Actions.{Action, Ways, ◌>>=◌, ask, give, no_meaning}
use Rattle.rl_model.specs.Events.{Key, computed_key, delete, event, fixed_key, load, unary}
use Rattle.rl_model.specs.Expressions.{callee, call_kind, delete_property, eval, first_piece, key_in, later_pieces, one_value, place, values as values_in}
use Rattle.rl_model.specs.Scene.{Scene}
use Rattle.rl_model.specs.Shapes.{is_link, lends, lends_receiver, quasis, shapes}
use Rattle.rl_promises.specs.Rows.{refusal, refusals, refusals_in}
use Rattle.rl_promises.specs.Tallies.{call_word}
use Rattle.rl_syntax.specs.declared.word.Word.{Word}
use Rattle.rl_syntax.specs.declared.word.Word.TheVariants as word
use Rattle.rl_syntax.specs.Syntax.{Absent, Flag}
use Rattle.rl_text.specs.Numeral.{number_of}

-- A key in brackets that is neither a numeral nor refused is computed.
pub computed_there : (names : Names) (property : Syntax) (computed : Action Value) → is_number_key property ≡ false
    → refusals names property ≡ []
    → key_in property computed ≡ (computed >>= (λ v. give (computed_key v)))
computed_there names (Node at word.Num (Then (Said text) End)) computed other none =
    absurd (never (sym (ap (λ (b : Bool). (if b then [] else refusal row.F43 at.span ∷ []) ++ []) other) ∙ none))
  where
    never : {d : Diagnostic} → d ∷ [] ≡ [] → ⊥
    never e = cc
computed_there names _ computed other none = refl

-- In the port's run a callee that is no property lends no object.
port_lends_nothing : (scene : Scene) (e : Syntax) → scene.ported ≡ true → is_link e ≡ false → lends_receiver scene e ≡ false
port_lends_nothing scene e ported none = ap (λ (b : Bool). if b then is_link e else lends e) ported ∙ none

-- Properties: the object and the key, which are loaded, or deleted.

pub member_means : {w : Word} {fields parts : Pieces} {pieces : List Piece} {object : Place} {key : MemberKey} {names : Names}
    {s t : State} → IsMember w fields parts pieces object key → LoweredAll names parts s t pieces → refusals_in names parts ≡ []
    → (scene : Scene) (there : At) (ways : Ways) (k : Value × Key → Cont) (source : Store) (answers : List Answer)
    → values_in scene parts ways (λ vs. k (first_piece vs, key_by key vs)) source answers
    ≡ place scene (Node there w fields) ways k source answers
member_means (forms.Static {object} {key}) (NextPart _ _ _ _ _ _ _ first (NoPart _)) none scene there ways k source answers =
    ap (λ (a : Action (List Value)). a ways (λ vs. k (first_piece vs, fixed_key (value.Text key))) source answers)
    (one_part scene object (lowered_plain first))
member_means {names} (forms.Indexed {object} {property} other) (NextPart _ _ _ _ _ _ _ first (NextPart _ _ _ _ _ _ _ second (NoPart _)))
    none scene there ways k source answers =
    ap (λ (a : Action (List Value)). a ways (λ vs. k (first_piece vs, computed_key (first_piece (later_pieces vs)))) source answers)
    (two_parts scene object property (lowered_plain first) (lowered_plain second))
    ∙ sym (ap (λ (a : Action Key). eval scene object ways (λ v. a ways (λ key. k (v, key))) source answers)
    (computed_there names property (eval scene property) other
    (row_clean names property End (row_clean names object (Then property End) none).1).0))
member_means (forms.Numbered {object} {text} numeral) (NextPart _ _ _ _ _ _ _ first (NoPart _)) none scene there ways k source answers =
    ap (λ (a : Action (List Value)). a ways (λ vs. k (first_piece vs, fixed_key (value.Number (number_of text)))) source answers)
    (one_part scene object (lowered_plain first))
    ∙ sym (ap (λ (b : Bool). eval scene object ways
    (λ v. (if b then give (fixed_key (value.Number (number_of text))) else no_meaning) ways (λ key. k (v, key))) source answers) numeral)

member_loads : {w : Word} {fields parts : Pieces} {pieces : List Piece} {object : Place} {key : MemberKey}
    → IsMember w fields parts pieces object key → (scene : Scene) (there : At)
    → eval scene (Node there w fields) ≡ (place scene (Node there w fields) >>= (λ p. ask scene (load p.0 p.1)))
member_loads forms.Static scene there = refl
member_loads _ scene there = refl

member_deletes : {w : Word} {fields parts : Pieces} {pieces : List Piece} {object : Place} {key : MemberKey}
    → IsMember w fields parts pieces object key → (scene : Scene) (there : At)
    → delete_property scene (Node there w fields) ≡ (place scene (Node there w fields) >>= (λ p. ask scene (delete p.0 p.1)))
member_deletes forms.Static scene there = refl
member_deletes _ scene there = refl

inside_deletes : {e inner : Syntax} → IsInside e inner → (scene : Scene) → delete_property scene e ≡ delete_property scene inner
inside_deletes forms.Bare scene = refl
inside_deletes (forms.Around more) scene = inside_deletes more scene

-- The callee of a plain call is no property.

different : codes "methodcall" ≡ codes "call" → ⊥
different e = cc

literal_unlinked : {w : Word} {fields : Pieces} {p : PrimitiveValue} → IsLiteral w fields p → (at : At) → is_link (Node at w fields) ≡ false
literal_unlinked forms.Null at = refl
literal_unlinked _ at = refl

private_unlinked : {w : Word} {fields : Pieces} {e : Syntax} → IsPrivate w fields e → (at : At) → is_link (Node at w fields) ≡ false
private_unlinked forms.PrivateUpdate at = refl
private_unlinked _ at = refl

wrapper_unlinked : {w : Word} {fields : Pieces} {e : Syntax} → IsWrapper w fields e → (at : At) → is_link (Node at w fields) ≡ false
wrapper_unlinked forms.Parenthesized at = refl
wrapper_unlinked _ at = refl

cast_unlinked : {w : Word} {fields : Pieces} {e type : Syntax} → IsCast w fields e type → (at : At) → is_link (Node at w fields) ≡ false
cast_unlinked forms.As at = refl
cast_unlinked _ at = refl

member_called : {w : Word} {fields parts : Pieces} {pieces : List Piece} {object : Place} {key : MemberKey}
    → IsMember w fields parts pieces object key → (at : At) → call_word (Node at w fields) ≡ codes "methodcall"
member_called forms.Static at = refl
member_called _ at = refl

form_unlinked : {w : Word} {fields parts : Pieces} {pieces : List Piece} {v : InstructionValue} → IsForm w fields parts pieces v → (at : At)
    → call_word (Node at w fields) ≡ codes "call" → is_link (Node at w fields) ≡ false
form_unlinked (forms.Load is) at plain = absurd (different (sym (member_called is at) ∙ plain))
form_unlinked _ at plain = refl

pub unlinked : {names : Names} {e : Syntax} {s t : State} {p : Place} → Lowered names e s t p → refusals names e ≡ []
    → call_word e ≡ codes "call" → is_link e ≡ false
unlinked (lowered.Literal at w fields p s is) none plain = literal_unlinked is at
unlinked {names} (lowered.Refused at w fields r s is) none plain = absurd (refused_never names at is none)
unlinked {names} (lowered.RefusedBefore at w fields parts r pieces s t is all) none plain = absurd (refusing_never names at is none)
unlinked {names} (lowered.RefusedBehind at object name s t p by) none plain =
    absurd (private_never names at (Flag false) object (Said name) none)
unlinked (lowered.Private at w fields e s t p is by) none plain = private_unlinked is at
unlinked (lowered.Same at w fields e s t p is by) none plain = wrapper_unlinked is at
unlinked (lowered.Cast at there w fields e type k s t p is annotated by) none plain = cast_unlinked is at
unlinked (lowered.Asked at w fields parts pieces v s t form all) none plain = form_unlinked form at plain
unlinked _ none plain = refl

-- A private member has refusals.
pub private_member_never : {w : Word} {fields : Pieces} {e : Syntax} {names : Names} {s t : State} {p : Place} → IsPrivate w fields e
    → Lowered names e s t p → refusals names e ≡ [] → ⊥
private_member_never forms.PrivateUpdate by none = true≢false (unlinked by none refl)
private_member_never (forms.PrivateDelete operator is inside) by none = true≢false (unlinked by none refl)

-- A tagged template by the values of its tag.
abbrev tagged_with : Scene → (head : Action (List Value)) → Pieces → (said : List (List ℕ)) → Action Value
tagged_with scene head es said ways k =
    head ways (λ vs. values_in scene es ways (λ ws. ask scene (event (codes "tagged") said (vs ++ ws)) ways k))

pub form_means : {w : Word} {fields parts : Pieces} {pieces : List Piece} {v : InstructionValue} {names : Names} {s t : State}
    (form : IsForm w fields parts pieces v) → LoweredAll names parts s t pieces → refusals_in names parts ≡ []
    → (scene : Scene) → scene.ported ≡ true → (at : At) (ways : Ways) (k : ValueCont) (source : Store) (answers : List Answer)
    → values_in scene parts ways (λ vs. ask scene (form_event form vs) ways k) source answers
    ≡ eval scene (Node at w fields) ways k source answers
form_means (forms.Binary {operator} {left} {right} {l} {r}) (NextPart _ _ _ _ _ _ _ first (NextPart _ _ _ _ _ _ _ second (NoPart _)))
    none scene ported at ways k source answers =
    ap (λ (a : Action (List Value)). a ways (λ vs. ask scene (event_with (values.BinaryExpression operator l r) vs) ways k) source answers)
    (two_parts scene left right (lowered_plain first) (lowered_plain second))
form_means (forms.Unary {operator} {e} {p} other) (NextPart _ _ _ _ _ _ _ first (NoPart _)) none scene ported at ways k source answers =
    ap (λ (a : Action (List Value)). a ways (λ vs. ask scene (event_with (values.UnaryExpression operator p) vs) ways k) source answers)
    (one_part scene e (lowered_plain first))
    ∙ sym (ap (λ (b : Bool). (if b then delete_property scene e else (eval scene e >>= (λ v. ask scene (unary (unary_text operator) v)))) ways k source answers) other)
form_means (forms.Await {e} {p}) (NextPart _ _ _ _ _ _ _ first (NoPart _)) none scene ported at ways k source answers =
    ap (λ (a : Action (List Value)). a ways (λ vs. ask scene (event_with (values.Await p) vs) ways k) source answers)
    (one_part scene e (lowered_plain first))
form_means (forms.Load is) all none scene ported at ways k source answers =
    member_means is all none scene at ways (λ p. ask scene (load p.0 p.1) ways k) source answers
    ∙ sym (ap (λ (a : Action Value). a ways k source answers) (member_loads is scene at))
form_means (forms.Delete operator {e} {there} is inside member) all none scene ported at ways k source answers =
    member_means member all none scene there ways (λ p. ask scene (delete p.0 p.1) ways k) source answers
    ∙ sym (ap (λ (a : Action Value). a ways k source answers)
    (ap (λ (b : Bool). if b then delete_property scene e else (eval scene e >>= (λ v. ask scene (unary (unary_text operator) v)))) is
    ∙ inside_deletes inside scene ∙ member_deletes member scene there))
form_means {names} (forms.Call {callee = f} {es} {f = place} {given} plain is) (NextPart _ _ _ _ _ _ _ first rest) none scene ported at ways k source answers =
    ap (λ (a : Action (List Value)). a ways (λ vs. ask scene (event_with (values.CallExpression place given) vs) ways k) source answers)
    (first_value scene f es (lowered_plain first))
    ∙ ap (λ (l : List (List ℕ)). eval scene f ways (λ v. values_in scene es ways (λ vs. ask scene (event (codes "call") l (v ∷ vs)) ways k)) source answers)
    (ap texts is ∙ all_shapes rest (row_clean names f es none).1)
    ∙ sym (ap (λ (b : Bool). (if b then callee scene f else one_value (eval scene f)) ways (λ head. values_in scene es ways (λ vs. ask scene (event (call_kind head) (shapes es) (head ++ vs)) ways k)) source answers)
    (port_lends_nothing scene f ported (unlinked first (row_clean names f es none).0 plain)))
form_means {names} (forms.New {callee = f} {es} {f = place} {given} is) (NextPart _ _ _ _ _ _ _ first rest) none scene ported at ways k source answers =
    ap (λ (a : Action (List Value)). a ways (λ vs. ask scene (event_with (values.NewExpression place given) vs) ways k) source answers)
    (first_value scene f es (lowered_plain first))
    ∙ ap (λ (l : List (List ℕ)). eval scene f ways (λ v. values_in scene es ways (λ vs. ask scene (event (codes "new") l (v ∷ vs)) ways k)) source answers)
    (ap texts is ∙ all_shapes rest (row_clean names f es none).1)
form_means (forms.Array {es} is) all none scene ported at ways k source answers =
    ap (λ (l : List (List ℕ)). values_in scene es ways (λ vs. ask scene (event (codes "array") l vs) ways k) source answers)
    (ap texts is ∙ all_shapes all none)
form_means (forms.Template {texts = said} {es} {places} are is) all none scene ported at ways k source answers =
    ap (λ (l : List (List ℕ)). values_in scene es ways (λ vs. ask scene (event (codes "template") l vs) ways k) source answers)
    (quasi_texts are (gathered value_pieces places) ∙ ap (λ (l : List (List ℕ)). quasis said ++ l) (ap texts is ∙ all_shapes all none))
form_means {names} (forms.Tagged {tag} {texts = said} {es} {t} {quasis = given} {places} raw are is) (NextPart _ _ _ _ _ _ _ first rest)
    none scene ported at ways k source answers =
    ap (λ (a : Action (List Value)). a ways
    (λ vs. ask scene (event_with (values.TaggedTemplateExpression t (record { quasis = given; subexpressions = places })) vs) ways k) source
    answers)
    (first_value scene tag es (lowered_plain first))
    ∙ ap (λ (l : List (List ℕ)). eval scene tag ways
    (λ v. values_in scene es ways (λ vs. ask scene (event (codes "tagged") (codes "place" ∷ l) (v ∷ vs)) ways k)) source answers)
    (quasi_texts are (gathered value_pieces places)
    ∙ ap (λ (l : List (List ℕ)). quasis said ++ l) (ap texts is ∙ all_shapes rest (row_clean names tag es none).1))
    ∙ sym (ap (λ (b : Bool). tagged_with scene (if not b && lends tag then callee scene tag else one_value (eval scene tag)) es
    (codes "place" ∷ quasis said ++ shapes es) ways k source answers) ported)
    ∙ sym (ap (λ (b : Bool). (if b then tagged_with scene (if not scene.ported && lends tag then callee scene tag
    else one_value (eval scene tag)) es (codes "place" ∷ quasis said ++ shapes es) else no_meaning) ways k source answers) raw)
form_means forms.RegExp (NoPart _) none scene ported at ways k source answers = refl
form_means forms.ImportMeta (NoPart _) none scene ported at ways k source answers = refl

-- A compound assignment to a property of a private name has refusals.
pub private_compound_never : {names : Names} {s t : State} {q : Place} (at there : At) (fields : Pieces) (right : Syntax)
    (operator : AssignmentOperator) (applied : BinaryOperator) → applied_by operator ≡ Some applied
    → Lowered names (Node there word.Privatemember fields) s t q
    → refusals names
    (Node at word.Assign (Then (Said (assignment_text operator)) (Then (Node there word.Privatemember fields) (Then right End)))) ≡ [] → ⊥
private_compound_never {names} at there fields right operator applied applies d none =
    let update : Pieces = Then Absent (Then Absent (Then (Node there word.Privatemember fields) End)) in
    let is : IsPrivate word.Update update (Node there word.Privatemember fields) = PrivateUpdate in
    private_member_never is d
    (compound_clean names at (Node there word.Privatemember fields) right operator applied applies refl none).0
