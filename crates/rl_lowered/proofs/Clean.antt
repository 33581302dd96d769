-- Nodes without refusals: their parts have none, and a kind that is refused is none of them.
use Rattle.std.proofs.Common.{◌≡◌, ℕ, ◌++◌, Bool, true, false, if◌then◌else◌, List, [], ◌∷◌, Some, codes, refl, sym, ap, ◌∙◌}
use Rattle.rl_base.specs.declared.operator.AssignmentOperator.{AssignmentOperator}
use Rattle.rl_base.specs.declared.operator.BinaryOperator.{BinaryOperator}
use Rattle.rl_base.specs.declared.row.Row.{Row}
use Rattle.rl_base.specs.declared.row.Row.TheVariants as row
use Rattle.rl_base.specs.Diagnostics.{diagnostic_at}
use Rattle.rl_base.specs.Operators.{assignment_text}
use Rattle.rl_hir.specs.declared.instruction.NonLocalBinding.{NonLocalBinding}
use Rattle.rl_lowered.proofs.Common.{At, Diagnostic, End, InstructionValue, Names, Node, Piece, Pieces, Place, Said, Span, SymbolId, Syntax}
use Rattle.rl_lowered.proofs.Common.{Then}
use Rattle.rl_lowered.proofs.Refusals.{assigned_pattern_refuses, assigned_refuses}
use Rattle.rl_lowered.proofs.Refusals.{assigned_member_refuses, cast_refuses, compound_member_refuses, compound_refuses, computed_refuses}
use Rattle.rl_lowered.proofs.Refusals.{constant_refuses, form_refuses, fraction_refuses, lost_head_refuses, member_head_refuses}
use Rattle.rl_lowered.proofs.Refusals.{method_refuses, outer_refuses, private_refuses, property_refuses, refused_refuses}
use Rattle.rl_lowered.proofs.Refusals.{refusing_refuses, stored_head_refuses, unknown_refuses, updated_member_refuses, wrapper_refuses}
use Rattle.rl_lowered.specs.Forms.{IsCast, IsForm, IsMember, IsPrivate, IsRefused, IsRefusing, IsWrapper, MemberKey, applied_by}
use Rattle.rl_model.specs.Shapes.{is_absent, key_text}
use Rattle.rl_names.specs.declared.names.Meaning.TheVariants.{Local, Outer}
use Rattle.rl_promises.proofs.Covering.{none_in}
use Rattle.rl_promises.specs.Moved.{may_move, said_of_moved, type_name}
use Rattle.rl_promises.specs.Outs.{is_known_key, is_lost_head}
use Rattle.rl_promises.specs.Patterns.{is_pattern}
use Rattle.rl_promises.specs.Rows.{refusals_to}
use Rattle.rl_promises.specs.Rows.{is_eval, label_of, refusal, refusals, refusals_among, refusals_at, refusals_at_head, refusals_below}
use Rattle.rl_promises.specs.Rows.{refusals_in, refusals_in_cases, said_of_assigned, said_of_finalizer, said_of_init, said_of_local}
use Rattle.rl_promises.specs.Rows.{said_of_test, said_of_throw, said_of_updated}
use Rattle.rl_syntax.specs.declared.word.Word.{Word}
use Rattle.rl_syntax.specs.declared.word.Word.TheVariants as word
use Rattle.rl_syntax.specs.Syntax.{Absent, Flag, Listed}
use Rattle.rl_text.specs.Numeral.{is_numeral}

-- Two lists without an element together.

pub first_none : (xs ys : List Diagnostic) → xs ++ ys ≡ [] → xs ≡ []
first_none xs ys none = (none_in xs ys none).0

pub second_none : (xs ys : List Diagnostic) → xs ++ ys ≡ [] → ys ≡ []
second_none xs ys none = (none_in xs ys none).1

-- A list that begins with an element has one.
pub never : {d : Diagnostic} {ds : List Diagnostic} → d ∷ ds ≡ [] → ⊥
never e = cc

behind_none : (xs : List Diagnostic) (d : Diagnostic) → xs ++ d ∷ [] ≡ [] → ⊥
behind_none xs d e = never (second_none xs (d ∷ []) e)

pub branches_clean : (names : Names) (consequent alternate test : Syntax)
    → refusals names consequent ++ refusals names alternate ++ refusals names test ≡ []
    → (refusals names consequent ≡ []) × (refusals names alternate ≡ []) × (refusals names test ≡ [])
branches_clean names consequent alternate test none =
    let front = none_in (refusals names consequent) (refusals names alternate) (first_none _ (refusals names test) none) in
    (front.0, front.1, second_none (refusals names consequent ++ refusals names alternate) (refusals names test) none)

-- Branches and loops, in the block of a `try` or outside of one.

pub branches_clean_at : (names : Names) (tried : Bool) (consequent alternate test : Syntax)
    → refusals_at names tried consequent ++ refusals_at names tried alternate ++ refusals names test ≡ []
    → (refusals_at names tried consequent ≡ []) × (refusals_at names tried alternate ≡ []) × (refusals names test ≡ [])
branches_clean_at names tried consequent alternate test none =
    let both = none_in (refusals_at names tried consequent ++ refusals_at names tried alternate) (refusals names test) none in
    let front = none_in (refusals_at names tried consequent) (refusals_at names tried alternate) both.0 in
    (front.0, front.1, both.1)

pub while_clean : (names : Names) (tried : Bool) (test body : Syntax) → refusals_at names tried body ++ refusals names test ≡ []
    → (refusals_at names tried body ≡ []) × (refusals names test ≡ [])
while_clean names tried test body none = none_in (refusals_at names tried body) (refusals names test) none

-- The parts of a `for` loop have none, and its head is none that is refused.
pub record IsCleanFor (names : Names) (tried : Bool) (at : Span) (front condition behind inside : Syntax) : Type 0 where
  pub init_said : said_of_init at front ≡ []
  pub init : refusals names front ≡ []
  pub update : refusals names behind ≡ []
  pub body : refusals_at names tried inside ≡ []
  pub test_said : said_of_test at condition ≡ []
  pub test : refusals names condition ≡ []

pub for_clean : (names : Names) (tried : Bool) (at : Span) (init test update body : Syntax)
    → said_of_init at init ++ refusals names init ++ refusals names update ++ refusals_at names tried body ++ said_of_test at test
    ++ refusals names test ≡ []
    → IsCleanFor names tried at init test update body
for_clean names tried at init test update body none =
    let five = none_in _ (refusals names test) none in
    let four = none_in _ (said_of_test at test) five.0 in
    let three = none_in _ (refusals_at names tried body) four.0 in
    let two = none_in _ (refusals names update) three.0 in
    let one = none_in (said_of_init at init) (refusals names init) two.0 in record {
      init_said = one.0;
      init = one.1;
      update = two.1;
      body = three.1;
      test_said = four.1;
      test = five.1;
    }

-- Loops over keys or values, and their heads.

pub rounds_clean : (names : Names) (tried : Bool) (head right body : Syntax)
    → refusals_at names tried body ++ refusals names right ++ refusals_at_head names head ≡ []
    → (refusals_at names tried body ≡ []) × (refusals names right ≡ []) × (refusals_at_head names head ≡ [])
rounds_clean names tried head right body none =
    let both = none_in (refusals_at names tried body ++ refusals names right) (refusals_at_head names head) none in
    let front = none_in (refusals_at names tried body) (refusals names right) both.0 in
    (front.0, front.1, both.1)

-- Statements in a row.
pub among_clean : (names : Names) (tried : Bool) (e : Syntax) (es : Pieces) → refusals_among names tried (Then e es) ≡ []
    → (refusals_at names tried e ≡ []) × (refusals_among names tried es ≡ [])
among_clean names tried e es none = none_in (refusals_at names tried e) (refusals_among names tried es) none

-- A `throw` is refused in the block of a `try`.

untried : (tried : Bool) (at : Span) → said_of_throw tried at ≡ [] → tried ≡ false
untried true at none = absurd (never none)
untried false at none = refl

pub throw_clean : (names : Names) (tried : Bool) (at : Span) (e : Syntax) → refusals names e ++ said_of_throw tried at ≡ []
    → (refusals names e ≡ []) × (tried ≡ false)
throw_clean names tried at e none =
    let both = none_in (refusals names e) (said_of_throw tried at) none in (both.0, untried tried at both.1)

-- The cases of a `switch`, and their tests.

pub switch_clean : (names : Names) (tried : Bool) (value : Syntax) (cases : Pieces)
    → refusals_in_cases names tried cases ++ refusals names value ≡ []
    → (refusals_in_cases names tried cases ≡ []) × (refusals names value ≡ [])
switch_clean names tried value cases none = none_in (refusals_in_cases names tried cases) (refusals names value) none

-- The parts of a case, and the cases behind it, have none.
pub record IsCleanCase (names : Names) (tried : Bool) (test : Syntax) (statements cases : Pieces) : Type 0 where
  pub behind : refusals_in_cases names tried cases ≡ []
  pub body : refusals_among names tried statements ≡ []
  pub moved : said_of_moved names test ≡ []
  pub condition : refusals names test ≡ []

pub case_clean : (names : Names) (tried : Bool) (test : Syntax) (statements cases : Pieces)
    → refusals_in_cases names tried cases
    ++ (refusals_among names tried statements ++ said_of_moved names test ++ refusals names test) ≡ []
    → IsCleanCase names tried test statements cases
case_clean names tried test statements cases none =
    let two = none_in (refusals_in_cases names tried cases) _ none in
    let own = none_in (refusals_among names tried statements ++ said_of_moved names test) (refusals names test) two.1 in
    let first = none_in (refusals_among names tried statements) (said_of_moved names test) own.0 in
    record { behind = two.0; body = first.0; moved = first.1; condition = own.1 }

pub moved_never : (names : Names) (at : At) (w : Word) (fields : Pieces) → may_move names (Node at w fields) ≡ false
    → said_of_moved names (Node at w fields) ≡ [] → ⊥
moved_never names at w fields is none =
    never (sym (ap (λ (b : Bool). if b then [] else diagnostic_at row.F29 (type_name w) at.span ∷ []) is) ∙ none)

-- A `try` statement with a `catch`, without a finalizer and with one.

pub try_clean : (names : Names) (tried : Bool) (param body block : Syntax)
    → refusals names param ++ refusals_at names tried body ++ refusals_at names true block ≡ []
    → (refusals names param ≡ []) × (refusals_at names tried body ≡ []) × (refusals_at names true block ≡ [])
try_clean names tried param body block none =
    let both = none_in (refusals names param ++ refusals_at names tried body) (refusals_at names true block) none in
    let front = none_in (refusals names param) (refusals_at names tried body) both.0 in
    (front.0, front.1, both.1)

pub finalizer_said : (at : Span) (finalizer : Syntax) → is_absent finalizer ≡ false
    → said_of_finalizer at finalizer ≡ refusal row.F35 at ∷ []
finalizer_said at finalizer is = ap (λ (b : Bool). if b then [] else refusal row.F35 at ∷ []) is

pub finalizer_never : (names : Names) (tried : Bool) (at there : At) (block param body finalizer : Syntax) → is_absent finalizer ≡ false
    → refusals_at names tried
    (Node at word.Try (Then block (Then (Node there word.Catch (Then param (Then body End))) (Then finalizer End)))) ≡ [] → ⊥
finalizer_never names tried at there block param body finalizer is none =
    let whole = none_in (said_of_finalizer at.span finalizer ++ refusals names param ++ refusals_at names tried body)
    (refusals_at names true block) none in
    let two = none_in (said_of_finalizer at.span finalizer ++ refusals names param) (refusals_at names tried body) whole.0 in
    never (sym (finalizer_said at.span finalizer is) ∙ first_none (said_of_finalizer at.span finalizer) (refusals names param) two.0)

pub constant_head_never : (names : Names) (at : At) (name : List ℕ) (symbol : SymbolId)
    → names.meaning at.reference.0 name ≡ Local symbol → names.is_const symbol.0 ≡ true
    → refusals_at_head names (Node at word.Id (Then (Said name) End)) ≡ [] → ⊥
constant_head_never names at name symbol is constant none =
    behind_none (said_of_local (names.name symbol.0) (label_of names symbol at.span)) (diagnostic_at row.F6 (names.name symbol.0) at.span)
    (sym (stored_head_refuses names at name symbol true is constant) ∙ none)

pub lost_head_never : (names : Names) (at : At) (w : Word) (fields : Pieces) → is_lost_head (Node at w fields) ≡ true
    → refusals_at_head names (Node at w fields) ≡ [] → ⊥
lost_head_never names at w fields is none = never (sym (lost_head_refuses names at w fields is) ∙ none)

pub member_head_clean : {w : Word} {fields parts : Pieces} {pieces : List Piece} {object : Place} {key : MemberKey}
    → IsMember w fields parts pieces object key → (names : Names) (at : At) → refusals_at_head names (Node at w fields) ≡ []
    → refusals_in names parts ≡ []
member_head_clean is names at none = sym (member_head_refuses names at is) ∙ none

-- A pattern that a head declares.
pub declared_pattern_clean : (names : Names) (at there : At) (kind : List ℕ) (pattern : Syntax)
    → refusals_at_head names
    (Node at word.Var (Then (Said kind) (Then (Listed (Then (Node there word.Declarator (Then pattern (Then Absent End))) End)) End))) ≡ []
    → refusals names pattern ≡ []
declared_pattern_clean names at there kind pattern none =
    first_none (refusals names pattern) [] (first_none (refusals names pattern ++ []) [] none)

-- Assignments.

pub assigned_clean : (names : Names) (at : At) (target right : Syntax) → is_pattern target ≡ false
    → refusals names (Node at word.Assign (Then (Said (codes "=")) (Then target (Then right End)))) ≡ []
    → (refusals names right ≡ []) × (said_of_assigned names at.span target (refusals_below names target) ≡ [])
assigned_clean names at target right whole none =
    none_in (refusals names right) (said_of_assigned names at.span target (refusals_below names target))
    (sym (assigned_refuses names at target right whole) ∙ none)

pub assigned_pattern_clean : (names : Names) (at : At) (target right : Syntax) → is_pattern target ≡ true
    → refusals names (Node at word.Assign (Then (Said (codes "=")) (Then target (Then right End)))) ≡ []
    → (refusals names right ≡ []) × (refusals_to names target ≡ [])
assigned_pattern_clean names at target right taken none =
    none_in (refusals names right) (refusals_to names target) (sym (assigned_pattern_refuses names at target right taken) ∙ none)

pub assigned_member_clean : {w : Word} {fields parts : Pieces} {pieces : List Piece} {object : Place} {key : MemberKey}
    → IsMember w fields parts pieces object key → (names : Names) (at there : At) (right : Syntax)
    → refusals names (Node at word.Assign (Then (Said (codes "=")) (Then (Node there w fields) (Then right End)))) ≡ []
    → (refusals names right ≡ []) × (refusals_in names parts ≡ [])
assigned_member_clean {parts} is names at there right none =
    none_in (refusals names right) (refusals_in names parts) (sym (assigned_member_refuses names at there right is) ∙ none)

pub constant_assigned_never : (names : Names) (at there : At) (name : List ℕ) (right : Syntax) (symbol : SymbolId)
    → names.meaning there.reference.0 name ≡ Local symbol → names.is_const symbol.0 ≡ true
    → refusals names
    (Node at word.Assign (Then (Said (codes "=")) (Then (Node there word.Id (Then (Said name) End)) (Then right End)))) ≡ [] → ⊥
constant_assigned_never names at there name right symbol is constant none =
    constant_head_never names there name symbol is constant
    (assigned_clean names at (Node there word.Id (Then (Said name) End)) right refl none).1

pub private_assigned_never : (names : Names) (at there : At) (object : Syntax) (name : List ℕ) (right : Syntax)
    → refusals names
    (Node at word.Assign
    (Then (Said (codes "="))
    (Then (Node there word.Privatemember (Then (Flag false) (Then object (Then (Said name) End)))) (Then right End)))) ≡ []
    → ⊥
private_assigned_never names at there object name right none =
    let fields : Pieces = Then (Flag false) (Then object (Then (Said name) End)) in
    behind_none (refusals_in names fields) (refusal row.F5 at.span)
    (assigned_clean names at (Node there word.Privatemember fields) right refl none).1

pub compound_clean : (names : Names) (at : At) (target right : Syntax) (operator : AssignmentOperator) (applied : BinaryOperator)
    → applied_by operator ≡ Some applied → is_pattern target ≡ false
    → refusals names (Node at word.Assign (Then (Said (assignment_text operator)) (Then target (Then right End)))) ≡ []
    → (refusals names target ≡ []) × (refusals names right ≡ []) × (said_of_updated names target ≡ [])
compound_clean names at target right operator applied applies whole none =
    let whole = none_in (refusals names target ++ refusals names right) (said_of_updated names target)
    (sym (compound_refuses names at target right operator applied applies whole) ∙ none) in
    let front = none_in (refusals names target) (refusals names right) whole.0 in
    (front.0, front.1, whole.1)

pub compound_member_clean : {w : Word} {fields parts : Pieces} {pieces : List Piece} {object : Place} {key : MemberKey}
    → IsMember w fields parts pieces object key → (names : Names) (at there : At) (right : Syntax) (operator : AssignmentOperator)
    (applied : BinaryOperator) → applied_by operator ≡ Some applied
    → refusals names (Node at word.Assign (Then (Said (assignment_text operator)) (Then (Node there w fields) (Then right End)))) ≡ []
    → (refusals_in names parts ≡ []) × (refusals names right ≡ [])
compound_member_clean {parts} is names at there right operator applied applies none =
    none_in (refusals_in names parts) (refusals names right)
    (sym (compound_member_refuses names at there right operator applied applies is) ∙ none)

pub constant_compound_never : (names : Names) (at there : At) (name : List ℕ) (right : Syntax) (operator : AssignmentOperator)
    (applied : BinaryOperator) → applied_by operator ≡ Some applied → (symbol : SymbolId)
    → names.meaning there.reference.0 name ≡ Local symbol → names.is_const symbol.0 ≡ true
    → refusals names
    (Node at word.Assign (Then (Said (assignment_text operator)) (Then (Node there word.Id (Then (Said name) End)) (Then right End)))) ≡ []
    → ⊥
constant_compound_never names at there name right operator applied applies symbol is constant none =
    constant_head_never names there name symbol is constant
    (compound_clean names at (Node there word.Id (Then (Said name) End)) right operator applied applies refl none).2

-- Kinds that are refused.

pub refused_never : (names : Names) (at : At) {w : Word} {fields : Pieces} {r : Row} → IsRefused names w fields r
    → refusals names (Node at w fields) ≡ [] → ⊥
refused_never names at is none = never (sym (refused_refuses names at is) ∙ none)

pub refusing_never : (names : Names) (at : At) {w : Word} {fields parts : Pieces} {r : Row} → IsRefusing w fields parts r
    → refusals names (Node at w fields) ≡ [] → ⊥
refusing_never names at is none = never (sym (refusing_refuses names at is) ∙ none)

-- A property of a private name.
pub private_never : (names : Names) (at : At) (optional object name : Syntax)
    → refusals names (Node at word.Privatemember (Then optional (Then object (Then name End)))) ≡ [] → ⊥
private_never names at optional object name none = behind_none (refusals names object) _ none

pub outer_never : (names : Names) (at : At) (name : List ℕ) (binding : NonLocalBinding)
    → names.meaning at.reference.0 name ≡ Outer binding → is_eval binding ≡ true
    → refusals names (Node at word.Id (Then (Said name) End)) ≡ [] → ⊥
outer_never names at name binding is eval none = never (sym (outer_refuses names at name binding true is eval) ∙ none)

pub fraction_never : (names : Names) (at there : At) (text : List ℕ) (e : Syntax) → is_numeral text ≡ false
    → refusals names (Node at word.Prop (Then (Flag false) (Then (Node there word.Num (Then (Said text) End)) (Then e End)))) ≡ [] → ⊥
fraction_never names at there text e is none = never (sym (fraction_refuses names at there text e is) ∙ none)

pub unknown_never : (names : Names) (at : At) (computed : Bool) (key e : Syntax) → is_known_key computed key ≡ false
    → refusals names (Node at word.Prop (Then (Flag computed) (Then key (Then e End)))) ≡ [] → ⊥
unknown_never names at computed key e is none = never (sym (unknown_refuses names at computed key e is) ∙ none)

-- The parts of a node without refusals.

pub wrapper_clean : {w : Word} {fields : Pieces} {e : Syntax} → IsWrapper w fields e → (names : Names) (at : At)
    → refusals names (Node at w fields) ≡ [] → refusals names e ≡ []
wrapper_clean is names at none = sym (wrapper_refuses names at is) ∙ none

pub cast_clean : {w : Word} {fields parts : Pieces} {e : Syntax} {there : At} → IsCast w fields e (Node there word.Type parts)
    → (names : Names) (at : At) → refusals names (Node at w fields) ≡ [] → refusals names e ≡ []
cast_clean {there} is names at none = sym (cast_refuses names at there is) ∙ none

pub private_clean : {w : Word} {fields : Pieces} {e : Syntax} → IsPrivate w fields e → (names : Names) (at : At)
    → refusals names (Node at w fields) ≡ [] → refusals names e ≡ []
private_clean is names at none = sym (private_refuses names at is) ∙ none

pub updated_member_clean : {w : Word} {fields parts : Pieces} {pieces : List Piece} {object : Place} {key : MemberKey}
    → IsMember w fields parts pieces object key → (names : Names) (at there : At) (operator prefix : Syntax)
    → refusals names (Node at word.Update (Then operator (Then prefix (Then (Node there w fields) End)))) ≡ []
    → refusals_in names parts ≡ []
updated_member_clean is names at there operator prefix none = sym (updated_member_refuses names at there operator prefix is) ∙ none

pub method_clean : {w : Word} {fields parts : Pieces} {pieces : List Piece} {object : Place} {key : MemberKey}
    → IsMember w fields parts pieces object key → (names : Names) (at there : At) (es : Pieces)
    → refusals names (Node at word.Call (Then (Flag false) (Then (Node there w fields) (Then (Listed es) End)))) ≡ []
    → (refusals_in names parts ≡ []) × (refusals_in names es ≡ [])
method_clean {parts} is names at there es none =
    none_in (refusals_in names parts) (refusals_in names es) (sym (method_refuses names at there es is) ∙ none)

pub form_clean : {w : Word} {fields parts : Pieces} {pieces : List Piece} {v : InstructionValue} → IsForm w fields parts pieces v
    → (names : Names) (at : At) → refusals names (Node at w fields) ≡ [] → refusals_in names parts ≡ []
form_clean is names at none = sym (form_refuses names at is) ∙ none

pub property_clean : (names : Names) (at : At) (computed : Bool) (key e : Syntax) (text : List ℕ) → key_text computed key ≡ Some text
    → refusals names (Node at word.Prop (Then (Flag computed) (Then key (Then e End)))) ≡ [] → refusals names e ≡ []
property_clean names at computed key e text is none = sym (property_refuses names at computed key e text is) ∙ none

-- Parts in a row without refusals.

pub row_clean : (names : Names) (e : Syntax) (es : Pieces) → refusals_in names (Then e es) ≡ []
    → (refusals names e ≡ []) × (refusals_in names es ≡ [])
row_clean names e es none = none_in (refusals names e) (refusals_in names es) none

pub spread_row_clean : (names : Names) (at : At) (e : Syntax) (es : Pieces)
    → refusals_in names (Then (Node at word.Spread (Then e End)) es) ≡ [] → (refusals names e ≡ []) × (refusals_in names es ≡ [])
spread_row_clean names at e es none =
    let row = none_in (refusals names e ++ []) (refusals_in names es) none in (first_none (refusals names e) [] row.0, row.1)

pub property_row_clean : (names : Names) (at : At) (computed : Bool) (key e : Syntax) (text : List ℕ) (es : Pieces)
    → key_text computed key ≡ Some text
    → refusals_in names (Then (Node at word.Prop (Then (Flag computed) (Then key (Then e End)))) es) ≡ []
    → (refusals names e ≡ []) × (refusals_in names es ≡ [])
property_row_clean names at computed key e text es is none =
    let row = row_clean names (Node at word.Prop (Then (Flag computed) (Then key (Then e End)))) es none in
    (property_clean names at computed key e text is row.0, row.1)

pub computed_row_clean : (names : Names) (at : At) (key e : Syntax) (es : Pieces) → is_known_key true key ≡ true
    → refusals_in names (Then (Node at word.Prop (Then (Flag true) (Then key (Then e End)))) es) ≡ []
    → (refusals names key ≡ []) × (refusals names e ≡ []) × (refusals_in names es ≡ [])
computed_row_clean names at key e es is none =
    let row = row_clean names (Node at word.Prop (Then (Flag true) (Then key (Then e End)))) es none in
    let front = none_in (refusals names key) (refusals names e) (sym (computed_refuses names at key e is) ∙ row.0) in
    (front.0, front.1, row.1)

pub fraction_row_never : (names : Names) (at there : At) (text : List ℕ) (e : Syntax) (es : Pieces) → is_numeral text ≡ false
    → refusals_in names (Then (Node at word.Prop (Then (Flag false) (Then (Node there word.Num (Then (Said text) End)) (Then e End)))) es)
    ≡ [] → ⊥
fraction_row_never names at there text e es is none =
    fraction_never names at there text e is
    (row_clean names (Node at word.Prop (Then (Flag false) (Then (Node there word.Num (Then (Said text) End)) (Then e End)))) es none).0

pub unknown_row_never : (names : Names) (at : At) (computed : Bool) (key e : Syntax) (es : Pieces) → is_known_key computed key ≡ false
    → refusals_in names (Then (Node at word.Prop (Then (Flag computed) (Then key (Then e End)))) es) ≡ [] → ⊥
unknown_row_never names at computed key e es is none =
    unknown_never names at computed key e is
    (row_clean names (Node at word.Prop (Then (Flag computed) (Then key (Then e End)))) es none).0

-- An update of a constant.
pub constant_update_never : (names : Names) (at there : At) (operator prefix : Syntax) (name : List ℕ) (symbol : SymbolId)
    → names.meaning there.reference.0 name ≡ Local symbol → names.is_const symbol.0 ≡ true
    → refusals names (Node at word.Update (Then operator (Then prefix (Then (Node there word.Id (Then (Said name) End)) End)))) ≡ [] → ⊥
constant_update_never names at there operator prefix name symbol is constant none =
    behind_none (said_of_local (names.name symbol.0) (label_of names symbol there.span))
    (diagnostic_at row.F6 (names.name symbol.0) there.span)
    (sym (constant_refuses names at there operator prefix name symbol is constant) ∙ none)

-- A parameter has none, and neither have those behind it and the rest.
pub record IsCleanParam (names : Names) (param : Syntax) (more : Pieces) (rest : Syntax) : Type 0 where
  pub own : refusals names param ≡ []
  pub others : refusals_in names more ++ refusals names rest ≡ []

pub param_clean : (names : Names) (param : Syntax) (more : Pieces) (rest : Syntax)
    → refusals_in names (Then param more) ++ refusals names rest ≡ [] → IsCleanParam names param more rest
param_clean names param more rest none =
    let both = none_in (refusals_in names (Then param more)) (refusals names rest) none in
    let rows = row_clean names param more both.0 in
    record { own = rows.0; others = ap (λ (l : List Diagnostic). l ++ refusals names rest) rows.1 ∙ both.1 }
