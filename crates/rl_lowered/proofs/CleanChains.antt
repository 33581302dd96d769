-- Optional chains without refusals: their links have none.
use Rattle.std.proofs.Common.{◌≡◌, ◌++◌, Bool, true, false, if◌then◌else◌, List, [], ◌∷◌, refl, sym, ap, ◌∙◌}
use Rattle.rl_base.specs.declared.row.Row.TheVariants as row
use Rattle.rl_lowered.proofs.Clean.{first_none, form_clean, never, second_none}
use Rattle.rl_lowered.proofs.Common.{At, Diagnostic, End, Names, Node, Piece, Pieces, Place, Said, Syntax, Then}
use Rattle.rl_lowered.specs.Forms.{IsLinkKey, IsMember, LinkIndexed, LinkNumbered, LinkStatic, Load, MemberKey}
use Rattle.rl_promises.proofs.Covering.{none_in}
use Rattle.rl_promises.specs.Chains.{Below, Spine, Top, below_link}
use Rattle.rl_promises.specs.Rows.{refusal, refusals, refusals_by, refusals_in}
use Rattle.rl_rules.specs.Chains.{has_optional}
use Rattle.rl_syntax.specs.declared.word.Word.{Word}
use Rattle.rl_syntax.specs.declared.word.Word.TheVariants as word
use Rattle.rl_syntax.specs.Syntax.{Flag, Listed}

-- The position of the outermost link of a chain: below a link of another chain, or at the top.
abbrev pub spine_place : (below : Bool) → Spine
spine_place true = Below
spine_place false = Top

pub spine_below : (below : Bool) → below_link (spine_place below) ≡ Below
spine_below true = refl
spine_below false = refl

-- Three lists without an element are none together.
three_none : (xs ys zs : List Diagnostic) → xs ≡ [] → ys ≡ [] → zs ≡ [] → xs ++ ys ++ zs ≡ []
three_none xs ys zs one two three =
    ap (λ (l : List Diagnostic). l ++ ys ++ zs) one ∙ ap (λ (l : List Diagnostic). l ++ zs) two ∙ three

-- An expression without refusals below a link has none off the spine of a chain.
pub below_off : (names : Names) (e : Syntax) → refusals_by names Below e ≡ [] → refusals names e ≡ []
below_off names (Node at word.Member (Then optional (Then object rest))) none =
    let front = none_in (refusals names optional ++ refusals_by names Below object) (refusals_in names rest) none in
    let two = none_in (refusals names optional) (refusals_by names Below object) front.0 in
    three_none (refusals names optional) (refusals names object) (refusals_in names rest) two.0 (below_off names object two.1) front.1
below_off names (Node at word.Index (Then optional (Then object rest))) none =
    let front = none_in (refusals names optional ++ refusals_by names Below object) (refusals_in names rest) none in
    let two = none_in (refusals names optional) (refusals_by names Below object) front.0 in
    three_none (refusals names optional) (refusals names object) (refusals_in names rest) two.0 (below_off names object two.1) front.1
below_off names (Node at word.Call (Then optional (Then callee rest))) none =
    let front = none_in (refusals names optional ++ refusals_by names Below callee) (refusals_in names rest) none in
    let two = none_in (refusals names optional) (refusals_by names Below callee) front.0 in
    three_none (refusals names optional) (refusals names callee) (refusals_in names rest) two.0 (below_off names callee two.1) front.1
below_off names (Node at word.Privatemember (Then optional (Then object name))) none =
    absurd (never (second_none (refusals_by names Below object) (refusal row.F3 at.span ∷ []) none))
below_off names (Node at word.Nonnull (Then expression rest)) none =
    let said : List Diagnostic = if has_optional expression then refusal row.F44 at.span ∷ [] else [] in
    let front = none_in (said ++ refusals_by names Below expression) (refusals_in names rest) none in
    three_none [] (refusals names expression) (refusals_in names rest) refl
    (below_off names expression (second_none said (refusals_by names Below expression) front.0)) front.1
below_off names (Node at word.Cond (Then condition (Then consequent (Then alternate End)))) none = none
below_off names (Node at word.Logical (Then operator (Then left (Then right End)))) none = none
below_off names (Node at word.Var (Then (Said kind) (Then declarators End))) none = none
below_off names (Node at word.Declarator (Then pattern (Then init End))) none = none
below_off names (Node at word.Param (Then pattern (Then default End))) none = none
below_off names (Node at word.Defaultpat (Then pattern (Then default End))) none = none
below_off names (Node at word.Keyedpat (Then computed (Then key (Then pattern End)))) none = none
below_off names (Node at word.Arraypat (Then (Listed items) (Then rest End))) none = none
below_off names (Node at word.Objectpat (Then (Listed properties) (Then rest End))) none = none
below_off names (Node at word.Instantiate (Then expression types)) none = none
below_off names (Node at word.Chain (Then expression rest)) none = none
below_off names (Node at word.Unary (Then (Said operator) (Then argument End))) none = none
below_off names (Node at word.Update (Then operator (Then prefix (Then target End)))) none = none
below_off names (Node at word.Assign (Then (Said operator) (Then target (Then right End)))) none = none
below_off names
    (Node at word.Tagged (Then tag (Then (Node there word.Template (Then (Listed quasis) (Then (Listed expressions) End))) End))) none =
    none
below_off names (Node at word.Prop (Then (Flag computed) (Then key (Then expression End)))) none = none
below_off names _ none = none

-- The parts of a link have none.

pub property_link_clean : {w : Word} {rest parts : Pieces} {pieces : List Piece} {key : MemberKey} → IsLinkKey w rest parts pieces key
    → (names : Names) (place : Spine) → below_link place ≡ Below → (at : At) (optional : Bool) (object : Syntax)
    → refusals_by names place (Node at w (Then (Flag optional) (Then object rest))) ≡ []
    → (refusals_by names Below object ≡ []) × (refusals_in names parts ≡ [])
property_link_clean (LinkStatic {key}) names place is at optional object none =
    (ap (λ (l : Spine). refusals_by names l object) (sym is) ∙ first_none (refusals_by names (below_link place) object) [] none, refl)
property_link_clean (LinkIndexed {property} other) names place is at optional object none =
    let both = none_in (refusals_by names (below_link place) object) (refusals_in names (Then property End)) none in
    (ap (λ (l : Spine). refusals_by names l object) (sym is) ∙ both.0, both.1)
property_link_clean (LinkNumbered {there} {text} numeral) names place is at optional object none =
    let both =
    none_in (refusals_by names (below_link place) object) (refusals_in names (Then (Node there word.Num (Then (Said text) End)) End))
    none in
    (ap (λ (l : Spine). refusals_by names l object) (sym is) ∙ both.0, refl)

pub call_link_clean : (names : Names) (place : Spine) → below_link place ≡ Below → (at : At) (optional : Bool) (callee : Syntax)
    (es : Pieces) → refusals_by names place (Node at word.Call (Then (Flag optional) (Then callee (Then (Listed es) End)))) ≡ []
    → (refusals_by names Below callee ≡ []) × (refusals_in names es ≡ [])
call_link_clean names place is at optional callee es none =
    let both = none_in (refusals_by names (below_link place) callee) (refusals_in names (Then (Listed es) End)) none in
    (ap (λ (l : Spine). refusals_by names l callee) (sym is) ∙ both.0, first_none (refusals_in names es) [] both.1)

pub private_link_never : (names : Names) (place : Spine) (at : At) (optional object name : Syntax)
    → refusals_by names place (Node at word.Privatemember (Then optional (Then object (Then name End)))) ≡ [] → ⊥
private_link_never names place at optional object name none =
    never (second_none (refusals_by names (below_link place) object) (refusal row.F3 at.span ∷ []) none)

-- A `!` in a chain: above it, and below a link.

pub asserted_clean : (names : Names) (at : At) (e : Syntax) → refusals_by names Top (Node at word.Nonnull (Then e End)) ≡ []
    → refusals_by names Top e ≡ []
asserted_clean names at e none = first_none (refusals_by names Top e) [] none

pub broken_never : (names : Names) (at : At) (e : Syntax) → has_optional e ≡ true
    → refusals_by names Below (Node at word.Nonnull (Then e End)) ≡ [] → ⊥
broken_never names at e is none =
    let said : List Diagnostic = if has_optional e then refusal row.F44 at.span ∷ [] else [] in
    never (sym (ap (λ (b : Bool). if b then refusal row.F44 at.span ∷ [] else []) is)
    ∙ first_none said (refusals_by names Below e) (first_none (said ++ refusals_by names Below e) [] none))

-- A method in front of a chain, and its parts.
pub method_front_clean : {w : Word} {fields parts : Pieces} {pieces : List Piece} {object : Place} {key : MemberKey}
    → IsMember w fields parts pieces object key → (names : Names) (at : At) → refusals_by names Below (Node at w fields) ≡ []
    → refusals_in names parts ≡ []
method_front_clean {w} {fields} is names at none = form_clean (Load is) names at (below_off names (Node at w fields) none)
