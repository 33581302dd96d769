-- Derivations of properties that are loaded, updated, deleted or called.
use Rattle.std.proofs.Common.{◌≡◌, ℕ, ◌+◌, ◌≤◌, true, false, ◌&&◌, not, Bool, List, [], ◌∷◌, Some, None, Result, Ok, Err, OnOk}
use Rattle.std.proofs.Common.{IfOk}
use Rattle.std.proofs.Common.{refl, ap, sym, ◌∙◌, subst, arith}
use Rattle.std.specs.Prelude.{codes}
use Rattle.std.specs.Str.{bytes_eq}
use Rattle.rl_base.specs.Operators.{unary_text, update_text}
use Rattle.rl_base.specs.declared.operator.UnaryOperator.{UnaryOperator}
use Rattle.rl_base.specs.declared.operator.UpdateOperator.{UpdateOperator}
use Rattle.rl_base.specs.declared.row.Row.TheVariants as row
use Rattle.rl_base.specs.declared.stop.Stop.{Stop}
use Rattle.rl_builder.specs.Builder.{State}
use Rattle.rl_builder.specs.Temporaries.{temporary, with_value}
use Rattle.rl_hir.specs.Pieces.{Piece, Gives, argument_pieces, gathered}
use Rattle.rl_hir.specs.declared.instruction.InstructionValue.{InstructionValue}
use Rattle.rl_hir.specs.declared.instruction.InstructionValue.TheVariants as values
use Rattle.rl_hir.specs.declared.instruction.MethodCall.{MethodCall}
use Rattle.rl_hir.specs.declared.instruction.Place.{Place}
use Rattle.rl_hir.specs.declared.instruction.PlaceOrSpread.{PlaceOrSpread}
use Rattle.rl_hir.specs.declared.instruction.PropertyLiteral.TheVariants as keys
use Rattle.rl_lower_expressions.specs.declared.member.LoweredMember.{LoweredMember}
use Rattle.rl_lower_expressions.specs.declared.member.MemberProperty.{MemberProperty}
use Rattle.rl_lower_expressions.specs.declared.member.MemberProperty.TheVariants as properties
use Rattle.rl_lowered.specs.Forms.{Fixed, IsForm, IsInside, IsLinkKey, IsMember, IsRefused, MemberKey, delete_of}
use Rattle.rl_lowered.specs.Forms.{is_number_key, load_of}
use Rattle.rl_lowered.specs.Forms as forms
use Rattle.rl_lowered.specs.Lowered.{LoweredAll, member_result, member_stored}
use Rattle.rl_lowered.specs.Lowered as lowered
use Rattle.rl_lowered.specs.Promised.{LowersAll, LowersExpression, share}
use Rattle.rl_model.specs.Applied.{deletes}
use Rattle.rl_model.specs.Shapes.{is_link}
use Rattle.rl_names.specs.Names.{Names}
use Rattle.rl_promises.specs.Lowerable.{IsLowerable, Where}
use Rattle.rl_promises.specs.Outs.{is_wrapped}
use Rattle.rl_runs.specs.Blocks.{size_of}
use Rattle.rl_syntax.specs.declared.numbered.At.{At}
use Rattle.rl_syntax.specs.declared.word.Word.{Word}
use Rattle.rl_syntax.specs.declared.word.Word.TheVariants as word
use Rattle.rl_syntax.specs.Syntax.{Syntax, Node, Listed, Said, Flag, Pieces, End, Then, nodes, nodes_of}
use Rattle.rl_lower_parts.proofs.ParsedNumbers.{parsed_none, parsed_some}
use Rattle.rl_lower_expressions.proofs.Derivations.{asked_ok, inner_ok, next, nothing, private_told}
use Rattle.rl_lower_parts.proofs.Derivations.{derived}
use Rattle.rl_lower_expressions.specs.Groups.{key_number}
use Rattle.rl_lower_expressions.specs.Links.{LowersKey}
use Rattle.rl_lower_expressions.specs.Members.{LowersMember, key_of}

-- Keys.

pub static_key : {names : Names} {text : List ℕ} {s : State} (copy : List ℕ) → copy ≡ text
    → LowersKey names word.Member (Then (Said text) End) s s (properties.Literal (keys.String copy))
static_key {names} {text} {s} copy same = record {
  parts = End;
  pieces = [];
  key = subst (λ (k : List ℕ). IsLinkKey word.Member (Then (Said text) End) End [] (Fixed (keys.String k))) (sym same) forms.LinkStatic;
  by = nothing;
  named = λ n. n;
  size = omega arith;
}

-- A key in brackets that is a numeral.
numbered : (key : Syntax) (number whole : ℕ) → whole ≡ number → Some number ≡ key_number key
    → IsLinkKey word.Index (Then key End) End [] (Fixed (keys.Number whole))
numbered (Node at word.Num (Then (Said text) End)) number whole same found =
    let told = parsed_some text text number refl found in
    subst (λ (k : ℕ). IsLinkKey word.Index (Then (Node at word.Num (Then (Said text) End)) End) End [] (Fixed (keys.Number k)))
    (sym (same ∙ told.1)) (forms.LinkNumbered told.0)
numbered _ number whole same found = absurd (let never : Some number ≡ None = found in cc)

pub numbered_key : {names : Names} {key : Syntax} {s : State} (number whole : ℕ) → whole ≡ number → Some number ≡ key_number key
    → LowersKey names word.Index (Then key End) s s (properties.Literal (keys.Number whole))
numbered_key {names} {key} {s} number whole same found = record {
  parts = End;
  pieces = [];
  key = numbered key number whole same found;
  by = nothing;
  named = λ n. n;
  size = omega arith;
}

-- A key in brackets that is no numeral.
no_number : (key : Syntax) → None ≡ key_number key → is_number_key key ≡ false
no_number (Node at word.Num (Then (Said text) End)) found = parsed_none text text refl found
no_number _ found = refl

pub computed_key : {names : Names} {key : Syntax} {s t : State} {q : Place} → None ≡ key_number key → LowersExpression names key s t q
    → LowersKey names word.Index (Then key End) s t (properties.Computed q)
computed_key {names} {key} {s} {t} {q} found l = record {
  parts = Then key End;
  pieces = Gives q ∷ [];
  key = forms.LinkIndexed (no_number key found);
  by = next l nothing;
  named = l.named;
  size = let few : size_of t ≤ size_of s + share (nodes key) = l.size in omega (arith, few);
}

-- A property is its object and its key.

keyed : {w : Word} {rest parts : Pieces} {pieces : List Piece} {key : MemberKey} {p : Place} (object : Syntax)
    → IsLinkKey w rest parts pieces key → IsMember w (Then (Flag false) (Then object rest)) (Then object parts) (Gives p ∷ pieces) p key
keyed object forms.LinkStatic = forms.Static
keyed object (forms.LinkIndexed other) = forms.Indexed other
keyed object (forms.LinkNumbered is) = forms.Numbered is

pub member_parts : {names : Names} {object : Syntax} {w : Word} {rest : Pieces} {s t u : State} {p : Place} {key : MemberProperty}
    → LowersExpression names object s t p → LowersKey names w rest t u key
    → LowersMember names w (Then (Flag false) (Then object rest)) s u (record { object = p; property = key })
member_parts {names} {object} {w} {rest} {s} {t} {u} {p} {key} l k = record {
  parts = Then object k.parts;
  pieces = Gives p ∷ k.pieces;
  member = keyed object k.key;
  by = next l k.by;
  named = λ n. k.named (l.named n);
  size =
      let first : size_of t ≤ size_of s + share (nodes object) = l.size in
      let second : size_of u ≤ size_of t + share (nodes_of rest) = k.size in
      omega (arith, first, second);
}

-- A load.
pub loaded_ok : {names : Names} {tree : Syntax} {at : At} {w : Word} {fields : Pieces} {s t : State} {value : InstructionValue}
    (m : LoweredMember) (r : Result Place Stop) (new : State)
    → Node at w fields ≡ tree → value ≡ load_of m.object (key_of m.property) → LowersMember names w fields s t m
    → OnOk r (new ≡ with_value t value (Some at.span)) → IfOk r (λ place. place ≡ temporary t (Some at.span))
    → IfOk r (λ place. LowersExpression names tree s new place)
loaded_ok {names} {tree} {at} {w} {fields} {s} {t} {value} m r new is same l moved placed =
    asked_ok r new is (subst (IsForm w fields l.parts l.pieces) (sym same) (forms.Load l.member)) l.by moved placed

-- A call of a method.
pub method_ok : {names : Names} {es : Pieces} {given : List PlaceOrSpread} {loaded u : State} {p : Place} {load : InstructionValue}
    {call : MethodCall} (s : State) (at there : At) (m : LoweredMember) (r : Result Place Stop) (new : State)
    → load ≡ load_of m.object (key_of m.property) → loaded ≡ with_value s load (Some there.span) → p ≡ temporary s (Some there.span)
    → LowersAll names es loaded u (gathered argument_pieces given)
    → call ≡ record { receiver = m.object; property = p; arguments = given }
    → OnOk r (new ≡ with_value u (values.MethodCall call) (Some at.span)) → IfOk r (λ place. place ≡ temporary u (Some at.span))
    → IfOk r (λ place. (w : Word) (fields : Pieces) (old : State) → LowersMember names w fields old s m
    → LowersExpression names (Node at word.Call (Then (Flag false) (Then (Node there w fields) (Then (Listed es) End)))) old new place)
method_ok {names} {es} {given} {loaded} {u} {p} {load} {call} s at there m (Ok place) new same begun at_place l calls moved placed =
    λ w fields old parts.
    let tree : Syntax = Node at word.Call (Then (Flag false) (Then (Node there w fields) (Then (Listed es) End))) in
    derived tree tree old _ new _ place refl
    (moved ∙ ap (λ (k : MethodCall). with_value u (values.MethodCall k) (Some at.span))
    (calls ∙ ap (λ (q : Place). record { receiver = m.object; property = q; arguments = given }) at_place))
    placed
    (lowered.Method at there w fields parts.parts es parts.pieces _ m.object (key_of m.property) given old s u parts.member parts.by
    (subst (λ (o : State). LoweredAll names es o u (gathered argument_pieces given))
    (begun ∙ ap (λ (v : InstructionValue). with_value s v (Some there.span)) same) l.by) refl)
method_ok s at there m (Err e) new same begun at_place l calls moved placed = tt

-- An update of a property.
pub updated_ok : {names : Names} (at : At) {there : At} {target : Syntax} {w : Word} {fields : Pieces} (operator : UpdateOperator)
    (prefix : Bool) {s t : State} (m : LoweredMember) (r : Result Place Stop) (new : State)
    → Node there w fields ≡ target → LowersMember names w fields s t m
    → OnOk r (new ≡ member_stored t m.object (key_of m.property) operator there.span)
    → IfOk r (λ place. place ≡ member_result t m.object (key_of m.property) operator prefix there.span)
    → IfOk r (λ place. LowersExpression names
    (Node at word.Update (Then (Said (update_text operator)) (Then (Flag prefix) (Then target End)))) s new place)
updated_ok {names} at {there} {target} {w} {fields} operator prefix {s} {t} m (Ok place) new is l moved placed =
    derived (Node at word.Update (Then (Said (update_text operator)) (Then (Flag prefix) (Then target End))))
    (Node at word.Update (Then (Said (update_text operator)) (Then (Flag prefix) (Then (Node there w fields) End)))) s _ new _ place
    (ap (λ (n : Syntax). Node at word.Update (Then (Said (update_text operator)) (Then (Flag prefix) (Then n End)))) is) moved placed
    (lowered.UpdatedMember at there w fields l.parts l.pieces m.object (key_of m.property) operator prefix s t l.member l.by)
updated_ok at operator prefix m (Err e) new is l moved placed = tt

-- The target of an update that is not wrapped is lowerable.
pub update_may : (names : Names) (at : At) (operator prefix target : Syntax) → is_wrapped target ≡ false
    → IsLowerable names (Node at word.Update (Then operator (Then prefix (Then target End)))) → IsLowerable names target
update_may names at operator prefix target bare may = subst (λ (b : Bool). Where (not b) (IsLowerable names target)) bare may.1

-- The update of a private name.
pub private_update_ok : (names : Names) (at : At) {there : At} {target object : Syntax} (operator prefix : Syntax) {name : List ℕ}
    (s new : State)
    (optional : Bool)
    (r : Result Place Stop)
    → Node there word.Privatemember (Then (Flag optional) (Then object (Then (Said name) End))) ≡ target → IsLowerable names target
    → IfOk r (λ place. (name : List ℕ)
    → LowersExpression names (Node there word.Privatemember (Then (Flag false) (Then object (Then (Said name) End)))) s new place)
    → IfOk r (λ place. LowersExpression names (Node at word.Update (Then operator (Then prefix (Then target End)))) s new place)
private_update_ok names at {there} {target} {object} operator prefix {name} s new optional (Ok place) is may l =
    inner_ok names s new (Ok place)
    (ap (λ (n : Syntax). Node at word.Update (Then operator (Then prefix (Then n End)))) (private_told names optional is may))
    forms.PrivateUpdate (l name)
private_update_ok names at operator prefix s new optional (Err e) is may l = tt

-- Operands of `delete`.

-- The operand of a `delete` that is not refused is lowerable, and so is what stands in its parentheses.
pub inside_may : (names : Names) {e inner : Syntax} → IsInside e inner → IsLowerable names e → IsLowerable names inner
inside_may names forms.Bare may = may
inside_may names (forms.Around inside) may = inside_may names inside may.1.0

pub delete_may : (names : Names) (at : At) (operator : List ℕ) {e inner : Syntax} → IsInside e inner → deletes e ≡ is_link inner
    → is_link inner ≡ true → bytes_eq operator (codes "delete") ≡ true
    → IsLowerable names (Node at word.Unary (Then (Said operator) (Then e End))) → IsLowerable names inner
delete_may names at operator {e} {inner} inside same link deletes_it may =
    inside_may names inside
    (subst (λ (b : Bool). Where (not b) (IsLowerable names e)) (kept (bytes_eq operator (codes "delete")) (deletes e) (same ∙ link)) may)
  where
    kept : (b d : Bool) → d ≡ true → (b && not d) ≡ false
    kept true true there = refl
    kept false true there = refl
    kept b false there = absurd (cc)

-- A `delete` of what is no property.
pub lost_delete : {names : Names} (operator : UnaryOperator) {e : Syntax} (inner : Syntax) → deletes e ≡ is_link inner
    → is_link inner ≡ false
    → bytes_eq (unary_text operator) (codes "delete") ≡ true
    → IsRefused names word.Unary (Then (Said (unary_text operator)) (Then e End)) row.F12
lost_delete {names} operator {e} inner same other deletes_it =
    forms.LostDelete operator (lost (bytes_eq (unary_text operator) (codes "delete")) (deletes e) deletes_it (same ∙ other))
  where
    lost : (b d : Bool) → b ≡ true → d ≡ false → (b && not d) ≡ true
    lost true false there none = refl
    lost true true there none = absurd (cc)
    lost false d there none = absurd (cc)

pub deleted_ok : {names : Names} (at : At) {there : At} {e inner : Syntax} (operator : UnaryOperator) {w : Word} {fields : Pieces}
    {s t : State}
    {value : InstructionValue} (m : LoweredMember) (r : Result Place Stop) (new : State)
    → Node there w fields ≡ inner → IsInside e inner → bytes_eq (unary_text operator) (codes "delete") ≡ true
    → value ≡ delete_of m.object (key_of m.property) → LowersMember names w fields s t m
    → OnOk r (new ≡ with_value t value (Some at.span)) → IfOk r (λ place. place ≡ temporary t (Some at.span))
    → IfOk r (λ place. LowersExpression names (Node at word.Unary (Then (Said (unary_text operator)) (Then e End))) s new place)
deleted_ok {names} at {there} {e} {inner} operator {w} {fields} {s} {t} {value} m r new is inside deletes_it same l moved placed =
    asked_ok r new refl
    (subst (IsForm word.Unary (Then (Said (unary_text operator)) (Then e End)) l.parts l.pieces) (sym same)
    (forms.Delete operator deletes_it (subst (IsInside e) (sym is) inside) l.member)) l.by moved placed

-- The `delete` of a private name.
pub private_delete_ok : (names : Names) (at : At) {there : At} {e inner object : Syntax} (operator : UnaryOperator) {name : List ℕ}
    (s new : State)
    (optional : Bool) (r : Result Place Stop)
    → Node there word.Privatemember (Then (Flag optional) (Then object (Then (Said name) End))) ≡ inner → IsLowerable names inner
    → IsInside e inner → bytes_eq (unary_text operator) (codes "delete") ≡ true
    → IfOk r (λ place. (name : List ℕ)
    → LowersExpression names (Node there word.Privatemember (Then (Flag false) (Then object (Then (Said name) End)))) s new place)
    → IfOk r (λ place. LowersExpression names (Node at word.Unary (Then (Said (unary_text operator)) (Then e End))) s new place)
private_delete_ok names at {there} {e} {inner} {object} operator {name} s new optional (Ok place) is may inside deletes_it l =
    inner_ok names s new (Ok place) refl
    (forms.PrivateDelete operator deletes_it (subst (IsInside e) (sym (private_told names optional is may)) inside)) (l name)
private_delete_ok names at operator s new optional (Err e) is may inside deletes_it l = tt
