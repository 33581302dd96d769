-- Derivations of names, of their updates, and of texts of templates.
use Rattle.std.proofs.Common.{◌≡◌, ℕ, Bool, true, false, List, ◌∷◌, Option, Some, None, Result, Ok, Err, OnOk, IfOk, refl, ap, sym, ◌∙◌}
use Rattle.std.proofs.Common.{subst}
use Rattle.rl_base.specs.Diagnostics.{diagnostic_at}
use Rattle.rl_base.specs.Operators.{update_text}
use Rattle.rl_base.specs.declared.operator.UpdateOperator.{UpdateOperator}
use Rattle.rl_base.specs.declared.row.Row.{Row}
use Rattle.rl_base.specs.declared.row.Row.TheVariants as row
use Rattle.rl_base.specs.declared.ids.SymbolId.{SymbolId}
use Rattle.rl_base.specs.declared.span.Span.{Span}
use Rattle.rl_base.specs.declared.stop.Stop.{Stop}
use Rattle.rl_builder.specs.Builder.{State, recorded}
use Rattle.rl_builder.specs.Names.{NamesAgree, resolved, resolved_by}
use Rattle.rl_builder.specs.Temporaries.{temporary, with_value}
use Rattle.rl_grammar.specs.Fields.{maybe}
use Rattle.rl_hir.specs.Pairs.{identifier_of}
use Rattle.rl_hir.specs.declared.instruction.InstructionValue.{InstructionValue}
use Rattle.rl_hir.specs.declared.instruction.InstructionValue.TheVariants as values
use Rattle.rl_hir.specs.declared.instruction.NonLocalBinding.{NonLocalBinding}
use Rattle.rl_hir.specs.declared.instruction.Place.{Place}
use Rattle.rl_hir.specs.declared.instruction.PrimitiveValue.TheVariants as primitives
use Rattle.rl_hir.specs.declared.instruction.TemplateQuasi.{TemplateQuasi}
use Rattle.rl_lowered.proofs.Names.{names_found}
use Rattle.rl_lowered.specs.Forms.{AreQuasis, IsRefused}
use Rattle.rl_lowered.specs.Forms as forms
use Rattle.rl_lowered.specs.Lowered.{update_of}
use Rattle.rl_lowered.specs.Lowered as lowered
use Rattle.rl_lowered.specs.Named.{IsFound, IsNamed, found}
use Rattle.rl_lowered.specs.Promised.{LowersExpression}
use Rattle.rl_names.specs.Names.{Names}
use Rattle.rl_names.specs.declared.names.Meaning.TheVariants.{Local, Outer}
use Rattle.rl_promises.specs.Locals.{IsVariable}
use Rattle.rl_promises.specs.Rows.{is_eval, refusal, row_of_update}
use Rattle.rl_syntax.specs.declared.numbered.At.{At}
use Rattle.rl_syntax.specs.declared.word.Word.TheVariants as word
use Rattle.rl_syntax.specs.Syntax.{Syntax, Node, Said, Flag, Absent, Pieces, End, Then}
use Rattle.rl_lower_parts.proofs.Derivations.{derived, refused_ok}

pub global_ok : (r : Result Place Stop) (at : At) (binding : NonLocalBinding) (s new : State) → is_eval binding ≡ false
    → OnOk r (new ≡ with_value s (values.LoadGlobal binding) (Some at.span)) → IfOk r (λ place. place ≡ temporary s (Some at.span))
    → IfOk r (λ place. (names : Names) (name : List ℕ) → names.meaning at.reference.0 name ≡ Outer binding
    → LowersExpression names (Node at word.Id (Then (Said name) End)) s new place)
global_ok (Ok place) at binding s new plain moved placed = λ names name is.
    derived (Node at word.Id (Then (Said name) End)) (Node at word.Id (Then (Said name) End)) s _ new _ place refl moved placed
    (lowered.Global at name binding s is plain)
global_ok (Err e) at binding s new plain moved placed = tt

pub refused_global_ok : (r : Result Place Stop) (at : At) (binding : NonLocalBinding) (s mid new : State) → is_eval binding ≡ true
    → mid ≡ recorded s (refusal row.F2 at.span) → OnOk r (new ≡ with_value mid (values.LoadGlobal binding) (Some at.span))
    → IfOk r (λ place. place ≡ temporary mid (Some at.span))
    → IfOk r (λ place. (names : Names) (name : List ℕ) → names.meaning at.reference.0 name ≡ Outer binding
    → LowersExpression names (Node at word.Id (Then (Said name) End)) s new place)
refused_global_ok (Ok place) at binding s mid new refused noted moved placed = λ names name is.
    derived (Node at word.Id (Then (Said name) End)) (Node at word.Id (Then (Said name) End)) s _ new _ place refl
    (moved ∙ ap (λ (t : State). with_value t (values.LoadGlobal binding) (Some at.span)) noted)
    (placed ∙ ap (λ (t : State). temporary t (Some at.span)) noted) (lowered.RefusedGlobal at name binding s is refused)
refused_global_ok (Err e) at binding s mid new refused noted moved placed = tt

-- The look-up of a variable.

pub is_found : {s mid : State} (names : Names) (said : List ℕ) (symbol : SymbolId) (at : Span) (identifier : ℕ) → IsNamed names s
    → IsVariable names symbol → said ≡ names.name symbol.0 → mid ≡ resolved s said symbol.0 (Some at)
    → identifier_of mid.bindings symbol.0 ≡ Some identifier → (NamesAgree s → NamesAgree mid) → IsFound names s symbol at identifier
is_found {s} {mid} names said symbol at identifier named variable same moved bound agree = record {
  named = named;
  variable = variable;
  bound = ap (λ (t : State). identifier_of t.bindings symbol.0) (sym after) ∙ bound;
  agree = λ agreed. subst NamesAgree after (agree agreed);
}
  where
    after : mid ≡ found names s symbol at
    after = moved ∙ ap (λ (n : List ℕ). resolved s n symbol.0 (Some at)) same

pub found_named : {s mid : State} (names : Names) (symbol : SymbolId) (at : Span) (identifier : ℕ) → IsFound names s symbol at identifier
    → mid ≡ found names s symbol at → IsNamed names mid
found_named {s} {mid} names symbol at identifier f moved =
    subst (IsNamed names) (sym moved) ((names_found s symbol at identifier f).named f.named)

pub resolved_named : {s mid : State} (names : Names) (said : List ℕ) (symbol : SymbolId) (at : Span) (identifier : ℕ) → IsNamed names s
    → IsVariable names symbol → said ≡ names.name symbol.0 → mid ≡ resolved s said symbol.0 (Some at)
    → identifier_of mid.bindings symbol.0 ≡ Some identifier → (NamesAgree s → NamesAgree mid) → IsNamed names mid
resolved_named {s} {mid} names said symbol at identifier named variable same moved bound agree =
    found_named names symbol at identifier (is_found names said symbol at identifier named variable same moved bound agree)
    (moved ∙ ap (λ (n : List ℕ). resolved s n symbol.0 (Some at)) same)

pub variable_ok : {s mid : State} (r : Result Place Stop) (names : Names) (at : At) (symbol : SymbolId) (identifier : ℕ) (new : State)
    → mid ≡ found names s symbol at.span → IsFound names s symbol at.span identifier
    → OnOk r
    (new ≡ with_value mid (values.LoadLocal (record { identifier = record { 0 = identifier }; span = Some at.span })) (Some at.span))
    → IfOk r (λ place. place ≡ temporary mid (Some at.span))
    → IfOk r (λ place. (name : List ℕ) → names.meaning at.reference.0 name ≡ Local symbol
    → LowersExpression names (Node at word.Id (Then (Said name) End)) s new place)
variable_ok {s} {mid} (Ok place) names at symbol identifier new after f ended placed = λ name is.
    let tree : Syntax = Node at word.Id (Then (Said name) End) in
    derived tree tree s _ new _ place refl
    (ended ∙ ap (λ (t : State). with_value t (values.LoadLocal (record { identifier = record { 0 = identifier }; span = Some at.span }))
    (Some at.span)) after)
    (placed ∙ ap (λ (t : State). temporary t (Some at.span)) after)
    (lowered.Variable at name symbol identifier s is f)
variable_ok (Err e) names at symbol identifier new after f ended placed = tt

-- Updates of names.

-- A variable that has an identifier keeps it.
same_identifier : (s : State) (name : List ℕ) (symbol : ℕ) (at : Span) (earlier identifier : ℕ) (known : Option ℕ) → known ≡ Some earlier
    → identifier_of s.bindings symbol ≡ known
    → identifier_of (resolved_by known s name symbol (Some at)).bindings symbol ≡ Some identifier → identifier ≡ earlier
same_identifier s name symbol at earlier identifier (Some other) is before bound =
    let told : Some identifier ≡ Some earlier = sym bound ∙ before ∙ is in cc
same_identifier s name symbol at earlier identifier None is before bound = absurd (cc)

pub updated_variable_ok : {s first mid : State} (r : Result Place Stop) (names : Names) (at there : At) (symbol : SymbolId)
    (earlier identifier : ℕ) (operator : UpdateOperator) (prefix : Bool) (value : InstructionValue) (new : State)
    → first ≡ found names s symbol there.span → IsFound names s symbol there.span earlier → names.is_const symbol.0 ≡ false
    → mid ≡ found names first symbol there.span → IsFound names first symbol there.span identifier
    → value ≡ update_of prefix operator (record { identifier = record { 0 = identifier }; span = Some there.span })
    → OnOk r (new ≡ with_value mid value (Some at.span)) → IfOk r (λ place. place ≡ temporary mid (Some at.span))
    → IfOk r (λ place. (name : List ℕ) → names.meaning there.reference.0 name ≡ Local symbol
    → LowersExpression names
    (Node at word.Update
    (Then (Said (update_text operator)) (Then (Flag prefix) (Then (Node there word.Id (Then (Said name) End)) End)))) s new place)
updated_variable_ok {s} {first} {mid} (Ok place) names at there symbol earlier identifier operator prefix value new begun f varies after g
    same ended placed = λ name is.
    let tree : Syntax = Node at word.Update
    (Then (Said (update_text operator)) (Then (Flag prefix) (Then (Node there word.Id (Then (Said name) End)) End))) in
    let here : mid ≡ found names (found names s symbol there.span) symbol there.span =
    after ∙ ap (λ (t : State). found names t symbol there.span) begun in
    let one : identifier ≡ earlier =
    same_identifier first (names.name symbol.0) symbol.0 there.span earlier identifier (identifier_of first.bindings symbol.0)
    (ap (λ (t : State). identifier_of t.bindings symbol.0) begun ∙ f.bound) refl g.bound in
    derived tree tree s _ new _ place refl
    (ended ∙ ap (λ (v : InstructionValue). with_value mid v (Some at.span)) same
    ∙ ap (λ (t : State). with_value t (update_of prefix operator
    (record { identifier = record { 0 = identifier }; span = Some there.span }))
    (Some at.span)) here)
    (placed ∙ ap (λ (t : State). temporary t (Some at.span)) here)
    (lowered.UpdatedVariable at there name symbol identifier operator prefix s is varies
    (subst (λ (i : ℕ). IsFound names s symbol there.span i) (sym one) f)
    (subst (λ (t : State). IsFound names t symbol there.span identifier) begun g))
updated_variable_ok (Err e) names at there symbol earlier identifier operator prefix value new begun f varies after g same ended placed = tt

pub updated_constant_ok : {s mid noted : State} (r : Result Place Stop) (names : Names) (at there : At) (symbol : SymbolId) (identifier : ℕ)
    (operator prefix : Syntax) (new : State)
    → mid ≡ found names s symbol there.span → IsFound names s symbol there.span identifier → names.is_const symbol.0 ≡ true
    → noted ≡ recorded mid (diagnostic_at row.F6 (names.name symbol.0) there.span)
    → OnOk r (new ≡ with_value noted (values.Primitive primitives.Undefined) (Some at.span))
    → IfOk r (λ place. place ≡ temporary noted (Some at.span))
    → IfOk r (λ place. (name : List ℕ) → names.meaning there.reference.0 name ≡ Local symbol
    → LowersExpression names
    (Node at word.Update (Then operator (Then prefix (Then (Node there word.Id (Then (Said name) End)) End)))) s new place)
updated_constant_ok {s} {mid} {noted} (Ok place) names at there symbol identifier operator prefix new begun f constant after ended placed =
    λ name is.
    let tree : Syntax = Node at word.Update (Then operator (Then prefix (Then (Node there word.Id (Then (Said name) End)) End))) in
    let here : noted ≡ recorded (found names s symbol there.span) (diagnostic_at row.F6 (names.name symbol.0) there.span) =
    after ∙ ap (λ (t : State). recorded t (diagnostic_at row.F6 (names.name symbol.0) there.span)) begun in
    derived tree tree s _ new _ place refl
    (ended ∙ ap (λ (t : State). with_value t (values.Primitive primitives.Undefined) (Some at.span)) here)
    (placed ∙ ap (λ (t : State). temporary t (Some at.span)) here)
    (lowered.UpdatedConstant at there name symbol identifier operator prefix s is constant f)
updated_constant_ok (Err e) names at there symbol identifier operator prefix new begun f constant after ended placed = tt

pub outer_update_ok : {name : List ℕ} (names : Names) (s : State) (result : Result Place Stop) (at there : At) (binding : NonLocalBinding)
    (r : Row) (operator prefix : Syntax) (new : State) → names.meaning there.reference.0 name ≡ Outer binding → r ≡ row_of_update binding
    → OnOk result (new ≡ with_value (recorded s (refusal r at.span)) (values.Primitive primitives.Undefined) (Some at.span))
    → IfOk result (λ place. place ≡ temporary (recorded s (refusal r at.span)) (Some at.span))
    → IfOk result (λ place. LowersExpression names
    (Node at word.Update (Then operator (Then prefix (Then (Node there word.Id (Then (Said name) End)) End)))) s new place)
outer_update_ok {name} names s result at there binding r operator prefix new is same moved placed =
    refused_ok {names = names} {at = at} {r = r} result s new refl
    (subst (IsRefused names word.Update (Then operator (Then prefix (Then (Node there word.Id (Then (Said name) End)) End)))) (sym same)
    (forms.OuterUpdate is)) moved placed

-- The copy of a text of a template, in front of copies.
pub quasi_next : {tree shown : Syntax} {at : At} {raw : List ℕ} (copied : List ℕ) (copy : Option (List ℕ)) {more : Pieces}
    {quasis : List TemplateQuasi}
    → Node at word.Quasi (Then (Said raw) (Then shown End)) ≡ tree → copied ≡ raw → maybe copy (λ t. Said t) ≡ shown → AreQuasis more quasis
    → AreQuasis (Then tree more) (record { raw = copied; cooked = copy } ∷ quasis)
quasi_next {tree} {shown} {at} {raw} copied (Some text) {more} {quasis} is same cooked rest =
    subst (λ (t : Syntax). AreQuasis (Then t more) (record { raw = copied; cooked = Some text } ∷ quasis))
    (ap (λ (r : List ℕ). Node at word.Quasi (Then (Said r) (Then (Said text) End))) same
    ∙ ap (λ (c : Syntax). Node at word.Quasi (Then (Said raw) (Then c End))) cooked ∙ is)
    (forms.NextQuasi {at = at} {raw = copied} {cooked = text} rest)
quasi_next {tree} {shown} {at} {raw} copied None {more} {quasis} is same cooked rest =
    subst (λ (t : Syntax). AreQuasis (Then t more) (record { raw = copied; cooked = None } ∷ quasis))
    (ap (λ (r : List ℕ). Node at word.Quasi (Then (Said r) (Then Absent End))) same
    ∙ ap (λ (c : Syntax). Node at word.Quasi (Then (Said raw) (Then c End))) cooked ∙ is)
    (forms.NextUncooked {at = at} {raw = copied} rest)
