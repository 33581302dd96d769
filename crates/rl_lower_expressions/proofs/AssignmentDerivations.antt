-- Derivations of assignments, from the moves of their lowering.
use Rattle.std.proofs.Common.{◌≡◌, ℕ, true, false, List, Some, None, Result, Ok, Err, OnOk, IfOk, refl, ap, sym, ◌∙◌, subst}
use Rattle.std.specs.Prelude.{codes}
use Rattle.rl_base.specs.Diagnostics.{diagnostic_at}
use Rattle.rl_base.specs.Operators.{assignment_text}
use Rattle.rl_base.specs.declared.ids.SymbolId.{SymbolId}
use Rattle.rl_base.specs.declared.operator.AssignmentOperator.{AssignmentOperator}
use Rattle.rl_base.specs.declared.operator.AssignmentOperator.TheVariants as assignments
use Rattle.rl_base.specs.declared.operator.BinaryOperator.{BinaryOperator}
use Rattle.rl_base.specs.declared.row.Row.TheVariants as row
use Rattle.rl_base.specs.declared.stop.Stop.{Stop}
use Rattle.rl_builder.specs.Builder.{State, recorded}
use Rattle.rl_builder.specs.Temporaries.{temporary, with_value}
use Rattle.rl_hir.specs.declared.instruction.InstructionValue.{InstructionValue}
use Rattle.rl_hir.specs.declared.instruction.InstructionValue.TheVariants as values
use Rattle.rl_hir.specs.declared.instruction.NonLocalBinding.{NonLocalBinding}
use Rattle.rl_hir.specs.declared.instruction.Place.{Place}
use Rattle.rl_hir.specs.declared.instruction.PrimitiveValue.TheVariants as primitives
use Rattle.rl_lower_expressions.specs.declared.member.LoweredMember.{LoweredMember}
use Rattle.rl_lowered.specs.Forms.{IsRefused, applied_by, load_of, store_of}
use Rattle.rl_lowered.specs.Forms as forms
use Rattle.rl_lowered.specs.Items.{variable_at}
use Rattle.rl_lowered.specs.Lowered.{Lowered, assigned_to, name_computed, name_found, name_stored}
use Rattle.rl_lowered.specs.Lowered as lowered
use Rattle.rl_lowered.specs.Named.{IsFound, found}
use Rattle.rl_lowered.specs.Promised.{LowersExpression}
use Rattle.rl_model.specs.Shapes.{is_logical}
use Rattle.rl_names.specs.Names.{Names}
use Rattle.rl_names.specs.declared.names.Meaning.TheVariants.{Local, Outer}
use Rattle.rl_promises.specs.Rows.{refusal}
use Rattle.rl_syntax.specs.declared.numbered.At.{At}
use Rattle.rl_syntax.specs.declared.word.Word.{Word}
use Rattle.rl_syntax.specs.declared.word.Word.TheVariants as word
use Rattle.rl_syntax.specs.Syntax.{Syntax, Node, Said, Flag, Pieces, End, Then}
use Rattle.rl_lower_parts.proofs.Derivations.{derived}
use Rattle.rl_lower_expressions.specs.Members.{LowersMember, key_of}

-- A name.
abbrev pub name_at : (there : At) → (name : List ℕ) → Syntax
name_at there name = Node there word.Id (Then (Said name) End)

-- A property of a private name.
abbrev pub private_at : (there : At) → (object : Syntax) → (name : List ℕ) → Syntax
private_at there object name = Node there word.Privatemember (Then (Flag false) (Then object (Then (Said name) End)))

-- An assignment by `=`.
abbrev pub assignment : (at : At) → (target right : Syntax) → Syntax
assignment at target right = Node at word.Assign (Then (Said (codes "=")) (Then target (Then right End)))

-- An assignment by an operator.
abbrev pub compound : (at : At) → AssignmentOperator → (target right : Syntax) → Syntax
compound at operator target right = Node at word.Assign (Then (Said (assignment_text operator)) (Then target (Then right End)))

-- Stores by `=`.

pub assigned_variable_ok : {t mid : State} (r : Result Place Stop) (names : Names) (there : At) (symbol : SymbolId) (identifier : ℕ)
    (p : Place) (store : InstructionValue) (new : State)
    → mid ≡ found names t symbol there.span → IsFound names t symbol there.span identifier → names.is_const symbol.0 ≡ false
    → store ≡ assigned_to identifier there.span p → OnOk r (new ≡ with_value mid store (Some there.span))
    → IfOk r (λ place. place ≡ temporary mid (Some there.span))
    → IfOk r (λ place. (at : At) (name : List ℕ) (right : Syntax) (s : State) → names.meaning there.reference.0 name ≡ Local symbol
    → LowersExpression names right s t p → LowersExpression names (assignment at (name_at there name) right) s new place)
assigned_variable_ok {t} {mid} (Ok place) names there symbol identifier p store new begun f varies same ended placed =
    λ at name right s is l.
    let tree : Syntax = assignment at (name_at there name) right in
    derived tree tree s _ new _ place refl
    (ended ∙ ap (λ (v : InstructionValue). with_value mid v (Some there.span)) same
    ∙ ap (λ (o : State). with_value o (assigned_to identifier there.span p) (Some there.span)) begun)
    (placed ∙ ap (λ (o : State). temporary o (Some there.span)) begun)
    (lowered.AssignedVariable at there name right symbol identifier s t p is varies l.by f)
assigned_variable_ok (Err e) names there symbol identifier p store new begun f varies same ended placed = tt

pub assigned_constant_ok : {t mid noted : State} (r : Result Place Stop) (names : Names) (there : At) (symbol : SymbolId)
    (identifier : ℕ) (p : Place) (new : State)
    → mid ≡ found names t symbol there.span → IsFound names t symbol there.span identifier → names.is_const symbol.0 ≡ true
    → noted ≡ recorded mid (diagnostic_at row.F6 (names.name symbol.0) there.span)
    → OnOk r (new ≡ with_value noted (values.Primitive primitives.Undefined) (Some there.span))
    → IfOk r (λ place. place ≡ temporary noted (Some there.span))
    → IfOk r (λ place. (at : At) (name : List ℕ) (right : Syntax) (s : State) → names.meaning there.reference.0 name ≡ Local symbol
    → LowersExpression names right s t p → LowersExpression names (assignment at (name_at there name) right) s new place)
assigned_constant_ok {t} {mid} {noted} (Ok place) names there symbol identifier p new begun f constant after ended placed =
    λ at name right s is l.
    let tree : Syntax = assignment at (name_at there name) right in
    let here : noted ≡ recorded (found names t symbol there.span) (diagnostic_at row.F6 (names.name symbol.0) there.span) =
    after ∙ ap (λ (o : State). recorded o (diagnostic_at row.F6 (names.name symbol.0) there.span)) begun in
    derived tree tree s _ new _ place refl
    (ended ∙ ap (λ (o : State). with_value o (values.Primitive primitives.Undefined) (Some there.span)) here)
    (placed ∙ ap (λ (o : State). temporary o (Some there.span)) here)
    (lowered.AssignedConstant at there name right symbol identifier s t p is constant l.by f)
assigned_constant_ok (Err e) names there symbol identifier p new begun f constant after ended placed = tt

-- A name of a local variable.
pub assigned_local_ok : (t new : State) (p : Place) (r : Result Place Stop) (names : Names) (there : At) (name : List ℕ)
    (symbol : SymbolId) → names.meaning there.reference.0 name ≡ Local symbol
    → IfOk r (λ place. (at : At) (name : List ℕ) (right : Syntax) (s : State) → names.meaning there.reference.0 name ≡ Local symbol
    → LowersExpression names right s t p → LowersExpression names (assignment at (name_at there name) right) s new place)
    → IfOk r (λ place. (at : At) (right : Syntax) (s : State) → LowersExpression names right s t p
    → LowersExpression names (assignment at (name_at there name) right) s new place)
assigned_local_ok t new p (Ok place) names there name symbol is l = λ at right s m. l at name right s is m
assigned_local_ok t new p (Err e) names there name symbol is l = tt

pub assigned_global_ok : {name : List ℕ} (names : Names) (t : State) (r : Result Place Stop) (there : At) (binding : NonLocalBinding)
    (copy : List ℕ) (p : Place) (new : State) → names.meaning there.reference.0 name ≡ Outer binding → copy ≡ name
    → OnOk r (new ≡ with_value t (values.StoreGlobal copy p) (Some there.span)) → IfOk r (λ place. place ≡ temporary t (Some there.span))
    → IfOk r (λ place. (at : At) (right : Syntax) (s : State) → LowersExpression names right s t p
    → LowersExpression names (assignment at (name_at there name) right) s new place)
assigned_global_ok {name} names t (Ok place) there binding copy p new is same moved placed = λ at right s l.
    let tree : Syntax = assignment at (name_at there name) right in
    derived tree tree s _ new _ place refl
    (moved ∙ ap (λ (n : List ℕ). with_value t (values.StoreGlobal n p) (Some there.span)) same) placed
    (lowered.AssignedGlobal at there name right binding s t p is l.by)
assigned_global_ok names t (Err e) there binding copy p new is same moved placed = tt

-- The target that is a name.
pub assigned_name_ok : {shown target right : Syntax} {s t : State} {p : Place} (names : Names) (at : At) (new : State)
    (r : Result Place Stop) → shown ≡ target → LowersExpression names right s t p
    → IfOk r (λ place. (at : At) (right : Syntax) (s : State) → LowersExpression names right s t p
    → LowersExpression names (assignment at shown right) s new place)
    → IfOk r (λ place. LowersExpression names (assignment at target right) s new place)
assigned_name_ok {shown} {target} {right} {s} {t} {p} names at new (Ok place) is l stores =
    subst (λ (n : Syntax). LowersExpression names (assignment at n right) s new place) is (stores at right s l)
assigned_name_ok names at new (Err e) is l stores = tt

-- A property.
pub assigned_member_ok : {names : Names} {target right : Syntax} {there : At} {w : Word} {fields : Pieces} {s t u : State} {p : Place}
    (at : At) (m : LoweredMember) (r : Result Place Stop) (new : State) → Node there w fields ≡ target
    → LowersExpression names right s t p → LowersMember names w fields t u m
    → OnOk r (new ≡ with_value u (store_of m.object (key_of m.property) p) (Some there.span))
    → IfOk r (λ place. place ≡ temporary u (Some there.span))
    → IfOk r (λ place. LowersExpression names (assignment at target right) s new place)
assigned_member_ok {names} {target} {right} {there} {w} {fields} {s} {t} {u} {p} at m (Ok place) new is l parts moved placed =
    derived (assignment at target right) (assignment at (Node there w fields) right) s _ new _ place
    (ap (λ (n : Syntax). assignment at n right) is) moved placed
    (lowered.AssignedMember at there w fields parts.parts parts.pieces m.object (key_of m.property) right s t u p parts.member l.by
    parts.by)
assigned_member_ok at m (Err e) new is l parts moved placed = tt

-- A property of a private name.
pub assigned_private_ok : {names : Names} {target right object : Syntax} {there : At} {name : List ℕ} {s t u : State} {p q : Place}
    (at : At) (r : Result Place Stop) (new : State)
    → Node there word.Privatemember (Then (Flag false) (Then object (Then (Said name) End))) ≡ target
    → LowersExpression names right s t p → LowersExpression names object t u q
    → OnOk r (new ≡ with_value (recorded u (refusal row.F5 at.span)) (values.Primitive primitives.Undefined) (Some at.span))
    → IfOk r (λ place. place ≡ temporary (recorded u (refusal row.F5 at.span)) (Some at.span))
    → IfOk r (λ place. LowersExpression names (assignment at target right) s new place)
assigned_private_ok {names} {target} {right} {object} {there} {name} {s} {t} {u} {p} {q} at (Ok place) new is l m moved placed =
    derived (assignment at target right)
    (assignment at (Node there word.Privatemember (Then (Flag false) (Then object (Then (Said name) End)))) right) s _ new _ place
    (ap (λ (n : Syntax). assignment at n right) is) moved placed
    (lowered.AssignedPrivate at there object name right s t u p q l.by m.by)
assigned_private_ok at (Err e) new is l m moved placed = tt

-- Stores by an operator.

pub compound_variable_ok : {computed mid stored : State} {updated : Place} {store : InstructionValue} (u : State)
    (r : Result Place Stop) (names : Names) (at there : At) (symbol : SymbolId) (identifier : ℕ) (applied : BinaryOperator) (q p : Place)
    (new : State)
    → names.is_const symbol.0 ≡ false → computed ≡ name_computed u applied q p at.span → updated ≡ temporary u (Some at.span)
    → mid ≡ found names computed symbol there.span → IsFound names computed symbol there.span identifier
    → store ≡ assigned_to identifier there.span updated → stored ≡ with_value mid store (Some at.span)
    → OnOk r (new ≡ with_value stored (values.LoadLocal (variable_at identifier there.span)) (Some at.span))
    → IfOk r (λ place. place ≡ temporary stored (Some at.span))
    → IfOk r (λ place. (name : List ℕ) (operator : AssignmentOperator) (e : Syntax) (s t : State)
    → names.meaning there.reference.0 name ≡ Local symbol → applied_by operator ≡ Some applied
    → LowersExpression names (name_at there name) s t q → LowersExpression names e t u p
    → LowersExpression names (compound at operator (name_at there name) e) s new place)
compound_variable_ok {computed} {mid} {stored} {updated} {store} u (Ok place) names at there symbol identifier applied q p new varies
    began at_place after f same kept ended placed = λ name operator e s t is applies l m.
    let tree : Syntax = compound at operator (name_at there name) e in
    let here : mid ≡ name_found names u applied q p at.span there.span symbol =
    after ∙ ap (λ (o : State). found names o symbol there.span) began in
    let whole : stored ≡ name_stored names u applied q p at.span there.span symbol identifier =
    kept
    ∙ ap (λ (v : InstructionValue). with_value mid v (Some at.span))
    (same ∙ ap (λ (x : Place). assigned_to identifier there.span x) at_place)
    ∙ ap (λ (o : State). with_value o (assigned_to identifier there.span (temporary u (Some at.span))) (Some at.span)) here in
    derived tree tree s _ new _ place refl
    (ended ∙ ap (λ (o : State). with_value o (values.LoadLocal (variable_at identifier there.span)) (Some at.span)) whole)
    (placed ∙ ap (λ (o : State). temporary o (Some at.span)) whole)
    (lowered.CompoundVariable at there name operator applied e symbol identifier s t u q p is varies applies l.by m.by
    (subst (λ (o : State). IsFound names o symbol there.span identifier) began f))
compound_variable_ok u (Err e) names at there symbol identifier applied q p new varies began at_place after f same kept ended placed = tt

pub compound_constant_ok : {u mid noted : State} (r : Result Place Stop) (names : Names) (at there : At) (symbol : SymbolId)
    (identifier : ℕ) (applied : BinaryOperator) (q p : Place) (new : State)
    → mid ≡ found names u symbol there.span → IsFound names u symbol there.span identifier → names.is_const symbol.0 ≡ true
    → noted ≡ recorded mid (diagnostic_at row.F6 (names.name symbol.0) there.span)
    → OnOk r (new ≡ with_value noted (values.Primitive primitives.Undefined) (Some at.span))
    → IfOk r (λ place. place ≡ temporary noted (Some at.span))
    → IfOk r (λ place. (name : List ℕ) (operator : AssignmentOperator) (e : Syntax) (s t : State)
    → names.meaning there.reference.0 name ≡ Local symbol → applied_by operator ≡ Some applied
    → LowersExpression names (name_at there name) s t q → LowersExpression names e t u p
    → LowersExpression names (compound at operator (name_at there name) e) s new place)
compound_constant_ok {u} {mid} {noted} (Ok place) names at there symbol identifier applied q p new begun f constant after ended placed =
    λ name operator e s t is applies l m.
    let tree : Syntax = compound at operator (name_at there name) e in
    let here : noted ≡ recorded (found names u symbol there.span) (diagnostic_at row.F6 (names.name symbol.0) there.span) =
    after ∙ ap (λ (o : State). recorded o (diagnostic_at row.F6 (names.name symbol.0) there.span)) begun in
    derived tree tree s _ new _ place refl
    (ended ∙ ap (λ (o : State). with_value o (values.Primitive primitives.Undefined) (Some at.span)) here)
    (placed ∙ ap (λ (o : State). temporary o (Some at.span)) here)
    (lowered.CompoundConstant at there name operator applied e symbol identifier s t u q p is constant applies l.by m.by f)
compound_constant_ok (Err e) names at there symbol identifier applied q p new begun f constant after ended placed = tt

-- A name of a local variable.
pub compound_local_ok : (u new : State) (q p : Place) (r : Result Place Stop) (names : Names) (at there : At) (name : List ℕ)
    (symbol : SymbolId) (applied : BinaryOperator) → names.meaning there.reference.0 name ≡ Local symbol
    → IfOk r (λ place. (name : List ℕ) (operator : AssignmentOperator) (e : Syntax) (s t : State)
    → names.meaning there.reference.0 name ≡ Local symbol → applied_by operator ≡ Some applied
    → LowersExpression names (name_at there name) s t q → LowersExpression names e t u p
    → LowersExpression names (compound at operator (name_at there name) e) s new place)
    → IfOk r (λ place. (operator : AssignmentOperator) (e : Syntax) (s t : State) → applied_by operator ≡ Some applied
    → LowersExpression names (name_at there name) s t q → LowersExpression names e t u p
    → LowersExpression names (compound at operator (name_at there name) e) s new place)
compound_local_ok u new q p (Ok place) names at there name symbol applied is l = λ operator e s t applies m n.
    l name operator e s t is applies m n
compound_local_ok u new q p (Err e) names at there name symbol applied is l = tt

pub compound_global_ok : {name : List ℕ} {computed : State} {value : Place} (names : Names) (u : State) (r : Result Place Stop)
    (at there : At)
    (binding : NonLocalBinding) (copy : List ℕ) (applied : BinaryOperator) (q p : Place) (new : State)
    → names.meaning there.reference.0 name ≡ Outer binding → computed ≡ name_computed u applied q p at.span
    → value ≡ temporary u (Some at.span) → copy ≡ name
    → OnOk r (new ≡ with_value computed (values.StoreGlobal copy value) (Some at.span))
    → IfOk r (λ place. place ≡ temporary computed (Some at.span))
    → IfOk r (λ place. (operator : AssignmentOperator) (e : Syntax) (s t : State) → applied_by operator ≡ Some applied
    → LowersExpression names (name_at there name) s t q → LowersExpression names e t u p
    → LowersExpression names (compound at operator (name_at there name) e) s new place)
compound_global_ok {name} {computed} {value} names u (Ok place) at there binding copy applied q p new is began at_place same moved
    placed = λ operator e s t applies l m.
    let tree : Syntax = compound at operator (name_at there name) e in
    derived tree tree s _ new _ place refl
    (moved
    ∙ ap (λ (n : List ℕ). with_value computed (values.StoreGlobal n value) (Some at.span)) same
    ∙ ap (λ (x : Place). with_value computed (values.StoreGlobal name x) (Some at.span)) at_place
    ∙ ap (λ (o : State). with_value o (values.StoreGlobal name (temporary u (Some at.span))) (Some at.span)) began)
    (placed ∙ ap (λ (o : State). temporary o (Some at.span)) began)
    (lowered.CompoundGlobal at there name operator applied e binding s t u q p is applies l.by m.by)
compound_global_ok names u (Err e) at there binding copy applied q p new is began at_place same moved placed = tt

-- The target that is a name.
pub compound_name_ok : {shown target right : Syntax} {s t u : State} {q p : Place} (names : Names) (at : At) (applied : BinaryOperator)
    (new : State) (r : Result Place Stop) → shown ≡ target → LowersExpression names shown s t q → LowersExpression names right t u p
    → IfOk r (λ place. (operator : AssignmentOperator) (e : Syntax) (s t : State) → applied_by operator ≡ Some applied
    → LowersExpression names shown s t q → LowersExpression names e t u p
    → LowersExpression names (compound at operator shown e) s new place)
    → IfOk r (λ place. (operator : AssignmentOperator) → applied_by operator ≡ Some applied
    → LowersExpression names (compound at operator target right) s new place)
compound_name_ok {shown} {target} {right} {s} {t} {u} names at applied new (Ok place) is l m updates = λ operator applies.
    subst (λ (n : Syntax). LowersExpression names (compound at operator n right) s new place) is (updates operator right s t applies l m)
compound_name_ok names at applied new (Err e) is l m updates = tt

pub compound_shown : {shown target : Syntax} (names : Names) (at : At) (applied : BinaryOperator) (right : Syntax) (s new : State)
    (r : Result Place Stop) → shown ≡ target
    → IfOk r (λ place. (operator : AssignmentOperator) → applied_by operator ≡ Some applied
    → LowersExpression names (compound at operator shown right) s new place)
    → IfOk r (λ place. (operator : AssignmentOperator) → applied_by operator ≡ Some applied
    → LowersExpression names (compound at operator target right) s new place)
compound_shown names at applied right s new (Ok place) is l = λ operator applies.
    subst (λ (n : Syntax). LowersExpression names (compound at operator n right) s new place) is (l operator applies)
compound_shown names at applied right s new (Err e) is l = tt

-- A property, whose old value is loaded before the right part is lowered.
pub compound_member_ok : {names : Names} {right : Syntax} {load : InstructionValue} {loaded u computed : State} {old p updated : Place}
    (t : State) (there : At) (applied : BinaryOperator) (m : LoweredMember) (r : Result Place Stop) (new : State)
    → load ≡ load_of m.object (key_of m.property) → loaded ≡ with_value t load (Some there.span) → old ≡ temporary t (Some there.span)
    → LowersExpression names right loaded u p → computed ≡ with_value u (values.BinaryExpression applied old p) (Some there.span)
    → updated ≡ temporary u (Some there.span)
    → OnOk r (new ≡ with_value computed (store_of m.object (key_of m.property) updated) (Some there.span))
    → IfOk r (λ place. place ≡ temporary computed (Some there.span))
    → IfOk r (λ place. (at : At) (operator : AssignmentOperator) (w : Word) (fields : Pieces) (s : State)
    → applied_by operator ≡ Some applied → LowersMember names w fields s t m
    → LowersExpression names (compound at operator (Node there w fields) right) s new place)
compound_member_ok {names} {right} {load} {loaded} {u} {computed} {old} {p} {updated} t there applied m (Ok place) new same begun at_old
    l began at_place moved placed = λ at operator w fields s applies parts.
    let object : Place = m.object in
    let tree : Syntax = compound at operator (Node there w fields) right in
    let here : computed ≡ lowered.member_computed t u applied p there.span =
    began ∙ ap (λ (x : Place). with_value u (values.BinaryExpression applied x p) (Some there.span)) at_old in
    derived tree tree s _ new _ place refl
    (moved
    ∙ ap (λ (x : Place). with_value computed (store_of object (key_of m.property) x) (Some there.span)) at_place
    ∙ ap (λ (o : State). with_value o (store_of object (key_of m.property) (temporary u (Some there.span))) (Some there.span)) here)
    (placed ∙ ap (λ (o : State). temporary o (Some there.span)) here)
    (lowered.CompoundMember at there w fields parts.parts parts.pieces object (key_of m.property) operator applied right s t u p
    parts.member applies parts.by
    (subst (λ (o : State). Lowered names right o u p)
    (begun ∙ ap (λ (v : InstructionValue). with_value t v (Some there.span)) same) l.by))
compound_member_ok t there applied m (Err e) new same begun at_old l began at_place moved placed = tt

-- The target that is a property.
pub compound_target_ok : {names : Names} {target : Syntax} {there : At} {w : Word} {fields : Pieces} {s t : State} (at : At)
    (right : Syntax) (applied : BinaryOperator) (m : LoweredMember) (new : State) (r : Result Place Stop) → Node there w fields ≡ target
    → LowersMember names w fields s t m
    → IfOk r (λ place. (at : At) (operator : AssignmentOperator) (w : Word) (fields : Pieces) (s : State)
    → applied_by operator ≡ Some applied → LowersMember names w fields s t m
    → LowersExpression names (compound at operator (Node there w fields) right) s new place)
    → IfOk r (λ place. (operator : AssignmentOperator) → applied_by operator ≡ Some applied
    → LowersExpression names (compound at operator target right) s new place)
compound_target_ok {names} {target} {there} {w} {fields} {s} {t} at right applied m new (Ok place) is parts updates =
    λ operator applies.
    subst (λ (n : Syntax). LowersExpression names (compound at operator n right) s new place) is
    (updates at operator w fields s applies parts)
compound_target_ok at right applied m new (Err e) is parts updates = tt

-- A property of a private name.
pub compound_private_ok : {names : Names} {right object : Syntax} {s t u : State} {q p : Place} (at there : At) (r : Result Place Stop)
    (new : State) → ((name : List ℕ) → LowersExpression names (private_at there object name) s t q) → LowersExpression names right t u p
    → OnOk r (new ≡ with_value u (values.Primitive primitives.Undefined) (Some at.span))
    → IfOk r (λ place. place ≡ temporary u (Some at.span))
    → IfOk r (λ place. (name : List ℕ) (operator : AssignmentOperator) (applied : BinaryOperator) → applied_by operator ≡ Some applied
    → LowersExpression names (compound at operator (private_at there object name) right) s new place)
compound_private_ok {names} {right} {object} {s} {t} {u} {q} {p} at there (Ok place) new l m moved placed = λ name operator applied applies.
    let tree : Syntax = compound at operator (private_at there object name) right in
    derived tree tree s _ new _ place refl moved placed
    (lowered.CompoundPrivate at there (Then (Flag false) (Then object (Then (Said name) End))) operator applied right s t u q p applies
    (l name).by m.by)
compound_private_ok at there (Err e) new l m moved placed = tt

pub compound_private_told : {target object : Syntax} (names : Names) (at there : At) (name : List ℕ) (applied : BinaryOperator)
    (right : Syntax) (s new : State) (r : Result Place Stop) → private_at there object name ≡ target
    → IfOk r (λ place. (name : List ℕ) (operator : AssignmentOperator) (applied : BinaryOperator) → applied_by operator ≡ Some applied
    → LowersExpression names (compound at operator (private_at there object name) right) s new place)
    → IfOk r (λ place. (operator : AssignmentOperator) → applied_by operator ≡ Some applied
    → LowersExpression names (compound at operator target right) s new place)
compound_private_told names at there name applied right s new (Ok place) is l = λ operator applies.
    subst (λ (n : Syntax). LowersExpression names (compound at operator n right) s new place) is (l name operator applied applies)
compound_private_told names at there name applied right s new (Err e) is l = tt

-- Operators.

-- An operator other than `=` that applies none is.
pub logical_operator : (operator : AssignmentOperator) → (operator ≡ assignments.Assign → ⊥) → None ≡ applied_by operator
    → is_logical (assignment_text operator) ≡ true
logical_operator assignments.LogicalOr other none = refl
logical_operator assignments.LogicalAnd other none = refl
logical_operator assignments.LogicalNullish other none = refl
logical_operator assignments.Assign other none = absurd (other refl)
logical_operator assignments.Addition other none = absurd (cc)
logical_operator assignments.Subtraction other none = absurd (cc)
logical_operator assignments.Multiplication other none = absurd (cc)
logical_operator assignments.Division other none = absurd (cc)
logical_operator assignments.Remainder other none = absurd (cc)
logical_operator assignments.Exponential other none = absurd (cc)
logical_operator assignments.ShiftLeft other none = absurd (cc)
logical_operator assignments.ShiftRight other none = absurd (cc)
logical_operator assignments.ShiftRightZeroFill other none = absurd (cc)
logical_operator assignments.BitwiseOR other none = absurd (cc)
logical_operator assignments.BitwiseXOR other none = absurd (cc)
logical_operator assignments.BitwiseAnd other none = absurd (cc)

-- The assignment by an operator that is `=`.
pub assignment_told : (names : Names) (at : At) (operator : AssignmentOperator) (target right : Syntax) (s new : State)
    (r : Result Place Stop) → operator ≡ assignments.Assign
    → IfOk r (λ place. LowersExpression names (assignment at target right) s new place)
    → IfOk r (λ place. LowersExpression names (compound at operator target right) s new place)
assignment_told names at operator target right s new (Ok place) is l =
    subst (λ (o : AssignmentOperator). LowersExpression names (compound at o target right) s new place) (sym is) l
assignment_told names at operator target right s new (Err e) is l = tt

-- The assignment by an operator that applies another.
pub compound_told : (names : Names) (at : At) (operator : AssignmentOperator) (applied : BinaryOperator) (target right : Syntax)
    (s new : State) (r : Result Place Stop) → applied_by operator ≡ Some applied
    → IfOk r (λ place. (operator : AssignmentOperator) → applied_by operator ≡ Some applied
    → LowersExpression names (compound at operator target right) s new place)
    → IfOk r (λ place. LowersExpression names (compound at operator target right) s new place)
compound_told names at operator applied target right s new (Ok place) is l = l operator is
compound_told names at operator applied target right s new (Err e) is l = tt

-- The assignment by a logical operator.
pub logical_refused : {names : Names} (operator : AssignmentOperator) {target right : Syntax}
    → is_logical (assignment_text operator) ≡ true
    → IsRefused names word.Assign (Then (Said (assignment_text operator)) (Then target (Then right End))) row.F23
logical_refused operator is = forms.LogicalAssignment is
