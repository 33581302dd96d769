-- Derivations of the heads of loops over keys and values.
use Rattle.std.proofs.Common.{◌≡◌, ℕ, ◌+◌, ◌≤◌, Bool, true, false, not, List, Some, Result, Ok, Err, OnOk, IfOk}
use Rattle.std.proofs.Common.{refl, ap, sym, ◌∙◌, subst, arith}
use Rattle.rl_base.specs.Diagnostics.{diagnostic_at}
use Rattle.rl_base.specs.declared.diagnostic.Diagnostic.{Diagnostic}
use Rattle.rl_base.specs.declared.ids.SymbolId.{SymbolId}
use Rattle.rl_base.specs.declared.row.Row.{Row}
use Rattle.rl_base.specs.declared.row.Row.TheVariants as row
use Rattle.rl_base.specs.declared.stop.Stop.{Stop}
use Rattle.rl_base.specs.declared.variable_kind.VariableKind.{VariableKind}
use Rattle.rl_base.specs.VariableKinds.{variable_text}
use Rattle.rl_builder.specs.Builder.{State, recorded}
use Rattle.rl_builder.specs.Temporaries.{temporary, with_value}
use Rattle.rl_grammar.specs.Grammar.{fits}
use Rattle.rl_grammar.specs.declared.kind.Field.TheVariants as field
use Rattle.rl_grammar.specs.declared.kind.Kind.TheVariants as sort
use Rattle.rl_hir.specs.declared.instruction.InstructionKind.TheVariants as kinds
use Rattle.rl_hir.specs.declared.instruction.InstructionValue.TheVariants as values
use Rattle.rl_hir.specs.declared.instruction.NonLocalBinding.{NonLocalBinding}
use Rattle.rl_hir.specs.declared.instruction.Place.{Place}
use Rattle.rl_lower_statements.specs.Declarators.{IsDeclared}
use Rattle.rl_lower_statements.specs.Patterns.{HasPatternRoom}
use Rattle.rl_lower_expressions.specs.Members.{LowersMember, key_of}
use Rattle.rl_lower_expressions.specs.declared.member.LoweredMember.{LoweredMember}
use Rattle.rl_lowered.proofs.Redeclared.{size_redeclared}
use Rattle.rl_lowered.proofs.Told.{told_head}
use Rattle.rl_lowered.specs.Forms.{IsAnnotation, store_of}
use Rattle.rl_lowered.specs.Items.{found_again, redeclared}
use Rattle.rl_lowered.specs.Lowered.{LoweredHead, LoweredTarget}
use Rattle.rl_lowered.specs.Lowered as lowered
use Rattle.rl_lowered.specs.Named.{IsFound, found}
use Rattle.rl_lowered.specs.Promised.{HasRoom, LowersHead, LowersPattern, LowersTarget, share}
use Rattle.rl_names.specs.Names.{Names}
use Rattle.rl_names.specs.declared.names.Meaning.TheVariants.{Local, Outer}
use Rattle.rl_promises.specs.Conditions.{is_bare, is_one_bare, is_plain_head}
use Rattle.rl_promises.specs.Lowerable.{AreLowerable, IsLowerable, IsLowerableHead, IsLowerableTo, Where}
use Rattle.rl_promises.specs.Outs.{is_lost_head}
use Rattle.rl_promises.specs.Patterns.{is_pattern, takes_apart}
use Rattle.rl_promises.specs.Rows.{refusal, row_of_head}
use Rattle.rl_runs.specs.Blocks.{size_of}
use Rattle.rl_syntax.specs.declared.numbered.At.{At}
use Rattle.rl_syntax.specs.declared.word.Word.{Word}
use Rattle.rl_syntax.specs.declared.word.Word.TheVariants as word
use Rattle.rl_syntax.specs.Syntax.{Syntax, Node, Listed, Said, Count, Flag, Absent, Pieces, End, Then, nodes, nodes_of}

pub head_derived : {names : Names} {value : Place} (tree e : Syntax) (s t new : State) (p place : Place) → e ≡ tree → new ≡ t → place ≡ p
    → LoweredHead names value e s t p → LowersHead names value tree s new place
head_derived {names} {value} tree e s t new p place is moved placed by =
    told_head
    (subst (λ (n : Syntax). LoweredHead names value n s new place) is
    (subst (λ (n : State). LoweredHead names value e s n place) (sym moved)
    (subst (λ (q : Place). LoweredHead names value e s t q) (sym placed) by)))

-- The lowerable parts of a head.

-- A declaration is not left out.
pub declaration_kept : (tree : Syntax) → fits (field.One sort.VariableDeclaration) tree ≡ true → is_lost_head tree ≡ false
declaration_kept (Node at word.Privatemember parts) fit = absurd (cc)
declaration_kept (Node at word.As parts) fit = absurd (cc)
declaration_kept (Node at word.Satisfies parts) fit = absurd (cc)
declaration_kept (Node at word.Assert parts) fit = absurd (cc)
declaration_kept (Node at word.Nonnull parts) fit = absurd (cc)
declaration_kept _ fit = refl

-- A declaration takes no value apart as a target.
pub declaration_plain : (tree : Syntax) → fits (field.One sort.VariableDeclaration) tree ≡ true → is_pattern tree ≡ false
declaration_plain (Node at word.Arraytarget parts) fit = absurd (cc)
declaration_plain (Node at word.Objecttarget parts) fit = absurd (cc)
declaration_plain _ fit = refl

-- The head of a kind that is not left out, and that takes nothing apart as a target.
pub shown_may : (names : Names) {tree head : Syntax} → tree ≡ head → is_pattern tree ≡ false → is_lost_head tree ≡ false
    → Where (not (is_pattern head)) (Where (not (is_lost_head head)) (IsLowerable names head)) → IsLowerable names head
shown_may names {tree} {head} is plain kept may =
    subst (λ (b : Bool). Where (not b) (IsLowerable names head)) (sym (ap is_lost_head is) ∙ kept)
    (subst (λ (b : Bool). Where (not b) (Where (not (is_lost_head head)) (IsLowerable names head))) (sym (ap is_pattern is) ∙ plain) may)

pub declaration_may : (names : Names) {tree head : Syntax} → fits (field.One sort.VariableDeclaration) tree ≡ true → tree ≡ head
    → IsLowerableHead names head → IsLowerable names tree
declaration_may names {tree} {head} fit is may =
    subst (IsLowerable names) (sym is) (shown_may names is (declaration_plain tree fit) (declaration_kept tree fit) may.lowerable)

pub target_head_may : (names : Names) {tree head : Syntax} → tree ≡ head → IsLowerableHead names head
    → Where (not (is_pattern tree)) (Where (not (is_lost_head tree)) (IsLowerable names tree))
target_head_may names {tree} {head} is may =
    subst (λ (t : Syntax). Where (not (is_pattern t)) (Where (not (is_lost_head t)) (IsLowerable names t))) (sym is) may.lowerable

pub target_head_taken : (names : Names) {tree head : Syntax} → tree ≡ head → IsLowerableHead names head
    → Where (is_pattern tree) (IsLowerableTo names tree)
target_head_taken names is may = subst (λ (t : Syntax). Where (is_pattern t) (IsLowerableTo names t)) (sym is) may.taken

-- A target that takes a value apart.
pub pattern_may : (names : Names) {tree head : Syntax} → tree ≡ head → is_pattern tree ≡ true
    → Where (is_pattern head) (IsLowerableTo names head) → IsLowerableTo names head
pattern_may names {tree} {head} is apart may =
    subst (λ (b : Bool). Where b (IsLowerableTo names head)) (sym (ap is_pattern is) ∙ apart) may

-- The one declarator of a head, which has no initializer.

bare_init : (there : At) (pattern init : Syntax) → is_bare (Node there word.Declarator (Then pattern (Then init End))) ≡ true
    → init ≡ Absent
bare_init there pattern Absent bare = refl
bare_init there pattern (Node at w parts) bare = absurd (cc)
bare_init there pattern (Listed parts) bare = absurd (cc)
bare_init there pattern (Said text) bare = absurd (cc)
bare_init there pattern (Count number) bare = absurd (cc)
bare_init there pattern (Flag flag) bare = absurd (cc)

one_item : (first : Syntax) (rest : Pieces) → is_one_bare (Some (Then first rest)) ≡ true → (rest ≡ End) × (is_bare first ≡ true)
one_item first End plain = (refl, plain)
one_item first (Then second rest) plain = absurd (cc)

pub one_declared : {at there : At} {kind : List ℕ} {declarators rest : Pieces} {tree first pattern init : Syntax}
    → Node at word.Var (Then (Said kind) (Then (Listed declarators) End)) ≡ tree → is_plain_head tree ≡ true
    → declarators ≡ Then first rest → Node there word.Declarator (Then pattern (Then init End)) ≡ first
    → Node at word.Var
    (Then (Said kind) (Then (Listed (Then (Node there word.Declarator (Then pattern (Then Absent End))) End)) End)) ≡ tree
one_declared {at} {there} {kind} {declarators} {rest} {tree} {first} {pattern} {init} is plain split views =
    ap (λ (i : Syntax). Node at word.Var
    (Then (Said kind) (Then (Listed (Then (Node there word.Declarator (Then pattern (Then i End))) End)) End)))
    (sym (bare_init there pattern init (ap is_bare views ∙ one.1)))
    ∙ ap (λ (d : Syntax). Node at word.Var (Then (Said kind) (Then (Listed (Then d End)) End))) views
    ∙ ap (λ (ds : Pieces). Node at word.Var (Then (Said kind) (Then (Listed (Then first ds)) End))) (sym one.0)
    ∙ ap (λ (ds : Pieces). Node at word.Var (Then (Said kind) (Then (Listed ds) End))) (sym split) ∙ is
  where
    one : (rest ≡ End) × (is_bare first ≡ true)
    one = one_item first rest (ap (λ (ds : Pieces). is_one_bare (Some ds)) (sym split) ∙ ap is_plain_head is ∙ plain)

-- A declaration.

pub declared_room : {names : Names} {bind : At} {old mid : State} {identifier : ℕ} (again : State)
    → IsDeclared names bind old mid identifier
    → again ≡ redeclared mid identifier bind.span → HasRoom old 6 → HasRoom again 4
declared_room {bind = bind} {old = old} {mid = mid} {identifier = identifier} again d after room =
    let few : size_of mid ≤ size_of old + 2 = d.size in
    let same : size_of again ≡ size_of mid = ap size_of after ∙ size_redeclared mid identifier bind.span in
    omega (arith, few, same, room)

pub declared_head_ok : {names : Names} {bind : At} {identifier : ℕ} {old mid again : State} (name : List ℕ) (type : Syntax)
    (r : Result Place Stop) (value : Place) (at : At) (new : State) → IsAnnotation type → IsDeclared names bind old mid identifier
    → again ≡ redeclared mid identifier bind.span
    → OnOk r
    (new ≡ with_value again (values.StoreLocal kinds.Let (record { identifier = record { 0 = identifier }; span = Some at.span }) value)
    (Some at.span))
    → IfOk r (λ place. place ≡ temporary again (Some at.span))
    → IfOk r (λ place. (kind : List ℕ) (there : At) → LowersHead names value
    (Node at word.Var
    (Then (Said kind)
    (Then (Listed (Then (Node there word.Declarator (Then (Node bind word.Bind (Then (Said name) (Then type End))) (Then Absent End))) End))
    End))) old new place)
declared_head_ok {names} {bind} {identifier} {old} {mid} {again} name type (Ok place) value at new annotated d after moved placed =
    λ kind there.
    let tree : Syntax = Node at word.Var
    (Then (Said kind)
    (Then (Listed (Then (Node there word.Declarator (Then (Node bind word.Bind (Then (Said name) (Then type End))) (Then Absent End))) End))
    End)) in
    let here : again ≡ found_again names old d.symbol identifier bind.span =
    after ∙ ap (λ (t : State). redeclared t identifier bind.span) d.moved in
    head_derived tree tree old _ new _ place refl
    (moved ∙ ap (λ (t : State). with_value t
    (values.StoreLocal kinds.Let (record { identifier = record { 0 = identifier }; span = Some at.span }) value) (Some at.span)) here)
    (placed ∙ ap (λ (t : State). temporary t (Some at.span)) here)
    (lowered.Declared at there bind kind name type d.symbol identifier old annotated d.declared d.bound)
declared_head_ok name type (Err e) value at new annotated d after moved placed = tt

-- From the views of the declaration, of its declarator and of its name.
pub variables_head_ok : (names : Names) (value : Place) {at there : At} (kind : VariableKind) {declarators rest : Pieces}
    {tree first pattern init bind : Syntax} (r : Result Place Stop) (s new : State)
    → Node at word.Var (Then (Said (variable_text kind)) (Then (Listed declarators) End)) ≡ tree → is_plain_head tree ≡ true
    → declarators ≡ Then first rest → Node there word.Declarator (Then pattern (Then init End)) ≡ first → bind ≡ pattern
    → IfOk r (λ place. (kind : List ℕ) (there : At) → LowersHead names value
    (Node at word.Var (Then (Said kind) (Then (Listed (Then (Node there word.Declarator (Then bind (Then Absent End))) End)) End))) s new
    place)
    → IfOk r (λ place. LowersHead names value tree s new place)
variables_head_ok names value {at} {there} kind {bind = bind} (Ok place) s new is plain split views binds l =
    subst (λ (t : Syntax). LowersHead names value t s new place)
    (ap (λ (b : Syntax). Node at word.Var
    (Then (Said (variable_text kind)) (Then (Listed (Then (Node there word.Declarator (Then b (Then Absent End))) End)) End))) binds
    ∙ one_declared is plain split views) (l (variable_text kind) there)
variables_head_ok names value kind (Err e) s new is plain split views binds l = tt

-- A declaration of a pattern.

pub declared_pattern_may : (names : Names) {at there : At} {kind : List ℕ} {declarators rest : Pieces} {tree first pattern init : Syntax}
    → Node at word.Var (Then (Said kind) (Then (Listed declarators) End)) ≡ tree → declarators ≡ Then first rest
    → Node there word.Declarator (Then pattern (Then init End)) ≡ first → IsLowerable names tree → IsLowerable names pattern
declared_pattern_may names is split views may =
    (subst (IsLowerable names) (sym views)
    (subst (AreLowerable names) split (subst (IsLowerable names) (sym is) may).1.1.0).0).1.0

pub declared_pattern_room : {at there : At} {kind : List ℕ} {declarators rest : Pieces} {tree first pattern init : Syntax} (s : State)
    → Node at word.Var (Then (Said kind) (Then (Listed declarators) End)) ≡ tree → declarators ≡ Then first rest
    → Node there word.Declarator (Then pattern (Then init End)) ≡ first → HasRoom s (share (nodes tree)) → HasPatternRoom s pattern
declared_pattern_room {at} {there} {kind} {declarators} {rest} {tree} {first} {pattern} {init} s is split views room =
    let all : nodes (Node at word.Var (Then (Said kind) (Then (Listed declarators) End))) ≡ nodes tree = ap nodes is in
    let one : nodes_of declarators ≡ nodes first + nodes_of rest = ap nodes_of split in
    let counted : nodes (Node there word.Declarator (Then pattern (Then init End))) ≡ nodes first = ap nodes views in
    omega (arith, all, one, counted, room)

pub declared_pattern_ok : (names : Names) (value : Place) {at there : At} (kind : VariableKind) {declarators rest : Pieces}
    {tree first pattern init : Syntax} (r : Result Place Stop) (s new : State)
    → Node at word.Var (Then (Said (variable_text kind)) (Then (Listed declarators) End)) ≡ tree → is_plain_head tree ≡ true
    → declarators ≡ Then first rest → Node there word.Declarator (Then pattern (Then init End)) ≡ first → takes_apart pattern ≡ true
    → IfOk r (λ place. LowersPattern names true kinds.Let at.span value pattern s new place)
    → IfOk r (λ place. LowersHead names value tree s new place)
declared_pattern_ok names value {at} {there} kind {declarators} {rest} {tree} {first} {pattern} (Ok place) s new is plain split views apart
    l =
    head_derived tree
    (Node at word.Var
    (Then (Said (variable_text kind)) (Then (Listed (Then (Node there word.Declarator (Then pattern (Then Absent End))) End)) End)))
    s new new place place (one_declared is plain split views) refl refl
    (lowered.DeclaredPattern at there (variable_text kind) pattern s new place apart l.by)
declared_pattern_ok names value kind (Err e) s new is plain split views apart l = tt

-- Names.

pub reassigned_ok : {s mid : State} (r : Result Place Stop) (names : Names) (value : Place) (at : At) (symbol : SymbolId) (identifier : ℕ)
    (new : State) → mid ≡ found names s symbol at.span → IsFound names s symbol at.span identifier → names.is_const symbol.0 ≡ false
    → OnOk r
    (new ≡ with_value mid (values.StoreLocal kinds.Reassign (record { identifier = record { 0 = identifier }; span = Some at.span }) value)
    (Some at.span))
    → IfOk r (λ place. place ≡ temporary mid (Some at.span))
    → IfOk r (λ place. (name : List ℕ) → names.meaning at.reference.0 name ≡ Local symbol
    → LowersHead names value (Node at word.Id (Then (Said name) End)) s new place)
reassigned_ok {s} {mid} (Ok place) names value at symbol identifier new begun f varies moved placed = λ name is.
    let tree : Syntax = Node at word.Id (Then (Said name) End) in
    head_derived tree tree s _ new _ place refl
    (moved ∙ ap (λ (t : State). with_value t
    (values.StoreLocal kinds.Reassign (record { identifier = record { 0 = identifier }; span = Some at.span }) value) (Some at.span)) begun)
    (placed ∙ ap (λ (t : State). temporary t (Some at.span)) begun)
    (lowered.Reassigned at name symbol identifier s is varies f)
reassigned_ok (Err e) names value at symbol identifier new begun f varies moved placed = tt

pub constant_told : {s mid : State} (names : Names) (value : Place) (at : At) (symbol : SymbolId) (identifier : ℕ) (said : List ℕ)
    (d : Diagnostic) (new : State) → mid ≡ found names s symbol at.span → IsFound names s symbol at.span identifier
    → names.is_const symbol.0 ≡ true → said ≡ names.name symbol.0 → d ≡ diagnostic_at row.F6 said at.span → new ≡ recorded mid d
    → (name : List ℕ) → names.meaning at.reference.0 name ≡ Local symbol
    → LowersHead names value (Node at word.Id (Then (Said name) End)) s new value
constant_told {s} {mid} names value at symbol identifier said d new begun f constant same says after name is =
    let tree : Syntax = Node at word.Id (Then (Said name) End) in
    head_derived tree tree s _ new _ value refl
    (after ∙ ap (λ (t : State). recorded t d) begun
    ∙ ap (λ (e : Diagnostic). recorded (found names s symbol at.span) e)
    (says ∙ ap (λ (n : List ℕ). diagnostic_at row.F6 n at.span) same)) refl
    (lowered.ReassignedConstant at name symbol identifier s is constant f)

pub stored_global_ok : {name : List ℕ} (names : Names) (s : State) (r : Result Place Stop) (value : Place) (at : At)
    (binding : NonLocalBinding) (copy : List ℕ) (new : State) → names.meaning at.reference.0 name ≡ Outer binding → copy ≡ name
    → OnOk r (new ≡ with_value s (values.StoreGlobal copy value) (Some at.span)) → IfOk r (λ place. place ≡ temporary s (Some at.span))
    → IfOk r (λ place. LowersHead names value (Node at word.Id (Then (Said name) End)) s new place)
stored_global_ok {name} names s (Ok place) value at binding copy new is same moved placed =
    let tree : Syntax = Node at word.Id (Then (Said name) End) in
    head_derived tree tree s _ new _ place refl
    (moved ∙ ap (λ (n : List ℕ). with_value s (values.StoreGlobal n value) (Some at.span)) same) placed
    (lowered.StoredGlobal at name binding s is)
stored_global_ok names s (Err e) value at binding copy new is same moved placed = tt

-- Properties, and targets that are left out.

pub stored_member_ok : {names : Names} {tree : Syntax} {at : At} {w : Word} {fields : Pieces} {s t : State} (value : Place)
    (m : LoweredMember) (r : Result Place Stop) (new : State) → Node at w fields ≡ tree → LowersMember names w fields s t m
    → OnOk r (new ≡ with_value t (store_of m.object (key_of m.property) value) (Some at.span))
    → IfOk r (λ place. place ≡ temporary t (Some at.span))
    → IfOk r (λ place. LowersHead names value tree s new place)
stored_member_ok {names} {tree} {at} {w} {fields} {s} {t} value m (Ok place) new is l moved placed =
    head_derived tree (Node at w fields) s _ new _ place is moved placed
    (lowered.StoredMember at w fields l.parts l.pieces m.object (key_of m.property) s t l.member l.by)
stored_member_ok value m (Err e) new is l moved placed = tt

pub lost_ok : (names : Names) {tree : Syntax} {at : At} {w : Word} {fields : Pieces} (value : Place) (r : Row) (result : Result Place Stop)
    (s new : State) → Node at w fields ≡ tree → is_lost_head (Node at w fields) ≡ true → r ≡ row_of_head w
    → OnOk result (new ≡ recorded s (refusal r at.span)) → IfOk result (λ place. place ≡ value)
    → IfOk result (λ place. LowersHead names value tree s new place)
lost_ok names {tree} {at} {w} {fields} value r (Ok place) s new is lost rows noted placed =
    head_derived tree (Node at w fields) s _ new _ place is
    (noted ∙ ap (λ (x : Row). recorded s (refusal x at.span)) rows) placed (lowered.Lost at w fields s lost)
lost_ok names value r (Err e) s new is lost rows noted placed = tt

-- A target that takes the value apart.
pub pattern_head_ok : (names : Names) {tree : Syntax} {at : At} {w : Word} {fields : Pieces} (value : Place) (r : Result Place Stop)
    (s new : State) → Node at w fields ≡ tree → is_pattern (Node at w fields) ≡ true
    → IfOk r (λ place. LowersTarget names at.span value tree s new place)
    → IfOk r (λ place. LowersHead names value tree s new place)
pattern_head_ok names {tree} {at} {w} {fields} value (Ok place) s new is apart l =
    head_derived tree (Node at w fields) s new new place place is refl refl
    (lowered.StoredPattern at w fields s new place apart
    (subst (λ (e : Syntax). LoweredTarget names at.span value e s new place) (sym is) l.by))
pattern_head_ok names value (Err e) s new is apart l = tt
