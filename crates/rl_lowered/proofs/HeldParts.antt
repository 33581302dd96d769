-- The counted nodes of what is lowered, from those of its parts.
use Rattle.std.proofs.Common.{◌≡◌, ℕ, ◌++◌, ◌&&◌, if◌then◌else◌, Bool, true, false, List, [], ◌∷◌, Option, Some, None, codes, refl, ap, ◌∙◌}
use Rattle.std.proofs.Common.{sym}
use Rattle.std.proofs.Common.{append-nil}
use Rattle.std.specs.List.{list_any}
use Rattle.std.specs.Str.{bytes_eq}
use Rattle.rl_base.proofs.Bools.{and_true}
use Rattle.rl_hir.specs.declared.instruction.InstructionValue.TheVariants as values
use Rattle.rl_hir.specs.declared.instruction.PlaceOrSpread.{PlaceOrSpread}
use Rattle.rl_hir.specs.declared.instruction.PrimitiveValue.{PrimitiveValue}
use Rattle.rl_hir.specs.declared.instruction.TemplateQuasi.{TemplateQuasi}
use Rattle.rl_hir.specs.Written.{value_word}
use Rattle.rl_lowered.proofs.Common.{At, BlockId, End, InstructionValue, Names, Node, Piece, Pieces, Place, Said, Span, State, Syntax, Then}
use Rattle.rl_lowered.proofs.Keys.{HasText, Name, has_text}
use Rattle.rl_lowered.specs.Forms.{AreQuasis, Front, IsAnnotation, IsCast, IsForm, IsInside, IsLinkKey, IsLiteral, IsMember, IsWrapper}
use Rattle.rl_lowered.specs.Forms.{MemberKey, call_of, handed_on, is_property}
use Rattle.rl_lowered.specs.Forms as forms
use Rattle.rl_lowered.specs.Lowered.{LoweredFront}
use Rattle.rl_lowered.specs.Lowered as lowered
use Rattle.rl_lowered.specs.Promised.{counted_word}
use Rattle.rl_model.specs.Shapes.{key_text}
use Rattle.rl_model.specs.Worlds.{is_reassign}
use Rattle.rl_promises.proofs.Unheld.{names_unheld, type_unheld}
use Rattle.rl_promises.specs.Held.{is_of}
use Rattle.rl_promises.specs.Live.{Held, held_among, held_as, held_in}
use Rattle.rl_promises.specs.Tallies.{Awaits, Calls, Constructions, IsHeldKind, Stores, call_word, held_span, held_word, is_among}
use Rattle.rl_promises.specs.Tallies.{store_word, stores_at}
use Rattle.rl_syntax.specs.declared.word.Word.{Word}
use Rattle.rl_syntax.specs.declared.word.Word.TheVariants as word
use Rattle.rl_syntax.specs.Syntax.{Absent, Flag, Listed}

-- True of a value whose instruction is counted.
abbrev pub is_held : InstructionValue → Bool
is_held (values.CallExpression callee given) = true
is_held (values.MethodCall call) = true
is_held (values.NewExpression callee given) = true
is_held (values.Await value) = true
is_held (values.StoreLocal kind place value) = is_reassign kind
is_held (values.StoreContext kind place value) = is_reassign kind
is_held (values.StoreGlobal name value) = true
is_held _ = false

-- The instruction of a kind is counted as its node is, or neither is.
pub data IsHeldAs (word : Option (List ℕ)) (v : InstructionValue) : Type 0 where
  Unheld : word ≡ None → is_held v ≡ false → IsHeldAs word v
  HeldBy : (text : List ℕ) → word ≡ Some text → counted_word v ≡ Some text → IsHeldAs word v

-- Values are of counted kinds where the words are by which they are counted.

and_false : (b : Bool) → b && false ≡ false
and_false true = refl
and_false false = refl

-- The three words of stores are of the same kinds.
stores_alike : {kinds : List (List ℕ)} → IsHeldKind kinds
    → (list_any (bytes_eq (codes "storecontext")) kinds ≡ list_any (bytes_eq (codes "storelocal")) kinds)
    × (list_any (bytes_eq (codes "storeglobal")) kinds ≡ list_any (bytes_eq (codes "storelocal")) kinds)
stores_alike Calls = (refl, refl)
stores_alike Constructions = (refl, refl)
stores_alike Awaits = (refl, refl)
stores_alike Stores = (refl, refl)

store_among : (kinds : List (List ℕ)) (own again : Bool) → own ≡ list_any (bytes_eq (codes "storelocal")) kinds
    → own && again ≡ is_among kinds (if again then Some (codes "storelocal") else None)
store_among kinds own true same = and_true own ∙ same
store_among kinds own false same = and_false own

pub counted_among : {kinds : List (List ℕ)} → IsHeldKind kinds → (v : InstructionValue) → is_of kinds v ≡ is_among kinds (counted_word v)
counted_among {kinds} held (values.StoreLocal kind place value) =
    store_among kinds (list_any (bytes_eq (codes "storelocal")) kinds) (is_reassign kind) refl
counted_among {kinds} held (values.StoreContext kind place value) =
    store_among kinds (list_any (bytes_eq (codes "storecontext")) kinds) (is_reassign kind) (stores_alike held).0
counted_among {kinds} held (values.StoreGlobal name value) =
    and_true (list_any (bytes_eq (codes "storeglobal")) kinds) ∙ (stores_alike held).1
counted_among {kinds} held v = and_true (list_any (bytes_eq (value_word v)) kinds)

-- Literals, texts of templates, and wrappers.

pub literal_held : (names : Names) {w : Word} {fields : Pieces} {p : PrimitiveValue} → IsLiteral w fields p → (at : At)
    → held_in names (Node at w fields) ≡ []
literal_held names forms.Null at = refl
literal_held names _ at = refl

quasis_held : (names : Names) {texts : Pieces} {quasis : List TemplateQuasi} → AreQuasis texts quasis → held_among names texts ≡ []
quasis_held names forms.NoQuasi = refl
quasis_held names (forms.NextQuasi more) = quasis_held names more
quasis_held names (forms.NextUncooked more) = quasis_held names more

pub wrapper_held : (names : Names) {w : Word} {fields : Pieces} {e : Syntax} → IsWrapper w fields e → (at : At)
    → held_in names (Node at w fields) ≡ held_in names e
wrapper_held names (forms.Parenthesized {e}) at = append-nil (held_in names e)
wrapper_held names (forms.NonNull {e}) at = append-nil (held_in names e)
wrapper_held names (forms.Instantiated {e} {types} fit) at =
    ap (λ (l : List Held). held_in names e ++ (l ++ [])) (names_unheld names types fit) ∙ append-nil (held_in names e)

pub cast_held : (names : Names) {w : Word} {fields : Pieces} {e type : Syntax} → IsCast w fields e type → IsAnnotation type → (at : At)
    → held_in names (Node at w fields) ≡ held_in names e
cast_held names (forms.As {e} {type}) fit at =
    ap (λ (l : List Held). held_in names e ++ (l ++ [])) (type_unheld names type fit) ∙ append-nil (held_in names e)
cast_held names (forms.Satisfies {e} {type}) fit at =
    ap (λ (l : List Held). held_in names e ++ (l ++ [])) (type_unheld names type fit) ∙ append-nil (held_in names e)
cast_held names (forms.Assert {e} {type}) fit at =
    ap (λ (l : List Held). l ++ (held_in names e ++ [])) (type_unheld names type fit) ∙ append-nil (held_in names e)

-- Properties.

pub member_held : (names : Names) {w : Word} {fields parts : Pieces} {pieces : List Piece} {object : Place} {key : MemberKey}
    → IsMember w fields parts pieces object key → (at : At) → held_in names (Node at w fields) ≡ held_among names parts
member_held names forms.Static at = refl
member_held names (forms.Indexed other) at = refl
member_held names (forms.Numbered is) at = refl

member_word : {w : Word} {fields parts : Pieces} {pieces : List Piece} {object : Place} {key : MemberKey}
    → IsMember w fields parts pieces object key → held_word w fields ≡ None
member_word forms.Static = refl
member_word _ = refl

member_span : {w : Word} {fields parts : Pieces} {pieces : List Piece} {object : Place} {key : MemberKey}
    → IsMember w fields parts pieces object key → (at : Span) → held_span w fields at ≡ at
member_span forms.Static at = refl
member_span _ at = refl

member_unkept : (names : Names) {w : Word} {fields parts : Pieces} {pieces : List Piece} {object : Place} {key : MemberKey}
    → IsMember w fields parts pieces object key → stores_at names w fields ≡ []
member_unkept names forms.Static = refl
member_unkept names _ = refl

-- A store to a property is not counted.
pub member_unstored : {w : Word} {fields parts : Pieces} {pieces : List Piece} {object : Place} {key : MemberKey}
    → IsMember w fields parts pieces object key → (there : At) → store_word (Node there w fields) ≡ None
member_unstored forms.Static there = refl
member_unstored _ there = refl

member_unheld : {w : Word} {fields parts : Pieces} {pieces : List Piece} {object : Place} {key : MemberKey}
    → IsMember w fields parts pieces object key
    → (is_held (forms.load_of object key) ≡ false) × (is_held (forms.delete_of object key) ≡ false)
member_unheld forms.Static = (refl, refl)
member_unheld _ = (refl, refl)

-- The fields of a property hold what its parts do.
member_fields : (names : Names) {w : Word} {fields parts : Pieces} {pieces : List Piece} {object : Place} {key : MemberKey}
    → IsMember w fields parts pieces object key → held_among names fields ≡ held_among names parts
member_fields names forms.Static = refl
member_fields names _ = refl

inside_held : (names : Names) {e inner : Syntax} → IsInside e inner → held_in names e ≡ held_in names inner
inside_held names forms.Bare = refl
inside_held names (forms.Around {at} {e} more) = append-nil (held_in names e) ∙ inside_held names more

pub updated_held : (names : Names) {w : Word} {fields parts : Pieces} {pieces : List Piece} {object : Place} {key : MemberKey}
    → IsMember w fields parts pieces object key → (at there : At) (operator : List ℕ) (prefix : Bool)
    → held_in names (Node at word.Update (Then (Said operator) (Then (Flag prefix) (Then (Node there w fields) End))))
    ≡ held_among names parts
updated_held names is at there operator prefix = append-nil _ ∙ member_held names is there

-- The call of a method, and then what its parts hold.
pub method_held : (names : Names) {w : Word} {fields parts : Pieces} {pieces : List Piece} {object : Place} {key : MemberKey}
    → IsMember w fields parts pieces object key → (at there : At) (es : Pieces)
    → held_in names (Node at word.Call (Then (Flag false) (Then (Node there w fields) (Then (Listed es) End))))
    ≡ record { word = codes "methodcall"; span = at.span } ∷ (held_among names parts ++ held_among names es)
method_held names (forms.Static {object}) at there es =
    ap (λ (l : List Held). record { word = codes "methodcall"; span = at.span } ∷ ((held_in names object ++ []) ++ l))
    (append-nil (held_among names es))
method_held names (forms.Indexed {object} {property} other) at there es =
    ap (λ (l : List Held). record { word = codes "methodcall"; span = at.span } ∷ ((held_in names object ++ (held_in names property ++ []))
    ++ l))
    (append-nil (held_among names es))
method_held names (forms.Numbered {object} is) at there es =
    ap (λ (l : List Held). record { word = codes "methodcall"; span = at.span } ∷ ((held_in names object ++ []) ++ l))
    (append-nil (held_among names es))

-- Links of chains: a call is counted before what its callee and its arguments hold, and no property is.

pub link_held : (names : Names) {w : Word} {rest parts : Pieces} {pieces : List Piece} {key : MemberKey} → IsLinkKey w rest parts pieces key
    → (at : At)
    (optional : Bool) (object : Syntax)
    → held_in names (Node at w (Then (Flag optional) (Then object rest))) ≡ held_in names object ++ held_among names parts
link_held names forms.LinkStatic at optional object = refl
link_held names _ at optional object = refl

pub call_link_held : (names : Names) (at : At) (optional : Bool) (callee : Syntax) (es : Pieces)
    → held_in names (Node at word.Call (Then (Flag optional) (Then callee (Then (Listed es) End))))
    ≡ record { word = call_word callee; span = at.span } ∷ (held_in names callee ++ held_among names es)
call_link_held names at optional callee es =
    ap (λ (l : List Held). record { word = call_word callee; span = at.span } ∷ (held_in names callee ++ l))
    (append-nil (held_among names es))

-- The instruction of a call has the word of its callee: a property lends its object.

handed_word : (e : Syntax) (front : Front) (p : Place) (given : List PlaceOrSpread)
    → counted_word (call_of (handed_on (is_property e) front p) given) ≡ Some (call_word e)
handed_word (Node at word.Member parts) front p given = refl
handed_word (Node at word.Index parts) front p given = refl
handed_word _ front p given = refl

member_call : (at : At) {w : Word} {fields parts : Pieces} {pieces : List Piece} {object : Place} {key : MemberKey}
    → IsMember w fields parts pieces object key → call_word (Node at w fields) ≡ codes "methodcall"
member_call at forms.Static = refl
member_call at _ = refl

plain_call : (e : Syntax) → is_property e ≡ false → call_word e ≡ codes "call"
plain_call (Node at word.Member parts) is = absurd (cc)
plain_call (Node at word.Index parts) is = absurd (cc)
plain_call _ is = refl

front_word : {names : Names} {alternate : BlockId} {is_called : Bool} {e : Syntax} {s t : State} {front : Front}
    → LoweredFront names alternate is_called e s t front → is_called ≡ true → (given : List PlaceOrSpread)
    → counted_word (call_of front given) ≡ Some (call_word e)
front_word (lowered.FrontLink alternate is_called e s t front p d) called given =
    ap (λ (b : Bool). counted_word (call_of (handed_on (b && is_property e) front p) given)) called ∙ handed_word e front p given
front_word (lowered.FrontBroken alternate is_called at e s t p d) called given = refl
front_word (lowered.FrontMethod alternate at w fields parts pieces object key s t is d) called given =
    ap (λ (text : List ℕ). Some text) (sym (member_call at is))
front_word (lowered.FrontAlone alternate is_called e s t p other d) called given =
    ap (λ (text : List ℕ). Some text) (sym (plain_call e (sym (ap (λ (b : Bool). b && is_property e) called) ∙ other)))

pub link_word : {names : Names} {alternate : BlockId} {callee : Syntax} {s t : State} {front : Front}
    → LoweredFront names alternate true callee s t front → (given : List PlaceOrSpread)
    → IsHeldAs (Some (call_word callee)) (call_of front given)
link_word {callee} d given = HeldBy (call_word callee) refl (front_word d refl given)

-- Assignments: that to a name is counted by its store, and one to a property is not.

pub assigned_held : (names : Names) (at there : At) (name : List ℕ) (right : Syntax)
    → held_in names (Node at word.Assign (Then (Said (codes "=")) (Then (Node there word.Id (Then (Said name) End)) (Then right End))))
    ≡ record { word = codes "storelocal"; span = there.span } ∷ held_in names right
assigned_held names at there name right =
    ap (λ (l : List Held). record { word = codes "storelocal"; span = there.span } ∷ l) (append-nil (held_in names right))

pub compound_held : (names : Names) (at there : At) (name operator : List ℕ) (right : Syntax) → bytes_eq operator (codes "=") ≡ false
    → held_in names (Node at word.Assign (Then (Said operator) (Then (Node there word.Id (Then (Said name) End)) (Then right End))))
    ≡ record { word = codes "storelocal"; span = at.span } ∷ held_in names right
compound_held names at there name operator right other =
    ap (λ (b : Bool). record { word = codes "storelocal"; span = if b then there.span else at.span } ∷ (held_in names right ++ [])) other
    ∙ ap (λ (l : List Held). record { word = codes "storelocal"; span = at.span } ∷ l) (append-nil (held_in names right))

pub assigned_member_held : (names : Names) {w : Word} {fields parts : Pieces} {pieces : List Piece} {object : Place} {key : MemberKey}
    → IsMember w fields parts pieces object key → (at there : At) (operator : List ℕ) (right : Syntax)
    → held_in names (Node at word.Assign (Then (Said operator) (Then (Node there w fields) (Then right End))))
    ≡ held_among names parts ++ held_in names right
assigned_member_held names {w} {fields} {parts} is at there operator right =
    let span : Span = held_span word.Assign (Then (Said operator) (Then (Node there w fields) (Then right End))) at.span in
    ap (λ (o : Option (List ℕ)). (held_as o span ++ []) ++ (held_in names (Node there w fields) ++ (held_in names right ++ [])))
    (member_unstored is there)
    ∙ ap (λ (l : List Held). l ++ (held_in names right ++ [])) (member_held names is there)
    ∙ ap (λ (l : List Held). held_among names parts ++ l) (append-nil (held_in names right))

-- A kind of the table: the parts that are lowered hold what the fields do.
pub form_held : (names : Names) {w : Word} {fields parts : Pieces} {pieces : List Piece} {v : InstructionValue}
    → IsForm w fields parts pieces v
    → held_among names fields ≡ held_among names parts
form_held names (forms.Call {callee} {es} plain given) =
    ap (λ (l : List Held). held_in names callee ++ l) (append-nil (held_among names es))
form_held names (forms.New {callee} {es} given) = ap (λ (l : List Held). held_in names callee ++ l) (append-nil (held_among names es))
form_held names (forms.Array {es} given) = append-nil (held_among names es)
form_held names (forms.Template {texts} {es} quasis given) =
    ap (λ (l : List Held). l ++ (held_among names es ++ [])) (quasis_held names quasis) ∙ append-nil (held_among names es)
form_held names (forms.Tagged {tag} {texts} {es} raw quasis given) =
    ap (λ (l : List Held). held_in names tag ++ ((l ++ (held_among names es ++ [])) ++ [])) (quasis_held names quasis)
    ∙ ap (λ (l : List Held). held_in names tag ++ l) (append-nil (held_among names es ++ []) ∙ append-nil (held_among names es))
form_held names (forms.Load is) = member_fields names is
form_held names (forms.Delete operator {e} {there} deletes inside is) =
    append-nil (held_in names e) ∙ inside_held names inside ∙ member_held names is there
form_held names _ = refl

pub form_word : {w : Word} {fields parts : Pieces} {pieces : List Piece} {v : InstructionValue} → IsForm w fields parts pieces v
    → IsHeldAs (held_word w fields) v
form_word (forms.Call plain given) = HeldBy (codes "call") (ap (λ (text : List ℕ). Some text) plain) refl
form_word (forms.New given) = HeldBy (codes "new") refl refl
form_word forms.Await = HeldBy (codes "await") refl refl
form_word (forms.Load is) = Unheld (member_word is) (member_unheld is).0
form_word (forms.Delete operator deletes inside is) = Unheld refl (member_unheld is).1
form_word _ = Unheld refl refl

-- It has no stores besides.
pub form_stores : (names : Names) {w : Word} {fields parts : Pieces} {pieces : List Piece} {v : InstructionValue}
    → IsForm w fields parts pieces v → stores_at names w fields ≡ []
form_stores names (forms.Load is) = member_unkept names is
form_stores names _ = refl

-- The instruction has the span of the node.
pub form_span : {w : Word} {fields parts : Pieces} {pieces : List Piece} {v : InstructionValue} → IsForm w fields parts pieces v
    → (at : Span) → held_span w fields at ≡ at
form_span (forms.Load is) at = member_span is at
form_span _ at = refl

-- Properties of object literals.

key_held : (names : Names) {computed : Bool} {key : Syntax} {text : List ℕ} → HasText computed key text → held_in names key ≡ []
key_held names (Name at said) = refl
key_held names _ = refl

pub property_held : (names : Names) (at : At) (computed : Bool) (key e : Syntax) (text : List ℕ) → key_text computed key ≡ Some text
    → held_in names (Node at word.Prop (Then (Flag computed) (Then key (Then e End)))) ≡ held_in names e
property_held names at computed key e text is =
    ap (λ (l : List Held). l ++ (held_in names e ++ [])) (key_held names (has_text computed key text is)) ∙ append-nil (held_in names e)

pub computed_held : (names : Names) (at : At) (key e : Syntax)
    → held_in names (Node at word.Prop (Then (Flag true) (Then key (Then e End)))) ≡ held_in names key ++ held_in names e
computed_held names at key e = ap (λ (l : List Held). held_in names key ++ l) (append-nil (held_in names e))

-- Declarators.

pub declarator_held : (names : Names) (there bind : At) (name : List ℕ) (type init : Syntax) → IsAnnotation type
    → held_in names (Node there word.Declarator (Then (Node bind word.Bind (Then (Said name) (Then type End))) (Then init End)))
    ≡ held_in names init
declarator_held names there bind name type init fit =
    ap (λ (l : List Held). (l ++ []) ++ (held_in names init ++ [])) (type_unheld names type fit) ∙ append-nil (held_in names init)

-- The head of a loop that declares a variable.
pub declared_head_held : (names : Names) (at there bind : At) (kind name : List ℕ) (type : Syntax) → IsAnnotation type
    → held_in names
    (Node at word.Var
    (Then (Said kind)
    (Then (Listed (Then (Node there word.Declarator (Then (Node bind word.Bind (Then (Said name) (Then type End))) (Then Absent End))) End))
    End)))
    ≡ []
declared_head_held names at there bind kind name type fit =
    ap (λ (l : List Held). (l ++ []) ++ []) (declarator_held names there bind name type Absent fit)

-- A name that is bound.
pub bind_held : (names : Names) (bind : At) (name : List ℕ) (type : Syntax) → IsAnnotation type
    → held_in names (Node bind word.Bind (Then (Said name) (Then type End))) ≡ []
bind_held names bind name type fit = ap (λ (l : List Held). l ++ []) (type_unheld names type fit)
