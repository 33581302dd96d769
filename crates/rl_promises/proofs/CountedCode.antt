-- The counted nodes of covered code: calls of functions and of methods, constructions and awaits, each counted by itself.
use Rattle.std.proofs.Common.{◌≡◌, ℕ, Bool, true, false, true≢false, if◌then◌else◌, Some, List, [], ◌∷◌, ◌++◌, codes, refl, sym, ap, ◌∙◌}
use Rattle.std.proofs.Common.{subst, append_assoc}
use Rattle.std.specs.List.{AllByRecursion}
use Rattle.rl_grammar.specs.Grammar.{each, every, fits}
use Rattle.rl_grammar.specs.declared.kind.Field.TheVariants as field
use Rattle.rl_grammar.specs.declared.kind.Kind.TheVariants as kind
use Rattle.rl_grammar.proofs.Viewing.{four_fit, rest_fit, six_fit, two_fit}
use Rattle.rl_ast.specs.FunctionTrees.{is_function as fits_function}
use Rattle.rl_model.specs.Code.{code, code_among, first_code, flat}
use Rattle.rl_model.specs.Counted.{Counted, counted_at}
use Rattle.rl_names.specs.Functions.{body_in}
use Rattle.rl_promises.specs.Covered.{covers}
use Rattle.rl_promises.specs.Tallies.{IsHeldKind, call_word, held_span, held_word, is_among}
use Rattle.rl_promises.specs.Tallies.IsHeldKind.{Calls, Constructions, Awaits, Stores}
use Rattle.rl_syntax.specs.Syntax.{Syntax, Node, Listed, Said, Pieces, End, Then}
use Rattle.rl_syntax.specs.declared.numbered.At.{At}
use Rattle.rl_syntax.specs.declared.word.Word.{Word}
use Rattle.rl_syntax.specs.declared.word.Word.TheVariants as word

-- Facts of each counted node of a list, by recursion.

pub each_weaker : (P Q : Counted → Type 0) → ((key : Counted) → P key → Q key) → (keys : List Counted) → AllByRecursion P keys
    → AllByRecursion Q keys
each_weaker P Q f [] h = tt
each_weaker P Q f (key ∷ keys) h = (f key h.0, each_weaker P Q f keys h.1)

pub each_append : (P : Counted → Type 0) (xs ys : List Counted) → AllByRecursion P xs → AllByRecursion P ys
    → AllByRecursion P (xs ++ ys)
each_append P [] ys h k = k
each_append P (x ∷ xs) ys h k = (h.0, each_append P xs ys h.1 k)

pub each_both : (P : Counted → Type 0) (xs ys : List Counted) → AllByRecursion P (xs ++ ys)
    → AllByRecursion P xs × AllByRecursion P ys
each_both P [] ys h = (tt, h)
each_both P (x ∷ xs) ys h = (let rest = each_both P xs ys h.1 in ((h.0, rest.0), rest.1))

pub flat_append : {A B : Type 0} (f : A → List B) (xs ys : List A) → flat f (xs ++ ys) ≡ flat f xs ++ flat f ys
flat_append f [] ys = refl
flat_append f (x ∷ xs) ys = ap (λ (l : List _). f x ++ l) (flat_append f xs ys) ∙ sym (append_assoc (f x) (flat f xs) (flat f ys))

-- The counted node of a node by itself.
pub record IsOwn (at : At) (w : Word) (parts : Pieces) (key : Counted) : Type 0 where
  pub kind : IsHeldKind key.kinds
  pub place : held_span w parts at.span ≡ key.span
  pub word : is_among key.kinds (held_word w parts) ≡ true

-- A call is one of a function, or of a method.

abbrev call_kinds : List (List ℕ)
call_kinds = codes "call" ∷ codes "methodcall" ∷ []

callee_among : (callee : Syntax) → is_among call_kinds (Some (call_word callee)) ≡ true
callee_among (Node at word.Member parts) = refl
callee_among (Node at word.Index parts) = refl
callee_among _ = refl

call_among : (parts : Pieces) → is_among call_kinds (held_word word.Call parts) ≡ true
call_among (Then optional (Then callee arguments)) = callee_among callee
call_among _ = refl

-- An assignment to a name is counted.
assign_counted : (methods : List ℕ) (at : At) (parts : Pieces)
    → AllByRecursion (IsOwn at word.Assign parts) (counted_at methods (Node at word.Assign parts))
assign_counted methods at (Then (Said operator) (Then (Node there word.Id parts) rest)) =
    (record { kind = Stores; place = refl; word = refl }, tt)
assign_counted methods at _ = tt

-- Of a covered node itself a call, a construction, an `await` or an assignment to a name is counted.
pub own_counted : (methods : List ℕ) (at : At) (w : Word) (parts : Pieces) → covers w parts ≡ true
    → AllByRecursion (IsOwn at w parts) (counted_at methods (Node at w parts))
own_counted methods at word.Call parts covered = (record { kind = Calls; place = refl; word = call_among parts }, tt)
own_counted methods at word.New parts covered = (record { kind = Constructions; place = refl; word = refl }, tt)
own_counted methods at word.Await parts covered = (record { kind = Awaits; place = refl; word = refl }, tt)
own_counted methods at word.Element parts covered = absurd (true≢false (sym covered))
own_counted methods at word.Fragment parts covered = absurd (true≢false (sym covered))
own_counted methods at word.Arrow parts covered = absurd (true≢false (sym covered))
own_counted methods at word.Fundecl parts covered = absurd (true≢false (sym covered))
own_counted methods at word.Method parts covered = absurd (true≢false (sym covered))
own_counted methods at word.Get parts covered = absurd (true≢false (sym covered))
own_counted methods at word.Set parts covered = absurd (true≢false (sym covered))
own_counted methods at word.Assign parts covered = assign_counted methods at parts
own_counted methods at word.Funexpr parts covered = absurd (true≢false (sym covered))
own_counted methods at _ parts covered = tt

-- The code of the first part is code of the parts.
first_counted : (methods : List ℕ) (P : Counted → Type 0) (parts : Pieces) → AllByRecursion P (flat (counted_at methods) (code_among parts))
    → AllByRecursion P (flat (counted_at methods) (first_code parts))
first_counted methods P End each = tt
first_counted methods P (Then part parts) each =
    (each_both P (flat (counted_at methods) (code part)) (flat (counted_at methods) (code_among parts))
    (subst (AllByRecursion P) (flat_append (counted_at methods) (code part) (code_among parts)) each)).0

-- The code of a covered node, which is no function: nothing of a type, else itself, and that of its parts, or of its first part.
pub by_tests : (methods : List ℕ) (P : Counted → Type 0) (node : Syntax) (no_code function instantiate : Bool)
    (names : List Syntax) (parts : Pieces) → function ≡ false
    → AllByRecursion P (counted_at methods node) → AllByRecursion P (flat (counted_at methods) (code_among parts))
    → AllByRecursion P (flat (counted_at methods)
    (if no_code then [] else node ∷ (if function then names else if instantiate then first_code parts else code_among parts)))
by_tests methods P node true function instantiate names parts plain own rest = tt
by_tests methods P node false true instantiate names parts plain own rest = absurd (true≢false plain)
by_tests methods P node false false true names parts plain own rest = each_append P (counted_at methods node)
    (flat (counted_at methods) (first_code parts)) own (first_counted methods P parts rest)
by_tests methods P node false false false names parts plain own rest = each_append P (counted_at methods node)
    (flat (counted_at methods) (code_among parts)) own rest

-- The directives of a body are texts, without code.
abbrev pub HasTexts : Syntax → Type 0
HasTexts (Node at word.Body (Then directives (Then (Listed statements) End))) = code directives ≡ []
HasTexts _ = Unit {0}

texts_none : (texts : Pieces) → every kind.Text texts ≡ true → code_among texts ≡ []
texts_none End fit = refl
texts_none (Then (Said text) texts) fit = texts_none texts (rest_fit kind.Text (Then (Said text) texts) (Said text) texts refl fit)
texts_none (Then _ texts) fit = absurd (cc)

directives_none : (directives : Syntax) → fits (field.Many kind.Text) directives ≡ true → code directives ≡ []
directives_none (Listed texts) fit = texts_none texts fit
directives_none _ fit = absurd (cc)

listed_texts : (directives : Syntax) (statements : Pieces)
    → each (Some (field.Many kind.Text ∷ field.Many kind.Statement ∷ [])) (Then directives (Then (Listed statements) End)) ≡ true
    → code directives ≡ []
listed_texts directives statements fit =
    directives_none directives (two_fit _ directives (Listed statements) refl (field.Many kind.Text) (field.Many kind.Statement) fit).0

arrow_texts : (body : Syntax) → fits (field.One kind.ArrowBody) body ≡ true → HasTexts body
arrow_texts (Node at word.Body (Then directives (Then (Listed statements) End))) fit = listed_texts directives statements fit
arrow_texts _ fit = tt

body_texts : (body : Syntax) → fits (field.Maybe kind.FunctionBody) body ≡ true → HasTexts body
body_texts (Node at word.Body (Then directives (Then (Listed statements) End))) fit = listed_texts directives statements fit
body_texts _ fit = tt

given_texts : (body : Syntax) → fits (field.One kind.FunctionBody) body ≡ true → HasTexts body
given_texts (Node at word.Body (Then directives (Then (Listed statements) End))) fit = listed_texts directives statements fit
given_texts _ fit = tt

-- The directives of a function's body are texts.
pub function_texts : (f : Syntax) → fits_function f ≡ true → HasTexts (body_in f)
function_texts (Node at word.Arrow (Then marked (Then is_async (Then params (Then body End))))) fit =
    arrow_texts body (four_fit _ marked is_async params body refl (field.One kind.Flag) (field.One kind.Flag)
    (field.One kind.FormalParameters) (field.One kind.ArrowBody) fit).3
function_texts (Node at word.Fundecl (Then marked (Then is_async (Then generator (Then name (Then params (Then body End))))))) fit =
    body_texts body (six_fit _ marked is_async generator name params body refl (field.One kind.Flag) (field.One kind.Flag)
    (field.One kind.Flag) (field.Maybe kind.BindingIdentifier) (field.One kind.FormalParameters) (field.Maybe kind.FunctionBody) fit).5
function_texts (Node at word.Funexpr (Then marked (Then is_async (Then generator (Then name (Then params (Then body End))))))) fit =
    given_texts body (six_fit _ marked is_async generator name params body refl (field.One kind.Flag) (field.One kind.Flag)
    (field.One kind.Flag) (field.Maybe kind.BindingIdentifier) (field.One kind.FormalParameters) (field.One kind.FunctionBody) fit).5
function_texts _ fit = tt
