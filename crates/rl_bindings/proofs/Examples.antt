-- The definitions, tried on small units: the symbols of their references, the scopes of their symbols, and the rules that they
-- break.
use Rattle.std.proofs.Common.{◌≡◌, ℕ, ◌+◌, false, Option, Some, None, List, [], ◌∷◌, map, codes, refl}
use Rattle.rl_bindings.specs.Tables.{least_broken, references_in, symbols_in}
use Rattle.rl_syntax.specs.Syntax.{Syntax, Node, Listed, Said, Flag, Absent, pieces_of}
use Rattle.rl_syntax.specs.declared.numbered.At.{At}
use Rattle.rl_syntax.specs.declared.word.Word.{Word}
use Rattle.rl_syntax.specs.declared.word.Word.TheVariants as word

-- Ids of a node that makes the scope `scope`. Other ids are 0 here.
abbrev at : (scope : ℕ) → At
at scope = record { id = record { 0 = 0 }; end = record { 0 = 0 }; scope = record { 0 = scope }; reference = record { 0 = 0 }; span = record { start = 0; end = 0 } }

abbrev node : Word → List Syntax → Syntax
node w ps = Node (at 0) w (pieces_of ps)

abbrev maker : (scope : ℕ) → Word → List Syntax → Syntax
maker s w ps = Node (at s) w (pieces_of ps)

abbrev list : List Syntax → Syntax
list ps = Listed (pieces_of ps)

abbrev bind : (name : List ℕ) → Syntax
bind t = node word.Bind (Said t ∷ Absent ∷ [])

abbrev read : (name : List ℕ) → Syntax
read t = node word.Expr (node word.Id (Said t ∷ []) ∷ [])

abbrev vars : (kind : List ℕ) → (name : List ℕ) → Syntax
vars k t = node word.Var (Said k ∷ list (node word.Declarator (bind t ∷ Absent ∷ []) ∷ []) ∷ [])

abbrev block : (scope : ℕ) → List Syntax → Syntax
block s ps = maker s word.Block (list ps ∷ [])

abbrev params : List (List ℕ) → Syntax
params names = node word.Params (list (map (λ t. node word.Param (bind t ∷ Absent ∷ [])) names) ∷ Absent ∷ [])

abbrev body : List Syntax → Syntax
body ps = node word.Body (list [] ∷ list ps ∷ [])

abbrev arrow : (scope : ℕ) → List (List ℕ) → List Syntax → Syntax
arrow s names ps = node word.Expr (maker s word.Arrow (Flag false ∷ Flag false ∷ params names ∷ body ps ∷ []) ∷ [])

abbrev function : (scope : ℕ) → (name : List ℕ) → List (List ℕ) → List Syntax → Syntax
function s t names ps = maker s word.Fundecl (Flag false ∷ Flag false ∷ Flag false ∷ bind t ∷ params names ∷ body ps ∷ [])

abbrev named : (scope : ℕ) → (name : List ℕ) → List (List ℕ) → List Syntax → Syntax
named s t names ps = node word.Expr (maker s word.Funexpr (Flag false ∷ Flag false ∷ Flag false ∷ bind t ∷ params names ∷ body ps ∷ []) ∷ [])

abbrev catch : (scope : ℕ) → (name : List ℕ) → List Syntax → Syntax
catch s t ps = node word.Try (block s [] ∷ maker (s + 1) word.Catch (bind t ∷ block (s + 2) ps ∷ []) ∷ Absent ∷ [])

abbrev unit : List Syntax → Syntax
unit ps = node word.Unit (list [] ∷ maker 0 word.Program (list ps ∷ []) ∷ [])

abbrev resolved : List Syntax → List (Option ℕ)
resolved ps = map (λ r. r.symbol) (references_in (unit ps))

-- The scopes that symbols are bound in.
abbrev bound : List Syntax → List ℕ
bound ps = map (λ b. b.scope.0) (symbols_in (unit ps))

abbrev broken : List Syntax → Option ℕ
broken ps = least_broken (unit ps)

abbrev a : List ℕ
a = codes "a"

abbrev b : List ℕ
b = codes "b"

-- A `var` in a block is the program's, also before its place; a `let` is the block's, and a name without a declaration is none's.
var_hoisted : resolved (read a ∷ block 1 (vars (codes "var") a ∷ read a ∷ []) ∷ read b ∷ []) ≡ Some 0 ∷ Some 0 ∷ None ∷ []
var_hoisted = refl

let_inside : resolved (read a ∷ block 1 (read a ∷ vars (codes "let") a ∷ []) ∷ []) ≡ None ∷ Some 0 ∷ []
let_inside = refl

where_bound : bound (block 1 (vars (codes "var") a ∷ vars (codes "const") b ∷ []) ∷ arrow 2 (a ∷ []) (block 3 (vars (codes "var") b ∷ []) ∷ []) ∷ []) ≡ 0 ∷ 1 ∷ 2 ∷ 2 ∷ []
where_bound = refl

-- Of several scopes that bind a name, the innermost counts.
innermost : resolved (vars (codes "let") a ∷ block 1 (vars (codes "let") a ∷ block 2 (vars (codes "let") a ∷ read a ∷ []) ∷ read a ∷ []) ∷ read a ∷ []) ≡ Some 2 ∷ Some 1 ∷ Some 0 ∷ []
innermost = refl

-- A parameter shadows a function's own name, which stays a symbol of its own.
own_shadowed : resolved (named 1 a (a ∷ []) (read a ∷ []) ∷ named 2 a (b ∷ []) (read a ∷ []) ∷ []) ≡ Some 1 ∷ Some 2 ∷ []
own_shadowed = refl

-- The name of a declaration is bound around it, and a second declaration of it is the same symbol.
function_around : bound (function 1 a [] [] ∷ vars (codes "var") a ∷ maker 2 word.Classdecl (bind b ∷ Absent ∷ list [] ∷ []) ∷ []) ≡ 0 ∷ 0 ∷ []
function_around = refl

-- The discriminant of a `switch` stands outside the scope of its clauses.
switch_scope : resolved (vars (codes "let") a ∷ maker 1 word.Switch (node word.Id (Said a ∷ []) ∷ list (node word.Case (Absent ∷ list (vars (codes "let") a ∷ read a ∷ []) ∷ []) ∷ []) ∷ []) ∷ []) ≡ Some 0 ∷ Some 1 ∷ []
switch_scope = refl

-- A static block takes `var`; a loop's head binds in the loop's scope; a class expression's own name stands inside it.
static_var : bound (maker 1 word.Classdecl (bind a ∷ Absent ∷ list (maker 2 word.Static (list (block 3 (vars (codes "var") a ∷ []) ∷ []) ∷ []) ∷ []) ∷ []) ∷ []) ≡ 0 ∷ 2 ∷ []
static_var = refl

loop_head : bound (maker 1 word.For (vars (codes "let") a ∷ Absent ∷ Absent ∷ node word.Empty [] ∷ []) ∷ maker 2 word.For (vars (codes "var") b ∷ Absent ∷ Absent ∷ node word.Empty [] ∷ []) ∷ []) ≡ 1 ∷ 0 ∷ []
loop_head = refl

class_name : bound (node word.Expr (maker 1 word.Classexpr (bind a ∷ Absent ∷ list [] ∷ []) ∷ []) ∷ []) ≡ 1 ∷ []
class_name = refl

-- B2: a lexical name stands alone in its scope. A `var`, a function and a parameter may share a name there, but a function in a
-- block is lexical.
two_lets : broken (vars (codes "let") a ∷ vars (codes "let") a ∷ []) ≡ Some 2
two_lets = refl

let_and_inner_let : broken (vars (codes "let") a ∷ block 1 (vars (codes "let") a ∷ []) ∷ []) ≡ None
let_and_inner_let = refl

var_before_let : broken (vars (codes "var") a ∷ vars (codes "let") a ∷ []) ≡ Some 2
var_before_let = refl

var_and_function : broken (vars (codes "var") a ∷ function 1 a [] [] ∷ function 2 a [] [] ∷ []) ≡ None
var_and_function = refl

inner_functions : broken (block 1 (function 2 a [] [] ∷ function 3 a [] [] ∷ []) ∷ []) ≡ Some 2
inner_functions = refl

parameter_and_let : broken (arrow 1 (a ∷ []) (vars (codes "let") a ∷ []) ∷ []) ≡ Some 2
parameter_and_let = refl

own_and_let : broken (named 1 a [] (vars (codes "let") a ∷ []) ∷ []) ≡ None
own_and_let = refl

-- B3: no `var` passes a lexical name. It may pass a type alias, and a function's scope ends its way.
var_through_let : broken (block 1 (vars (codes "let") a ∷ block 2 (vars (codes "var") a ∷ []) ∷ []) ∷ []) ≡ Some 3
var_through_let = refl

var_through_alias : broken (block 1 (node word.Typealias (bind a ∷ node word.Type (Said b ∷ list [] ∷ []) ∷ []) ∷ block 2 (vars (codes "var") a ∷ []) ∷ []) ∷ []) ≡ None
var_through_alias = refl

var_in_function : broken (vars (codes "let") a ∷ arrow 1 [] (vars (codes "var") a ∷ []) ∷ []) ≡ None
var_in_function = refl

var_through_catch : broken (catch 1 a (vars (codes "var") a ∷ []) ∷ []) ≡ Some 3
var_through_catch = refl

let_in_catch : broken (catch 1 a (vars (codes "let") a ∷ []) ∷ []) ≡ None
let_in_catch = refl

-- B4: the parameters of a function have different names. A `var` in its body may have one's.
two_parameters : broken (arrow 1 (a ∷ a ∷ []) [] ∷ []) ≡ Some 4
two_parameters = refl

parameter_and_var : broken (arrow 1 (a ∷ b ∷ []) (vars (codes "var") a ∷ []) ∷ []) ≡ None
parameter_and_var = refl

-- B5: a type alias, an interface, an enum and a namespace share their names with nothing, and a namespace stands in the
-- program's list.
interface_and_var : broken (node word.Interface (bind a ∷ []) ∷ vars (codes "var") a ∷ []) ≡ Some 5
interface_and_var = refl

own_and_enum : broken (named 1 a [] (node word.Enum (bind a ∷ []) ∷ []) ∷ []) ≡ Some 5
own_and_enum = refl

namespace_placed : broken (node word.Namespace (bind a ∷ []) ∷ []) ≡ None
namespace_placed = refl

namespace_exported : broken (node word.Export (node word.Namespace (bind a ∷ []) ∷ []) ∷ []) ≡ Some 5
namespace_exported = refl

imports_twice : broken (node word.Import (Said b ∷ list (node word.Namespace (bind a ∷ []) ∷ node word.Default (bind a ∷ []) ∷ []) ∷ []) ∷ []) ≡ Some 2
imports_twice = refl
