-- Roles of nodes in the binding of names: all that it knows of the grammar.
use Rattle.std.specs.Prelude.{ℕ, if◌then◌else◌, Option, Some, None, List, [], ◌∷◌, codes}
use Rattle.std.specs.Str.{bytes_eq}
use Rattle.rl_base.specs.declared.ids.ScopeId.{ScopeId}
use Rattle.rl_bindings.specs.Names.{said}
use Rattle.rl_bindings.specs.declared.event.BindKind.{BindKind}
use Rattle.rl_bindings.specs.declared.event.BindKind.TheVariants as kind
use Rattle.rl_bindings.specs.declared.event.Place.{Place}
use Rattle.rl_bindings.specs.declared.event.Place.TheVariants as place
use Rattle.rl_bindings.specs.declared.event.ScopeKind.{ScopeKind}
use Rattle.rl_bindings.specs.declared.event.ScopeKind.TheVariants as scope
use Rattle.rl_bindings.specs.declared.role.Above.{Above}
use Rattle.rl_bindings.specs.declared.role.Role.{Role}
use Rattle.rl_bindings.specs.declared.role.Role.TheVariants as role
use Rattle.rl_syntax.specs.Syntax.{Pieces}
use Rattle.rl_syntax.specs.declared.numbered.At.{At}
use Rattle.rl_syntax.specs.declared.word.Word.{Word}
use Rattle.rl_syntax.specs.declared.word.Word.TheVariants as word

-- Thirteen words make scopes, `bind` declares a name, and `id` uses one.
abbrev pub role_of : Word → Role
role_of word.Program = role.Maker
role_of word.Arrow = role.Maker
role_of word.Fundecl = role.Maker
role_of word.Funexpr = role.Maker
role_of word.Block = role.Maker
role_of word.For = role.Maker
role_of word.Forin = role.Maker
role_of word.Forof = role.Maker
role_of word.Switch = role.Maker
role_of word.Catch = role.Maker
role_of word.Classdecl = role.Maker
role_of word.Classexpr = role.Maker
role_of word.Static = role.Maker
role_of word.Bind = role.Binder
role_of word.Id = role.User
role_of _ = role.Plain

-- The number of parts of a node that stand before the scope that it makes: the discriminant of a `switch`, the name of a class
-- declaration, and the three flags and the name of a function declaration.
abbrev pub parts_ahead : Word → ℕ
parts_ahead word.Switch = 1
parts_ahead word.Classdecl = 1
parts_ahead word.Fundecl = 4
parts_ahead _ = 0

-- The kind of the scope that a node of the word makes.
abbrev pub scope_kind : Word → ScopeKind
scope_kind word.Program = scope.Program
scope_kind word.Arrow = scope.Function
scope_kind word.Fundecl = scope.Function
scope_kind word.Funexpr = scope.Function
scope_kind word.For = scope.For
scope_kind word.Forin = scope.For
scope_kind word.Forof = scope.For
scope_kind word.Switch = scope.Switch
scope_kind word.Catch = scope.Catch
scope_kind word.Classdecl = scope.Class
scope_kind word.Classexpr = scope.Class
scope_kind word.Static = scope.Class
scope_kind _ = scope.Block

-- The scope around the one that a node of the word makes. None for the program's.
abbrev pub parent_of : Above → Word → Option ScopeId
parent_of a word.Program = None
parent_of a _ = Some a.scope

-- The scope that a `bind` node binds its name in: for `var` the innermost of a function, a static block or the program.
abbrev pub kind_scope : BindKind → (scope function : ScopeId) → ScopeId
kind_scope kind.Var scope function = function
kind_scope _ scope function = scope

abbrev pub scope_of : Above → ScopeId
scope_of a = kind_scope a.kind a.scope a.function

-- The kind of declaration that a text begins.
abbrev pub text_kind : (text : List ℕ) → BindKind
text_kind text = if bytes_eq text (codes "var") then kind.Var else (if bytes_eq text (codes "let") then kind.Let else kind.Const)

abbrev pub texts_kind : (said : List (List ℕ)) → BindKind
texts_kind [] = kind.Const
texts_kind (text ∷ texts) = text_kind text

-- The kind of declaration that a `var` node with these parts is.
abbrev pub var_kind : Pieces → BindKind
var_kind parts = texts_kind (said parts)

-- The kind of declaration that a `namespace` node is: an import's, or a statement.
abbrev pub namespace_kind : Place → BindKind
namespace_kind place.Import = kind.ImportNamespace
namespace_kind _ = kind.Namespace

-- The summary above those parts of a node that stand before its scope.
abbrev pub outside : Above → Word → Above
outside a word.Fundecl = record a { kind = kind.FunctionDeclaration }
outside a word.Classdecl = record a { kind = kind.ClassDeclaration }
outside a _ = record a { place = place.Inner }

-- The summary above the parts of a node, those before its scope aside. A node that makes a scope is the innermost scope;
-- functions, static blocks and the program take `var` too. Declarations say their kind. No list but the program's, a body's and
-- a static block's is the list of its function; the name in a namespace stands in the list that the namespace stands in.
abbrev pub below : Above → At → Word → Pieces → Above
below a at word.Program parts = record a { scope = at.scope; function = at.scope; place = place.Program }
below a at word.Static parts = record a { scope = at.scope; function = at.scope; place = place.Body }
below a at word.Arrow parts = record a { scope = at.scope; function = at.scope; place = place.Inner }
below a at word.Fundecl parts = record a { scope = at.scope; function = at.scope; place = place.Inner }
below a at word.Funexpr parts = record a { scope = at.scope; function = at.scope; kind = kind.FunctionExpression; place = place.Inner }
below a at word.Classexpr parts = record a { scope = at.scope; kind = kind.ClassExpression; place = place.Inner }
below a at word.Catch parts = record a { scope = at.scope; kind = kind.Catch; place = place.Inner }
below a at word.Classdecl parts = record a { scope = at.scope; place = place.Inner }
below a at word.Block parts = record a { scope = at.scope; place = place.Inner }
below a at word.For parts = record a { scope = at.scope; place = place.Inner }
below a at word.Forin parts = record a { scope = at.scope; place = place.Inner }
below a at word.Forof parts = record a { scope = at.scope; place = place.Inner }
below a at word.Switch parts = record a { scope = at.scope; place = place.Inner }
below a at word.Body parts = record a { place = place.Body }
below a at word.Params parts = record a { kind = kind.Param; place = place.Inner }
below a at word.Var parts = record a { kind = var_kind parts; place = place.Inner }
below a at word.Import parts = record a { place = place.Import }
below a at word.Default parts = record a { kind = kind.ImportDefault; place = place.Inner }
below a at word.Named parts = record a { kind = kind.ImportNamed; place = place.Inner }
below a at word.Namespace parts = record a { kind = namespace_kind a.place }
below a at word.Typealias parts = record a { kind = kind.TypeAlias; place = place.Inner }
below a at word.Interface parts = record a { kind = kind.Interface; place = place.Inner }
below a at word.Enum parts = record a { kind = kind.Enum; place = place.Inner }
below a at _ parts = record a { place = place.Inner }
