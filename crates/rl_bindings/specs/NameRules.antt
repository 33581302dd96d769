-- The rules B2 to B5 on names.
use Rattle.std.specs.Prelude.{ℕ, Bool, true, false, not, ◌&&◌, ◌||◌, if◌then◌else◌, nat_lt, Option, Some, None, slice_get, List, [], ◌∷◌, ◌++◌}
use Rattle.std.specs.List.{list_any, filter}
use Rattle.rl_bindings.specs.Symbols.{bounds, is_own, is_at, add_all}
use Rattle.rl_bindings.specs.declared.event.BindKind.{BindKind}
use Rattle.rl_bindings.specs.declared.event.BindKind.TheVariants as kind
use Rattle.rl_bindings.specs.declared.event.Bound.{Bound}
use Rattle.rl_bindings.specs.declared.event.Event.{Event}
use Rattle.rl_bindings.specs.declared.event.Event.TheVariants as event
use Rattle.rl_bindings.specs.declared.event.Place.{Place}
use Rattle.rl_bindings.specs.declared.event.Place.TheVariants as place
use Rattle.rl_bindings.specs.declared.resolve.Answer.{Answer}

-- True of the list of statements of a program, a body or a static block.
abbrev pub is_own_list : Place → Bool
is_own_list place.Program = true
is_own_list place.Body = true
is_own_list _ = false

-- True of a lexical declaration, by its kind and the list that it stands in: `let`, `const`, `using`, `await using`, classes,
-- imports, catch parameters, and functions that stand in no list of a program, a body or a static block.
abbrev pub is_lexical_at : BindKind → Place → Bool
is_lexical_at kind.Let p = true
is_lexical_at kind.Const p = true
is_lexical_at kind.Catch p = true
is_lexical_at kind.ClassDeclaration p = true
is_lexical_at kind.ImportDefault p = true
is_lexical_at kind.ImportNamespace p = true
is_lexical_at kind.ImportNamed p = true
is_lexical_at kind.FunctionDeclaration p = not (is_own_list p)
is_lexical_at _ p = false

abbrev pub is_lexical : Bound → Bool
is_lexical b = is_lexical_at b.kind b.place

abbrev pub is_var : BindKind → Bool
is_var kind.Var = true
is_var _ = false

abbrev pub is_param : BindKind → Bool
is_param kind.Param = true
is_param _ = false

-- True of a type alias, an interface, an enum or a namespace.
abbrev pub is_type : BindKind → Bool
is_type kind.TypeAlias = true
is_type kind.Interface = true
is_type kind.Enum = true
is_type kind.Namespace = true
is_type _ = false

abbrev pub is_program : Place → Bool
is_program place.Program = true
is_program _ = false

-- True of a namespace that does not stand in the program's list.
abbrev pub is_misplaced_at : BindKind → Place → Bool
is_misplaced_at kind.Namespace p = not (is_program p)
is_misplaced_at _ p = false

abbrev pub is_misplaced : Bound → Bool
is_misplaced b = is_misplaced_at b.kind b.place

-- Two declarations, own names aside, of one name in one scope, one of which is lexical.
abbrev pub is_lexical_clash : Bound → Bound → Bool
is_lexical_clash b c = not (is_own b.kind) && (is_at false b.scope.0 b.name c && (is_lexical b || is_lexical c))

-- Two parameters of one name.
abbrev pub is_repeat : Bound → Bound → Bool
is_repeat b c = is_param b.kind && (is_at false b.scope.0 b.name c && is_param c.kind)

-- Two declarations of one name in one scope, one of which is a type alias, an interface, an enum or a namespace.
abbrev pub is_type_clash : Bound → Bound → Bool
is_type_clash b c = (is_at false b.scope.0 b.name c || is_at true b.scope.0 b.name c) && (is_type b.kind || is_type c.kind)

-- `clashes clash before bs`: some declaration of `bs` clashes with one before it, those of `before` included.
abbrev pub clashes : (Bound → Bound → Bool) → (before bs : List Bound) → Bool
clashes clash before [] = false
clashes clash before (b ∷ bs) = list_any (clash b) before || clashes clash (before ++ b ∷ []) bs

-- The symbols that the lexical declarations among events make by themselves.
abbrev pub lexical_of : List Event → List Bound
lexical_of es = add_all [] (filter is_lexical (bounds es))

-- True of a symbol of a scope with a larger number.
abbrev pub is_larger : (scope : ℕ) → Option Bound → Bool
is_larger scope None = false
is_larger scope (Some s) = nat_lt scope s.scope.0

abbrev pub is_inside : (symbols : List Bound) → (scope : ℕ) → (symbol : Option ℕ) → Bool
is_inside symbols scope None = false
is_inside symbols scope (Some k) = is_larger scope (slice_get symbols k)

-- `is_passing lexical x`: true of a `var` declaration whose name stands, where it is declared, for a lexical symbol of a scope
-- inside the one that the name is bound in. That scope is around the declaration, and scopes have larger numbers than those
-- around them; so a scope that the name passes on its way out binds it lexically.
abbrev pub is_passing : (lexical : List Bound) → Answer → Bool
is_passing lexical x = elim x.event as (λ e. Bool) [ event.Bind b ↦ is_var b.kind && is_inside lexical b.scope.0 x.symbol | _ ↦ false ]

-- The least of the rules B2 to B5 that is broken, if each is broken or not as the arguments say.
abbrev pub least : (clashed passing repeated shared : Bool) → Option ℕ
least clashed passing repeated shared = if clashed then Some 2 else (if passing then Some 3 else (if repeated then Some 4 else (if shared then Some 5 else None)))

-- The least of the rules B2 to B5 that declarations break, if `stands` are the names that are declared and used, each with the
-- lexical symbol that it stands for.
abbrev pub least_of : (es : List Event) → (stands : List Answer) → Option ℕ
least_of es stands =
    least (clashes is_lexical_clash [] (bounds es)) (list_any (is_passing (lexical_of es)) stands) (clashes is_repeat [] (bounds es))
    (clashes is_type_clash [] (bounds es) || list_any is_misplaced (bounds es))
