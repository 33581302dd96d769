-- The first item of a list: the symbol that a node declares, and if a name has a reference.
use Rattle.std.proofs.Common.{◌≡◌, Option, Some, None, true, false, List, [], ◌∷◌, refl}
use Rattle.rl_ast.specs.Marked.{first}
use Rattle.rl_base.specs.declared.ids.SymbolId.{SymbolId}
use Rattle.rl_resolver.specs.Listed.{of_first, has_some}

pub first_symbol : (symbols : List (Option SymbolId)) (symbol : Option SymbolId) → first symbols ≡ Some symbol → of_first symbols ≡ symbol
first_symbol [] symbol is = absurd (cc)
first_symbol (s ∷ symbols) symbol is = cc

pub no_symbol : (symbols : List (Option SymbolId)) → first symbols ≡ None → of_first symbols ≡ None
no_symbol [] is = refl
no_symbol (s ∷ symbols) is = absurd (cc)

pub some_first : {X : Type 0} (items : List X) (x : X) → first items ≡ Some x → true ≡ has_some items
some_first [] x is = absurd (cc)
some_first (y ∷ items) x is = refl

pub none_first : {X : Type 0} (items : List X) → first items ≡ None → false ≡ has_some items
none_first [] is = refl
none_first (y ∷ items) is = absurd (cc)
