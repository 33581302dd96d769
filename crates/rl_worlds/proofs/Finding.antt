-- The function with a node, among the lowered functions of a unit.
use Rattle.std.proofs.Common.{◌≡◌, ℕ, Option, Some, None, List, [], ◌∷◌, filter, ap, sym, refl, ◌∙◌}
use Rattle.rl_ast.specs.Marked.{first}
use Rattle.rl_model.specs.Source.{function_at, functions_of, is_node}
use Rattle.rl_syntax.specs.Syntax.{Syntax}

-- The first of the functions, and the one with this node among the others.
abbrev among : List Syntax → (function : Option ℕ) → Option Syntax
among [] function = None
among (marked ∷ inner) None = Some marked
among (marked ∷ inner) (Some node) = first (filter (is_node node) inner)

marked_at : (u : Syntax) (function : Option ℕ) → among (functions_of u) function ≡ function_at u function
marked_at u None = refl
marked_at u (Some node) = refl

pub none_there : (u : Syntax) (fs : List Syntax) (function : Option ℕ) → fs ≡ [] → fs ≡ functions_of u → None ≡ function_at u function
none_there u fs function empty are = ap (λ l. among l function) (sym empty ∙ are) ∙ marked_at u function

pub marked_first : (u t : Syntax) (fs rest : List Syntax) → fs ≡ t ∷ rest → fs ≡ functions_of u → Some t ≡ function_at u None
marked_first u t fs rest split are = ap (λ l. among l None) (sym split ∙ are) ∙ marked_at u None

pub inner_behind : (u t : Syntax) (fs rest : List Syntax) (node : ℕ) (o : Option Syntax) → fs ≡ t ∷ rest → fs ≡ functions_of u
    → o ≡ first (filter (is_node node) rest) → o ≡ function_at u (Some node)
inner_behind u t fs rest node o split are e = e ∙ ap (λ l. among l (Some node)) (sym split ∙ are) ∙ marked_at u (Some node)

pub ruleset found = (none_there, marked_first, inner_behind)
