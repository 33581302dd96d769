-- The search through scopes, one scope on, and the walk outwards from a node, one node out.
use Rattle.std.proofs.Common.{◌≡◌, ◌<◌, arith, ℕ, zero, suc, ◌+◌, ◌-◌, Option, Some, List, [], ◌∷◌, ◌++◌, length, drop, refl, ap, ◌∙◌}
use Rattle.rl_base.specs.declared.ids.NodeId.{NodeId}
use Rattle.rl_base.specs.declared.ids.ScopeId.{ScopeId}
use Rattle.rl_bindings.specs.Symbols.{option_or}
use Rattle.rl_bindings.specs.declared.event.Bound.{Bound}
use Rattle.rl_bindings.specs.declared.event.ScopeEntry.{ScopeEntry}
use Rattle.rl_semantic.specs.Functions.{entry_at}
use Rattle.rl_resolver.specs.Containing.{functions_at, functions_out, function_scope, listed}
use Rattle.rl_resolver.specs.Inside.{bound_inside, found_from}
use Rattle.rl_syntax.specs.declared.nodes.NodeEntry.{NodeEntry}

step_at : (scopes : List ScopeEntry) (symbols : List Bound) (ancestor : ScopeId) (name scope n : ℕ) (xs : List ScopeEntry) → n < length xs
    → found_from scopes symbols ancestor name scope (drop n xs) ≡ option_or (bound_inside scopes symbols ancestor name scope) (found_from scopes symbols ancestor name (scope + 1) (drop (suc n) xs))
step_at scopes symbols ancestor name scope n [] within = absurd (omega (arith, within))
step_at scopes symbols ancestor name scope zero (x ∷ xs) within = refl
step_at scopes symbols ancestor name scope (suc n) (x ∷ xs) within = step_at scopes symbols ancestor name scope n xs (omega (arith, within))

pub found_step : (scopes : List ScopeEntry) (symbols : List Bound) (ancestor : ScopeId) (name scope : ℕ) → scope < length scopes
    → found_from scopes symbols ancestor name scope (drop scope scopes) ≡ option_or (bound_inside scopes symbols ancestor name scope) (found_from scopes symbols ancestor name (scope + 1) (drop (scope + 1) scopes))
found_step scopes symbols ancestor name scope within = let next : suc scope ≡ scope + 1 = omega arith in
    step_at scopes symbols ancestor name scope scope scopes within
    ∙ ap (λ n. option_or (bound_inside scopes symbols ancestor name scope) (found_from scopes symbols ancestor name (scope + 1) (drop n scopes))) next

pub out_step : (nodes : List NodeEntry) (most : ℕ) (from : Option NodeId) (e : NodeEntry) → 0 < most → entry_at nodes from ≡ Some e
    → functions_out nodes most from ≡ listed (function_scope nodes e) ++ functions_out nodes (most - 1) e.parent
out_step nodes zero from e some is = absurd (omega (arith, some))
out_step nodes (suc most) from e some is = let less : most ≡ suc most - 1 = omega arith in
    ap (functions_at nodes (functions_out nodes most)) is
    ∙ ap (λ n. listed (function_scope nodes e) ++ functions_out nodes n e.parent) less
