-- The tables of a function's shared variables, and wrapped targets.
use Rattle.std.proofs.Common.{◌≡◌, ℕ, Bool, true, ◌&&◌, ◌||◌, Option, Some, None, is_some, List, [], ◌∷◌}
use Rattle.std.proofs.Common.{option_map, ap, refl, ◌∙◌}
use Rattle.std.specs.List.{list_any}
use Rattle.rl_base.specs.declared.diagnostic.Diagnostic.{Diagnostic}
use Rattle.rl_bindings.specs.declared.bindings.Bindings.{Bindings}
use Rattle.rl_context.specs.Context.{assigns, captures, is_context}
use Rattle.rl_context.specs.Sites.{sites_in}
use Rattle.rl_context.specs.Wrapped.{diagnostic_of, first_wrapped, stop_among}
use Rattle.rl_context.specs.declared.site.Site.{Site}
use Rattle.rl_context.specs.declared.site.Site.TheVariants as site
use Rattle.rl_context.specs.declared.site.WrappedSite.{WrappedSite}
use Rattle.rl_markers.specs.Named.{bare}
use Rattle.rl_model.specs.Supported.{has_wrapped_target}
use Rattle.rl_syntax.specs.Syntax.{Syntax}

-- Context identifiers do not depend on what is known of the binding rules.
assigns_bare : (b : Bindings) (symbol : ℕ) (s : Site) → assigns (bare b) symbol s ≡ assigns b symbol s
assigns_bare b symbol (site.Reference r) = refl
assigns_bare b symbol (site.Declaration d) = refl
assigns_bare b symbol (site.Wrapped w) = refl

captures_bare : (b : Bindings) (symbol : ℕ) (s : Site) → captures (bare b) symbol s ≡ captures b symbol s
captures_bare b symbol (site.Reference r) = refl
captures_bare b symbol (site.Declaration d) = refl
captures_bare b symbol (site.Wrapped w) = refl

any_same : (p q : Site → Bool) → ((s : Site) → p s ≡ q s) → (ss : List Site) → list_any p ss ≡ list_any q ss
any_same p q same [] = refl
any_same p q same (s ∷ ss) = ap (λ b. b || list_any p ss) (same s) ∙ ap (λ b. q s || b) (any_same p q same ss)

pub context_bare : (b : Bindings) (ss : List Site) (symbol : ℕ) → is_context (bare b) ss symbol ≡ is_context b ss symbol
context_bare b ss symbol =
    ap (λ x. x || (list_any (assigns (bare b) symbol) ss && list_any (captures (bare b) symbol) ss))
    (any_same (λ s. assigns (bare b) symbol s && captures (bare b) symbol s) (λ s. assigns b symbol s && captures b symbol s)
    (λ s. ap (λ x. x && captures (bare b) symbol s) (assigns_bare b symbol s) ∙ ap (λ x. assigns b symbol s && x) (captures_bare b symbol s)) ss)
    ∙ ap (λ x. list_any (λ s. assigns b symbol s && captures b symbol s) ss || (x && list_any (captures (bare b) symbol) ss))
    (any_same (assigns (bare b) symbol) (assigns b symbol) (assigns_bare b symbol) ss)
    ∙ ap (λ x. list_any (λ s. assigns b symbol s && captures b symbol s) ss || (list_any (assigns b symbol) ss && x))
    (any_same (captures (bare b) symbol) (captures b symbol) (captures_bare b symbol) ss)

some_wrapped : (found : Option WrappedSite) (diagnostic : Diagnostic) → option_map diagnostic_of found ≡ Some diagnostic → is_some found ≡ true
some_wrapped (Some w) diagnostic is = refl
some_wrapped None diagnostic is = absurd (cc)

-- A diagnostic tells of a wrapped target.
pub wrapped : (function : Syntax) (diagnostic : Diagnostic) → stop_among (sites_in function) ≡ Some diagnostic
    → has_wrapped_target function ≡ true
wrapped function diagnostic is = some_wrapped (first_wrapped (sites_in function)) diagnostic is
