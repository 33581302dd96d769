-- The marked function of a unit, and what is known of a unit without one.
use Rattle.std.proofs.Common.{◌≡◌, Bool, true, false, is_some, unwrap_or, Option, Some, None, List, [], ◌∷◌, ap, sym, refl, ◌∙◌}
use Rattle.std.specs.List.{list_all}
use Rattle.rl_ast.specs.Marked.{first, marked_functions}
use Rattle.rl_context.specs.Sites.{sites_in}
use Rattle.rl_context.specs.Wrapped.{first_from, first_wrapped}
use Rattle.rl_context.specs.declared.site.Site.{Site}
use Rattle.rl_context.specs.declared.site.Site.TheVariants as site
use Rattle.rl_context.specs.declared.site.WrappedSite.{WrappedSite}
use Rattle.rl_model.specs.Applied.{Facts}
use Rattle.rl_model.specs.Code.{lowered_functions}
use Rattle.rl_model.specs.Marked.{marked}
use Rattle.rl_model.specs.Supported.{has_wrapped_target}
use Rattle.rl_rows.specs.Clean.{clear_code, clear_lowered, clear_top}
use Rattle.rl_semantic.specs.Items.{of_item}
use Rattle.rl_syntax.specs.Syntax.{Syntax, Absent}

pub wrapped_before : (sites : List Site) (before : WrappedSite) → is_some (first_from (Some before) sites) ≡ true
wrapped_before [] before = refl
wrapped_before (site.Wrapped w ∷ sites) before = wrapped_before sites _
wrapped_before (site ∷ sites) before = wrapped_before sites before

pub wrapped_found : (w : WrappedSite) (rest all : List Site)
    → is_some (first_wrapped (site.Wrapped w ∷ rest)) ≡ is_some (first_wrapped all) → true ≡ is_some (first_wrapped all)
wrapped_found w rest all e = sym (wrapped_before rest w) ∙ e

pub ruleset wrapping = (wrapped_found)

none_first : {X : Type 0} (xs : List X) → xs ≡ [] → None ≡ first xs
none_first xs is = sym (ap first is)

is_marked : (u m : Syntax) → Some m ≡ first (marked_functions u) → m ≡ marked u
is_marked u m is = ap (λ o. unwrap_or o Absent) is

no_marked : (u : Syntax) → None ≡ first (marked_functions u) → Absent ≡ marked u
no_marked u is = ap (λ o. unwrap_or o Absent) is

pub target_some : (u m : Syntax) (sites : List Site) (r : Bool) → first (marked_functions u) ≡ Some m → sites ≡ sites_in m
    → r ≡ is_some (first_wrapped sites) → r ≡ has_wrapped_target (marked u)
target_some u m sites r is same e =
    e ∙ ap (λ ss. is_some (first_wrapped ss)) same ∙ ap has_wrapped_target (is_marked u m (sym is))

pub target_none : (u : Syntax) → marked_functions u ≡ [] → false ≡ has_wrapped_target (marked u)
target_none u is = ap has_wrapped_target (no_marked u (none_first (marked_functions u) is))

pub ruleset targets = (target_some, target_none)

pub top_some : (f : Facts) (u m : Syntax) (r : Bool) → Some m ≡ first (marked_functions u) → r ≡ clear_top f m → r ≡ clear_top f (marked u)
top_some f u m r is e = e ∙ ap (clear_top f) (is_marked u m is)

pub top_none : (f : Facts) (u : Syntax) → None ≡ first (marked_functions u) → true ≡ clear_top f (marked u)
top_none f u is = ap (clear_top f) (no_marked u is)

pub ruleset tops = (top_some, top_none)

lowered_by : (f : Facts) (o : Option Syntax)
    → list_all (clear_code f) (of_item [] lowered_functions o) ≡ clear_lowered f (unwrap_or o Absent)
lowered_by f None = refl
lowered_by f (Some m) = refl

pub lowered_some : (f : Facts) (u : Syntax) (functions : List Syntax) (r : Bool)
    → functions ≡ of_item [] lowered_functions (first (marked_functions u)) → r ≡ list_all (clear_code f) functions
    → r ≡ clear_lowered f (marked u)
lowered_some f u functions r is e = e ∙ ap (list_all (clear_code f)) is ∙ lowered_by f (first (marked_functions u))

pub ruleset lowered = (lowered_some)
