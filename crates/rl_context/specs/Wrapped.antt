-- The wrapped targets of a function, which end its lowering.
use Rattle.std.specs.Prelude.{ℕ, if◌then◌else◌, nat_lt, Option, Some, None, List, [], ◌∷◌, codes}
use Rattle.std.specs.Option.{option_map}
use Rattle.rl_base.specs.Diagnostics.{diagnostic_at}
use Rattle.rl_base.specs.declared.diagnostic.Diagnostic.{Diagnostic}
use Rattle.rl_base.specs.declared.row.Row.TheVariants as row
use Rattle.rl_context.specs.declared.site.Site.{Site}
use Rattle.rl_context.specs.declared.site.Site.TheVariants as site
use Rattle.rl_context.specs.declared.site.WrappedSite.{WrappedSite}
use Rattle.rl_context.specs.declared.site.Wrapper.{Wrapper}
use Rattle.rl_context.specs.declared.site.Wrapper.TheVariants as wrapper

-- The first of two wrapped targets, if there is one before `w`: that of the `assign` that opens first; of one `assign`, the one
-- before. Ids of nodes are in the order in which they open.
abbrev pub first_of : (before : Option WrappedSite) → (w : WrappedSite) → WrappedSite
first_of None w = w
first_of (Some before) w = if nat_lt w.assignment.0 before.assignment.0 then w else before

-- The first of the wrapped targets among sites, if `before` is the first of those before them.
abbrev pub first_from : (before : Option WrappedSite) → List Site → Option WrappedSite
first_from before [] = before
first_from before (site.Wrapped w ∷ ss) = first_from (Some (first_of before w)) ss
first_from before (_ ∷ ss) = first_from before ss

-- The first of the wrapped targets in the first `assign` that has one. None if no target is wrapped.
abbrev pub first_wrapped : List Site → Option WrappedSite
first_wrapped ss = first_from None ss

-- The name of a wrapper, in the words of the original.
abbrev pub wrapper_name : Wrapper → List ℕ
wrapper_name wrapper.As = codes "TSAsExpression"
wrapper_name wrapper.Satisfies = codes "TSSatisfiesExpression"
wrapper_name wrapper.Assert = codes "TSTypeAssertion"
wrapper_name wrapper.NonNull = codes "TSNonNullExpression"

abbrev pub diagnostic_of : WrappedSite → Diagnostic
diagnostic_of w = diagnostic_at row.S3 (wrapper_name w.wrapper) w.span

-- The diagnostic of a function with these sites: that of its first wrapped target. None if it has none.
abbrev pub stop_among : List Site → Option Diagnostic
stop_among ss = option_map diagnostic_of (first_wrapped ss)
