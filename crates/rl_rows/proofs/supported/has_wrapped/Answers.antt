use Rattle.std.proofs.Common.{◌≡◌, is_some, suc, List, ◌∷◌, drop, ap, sym, ◌∙◌}
use Rattle.std.proofs.Math.Seq.{drop-cons}
use Rattle.rl_context.specs.Wrapped.{first_wrapped}
use Rattle.rl_context.specs.declared.site.Site.{Site}
use Rattle.rl_context.specs.declared.site.Site.TheVariants as site
use Rattle.rl_rows.proofs.Clean.{wrapped_found}
use Rattle.rl_rows.proofs.supported.has_wrapped.Goals as goal

pub returns-in-Wrapped : goal.returns-in-Wrapped
returns-in-Wrapped c =
    let sites = c.args.sites.now in
    let i = c.sites.site-index in
    let rest = drop (suc i) sites in
    let split : drop i sites ≡ site.Wrapped c.in-Wrapped.field-0 ∷ rest =
    drop-cons sites i _ c.sites-test.true ∙ ap (λ (s : Site). s ∷ rest) c.in-Wrapped.is in
    wrapped_found c.in-Wrapped.field-0 rest sites (ap (λ (ss : List Site). is_some (first_wrapped ss)) (sym split) ∙ c.sites.invariant)
