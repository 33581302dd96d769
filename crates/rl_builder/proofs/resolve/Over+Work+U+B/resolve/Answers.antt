use Rattle.std.proofs.Common.{ℕ, Err, List, Option, sym, ap, ◌∙◌}
use Rattle.std.specs.Option.{option_map}
use Rattle.rl_base.specs.declared.ids.IdentifierId.{IdentifierId}
use Rattle.rl_builder.proofs.Kept.{kept_alone}
use Rattle.rl_builder.proofs.Resolving.{known_none, resolves_fresh, resolves_known, resolves_reserved}
use Rattle.rl_builder.specs.Builder.{State}
use Rattle.rl_builder.specs.Names.{reserved_label}
use Rattle.rl_used_names.specs.IdentifierNames.{reserved_diagnostic}
use Rattle.rl_builder.proofs.resolve.Over+Work+U+B.resolve.Goals as goal

pub returns-in-Some-clause-resolves : goal.returns-in-Some-clause-resolves
returns-in-Some-clause-resolves g c =
    resolves_known _ _ _ _ _ c.in-Some.identifier _ (sym c.get-known.ensures) (ap (λ (o : Option IdentifierId). option_map (λ i. i.0) o) c.in-Some.is) c.in_ok-refuse_fbt.ensures.state

pub returns-then-is_always_reserved_word-clause-resolves : goal.returns-then-is_always_reserved_word-clause-resolves
returns-then-is_always_reserved_word-clause-resolves g c =
    let label = c.reserved_label-label.ensures ∙ ap (λ (t : State). reserved_label t c.args.symbol.0 c.args.given) c.in_ok-refuse_fbt.ensures.state in
    resolves_reserved _ _ _ _ _ c.in_ok-diagnostic.diagnostic _ (sym c.get-known.ensures) (known_none _ c.in_default.not-Some)
    (sym c.is_always_reserved_word.ensures ∙ c.if-is_always_reserved_word.true) c.in_ok-refuse_fbt.ensures.state
    (c.in_ok-diagnostic.ensures ∙ ap (λ (n : List ℕ). reserved_diagnostic n c.reserved_label-label.result) c.in_ok-name.ensures ∙ ap (reserved_diagnostic c.args.name.now) label)

pub returns-clause-resolves : goal.returns-clause-resolves
returns-clause-resolves g c =
    resolves_fresh _ _ _ _ _ _ c.in_ok-add_binding.field-0 _ (sym c.get-known.ensures) (known_none _ c.in_default.not-Some)
    (sym c.is_always_reserved_word.ensures ∙ c.if-is_always_reserved_word.false) c.in_ok-refuse_fbt.ensures.state c.in_ok-add_binding.ensures.state c.in_ok-add_binding.ensures.identifier c.in_ok-add_binding.ensures.names

pub returns-then-is_always_reserved_word-clause-kept : goal.returns-then-is_always_reserved_word-clause-kept
returns-then-is_always_reserved_word-clause-kept g c =
    let kept = c.in_ok-refuse_fbt.ensures.kept in
    kept_alone _ _ (Err _) kept.same_reference kept.handlers kept.scopes
