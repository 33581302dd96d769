use Rattle.std.proofs.Common.{ap, ◌∙◌}
use Rattle.std.specs.Option.{option_map}
use Rattle.rl_base.specs.declared.ids.IdentifierId.{IdentifierId}
use Rattle.rl_hir.specs.Pairs.{identifier_of}
use Rattle.rl_used_names.proofs.NameEntries.{identifier_of-entries}
use Rattle.rl_used_names.proofs.names.Bindings.get.Goals as goal

pub returns : goal.returns
returns c =
    ap (option_map (λ (i : IdentifierId). i.0)) (c.copied.ensures ∙ c.get.ensures.value)
    ∙ identifier_of-entries c.self.inside.identifiers.entries c.args.symbol
    ∙ ap (λ pairs. identifier_of pairs c.args.symbol.0) c.self.view_is
