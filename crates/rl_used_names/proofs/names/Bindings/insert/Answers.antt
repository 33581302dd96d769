use Rattle.std.proofs.Common.{◌++◌, [], ◌∷◌, map, ap, ◌∙◌}
use Rattle.std.proofs.lemmas.List.{map-append}
use Rattle.indexmap.proofs.CallerLemmas.{insert_entry-new}
use Rattle.rl_base.specs.declared.ids.IdentifierId.{IdentifierId}
use Rattle.rl_hir.specs.Pairs.{identifier_of}
use Rattle.rl_used_names.proofs.NameEntries.{identifier_of-entries, none-option_map}
use Rattle.rl_used_names.specs.UsedName.{pair_of}
use Rattle.rl_used_names.proofs.names.Bindings.insert.Goals as goal

pub returns : goal.returns
returns c =
    let before = c.self.inside.identifiers in
    let none = none-option_map (λ (i : IdentifierId). i.0) _ (identifier_of-entries before.entries c.args.symbol ∙ ap (λ pairs. identifier_of pairs c.args.symbol.0) c.self.view_is ∙ c.requires) in
    ap (map pair_of) (c.in_ok-insert.ensures.entries ∙ insert_entry-new _ before c.args.symbol c.args.identifier none)
    ∙ map-append pair_of before.entries ((c.args.symbol, c.args.identifier) ∷ [])
    ∙ ap (λ pairs. pairs ++ record { symbol = c.args.symbol; identifier = c.args.identifier } ∷ []) c.self.view_is
