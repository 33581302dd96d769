use Rattle.std.proofs.Common.{ℕ, List, Some, ap, ◌∙◌}
use Rattle.rl_grammar.specs.Fields.{maybe}
use Rattle.rl_lower_parts.proofs.PropertyDerivations.{short_direct, short_told}
use Rattle.rl_names.specs.Seen.{seen}
use Rattle.rl_syntax.specs.Syntax.{Syntax, Node, Said, End, Then, syntax}
use Rattle.rl_syntax.specs.declared.word.Word.TheVariants as word
use Rattle.rl_lower_parts.proofs.target_items.take_short.Goals as goal

pub take_part-requires-clause-direct : goal.take_part-requires-clause-direct
take_part-requires-clause-direct g c =
    short_direct (seen c.args.names.now) c.args.forced c.args.at (maybe c.args.default (λ t. syntax t.tree.now))
    c.identifier_reference_view-identifier.ensures c.requires.direct

pub returns-in-Some-clause-taken : goal.returns-in-Some-clause-taken
returns-in-Some-clause-taken g c =
    short_told
    (ap (λ (text : List ℕ). Node c.identifier_reference_view-identifier.result.at word.Id (Then (Said text) End)) c.in_ok-key.ensures
    ∙ c.identifier_reference_view-identifier.ensures)
    c.short_part-part.ensures c.requires.names c.requires.direct
    (ap (λ (e : Syntax). Some e) c.identifier_reference_view-identifier.ensures) c.in_ok-place.ensures.taken c.in-Some.is

pub returns-in-None-clause-taken : goal.returns-in-None-clause-taken
returns-in-None-clause-taken g c =
    short_told
    (ap (λ (text : List ℕ). Node c.identifier_reference_view-identifier.result.at word.Id (Then (Said text) End)) c.in_ok-key.ensures
    ∙ c.identifier_reference_view-identifier.ensures)
    c.short_part-part.ensures c.requires.names c.requires.direct
    (ap (λ (e : Syntax). Some e) c.identifier_reference_view-identifier.ensures) c.in_ok-place.ensures.taken c.in-None.is
