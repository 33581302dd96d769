use Rattle.std.proofs.Common.{◌≡◌, ◌+◌, Some, None, List, [], ◌∷◌, ◌++◌, length, ap, sym, ◌∙◌}
use Rattle.rl_base.specs.declared.ids.IdentifierId.{IdentifierId}
use Rattle.rl_base.specs.declared.span.Span.{Span}
use Rattle.rl_hir.specs.Identifiers.{changed_at, with_span}
use Rattle.rl_hir.specs.declared.environment.Environment.{Environment}
use Rattle.rl_hir.specs.declared.function.Identifier.{Identifier}
use Rattle.rl_used_names.proofs.NameLaws.{changed_at-last}
use Rattle.rl_builder.specs.Builder.{one_identifier_more}
use Rattle.rl_builder.proofs.builder.new_temporary.Goals as goal

-- An identifier that was added and then given its span is one more identifier with that span.
spanned : (old made new : Environment) (identifier : IdentifierId) (span : Span)
    → made ≡ one_identifier_more old None
    → identifier.0 ≡ length old.identifiers
    → new ≡ record made { identifiers = changed_at (with_span span) identifier.0 made.identifiers }
    → new ≡ one_identifier_more old (Some span)
spanned old made new identifier span is_made is_next is_new =
    let bare : Identifier = record { name = None; span = None; type_id = record { 0 = old.next_type } } in
    let after : List Identifier → Environment = λ identifiers. record old { next_type = old.next_type + 1; identifiers = identifiers } in
    is_new
    ∙ ap (λ (e : Environment). record e { identifiers = changed_at (with_span span) identifier.0 e.identifiers }) is_made
    ∙ ap (λ index. after (changed_at (with_span span) index (old.identifiers ++ bare ∷ []))) is_next
    ∙ ap after (changed_at-last (with_span span) old.identifiers bare)

pub returns-in-Some-clause-ok : goal.returns-in-Some-clause-ok
returns-in-Some-clause-ok c =
    spanned c.args.env.now c.next_identifier_id.new.self c.set_span.new.self c.in_ok-identifier.identifier c.in-Some.span c.in_ok-identifier.ensures.ok c.in_ok-identifier.ensures.id c.set_span.ensures
    ∙ ap (one_identifier_more c.args.env.now) (sym c.in-Some.is)
