use Rattle.std.proofs.Common.{◌≡◌, ◌++◌, [], ◌∷◌, None, length, ap, sym, subst, ◌∙◌}
use Rattle.rl_hir.specs.Pairs.{identifier_of, pair}
use Rattle.rl_hir.specs.declared.environment.Environment.{Environment}
use Rattle.rl_builder.proofs.NameLaws.{env_resolved-fresh, NamesAgree-with_binding}
use Rattle.rl_used_names.proofs.NameLaws.{identifier_of-last}
use Rattle.rl_builder.specs.Builder.{state_of}
use Rattle.rl_builder.specs.Names.{env_resolved, new_span, renames_among, renames_of, NamesAgree}
use Rattle.rl_used_names.specs.Choosing.{chosen, with_user, IsFree}
use Rattle.rl_resolver.specs.Listed.{reference_ids}
use Rattle.rl_semantic.specs.declared.semantic.Semantic.{Semantic}
use Rattle.rl_builder.proofs.resolve.Over+Work+U+B.add_binding.Goals as goal

pub returns-clause-state : goal.returns-clause-state
returns-clause-state g c =
    let s = state_of g.U.ReadsUnit.tables c.args.self.now in
    let symbol = c.args.symbol in
    let name = c.args.name.now in
    let identifier = c.in_ok-identifier.identifier in
    let free = chosen s.used_names symbol.0 name in
    let text : c.in_ok-free.free ≡ free = c.in_ok-free.ensures.chosen in
    let span = c.new_span-span.result in
    let references = c.reference_ids-references.result.now in
    let env : c.set_name.new.self ≡ env_resolved None s.env free symbol.0 (new_span s symbol.0 c.args.given) (renames_of s name free symbol.0) =
    env_resolved-fresh s.env c.add_renames.new.env c.new_temporary.new.env c.add_pair.new.self c.set_name.new.self symbol identifier c.in_ok-free.free span (renames_among references name c.in_ok-free.free)
    c.in_ok-add_renames.ensures c.in_ok-identifier.ensures.ok c.in_ok-identifier.ensures.id c.in_ok-add_pair.ensures.ok c.set_name.ensures
    ∙ ap (λ word. env_resolved None s.env word symbol.0 span (renames_among references name word)) text
    ∙ ap (λ new. env_resolved None s.env free symbol.0 new (renames_among references name free)) c.new_span-span.ensures
    ∙ ap (λ all. env_resolved None s.env free symbol.0 (new_span s symbol.0 c.args.given) (renames_among all name free)) (c.reference_ids-references.ensures ∙ ap (λ (m : Semantic). reference_ids m.bindings.symbols m.bindings.references symbol.0) c.resolver.ensures) in
    let next = c.in_ok-identifier.ensures.id ∙ ap (λ (e : Environment). length e.identifiers) c.in_ok-add_renames.ensures in
    let bindings : c.insert.new.self ≡ s.bindings ++ pair symbol.0 (length s.env.identifiers) ∷ [] =
    c.in_ok-insert.ensures ∙ ap (λ place. s.bindings ++ pair symbol.0 place ∷ []) next in
    let used : c.claim.new.self ≡ with_user s.used_names free symbol.0 =
    c.in_ok-free.ensures.used ∙ ap (λ word. with_user s.used_names word symbol.0) text in
    λ i. record s { env = env i; bindings = bindings i; used_names = used i }

pub returns-clause-identifier : goal.returns-clause-identifier
returns-clause-identifier g c =
    let symbol = c.args.symbol.0 in
    ap (λ pairs. identifier_of pairs symbol) c.in_ok-insert.ensures
    ∙ identifier_of-last c.args.self.now.work.bindings symbol c.in_ok-identifier.identifier.0 c.requires.fresh

pub returns-clause-names : goal.returns-clause-names
returns-clause-names g c agree =
    let s = state_of g.U.ReadsUnit.tables c.args.self.now in
    let symbol = c.args.symbol.0 in
    let text : c.in_ok-free.free ≡ chosen s.used_names symbol c.args.name.now = c.in_ok-free.ensures.chosen in
    subst NamesAgree (sym (returns-clause-state g c)) (NamesAgree-with_binding s c.args.name.now symbol c.args.given (subst (IsFree s.used_names symbol) text c.in_ok-free.ensures.free) agree)
