use Rattle.std.proofs.Common.{◌≡◌, ◌<◌, [], true, is_some, length, All, IfSome, ap, sym, subst, ◌∙◌}
use Rattle.std.specs.List.{list_any}
use Rattle.rl_bindings.specs.Checks.{steps, start, lexical_steps}
use Rattle.rl_bindings.specs.Machines.{resolved}
use Rattle.rl_bindings.specs.NameRules.{is_passing}
use Rattle.rl_bindings.specs.Standing.{references}
use Rattle.rl_bindings.specs.Tables.{references_in, events_in, scopes_of}
use Rattle.rl_bindings.proofs.Declarations.{each_declared}
use Rattle.rl_bindings.proofs.SymbolIndices.{references_within}
use Rattle.rl_bindings.proofs.Tables.{scopes_made, symbols_made, declarations_made, found_within, references_made, broken_made}
use Rattle.rl_syntax.specs.Syntax.{syntax}
use Rattle.rl_bindings.proofs.bindings.Bindings.of.Goals as goal

pub returns-clause-scopes : goal.returns-clause-scopes
returns-clause-scopes c =
    scopes_made (syntax c.args.unit.now.tree) c.in_ok-walked.walked.names c.in_ok-walked.walked.events.items c.in_ok-found.found c.in_ok-walked.ensures.names c.in_ok-walked.ensures.events
    (c.in_ok-found.ensures ∙ ap (steps start) c.deref.ensures.value)
    c.in_ok-scopes.scopes (c.in_ok-scopes.ensures ∙ ap scopes_of c.deref-4.ensures.value)

pub returns-clause-symbols : goal.returns-clause-symbols
returns-clause-symbols c =
    symbols_made (syntax c.args.unit.now.tree) c.in_ok-walked.walked.names c.in_ok-walked.walked.events.items c.in_ok-found.found c.in_ok-walked.ensures.names c.in_ok-walked.ensures.events
    (c.in_ok-found.ensures ∙ ap (steps start) c.deref.ensures.value)

pub returns-clause-declarations : goal.returns-clause-declarations
returns-clause-declarations c =
    declarations_made (syntax c.args.unit.now.tree) c.in_ok-walked.walked.names c.in_ok-walked.walked.events.items c.in_ok-found.found c.in_ok-walked.ensures.names c.in_ok-walked.ensures.events
    (c.in_ok-found.ensures ∙ ap (steps start) c.deref.ensures.value)

pub returns-clause-references : goal.returns-clause-references
returns-clause-references c =
    references_made (syntax c.args.unit.now.tree) c.in_ok-walked.walked.names c.in_ok-walked.walked.events.items c.in_ok-found.found c.in_ok-walked.ensures.names c.in_ok-walked.ensures.events
    (c.in_ok-found.ensures ∙ ap (steps start) c.deref.ensures.value)
    c.in_ok-resolved.resolved.references
    (c.in_ok-resolved.ensures.references ∙ ap (λ e. references (resolved c.in_ok-found.found.symbols e)) c.deref-3.ensures.value)

pub returns-clause-least_broken : goal.returns-clause-least_broken
returns-clause-least_broken c =
    broken_made (syntax c.args.unit.now.tree) c.in_ok-walked.walked.names c.in_ok-walked.walked.events.items c.in_ok-found.found c.in_ok-walked.ensures.names c.in_ok-walked.ensures.events
    (c.in_ok-found.ensures ∙ ap (steps start) c.deref.ensures.value)
    c.in_ok-passing.passing c.least-broken.result
    (c.in_ok-passing.ensures ∙ ap (λ e. list_any (is_passing (lexical_steps [] e)) (resolved (lexical_steps [] e) e)) c.deref-2.ensures.value)
    c.least-broken.ensures

pub returns-clause-declared : goal.returns-clause-declared
returns-clause-declared c =
    subst (All (λ d. is_some d.symbol ≡ true)) (sym (returns-clause-declarations c)) (each_declared (events_in (syntax c.args.unit.now.tree)))

pub returns-clause-declarations_within : goal.returns-clause-declarations_within
returns-clause-declarations_within c =
    found_within (syntax c.args.unit.now.tree) c.in_ok-walked.walked.names c.in_ok-walked.walked.events.items c.in_ok-found.found c.in_ok-walked.ensures.names c.in_ok-walked.ensures.events
    (c.in_ok-found.ensures ∙ ap (steps start) c.deref.ensures.value)

pub returns-clause-references_within : goal.returns-clause-references_within
returns-clause-references_within c =
    let tree = syntax c.args.unit.now.tree in
    subst (All (λ r. IfSome r.symbol (λ k. k < length c.in_ok-found.found.symbols))) (sym (returns-clause-references c))
    (subst (λ l. All (λ r. IfSome r.symbol (λ k. k < length l)) (references_in tree)) (sym (returns-clause-symbols c)) (references_within tree))
