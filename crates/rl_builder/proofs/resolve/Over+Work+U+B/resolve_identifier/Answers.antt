use Rattle.std.proofs.Common.{◌≡◌, ℕ, Some, None, false, List, sym, ap, subst, ◌∙◌}
use Rattle.std.proofs.lemmas.Option.{same_Some}
use Rattle.rl_base.specs.Reserved.{is_reserved}
use Rattle.rl_hir.specs.Pairs.{identifier_of}
use Rattle.rl_hir.specs.declared.binding.BindingKind.{BindingKind}
use Rattle.rl_hir.specs.declared.binding.VariableBinding.TheVariants as variable
use Rattle.rl_names.specs.declared.names.Meaning.{Meaning}
use Rattle.rl_names.specs.declared.names.Meaning.TheVariants.{Local}
use Rattle.rl_resolver.specs.SymbolKinds as symbol_kinds
use Rattle.rl_builder.proofs.NameLaws.{identifier_of-resolved}
use Rattle.rl_builder.specs.Builder.{State, state_of, names_of}
use Rattle.rl_builder.specs.Meanings.{converted, variable_of, IsAllowedAt, IsStoppedAt}
use Rattle.rl_builder.specs.Names.{resolved_identifier, IsStopped}
use Rattle.rl_semantic.specs.declared.semantic.Semantic.{Semantic}
use Rattle.rl_builder.proofs.resolve.Over+Work+U+B.resolve_identifier.Goals as goal

pub returns-in-Ok-clause-binding : goal.returns-in-Ok-clause-binding
returns-in-Ok-clause-binding g c =
    let s = state_of g.U.ReadsUnit.tables c.args.self.now in
    let at = c.args.identifier.now.at in
    let symbol = c.in-Local.symbol in
    let meaning : (names_of s).meaning at.reference.0 c.args.identifier.now.name.now ≡ Local symbol = sym c.in_ok-symbol.ensures ∙ c.in-Local.is in
    let number : c.in-Ok.id.0 ≡ resolved_identifier s symbol.0 =
    same_Some c.in-Ok.id.0 (resolved_identifier s symbol.0)
    (sym c.in-Ok.ensures.resolves.identifier ∙ ap (λ (t : State). identifier_of t.bindings symbol.0) c.in-Ok.ensures.resolves.state ∙ identifier_of-resolved s c.as_str-name.result.now symbol.0 (Some at.span)) in
    let kind : c.convert_binding_kind.result ≡ converted (symbol_kinds.binding_kind s.semantic.bindings.symbols symbol.0) = c.convert_binding_kind.ensures ∙ ap converted (c.binding_kind-kind.ensures ∙ ap (λ (m : Semantic). symbol_kinds.binding_kind m.bindings.symbols symbol.0) c.resolver-resolver.ensures) in
    ap (λ (n : ℕ). variable.Identifier (record { 0 = n }) c.convert_binding_kind.result) number
    ∙ ap (λ (k : BindingKind). variable.Identifier (record { 0 = resolved_identifier s symbol.0 }) k) kind
    ∙ ap (variable_of s) (sym meaning)

pub returns-in-Ok-clause-allowed : goal.returns-in-Ok-clause-allowed
returns-in-Ok-clause-allowed g c =
    let s = state_of g.U.ReadsUnit.tables c.args.self.now in
    let at = c.args.identifier.now.at in
    let name = c.args.identifier.now.name.now in
    let symbol = c.in-Local.symbol in
    let meaning : (names_of s).meaning at.reference.0 name ≡ Local symbol = sym c.in_ok-symbol.ensures ∙ c.in-Local.is in
    subst (λ (m : Meaning). IsAllowedAt s m name) (sym meaning)
    (subst (λ (n : List ℕ). identifier_of s.bindings symbol.0 ≡ None → is_reserved n ≡ false) c.as_str-name.ensures c.in-Ok.ensures.resolves.allowed)

pub returns-in-Err-clause-stopped : goal.returns-in-Err-clause-stopped
returns-in-Err-clause-stopped g c d is =
    let s = state_of g.U.ReadsUnit.tables c.args.self.now in
    let at = c.args.identifier.now.at in
    let name = c.args.identifier.now.name.now in
    let symbol = c.in-Local.symbol in
    let meaning : (names_of s).meaning at.reference.0 name ≡ Local symbol = sym c.in_ok-symbol.ensures ∙ c.in-Local.is in
    subst (λ (m : Meaning). IsStoppedAt s m name at.span d) (sym meaning)
    (subst (λ (n : List ℕ). IsStopped s n symbol.0 (Some at.span) d) c.as_str-name.ensures (c.in-Err.ensures.resolves.stopped d is))
