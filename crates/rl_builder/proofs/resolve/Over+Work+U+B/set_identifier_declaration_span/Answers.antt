use Rattle.std.proofs.Common.{sym, subst}
use Rattle.rl_used_names.proofs.KeptNames.{AreNamed-spanned}
use Rattle.rl_builder.specs.Builder.{state_of}
use Rattle.rl_used_names.specs.IdentifierNames.{AreNamed}
use Rattle.rl_hir.specs.declared.environment.Environment.{Environment}
use Rattle.rl_builder.proofs.resolve.Over+Work+U+B.set_identifier_declaration_span.Goals as goal

pub returns-clause-names : goal.returns-clause-names
returns-clause-names g c agree =
    let s = state_of g.U.ReadsUnit.tables c.args.self.now in
    subst (λ (e : Environment). AreNamed s.bindings s.used_names e.identifiers) (sym c.set_span.ensures) (AreNamed-spanned s.bindings s.used_names s.env.identifiers c.args.id.0 c.args.span c.requires agree)
