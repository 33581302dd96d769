use Rattle.std.proofs.Common.{sym, subst}
use Rattle.rl_used_names.proofs.KeptNames.{AreNamed-merged_names}
use Rattle.rl_builder.specs.Builder.{state_of}
use Rattle.rl_used_names.specs.IdentifierNames.{AreNamed}
use Rattle.rl_builder.proofs.resolve.Over+Work+U+B.merge_used_names.Goals as goal

pub returns-clause-names : goal.returns-clause-names
returns-clause-names g c agree =
    let s = state_of g.U.ReadsUnit.tables c.args.self.now in
    subst (λ used. AreNamed s.bindings used s.env.identifiers) (sym c.in_ok-merge.ensures) (AreNamed-merged_names s.bindings s.used_names c.args.child s.env.identifiers agree)
