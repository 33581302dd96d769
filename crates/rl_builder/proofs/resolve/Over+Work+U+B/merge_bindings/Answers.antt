use Rattle.std.proofs.Common.{sym, subst}
use Rattle.rl_used_names.proofs.KeptNames.{AreNamed-merged_bindings}
use Rattle.rl_builder.specs.Builder.{state_of}
use Rattle.rl_used_names.specs.IdentifierNames.{AreNamed}
use Rattle.rl_builder.proofs.resolve.Over+Work+U+B.merge_bindings.Goals as goal

pub returns-clause-names : goal.returns-clause-names
returns-clause-names g c inner agree =
    let s = state_of g.U.ReadsUnit.tables c.args.self.now in
    subst (λ bindings. AreNamed bindings s.used_names s.env.identifiers) (sym c.in_ok-merge.ensures) (AreNamed-merged_bindings s.bindings c.args.child s.used_names s.env.identifiers inner agree)
