use Rattle.rl_syntax.specs.Syntax.{syntax}
use Rattle.rl_lower_statements.proofs.DeclarationDerivations.{annotation_fits}
use Rattle.rl_lower.proofs.ParamDerivations.{named_param}
use Rattle.rl_lower.proofs.params.lower_named.Goals as goal

pub returns-clause-lowered : goal.returns-clause-lowered
returns-clause-lowered g c =
    named_param c.args.at (annotation_fits (λ t. syntax t.tree.now) c.args.bind.now.annotation (λ t. t.fit))
    c.in_ok-identifier.ensures.found
