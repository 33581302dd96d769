use Rattle.rl_syntax.specs.Syntax.{syntax}
use Rattle.rl_lower_statements.proofs.DeclarationDerivations.{annotation_fits, initialized_ok}
use Rattle.rl_lower_statements.proofs.declaration.lower_initialized.Goals as goal

pub returns-clause-lowered : goal.returns-clause-lowered
returns-clause-lowered g c =
    initialized_ok c.args.span _ (annotation_fits (λ t. syntax t.tree.now) c.args.bind.now.annotation (λ t. t.fit))
    c.in_ok-value.ensures.lowered c.in_ok-identifier.ensures.found c.in_ok-lower_value_to_temporary.ensures.state
