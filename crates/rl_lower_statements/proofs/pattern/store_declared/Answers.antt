use Rattle.rl_grammar.specs.Fields.{maybe}
use Rattle.rl_syntax.specs.Syntax.{syntax}
use Rattle.rl_lower_statements.proofs.DeclarationDerivations.{annotation_fits}
use Rattle.rl_lower_statements.proofs.PatternDerivations.{stored_name_ok}
use Rattle.rl_lower_statements.proofs.pattern.store_declared.Goals as goal

pub returns-clause-lowered : goal.returns-clause-lowered
returns-clause-lowered g c =
    stored_name_ok c.args.bind.now.name.now (maybe c.args.bind.now.annotation (λ t. syntax t.tree.now)) c.lower_value_to_temporary.result
    c.args.kind c.args.at c.args.value _
    (annotation_fits (λ t. syntax t.tree.now) c.args.bind.now.annotation (λ t. t.fit)) c.in_ok-identifier.ensures.met
    c.lower_value_to_temporary.ensures.state c.lower_value_to_temporary.ensures.place
