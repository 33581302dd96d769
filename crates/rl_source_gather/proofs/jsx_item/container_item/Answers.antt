use Rattle.rl_grammar.specs.Fields.{maybe}
use Rattle.rl_source_gather.proofs.Markup.{emptied, filled}
use Rattle.rl_source_gather.specs.Items.{IsContained}
use Rattle.rl_source_gather.specs.declared.jsx_item.Item.TheVariants as items
use Rattle.rl_source_stack.specs.States.{state_of}
use Rattle.rl_syntax.specs.Syntax.{syntax}
use Rattle.std.proofs.Common.{refl, subst, sym}
use Rattle.rl_source_gather.proofs.jsx_item.container_item.Goals as goal

pub returns-in-Some : goal.returns-in-Some
returns-in-Some c =
    subst (λ o. IsContained (state_of c.args.run.now).scene c.args.at (maybe o (λ t. syntax t.tree.now))
    (items.Expression c.in-Some.expression)) (sym c.in-Some.is)
    (filled (state_of c.args.run.now).scene c.args.at (syntax c.in-Some.expression.tree.now)
    (items.Expression c.in-Some.expression) c.in-Some.expression.fit refl refl)

pub returns-in-None : goal.returns-in-None
returns-in-None c =
    subst (λ o. IsContained (state_of c.args.run.now).scene c.args.at (maybe o (λ t. syntax t.tree.now)) items.Nothing)
    (sym c.in-None.is)
    (emptied (state_of c.args.run.now).scene c.args.at)
