-- A function of each form has one rule, wherever the grammar lets it stand.
use Rattle.std.proofs.Common.{◌≡◌, true}
use Rattle.rl_grammar.specs.Grammar.{each}
use Rattle.rl_grammar.specs.Rules.{rule}
use Rattle.rl_syntax.specs.Syntax.{Pieces}
use Rattle.rl_grammar.specs.declared.kind.Kind.{Kind}
use Rattle.rl_grammar.specs.declared.kind.Kind.TheVariants as kind
use Rattle.rl_syntax.specs.declared.word.Word.TheVariants as word

pub arrow_fits : (k : Kind) (ps : Pieces) → each (rule k word.Arrow) ps ≡ true → each (rule kind.Arrow word.Arrow) ps ≡ true
arrow_fits kind.Text ps h = absurd (cc)
arrow_fits _ ps h = cc

pub declaration_fits : (k : Kind) (ps : Pieces) → each (rule k word.Fundecl) ps ≡ true → each (rule kind.FunctionDeclaration word.Fundecl) ps ≡ true
declaration_fits kind.Text ps h = absurd (cc)
declaration_fits _ ps h = cc

pub expression_fits : (k : Kind) (ps : Pieces) → each (rule k word.Funexpr) ps ≡ true → each (rule kind.FunctionExpression word.Funexpr) ps ≡ true
expression_fits kind.Text ps h = absurd (cc)
expression_fits _ ps h = cc
