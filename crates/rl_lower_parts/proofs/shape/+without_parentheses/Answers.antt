use Rattle.rl_lowered.specs.Forms as forms
use Rattle.rl_lower_parts.proofs.shape.+without_parentheses.Goals as goal

pub returns-then-not-is_parenthesized-clause-inside : goal.returns-then-not-is_parenthesized-clause-inside
returns-then-not-is_parenthesized-clause-inside t c = forms.Bare
