-- Expressions in parentheses.
use Rattle.std.proofs.Common.{◌≡◌, false, true≢false, refl, subst}
use Rattle.rl_lower_parts.specs.Shapes.{is_parenthesized}
use Rattle.rl_lowered.specs.Forms.{IsInside}
use Rattle.rl_lowered.specs.Forms as forms
use Rattle.rl_model.specs.Applied.{deletes}
use Rattle.rl_model.specs.Shapes.{is_link}
use Rattle.rl_syntax.specs.declared.numbered.At.{At}
use Rattle.rl_syntax.specs.declared.word.Word.TheVariants as word
use Rattle.rl_syntax.specs.Syntax.{Syntax, Node, End, Then}

-- An operand without its parentheses is one that `delete` takes.
pub bare : (e : Syntax) → is_parenthesized e ≡ false → deletes e ≡ is_link e
bare (Node at word.Paren parts) plain = absurd (true≢false plain)
bare _ plain = refl

pub around : {at : At} {e inner tree : Syntax} → Node at word.Paren (Then e End) ≡ tree → IsInside e inner → IsInside tree inner
around {at} {e} {inner} {tree} is inside = subst (λ (n : Syntax). IsInside n inner) is (forms.Around inside)
