use Rattle.std.proofs.Common.{◌≡◌, ◌==◌, true, List, [], ◌∷◌, length, eqb-true, refl, sym, ◌∙◌, arith}
use Rattle.rl_bindings.specs.Checks as check
use Rattle.rl_bindings.specs.declared.event.Bound.{Bound}
use Rattle.rl_bindings.proofs.NameRules.{none_lexical}
use Rattle.rl_bindings.proofs.bindings.passes.Goals as goal

empty : (l : List Bound) → (length l == 0) ≡ true → l ≡ []
empty [] is = refl
empty (x ∷ xs) is = let e = eqb-true (length (x ∷ xs)) 0 is in absurd (omega (arith, e))

pub returns-then-is_empty : goal.returns-then-is_empty
returns-then-is_empty c =
    none_lexical (check.lexical_steps [] c.args.events.now) c.args.events.now
    (sym c.in_ok-lexical.ensures ∙ sym c.as_slice.ensures ∙ empty c.as_slice.result.now (sym c.if-is_empty.ensures))
