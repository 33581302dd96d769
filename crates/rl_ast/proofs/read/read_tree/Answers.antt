use Rattle.std.proofs.Common.{◌≡◌, ℕ, ◌≤◌, true, IfNone, subst, sym, ◌∙◌}
use Rattle.std.proofs.lemmas.Bool.{false≢true}
use Rattle.rl_text.specs.Notation as notation
use Rattle.rl_text.specs.Notation.{height}
use Rattle.rl_syntax.specs.Limits.{IsTooLarge}
use Rattle.rl_syntax.specs.Syntax.{Syntax, plain, is_shaped}
use Rattle.rl_ast.proofs.Reading.{none_low}
use Rattle.rl_ast.proofs.read.read_tree.Goals as goal

pub returns-in_default-clause-malformed : goal.returns-in_default-clause-malformed
returns-in_default-clause-malformed c _ =
    let bytes = c.args.bytes.now in
    let small : IsTooLarge bytes → ⊥ = λ large. false≢true (sym c.if-is_too_large.false ∙ c.is_too_large.ensures.1 large) in
    let none : (s : Syntax) → is_shaped s ≡ true → height (plain s) ≤ 513 → notation.Spells bytes (plain s) → ⊥ =
    subst (λ r. IfNone r ((s : Syntax) → is_shaped s ≡ true → height (plain s) ≤ 513 → notation.Spells bytes (plain s) → ⊥)) c.in_default.is c.in_ok-tree.ensures.none in
    (small, λ v spells. none_low bytes v small none spells)
