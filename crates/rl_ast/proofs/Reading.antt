-- The reader of bytes, the limits and the grammar together.
use Rattle.std.proofs.Common.{◌≡◌, ℕ, ◌≤◌, true, false, List, ap, sym, ◌∙◌}
use Rattle.rl_text.specs.Notation as notation
use Rattle.rl_text.specs.Notation.{height}
use Rattle.rl_grammar.specs.Grammar.{fits}
use Rattle.rl_syntax.specs.Limits.{IsTooLarge}
use Rattle.rl_syntax.specs.Syntax.{Syntax, plain, outset, IsPlaced, is_shaped}
use Rattle.rl_ast.specs.Units.{Spells}
use Rattle.rl_grammar.specs.declared.kind.Field.TheVariants as field
use Rattle.rl_grammar.specs.declared.kind.Kind.TheVariants as kind
use Rattle.rl_syntax.proofs.Measured.{small_low, small_short}
use Rattle.rl_grammar.proofs.Shaped.{shaped}

-- A unit within the limits is spelled by no bytes that no low, shaped tree is spelled by.
pub none_low : (bytes : List ℕ) (v : Syntax) → (IsTooLarge bytes → ⊥) → ((s : Syntax) → is_shaped s ≡ true → height (plain s) ≤ 513 → notation.Spells bytes (plain s) → ⊥) → Spells bytes v → ⊥
none_low bytes v small none spells =
    let even : is_shaped v ≡ true = shaped (field.One kind.Unit) v spells.grammar in
    none v even (small_low bytes v even spells.spelled small) spells.spelled

-- No unit is spelled by the bytes of a tree that is no unit of the grammar.
pub none_fits : (bytes : List ℕ) (v t : Syntax) → ((s : Syntax) → notation.Spells bytes (plain s) → IsPlaced outset s → s ≡ t) → fits (field.One kind.Unit) t ≡ false → Spells bytes v → ⊥
none_fits bytes v t unique refused spells =
    let same : v ≡ t = unique v spells.spelled spells.numbers in
    let accepted : fits (field.One kind.Unit) t ≡ true = sym (ap (fits (field.One kind.Unit)) same) ∙ spells.grammar in
    cc

pub ruleset reading = (small_short, none_low, none_fits)
