-- A symbol that is looked for and is not there.
use Rattle.std.proofs.Common.{◌≡◌, ℕ, Option, Some, None, List, [], ◌++◌, slice_get, append-nil, ap, sym, ◌∙◌}
use Rattle.rl_bindings.specs.declared.event.Bound.{Bound}
use Rattle.rl_lint.specs.declared.finding.Finding.{Finding}
use Rattle.rl_semantic.specs.Items.{of_item}

pub no_symbol : (out : List Finding) (symbols : List Bound) (f : ℕ → Bound → List Finding) (k : ℕ) (o : Option ℕ) → o ≡ Some k
    → None ≡ slice_get symbols k
    → out ≡ out ++ of_item [] (λ n. of_item [] (f n) (slice_get symbols n)) o
no_symbol out symbols f k o is none =
    sym (append-nil out)
    ∙ ap (λ (b : Option Bound). out ++ of_item [] (f k) b) none
    ∙ ap (λ (p : Option ℕ). out ++ of_item [] (λ n. of_item [] (f n) (slice_get symbols n)) p) (sym is)
