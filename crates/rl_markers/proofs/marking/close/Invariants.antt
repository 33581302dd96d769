use Rattle.std.proofs.Common.{◌≡◌, ℕ, ◌||◌, drop}
use Rattle.rl_markers.specs.Named.{has}
use Rattle.rl_model.specs.Code.{contains}
use Rattle.rl_markers.proofs.marking.close.Given as goal

abbrev pub invariant-symbols : goal.invariant-symbols
invariant-symbols l =
    (symbol : ℕ) → (has l.closed symbol || contains (drop l.symbol-index l.symbols) symbol) ≡ (has l.initial.closed symbol || contains l.symbols symbol)
