-- Each declaration declares a symbol.
use Rattle.std.proofs.Common.{◌≡◌, ℕ, Bool, true, ◌||◌, is_some, List, [], ◌∷◌, map, All, arith, ap, ◌∙◌}
use Rattle.std.proofs.lemmas.List.Elements.{All-cons}
use Rattle.rl_base.proofs.Bools.{or_true}
use Rattle.rl_bindings.specs.SymbolTables.{knows}
use Rattle.rl_bindings.specs.Symbols.{is_own, is_at, add, add_all, bounds, symbols_of}
use Rattle.rl_bindings.specs.Tables.{declared_by, declarations_of}
use Rattle.rl_bindings.specs.declared.event.Bound.{Bound}
use Rattle.rl_bindings.specs.declared.event.Event.{Event}
use Rattle.rl_bindings.proofs.Checks.{knows-add}
use Rattle.rl_bindings.proofs.SymbolTables.{at_self}

known_still : (bs symbols : List Bound) (own : Bool) (s n : ℕ) → knows symbols own s n ≡ true → knows (add_all symbols bs) own s n ≡ true
known_still [] symbols own s n known = known
known_still (b ∷ bs) symbols own s n known = known_still bs (add symbols b) own s n (knows-add symbols b own s n ∙ ap (λ k. k || is_at own s n b) known)

each_known : (bs symbols : List Bound) → All (λ d. is_some d.symbol ≡ true) (map (declared_by (add_all symbols bs)) bs)
each_known [] symbols = λ k d below. absurd (omega (arith, below))
each_known (b ∷ bs) symbols =
    All-cons (λ d. is_some d.symbol ≡ true) (declared_by (add_all symbols (b ∷ bs)) b) (map (declared_by (add_all symbols (b ∷ bs))) bs)
    (known_still bs (add symbols b) (is_own b.kind) b.scope.0 b.name (knows-add symbols b (is_own b.kind) b.scope.0 b.name ∙ ap (λ k. knows symbols (is_own b.kind) b.scope.0 b.name || k) (at_self b) ∙ or_true (knows symbols (is_own b.kind) b.scope.0 b.name)))
    (each_known bs (add symbols b))

pub each_declared : (es : List Event) → All (λ d. is_some d.symbol ≡ true) (declarations_of (symbols_of es) es)
each_declared es = each_known (bounds es) []
