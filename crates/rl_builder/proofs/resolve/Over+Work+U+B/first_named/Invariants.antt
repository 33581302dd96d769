use Rattle.std.proofs.Common.{◌≡◌}
use Rattle.rl_builder.specs.Builder.{state_of}
use Rattle.rl_builder.specs.FunctionNames.{first_named}
use Rattle.rl_resolver.specs.Listed.{bindings_in}
use Rattle.rl_builder.proofs.resolve.Over+Work+U+B.first_named.Given as goal

-- The first of the symbols that are left is the first of all.
abbrev pub invariant-symbols : goal.invariant-symbols
invariant-symbols g l =
    (goal.iterator-symbols g).can_next l.symbols × (goal.iterator-symbols g).is_finite l.symbols ×
    (first_named (state_of g.U.ReadsUnit.tables l.self) l.name l.symbols.left.now ≡ first_named (state_of g.U.ReadsUnit.tables l.self) l.name (bindings_in (state_of g.U.ReadsUnit.tables l.self).semantic.bindings.scopes (state_of g.U.ReadsUnit.tables l.self).semantic.bindings.symbols l.fn.scope.0))
