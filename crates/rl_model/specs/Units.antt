-- Well-formed units and their names.
use Rattle.std.specs.Prelude.{◌≡◌, ℕ, None, List}
use Rattle.rl_ast.specs.Units.{Spells}
use Rattle.rl_names.specs.Names.{Names, function_names}
use Rattle.rl_model.specs.Marked.{marked}
use Rattle.rl_semantic.specs.Rules.{least_broken}
use Rattle.rl_syntax.specs.Syntax.{Syntax}

-- The bytes, all of them, spell a unit that keeps the binding rules.
pub record IsUnit (bytes : List ℕ) (u : Syntax) : Type 0 where
  pub spells : Spells bytes u
  pub rules : least_broken u ≡ None

-- The names of a unit, in the lowering of its marked function.
abbrev pub names_of : (u : Syntax) → Names
names_of u = function_names u (marked u)
