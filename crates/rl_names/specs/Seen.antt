-- The names that a function's look-ups show.
use Rattle.std.specs.Prelude.{map}
use Rattle.rl_names.specs.Names.{Names, names_by}
use Rattle.rl_names.specs.declared.names.FunctionNames.{FunctionNames}
use Rattle.rl_semantic.specs.Imports as imports
use Rattle.rl_semantic.specs.declared.semantic.Semantic.{Semantic}
use Rattle.rl_syntax.specs.declared.numbered.At.{At}

-- The names of a unit by its semantic tables, in the lowering of the function with these ids.
abbrev pub shown : Semantic → At → Names
shown s at = names_by at s.nodes.now (map imports.seen s.imports) s.bindings.names s.bindings.scopes s.bindings.symbols s.bindings.declarations s.bindings.references

abbrev pub seen : FunctionNames → Names
seen n = shown n.resolver.now.semantic.now n.function
