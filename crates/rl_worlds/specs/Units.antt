-- Units that keep the binding rules, with their semantic tables.
use Rattle.std.specs.Prelude.{◌≡◌, None, map}
use Rattle.rl_bindings.specs.Names.{names_in}
use Rattle.rl_bindings.specs.Tables.{declarations_in, references_in, scopes_in, symbols_in}
use Rattle.rl_semantic.specs.Imports.{imports_in, seen}
use Rattle.rl_semantic.specs.Rules.{least_broken}
use Rattle.rl_semantic.specs.declared.semantic.Semantic.{Semantic}
use Rattle.rl_syntax.specs.Nodes.{entries}
use Rattle.rl_syntax.specs.Syntax.{Syntax}

-- The unit keeps the binding rules, and these are its semantic tables: what `Semantic::of` says of its result.
pub record IsSemanticOf (s : Semantic) (u : Syntax) : Type 0 where
  pub rules : least_broken u ≡ None
  pub names : s.bindings.names ≡ names_in u
  pub scopes : s.bindings.scopes ≡ scopes_in u
  pub symbols : s.bindings.symbols ≡ symbols_in u
  pub declarations : s.bindings.declarations ≡ declarations_in u
  pub references : s.bindings.references ≡ references_in u
  pub imports : map seen s.imports ≡ imports_in u
  pub nodes : s.nodes.now ≡ entries u
