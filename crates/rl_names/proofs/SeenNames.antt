-- The names by a unit's semantic tables are those of the unit.
use Rattle.std.proofs.Common.{◌≡◌, map}
use Rattle.rl_bindings.specs.Names as names
use Rattle.rl_bindings.specs.Tables as tables
use Rattle.rl_names.specs.Names.{at_of, function_names, names_by}
use Rattle.rl_names.specs.Seen.{shown}
use Rattle.rl_semantic.specs.Imports as imports
use Rattle.rl_semantic.specs.declared.semantic.Semantic.{Semantic}
use Rattle.rl_syntax.specs.Nodes.{entries}
use Rattle.rl_syntax.specs.Syntax.{Syntax}

-- The semantic tables are those of the unit.
pub record AreTablesOf (s : Semantic) (u : Syntax) : Type 0 where
  pub names : s.bindings.names ≡ names.names_in u
  pub scopes : s.bindings.scopes ≡ tables.scopes_in u
  pub symbols : s.bindings.symbols ≡ tables.symbols_in u
  pub declarations : s.bindings.declarations ≡ tables.declarations_in u
  pub references : s.bindings.references ≡ tables.references_in u
  pub imports : map imports.seen s.imports ≡ imports.imports_in u
  pub nodes : s.nodes.now ≡ entries u

pub shown_names : (s : Semantic) (u f : Syntax) → AreTablesOf s u → shown s (at_of f) ≡ function_names u f
shown_names s u f t = λ i. names_by (at_of f) (t.nodes i) (t.imports i) (t.names i) (t.scopes i) (t.symbols i) (t.declarations i) (t.references i)
