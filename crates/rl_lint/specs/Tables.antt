-- The tables of a unit's names that the rules read.
use Rattle.std.specs.Prelude.{List}
use Rattle.rl_bindings.specs.Names.{names_in}
use Rattle.rl_bindings.specs.Tables.{declarations_in, references_in, scopes_in, symbols_in}
use Rattle.rl_bindings.specs.declared.bindings.Bindings.{Bindings}
use Rattle.rl_bindings.specs.declared.event.Bound.{Bound}
use Rattle.rl_bindings.specs.declared.event.ScopeEntry.{ScopeEntry}
use Rattle.rl_bindings.specs.declared.names.Name.{Name}
use Rattle.rl_bindings.specs.declared.resolve.Declaration.{Declaration}
use Rattle.rl_bindings.specs.declared.resolve.Reference.{Reference}
use Rattle.rl_syntax.specs.Syntax.{Syntax}

-- Names, scopes, symbols, `bind` nodes and `id` nodes, each in its order.
pub record Tables : Type 0 where
  pub names : List Name
  pub scopes : List ScopeEntry
  pub symbols : List Bound
  pub declarations : List Declaration
  pub references : List Reference

-- The tables among all that is kept of a unit's names.
abbrev pub tables : Bindings → Tables
tables b = record { names = b.names; scopes = b.scopes; symbols = b.symbols; declarations = b.declarations; references = b.references }

-- The tables of a unit.
abbrev pub tables_in : (tree : Syntax) → Tables
tables_in tree = record {
  names = names_in tree;
  scopes = scopes_in tree;
  symbols = symbols_in tree;
  declarations = declarations_in tree;
  references = references_in tree;
}
