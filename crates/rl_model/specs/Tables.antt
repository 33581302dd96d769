-- The tables of a unit's names, as one record.
use Rattle.std.specs.Prelude.{true, None}
use Rattle.rl_bindings.specs.Names.{names_in}
use Rattle.rl_bindings.specs.Tables.{declarations_in, references_in, scopes_in, symbols_in}
use Rattle.rl_bindings.specs.declared.bindings.Bindings.{Bindings}
use Rattle.rl_syntax.specs.Syntax.{Syntax}

-- The tables of a unit that keeps the binding rules, as the last two fields say; no definition here reads these.
abbrev pub tables_of : (u : Syntax) → Bindings
tables_of u = record {
  names = names_in u;
  scopes = scopes_in u;
  symbols = symbols_in u;
  declarations = declarations_in u;
  references = references_in u;
  least_broken_name_rule = None;
  keeps_other_rules = true;
}
