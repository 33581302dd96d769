-- The properties of names by the tables of a unit.
use Rattle.std.specs.Prelude.{List}
use Rattle.rl_bindings.specs.declared.bindings.Bindings.{Bindings}
use Rattle.rl_facts.specs.declared.unit_facts.UnitFacts.{UnitFacts}
use Rattle.rl_markers.specs.Named.{tables}
use Rattle.rl_model.specs.Applied.{Facts}
use Rattle.rl_model.specs.Facts.{has_kind, is_bound_in, is_global_in, is_lost_at, is_module_in, is_variable_kind, of_declared}
use Rattle.rl_model.specs.Hoisting.{is_context_at}
use Rattle.rl_model.specs.Supported.{is_dead_function}
use Rattle.rl_names.specs.Names.{Names, is_const_kind}
use Rattle.rl_names.specs.Seen.{seen}
use Rattle.rl_syntax.specs.Syntax.{Syntax, syntax}
use Rattle.rl_syntax.specs.declared.nodes.NodeEntry.{NodeEntry}

-- The properties by a unit's tables, nodes and names, and its marked function.
abbrev pub facts_by : Bindings → List NodeEntry → Names → (marked : Syntax) → Facts
facts_by b nodes names marked = record {
  names = names;
  is_const = has_kind b is_const_kind;
  is_context = is_context_at b names marked;
  is_global = is_global_in b;
  is_variable = of_declared names (has_kind b is_variable_kind);
  is_lost = λ bind. of_declared names (is_lost_at nodes b names marked bind) bind;
  is_bound = is_bound_in b marked;
  is_module = is_module_in b;
  is_dead = is_dead_function marked;
}

abbrev pub facts_in : UnitFacts → Facts
facts_in f = facts_by (tables f.variables) f.variables.names.resolver.now.semantic.now.nodes.now (seen f.variables.names) (syntax f.marked.now)
