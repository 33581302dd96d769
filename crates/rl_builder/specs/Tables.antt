-- The parts of a unit that a builder reads.
use Rattle.std.specs.Prelude.{List}
use Rattle.rl_builder.specs.declared.unit_tables.UnitTables.{UnitTables}
use Rattle.rl_context.specs.declared.site.Site.{Site}
use Rattle.rl_semantic.specs.declared.semantic.Semantic.{Semantic}

-- The tables of the unit, and the index of the marked function.
pub record Tables : Type 0 where
  pub semantic : Semantic
  pub sites : List Site

-- The tables behind the references of `unit`.
abbrev pub tables_of : UnitTables → Tables
tables_of unit = record { semantic = unit.resolver.now.semantic.now; sites = unit.identifier_spans.now }
