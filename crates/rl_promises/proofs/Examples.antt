-- The promises, tried on a small function and its graph: its calls, its fields and its pairs.
use Rattle.std.proofs.Common.{◌≡◌, ◌<◌, None, List, [], ◌∷◌, codes, length, refl, lit<}
use Rattle.std.proofs.lemmas.List.Elements.{All-cons, All-nil}
use Rattle.rl_bindings.specs.Tables.{symbols_in}
use Rattle.rl_hir.specs.Identifiers.{named_identifier}
use Rattle.rl_hir.specs.Pairs.{pair}
use Rattle.rl_hir.specs.declared.function.Identifier.{Identifier}
use Rattle.rl_hir.specs.declared.function.Pair.{Pair}
use Rattle.rl_model.proofs.ExampleUnits.{span}
use Rattle.rl_promises.specs.Fields.{HasFieldsOf, HasParams, HaveSymbolsOf, IsGiven, IsNamedPair, NoParam, PlainParam, name_at}
use Rattle.rl_model.specs.Counted.{Counted, counted_in}
use Rattle.rl_promises.specs.Held.{listed, times}
use Rattle.rl_promises.specs.Size.{function_size}
use Rattle.rl_model.specs.Marked.{marked}
use Rattle.rl_model.specs.Units.{names_of}
use Rattle.rl_names.specs.Functions.{params_in}
use Rattle.rl_model.proofs.Examples.{graph, unit}

-- The call is held by the table and by the block.
abbrev key : Counted
key = record { node = 9; kinds = codes "call" ∷ codes "methodcall" ∷ []; span = span 12 }

counted : counted_in (marked unit) ≡ key ∷ []
counted = refl

in_table : times key graph.instructions ≡ 1
in_table = refl

in_block : times key (listed graph.instructions graph.body.blocks) ≡ 1
in_block = refl

-- Three instructions and a block.
size : function_size graph ≡ 4
size = refl

fields : HasFieldsOf (marked unit) graph
fields = record { span = refl; name = refl; fn_type = refl; is_async = refl; generator = refl; directives = refl; context = refl }

-- The parameter is symbol 0 and identifier 0.
abbrev identifiers : List Identifier
identifiers = named_identifier (codes "x") (span 6) 0 ∷ record { name = None; span = None; type_id = record { 0 = 1 } } ∷ []

abbrev pairs : List Pair
pairs = pair 0 0 ∷ []

is_given : IsGiven identifiers pairs (record { 0 = 0 }) (codes "x") (span 6) 0
is_given = record { paired = refl; type_id = 0; known = refl }

has_params : HasParams (names_of unit) (λ symbol before. before) identifiers pairs (params_in (marked unit)) graph.params
has_params = PlainParam _ _ _ _ _ _ _ _ _ refl refl is_given NoParam

is_named : IsNamedPair (names_of unit) identifiers (pair 0 0)
is_named = record { at = span 6; declared = refl; index = 0; named = refl }

abbrev IsOfUnit : Pair → Type 0
IsOfUnit p = p.symbol.0 < length (symbols_in unit)

of_unit : HaveSymbolsOf unit pairs
of_unit = All-cons IsOfUnit (pair 0 0) [] (lit< tt) (All-nil IsOfUnit)

-- An identifier without a name, and one past the end of the list, have none.
unnamed : name_at identifiers 1 ≡ None
unnamed = refl

past_the_end : name_at identifiers 2 ≡ None
past_the_end = refl
