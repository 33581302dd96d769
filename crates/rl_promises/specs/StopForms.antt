-- The stops of patterns, by the words and parts of their nodes, as the walk for stops goes over them.
use Rattle.std.specs.Prelude.{Bool, true, false, not, if◌then◌else◌, Option, Some, None}
use Rattle.std.specs.Option.{option_or}
use Rattle.rl_base.specs.declared.diagnostic.Diagnostic.{Diagnostic}
use Rattle.rl_base.specs.declared.ids.SymbolId.{SymbolId}
use Rattle.rl_base.specs.declared.span.Span.{Span}
use Rattle.rl_model.specs.Shapes.{is_absent, is_plain_rest}
use Rattle.rl_names.specs.Names.{Names}
use Rattle.rl_promises.specs.PatternForms.{local_item}
use Rattle.rl_promises.specs.Patterns.{is_ahead, loses_item}
use Rattle.rl_promises.specs.Stops.{first_among, first_in_round, first_stop, stop_ahead, stop_of_local, stop_to, stop_to_items}
use Rattle.rl_syntax.specs.Syntax.{Syntax, Node, Listed, Pieces, End, Then}
use Rattle.rl_syntax.specs.declared.numbered.At.{At}
use Rattle.rl_syntax.specs.declared.word.Word.{Word}
use Rattle.rl_syntax.specs.declared.word.Word.TheVariants as word

-- As `first_stop`, of a tree that is lowered where a test holds.
abbrev pub stop_where : Names → (test : Bool) → Syntax → Option Diagnostic
stop_where names test tree = if test then first_stop names tree else None

-- As `first_stop`, of an array pattern: the rest that is a name comes ahead of items with defaults or patterns.
abbrev pub in_array : Names → (items : Pieces) → (rest : Syntax) → Option Diagnostic
in_array names items rest =
    option_or (first_in_round names true items)
    (option_or (stop_where names (is_ahead rest) rest)
    (option_or (first_in_round names false items) (stop_where names (not (is_ahead rest)) rest)))

-- As `first_stop`, of an object pattern.
abbrev pub in_object : Names → (properties : Pieces) → (rest : Syntax) → Option Diagnostic
in_object names properties rest =
    option_or (first_in_round names true properties)
    (option_or (stop_where names (is_plain_rest rest) rest) (first_in_round names false properties))

-- The stop at an item of a target that is a local variable, with the span of its name.
abbrev pub stop_at_local : Names → Option (SymbolId × Span) → Option (Option Diagnostic)
stop_at_local names None = None
stop_at_local names (Some (symbol, span)) = Some (stop_of_local names (Some symbol) span)

abbrev pub stop_at_item : Names → (item : Syntax) → Option (Option Diagnostic)
stop_at_item names item = stop_at_local names (local_item names item)

-- As `stop_ahead`, of a target by its items and its rest: with a rest no name is looked at before.
abbrev pub stop_before : Names → (items : Pieces) → (rest : Syntax) → Option Diagnostic
stop_before names items rest = if is_absent rest then stop_ahead names items else None

-- As `stop_to`, of a target that is lowered where a test holds.
abbrev pub stop_to_where : Names → (test : Bool) → Syntax → Option Diagnostic
stop_to_where names test target = if test then stop_to names target else None

-- As `stop_to`, of a target with a default by its parts.
abbrev pub to_defaulted : Names → Pieces → Option Diagnostic
to_defaulted names (Then target (Then default End)) = option_or (first_stop names default) (stop_to names target)
to_defaulted names _ = None

-- As `stop_to`, of a property by its parts.
abbrev pub to_keyed : Names → Pieces → Option Diagnostic
to_keyed names (Then computed (Then key (Then target End))) = stop_to_where names (not (loses_item computed key)) target
to_keyed names _ = None

-- As `stop_to`, of the rest by its parts.
abbrev pub to_rest : Names → Pieces → Option Diagnostic
to_rest names (Then target End) = stop_to names target
to_rest names _ = None

-- As `stop_to`, of an array by its parts.
abbrev pub to_array : Names → Pieces → Option Diagnostic
to_array names (Then (Listed items) (Then rest End)) = stop_to_items names true items rest
to_array names _ = None

-- As `stop_to`, of an object by its parts.
abbrev pub to_object : Names → Pieces → Option Diagnostic
to_object names (Then (Listed properties) (Then rest End)) = stop_to_items names (is_plain_rest rest) properties rest
to_object names _ = None

-- As `stop_to`, of a node.
abbrev pub to_node : Names → At → Word → Pieces → Option Diagnostic
to_node names at word.Id parts = stop_to names (Node at word.Id parts)
to_node names at word.Member parts = first_among names parts
to_node names at word.Index parts = first_among names parts
to_node names at word.Default parts = to_defaulted names parts
to_node names at word.Short parts = to_defaulted names parts
to_node names at word.Keyed parts = to_keyed names parts
to_node names at word.Rest parts = to_rest names parts
to_node names at word.Arraytarget parts = to_array names parts
to_node names at word.Objecttarget parts = to_object names parts
to_node names at _ parts = None
