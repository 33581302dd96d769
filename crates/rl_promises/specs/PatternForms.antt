-- Parts of patterns by the words and parts of their nodes, as the walks for stops ask for them.
use Rattle.std.specs.Prelude.{Bool, true, false, if◌then◌else◌, unwrap_or, Option, Some, None, [], codes}
use Rattle.std.specs.Option.{option_map}
use Rattle.std.specs.Str.{bytes_eq}
use Rattle.rl_base.specs.Diagnostics.{diagnostic_at}
use Rattle.rl_base.specs.declared.diagnostic.Diagnostic.{Diagnostic}
use Rattle.rl_base.specs.declared.ids.SymbolId.{SymbolId}
use Rattle.rl_base.specs.declared.row.Row.TheVariants as row
use Rattle.rl_base.specs.declared.span.Span.{Span}
use Rattle.rl_model.specs.Shapes.{is_absent}
use Rattle.rl_names.specs.Names.{Names, local_of}
use Rattle.rl_promises.specs.Patterns.{first_name, first_name_among, is_ahead, this_among, this_in}
use Rattle.rl_syntax.specs.Syntax.{Syntax, Node, Said, Pieces, End, Then}
use Rattle.rl_syntax.specs.declared.numbered.At.{At}
use Rattle.rl_syntax.specs.declared.word.Word.{Word}
use Rattle.rl_syntax.specs.declared.word.Word.TheVariants as word

-- True of the word of a target that takes a value apart.
abbrev pub takes : Word → Bool
takes word.Arraytarget = true
takes word.Objecttarget = true
takes _ = false

-- As `is_ahead`, of a property by its parts.
abbrev pub ahead_under : Pieces → Bool
ahead_under (Then computed (Then key (Then pattern End))) = is_ahead pattern
ahead_under _ = false

-- As `is_ahead`, of the rest by its parts.
abbrev pub ahead_alone : Pieces → Bool
ahead_alone (Then pattern End) = is_ahead pattern
ahead_alone _ = false

abbrev pub node_ahead : Word → Pieces → Bool
node_ahead word.Bind parts = true
node_ahead word.Keyedpat parts = ahead_under parts
node_ahead word.Rest parts = ahead_alone parts
node_ahead _ parts = false

-- True of the word of a name.
abbrev pub is_name_word : Word → Bool
is_name_word word.Bind = true
is_name_word word.Id = true
is_name_word _ = false

abbrev pub is_name : Syntax → Bool
is_name (Node at w parts) = is_name_word w
is_name _ = false

-- True of one part, a name.
abbrev pub name_alone : Pieces → Bool
name_alone (Then name End) = is_name name
name_alone _ = false

abbrev pub plain_node : Word → Pieces → Bool
plain_node word.Rest parts = name_alone parts
plain_node _ parts = false

-- The local variable, with the span.
abbrev pub spanned : Span → Option SymbolId → Option (SymbolId × Span)
spanned span local = option_map (λ (symbol : SymbolId). (symbol, span)) local

-- The local variable that a name is, by its parts, and its span.
abbrev pub local_name : Names → At → Pieces → Option (SymbolId × Span)
local_name names at (Then (Said name) End) = spanned at.span (local_of (names.meaning at.reference.0 name))
local_name names at _ = None

abbrev pub local_node : Names → At → Word → Pieces → Option (SymbolId × Span)
local_node names at word.Id parts = local_name names at parts
local_node names at _ parts = None

abbrev pub local_target : Names → Syntax → Option (SymbolId × Span)
local_target names (Node at w parts) = local_node names at w parts
local_target names _ = None

-- The local variable that a property of a target is, and the span of its name.
abbrev pub local_keyed : Names → Pieces → Option (SymbolId × Span)
local_keyed names (Then computed (Then key (Then target End))) = local_target names target
local_keyed names _ = None

-- As `local_keyed`, of a property without a key: it has no default.
abbrev pub local_short : Names → Pieces → Option (SymbolId × Span)
local_short names (Then name (Then default End)) = if is_absent default then local_target names name else None
local_short names _ = None

abbrev pub local_in : Names → At → Word → Pieces → Option (SymbolId × Span)
local_in names at word.Id parts = local_name names at parts
local_in names at word.Keyed parts = local_keyed names parts
local_in names at word.Short parts = local_short names parts
local_in names at _ parts = None

-- The local variable that an item of a target is, and the span of its name.
abbrev pub local_item : Names → Syntax → Option (SymbolId × Span)
local_item names (Node at w parts) = local_in names at w parts
local_item names _ = None

-- The span of a name, if it is `this`, by its parts.
abbrev pub this_named : Span → Pieces → Option Span
this_named span (Then (Said name) parts) = if bytes_eq name (codes "this") then Some span else None
this_named span _ = None

abbrev pub this_ahead : Pieces → Option Span
this_ahead End = None
this_ahead (Then pattern parts) = this_in pattern

abbrev pub this_under : Pieces → Option Span
this_under (Then computed (Then key (Then pattern End))) = this_in pattern
this_under _ = None

abbrev pub this_alone : Pieces → Option Span
this_alone (Then pattern End) = this_in pattern
this_alone _ = None

-- As `this_in`, of a node with the span.
abbrev pub this_in_node : Span → Word → Pieces → Option Span
this_in_node span word.Bind parts = this_named span parts
this_in_node span word.Params parts = this_among parts
this_in_node span word.Arraypat parts = this_among parts
this_in_node span word.Objectpat parts = this_among parts
this_in_node span word.Param parts = this_ahead parts
this_in_node span word.Defaultpat parts = this_ahead parts
this_in_node span word.Rest parts = this_alone parts
this_in_node span word.Keyedpat parts = this_under parts
this_in_node span _ parts = None

abbrev pub name_under : Pieces → Option Span
name_under (Then computed (Then key (Then pattern End))) = first_name pattern
name_under _ = None

abbrev pub name_of_rest : Pieces → Option Span
name_of_rest (Then pattern End) = first_name pattern
name_of_rest _ = None

-- As `first_name`, of a node with the span.
abbrev pub first_name_in : Span → Word → Pieces → Option Span
first_name_in span word.Bind parts = Some span
first_name_in span word.Arraypat parts = first_name_among parts
first_name_in span word.Objectpat parts = first_name_among parts
first_name_in span word.Rest parts = name_of_rest parts
first_name_in span word.Keyedpat parts = name_under parts
first_name_in span _ parts = None

-- The stop at a pattern with the span that a `catch` binds.
abbrev pub stop_of_pattern : Span → Pieces → Option Diagnostic
stop_of_pattern span parts = Some (diagnostic_at row.S4 [] (unwrap_or (first_name_among parts) span))

abbrev pub stop_of_caught_node : Span → Word → Pieces → Option Diagnostic
stop_of_caught_node span word.Arraypat parts = stop_of_pattern span parts
stop_of_caught_node span word.Objectpat parts = stop_of_pattern span parts
stop_of_caught_node span _ parts = None
