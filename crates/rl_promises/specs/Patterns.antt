-- Binding patterns, and targets that are patterns: which of their parts the lowering leaves out, and which come first.
use Rattle.std.specs.Prelude.{ℕ, Bool, true, false, ◌&&◌, ◌||◌, not, is_some, if◌then◌else◌, unwrap_or, Option, Some, None, List, []}
use Rattle.std.specs.Prelude.{◌∷◌, codes}
use Rattle.std.specs.Option.{option_or}
use Rattle.std.specs.Str.{bytes_eq}
use Rattle.rl_base.specs.Diagnostics.{diagnostic_at}
use Rattle.rl_base.specs.declared.diagnostic.Diagnostic.{Diagnostic}
use Rattle.rl_base.specs.declared.ids.SymbolId.{SymbolId}
use Rattle.rl_base.specs.declared.row.Row.TheVariants as row
use Rattle.rl_base.specs.declared.span.Span.{Span}
use Rattle.rl_model.specs.Shapes.{is_absent}
use Rattle.rl_names.specs.Names.{Names, local_of}
use Rattle.rl_promises.specs.Outs.{is_known_key}
use Rattle.rl_syntax.specs.Syntax.{Syntax, Node, Listed, Said, Flag, Absent, Pieces, End, Then, span_of}
use Rattle.rl_syntax.specs.declared.word.Word.TheVariants as word
use Rattle.rl_text.specs.Numeral.{is_numeral}

-- True of a target that takes a value apart.
abbrev pub is_pattern : Syntax → Bool
is_pattern (Node at word.Arraytarget parts) = true
is_pattern (Node at word.Objecttarget parts) = true
is_pattern target = false

-- True of a binding pattern that is no name.
abbrev pub takes_apart : Syntax → Bool
takes_apart (Node at word.Arraypat parts) = true
takes_apart (Node at word.Objectpat parts) = true
takes_apart pattern = false

-- True of a property of a pattern that is left out, by the flag in front of its key, and the key.
abbrev pub loses_item : (computed key : Syntax) → Bool
loses_item (Flag computed) key = computed || not (is_known_key false key)
loses_item computed key = false

-- True of a property of a pattern that is left out: its key is computed, or no name, text or number.
abbrev pub is_lost_item : Syntax → Bool
is_lost_item (Node at word.Keyedpat (Then computed (Then key parts))) = loses_item computed key
is_lost_item (Node at word.Keyed (Then computed (Then key parts))) = loses_item computed key
is_lost_item item = false

-- The diagnostic of such a property at `at`, by its key: F8 of a computed key, F9 of any other.
abbrev pub lost_key : (at : Span) → (computed : Bool) → (key : Syntax) → Diagnostic
lost_key at true key = diagnostic_at row.F8 [] at
lost_key at false key = diagnostic_at row.F9 [] (span_of key)

abbrev pub lost_item : Syntax → Diagnostic
lost_item (Node at word.Keyedpat (Then (Flag computed) (Then key parts))) = lost_key at.span computed key
lost_item (Node at word.Keyed (Then (Flag computed) (Then key parts))) = lost_key at.span computed key
lost_item item = diagnostic_at row.F9 [] (span_of item)

-- The span of a key that is a number which is refused (row F43). The property is lowered all the same.
abbrev pub fraction_of : (key : Syntax) → Option Span
fraction_of (Node there word.Num (Then (Said text) End)) = if is_numeral text then None else Some there.span
fraction_of key = None

-- As `fraction_of`, of the key of an item of a pattern.
abbrev pub fraction_in : Syntax → Option Span
fraction_in (Node at word.Keyedpat (Then computed (Then key parts))) = fraction_of key
fraction_in (Node at word.Keyed (Then computed (Then key parts))) = fraction_of key
fraction_in item = None

abbrev pub said_of_fraction : Option Span → List Diagnostic
said_of_fraction None = []
said_of_fraction (Some at) = diagnostic_at row.F43 [] at ∷ []

-- The diagnostics of an item of a pattern by its key.
abbrev pub said_of_key : Syntax → List Diagnostic
said_of_key item = if is_lost_item item then lost_item item ∷ [] else said_of_fraction (fraction_in item)

-- The text of a key that is a name, a text or a number.
abbrev pub key_name : Syntax → Option (List ℕ)
key_name (Node at word.Name (Then (Said text) End)) = Some text
key_name (Node at word.Str (Then (Said text) End)) = Some text
key_name (Node at word.Num (Then (Said text) End)) = Some text
key_name key = None

-- The type of what takes the rest of an object, as row F10 names it.
abbrev pub rest_type : Syntax → List ℕ
rest_type (Node at word.Objectpat parts) = codes "ObjectPattern"
rest_type (Node at word.Objecttarget parts) = codes "ObjectPattern"
rest_type (Node at word.Arraypat parts) = codes "ArrayPattern"
rest_type (Node at word.Arraytarget parts) = codes "ArrayPattern"
rest_type (Node at word.Member parts) = codes "MemberExpression"
rest_type (Node at word.Index parts) = codes "MemberExpression"
rest_type (Node at word.Privatemember parts) = codes "MemberExpression"
rest_type target = codes "unknown"

-- The diagnostic of the rest of an object that is no plain name (row F10), which is left out.
abbrev pub lost_rest : Syntax → Diagnostic
lost_rest (Node at word.Rest (Then target End)) = diagnostic_at row.F10 (rest_type target) at.span
lost_rest rest = diagnostic_at row.F10 (codes "unknown") (span_of rest)

-- True of a part of a binding pattern that is met before all defaults and nested patterns of it: a name, under a key and as the rest too.
abbrev pub is_ahead : Syntax → Bool
is_ahead (Node at word.Bind parts) = true
is_ahead (Node at word.Keyedpat (Then computed (Then key (Then pattern End)))) = is_ahead pattern
is_ahead (Node at word.Rest (Then pattern End)) = is_ahead pattern
is_ahead part = false

-- The target that an item of a target is by itself: that of a property without a default.
abbrev pub target_under : Syntax → Syntax
target_under (Node at word.Keyed (Then computed (Then key (Then target End)))) = target
target_under (Node at word.Short (Then name (Then Absent End))) = name
target_under item = item

-- The local variable that a target is. None of any other.
abbrev pub local_at : Names → Syntax → Option SymbolId
local_at names (Node at word.Id (Then (Said name) End)) = local_of (names.meaning at.reference.0 name)
local_at names target = None

-- True of items of which each is a local variable.
abbrev pub are_locals : Names → Pieces → Bool
are_locals names End = true
are_locals names (Then item items) = is_some (local_at names (target_under item)) && are_locals names items

-- True of a target whose items all take their pieces from temporaries: one with a rest, or with an item that is no local variable.
abbrev pub is_forced : Names → (items : Pieces) → (rest : Syntax) → Bool
is_forced names items rest = not (is_absent rest) || not (are_locals names items)

abbrev mutual
  -- The span of a parameter's name `this`, in patterns too.
  pub this_in : Syntax → Option Span
  this_in (Node at word.Bind (Then (Said name) type)) = if bytes_eq name (codes "this") then Some at.span else None
  this_in (Node at word.Params parts) = this_among parts
  this_in (Node at word.Param (Then pattern parts)) = this_in pattern
  this_in (Node at word.Arraypat parts) = this_among parts
  this_in (Node at word.Objectpat parts) = this_among parts
  this_in (Node at word.Keyedpat (Then computed (Then key (Then pattern End)))) = this_in pattern
  this_in (Node at word.Defaultpat (Then pattern parts)) = this_in pattern
  this_in (Node at word.Rest (Then pattern End)) = this_in pattern
  this_in (Listed parts) = this_among parts
  this_in _ = None

  -- As `this_in`, of the first of some parts that has one.
  pub this_among : Pieces → Option Span
  this_among End = None
  this_among (Then part parts) = option_or (this_in part) (this_among parts)

abbrev mutual
  -- The span of the first name in a binding pattern. Parts with a default are passed over.
  pub first_name : Syntax → Option Span
  first_name (Node at word.Bind parts) = Some at.span
  first_name (Node at word.Arraypat parts) = first_name_among parts
  first_name (Node at word.Objectpat parts) = first_name_among parts
  first_name (Node at word.Keyedpat (Then computed (Then key (Then pattern End)))) = first_name pattern
  first_name (Node at word.Rest (Then pattern End)) = first_name pattern
  first_name (Listed parts) = first_name_among parts
  first_name _ = None

  -- As `first_name`, for parts in a row.
  pub first_name_among : Pieces → Option Span
  first_name_among End = None
  first_name_among (Then part parts) = option_or (first_name part) (first_name_among parts)

-- The stop at the parameter of a `catch`: S4 of a pattern, at its first name if it has one.
abbrev pub stop_of_caught : Syntax → Option Diagnostic
stop_of_caught (Node at word.Arraypat parts) = Some (diagnostic_at row.S4 [] (unwrap_or (first_name_among parts) at.span))
stop_of_caught (Node at word.Objectpat parts) = Some (diagnostic_at row.S4 [] (unwrap_or (first_name_among parts) at.span))
stop_of_caught param = None
