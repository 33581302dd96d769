-- The groups of expressions by which the lowering is split, and keys in brackets that are numbers.
use Rattle.std.specs.Prelude.{ℕ, Bool, true, false, if◌then◌else◌, Option, Some, None}
use Rattle.rl_syntax.specs.Syntax.{Syntax, Node, Said, Pieces, End, Then}
use Rattle.rl_syntax.specs.declared.word.Word.TheVariants as word
use Rattle.rl_text.specs.Numeral.{is_numeral, number_of}

-- True of what may be a link of a chain: a property, also of a private name, or a call.
abbrev pub is_linked : Syntax → Bool
is_linked (Node at word.Member parts) = true
is_linked (Node at word.Index parts) = true
is_linked (Node at word.Privatemember parts) = true
is_linked (Node at word.Call parts) = true
is_linked _ = false

-- True of what is refused, before its parts are lowered or without them.
abbrev pub is_refused : Syntax → Bool
is_refused (Node at word.Bigint parts) = true
is_refused (Node at word.Newtarget parts) = true
is_refused (Node at word.Super parts) = true
is_refused (Node at word.This parts) = true
is_refused (Node at word.Yield parts) = true
is_refused (Node at word.Privatein parts) = true
is_refused (Node at word.Importcall parts) = true
is_refused _ = false

-- True of arrays, object literals, templates, regular expressions and `import.meta`, and of what `is_refused` is true of.
abbrev pub is_composite : Syntax → Bool
is_composite (Node at word.Array parts) = true
is_composite (Node at word.Object parts) = true
is_composite (Node at word.Template parts) = true
is_composite (Node at word.Tagged parts) = true
is_composite (Node at word.Regexp parts) = true
is_composite (Node at word.Importmeta parts) = true
is_composite e = is_refused e

-- True of calls, constructions and properties, and of what `is_composite` is true of.
abbrev pub is_access : Syntax → Bool
is_access (Node at word.Call parts) = true
is_access (Node at word.New parts) = true
is_access (Node at word.Member parts) = true
is_access (Node at word.Index parts) = true
is_access (Node at word.Privatemember parts) = true
is_access e = is_composite e

-- True of operators, assignments, casts, `await`, chains, conditional expressions and sequences, and of what `is_access` is true of.
abbrev pub is_operation : Syntax → Bool
is_operation (Node at word.Binary parts) = true
is_operation (Node at word.Unary parts) = true
is_operation (Node at word.Update parts) = true
is_operation (Node at word.Assign parts) = true
is_operation (Node at word.Await parts) = true
is_operation (Node at word.Logical parts) = true
is_operation (Node at word.Cond parts) = true
is_operation (Node at word.Seq parts) = true
is_operation (Node at word.Chain parts) = true
is_operation (Node at word.As parts) = true
is_operation (Node at word.Satisfies parts) = true
is_operation (Node at word.Assert parts) = true
is_operation e = is_access e

-- The value of a key in brackets that is a numeral. None of any other key.
abbrev pub key_number : Syntax → Option ℕ
key_number (Node at word.Num (Then (Said text) End)) = if is_numeral text then Some (number_of text) else None
key_number _ = None

-- True of a row with a part.
abbrev pub has_parts : Pieces → Bool
has_parts End = false
has_parts (Then part parts) = true
