-- Kinds of declarations: those that make a type alone, and those with a declaration identifier.
use Rattle.std.specs.Prelude.{Bool, true, false}
use Rattle.rl_bindings.specs.declared.event.BindKind.{BindKind}
use Rattle.rl_bindings.specs.declared.event.BindKind.TheVariants as bind

-- True of a declaration that makes a type alone: a type alias or an interface.
abbrev pub is_type_only : BindKind → Bool
is_type_only bind.TypeAlias = true
is_type_only bind.Interface = true
is_type_only _ = false

-- True of a declaration that has a declaration identifier: every one but an interface.
abbrev pub has_identifier : BindKind → Bool
has_identifier bind.Interface = false
has_identifier _ = true
