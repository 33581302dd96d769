-- Nodes whose parts all have one summary: the walk over sites makes it once.
use Rattle.std.specs.Prelude.{Bool, true, false, None}
use Rattle.rl_context.specs.declared.role.Above.{Above}
use Rattle.rl_context.specs.declared.role.Target.TheVariants as target
use Rattle.rl_syntax.specs.declared.word.Word.{Word}
use Rattle.rl_syntax.specs.declared.word.Word.TheVariants as word

-- True of the words of nodes whose parts all have the same summary.
abbrev pub is_even : Word → Bool
is_even word.Arrow = false
is_even word.Fundecl = false
is_even word.Funexpr = false
is_even word.Method = false
is_even word.Get = false
is_even word.Set = false
is_even word.Type = false
is_even word.Instantiate = false
is_even word.Opening = false
is_even word.Tagmember = false
is_even word.Assign = false
is_even word.Update = false
is_even word.Arraytarget = false
is_even word.Objecttarget = false
is_even word.Rest = false
is_even word.Short = false
is_even word.Default = false
is_even word.Keyed = false
is_even _ = true

-- The summary for the parts of such a node: that of the node, but that none of them names an element or is a target.
abbrev pub even_below : Above → Above
even_below a = record a { opening = None; target = target.Nothing }
