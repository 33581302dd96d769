-- Roles of nodes: all that the sites of a function know of the grammar.
use Rattle.std.specs.Prelude.{ℕ, Bool, true, false, if◌then◌else◌, nat_eq, Option, Some, None}
use Rattle.rl_base.specs.declared.span.Span.{Span}
use Rattle.rl_context.specs.declared.role.Above.{Above}
use Rattle.rl_context.specs.declared.role.Role.{Role}
use Rattle.rl_context.specs.declared.role.Role.TheVariants as role
use Rattle.rl_context.specs.declared.role.Target.{Target}
use Rattle.rl_context.specs.declared.role.Target.TheVariants as target
use Rattle.rl_context.specs.declared.site.NodeRange.{NodeRange}
use Rattle.rl_context.specs.declared.site.Wrapper.TheVariants as wrapper
use Rattle.rl_syntax.specs.declared.numbered.At.{At}
use Rattle.rl_syntax.specs.declared.word.Word.{Word}
use Rattle.rl_syntax.specs.declared.word.Word.TheVariants as word

-- The role of the nodes of a word.
abbrev pub role_of : Word → Role
role_of word.Id = role.Reference
role_of word.Bind = role.Declaration
role_of word.As = role.Wrapper wrapper.As
role_of word.Satisfies = role.Wrapper wrapper.Satisfies
role_of word.Assert = role.Wrapper wrapper.Assert
role_of word.Nonnull = role.Wrapper wrapper.NonNull
role_of word.Classdecl = role.Class
role_of word.Classexpr = role.Class
role_of _ = role.Plain

-- True of the words of nodes that make a function. A method, a getter or a setter of an object counts as its function from its
-- key on; those of classes never come up, since classes hold no sites.
abbrev pub makes_function : Word → Bool
makes_function word.Arrow = true
makes_function word.Fundecl = true
makes_function word.Funexpr = true
makes_function word.Method = true
makes_function word.Get = true
makes_function word.Set = true
makes_function _ = false

-- True in the part at an index of a node that is a type, or holds type arguments.
abbrev pub type_below : (in_type : Bool) → Word → (index : ℕ) → Bool
type_below in_type word.Type index = true
type_below in_type word.Instantiate index = nat_eq index 1
type_below in_type _ index = in_type

-- The span of the opening tag whose element the part at an index of a node names: its first part names it, and so does the
-- object of a member that does.
abbrev pub opening_below : (opening : Option Span) → At → Word → (index : ℕ) → Option Span
opening_below opening at word.Opening index = if nat_eq index 0 then Some at.span else None
opening_below opening at word.Tagmember index = opening
opening_below opening at _ index = None

-- The nodes of the innermost inner function around the parts of a node.
abbrev pub function_below : (function : Option NodeRange) → At → Word → Option NodeRange
function_below function at w = if makes_function w then Some (record { start = at.id; end = at.end }) else function

-- `target` for the part at the index `wanted`, no target for any other.
abbrev pub only_at : Target → (wanted index : ℕ) → Target
only_at t wanted index = if nat_eq index wanted then t else target.Nothing

-- The assignment that the part at an index of a node is a target of. Of a pattern, the parts that are assigned are targets;
-- keys and defaults are none, nor is the object of a member, or the expression in a wrapper.
abbrev pub target_below : Target → At → Word → (index : ℕ) → Target
target_below t at word.Assign index = only_at (target.Assignment at.id) 1 index
target_below t at word.Update index = only_at target.Update 2 index
target_below t at word.Arraytarget index = t
target_below t at word.Objecttarget index = t
target_below t at word.Rest index = t
target_below t at word.Short index = only_at t 0 index
target_below t at word.Default index = only_at t 0 index
target_below t at word.Keyed index = only_at t 2 index
target_below t at _ index = target.Nothing

-- The summary for the part at an index of a node.
abbrev pub below : Above → At → Word → (index : ℕ) → Above
below a at w index = record {
  in_type = type_below a.in_type w index;
  opening = opening_below a.opening at w index;
  function = function_below a.function at w;
  target = target_below a.target at w index;
}

-- Nothing stands above the parts of the function itself.
abbrev pub top : Above
top = record { in_type = false; opening = None; function = None; target = target.Nothing }
