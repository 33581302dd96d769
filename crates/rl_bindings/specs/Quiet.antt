-- Nodes that a walk over names and rules passes by: their parts are all that counts.
use Rattle.std.specs.Prelude.{Bool, true, false, ◌&&◌}
use Rattle.rl_bindings.specs.declared.event.Place.TheVariants as place
use Rattle.rl_bindings.specs.Roles.{role_of}
use Rattle.rl_bindings.specs.declared.role.Above.{Above}
use Rattle.rl_bindings.specs.declared.role.Role.{Role}
use Rattle.rl_bindings.specs.declared.role.Role.TheVariants as role
use Rattle.rl_rules.specs.Following.{Context}
use Rattle.rl_rules.specs.declared.declarations.Place.{Place}
use Rattle.rl_rules.specs.declared.declarations.Place.TheVariants as stands
use Rattle.rl_syntax.specs.declared.word.Word.{Word}
use Rattle.rl_syntax.specs.declared.word.Word.TheVariants as word

-- True of the words whose nodes make no scope, say neither the kind nor the place of a declaration in them, and are no functions,
-- declarations, links or chains, and of no form that a rule asks for.
abbrev pub is_quiet_word : Word → Bool
is_quiet_word word.Program = false
is_quiet_word word.Arrow = false
is_quiet_word word.Fundecl = false
is_quiet_word word.Funexpr = false
is_quiet_word word.Block = false
is_quiet_word word.For = false
is_quiet_word word.Forin = false
is_quiet_word word.Forof = false
is_quiet_word word.Switch = false
is_quiet_word word.Catch = false
is_quiet_word word.Classdecl = false
is_quiet_word word.Classexpr = false
is_quiet_word word.Static = false
is_quiet_word word.Body = false
is_quiet_word word.Case = false
is_quiet_word word.Export = false
is_quiet_word word.Exportdefault = false
is_quiet_word word.Import = false
is_quiet_word word.Params = false
is_quiet_word word.Var = false
is_quiet_word word.Default = false
is_quiet_word word.Named = false
is_quiet_word word.Namespace = false
is_quiet_word word.Typealias = false
is_quiet_word word.Interface = false
is_quiet_word word.Enum = false
is_quiet_word word.Chain = false
is_quiet_word word.Member = false
is_quiet_word word.Index = false
is_quiet_word word.Privatemember = false
is_quiet_word word.Call = false
is_quiet_word word.Nonnull = false
is_quiet_word word.Template = false
is_quiet_word word.Seq = false
is_quiet_word word.Keyedpat = false
is_quiet_word word.Prop = false
is_quiet_word word.Method = false
is_quiet_word word.Get = false
is_quiet_word word.Set = false
is_quiet_word word.Keyed = false
is_quiet_word word.Update = false
is_quiet_word word.Tagmember = false
is_quiet_word _ = true

-- True of the places where such a node may stand, whatever its word.
abbrev pub is_open : Place → Bool
is_open stands.Export = false
is_open stands.DefaultExport = false
is_open _ = true

-- True of a node that keeps the rules B1 and B6 to B9 whatever its parts are, by its context and its word.
abbrev pub is_quiet : Context → Word → Bool
is_quiet context w = is_quiet_word w && is_open context.1.1.0

-- True of the role of a node that neither makes a scope nor has a name of its own.
abbrev pub is_plain : Role → Bool
is_plain role.Plain = true
is_plain _ = false

-- True of a quiet node that has no name of its own either.
abbrev pub is_silent : Context → Word → Bool
is_silent context w = is_quiet context w && is_plain (role_of w)

-- The summary for the parts of such a node.
abbrev pub inside : Above → Above
inside a = record a { place = place.Inner }
