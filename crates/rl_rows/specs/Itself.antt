-- The rows of a node by itself, as a test: true where none applies.
use Rattle.std.specs.Prelude.{ℕ, Bool, true, false, ◌&&◌, not, List}
use Rattle.rl_model.specs.Applied.{Facts, has_this_among, is_known_key}
use Rattle.rl_model.specs.Code.{is_function, is_no_code}
use Rattle.rl_row_forms.specs.Statements.{clear_statement}
use Rattle.rl_row_forms.specs.Targets.{clear_expression}
use Rattle.rl_row_forms.specs.declared.above.Above.{Above}
use Rattle.rl_row_names.specs.Named.{clear_bind, clear_id, clear_opening, clear_update}
use Rattle.rl_rows.specs.declared.itself.Kind.{Kind}
use Rattle.rl_rows.specs.declared.itself.Kind.TheVariants as kind
use Rattle.rl_syntax.specs.Syntax.{Pieces}
use Rattle.rl_syntax.specs.declared.numbered.At.{At}
use Rattle.rl_syntax.specs.declared.word.Word.{Word}
use Rattle.rl_syntax.specs.declared.word.Word.TheVariants as word

-- The group of a word.
abbrev pub kind_of : Word → Kind
kind_of word.Importcall = kind.Refused
kind_of word.Privatein = kind.Refused
kind_of word.Yield = kind.Refused
kind_of word.Newtarget = kind.Refused
kind_of word.Classexpr = kind.Refused
kind_of word.Super = kind.Refused
kind_of word.Get = kind.Refused
kind_of word.Set = kind.Refused
kind_of word.With = kind.Refused
kind_of word.Import = kind.Refused
kind_of word.Export = kind.Refused
kind_of word.Exportdefault = kind.Refused
kind_of word.Exportlist = kind.Refused
kind_of word.Exportfrom = kind.Refused
kind_of word.Enum = kind.Refused
kind_of word.Bigint = kind.Refused
kind_of word.Spreadchild = kind.Refused
kind_of word.Id = kind.Name
kind_of word.Opening = kind.Name
kind_of word.Params = kind.Name
kind_of word.Bind = kind.Name
kind_of word.Update = kind.Name
kind_of word.Throw = kind.Statement
kind_of word.For = kind.Statement
kind_of word.Forof = kind.Statement
kind_of word.Try = kind.Statement
kind_of word.Classdecl = kind.Statement
kind_of word.Var = kind.Statement
kind_of word.Catch = kind.Statement
kind_of word.Break = kind.Statement
kind_of word.Continue = kind.Statement
kind_of _ = kind.Expression

-- A node of names, by its word.
abbrev pub clear_naming : Facts → Above → At → Word → Pieces → Bool
clear_naming f a at word.Id parts = clear_id f a at.reference.0 parts
clear_naming f a at word.Opening parts = clear_opening f parts
clear_naming f a at word.Params parts = not (has_this_among parts)
clear_naming f a at word.Bind parts = clear_bind f at.id.0 parts
clear_naming f a at word.Update parts = clear_update f parts
clear_naming f a at _ parts = true

-- A node, by the group of its word.
abbrev pub clear_kind_of : Facts → Above → (labels : List (List ℕ × Bool)) → At → Word → Pieces → Kind → Bool
clear_kind_of f a labels at w parts kind.Refused = false
clear_kind_of f a labels at w parts kind.Name = clear_naming f a at w parts
clear_kind_of f a labels at w parts kind.Statement = clear_statement a labels w parts
clear_kind_of f a labels at w parts kind.Expression = clear_expression a w parts

-- A node by itself.
abbrev pub clear_itself : Facts → Above → (labels : List (List ℕ × Bool)) → At → Word → Pieces → Bool
clear_itself f a labels at w parts = clear_kind_of f a labels at w parts (kind_of w)

-- A node by its place.
abbrev pub clear_place : Facts → Above → At → Word → Pieces → Bool
clear_place f a at w parts =
    not (a.key && not (is_known_key w)) && not (is_function w && not (is_no_code w parts) && f.is_dead at.id.0)
