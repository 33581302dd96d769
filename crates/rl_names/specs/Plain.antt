-- Trees that make no scope and declare no name, and parameters that are names.
use Rattle.std.specs.Prelude.{◌≡◌, Bool, true, false}
use Rattle.rl_bindings.specs.Roles.{role_of}
use Rattle.rl_bindings.specs.declared.role.Role.{Role}
use Rattle.rl_bindings.specs.declared.role.Role.TheVariants as role
use Rattle.rl_syntax.specs.Syntax.{Syntax, Node, Listed, Said, Count, Flag, Absent, Pieces, End, Then}
use Rattle.rl_syntax.specs.declared.word.Word.TheVariants as word

-- True of the role of nodes that make no scope and declare no name.
abbrev pub is_plain : Role → Bool
is_plain role.Plain = true
is_plain role.User = true
is_plain _ = false

abbrev mutual
  -- No node of the tree makes a scope or declares a name.
  pub IsPlain : Syntax → Type 0
  IsPlain (Node at w parts) = (is_plain (role_of w) ≡ true) × ArePlain parts
  IsPlain (Listed parts) = ArePlain parts
  IsPlain (Said text) = Unit {0}
  IsPlain (Count number) = Unit {0}
  IsPlain (Flag flag) = Unit {0}
  IsPlain Absent = Unit {0}

  -- As `IsPlain`, for parts in a row.
  pub ArePlain : Pieces → Type 0
  ArePlain End = Unit {0}
  ArePlain (Then piece pieces) = IsPlain piece × ArePlain pieces

-- The parameter is a name, and nothing else of it makes a scope or declares a name.
abbrev pub IsPlainParameter : Syntax → Type 0
IsPlainParameter (Node at word.Param (Then (Node bind word.Bind (Then (Said name) type)) default)) = ArePlain type × ArePlain default
IsPlainParameter _ = ⊥

-- As `IsPlainParameter`, for parameters in a row.
abbrev pub ArePlainParameters : Pieces → Type 0
ArePlainParameters End = Unit {0}
ArePlainParameters (Then param params) = IsPlainParameter param × ArePlainParameters params

-- As `IsPlainParameter`, for the parameters in a `params` node.
abbrev pub HasPlainParameters : Syntax → Type 0
HasPlainParameters (Node at word.Params (Then (Listed params) rest)) = ArePlainParameters params × ArePlain rest
HasPlainParameters _ = ⊥
