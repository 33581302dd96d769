-- The uses of names below a node.
use Rattle.std.specs.Prelude.{Bool, true, false, ◌||◌, if◌then◌else◌, List, [], ◌∷◌}
use Rattle.rl_context.specs.Roles.{makes_function}
use Rattle.rl_markers.specs.declared.uses.Use.{Use as Held}
use Rattle.rl_model.specs.Hoisting.{Use, use_at, uses_among}
use Rattle.rl_syntax.specs.Syntax.{Pieces, End, Then}
use Rattle.rl_syntax.specs.declared.numbered.At.{At}
use Rattle.rl_syntax.specs.declared.word.Word.{Word}
use Rattle.rl_syntax.specs.declared.word.Word.TheVariants as word

abbrev pub is_id : Word → Bool
is_id word.Id = true
is_id _ = false

abbrev pub is_class : Word → Bool
is_class word.Classdecl = true
is_class word.Classexpr = true
is_class _ = false

abbrev pub is_opening : Word → Bool
is_opening word.Opening = true
is_opening _ = false

abbrev pub is_fundecl : Word → Bool
is_fundecl word.Fundecl = true
is_fundecl _ = false

-- The uses in parts but the first.
abbrev pub uses_behind : (inner : Bool) → Pieces → List Use
uses_behind inner End = []
uses_behind inner (Then tag parts) = uses_among inner parts

-- The uses in a node, by its word.
abbrev pub uses_as : (inner : Bool) → At → Word → Pieces → List Use
uses_as inner at w parts =
    if is_id w then use_at at inner ∷ []
    else if is_class w then [] else if is_opening w then uses_behind inner parts else uses_among (inner || makes_function w) parts

abbrev pub seen : Held → Use
seen u = record { reference = u.reference.0; inner = u.inner }
