-- The imports among the nodes of a unit.
use Rattle.std.specs.Prelude.{Bool, true, false, ◌||◌, List, [], ◌∷◌}
use Rattle.rl_syntax.specs.declared.nodes.NodeEntry.{NodeEntry}
use Rattle.rl_syntax.specs.declared.word.Word.{Word}
use Rattle.rl_syntax.specs.declared.word.Word.TheVariants as word

-- True of the word of imports.
abbrev pub is_import : Word → Bool
is_import word.Import = true
is_import _ = false

-- True if an import is among nodes.
abbrev pub has_import : List NodeEntry → Bool
has_import [] = false
has_import (e ∷ es) = is_import e.word || has_import es
