-- The scenes of the functions of a unit, as they are written.
use Rattle.std.specs.Prelude.{false, length}
use Rattle.rl_bindings.specs.Tables.{symbols_in}
use Rattle.rl_model.specs.Code.{world_of}
use Rattle.rl_model.specs.JsxText.{attribute_text, child_text}
use Rattle.rl_model.specs.Marked.{marked}
use Rattle.rl_model.specs.Scene.{Scene}
use Rattle.rl_model.specs.Units.{names_of}
use Rattle.rl_syntax.specs.Syntax.{Syntax}

-- The scene of a function of a unit, as it is written.
abbrev pub written_scene : (u function : Syntax) → Scene
written_scene u function = record {
  names = names_of u;
  world = world_of (names_of u) (length (symbols_in u)) (names_of u).declared (marked u) function;
  stored = (names_of u).declared;
  ported = false;
  takes_early = λ everywhere bind. false;
  child_text = child_text u function;
  attribute_text = attribute_text u;
}
