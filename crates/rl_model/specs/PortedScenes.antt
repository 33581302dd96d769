-- The scenes of the functions of a unit, as the port runs them.
use Rattle.std.specs.Prelude.{ℕ, Bool, true, ◌||◌, not, Option, length}
use Rattle.rl_base.specs.declared.ids.SymbolId.{SymbolId}
use Rattle.rl_bindings.specs.Tables.{symbols_in}
use Rattle.rl_semantic.specs.Items.{of_item}
use Rattle.rl_model.specs.Code.{world_of}
use Rattle.rl_model.specs.Hoisting.{is_context_at}
use Rattle.rl_model.specs.Marked.{marked}
use Rattle.rl_model.specs.Scene.{Scene}
use Rattle.rl_model.specs.Scenes.{written_scene}
use Rattle.rl_model.specs.Tables.{tables_of}
use Rattle.rl_model.specs.Units.{names_of}
use Rattle.rl_syntax.specs.Syntax.{Syntax}

-- True of a name in a pattern, at its `bind`, that is no context identifier there.
abbrev pub is_plain_at : (u : Syntax) → (bind : ℕ) → Bool
is_plain_at u bind =
    of_item true (λ (s : SymbolId). not (is_context_at (tables_of u) (names_of u) (marked u) bind s.0)) ((names_of u).declared bind)

-- As `written_scene`, in the port's run. `pick` gives the symbol that a function declaration stores to, by the `bind` of its name.
abbrev pub ported_scene : (u : Syntax) → (pick : (bind : ℕ) → Option SymbolId) → (function : Syntax) → Scene
ported_scene u pick function = record (written_scene u function) {
  world = world_of (names_of u) (length (symbols_in u)) pick (marked u) function;
  stored = pick;
  ported = true;
  takes_early = λ everywhere bind. everywhere || is_plain_at u bind;
}
