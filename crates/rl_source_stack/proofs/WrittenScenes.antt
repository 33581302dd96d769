-- The scene of a run is that of the function as it is written.
use Rattle.std.proofs.Common.{◌≡◌, ℕ, if◌then◌else◌, Some, List, length}
use Rattle.rl_atoms.specs.Entities.{entity_value}
use Rattle.rl_bindings.specs.Tables.{symbols_in}
use Rattle.rl_jsx.specs.JsxTexts.{decode_jsx_entities, trim_jsx_text}
use Rattle.rl_machine.specs.Traces.{World}
use Rattle.rl_model.specs.Code.{contains, world_of}
use Rattle.rl_model.specs.JsxText.{entity_of, texts_kept_by}
use Rattle.rl_model.specs.Marked.{marked}
use Rattle.rl_model.specs.Scenes.{written_scene}
use Rattle.rl_model.specs.Units.{names_of}
use Rattle.rl_names.specs.Seen.{seen}
use Rattle.rl_names.specs.declared.names.FunctionNames.{FunctionNames}
use Rattle.rl_source_stack.specs.Scenes.{scene_of, written}
use Rattle.rl_source_stack.specs.Texts.{keeps_spaces}
use Rattle.rl_source_stack.specs.declared.texts.JsxTexts.{JsxTexts}
use Rattle.rl_syntax.specs.Syntax.{Syntax}

-- From the names of the unit, the world of the function, the entities of the unit and the ids of the texts that keep their spaces.
pub scene_written : (u function : Syntax) (names : FunctionNames) (texts : JsxTexts) (world : World)
    → seen names ≡ names_of u
    → world ≡ world_of (names_of u) (length (symbols_in u)) (names_of u).declared (marked u) function
    → ((name : List ℕ) → entity_value texts.entities.now name ≡ entity_of u name)
    → ((node : ℕ) → keeps_spaces texts node ≡ contains (texts_kept_by function) node)
    → scene_of names texts world ≡ written_scene u function
scene_written u function names texts world names_are world_is entities_are spaced_are = λ i.
    written (names_are i) (world_is i)
    (λ node text. if spaced_are node i
    then Some (decode_jsx_entities (λ name. entities_are name i) text)
    else trim_jsx_text (decode_jsx_entities (λ name. entities_are name i) text))
    (λ text. decode_jsx_entities (λ name. entities_are name i) text)
