-- The scene of a run: the names of the unit, the texts of JSX, and the variables that the function shares with others.
use Rattle.std.specs.Prelude.{ℕ, false, Option, List}
use Rattle.rl_machine.specs.Traces.{World}
use Rattle.rl_model.specs.Scene.{Scene}
use Rattle.rl_names.specs.Names.{Names}
use Rattle.rl_names.specs.Seen.{seen}
use Rattle.rl_names.specs.declared.names.FunctionNames.{FunctionNames}
use Rattle.rl_source_stack.specs.Texts.{attribute_text_by, child_text_by}
use Rattle.rl_source_stack.specs.declared.texts.JsxTexts.{JsxTexts}

-- The scene of the run as it is written: no part of a pattern takes its piece early, and a function declaration stores to its own symbol.
abbrev pub written : Names → World → (child_text : ℕ → List ℕ → Option (List ℕ)) → (attribute_text : List ℕ → List ℕ) → Scene
written names world child_text attribute_text = record {
  names = names;
  world = world;
  stored = names.declared;
  ported = false;
  takes_early = λ everywhere bind. false;
  child_text = child_text;
  attribute_text = attribute_text;
}

-- The scene by what a run holds of the unit and of the function.
abbrev pub scene_of : FunctionNames → JsxTexts → World → Scene
scene_of names texts world = written (seen names) world (child_text_by texts) (attribute_text_by texts)
