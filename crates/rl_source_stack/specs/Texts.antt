-- The texts of JSX that a run gives, by what it holds of the unit and of the function.
use Rattle.std.specs.Prelude.{ℕ, if◌then◌else◌, Bool, false, Option, Some, List, map, slice_get}
use Rattle.rl_atoms.specs.Entities.{entity_value}
use Rattle.rl_base.specs.declared.ids.NodeId.{NodeId}
use Rattle.rl_jsx.specs.JsxTexts.{decode_jsx_entities, trim_jsx_text}
use Rattle.rl_semantic.specs.Items.{of_item}
use Rattle.rl_source_stack.specs.declared.texts.JsxTexts.{JsxTexts}

-- The ids of nodes, as numbers.
abbrev pub numbers_of : List NodeId → List ℕ
numbers_of nodes = map (λ (node : NodeId). node.0) nodes

-- The text that an attribute gives: its entities are decoded.
abbrev pub attribute_text_by : JsxTexts → List ℕ → List ℕ
attribute_text_by texts text = decode_jsx_entities (entity_value texts.entities.now) text

-- True of a text that keeps its spaces, by its node.
abbrev pub keeps_spaces : JsxTexts → (node : ℕ) → Bool
keeps_spaces texts node = of_item false (λ flag. flag) (slice_get texts.spaced.now node)

-- The text that a child gives, by its node: its entities are decoded, and then its lines are trimmed, unless it keeps its spaces. None
-- where nothing is left.
abbrev pub child_text_by : JsxTexts → (node : ℕ) → List ℕ → Option (List ℕ)
child_text_by texts node text =
    if keeps_spaces texts node then Some (attribute_text_by texts text)
    else trim_jsx_text (attribute_text_by texts text)
