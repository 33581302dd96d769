-- The events of constructs whose parts give values.
use Rattle.std.specs.Prelude.{if◌then◌else◌, List, ◌∷◌, ◌++◌, ℕ, codes}
use Rattle.rl_model.specs.Scene.{Scene}
use Rattle.rl_model.specs.Shapes as shapes
use Rattle.rl_syntax.specs.Syntax.{Pieces, syntax}
use Rattle.rl_source_gather.specs.Tags.{element_texts}
use Rattle.rl_source_stack.specs.Parts.{among}
use Rattle.rl_source_stack.specs.declared.gather.Gather.{Gather}
use Rattle.rl_source_stack.specs.declared.gather.Gather.TheVariants as gather

-- The kind of the event of a construct.
abbrev pub kind_of : Gather → List ℕ
kind_of (gather.Call lent arguments) = if lent then codes "methodcall" else codes "call"
kind_of (gather.New arguments) = codes "new"
kind_of (gather.Template quasis expressions) = codes "template"
kind_of (gather.Tagged quasis expressions) = codes "tagged"
kind_of (gather.Array items) = codes "array"
kind_of (gather.Object properties) = codes "object"
kind_of (gather.Attributes tag attributes children) = codes "jsx"
kind_of (gather.Children tag attributes children) = codes "jsx"
kind_of (gather.Fragment children) = codes "jsxfragment"

-- The texts of a template, and the shapes of its expressions.
abbrev pub template_texts : (quasis expressions : Pieces) → List (List ℕ)
template_texts quasis expressions = shapes.quasis quasis ++ shapes.shapes expressions

-- The texts of the event of a construct.
abbrev pub texts_of : Scene → Gather → List (List ℕ)
texts_of scene (gather.Call lent arguments) = shapes.shapes (among arguments.trees.now)
texts_of scene (gather.New arguments) = shapes.shapes (among arguments.trees.now)
texts_of scene (gather.Template quasis expressions) = template_texts (among quasis.trees.now) (among expressions.trees.now)
texts_of scene (gather.Tagged quasis expressions) = codes "place" ∷ template_texts (among quasis.trees.now)
    (among expressions.trees.now)
texts_of scene (gather.Array items) = shapes.shapes (among items.trees.now)
texts_of scene (gather.Object properties) = shapes.shapes (among properties.trees.now)
texts_of scene (gather.Attributes tag attributes children) = element_texts scene (syntax tag.tree.now)
    (among attributes.trees.now) (among children.trees.now)
texts_of scene (gather.Children tag attributes children) = element_texts scene (syntax tag.tree.now) (among attributes.trees.now)
    (among children.trees.now)
texts_of scene (gather.Fragment children) = shapes.child_shapes scene (among children.trees.now)
