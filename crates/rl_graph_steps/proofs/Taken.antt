-- Places that take the pieces of an answer.
use Rattle.std.proofs.Common.{◌≡◌, ◌++◌, ℕ, List, [], ◌∷◌, refl}
use Rattle.rl_hir.specs.Pieces.{Piece, element_pieces, operands, taken_pieces}
use Rattle.rl_hir.specs.declared.instruction.ArrayElement.{ArrayElement}
use Rattle.rl_hir.specs.declared.instruction.ArrayElement.TheVariants as elements
use Rattle.rl_hir.specs.declared.instruction.ObjectPatternProperty.{ObjectPatternProperty}
use Rattle.rl_hir.specs.declared.instruction.ObjectPatternProperty.TheVariants as properties
use Rattle.rl_machine.specs.Acts.{targets}
use Rattle.rl_machine.specs.Traces.{take_values}
use Rattle.rl_machine.specs.declared.trace.Value.{Value}
use Rattle.rl_machine.specs.declared.trace.Value.TheVariants as value
use Rattle.rl_graph_steps.specs.States.{State, Taking, given, takes, took}

pub element_takes : (x : ArrayElement) (ps : List Piece) (t : Taking)
    → takes (targets (operands (element_pieces x ++ ps))) t
    ≡ takes (targets (operands ps)) (takes (targets (operands (element_pieces x))) t)
element_takes (elements.Place p) ps t = refl
element_takes (elements.Spread p) ps t = refl
element_takes elements.Hole ps t = refl

pub property_takes : (x : ObjectPatternProperty) (ps : List Piece) (t : Taking)
    → takes (targets (operands (taken_pieces x ++ ps))) t ≡ takes (targets (operands ps)) (takes (targets (operands (taken_pieces x))) t)
property_takes (properties.Property key p) ps t = refl
property_takes (properties.Spread p) ps t = refl

-- The store when all have taken theirs.
pub takes_values : (ids : List ℕ) (left : List Value) (s : State)
    → (takes ids (took left s)).state ≡ record s { seen = record s.seen { store = take_values ids left s.seen.store } }
takes_values [] left s = refl
takes_values (id ∷ ids) [] s = takes_values ids [] (given (id ∷ []) value.Undefined s)
takes_values (id ∷ ids) (v ∷ values) s = takes_values ids values (given (id ∷ []) v s)
