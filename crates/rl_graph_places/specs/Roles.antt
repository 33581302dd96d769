-- The part that places play in a value.
use Rattle.std.specs.Prelude.{◌≡◌, if◌then◌else◌, List, [], ◌∷◌}
use Rattle.rl_hir.specs.declared.instruction.InstructionValue.{InstructionValue}
use Rattle.rl_hir.specs.Pieces.{operands, pattern_pieces}
use Rattle.rl_hir.specs.declared.instruction.Place.{Place}
use Rattle.rl_model.specs.WellFormed.{operand_places, value_places}
use Rattle.rl_model.specs.Worlds.{assigned_places, is_function_kind, is_hoisted, is_reassign, marked_places, shared_places}
use Rattle.rl_graph_places.specs.declared.role.Role.{Role}
use Rattle.rl_graph_places.specs.declared.role.Role.TheVariants as role

-- The places that a value with this role assigns.
abbrev pub assigned_by : Role → List Place
assigned_by (role.Stores k p v) = if is_reassign k then p ∷ [] else []
assigned_by (role.Declares k p) = []
assigned_by (role.Destructures d) = if is_reassign d.now.kind then operand_places (operands (pattern_pieces d.now.pattern)) else []
assigned_by (role.Updates p) = p ∷ []
assigned_by role.Reads = []

-- The places that it marks, of those that it names.
abbrev pub marked_by : Role → (places : List Place) → List Place
marked_by (role.Stores k p v) places = places
marked_by (role.Declares k p) places = if is_hoisted k then [] else p ∷ []
marked_by (role.Destructures d) places = places
marked_by (role.Updates p) places = places
marked_by role.Reads places = places

-- As `marked_by`, where the store of a function declaration has none.
abbrev pub shared_by : Role → (places : List Place) → List Place
shared_by (role.Stores k p v) places = if is_function_kind k then [] else p ∷ v ∷ []
shared_by (role.Declares k p) places = if is_hoisted k then [] else p ∷ []
shared_by (role.Destructures d) places = places
shared_by (role.Updates p) places = places
shared_by role.Reads places = places

pub record Plays (r : Role) (value : InstructionValue) : Type 0 where
  pub assigned : assigned_places value ≡ assigned_by r
  pub marked : marked_places value ≡ marked_by r (value_places value)
  pub shared : shared_places value ≡ shared_by r (value_places value)
