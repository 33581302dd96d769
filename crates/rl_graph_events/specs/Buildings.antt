-- Events in the making.
use Rattle.std.specs.Prelude.{ℕ, List, [], ◌∷◌, ◌++◌, codes}
use Rattle.rl_hir.specs.Pieces.{Piece, Says, Names, Gives, Spreads, Takes}
use Rattle.rl_hir.specs.Values.{Form, Silent, Asks, Assigns}
use Rattle.rl_hir.specs.declared.instruction.Place.{Place}
use Rattle.rl_machine.specs.Acts.{operand_value}
use Rattle.rl_machine.specs.Traces.{Store}
use Rattle.rl_machine.specs.declared.trace.Event.{Event}
use Rattle.rl_machine.specs.declared.trace.Value.{Value}
use Rattle.rl_trace.specs.Progress.{seen}
use Rattle.rl_graph_events.specs.declared.building.Building.{Building}

-- The texts and operands so far, over the values of the run.
pub record Built : Type 0 where
  pub store : Store
  pub texts : List (List ℕ)
  pub operands : List Value

abbrev pub built : Building → Built
built b = record { store = (seen b.progress.now).store; texts = b.texts; operands = b.operands }

-- With the texts and operands of one piece more.
abbrev pub added : Piece → Built → Built
added (Says text) b = record b { texts = b.texts ++ text ∷ [] }
added (Names name) b = record b { texts = b.texts ++ (46 ∷ name) ∷ [] }
added (Gives place) b = record b { texts = b.texts ++ codes "place" ∷ []; operands = b.operands ++ b.store place.identifier.0 ∷ [] }
added (Spreads place) b = record b { texts = b.texts ++ codes "spread" ∷ []; operands = b.operands ++ b.store place.identifier.0 ∷ [] }
added (Takes operand) b = record b { operands = b.operands ++ operand_value b.store operand ∷ [] }

abbrev pub adds : List Piece → Built → Built
adds [] b = b
adds (piece ∷ pieces) b = adds pieces (added piece b)

-- With the value of a place as the only operand.
abbrev pub with_operand : Place → Built → Built
with_operand place b = record b { operands = b.store place.identifier.0 ∷ [] }

-- With the texts and operands of a value.
abbrev pub filled : Form → Built → Built
filled (Silent word fields) b = b
filled (Asks word pieces) b = adds pieces b
filled (Assigns word head pieces value targets) b = with_operand value (adds pieces b)

-- An event without texts and operands so far.
abbrev pub blank : Store → Built
blank store = record { store = store; texts = []; operands = [] }

abbrev pub event_from : (kind : List ℕ) → Built → Event
event_from kind b = record { kind = kind; texts = b.texts; operands = b.operands }
