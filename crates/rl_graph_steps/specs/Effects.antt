-- The effects that those of a run stand for.
use Rattle.std.specs.Prelude.{ℕ, Option, Some, None, List, [], ◌∷◌}
use Rattle.rl_hir.specs.Pieces.{operands, pattern_pieces}
use Rattle.rl_machine.specs.Acts.{Act, Asks, Computes, Opens, Steps, Landing, targets}
use Rattle.rl_machine.specs.declared.trace.Event.{Event}
use Rattle.rl_trace.specs.Values.{shown}
use Rattle.rl_graph_steps.specs.declared.act.Act.{Act as Effect}
use Rattle.rl_graph_steps.specs.declared.act.Act.TheVariants as effect
use Rattle.rl_graph_steps.specs.declared.act.Into.{Into}
use Rattle.rl_graph_steps.specs.declared.act.Into.TheVariants as into
use Rattle.rl_graph_steps.specs.declared.act.Landing.{Landing as Lands}
use Rattle.rl_graph_steps.specs.declared.act.Landing.TheVariants as landing

abbrev pub ids_of : Into → List ℕ
ids_of into.Nothing = []
ids_of (into.One id) = id.0 ∷ []
ids_of (into.Two first second) = first.0 ∷ second.0 ∷ []

abbrev pub landing_of : Lands → Landing
landing_of (landing.Gives ids) = record { given = ids_of ids; taken = []; kept = [] }
landing_of (landing.Updates variable result v) = record { given = variable.0 ∷ []; taken = []; kept = (result.0, shown v) ∷ [] }
landing_of (landing.Keeps result v) = record { given = []; taken = []; kept = (result.0, shown v) ∷ [] }
landing_of (landing.Takes pattern result v) =
    record { given = []; taken = targets (operands (pattern_pieces pattern.now)); kept = (result.0, shown v) ∷ [] }

-- The effect, of an instruction with this event and this identifier.
abbrev pub act_of : Event → (result : ℕ) → Effect → Act
act_of event result (effect.Computes v ids) = Computes (shown v) (ids_of ids)
act_of event result (effect.Asks l) = Asks event (landing_of l)
act_of event result effect.Opens = Opens event result
act_of event result effect.Steps = Steps event result

-- An effect without an event.
abbrev pub silent_act : Effect → Option Act
silent_act (effect.Computes v ids) = Some (Computes (shown v) (ids_of ids))
silent_act _ = None
