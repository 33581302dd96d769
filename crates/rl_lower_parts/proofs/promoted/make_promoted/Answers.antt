use Rattle.std.proofs.Common.{refl, ap}
use Rattle.rl_builder.specs.Builder.{state_of}
use Rattle.rl_hir.specs.declared.instruction.Place.{Place}
use Rattle.rl_lower_parts.proofs.MovedDerivations.{promoted_is}
use Rattle.rl_lower_parts.proofs.promoted.make_promoted.Goals as goal

pub returns-clause-state : goal.returns-clause-state
returns-clause-state g c =
    promoted_is (state_of g.U.ReadsUnit.tables c.args.builder.now) (state_of g.U.ReadsUnit.tables c.create_temporary_place.new.self) _
    c.environment_mut.result.now c.set_name.new.self c.in_ok-place.place.identifier.0 c.in_ok-temporary_name.field-0 c.args.span
    c.in_ok-place.ensures.state (ap (λ (p : Place). p.identifier.0) c.in_ok-place.ensures.place) c.in_ok-temporary_name.ensures
    c.environment_mut.ensures.value c.set_name.ensures refl
