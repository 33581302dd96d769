-- Type variables: a state with one more, and the runs of a value under a type.
use Rattle.std.proofs.Common.{inl, inr, [], ◌∷◌, length, Option, refl, arith}
use Rattle.rl_builder.specs.Builder.{with_type}
use Rattle.rl_builder.specs.Temporaries.{with_value}
use Rattle.rl_hir.specs.declared.instruction.HirType.{HirType}
use Rattle.rl_hir.specs.declared.instruction.InstructionValue.TheVariants as values
use Rattle.rl_hir.specs.declared.instruction.Place.{Place}
use Rattle.rl_model.specs.Actions.{Action}
use Rattle.rl_model.specs.Expressions.{first_piece}
use Rattle.rl_runs.proofs.BlockIds.{ids_refl}
use Rattle.rl_runs.proofs.Common.{Span, State, Value, World}
use Rattle.rl_runs.proofs.Expressions.{one_runs, all_given}
use Rattle.rl_runs.proofs.FinalNames.{names_refl}
use Rattle.rl_runs.proofs.Moves.{extends_then}
use Rattle.rl_runs.proofs.Naming.{named_refl}
use Rattle.rl_runs.proofs.Used.{used_refl}
use Rattle.rl_runs.proofs.Variables.{later_runs}
use Rattle.rl_runs.specs.Blocks.{PreservesBlocks}
use Rattle.rl_runs.specs.Facts.{Extends}
use Rattle.rl_runs.specs.Simulation.{RunsExpression}

pub extends_typed : (s : State) → Extends s (with_type s)
extends_typed s = record {
  done = λ id f d. record { place = d.place; block = d.block; found = d.found; named = d.named; holds = d.holds };
  wip = λ id f w. inr (record { named = w.named; holds = w.holds });
  table = λ number i is. is;
  completed = λ id k. k;
  current = inl refl;
  entry = refl;
  handlers = refl;
  scopes = refl;
  blocks = omega arith;
  identifiers = omega arith;
  names = names_refl s.env.pairs (length s.env.identifiers);
  sound = λ q. q;
}

pub blocks_typed : (s : State) → PreservesBlocks s (with_type s)
blocks_typed s = record {
  extends = extends_typed s;
  ids = ids_refl s.completed s.current.id.0 s.env.next_block;
  used = λ id above below. used_refl s id above below;
  named = named_refl s;
  ended = λ all. all;
  straight = λ id n. inl n;
  settle = λ c cover own below jumps old. old;
  looped = λ c cover entry old. old;
}

-- A value under a type that is known.
pub cast_runs : (world : World) (s t : State) (d : Action Value) (p : Place) (cast : HirType) (at span : Option Span) → Extends s t
    → RunsExpression world d s t p.identifier.0
    → RunsExpression world d s (with_value t (values.TypeCastExpression p cast at) span) (length t.env.identifiers)
cast_runs world s t d p cast at span g r =
    all_given world s t (λ ways k. d ways (λ v. k (v ∷ []))) (p.identifier.0 ∷ []) (values.TypeCastExpression p cast at) span g first_piece
    (λ store. refl) (one_runs world s t d p.identifier.0 r)

-- A value under a type variable of its own.
pub variable_cast_runs : (world : World) (s t : State) (d : Action Value) (p : Place) (cast : HirType) (at span : Option Span) → Extends s t
    → RunsExpression world d s t p.identifier.0
    → RunsExpression world d s (with_value (with_type t) (values.TypeCastExpression p cast at) span) (length t.env.identifiers)
variable_cast_runs world s t d p cast at span g r =
    cast_runs world s (with_type t) d p cast at span (extends_then g (extends_typed t))
    (later_runs t (with_type t) (extends_typed t) refl r)
