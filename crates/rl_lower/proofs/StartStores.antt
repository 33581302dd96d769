-- The stores in which runs begin agree, whatever symbols get identifiers later.
use Rattle.std.proofs.Common.{ℕ, true, List, [], ◌∷◌, map, Option, refl}
use Rattle.rl_hir.specs.Pairs.{identifier_of}
use Rattle.rl_hir.specs.declared.function.Pair.{Pair}
use Rattle.rl_hir.specs.declared.function.Param.{Param}
use Rattle.rl_machine.specs.Machine.{set_by}
use Rattle.rl_machine.specs.Traces.{Store, take_values, unset}
use Rattle.rl_machine.specs.declared.trace.Assignment.{Assignment}
use Rattle.rl_machine.specs.declared.trace.Value.{Value}
use Rattle.rl_model.specs.Functions.{set_all}
use Rattle.rl_model.specs.Runs.{param_identifier}
use Rattle.rl_runs.specs.Continuations.{Agrees}
use Rattle.rl_runs.proofs.Shared.{agrees_where}
use Rattle.rl_runs.specs.Facts.{AreOne}

-- Each parameter takes the argument at its index, or Undefined.
abbrev pub take_arguments : List Param → List Value → Store → Store
take_arguments params arguments store = take_values (map param_identifier params) arguments store

-- The store in which a run begins, before the parameters take their arguments.
abbrev pub start_values : List Pair → List Assignment → Store
start_values pairs start = set_by (identifier_of pairs) (λ symbol. true) start unset

module _ (ident : ℕ → Option ℕ) (one : AreOne ident) where
  agrees_all : (start : List Assignment) (source store : Store) → Agrees ident source store
      → Agrees ident (set_all start source) (set_by ident (λ symbol. true) start store)
  agrees_all [] source store a = a
  agrees_all (s ∷ start) source store a =
      agrees_all start _ _ (agrees_where ident one source store s.symbol.0 s.value (ident s.symbol.0) refl a)

  -- The stores before parameters take their arguments.
  pub agrees_start : (start : List Assignment) → Agrees ident (set_all start unset) (set_by ident (λ symbol. true) start unset)
  agrees_start start = agrees_all start unset unset (record { at = λ symbol identifier is. refl })
