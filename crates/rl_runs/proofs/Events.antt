-- Tests, events and steps of loops: source and graph ask alike, and both go on from later points with fewer answers.
use Rattle.std.proofs.Common.{List, [], ◌∷◌, refl, ap, arith}
use Rattle.rl_machine.specs.declared.trace.AnswerKind.{AnswerKind}
use Rattle.rl_machine.specs.declared.trace.AnswerKind.TheVariants.{Yes, No, Throw}
use Rattle.rl_machine.specs.declared.trace.Event.{Event}
use Rattle.rl_machine.specs.declared.trace.Trace.{Trace}
use Rattle.rl_machine.specs.Ends.{Notes}
use Rattle.rl_machine.specs.Machine.{Next, changer}
use Rattle.rl_machine.specs.Traces.{AnswerCont, Cont, ValueCont, by_kind, emit, fired, set_open, stepped, tested}
use Rattle.rl_runs.proofs.Common.{Answer, Code, Store, Value, World}
use Rattle.rl_runs.proofs.Shared.{since_answer}
use Rattle.rl_runs.proofs.Steps.{comes_at_once}
use Rattle.rl_runs.specs.Continuations.{Agrees, Eventually, IsBehind, SharesVariables}
use Rattle.rl_runs.specs.Facts.{AreOne}

pub emits : (c : Code) (event : Event) (f : (stuck : Trace) → Next → Trace) (t : Trace) → Eventually c f t
    → Eventually c (λ stuck next. emit event (f stuck next)) (emit event t)
emits c event f t comes =
    record { by = (comes.by.0, λ stuck steps enough. ap (λ u. emit event u) (comes.by.1 stuck steps enough)) }

module _ (c : Code) (world : World) (one : AreOne c.ident) (shares : SharesVariables c.ident world c.world) where
  -- A test whose sides may be stuck.
  pub stuck_tests_come : (event : Event) {source store : Store} {notes : Notes} (answers : List Answer)
      (g_yes g_no : Trace → Next → Cont) (s_yes s_no : Cont)
      → Agrees c.ident source store
      → ((source1 store1 : Store) (rest : List Answer) → IsBehind c store notes answers source1 store1 rest
      → Eventually c (λ stuck next. g_yes stuck next store1 rest) (s_yes source1 rest))
      → ((source1 store1 : Store) (rest : List Answer) → IsBehind c store notes answers source1 store1 rest
      → Eventually c (λ stuck next. g_no stuck next store1 rest) (s_no source1 rest))
      → Eventually c (λ stuck next. tested (changer c) event store answers (g_yes stuck next) (g_no stuck next))
      (tested (set_open world.opens) event source answers s_yes s_no)
  stuck_tests_come event {source} {store} {notes} [] g_yes g_no s_yes s_no a if_yes if_no = comes_at_once c _ _ (λ stuck next. refl)
  stuck_tests_come event {source} {store} {notes} (answer ∷ rest) g_yes g_no s_yes s_no a if_yes if_no =
      emits c event _ _ (by_answer answer.kind)
    where
      source1 : Store
      source1 = set_open world.opens answer.assignments source

      store1 : Store
      store1 = changer c answer.assignments store

      after : IsBehind c store notes (answer ∷ rest) source1 store1 rest
      after = record {
        since = λ r. since_answer c world one shares (answer ∷ rest) answer.assignments a
            (omega arith) r;
        fewer = omega arith;
      }

      by_answer : (kind : AnswerKind)
          → Eventually c (λ stuck next. by_kind kind (g_yes stuck next store1 rest) (g_no stuck next store1 rest)
          (g_no stuck next store1 rest))
          (by_kind kind (s_yes source1 rest) (s_no source1 rest) (s_no source1 rest))
      by_answer Yes = if_yes source1 store1 rest after
      by_answer No = if_no source1 store1 rest after
      by_answer Throw = if_no source1 store1 rest after

  pub tests_come : (event : Event) {source store : Store} {notes : Notes} (answers : List Answer) (g_yes g_no : Next → Cont)
      (s_yes s_no : Cont)
      → Agrees c.ident source store
      → ((source1 store1 : Store) (rest : List Answer) → IsBehind c store notes answers source1 store1 rest
      → Eventually c (λ stuck next. g_yes next store1 rest) (s_yes source1 rest))
      → ((source1 store1 : Store) (rest : List Answer) → IsBehind c store notes answers source1 store1 rest
      → Eventually c (λ stuck next. g_no next store1 rest) (s_no source1 rest))
      → Eventually c (λ stuck next. tested (changer c) event store answers (g_yes next) (g_no next))
      (tested (set_open world.opens) event source answers s_yes s_no)
  tests_come event {source} {store} {notes} answers g_yes g_no s_yes s_no a if_yes if_no =
      stuck_tests_come event answers (λ stuck next. g_yes next) (λ stuck next. g_no next) s_yes s_no a if_yes if_no

  -- An event: a value or a throw.
  pub fired_comes : (event : Event) {source store : Store} {notes : Notes} (answers : List Answer) (g_on : Next → AnswerCont)
      (g_throw : Trace → Next → ValueCont) (s_on : AnswerCont) (s_throw : ValueCont)
      → Agrees c.ident source store
      → ((a : Answer) (source1 store1 : Store) (rest : List Answer) → IsBehind c store notes answers source1 store1 rest
      → Eventually c (λ stuck next. g_on next a store1 rest) (s_on a source1 rest))
      → ((v : Value) (source1 store1 : Store) (rest : List Answer) → IsBehind c store notes answers source1 store1 rest
      → Eventually c (λ stuck next. g_throw stuck next v store1 rest) (s_throw v source1 rest))
      → Eventually c (λ stuck next. fired (changer c) event store answers (g_on next) (g_throw stuck next))
      (fired (set_open world.opens) event source answers s_on s_throw)
  fired_comes event {source} {store} {notes} [] g_on g_throw s_on s_throw a given thrown = comes_at_once c _ _ (λ stuck next. refl)
  fired_comes event {source} {store} {notes} (answer ∷ rest) g_on g_throw s_on s_throw a given thrown =
      emits c event _ _ (by_answer answer.kind)
    where
      source1 : Store
      source1 = set_open world.opens answer.assignments source

      store1 : Store
      store1 = changer c answer.assignments store

      after : IsBehind c store notes (answer ∷ rest) source1 store1 rest
      after = record {
        since = λ r. since_answer c world one shares (answer ∷ rest) answer.assignments a
            (omega arith) r;
        fewer = omega arith;
      }

      by_answer : (kind : AnswerKind)
          → Eventually c (λ stuck next. by_kind kind (g_on next answer store1 rest) (g_on next answer store1 rest)
          (g_throw stuck next answer.value store1 rest))
          (by_kind kind (s_on answer source1 rest) (s_on answer source1 rest) (s_throw answer.value source1 rest))
      by_answer Yes = given answer source1 store1 rest after
      by_answer No = given answer source1 store1 rest after
      by_answer Throw = thrown answer.value source1 store1 rest after

  -- A step of a loop: a next value, the end, or a throw.
  pub steps_come : (event : Event) {source store : Store} {notes : Notes} (answers : List Answer) (g_next : Next → ValueCont)
      (g_end : Next → Cont) (g_throw : Trace → Next → ValueCont)
      (s_next : ValueCont) (s_end : Cont) (s_throw : ValueCont) → Agrees c.ident source store
      → ((v : Value) (source1 store1 : Store) (rest : List Answer) → IsBehind c store notes answers source1 store1 rest
      → Eventually c (λ stuck next. g_next next v store1 rest) (s_next v source1 rest))
      → ((source1 store1 : Store) (rest : List Answer) → IsBehind c store notes answers source1 store1 rest
      → Eventually c (λ stuck next. g_end next store1 rest) (s_end source1 rest))
      → ((v : Value) (source1 store1 : Store) (rest : List Answer) → IsBehind c store notes answers source1 store1 rest
      → Eventually c (λ stuck next. g_throw stuck next v store1 rest) (s_throw v source1 rest))
      → Eventually c (λ stuck next. stepped (changer c) event store answers (g_next next) (g_end next) (g_throw stuck next))
      (stepped (set_open world.opens) event source answers s_next s_end s_throw)
  steps_come event {source} {store} {notes} [] g_next g_end g_throw s_next s_end s_throw a given ended thrown =
      comes_at_once c _ _ (λ stuck next. refl)
  steps_come event {source} {store} {notes} (answer ∷ rest) g_next g_end g_throw s_next s_end s_throw a given ended thrown =
      emits c event _ _ (by_answer answer.kind)
    where
      source1 : Store
      source1 = set_open world.opens answer.assignments source

      store1 : Store
      store1 = changer c answer.assignments store

      after : IsBehind c store notes (answer ∷ rest) source1 store1 rest
      after = record {
        since = λ r. since_answer c world one shares (answer ∷ rest) answer.assignments a
            (omega arith) r;
        fewer = omega arith;
      }

      by_answer : (kind : AnswerKind)
          → Eventually c (λ stuck next. by_kind kind (g_next next answer.value store1 rest) (g_end next store1 rest)
          (g_throw stuck next answer.value store1 rest))
          (by_kind kind (s_next answer.value source1 rest) (s_end source1 rest) (s_throw answer.value source1 rest))
      by_answer Yes = given answer.value source1 store1 rest after
      by_answer No = ended source1 store1 rest after
      by_answer Throw = thrown answer.value source1 store1 rest after
