-- The runs of updates of properties and of calls of methods: a property is loaded, and what comes behind takes its value.
use Rattle.std.proofs.Common.{◌≡◌, ℕ, true, false, ◌++◌, List, [], ◌∷◌, All, length, map, Option, Some, None, refl, ap}
use Rattle.std.proofs.lemmas.List.Elements.{All-cons, All-head, All-nil, All-tail}
use Rattle.rl_base.specs.Operators.{operator_text}
use Rattle.rl_base.specs.declared.operator.BinaryOperator.{BinaryOperator}
use Rattle.rl_builder.specs.Temporaries.{temporary, with_value}
use Rattle.rl_hir.specs.declared.instruction.InstructionValue.{InstructionValue}
use Rattle.rl_hir.specs.declared.instruction.InstructionValue.TheVariants as values
use Rattle.rl_hir.specs.declared.instruction.PrimitiveValue.TheVariants as primitives
use Rattle.rl_machine.specs.Acts.{Asks, act, gives, keeps}
use Rattle.rl_machine.specs.declared.trace.Event.{Event}
use Rattle.rl_machine.specs.declared.trace.Value.TheVariants as value
use Rattle.rl_machine.specs.Traces.{fired, set_open}
use Rattle.rl_model.specs.Actions.{Action}
use Rattle.rl_model.specs.Events.{Key, binary, load, store_in}
use Rattle.rl_model.specs.Expressions.{first_piece, later_pieces, update_property}
use Rattle.rl_model.specs.Scene.{Scene}
use Rattle.rl_model.specs.Shapes.{first_character}
use Rattle.rl_runs.proofs.Common.{Span, State, Store, Value, World}
use Rattle.rl_runs.proofs.Expressions.{all_asked, all_kept, over_asked, over_given, over_kept}
use Rattle.rl_runs.proofs.Growing.{arranged_runs, both_run, fronted_runs, picked_runs}
use Rattle.rl_runs.proofs.Moves.{extends_then, extends_value}
use Rattle.rl_runs.specs.Facts.{Extends}
use Rattle.rl_runs.specs.Simulation.{RunsAll, RunsExpression}

-- A property is updated, behind parts whose values tell its object and key: the old value is loaded, 1 is made, the new value is computed,
-- and stored.
module _ (scene : Scene) (s t : State) (ds : Action (List Value)) (identifiers : List ℕ) (object : List Value → Value)
    (key : List Value → Key) (loaded stored : InstructionValue) (operator : BinaryOperator) (text : List ℕ) (there : Span) where
  abbrev world : World
  world = scene.world

  abbrev t1 : State
  t1 = with_value t loaded (Some there)

  abbrev t2 : State
  t2 = with_value t1 (values.Primitive (primitives.Number 1)) None

  abbrev sum : InstructionValue
  sum = values.BinaryExpression operator (temporary t (Some there)) (temporary t1 None)

  abbrev t3 : State
  t3 = with_value t2 sum (Some there)

  abbrev old : ℕ
  old = length t.env.identifiers

  abbrev one : ℕ
  one = length t1.env.identifiers

  abbrev new : ℕ
  new = length t2.env.identifiers

  abbrev result : ℕ
  result = length t3.env.identifiers

  -- The values behind the first of the list, behind the second, and behind the third.
  abbrev later : List Value → List Value
  later vs = later_pieces (later_pieces (later_pieces vs))

  module _ (g : Extends s t) (rs : RunsAll world ds s t identifiers)
      (load_acts : (store : Store)
      → act old loaded store ≡ Asks (load (object (map store identifiers)) (key (map store identifiers))) (gives old))
      (store_acts : (store : Store)
      → act result stored store ≡ Asks (store_in (object (map store identifiers)) (key (map store identifiers)) (store new))
      (keeps result (store new)))
      (same : operator_text operator ≡ first_character text) where
    g3 : Extends s t3
    g3 =
        extends_then (extends_then (extends_then g (extends_value t loaded (Some there)))
        (extends_value t1 (values.Primitive (primitives.Number 1)) None)) (extends_value t2 sum (Some there))

    abbrev with_old : Action (List Value)
    with_old ways k =
        ds ways (λ vs source answers. fired (set_open world.opens) (load (object vs) (key vs)) source answers
        (λ a. k (a.value ∷ vs)) ways.throws)

    old_runs : RunsAll world with_old s t1 (old ∷ identifiers)
    old_runs =
        fronted_runs world s t t1 ds identifiers g (extends_value t loaded (Some there)) rs
        (λ vs ways k source answers. fired (set_open world.opens) (load (object vs) (key vs)) source answers (λ a. k a.value)
        ways.throws) old
        (over_asked world t identifiers loaded (Some there) (λ vs. load (object vs) (key vs)) load_acts)

    abbrev with_one : Action (List Value)
    with_one ways k = with_old ways (λ vs. k (value.Number 1 ∷ vs))

    one_runs : RunsAll world with_one s t2 (one ∷ old ∷ identifiers)
    one_runs =
        fronted_runs world s t1 t2 with_old (old ∷ identifiers) (extends_then g (extends_value t loaded (Some there)))
        (extends_value t1 (values.Primitive (primitives.Number 1)) None) old_runs (λ vs ways k. k (value.Number 1)) one
        (over_given world t1 (old ∷ identifiers) (values.Primitive (primitives.Number 1)) None (λ vs. value.Number 1) (λ store. refl))

    abbrev sum_event : List Value → Event
    sum_event vs = binary (first_character text) (first_piece (later_pieces vs)) (first_piece vs)

    abbrev with_new : Action (List Value)
    with_new ways k =
        with_one ways (λ vs source answers. fired (set_open world.opens) (sum_event vs) source answers (λ a. k (a.value ∷ vs)) ways.throws)

    new_runs : RunsAll world with_new s t3 (new ∷ one ∷ old ∷ identifiers)
    new_runs =
        fronted_runs world s t2 t3 with_one (one ∷ old ∷ identifiers)
        (extends_then (extends_then g (extends_value t loaded (Some there)))
        (extends_value t1 (values.Primitive (primitives.Number 1)) None)) (extends_value t2 sum (Some there)) one_runs
        (λ vs ways k source answers. fired (set_open world.opens) (sum_event vs) source answers (λ a. k a.value) ways.throws) new
        (over_asked world t2 (one ∷ old ∷ identifiers) sum (Some there) sum_event
        (λ store. ap (λ (c : List ℕ). Asks (binary c (store old) (store one)) (gives new)) same))

    abbrev store_event : List Value → Event
    store_event vs = store_in (object (later vs)) (key (later vs)) (first_piece vs)

    pub property_prefix_runs : RunsExpression world
        (λ ways k. ds ways (λ vs. update_property scene true text (object vs) (key vs) ways k)) s (with_value t3 stored (Some there)) result
    property_prefix_runs =
        all_kept world s t3 with_new (new ∷ one ∷ old ∷ identifiers) stored (Some there) g3 store_event first_piece store_acts new_runs

    pub property_postfix_runs : RunsExpression world
        (λ ways k. ds ways (λ vs. update_property scene false text (object vs) (key vs) ways k)) s (with_value t3 stored (Some there)) old
    property_postfix_runs =
        picked_runs world s (with_value t3 stored (Some there))
        (λ ways k. with_new ways (λ vs source answers. fired (set_open world.opens) (store_event vs) source answers
        (λ a. k (first_piece vs ∷ vs)) ways.throws)) (result ∷ new ∷ one ∷ old ∷ identifiers) 3 old (λ vs. first_piece (later vs)) refl
        (λ store. refl)
        (fronted_runs world s t3 (with_value t3 stored (Some there)) with_new (new ∷ one ∷ old ∷ identifiers) g3
        (extends_value t3 stored (Some there)) new_runs
        (λ vs ways k source answers. fired (set_open world.opens) (store_event vs) source answers (λ a. k (first_piece vs))
        ways.throws) result
        (over_kept world t3 (new ∷ one ∷ old ∷ identifiers) stored (Some there) store_event first_piece store_acts))

-- A method is loaded from its receiver, the first of some values, before the arguments, and is called behind them.
module _ (world : World) (s t u : State) (ds es : Action (List Value)) (receiver : ℕ) (others more : List ℕ) (key : List Value → Key)
    (loaded call : InstructionValue) (there span : Option Span) (event : List Value → Event) where
  abbrev method : ℕ
  method = length t.env.identifiers

  abbrev behind : State
  behind = with_value t loaded there

  abbrev with_loaded : Action (List Value)
  with_loaded ways k =
      ds ways (λ vs source answers. fired (set_open world.opens) (load (first_piece vs) (key vs)) source answers
      (λ a. k (a.value ∷ vs)) ways.throws)

  abbrev with_method : Action (List Value)
  with_method ways k = with_loaded ways (λ vs. k (first_piece (later_pieces vs) ∷ first_piece vs ∷ []))

  both : (P : ℕ → Type 0) → All P (method ∷ receiver ∷ others) → All P (receiver ∷ method ∷ [])
  both P all =
      All-cons P receiver (method ∷ []) (All-head P receiver others (All-tail P method (receiver ∷ others) all))
      (All-cons P method [] (All-head P method (receiver ∷ others) all) (All-nil P))

  pub method_runs : Extends s t → Extends behind u
      → ((store : Store)
      → act method loaded store ≡ Asks (load (store receiver) (key (map store (receiver ∷ others)))) (gives method))
      → ((store : Store)
      → act (length u.env.identifiers) call store ≡ Asks (event (store receiver ∷ store method ∷ map store more))
      (gives (length u.env.identifiers)))
      → RunsAll world ds s t (receiver ∷ others) → RunsAll world es behind u more
      → RunsExpression world
      (λ ways k. ds ways (λ vs source answers. fired (set_open world.opens) (load (first_piece vs) (key vs)) source answers
      (λ a. es ways (λ ws source1 answers1. fired (set_open world.opens) (event (first_piece vs ∷ a.value ∷ ws)) source1 answers1
      (λ b. k b.value) ways.throws)) ways.throws)) s (with_value u call span)
      (length u.env.identifiers)
  method_runs g h load_acts call_acts rs more_rs =
      all_asked world s u (λ ways k. with_method ways (λ vs. es ways (λ ws. k (vs ++ ws)))) (receiver ∷ method ∷ more) call span
      (extends_then g1 h) event call_acts
      (both_run world s behind u with_method (receiver ∷ method ∷ []) g1 h
      (arranged_runs world s behind with_loaded (method ∷ receiver ∷ others) (receiver ∷ method ∷ [])
      (λ vs. first_piece (later_pieces vs) ∷ first_piece vs ∷ []) both (λ store. refl)
      (fronted_runs world s t behind ds (receiver ∷ others) g (extends_value t loaded there) rs
      (λ vs ways k source answers. fired (set_open world.opens) (load (first_piece vs) (key vs)) source answers (λ a. k a.value)
      ways.throws) method
      (over_asked world t (receiver ∷ others) loaded there (λ vs. load (first_piece vs) (key vs)) load_acts)))
      es more more_rs)
    where
      g1 : Extends s behind
      g1 = extends_then g (extends_value t loaded there)
