-- A variable takes a value, and so does an instruction behind its parts.
use Rattle.std.proofs.Common.{◌≡◌, ℕ, inl, List, [], ◌∷◌, length, map}
use Rattle.std.proofs.Common.{Option, Some, refl}
use Rattle.std.proofs.Common.{sym, ◌∙◌, subst}
use Rattle.rl_builder.specs.declared.blocks.WipBlock.{WipBlock}
use Rattle.rl_builder.specs.Temporaries.{with_value}
use Rattle.rl_hir.specs.Pairs.{identifier_of}
use Rattle.rl_hir.specs.declared.instruction.InstructionKind.{InstructionKind}
use Rattle.rl_hir.specs.declared.instruction.InstructionValue.TheVariants as values
use Rattle.rl_lowered.proofs.Common.{InstructionValue, Place, Span, State}
use Rattle.rl_machine.specs.Acts.{Asks, act, keeps}
use Rattle.rl_machine.specs.declared.trace.Answer.{Answer}
use Rattle.rl_machine.specs.declared.trace.Event.{Event}
use Rattle.rl_machine.specs.declared.trace.Value.{Value}
use Rattle.rl_machine.specs.Traces.{Cont, Store, World, fired, set, set_open}
use Rattle.rl_model.specs.Actions.{Action, Ways, assign}
use Rattle.rl_runs.proofs.Asking.{keeps_runs}
use Rattle.rl_runs.proofs.Holes.{computes_on, same_throws, use_all}
use Rattle.rl_runs.proofs.Moves.{contained_before, extends_refl, extends_value, inside, value_free, value_made}
use Rattle.rl_runs.proofs.Shared.{since_store}
use Rattle.rl_runs.proofs.Steps.{since_set, since_start}
use Rattle.rl_runs.specs.Continuations.{Since, TracesAt, TracesFrom, between}
use Rattle.rl_runs.specs.Facts.{Extends, IsContainedIn}
use Rattle.rl_runs.specs.Simulation.{RunsAll, RunsPattern}

-- An equal meaning has the same runs.
pub pattern_same : (world : World) (old new : State) (identifier : ℕ) {d m : Value → Action (Unit {0})}
    → ((v : Value) (ways : Ways) (k : Cont) (source : Store) (answers : List Answer)
    → m v ways (λ end. k) source answers ≡ d v ways (λ end. k) source answers)
    → RunsPattern world m old new identifier → RunsPattern world d old new identifier
pattern_same world old new identifier {d} {m} same r = record {
  runs = λ c cover sound shares nobody within ways k v source store notes answers a is throws onward.
      subst (λ t. TracesFrom c old store notes answers t) (same v ways k source answers)
      (r.runs c cover sound shares nobody within ways k v source store notes answers a is throws onward);
}

-- A variable takes the value, behind its look-up.
pub variable_pattern : (world : World) (s mid : State) (symbol : ℕ) (kind : InstructionKind) (p value : Place) (span : Option Span)
    → Extends s mid → mid.current ≡ s.current → identifier_of mid.bindings symbol ≡ Some p.identifier.0
    → RunsPattern world (λ v. assign symbol v) s (with_value mid (values.StoreLocal kind p value) span) value.identifier.0
variable_pattern world s mid symbol kind p value span g same bound = record {
  runs = λ c cover sound shares nobody within ways k v source store notes answers a is throws onward.
      let here : IsContainedIn mid c = contained_before (extends_value mid stored span) cover in
      let old : Value = store value.identifier.0 in
      subst (λ (w : WipBlock). TracesAt c w.id.0 (length w.instructions) store notes answers (k (set source symbol v) answers)) same
      (computes_on mid stored span c store notes answers (k (set source symbol v) answers) old
      (p.identifier.0 ∷ length mid.env.identifiers ∷ []) refl cover
      (onward.goes (set source symbol v) (set (set store p.identifier.0 old) (length mid.env.identifiers) old) notes answers
      (since_set (length mid.env.identifiers) old (value_free mid stored span c cover (g.sound sound)) g.identifiers
      (value_made mid stored span)
      (subst (λ (x : Value). Since c (between s new) store notes answers (set source symbol v) (set store p.identifier.0 x) notes answers)
      (sym is)
      (since_store symbol p.identifier.0 v cover.names.one
      (here.names.kept symbol p.identifier.0 (sym ((g.sound sound).same symbol) ∙ bound)) (since_start a))))));
}
  where
    stored : InstructionValue
    stored = values.StoreLocal kind p value

    new : State
    new = with_value mid stored span

-- An instruction takes the value, behind parts: its event stores the value in what they give.
pub asked_pattern : (world : World) (s t : State) (ds : Action (List Value)) (identifiers : List ℕ) (value : InstructionValue)
    (span : Option Span) (given : ℕ) (event : List Value → Value → Event) → Extends s t
    → ((store : Store)
    → act (length t.env.identifiers) value store ≡ Asks (event (map store identifiers) (store given))
    (keeps (length t.env.identifiers) (store given)))
    → RunsAll world ds s t identifiers
    → RunsPattern world
    (λ v ways onward. ds ways (λ vs source answers. fired (set_open world.opens) (event vs v) source answers (λ a. onward (tt {0}))
    ways.throws)) s (with_value t value span) given
asked_pattern world s t ds identifiers value span given event g acts rs = record {
  runs = λ c cover sound shares nobody within ways k v source store notes answers a is throws onward.
      use_all ways (λ vs source answers. fired (set_open world.opens) (event vs v) source answers (λ a. k) ways.throws) rs
      (contained_before (extends_value t value span) cover) sound shares (inside (extends_refl s) (extends_value t value span)) throws
      (since_start a)
      (λ vs source1 store1 notes1 answers1 t1 u are.
      subst (λ (l : List Value). TracesFrom c t store1 notes1 answers1 (fired (set_open world.opens) (event l v) source1 answers1 (λ a. k)
      ways.throws)) are
      (subst (λ (x : Value). TracesFrom c t store1 notes1 answers1 (fired (set_open world.opens) (event (map store1 identifiers) x) source1
      answers1 (λ a. k) ways.throws)) (t1.later.temporaries given nobody (inl within) ∙ is)
      (keeps_runs world t value span (event (map store1 identifiers) (store1 given)) (store1 given) (λ w. k) ways.throws (acts store1) cover
      (g.sound sound) shares g.identifiers (value_made t value span)
      (same_throws c (between s (with_value t value span)) store notes answers s t ways.throws g.handlers throws)
      (record { goes = λ w source2 store2 notes2 answers2 t2 u2. onward.goes source2 store2 notes2 answers2 t2 }) t1)));
}
