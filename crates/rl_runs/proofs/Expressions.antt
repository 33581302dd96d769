-- The runs of expressions without blocks of their own: values that are computed silently, variables, and parts from left to right before an
-- instruction.
use Rattle.std.proofs.Common.{◌≡◌, ℕ, ◌<◌, ◌≤◌, inl, List, [], ◌∷◌, length, map, Option, Some, refl, sym, ap, ◌∙◌, subst, arith}
use Rattle.std.proofs.lemmas.List.Elements.{All-cons, All-nil}
use Rattle.rl_builder.specs.Builder.{innermost}
use Rattle.rl_builder.specs.Temporaries.{with_value}
use Rattle.rl_hir.specs.declared.instruction.InstructionKind.{InstructionKind}
use Rattle.rl_hir.specs.declared.instruction.InstructionValue.{InstructionValue}
use Rattle.rl_hir.specs.declared.instruction.InstructionValue.TheVariants as values
use Rattle.rl_hir.specs.declared.instruction.Place.{Place}
use Rattle.rl_hir.specs.declared.instruction.PrimitiveValue.{PrimitiveValue}
use Rattle.rl_hir.specs.Pairs.{identifier_of}
use Rattle.rl_machine.specs.Acts.{Asks, Computes, act, gives, keeps, value_of}
use Rattle.rl_machine.specs.declared.trace.Event.{Event}
use Rattle.rl_machine.specs.Traces.{ValueCont, fired, set, set_open}
use Rattle.rl_model.specs.Actions.{Action, Ways, variable}
use Rattle.rl_runs.proofs.Asking.{asks_runs, keeps_runs}
use Rattle.rl_runs.proofs.Common.{Answer, Code, Span, State, Store, Value, World}
use Rattle.rl_runs.proofs.Holes.{computes_on, same_throws, use_all, use_expression}
use Rattle.rl_runs.proofs.Moves.{contained_before, extends_refl, extends_value, inside, value_free, value_made}
use Rattle.rl_runs.proofs.Shared.{since_store}
use Rattle.rl_runs.proofs.Steps.{continues_then, set_same, since_set, since_start, throws_then}
use Rattle.rl_runs.specs.Continuations.{Agrees, Since, TracesFrom, between}
use Rattle.rl_runs.specs.Facts.{Extends, HasSoundNames, IsContainedIn, Nobody}
use Rattle.rl_runs.specs.Simulation.{RunsAll, RunsExpression, RunsOver}

-- A value that is computed silently.
pub computed_runs : (world : World) (s : State) (d : Action Value) (value : InstructionValue) (span : Option Span)
    (computed : Store → Value)
    → ((store : Store) → act (length s.env.identifiers) value store ≡ Computes (computed store) (length s.env.identifiers ∷ []))
    → ((c : Code) → IsContainedIn s c → HasSoundNames s → (source store : Store) → Agrees c.ident source store
    → (answers : List Answer) (ways : Ways) (k : ValueCont) → d ways k source answers ≡ k (computed store) source answers)
    → RunsExpression world d s (with_value s value span) (length s.env.identifiers)
computed_runs world s d value span computed acts silent = record {
  fresh = omega arith;
  made = value_made s value span;
  free = λ c cover sound. value_free s value span c cover sound;
  runs = λ c cover sound shares ways k source store notes answers a throws onward.
      let here : IsContainedIn s c = contained_before (extends_value s value span) cover in
      subst (λ t. TracesFrom c s store notes answers t) (sym (silent c here sound source store a answers ways k))
      (computes_on s value span c store notes answers (k (computed store) source answers) (computed store) (length s.env.identifiers ∷ [])
      (acts store) cover
      (onward.goes (computed store) source (set store (length s.env.identifiers) (computed store)) notes answers
      (since_set (length s.env.identifiers) (computed store) (value_free s value span c cover sound) (omega arith) (value_made s value span)
      (since_start a))
      (set_same store (length s.env.identifiers) (computed store))));
}

-- A literal.
pub literal_runs : (world : World) (s : State) (d : Action Value) (p : PrimitiveValue) (span : Option Span)
    → ((ways : Ways) (k : ValueCont) (source : Store) (answers : List Answer) → d ways k source answers ≡ k (value_of p) source answers)
    → RunsExpression world d s (with_value s (values.Primitive p) span) (length s.env.identifiers)
literal_runs world s d p span silent =
    computed_runs world s d (values.Primitive p) span (λ store. value_of p) (λ store. refl)
    (λ c here sound source store a answers ways k. silent ways k source answers)

-- A local variable is read.
pub local_runs : (world : World) (s : State) (symbol : ℕ) (p : Place) (span : Option Span)
    → identifier_of s.bindings symbol ≡ Some p.identifier.0
    → RunsExpression world (variable symbol) s (with_value s (values.LoadLocal p) span) (length s.env.identifiers)
local_runs world s symbol p span bound =
    computed_runs world s (variable symbol) (values.LoadLocal p) span (λ store. store p.identifier.0) (λ store. refl)
    (λ c here sound source store a answers ways k.
    ap (λ v. k v source answers)
    (sym (a.at symbol p.identifier.0 (here.names.kept symbol p.identifier.0 (sym (sound.same symbol) ∙ bound)))))

-- A local variable takes the value of an expression, which is the value of the assignment too.
pub stored_runs : (world : World) (s mid : State) (d : Action Value) (symbol : ℕ) (kind : InstructionKind) (p value : Place)
    (span : Option Span)
    → Extends s mid → identifier_of mid.bindings symbol ≡ Some p.identifier.0 → RunsExpression world d s mid value.identifier.0
    → RunsExpression world (λ ways k. d ways (λ v source answers. k v (set source symbol v) answers)) s
    (with_value mid (values.StoreLocal kind p value) span)
    (length mid.env.identifiers)
stored_runs world s mid d symbol kind p value span g bound r = record {
  fresh = g.identifiers;
  made = value_made mid (values.StoreLocal kind p value) span;
  free = λ c cover sound. value_free mid (values.StoreLocal kind p value) span c cover (g.sound sound);
  runs = λ c cover sound shares ways k source store notes answers a throws onward.
      let here : IsContainedIn mid c = contained_before (extends_value mid (values.StoreLocal kind p value) span) cover in
      use_expression ways (λ v after rest. k v (set after symbol v) rest) r here sound shares
      (inside (extends_refl s) (extends_value mid (values.StoreLocal kind p value) span)) throws (since_start a)
      (λ v source1 store1 notes1 answers1 t u is.
      computes_on mid (values.StoreLocal kind p value) span c store1 notes1 answers1 (k v (set source1 symbol v) answers1)
      (store1 value.identifier.0) (p.identifier.0 ∷ length mid.env.identifiers ∷ []) refl cover
      (onward.goes v (set source1 symbol v)
      (set (set store1 p.identifier.0 (store1 value.identifier.0)) (length mid.env.identifiers)
      (store1 value.identifier.0)) notes1 answers1
      (since_set (length mid.env.identifiers) (store1 value.identifier.0)
      (value_free mid (values.StoreLocal kind p value) span c cover (g.sound sound)) g.identifiers
      (value_made mid (values.StoreLocal kind p value) span)
      (subst (λ (x : Value). Since c (between s (with_value mid (values.StoreLocal kind p value) span)) store notes answers
      (set source1 symbol v) (set store1 p.identifier.0 x) notes1 answers1) (sym is)
      (since_store symbol p.identifier.0 v cover.names.one
      (here.names.kept symbol p.identifier.0 (sym ((g.sound sound).same symbol) ∙ bound)) t)))
      (set_same (set store1 p.identifier.0 (store1 value.identifier.0)) (length mid.env.identifiers) (store1 value.identifier.0) ∙ is)));
}

-- Parts from left to right.

pub none_run : (world : World) (s : State) → RunsAll world (λ ways k. k []) s s []
none_run world s = record {
  fresh = All-nil (λ identifier. length s.env.identifiers ≤ identifier);
  made = All-nil (λ identifier. identifier < length s.env.identifiers);
  free = λ c cover sound. All-nil (Nobody c.ident);
  runs = λ c cover sound shares ways k source store notes answers a throws onward. onward.goes [] source store notes answers
      (since_start a) refl;
}

pub next_runs : (world : World) (s mid new : State) (d : Action Value) (ds : Action (List Value)) (identifier : ℕ)
    (identifiers : List ℕ)
    → Extends s mid → Extends mid new → RunsExpression world d s mid identifier → RunsAll world ds mid new identifiers
    → RunsAll world (λ ways k. d ways (λ v. ds ways (λ vs. k (v ∷ vs)))) s new (identifier ∷ identifiers)
next_runs world s mid new d ds identifier identifiers g1 g2 r rs = record {
  fresh =
      All-cons (λ n. length s.env.identifiers ≤ n) identifier identifiers r.fresh
      (λ place default within. (let later = rs.fresh place default within in omega (arith, later, g1.identifiers)));
  made = All-cons (λ n. n < length new.env.identifiers) identifier identifiers (omega (arith, r.made, g2.identifiers)) rs.made;
  free = λ c cover sound. All-cons (Nobody c.ident) identifier identifiers (r.free c (contained_before g2 cover) sound)
      (rs.free c cover (g1.sound sound));
  runs = λ c cover sound shares ways k source store notes answers a throws onward.
      use_expression ways (λ v. ds ways (λ vs. k (v ∷ vs))) r (contained_before g2 cover) sound shares
      (inside (extends_refl s) g2) throws (since_start a)
      (λ v source1 store1 notes1 answers1 t u is.
      use_all ways (λ vs. k (v ∷ vs)) rs cover (g1.sound sound) shares (inside g1 (extends_refl new))
      (same_throws c (between s new) store notes answers s mid ways.throws g1.handlers throws) t
      (λ vs source2 store2 notes2 answers2 t2 u2 are.
      onward.goes (v ∷ vs) source2 store2 notes2 answers2 t2
      (ap (λ (x : Value). x ∷ map store2 identifiers)
      (u2.later.temporaries identifier (r.free c (contained_before g2 cover) sound) (inl r.made) ∙ is)
      ∙ ap (λ (l : List Value). v ∷ l) are)));
}

-- A part alone.
pub one_runs : (world : World) (s new : State) (d : Action Value) (identifier : ℕ) → RunsExpression world d s new identifier
    → RunsAll world (λ ways k. d ways (λ v. k (v ∷ []))) s new (identifier ∷ [])
one_runs world s new d identifier r = record {
  fresh = All-cons (λ n. length s.env.identifiers ≤ n) identifier [] r.fresh (All-nil (λ n. length s.env.identifiers ≤ n));
  made = All-cons (λ n. n < length new.env.identifiers) identifier [] r.made (All-nil (λ n. n < length new.env.identifiers));
  free = λ c cover sound. All-cons (Nobody c.ident) identifier [] (r.free c cover sound) (All-nil (Nobody c.ident));
  runs = λ c cover sound shares ways k source store notes answers a throws onward.
      r.runs c cover sound shares ways (λ v. k (v ∷ [])) source store notes answers a throws
      (record {
        goes = λ v source1 store1 notes1 answers1 t is. onward.goes (v ∷ []) source1 store1 notes1 answers1 t
            (ap (λ (x : Value). x ∷ []) is);
      });
}

-- An instruction over values that were computed before: one whose event gives its value, one whose event keeps a value that was there
-- before, and one that asks no event.
module _ (world : World) (s : State) (identifiers : List ℕ) (value : InstructionValue) (span : Option Span) where
  pub over_asked : (event : List Value → Event)
      → ((store : Store)
      → act (length s.env.identifiers) value store ≡ Asks (event (map store identifiers)) (gives (length s.env.identifiers)))
      → RunsOver world
      (λ vs ways k source answers. fired (set_open world.opens) (event vs) source answers (λ a. k a.value) ways.throws) s
      (with_value s value span) identifiers
      (length s.env.identifiers)
  over_asked event acts = record {
    fresh = omega arith;
    made = value_made s value span;
    free = λ c cover sound. value_free s value span c cover sound;
    runs = λ c cover sound shares ways k vs source store notes answers a are throws onward.
        subst (λ (x : List Value). TracesFrom c s store notes answers
        (fired (set_open world.opens) (event x) source answers (λ y. k y.value) ways.throws)) are
        (asks_runs world s value span (event (map store identifiers)) k ways.throws (acts store) cover sound shares (omega arith)
        (value_made s value span) throws onward (since_start a));
  }

  pub over_kept : (event : List Value → Event) (kept : List Value → Value)
      → ((store : Store)
      → act (length s.env.identifiers) value store ≡ Asks (event (map store identifiers))
      (keeps (length s.env.identifiers) (kept (map store identifiers))))
      → RunsOver world
      (λ vs ways k source answers. fired (set_open world.opens) (event vs) source answers (λ a. k (kept vs)) ways.throws) s
      (with_value s value span) identifiers
      (length s.env.identifiers)
  over_kept event kept acts = record {
    fresh = omega arith;
    made = value_made s value span;
    free = λ c cover sound. value_free s value span c cover sound;
    runs = λ c cover sound shares ways k vs source store notes answers a are throws onward.
        subst (λ (x : List Value). TracesFrom c s store notes answers
        (fired (set_open world.opens) (event x) source answers (λ y. k (kept x)) ways.throws)) are
        (keeps_runs world s value span (event (map store identifiers)) (kept (map store identifiers)) k ways.throws (acts store) cover
        sound shares (omega arith) (value_made s value span) throws onward (since_start a));
  }

  pub over_given : (given : List Value → Value)
      → ((store : Store)
      → act (length s.env.identifiers) value store ≡ Computes (given (map store identifiers)) (length s.env.identifiers ∷ []))
      → RunsOver world (λ vs ways k. k (given vs)) s (with_value s value span) identifiers (length s.env.identifiers)
  over_given given acts = record {
    fresh = omega arith;
    made = value_made s value span;
    free = λ c cover sound. value_free s value span c cover sound;
    runs = λ c cover sound shares ways k vs source store notes answers a are throws onward.
        let n : ℕ = length s.env.identifiers in
        let v : Value = given (map store identifiers) in
        subst (λ (x : List Value). TracesFrom c s store notes answers (k (given x) source answers)) are
        (computes_on s value span c store notes answers (k v source answers) v (n ∷ []) (acts store) cover
        (onward.goes v source (set store n v) notes answers
        (since_set n v (value_free s value span c cover sound) (omega arith) (value_made s value span) (since_start a))
        (set_same store n v)));
  }

-- Parts from left to right, and then an expression over their values.
pub over_runs : (world : World) (s mid new : State) (ds : Action (List Value)) (e : List Value → Action Value) (identifiers : List ℕ)
    (identifier : ℕ)
    → Extends s mid → Extends mid new → RunsAll world ds s mid identifiers → RunsOver world e mid new identifiers identifier
    → RunsExpression world (λ ways k. ds ways (λ vs. e vs ways k)) s new identifier
over_runs world s mid new ds e identifiers identifier g1 g2 rs r = record {
  fresh = omega (arith, r.fresh, g1.identifiers);
  made = r.made;
  free = λ c cover sound. r.free c cover (g1.sound sound);
  runs = λ c cover sound shares ways k source store notes answers a throws onward.
      use_all ways (λ vs. e vs ways k) rs (contained_before g2 cover) sound shares (inside (extends_refl s) g2) throws (since_start a)
      (λ vs source1 store1 notes1 answers1 t u are.
      r.runs c cover (g1.sound sound) shares ways k vs source1 store1 notes1 answers1 t.agrees are
      (throws_then (innermost mid.handlers) ways.throws (inside g1 (extends_refl new)) t.later
      (same_throws c (between s new) store notes answers s mid ways.throws g1.handlers throws))
      (continues_then (inside g1 (extends_refl new)) t.later onward));
}

-- Parts from left to right, and then an instruction over their values.
module _ (world : World) (s mid : State) (ds : Action (List Value)) (identifiers : List ℕ) (value : InstructionValue)
    (span : Option Span) (g : Extends s mid) where
  pub all_asked : (event : List Value → Event)
      → ((store : Store)
      → act (length mid.env.identifiers) value store ≡ Asks (event (map store identifiers)) (gives (length mid.env.identifiers)))
      → RunsAll world ds s mid identifiers
      → RunsExpression world
      (λ ways k. ds ways (λ vs source answers. fired (set_open world.opens) (event vs) source answers (λ a. k a.value) ways.throws)) s
      (with_value mid value span)
      (length mid.env.identifiers)
  all_asked event acts rs =
      over_runs world s mid (with_value mid value span) ds
      (λ vs ways k source answers. fired (set_open world.opens) (event vs) source answers (λ a. k a.value) ways.throws) identifiers
      (length mid.env.identifiers) g (extends_value mid value span) rs (over_asked world mid identifiers value span event acts)

  pub all_kept : (event : List Value → Event) (kept : List Value → Value)
      → ((store : Store)
      → act (length mid.env.identifiers) value store ≡ Asks (event (map store identifiers))
      (keeps (length mid.env.identifiers) (kept (map store identifiers))))
      → RunsAll world ds s mid identifiers
      → RunsExpression world
      (λ ways k. ds ways (λ vs source answers. fired (set_open world.opens) (event vs) source answers (λ a. k (kept vs)) ways.throws)) s
      (with_value mid value span)
      (length mid.env.identifiers)
  all_kept event kept acts rs =
      over_runs world s mid (with_value mid value span) ds
      (λ vs ways k source answers. fired (set_open world.opens) (event vs) source answers (λ a. k (kept vs)) ways.throws) identifiers
      (length mid.env.identifiers) g (extends_value mid value span) rs (over_kept world mid identifiers value span event kept acts)

  pub all_given : (given : List Value → Value)
      → ((store : Store)
      → act (length mid.env.identifiers) value store ≡ Computes (given (map store identifiers)) (length mid.env.identifiers ∷ []))
      → RunsAll world ds s mid identifiers
      → RunsExpression world (λ ways k. ds ways (λ vs. k (given vs))) s (with_value mid value span) (length mid.env.identifiers)
  all_given given acts rs =
      over_runs world s mid (with_value mid value span) ds (λ vs ways k. k (given vs)) identifiers (length mid.env.identifiers) g
      (extends_value mid value span) rs (over_given world mid identifiers value span given acts)

-- An equal meaning has the same runs.
pub means_same : (world : World) (old new : State) (identifier : ℕ) {d m : Action Value}
    → ((ways : Ways) (k : ValueCont) (source : Store) (answers : List Answer) → m ways k source answers ≡ d ways k source answers)
    → RunsExpression world m old new identifier → RunsExpression world d old new identifier
means_same world old new identifier {d} {m} same r = record {
  fresh = r.fresh;
  made = r.made;
  free = r.free;
  runs = λ c cover sound shares ways k source store notes answers a throws onward.
      subst (λ t. TracesFrom c old store notes answers t) (same ways k source answers)
      (r.runs c cover sound shares ways k source store notes answers a throws onward);
}
