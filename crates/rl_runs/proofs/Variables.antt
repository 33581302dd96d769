-- The runs of variables that get their identifier on the way: reads, updates and declarations, and parts around a look-up.
use Rattle.std.proofs.Common.{◌≡◌, ℕ, true, false, List, [], ◌∷◌, length, Option, Some, refl, sym, ◌∙◌, subst, arith}
use Rattle.rl_base.specs.Operators.{update_text}
use Rattle.rl_base.specs.declared.ids.SymbolId.{SymbolId}
use Rattle.rl_base.specs.declared.operator.UpdateOperator.{UpdateOperator}
use Rattle.rl_builder.specs.declared.blocks.WipBlock.{WipBlock}
use Rattle.rl_builder.specs.Names.{NamesAgree, resolved}
use Rattle.rl_builder.specs.Temporaries.{with_value}
use Rattle.rl_hir.specs.declared.instruction.InstructionValue.{InstructionValue}
use Rattle.rl_hir.specs.declared.instruction.InstructionValue.TheVariants as values
use Rattle.rl_hir.specs.declared.instruction.Place.{Place}
use Rattle.rl_hir.specs.Pairs.{identifier_of}
use Rattle.rl_machine.specs.Acts.{Asks, Landing, act, landed}
use Rattle.rl_machine.specs.declared.trace.Event.{Event}
use Rattle.rl_machine.specs.Traces.{fired, set, set_open}
use Rattle.rl_model.specs.Actions.{Action, variable}
use Rattle.rl_model.specs.Events.{update}
use Rattle.rl_model.specs.Expressions.{update_name}
use Rattle.rl_model.specs.Scene.{Scene}
use Rattle.rl_names.specs.declared.names.Meaning.TheVariants.{Local}
use Rattle.rl_runs.proofs.Asking.{asks_on}
use Rattle.rl_runs.proofs.Common.{Answer, Span, State, Store, Value, World}
use Rattle.rl_runs.proofs.Expressions.{local_runs}
use Rattle.rl_runs.proofs.Holes.{same_throws, use_expression}
use Rattle.rl_runs.proofs.Moves.{contained_before, extends_refl, extends_resolved, extends_value, inside, value_free}
use Rattle.rl_runs.proofs.Moves.{value_made}
use Rattle.rl_runs.proofs.Shared.{since_store}
use Rattle.rl_runs.proofs.Steps.{set_same, since_set, since_start}
use Rattle.rl_runs.specs.Continuations.{TracesAt, TracesFrom, between}
use Rattle.rl_runs.specs.Facts.{Extends, IsContainedIn}
use Rattle.rl_runs.specs.Simulation.{RunsExpression}

-- A part that begins at a state with the same program point as an earlier one runs from there too.
module _ {world : World} (s s2 : State) {new : State} (g : Extends s s2) (same : s2.current ≡ s.current) where
  pub earlier_runs : {d : Action Value} {identifier : ℕ} → RunsExpression world d s2 new identifier
      → RunsExpression world d s new identifier
  earlier_runs {d} {identifier} r = record {
    fresh = omega (arith, r.fresh, g.identifiers);
    made = r.made;
    free = λ c cover sound. r.free c cover (g.sound sound);
    runs = λ c cover sound shares ways k source store notes answers a throws onward.
        subst (λ (w : WipBlock). TracesAt c w.id.0 (length w.instructions) store notes answers (d ways k source answers)) same
        (use_expression ways k r cover (g.sound sound) shares (inside g (extends_refl new))
        (same_throws c (between s new) store notes answers s s2 ways.throws g.handlers throws) (since_start a)
        (λ v source1 store1 notes1 answers1 t u is. onward.goes v source1 store1 notes1 answers1 t is));
  }

-- A part that ends at a state with the same program point as a later one runs up to there too.
module _ {world : World} {s : State} (new new2 : State) (g : Extends new new2) (same : new2.current ≡ new.current) where
  pub later_runs : {d : Action Value} {identifier : ℕ} → RunsExpression world d s new identifier
      → RunsExpression world d s new2 identifier
  later_runs {d} {identifier} r = record {
    fresh = r.fresh;
    made = omega (arith, r.made, g.identifiers);
    free = λ c cover sound. r.free c (contained_before g cover) sound;
    runs = λ c cover sound shares ways k source store notes answers a throws onward.
        use_expression ways k r (contained_before g cover) sound shares (inside (extends_refl s) g) throws (since_start a)
        (λ v source1 store1 notes1 answers1 t u is.
        subst (λ (w : WipBlock). TracesAt c w.id.0 (length w.instructions) store1 notes1 answers1 (k v source1 answers1)) same
        (onward.goes v source1 store1 notes1 answers1 t is));
  }

-- A symbol is looked up: in front of a part, and behind it.
module _ {world : World} {d : Action Value} {identifier : ℕ} (name : List ℕ) (symbol : ℕ) (given : Option Span) where
  pub looked_up_first : (s : State) {new : State} → (NamesAgree s → NamesAgree (resolved s name symbol given))
      → RunsExpression world d (resolved s name symbol given) new identifier → RunsExpression world d s new identifier
  looked_up_first s agrees r =
      earlier_runs s (resolved s name symbol given) (extends_resolved s name symbol given agrees) refl r

  pub looked_up_last : {s : State} (new : State) → (NamesAgree new → NamesAgree (resolved new name symbol given))
      → RunsExpression world d s new identifier → RunsExpression world d s (resolved new name symbol given) identifier
  looked_up_last new agrees r =
      later_runs new (resolved new name symbol given) (extends_resolved new name symbol given agrees) refl r

-- A variable is looked up and read.
pub read_runs : (world : World) (s : State) (name : List ℕ) (symbol : ℕ) (given : Option Span) (p : Place) (span : Option Span)
    → (NamesAgree s → NamesAgree (resolved s name symbol given))
    → identifier_of (resolved s name symbol given).bindings symbol ≡ Some p.identifier.0
    → RunsExpression world (variable symbol) s (with_value (resolved s name symbol given) (values.LoadLocal p) span)
    (length (resolved s name symbol given).env.identifiers)
read_runs world s name symbol given p span agrees bound =
    looked_up_first name symbol given s agrees (local_runs world (resolved s name symbol given) symbol p span bound)

-- An event gives a variable its new value; the value of the instruction is that, or the old one.
module _ (world : World) (s : State) (symbol : ℕ) (p : Place) (value : InstructionValue) (span : Option Span) (event : Value → Event)
    (landing : Value → Landing) (result : (old new : Value) → Value) where
  changed_runs : identifier_of s.bindings symbol ≡ Some p.identifier.0
      → ((store : Store)
      → act (length s.env.identifiers) value store ≡ Asks (event (store p.identifier.0)) (landing (store p.identifier.0)))
      → ((old : Value) (a : Answer) (after : Store)
      → landed (landing old) a after ≡ set (set after p.identifier.0 a.value) (length s.env.identifiers) (result old a.value))
      → RunsExpression world
      (λ ways k source answers. fired (set_open world.opens) (event (source symbol)) source answers
      (λ a after rest. k (result (source symbol) a.value) (set after symbol a.value) rest) ways.throws) s (with_value s value span)
      (length s.env.identifiers)
  changed_runs bound acts lands = record {
    fresh = omega arith;
    made = value_made s value span;
    free = λ c cover sound. value_free s value span c cover sound;
    runs = λ c cover sound shares ways k source store notes answers a throws onward.
        let n : ℕ = length s.env.identifiers in
        let here : IsContainedIn s c = contained_before (extends_value s value span) cover in
        let named : c.ident symbol ≡ Some p.identifier.0 =
        here.names.kept symbol p.identifier.0 (sym (sound.same symbol) ∙ bound) in
        let old : Value = store p.identifier.0 in
        subst (λ (v : Value). TracesFrom c s store notes answers (fired (set_open world.opens) (event v) source answers
        (λ x after rest. k (result v x.value) (set after symbol x.value) rest) ways.throws)) (a.at symbol p.identifier.0 named)
        (asks_on world s value span (event old) (landing old) (λ x after rest. k (result old x.value) (set after symbol x.value) rest)
        ways.throws (acts store) cover shares throws (since_start a)
        (λ x source1 store1 rest t u.
        subst (λ (l : Store). TracesFrom c (with_value s value span) l notes rest
        (k (result old x.value) (set source1 symbol x.value) rest))
        (sym (lands old x store1))
        (onward.goes (result old x.value) (set source1 symbol x.value)
        (set (set store1 p.identifier.0 x.value) n (result old x.value)) notes rest
        (since_set n (result old x.value) (value_free s value span c cover sound) (omega arith) (value_made s value span)
        (since_store symbol p.identifier.0 x.value cover.names.one named t))
        (set_same (set store1 p.identifier.0 x.value) n (result old x.value)))));
  }

-- A variable is updated, where `mid` is the state behind its look-ups.
module _ (scene : Scene) (s mid : State) (symbol : SymbolId) (operator : UpdateOperator) (p : Place) (span : Option Span)
    (g : Extends s mid) (same : mid.current ≡ s.current) (bound : identifier_of mid.bindings symbol.0 ≡ Some p.identifier.0) where
  pub prefix_runs : RunsExpression scene.world (update_name scene true (update_text operator) (Local symbol)) s
      (with_value mid (values.PrefixUpdate operator p p) span)
      (length mid.env.identifiers)
  prefix_runs =
      earlier_runs s mid g same
      (changed_runs scene.world mid symbol.0 p (values.PrefixUpdate operator p p) span (λ v. update true (update_text operator) v)
      (λ v. record { given = p.identifier.0 ∷ length mid.env.identifiers ∷ []; taken = []; kept = [] }) (λ old new. new) bound
      (λ store. refl) (λ old a after. refl))

  pub postfix_runs : RunsExpression scene.world (update_name scene false (update_text operator) (Local symbol)) s
      (with_value mid (values.PostfixUpdate operator p p) span)
      (length mid.env.identifiers)
  postfix_runs =
      earlier_runs s mid g same
      (changed_runs scene.world mid symbol.0 p (values.PostfixUpdate operator p p) span (λ v. update false (update_text operator) v)
      (λ v. record { given = p.identifier.0 ∷ []; taken = []; kept = (length mid.env.identifiers, v) ∷ [] }) (λ old new. old) bound
      (λ store. refl) (λ old a after. refl))
