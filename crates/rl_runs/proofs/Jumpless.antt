-- The runs of parts that no jump leaves: declarations, and expressions whose values are dropped.
use Rattle.std.proofs.Common.{◌≡◌, ℕ, List, [], ◌∷◌, length, Option, Some, sym, ◌∙◌, subst}
use Rattle.rl_builder.specs.Builder.{innermost}
use Rattle.rl_builder.specs.Names.{NamesAgree, resolved}
use Rattle.rl_builder.specs.Temporaries.{with_value}
use Rattle.rl_hir.specs.declared.instruction.InstructionKind.{InstructionKind}
use Rattle.rl_hir.specs.declared.instruction.InstructionValue.{InstructionValue}
use Rattle.rl_hir.specs.declared.instruction.InstructionValue.TheVariants as values
use Rattle.rl_hir.specs.declared.instruction.Place.{Place}
use Rattle.rl_hir.specs.Pairs.{identifier_of}
use Rattle.rl_machine.specs.Acts.{Computes, declared}
use Rattle.rl_machine.specs.declared.trace.Value.TheVariants as value
use Rattle.rl_machine.specs.Ends.{Notes}
use Rattle.rl_machine.specs.Traces.{Cont, set}
use Rattle.rl_model.specs.Actions.{Action, Ways, done}
use Rattle.rl_runs.proofs.Common.{Answer, Code, Span, State, Store, Value, World}
use Rattle.rl_runs.proofs.Expressions.{stored_runs}
use Rattle.rl_runs.proofs.Holes.{computes_on, same_throws}
use Rattle.rl_runs.proofs.Moves.{contained_before, extends_refl, extends_resolved, extends_then, extends_value, inside}
use Rattle.rl_runs.proofs.Shared.{since_store}
use Rattle.rl_runs.proofs.Steps.{since_start, since_then, throws_then}
use Rattle.rl_runs.proofs.Variables.{looked_up_last}
use Rattle.rl_runs.specs.Continuations.{Inside, Range, SharesVariables, Since, Throws, TracesAt, TracesFrom, between}
use Rattle.rl_runs.specs.Facts.{Extends, HasSoundNames, IsContainedIn}
use Rattle.rl_runs.specs.Simulation.{RunsJumpless, RunsExpression, RunsStatement}

-- Such a part is a statement.
pub jumpless_runs : {world : World} {s new : State} {d : Action (Unit {0})} → RunsJumpless world d s new → RunsStatement world d s new
jumpless_runs {world} {s} {new} {d} r = record {
  runs = λ c cover sound shares ways normal source store notes answers a throws jumps onward.
      r.runs c cover sound shares ways normal source store notes answers a throws onward;
}

-- The runs of a hole that opened at `old`, seen from an earlier point of the run.
module _ {c : Code} {r : Range} {store : Store} {notes : Notes} {answers : List Answer} {world : World} where
  pub use_jumpless : {d : Action (Unit {0})} {old new : State} {source1 store1 : Store} {notes1 : Notes} {answers1 : List Answer}
      (ways : Ways) (normal : Cont)
      → RunsJumpless world d old new → IsContainedIn new c → HasSoundNames old → SharesVariables c.ident world c.world
      → Inside r (between old new) → Throws c r store notes answers (innermost old.handlers) ways.throws
      → Since c r store notes answers source1 store1 notes1 answers1
      → ((source2 store2 : Store) (notes2 : Notes) (answers2 : List Answer) → Since c r store notes answers source2 store2 notes2 answers2
      → Since c (between old new) store1 notes1 answers1 source2 store2 notes2 answers2
      → TracesAt c new.current.id.0 (length new.current.instructions) store2 notes2 answers2 (normal source2 answers2))
      → TracesFrom c old store1 notes1 answers1 (d ways (λ end. normal) source1 answers1)
  use_jumpless {d} {old} {new} {source1} {store1} {notes1} {answers1} ways normal runs cover sound shares part throws t go =
      runs.runs c cover sound shares ways normal source1 store1 notes1 answers1 t.agrees
      (throws_then (innermost old.handlers) ways.throws part t.later throws)
      (record { goes = λ source2 store2 notes2 answers2 u. go source2 store2 notes2 answers2 (since_then part t.later u) u })

pub none_jumpless : (world : World) (s : State) → RunsJumpless world done s s
none_jumpless world s = record {
  runs = λ c cover sound shares ways normal source store notes answers a throws onward. onward.goes source store notes answers
      (since_start a);
}

-- A part, and another behind it.
pub order_jumpless : (world : World) (s mid new : State) (first second : Action (Unit {0})) → Extends s mid → Extends mid new
    → RunsJumpless world first s mid → RunsJumpless world second mid new
    → RunsJumpless world (λ ways onward. first ways (λ end. second ways onward)) s new
order_jumpless world s mid new first second g h r1 r2 = record {
  runs = λ c cover sound shares ways normal source store notes answers a throws onward.
      use_jumpless ways (second ways (λ (end : Unit {0}). normal)) r1 (contained_before h cover) sound shares
      (inside (extends_refl s) h) throws (since_start a)
      (λ source1 store1 notes1 answers1 t u.
      use_jumpless ways normal r2 cover (g.sound sound) shares (inside g (extends_refl new))
      (same_throws c (between s new) store notes answers s mid ways.throws g.handlers throws) t
      (λ source2 store2 notes2 answers2 t2 u2. onward.goes source2 store2 notes2 answers2 t2));
}

-- An expression whose value is dropped.
pub evaluated_jumpless : (world : World) (s new : State) (d : Action Value) (identifier : ℕ) → RunsExpression world d s new identifier
    → RunsJumpless world (λ ways onward. d ways (λ v. onward (tt {0}))) s new
evaluated_jumpless world s new d identifier r = record {
  runs = λ c cover sound shares ways normal source store notes answers a throws onward.
      r.runs c cover sound shares ways (λ v. normal) source store notes answers a throws
      (record { goes = λ v source1 store1 notes1 answers1 t is. onward.goes source1 store1 notes1 answers1 t });
}

-- A variable is looked up, and declared with Undefined.
pub variable_declared : (world : World) (s : State) (name : List ℕ) (symbol : ℕ) (given : Option Span) (kind : InstructionKind) (p : Place)
    (span : Option Span)
    → (NamesAgree s → NamesAgree (resolved s name symbol given))
    → identifier_of (resolved s name symbol given).bindings symbol ≡ Some p.identifier.0
    → declared kind p.identifier.0 ≡ Computes value.Undefined (p.identifier.0 ∷ [])
    → RunsJumpless world (λ ways onward source answers. onward (tt {0}) (set source symbol value.Undefined) answers) s
    (with_value (resolved s name symbol given) (values.DeclareLocal kind p) span)
variable_declared world s name symbol given kind p span agrees bound is = record {
  runs = λ c cover sound shares ways normal source store notes answers a throws onward.
      let here : IsContainedIn mid c = contained_before (extends_value mid v span) cover in
      computes_on mid v span c store notes answers (normal (set source symbol value.Undefined) answers) value.Undefined
      (p.identifier.0 ∷ []) is cover
      (onward.goes (set source symbol value.Undefined) (set store p.identifier.0 value.Undefined) notes answers
      (since_store symbol p.identifier.0 value.Undefined cover.names.one
      (here.names.kept symbol p.identifier.0 (sym ((found.sound sound).same symbol) ∙ bound)) (since_start a)));
}
  where
    mid : State
    mid = resolved s name symbol given

    found : Extends s mid
    found = extends_resolved s name symbol given agrees

    v : InstructionValue
    v = values.DeclareLocal kind p

-- A variable is declared behind an expression, whose value it takes.
pub variable_initialized : (world : World) (s t : State) (d : Action Value) (name : List ℕ) (symbol : ℕ) (given : Option Span)
    (kind : InstructionKind) (p value : Place) (span : Option Span)
    → Extends s t → (NamesAgree t → NamesAgree (resolved t name symbol given))
    → identifier_of (resolved t name symbol given).bindings symbol ≡ Some p.identifier.0
    → RunsExpression world d s t value.identifier.0
    → RunsJumpless world (λ ways onward. d ways (λ v source answers. onward (tt {0}) (set source symbol v) answers)) s
    (with_value (resolved t name symbol given) (values.StoreLocal kind p value) span)
variable_initialized world s t d name symbol given kind p value span g agrees bound r =
    evaluated_jumpless world s (with_value mid (values.StoreLocal kind p value) span)
    (λ ways k. d ways (λ v source answers. k v (set source symbol v) answers)) (length mid.env.identifiers)
    (stored_runs world s mid d symbol kind p value span (extends_then g (extends_resolved t name symbol given agrees)) bound
    (looked_up_last name symbol given t agrees r))
  where
    mid : State
    mid = resolved t name symbol given

-- An equal meaning has the same runs.
pub jumpless_same : (world : World) (old new : State) {d m : Action (Unit {0})}
    → ((ways : Ways) (normal : Cont) (source : Store) (answers : List Answer)
    → m ways (λ end. normal) source answers ≡ d ways (λ end. normal) source answers)
    → RunsJumpless world m old new → RunsJumpless world d old new
jumpless_same world old new {d} {m} same r = record {
  runs = λ c cover sound shares ways normal source store notes answers a throws onward.
      subst (λ t. TracesFrom c old store notes answers t) (same ways normal source answers)
      (r.runs c cover sound shares ways normal source store notes answers a throws onward);
}
