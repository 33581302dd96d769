-- The runs of statements in order, of jumps, returns and throws, and of an expression whose value is dropped.
use Rattle.std.proofs.Common.{◌≡◌, ℕ, List, [], length, Option, Some, None, Ok, refl, sym, ap, ◌∙◌, subst}
use Rattle.rl_builder.specs.Builder.{innermost, new_block, reserved}
use Rattle.rl_builder.specs.Jumps.{lookup_break, lookup_continue}
use Rattle.rl_builder.specs.Temporaries.{with_value}
use Rattle.rl_hir.specs.declared.function.BlockKind.{BlockKind}
use Rattle.rl_hir.specs.declared.instruction.Place.{Place}
use Rattle.rl_hir.specs.declared.terminal.GotoVariant.TheVariants as gotos
use Rattle.rl_hir.specs.declared.terminal.ReturnVariant.{ReturnVariant}
use Rattle.rl_hir.specs.declared.terminal.TerminalKind.TheVariants as ends
use Rattle.rl_hir.specs.declared.instruction.InstructionValue.{InstructionValue}
use Rattle.rl_machine.specs.Acts.{Asks, act, gives}
use Rattle.rl_machine.specs.declared.trace.Assignment.{Assignment}
use Rattle.rl_machine.specs.declared.trace.Event.{Event}
use Rattle.rl_machine.specs.Ends.{Notes}
use Rattle.rl_machine.specs.Machine.{Ends}
use Rattle.rl_machine.specs.Traces.{Cont, fired, returned, set_open, threw}
use Rattle.rl_model.specs.Actions.{Action, Label, Ways, break_to, continue_to, done}
use Rattle.rl_runs.proofs.Common.{Answer, BlockId, Code, Span, State, Store, Value, World}
use Rattle.rl_runs.proofs.Expressions.{all_asked, none_run}
use Rattle.rl_runs.proofs.Holes.{hole_goes, same_jumps, same_throws, use_expression, use_statement}
use Rattle.rl_runs.proofs.Moves.{contained_before, extends_completed, extends_refl, extends_reserved, extends_then, inside}
use Rattle.rl_runs.proofs.Moves.{terminal_met}
use Rattle.rl_runs.proofs.Shared.{kept_same}
use Rattle.rl_runs.proofs.Steps.{comes_at_once, since_start, steps_on}
use Rattle.rl_runs.specs.Continuations.{Agrees, SharesVariables, Throws, TracesFrom, between, kept_in}
use Rattle.rl_runs.specs.Facts.{Extends, IsContainedIn}
use Rattle.rl_runs.specs.Moves.{ends_by, next_hole, return_of, returned_from, threw_from}
use Rattle.rl_runs.specs.Simulation.{RunsExpression, RunsStatement}

-- No statement.
pub nothing_runs : (world : World) (s : State) → RunsStatement world done s s
nothing_runs world s = record {
  runs = λ c cover sound shares ways normal source store notes answers a throws jumps onward. onward.goes source store notes answers
      (since_start a);
}

-- A statement, and another behind it.
pub order_runs : (world : World) (s mid new : State) (first second : Action (Unit {0})) → Extends s mid → Extends mid new
    → RunsStatement world first s mid → RunsStatement world second mid new
    → RunsStatement world (λ ways onward. first ways (λ end. second ways onward)) s new
order_runs world s mid new first second g h r1 r2 = record {
  runs = λ c cover sound shares ways normal source store notes answers a throws jumps onward.
      use_statement ways (second ways (λ (end : Unit {0}). normal)) r1 (contained_before h cover) sound shares
      (inside (extends_refl s) h) throws jumps (since_start a)
      (λ source1 store1 notes1 answers1 t u.
      use_statement ways normal r2 cover (g.sound sound) shares (inside g (extends_refl new))
      (same_throws c (between s new) store notes answers s mid ways.throws g.handlers throws)
      (same_jumps c (between s new) store notes answers s mid ways.breaks ways.continues g.scopes jumps) t
      (λ source2 store2 notes2 answers2 t2 u2. onward.goes source2 store2 notes2 answers2 t2));
}

-- An expression statement.
pub evaluated_runs : (world : World) (s new : State) (d : Action Value) (identifier : ℕ) → RunsExpression world d s new identifier
    → RunsStatement world (λ ways onward. d ways (λ v. onward (tt {0}))) s new
evaluated_runs world s new d identifier r = record {
  runs = λ c cover sound shares ways normal source store notes answers a throws jumps onward.
      r.runs c cover sound shares ways (λ v. normal) source store notes answers a throws
      (record { goes = λ v source1 store1 notes1 answers1 t is. onward.goes source1 store1 notes1 answers1 t });
}

-- An instruction without operands asks an event, whose answer is dropped.
pub event_runs : (world : World) (s : State) (value : InstructionValue) (span : Option Span) (event : Event)
    → ((store : Store) → act (length s.env.identifiers) value store ≡ Asks event (gives (length s.env.identifiers)))
    → RunsStatement world
    (λ ways onward source answers. fired (set_open world.opens) event source answers (λ a. onward (tt {0})) ways.throws) s
    (with_value s value span)
event_runs world s value span event acts =
    evaluated_runs world s (with_value s value span)
    (λ ways k source answers. fired (set_open world.opens) event source answers (λ a. k a.value) ways.throws) (length s.env.identifiers)
    (all_asked world s s (λ ways k. k []) [] value span (extends_refl s) (λ vs. event) acts (none_run world s))

-- Jumps.

pub break_runs : (world : World) (s : State) (label : Label) (target : BlockId) (span : Span) (kind : BlockKind)
    → lookup_break s.scopes label ≡ Ok target
    → RunsStatement world (break_to label) s (next_hole s target.0 gotos.Break span kind)
break_runs world s label target span kind is = record {
  runs = λ c cover sound shares ways normal source store notes answers a throws jumps onward.
      hole_goes (reserved s) target.0 gotos.Break span (new_block s.env.next_block kind) c store notes answers _ cover
      ((jumps.behind label target is).goes source store notes answers (since_start a));
}

pub continue_runs : (world : World) (s : State) (label : Label) (target : BlockId) (span : Span) (kind : BlockKind)
    → lookup_continue s.scopes label ≡ Ok target
    → RunsStatement world (continue_to label) s (next_hole s target.0 gotos.Continue span kind)
continue_runs world s label target span kind is = record {
  runs = λ c cover sound shares ways normal source store notes answers a throws jumps onward.
      hole_goes (reserved s) target.0 gotos.Continue span (new_block s.env.next_block kind) c store notes answers _ cover
      ((jumps.again label target is).goes source store notes answers (since_start a));
}

-- A block that ends by a return ends the run with the value.
pub return_ends : (world : World) (s : State) (span : Option Span) (variant : ReturnVariant) (place : Place) (kind : BlockKind)
    (c : Code)
    → IsContainedIn (returned_from s span variant place kind) c → SharesVariables c.ident world c.world
    → (v : Value) (source store : Store) (notes : Notes) (answers : List Answer) → Agrees c.ident source store
    → store place.identifier.0 ≡ v
    → TracesFrom c s store notes answers (returned (kept_in world source) variant v)
return_ends world s span variant place kind c cover shares v source store notes answers a is =
    steps_on c s.current.id.0 (length s.current.instructions) store notes answers (Ends (return_of span variant place))
    (returned (kept_in world source) variant v)
    (terminal_met (reserved s) (return_of span variant place) (new_block s.env.next_block kind) c cover)
    (comes_at_once c _ _ (λ stuck next. ap (λ (kept : List Assignment). returned kept variant (store place.identifier.0))
    (kept_same c world source store a shares) ∙ ap (λ w. returned (kept_in world source) variant w) is))

pub extends_returned : (s : State) (span : Option Span) (variant : ReturnVariant) (place : Place) (kind : BlockKind)
    → Extends s (returned_from s span variant place kind)
extends_returned s span variant place kind =
    extends_then (extends_reserved s)
    (extends_completed (reserved s) (return_of span variant place) (new_block s.env.next_block kind) (λ none. refl))

-- A return of an expression's value, behind which a fresh block goes on.
pub return_runs : (world : World) (s mid : State) (d : Action Value) (place : Place) (span : Option Span) (variant : ReturnVariant)
    (kind : BlockKind)
    → RunsExpression world d s mid place.identifier.0
    → RunsStatement world (λ ways onward. d ways (λ v source answers. returned (kept_in world source) variant v)) s
    (returned_from mid span variant place kind)
return_runs world s mid d place span variant kind r = record {
  runs = λ c cover sound shares ways normal source store notes answers a throws jumps onward.
      use_expression ways (λ v after rest. returned (kept_in world after) variant v) r
      (contained_before (extends_returned mid span variant place kind) cover) sound shares
      (inside (extends_refl s) (extends_returned mid span variant place kind)) throws (since_start a)
      (λ v source1 store1 notes1 answers1 t u is. return_ends world mid span variant place kind c cover shares v source1 store1 notes1 answers1 t.agrees is);
}

pub extends_threw : (s : State) (span : Span) (place : Place) (kind : BlockKind) → Extends s (threw_from s span place kind)
extends_threw s span place kind =
    extends_then (extends_reserved s)
    (extends_completed (reserved s) (ends_by (ends.Throw place) (Some span)) (new_block s.env.next_block kind) (λ none. refl))

-- A throw of an expression's value, where no handler is open.
pub throw_runs : (world : World) (s mid : State) (d : Action Value) (place : Place) (span : Span) (kind : BlockKind)
    → innermost s.handlers ≡ None → RunsExpression world d s mid place.identifier.0
    → RunsStatement world (λ ways onward. d ways ways.throws) s (threw_from mid span place kind)
throw_runs world s mid d place span kind none r = record {
  runs = λ c cover sound shares ways normal source store notes answers a throws jumps onward.
      use_expression ways ways.throws r (contained_before (extends_threw mid span place kind) cover) sound shares
      (inside (extends_refl s) (extends_threw mid span place kind)) throws (since_start a)
      (λ v source1 store1 notes1 answers1 t u is.
      steps_on c mid.current.id.0 (length mid.current.instructions) store1 notes1 answers1
      (Ends (ends_by (ends.Throw place) (Some span))) _
      (terminal_met (reserved mid) (ends_by (ends.Throw place) (Some span)) (new_block mid.env.next_block kind) c cover)
      (comes_at_once c _ _ (λ stuck next. ap threw is ∙ sym (outside c store notes answers ways throws v source1 answers1))));
}
  where
    outside : (c : Code) (store : Store) (notes : Notes) (answers : List Answer) (ways : Ways)
        → Throws c (between s (threw_from mid span place kind)) store notes answers (innermost s.handlers) ways.throws
        → (v : Value) (source1 : Store) (rest : List Answer) → ways.throws v source1 rest ≡ threw v
    outside c store notes answers ways throws =
        subst (λ (o : Option BlockId). Throws c (between s (threw_from mid span place kind)) store notes answers o ways.throws) none throws

-- An equal meaning has the same runs.
pub does_same : (world : World) (old new : State) {d m : Action (Unit {0})}
    → ((ways : Ways) (normal : Cont) (source : Store) (answers : List Answer)
    → m ways (λ end. normal) source answers ≡ d ways (λ end. normal) source answers)
    → RunsStatement world m old new → RunsStatement world d old new
does_same world old new {d} {m} same r = record {
  runs = λ c cover sound shares ways normal source store notes answers a throws jumps onward.
      subst (λ t. TracesFrom c old store notes answers t) (same ways normal source answers)
      (r.runs c cover sound shares ways normal source store notes answers a throws jumps onward);
}
