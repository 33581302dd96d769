-- The runs of a hole, seen from an earlier point; the blocks that are set aside; and stacks without their innermost.
use Rattle.std.proofs.Common.{◌≡◌, ℕ, ◌-◌, ◌++◌, List, [], ◌∷◌, length, length-append, map, take, slice_get, Option, Some, None}
use Rattle.std.proofs.Common.{inl, inr, refl, sym, ap, ◌∙◌, subst, arith}
use Rattle.std.proofs.Math.Seq.{take-append_seam}
use Rattle.rl_base.specs.declared.ids.InstructionId.{InstructionId}
use Rattle.rl_builder.specs.Builder.{completed_by, innermost, with_temporary}
use Rattle.rl_builder.specs.declared.blocks.WipBlock.{WipBlock}
use Rattle.rl_builder.specs.declared.jumps.JumpScope.{JumpScope}
use Rattle.rl_builder.specs.Temporaries.{temporary, unordered, with_value}
use Rattle.rl_hir.specs.declared.instruction.InstructionValue.{InstructionValue}
use Rattle.rl_hir.specs.declared.terminal.GotoVariant.{GotoVariant}
use Rattle.rl_hir.specs.declared.terminal.Terminal.{Terminal}
use Rattle.rl_machine.specs.Acts.{Computes, act, set_each}
use Rattle.rl_machine.specs.declared.trace.Trace.{Trace}
use Rattle.rl_machine.specs.Ends.{Notes}
use Rattle.rl_machine.specs.Machine.{Ends, Runs, executed}
use Rattle.rl_machine.specs.Traces.{Cont, ValueCont, ValuesCont}
use Rattle.rl_model.specs.Actions.{Action, Label, Ways}
use Rattle.rl_runs.proofs.Common.{Answer, BlockId, Code, Instruction, Span, State, Store, Value, World}
use Rattle.rl_runs.proofs.Moves.{contained_before, extends_completed, goes_on, push_runs}
use Rattle.rl_runs.proofs.Steps.{get_more, get_seam, jumps_then, since_then, throws_then}
use Rattle.rl_runs.specs.Continuations.{Inside, Jumps, Range, SharesVariables, Since, Throws, TracesAt, TracesFrom, between}
use Rattle.rl_runs.specs.Facts.{At, Catch, Extends, Fact, HasSoundNames, InCompleted, InWip, IsCompleted, IsContainedIn}
use Rattle.rl_runs.specs.Moves.{goto, last_hole, set_aside, stacked}
use Rattle.rl_runs.specs.Simulation.{RunsAll, RunsExpression, RunsStatement}

-- The runs of a hole that opened at `old`, seen from an earlier point of the run.
module _ {c : Code} {r : Range} {store : Store} {notes : Notes} {answers : List Answer} {world : World} where
  pub use_expression : {d : Action Value} {old new : State} {identifier : ℕ} {source1 store1 : Store} {notes1 : Notes}
      {answers1 : List Answer} (ways : Ways) (k : ValueCont)
      → RunsExpression world d old new identifier → IsContainedIn new c → HasSoundNames old → SharesVariables c.ident world c.world
      → Inside r (between old new) → Throws c r store notes answers (innermost old.handlers) ways.throws
      → Since c r store notes answers source1 store1 notes1 answers1
      → ((v : Value) (source2 store2 : Store) (notes2 : Notes) (answers2 : List Answer)
      → Since c r store notes answers source2 store2 notes2 answers2
      → Since c (between old new) store1 notes1 answers1 source2 store2 notes2 answers2 → store2 identifier ≡ v
      → TracesAt c new.current.id.0 (length new.current.instructions) store2 notes2 answers2 (k v source2 answers2))
      → TracesFrom c old store1 notes1 answers1 (d ways k source1 answers1)
  use_expression {d} {old} {new} {identifier} {source1} {store1} {notes1} {answers1} ways k runs cover sound shares part throws t go =
      runs.runs c cover sound shares ways k source1 store1 notes1 answers1 t.agrees
      (throws_then (innermost old.handlers) ways.throws part t.later throws)
      (record { goes = λ v source2 store2 notes2 answers2 u is. go v source2 store2 notes2 answers2 (since_then part t.later u) u is })

  pub use_all : {d : Action (List Value)} {old new : State} {identifiers : List ℕ} {source1 store1 : Store} {notes1 : Notes}
      {answers1 : List Answer} (ways : Ways) (k : ValuesCont)
      → RunsAll world d old new identifiers → IsContainedIn new c → HasSoundNames old → SharesVariables c.ident world c.world
      → Inside r (between old new) → Throws c r store notes answers (innermost old.handlers) ways.throws
      → Since c r store notes answers source1 store1 notes1 answers1
      → ((vs : List Value) (source2 store2 : Store) (notes2 : Notes) (answers2 : List Answer)
      → Since c r store notes answers source2 store2 notes2 answers2
      → Since c (between old new) store1 notes1 answers1 source2 store2 notes2 answers2 → map store2 identifiers ≡ vs
      → TracesAt c new.current.id.0 (length new.current.instructions) store2 notes2 answers2 (k vs source2 answers2))
      → TracesFrom c old store1 notes1 answers1 (d ways k source1 answers1)
  use_all {d} {old} {new} {identifiers} {source1} {store1} {notes1} {answers1} ways k runs cover sound shares part throws t go =
      runs.runs c cover sound shares ways k source1 store1 notes1 answers1 t.agrees
      (throws_then (innermost old.handlers) ways.throws part t.later throws)
      (record { goes = λ vs source2 store2 notes2 answers2 u are. go vs source2 store2 notes2 answers2 (since_then part t.later u) u are })

  pub use_statement : {d : Action (Unit {0})} {old new : State} {source1 store1 : Store} {notes1 : Notes} {answers1 : List Answer}
      (ways : Ways) (normal : Cont)
      → RunsStatement world d old new → IsContainedIn new c → HasSoundNames old → SharesVariables c.ident world c.world
      → Inside r (between old new) → Throws c r store notes answers (innermost old.handlers) ways.throws
      → Jumps c r store notes answers old.scopes ways.breaks ways.continues
      → Since c r store notes answers source1 store1 notes1 answers1
      → ((source2 store2 : Store) (notes2 : Notes) (answers2 : List Answer) → Since c r store notes answers source2 store2 notes2 answers2
      → Since c (between old new) store1 notes1 answers1 source2 store2 notes2 answers2
      → TracesAt c new.current.id.0 (length new.current.instructions) store2 notes2 answers2 (normal source2 answers2))
      → TracesFrom c old store1 notes1 answers1 (d ways (λ end. normal) source1 answers1)
  use_statement {d} {old} {new} {source1} {store1} {notes1} {answers1} ways normal runs cover sound shares part throws jumps t go =
      runs.runs c cover sound shares ways normal source1 store1 notes1 answers1 t.agrees
      (throws_then (innermost old.handlers) ways.throws part t.later throws) (jumps_then part t.later jumps)
      (record { goes = λ source2 store2 notes2 answers2 u. go source2 store2 notes2 answers2 (since_then part t.later u) u })

-- Throws and jumps under equal stacks.
module _ (c : Code) (r : Range) (store : Store) (notes : Notes) (answers : List Answer) (s s1 : State) where
  pub same_throws : (h : ValueCont) → s1.handlers ≡ s.handlers → Throws c r store notes answers (innermost s.handlers) h
      → Throws c r store notes answers (innermost s1.handlers) h
  same_throws h same throws = subst (λ (l : List BlockId). Throws c r store notes answers (innermost l) h) (sym same) throws

  pub same_jumps : (breaks continues : Label → Cont) → s1.scopes ≡ s.scopes → Jumps c r store notes answers s.scopes breaks continues
      → Jumps c r store notes answers s1.scopes breaks continues
  same_jumps breaks continues same jumps =
      subst (λ (l : List JumpScope). Jumps c r store notes answers l breaks continues) (sym same) jumps

-- Stacks without their innermost.

pub last_added : {X : Type 0} (xs : List X) (x : X) → innermost (xs ++ x ∷ []) ≡ Some x
last_added xs x =
    let one : length (xs ++ x ∷ []) - 1 ≡ length xs = omega (arith, length-append xs (x ∷ [])) in
    ap (λ i. slice_get (xs ++ x ∷ []) i) one ∙ get_seam xs x []

pub front_added : {X : Type 0} (xs : List X) (x : X) → take (length (xs ++ x ∷ []) - 1) (xs ++ x ∷ []) ≡ xs
front_added xs x =
    let one : length (xs ++ x ∷ []) - 1 ≡ length xs = omega (arith, length-append xs (x ∷ [])) in
    ap (λ i. take i (xs ++ x ∷ [])) one ∙ take-append_seam xs (x ∷ [])

-- A block that is set aside goes on when the one in its place ends.

wip_again : (table table1 : List Instruction) (handlers handlers1 : List BlockId) (listed : List InstructionId) (f : Fact)
    → ((number : ℕ) (i : Instruction) → slice_get table number ≡ Some i → slice_get table1 number ≡ Some i) → handlers1 ≡ handlers
    → InWip table handlers listed f → InWip table1 handlers1 listed f
wip_again table table1 handlers handlers1 listed (At place (Runs i)) larger same h =
    record { number = h.number; at = h.at; kept = larger h.number.0 i h.kept }
wip_again table table1 handlers handlers1 listed (At place (Ends t)) larger same h = h
wip_again table table1 handlers handlers1 listed (Catch handler) larger same h =
    (h.0, ap (λ (l : List BlockId). innermost l) same ∙ h.1)

pub aside : (s s2 : State) (wip : WipBlock) (scopes scopes2 : List JumpScope) (handlers handlers2 : List BlockId) (t : Terminal)
    → scopes2 ≡ s.scopes → handlers2 ≡ s.handlers → Extends (set_aside s wip scopes handlers) s2
    → Extends s (completed_by (stacked s2 scopes2 handlers2) t s.current)
aside s s2 wip scopes scopes2 handlers handlers2 t same_scopes same_handlers g = record {
  done = λ id f d. kept_on id f
      (g.done id f (record { place = d.place; block = d.block; found = d.found; named = d.named; holds = d.holds }));
  wip = λ id f w. inr (record { named = w.named; holds = wip_again s.table s2.table s.handlers handlers2 s.current.instructions f g.table same_handlers w.holds });
  table = g.table;
  completed = λ id k. (let later : IsCompleted s2.completed id = g.completed id k in record { place = later.place; block = later.block; found = get_more s2.completed _ later.place later.block later.found; named = later.named });
  current = inl refl;
  entry = g.entry;
  handlers = same_handlers;
  scopes = same_scopes;
  blocks = g.blocks;
  identifiers = g.identifiers;
  names = g.names;
  sound = λ q. g.sound q;
}
  where
    kept_on : (id : ℕ) (f : Fact) → InCompleted s2 id f → InCompleted (completed_by (stacked s2 scopes2 handlers2) t s.current) id f
    kept_on id f d =
        record { place = d.place; block = d.block; found = get_more s2.completed _ d.place d.block d.found; named = d.named; holds = d.holds }

-- A graph that has the facts of a hole's end, under other stacks, has those of the hole.
pub contained_stacked : (s : State) (scopes : List JumpScope) (handlers : List BlockId) (c : Code)
    → (innermost s.handlers ≡ None → innermost handlers ≡ None) → IsContainedIn (stacked s scopes handlers) c → IsContainedIn s c
contained_stacked s scopes handlers c calmer cover = record {
  has = λ id f h. cover.has id f (elim h [
    | inl d ↦ inl (record { place = d.place; block = d.block; found = d.found; named = d.named; holds = d.holds })
    | inr w ↦ inr (record { named = w.named; holds = wip_on f w.holds })
  ]);
  names = cover.names;
}
  where
    wip_on : (f : Fact) → InWip s.table s.handlers s.current.instructions f → InWip s.table handlers s.current.instructions f
    wip_on (At place (Runs i)) h = h
    wip_on (At place (Ends t)) h = h
    wip_on (Catch handler) h = (h.0, calmer h.1)

-- A hole that ended with a jump.

pub contained_hole : (s : State) (behind : ℕ) (variant : GotoVariant) (part : Span) (outer : WipBlock) (c : Code)
    → IsContainedIn (last_hole s behind variant part outer) c → IsContainedIn s c
contained_hole s behind variant part outer c cover =
    contained_before (extends_completed s (goto behind variant part) outer (λ none. refl)) cover

pub hole_goes : (s : State) (behind : ℕ) (variant : GotoVariant) (part : Span) (outer : WipBlock) (c : Code)
    (store : Store) (notes : Notes) (answers : List Answer) (t : Trace) → IsContainedIn (last_hole s behind variant part outer) c
    → TracesAt c behind 0 store notes answers t → TracesFrom c s store notes answers t
hole_goes s behind variant part outer c store notes answers t cover rest =
    goes_on s (goto behind variant part) outer c (record { 0 = behind }) [] store notes answers t refl cover rest

-- A value that is computed silently goes into a fresh identifier, and into others.
pub computes_on : (s : State) (value : InstructionValue) (span : Option Span) (c : Code)
    (store : Store) (notes : Notes) (answers : List Answer) (t : Trace) (v : Value) (into : List ℕ)
    → act (length s.env.identifiers) value store ≡ Computes v into → IsContainedIn (with_value s value span) c
    → TracesFrom c (with_value s value span) (set_each into v store) notes answers t → TracesFrom c s store notes answers t
computes_on s value span c store notes answers t v into acts cover rest =
    push_runs (with_temporary s span) (unordered (temporary s span) value span) c store (set_each into v store) notes answers t
    (λ stuck next place. ap (λ a. executed stuck c a next next s.current.id.0 place store notes answers) acts) cover rest
